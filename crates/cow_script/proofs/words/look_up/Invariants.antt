use Rattle.std.proofs.Common.{◌≡◌, drop, map}
use Rattle.cow_model.specs.Words.{look_up}
use Rattle.cow_script.proofs.words.look_up.Given as goal

abbrev pub invariant-loop-entry : goal.invariant-loop-entry
invariant-loop-entry g l = look_up (map (λ entry. (entry.0.now, entry.1)) (drop l.entry-index l.table)) l.token ≡ look_up (map (λ entry. (entry.0.now, entry.1)) l.table) l.token
