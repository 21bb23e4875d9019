use Rattle.std.proofs.Common.{◌≡◌, Bool, map, take, true}
use Rattle.std.specs.List.{list_all}
use Rattle.cow_model.specs.declared.plain.Literal.{Literal}
use Rattle.cow_dict.proofs.algebra.all_stay.Given as goal

abbrev pub invariant-loop-i : goal.invariant-loop-i
invariant-loop-i g l = (p : Literal → Bool) → ((k : _) (b : Bool) → goal.F-post g l.keep k b → b ≡ p (g.K.Item.plain k.now)) → list_all p (map g.K.Item.plain (take l.i l.pairs.members.keys.items)) ≡ true
