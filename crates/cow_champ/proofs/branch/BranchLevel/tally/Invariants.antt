use Rattle.std.proofs.Common.{◌≡◌, ◌-◌, ◌^◌, Bool, min}
use Rattle.cow_model.specs.Canon.{count_where, spread, slot_pairs}
use Rattle.cow_model.specs.declared.plain.Literal.{Literal}
use Rattle.cow_champ.specs.Node.{slots_of}
use Rattle.cow_champ.proofs.branch.BranchLevel.tally.Given as goal

abbrev pub invariant-loop-d : goal.invariant-loop-d
invariant-loop-d g l = (p : Literal → Literal → Bool) → ((k : _) (v : _) (r : Bool) → goal.F-post g l.test k v r → r ≡ p (g.K.Item.plain k.now) (g.V.Item.plain v.now)) → l.found ≡ min (count_where (λ q. p q.key q.value) (spread l.d (λ x. slot_pairs (slots_of g.K.Item.plain g.V.Item.plain g.C.Level.shape l.self.data l.self.nodes l.self.entries.items l.self.children.items x)))) (2 ^ 64 - 1)
