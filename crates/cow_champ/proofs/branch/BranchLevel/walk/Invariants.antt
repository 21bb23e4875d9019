use Rattle.cow_model.specs.Canon.{spread, slot_pairs}
use Rattle.cow_champ.specs.Node.{seen_pair, SeenSettled, slots_of}
use Rattle.cow_champ.specs.Words.{Appends}
use Rattle.cow_champ.proofs.branch.BranchLevel.walk.Given as goal

abbrev pub invariant-loop-d : goal.invariant-loop-d
invariant-loop-d g l = Appends (seen_pair g.K.Item.plain g.V.Item.plain) (SeenSettled g.K.Item.IsSettled g.V.Item.IsSettled) (spread l.d (λ x. slot_pairs (slots_of g.K.Item.plain g.V.Item.plain g.C.Level.shape l.self.data l.self.nodes l.self.entries.items l.self.children.items x))) l.fn.into.items l.into.items
