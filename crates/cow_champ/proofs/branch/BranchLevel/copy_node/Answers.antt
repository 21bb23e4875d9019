-- The copy has the maps, the pairs and the children of the node.
use Rattle.std.proofs.Common.{◌≡◌, ◌∙◌, map, length, List, sym, ap, refl, subst, All, arith, false}
use Rattle.cow_champ.proofs.Copies.{copied_slots, copied_fits, copied_children, copied_own}
use Rattle.cow_champ.proofs.branch.BranchLevel.copy_node.Goals as goal

pub returns-clause-whole : goal.returns-clause-whole
returns-clause-whole g c = (
  copied_fits g.K.Item.plain g.V.Item.plain g.C.Level.shape g.C.Level.IsWhole _ _ _ _ _ _ c.in_ok-entries.ensures.pairs c.in-Ok.ensures.same c.requires.whole.0,
  c.in_ok-entries.ensures.settled,
  copied_children g.K.Item.plain g.V.Item.plain g.C.Level.shape g.C.Level.IsWhole c.args.self.now.data c.args.self.now.nodes _ _ _ _ c.in_ok-entries.ensures.pairs c.in-Ok.ensures.same c.requires.whole.2 c.in-Ok.ensures.settled,
)

pub returns-clause-shape : goal.returns-clause-shape
returns-clause-shape g c =
    copied_slots g.K.Item.plain g.V.Item.plain g.C.Level.shape g.C.Level.IsWhole _ _ _ _ _ _ c.in_ok-entries.ensures.pairs c.in-Ok.ensures.same
