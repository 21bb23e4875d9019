use Rattle.std.proofs.Common.{sym, ap, ◌∙◌, subst, arith}
use Rattle.cow_treeset.proofs.Tries.{empty-size, empty-canonical, empty-set}
use Rattle.cow_treeset.proofs.set.TreeSet.new.Goals as goal

pub invariant_of-result : goal.invariant_of-result
invariant_of-result g c =
    let made = c.in-Ok.ensures.made.value in
    let s = ap g.C.Level.shape made ∙ c.in_ok-node.ensures.shape in
    (c.requires.root, c.requires.stacked, subst g.C.Level.IsWhole (sym made) c.in_ok-node.ensures.whole, empty-canonical g.K.Key.hash_of g.C.Level.LEVEL (g.C.Level.shape c.in-Ok.root.value) s, empty-size g.K.Key.hash_of g.C.Level.LEVEL (g.C.Level.shape c.in-Ok.root.value) s, omega arith)

pub returns-in-Ok-clause-ok : goal.returns-in-Ok-clause-ok
returns-in-Ok-clause-ok g c =
    let s = ap g.C.Level.shape c.in-Ok.ensures.made.value ∙ c.in_ok-node.ensures.shape in
    record { value = empty-set g.K.Key.hash_of g.C.Level.LEVEL (g.C.Level.shape c.in-Ok.root.value) s; alone = c.in-Ok.ensures.made.alone }
