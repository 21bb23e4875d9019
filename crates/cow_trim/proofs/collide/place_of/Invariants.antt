use Rattle.std.proofs.Common.{◌≡◌, drop, map}
use Rattle.cow_model.specs.Canon.{get}
use Rattle.cow_champ.specs.Node.{pair_of}
use Rattle.cow_trim.proofs.collide.place_of.Given as goal

abbrev pub invariant-loop-i : goal.invariant-loop-i
invariant-loop-i g l =
    let f = pair_of g.K.Item.plain g.V.Item.plain in
    get (g.E.Equivalent.sought l.key) (map f l.row.items) ≡ get (g.E.Equivalent.sought l.key) (map f (drop l.i l.row.items))
