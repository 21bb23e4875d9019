use Rattle.std.proofs.Common.{◌∙◌, map, length, ap, arith}
use Rattle.std.proofs.lemmas.List.{length-map}
use Rattle.cow_model.proofs.CanonCosts.{pairs-collide}
use Rattle.cow_champ.specs.Node.{pair_of}
use Rattle.cow_trim.proofs.Removals.{single}
use Rattle.cow_trim.proofs.collide.CollideTrim.take_only.Goals as goal

pub returns-then-len-ne1-clause-several : goal.returns-then-len-ne1-clause-several
returns-then-len-ne1-clause-several g c = λ e.
    let f = pair_of g.K.Item.plain g.V.Item.plain in
    let n = ap length (pairs-collide (map f c.args.self.now.entries.items)) in
    omega (arith, c.if-len-ne1.true, c.len.ensures, c.args.self.now.entries.ok.0, n, length-map c.args.self.now.entries.items f, e)

pub returns-clause-one : goal.returns-clause-one
returns-clause-one g c =
    let f = pair_of g.K.Item.plain g.V.Item.plain in
    pairs-collide (map f c.args.self.now.entries.items)
    ∙ ap (map f) (single c.args.self.now.entries.items c.remove-key.result (omega (arith, c.if-len-ne1.false, c.len.ensures, c.args.self.now.entries.ok.0)) c.remove-key.ensures.value)
