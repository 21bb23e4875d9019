use Rattle.std.proofs.Common.{◌∙◌, ◌<◌, length, map, Some, sym, ap, arith}
use Rattle.std.specs.Prelude.{is_some}
use Rattle.std.proofs.lemmas.Bool.{true≢false}
use Rattle.std.proofs.lemmas.List.{length-map, get_or-map}
use Rattle.cow_model.specs.Canon.{collide, get, is_one}
use Rattle.cow_model.proofs.CanonCosts.{pairs-collide}
use Rattle.cow_champ.specs.Node.{pair_of}
use Rattle.cow_champ.proofs.Changes.{map-remove}
use Rattle.cow_trim.proofs.Removals.{collided_cut}
use Rattle.cow_trim.proofs.collide.CollideTrim.cut_in.Goals as goal

pub unreachable-requires : goal.unreachable-requires
unreachable-requires g c =
    let k = g.E.Equivalent.sought c.args.key.now in
    let ps = map (pair_of g.K.Item.plain g.V.Item.plain) c.args.self.now.entries.items in
    absurd (true≢false (sym c.requires.there ∙ ap (λ qs. is_some (get k qs)) (pairs-collide ps) ∙ ap is_some c.in-None.ensures.absent))

pub returns-clause-value : goal.returns-clause-value
returns-clause-value g c =
    let k = g.E.Equivalent.sought c.args.key.now in
    let ps = map (pair_of g.K.Item.plain g.V.Item.plain) c.args.self.now.entries.items in
    ap (λ e. Some (g.V.Item.plain e.value)) c.remove-key.ensures.value ∙ sym (c.in-Some.ensures.value c.remove-key.result) ∙ sym (ap (get k) (pairs-collide ps))

pub returns-clause-new : goal.returns-clause-new
returns-clause-new g c =
    let k = g.E.Equivalent.sought c.args.key.now in
    let f = pair_of g.K.Item.plain g.V.Item.plain in
    let row = c.args.self.now.entries.items in
    let i = c.in-Some.i in
    let d = c.remove-key.result in
    let within : i < length (map f row) = omega (arith, c.in-Some.ensures.within, length-map row f) in
    ap (λ l. collide (map f l)) c.remove-key.ensures.items ∙ ap collide (map-remove f row i)
    ∙ collided_cut g.K.Key.hash_of k (map f row) c.requires.canonical i within
    (λ x. ap (λ p. is_one p.key k) (get_or-map f row i d x c.in-Some.ensures.within) ∙ c.in-Some.ensures.here d)
