use Rattle.std.proofs.Common.{refl, List, ◌∙◌, sym, ap, map, take, arith}
use Rattle.std.proofs.lemmas.List.{take-map}
use Rattle.cow_model.specs.Members.{member}
use Rattle.cow_model.specs.Purse.{Purse}
use Rattle.cow_members.specs.Members.{listed}
use Rattle.cow_members.proofs.Keys.{plain-at}
use Rattle.cow_members.proofs.Loops.{out-turn, stays-turn, units-exact, front-kept}
use Rattle.cow_members.proofs.algebra.end_unless_kept.Goals as goal
use Rattle.cow_members.specs.Sets.{kept_by}

pub returns-then-not-is_kept-clause-same : goal.returns-then-not-is_kept-clause-same
returns-then-not-is_kept-clause-same g c a q has =
    let e = plain-at g.K.Item.plain c.args.members.now.keys.items c.args.i c.take.result a c.take.ensures.value has in
    let here = plain-at g.K.Item.plain c.args.members.now.keys.items c.args.i c.get.result.now a c.get.ensures has in
    let kept = kept_by c.args.keep (listed g.K.Item.plain c.args.others.now) in
    out-turn g.K.Item.plain c.args.members.now.keys.items c.take.new.members.keys.items c.take.result a c.take.ensures.others c.requires.sound.apart e kept
    (ap kept (sym here) ∙ sym c.is_kept.ensures ∙ c.if-not-is_kept.true) q

pub returns-then-not-is_kept-clause-front : goal.returns-then-not-is_kept-clause-front
returns-then-not-is_kept-clause-front g c =
    take-map g.K.Item.plain c.args.i c.take.new.members.keys.items
    ∙ ap (λ (l : List g.row.K.Denot). map g.K.Item.plain (take c.args.i l)) c.take.ensures.rest
    ∙ ap (λ (l : List g.row.K.Denot). map g.K.Item.plain l) (front-kept c.args.members.now.keys.items c.args.i c.take.result c.requires.within)
    ∙ sym (take-map g.K.Item.plain c.args.i c.args.members.now.keys.items)

pub returns-then-not-is_kept-clause-balance : goal.returns-then-not-is_kept-clause-balance
returns-then-not-is_kept-clause-balance g c =
    omega (
      arith,
      ap (λ (h : Purse). h.spare) c.end.ensures,
      units-exact g.K.Item.plain c.args.members.now.keys.items c.take.new.members.keys.items c.take.result (g.K.Item.plain c.take.result) c.take.ensures.others c.requires.sound.apart refl g.K.Item.is_counted,
    )

pub returns-else-not-is_kept-clause-same : goal.returns-else-not-is_kept-clause-same
returns-else-not-is_kept-clause-same g c a q has =
    let here = plain-at g.K.Item.plain c.args.members.now.keys.items c.args.i c.get.result.now a c.get.ensures has in
    let kept = kept_by c.args.keep (listed g.K.Item.plain c.args.others.now) in
    stays-turn (member q (listed g.K.Item.plain c.args.members.now)) a q kept (ap kept (sym here) ∙ sym c.is_kept.ensures ∙ c.if-not-is_kept.false)
