use Rattle.std.proofs.Common.{◌≡◌, ◌++◌, ◌∷◌, [], map, sym, ap, subst, ◌∙◌, arith}
use Rattle.std.specs.List.{sum_by}
use Rattle.std.proofs.lemmas.List.Sums.{sum_by-append, sum_by-cons}
use Rattle.cow_model.proofs.ListSteps.{unit_if-le}
use Rattle.cow_model.specs.Members.{member}
use Rattle.cow_model.specs.Pairs.{value_in}
use Rattle.cow_model.specs.Purse.{Purse}
use Rattle.cow_model.specs.declared.plain.Literal.{Literal}
use Rattle.cow_dict.specs.Dictionaries.{units, takes}
use Rattle.cow_dict.specs.Storages.{listed, pair_of}
use Rattle.cow_dict.proofs.Merges.{merged-new}
use Rattle.cow_members.specs.Members.{MembersView, HasAt}
use Rattle.cow_dict.proofs.Sides.{keys-side}
use Rattle.cow_dict.proofs.algebra.merge_pair.Given.{Over}
use Rattle.cow_dict.proofs.algebra.merge_pair.Goals as goal

pub copy-value-requires-clause-spare : goal.copy-value-requires-clause-spare
copy-value-requires-clause-spare g c =
    omega (arith, ap (λ (h : Purse). h.spare) c.copy-key.ensures.paid, unit_if-le (g.K.Item.is_counted (g.K.Item.plain c.args.k.now)), c.requires.spare)

pub returns-in-Some-clause-same : goal.returns-in-Some-clause-same
returns-in-Some-clause-same g c q =
    c.replace_by.ensures.same (g.K.Item.plain c.args.k.now) q (subst (λ (m : MembersView g.row.K.Denot). HasAt g.K.Item.plain m (g.K.Item.plain c.args.k.now) c.in-Some.i) c.members.ensures c.in-Some.ensures.found)

-- the pairs with the new one last
pushed : (g : Over) (c : goal.After-push g) → listed g.K.Item.plain g.V.Item.plain c.push.new.pairs ≡ listed g.K.Item.plain g.V.Item.plain c.args.pairs.now ++ pair_of (g.K.Item.plain c.args.k.now) (g.V.Item.plain c.args.v.now) ∷ []
pushed g c = c.push.ensures.same
    ∙ ap (λ (a : Literal). listed g.K.Item.plain g.V.Item.plain c.args.pairs.now ++ pair_of a (g.V.Item.plain c.copy-value.result) ∷ []) c.copy-key.ensures.same
    ∙ ap (λ (w : Literal). listed g.K.Item.plain g.V.Item.plain c.args.pairs.now ++ pair_of (g.K.Item.plain c.args.k.now) w ∷ []) c.copy-value.ensures.same

pub returns-in-None-clause-same : goal.returns-in-None-clause-same
returns-in-None-clause-same g c q =
    let plain = g.K.Item.plain in
    let worth = g.V.Item.plain in
    let pairs = c.args.pairs.now in
    ap (value_in q) (pushed g c)
    ∙ merged-new (takes c.args.rule) q (pair_of (plain c.args.k.now) (worth c.args.v.now)) (listed plain worth pairs)
    (ap (member (plain c.args.k.now)) (keys-side (map plain pairs.members.keys.items) (map worth pairs.values.items))
    ∙ ap (λ (m : MembersView g.row.K.Denot). member (plain c.args.k.now) (map plain m.keys.items)) (sym c.members.ensures) ∙ c.in-None.ensures.absent)

pub returns-in-None-clause-balance : goal.returns-in-None-clause-balance
returns-in-None-clause-balance g c =
    let plain = g.K.Item.plain in
    let worth = g.V.Item.plain in
    let f = g.K.Item.is_counted in
    let p = g.V.Item.is_counted in
    let ps = listed plain worth c.args.pairs.now in
    let one = pair_of (plain c.args.k.now) (worth c.args.v.now) in
    omega (
      arith,
      ap (sum_by (units f p)) (pushed g c),
      sum_by-append (units f p) ps (one ∷ []),
      sum_by-cons (units f p) one [],
      ap (λ (h : Purse). h.spare) c.copy-key.ensures.paid,
      ap (λ (h : Purse). h.spare) c.copy-value.ensures.paid,
      unit_if-le (f (plain c.args.k.now)),
      unit_if-le (p (worth c.args.v.now)),
      c.requires.spare,
    )
