use Rattle.std.proofs.Common.{◌≡◌, ◌+◌, [], ◌∷◌, length, map, set, slice_get, Some, count_by, sym, ap, ◌∙◌, arith}
use Rattle.std.specs.Prelude.{option_map}
use Rattle.std.specs.List.{sum_by}
use Rattle.std.proofs.lemmas.List.{length-map}
use Rattle.std.proofs.lemmas.Option.{slice_get-map}
use Rattle.cow_members.proofs.Sets.{member-at}
use Rattle.cow_members.specs.Members.{MembersView}
use Rattle.cow_model.proofs.ListSteps.{unit_if-le}
use Rattle.cow_model.specs.Members.{member}
use Rattle.cow_model.specs.Pairs.{value_in}
use Rattle.cow_model.specs.Purse.{Purse}
use Rattle.cow_dict.specs.Dictionaries.{merged, takes, units}
use Rattle.cow_dict.specs.Storages.{listed, pair_of, side_by_side}
use Rattle.cow_dict.specs.declared.rule.Merge.{Merge}
use Rattle.cow_dict.proofs.Merges.{merged-take, merged-keep}
use Rattle.cow_dict.proofs.Sides.{keys-side, value-set, units_side, count-set}
use Rattle.cow_dict.proofs.algebra.replace_by.Given.{Over}
use Rattle.cow_dict.proofs.algebra.replace_by.Goals as goal

-- the values with the copy among them
values : (g : Over) (c : goal.After-end g) → map g.V.Item.plain c.replace.new.pairs.values.items ≡ set (map g.V.Item.plain c.args.pairs.now.values.items) c.args.i (g.V.Item.plain c.args.v.now)
values g c = c.replace.ensures.same ∙ ap (λ w. set (map g.V.Item.plain c.args.pairs.now.values.items) c.args.i w) c.copy.ensures.same

pub returns-in-Take-clause-same : goal.returns-in-Take-clause-same
returns-in-Take-clause-same g c a q has =
    let plain = g.K.Item.plain in
    let worth = g.V.Item.plain in
    let pairs = c.args.pairs.now in
    let ks = map plain pairs.members.keys.items in
    let vs = map worth pairs.values.items in
    ap (λ (m : MembersView g.row.K.Denot). value_in q (side_by_side (map plain m.keys.items) (map worth c.replace.new.pairs.values.items))) c.replace.ensures.members
    ∙ ap (λ l. value_in q (side_by_side ks l)) (values g c)
    ∙ value-set ks vs c.args.i a (worth c.args.v.now) c.requires.whole.sound.apart (length-map pairs.values.items worth ∙ c.requires.whole.count ∙ sym (length-map pairs.members.keys.items plain))
    (slice_get-map plain pairs.members.keys.items c.args.i ∙ has) q
    ∙ merged-take q a (worth c.args.v.now) (value_in q (side_by_side ks vs))
    ∙ ap (λ (r : Merge). merged (takes r) (value_in q (pair_of a (worth c.args.v.now) ∷ [])) (value_in q (side_by_side ks vs))) (sym c.in-Take.is)

pub returns-in-Keep-clause-same : goal.returns-in-Keep-clause-same
returns-in-Keep-clause-same g c a q has =
    let plain = g.K.Item.plain in
    let worth = g.V.Item.plain in
    let pairs = c.args.pairs.now in
    let ks = map plain pairs.members.keys.items in
    let vs = map worth pairs.values.items in
    merged-keep q a (worth c.args.v.now) (side_by_side ks vs) (ap (member a) (keys-side ks vs) ∙ member-at plain pairs.members.keys.items a c.args.i has)
    ∙ ap (λ (r : Merge). merged (takes r) (value_in q (pair_of a (worth c.args.v.now) ∷ [])) (value_in q (side_by_side ks vs))) (sym c.in-Keep.is)

pub returns-in-Take-clause-balance : goal.returns-in-Take-clause-balance
returns-in-Take-clause-balance g c =
    let plain = g.K.Item.plain in
    let worth = g.V.Item.plain in
    let f = g.K.Item.is_counted in
    let p = g.V.Item.is_counted in
    let pairs = c.args.pairs.now in
    let ks = map plain pairs.members.keys.items in
    let vs = map worth pairs.values.items in
    let w = worth c.args.v.now in
    let n : length vs ≡ length ks = length-map pairs.values.items worth ∙ c.requires.whole.count ∙ sym (length-map pairs.members.keys.items plain) in
    let m : length (set vs c.args.i w) ≡ length ks = ap length (sym (values g c)) ∙ length-map c.replace.new.pairs.values.items worth ∙ c.replace.ensures.whole.count
    ∙ ap (λ (m : MembersView g.row.K.Denot). length m.keys.items) c.replace.ensures.members ∙ sym (length-map pairs.members.keys.items plain) in
    let at : slice_get vs c.args.i ≡ Some (worth c.replace.result) = slice_get-map worth pairs.values.items c.args.i ∙ ap (λ o. option_map worth o) c.replace.ensures.value in
    let now : sum_by (units f p) (listed plain worth c.replace.new.pairs) ≡ count_by f ks + count_by p (set vs c.args.i w)
    = ap (λ (m : MembersView g.row.K.Denot). sum_by (units f p) (side_by_side (map plain m.keys.items) (map worth c.replace.new.pairs.values.items))) c.replace.ensures.members
    ∙ ap (λ l. sum_by (units f p) (side_by_side ks l)) (values g c) ∙ units_side f p ks (set vs c.args.i w) m in
    omega (
      arith,
      now,
      units_side f p ks vs n,
      count-set p vs c.args.i (worth c.replace.result) w at,
      ap (λ (h : Purse). h.spare) c.copy.ensures.paid,
      ap (λ (h : Purse). h.spare) c.end.ensures,
      unit_if-le (p w),
      c.requires.spare,
    )
