use Rattle.std.proofs.Common.{map, sym, ap, subst, ◌∙◌}
use Rattle.cow_model.specs.Members.{member}
use Rattle.cow_members.specs.Members.{MembersView, HasAt}
use Rattle.cow_dict.specs.Storages.{side_by_side, by_key}
use Rattle.cow_dict.proofs.Calls.{map-replaced, map-pushed}
use Rattle.cow_treedict.proofs.distinct.put_pair.Goals as goal

pub returns-in-Some-clause-map : goal.returns-in-Some-clause-map
returns-in-Some-clause-map g c =
    let plain = g.K.Item.plain in
    let worth = g.V.Item.plain in
    let a = plain c.args.pair.0 in
    let xs = c.args.found.now.members.keys.items in
    let there = subst (λ (m : MembersView g.row.K.Denot). HasAt plain m a c.in-Some.i) c.members.ensures c.in-Some.ensures.found in
    ap (λ (m : MembersView g.row.K.Denot). by_key (side_by_side (map plain m.keys.items) (map worth c.replace.new.pairs.values.items))) c.replace.ensures.members
    ∙ ap (λ l. by_key (side_by_side (map plain xs) l)) c.replace.ensures.same
    ∙ map-replaced plain worth xs c.args.found.now.values.items c.requires.whole.sound.apart a (worth c.args.pair.1) c.in-Some.i c.requires.whole.count there

pub returns-in-None-clause-map : goal.returns-in-None-clause-map
returns-in-None-clause-map g c =
    let plain = g.K.Item.plain in
    let worth = g.V.Item.plain in
    let a = plain c.args.pair.0 in
    let absent = ap (λ (m : MembersView g.row.K.Denot). member a (map plain m.keys.items)) (sym c.members.ensures) ∙ c.in-None.ensures.absent in
    ap by_key c.push.ensures.same ∙ map-pushed plain worth c.args.found.now.members.keys.items c.args.found.now.values.items c.requires.whole.sound.apart a (worth c.args.pair.1) absent
