use Rattle.std.proofs.Common.{map, sym, ap, subst, ◌∙◌}
use Rattle.cow_members.specs.Members.{MembersView, HasAt}
use Rattle.cow_model.specs.Members.{member}
use Rattle.cow_dict.specs.Dictionaries.{is_value}
use Rattle.cow_dict.proofs.Calls.{value-there, value-lacks}
use Rattle.cow_dict.proofs.Questions.{told}
use Rattle.cow_dict.proofs.algebra.has_pair.Goals as goal

pub returns-in-Some : goal.returns-in-Some
returns-in-Some g c =
    let plain = g.K.Item.plain in
    let worth = g.V.Item.plain in
    let pairs = c.args.pairs.now in
    told c.same.result (worth c.args.v.now) (worth c.value_at.result.now) c.same.ensures.0 c.same.ensures.1
    ∙ sym (ap (is_value (worth c.args.v.now)) (value-there plain worth pairs.members.keys.items pairs.values.items c.requires.sound.apart (plain c.args.k.now) c.in-Some.i c.value_at.result.now
    (subst (λ (m : MembersView g.row.K.Denot). HasAt plain m (plain c.args.k.now) c.in-Some.i) c.members.ensures c.in-Some.ensures.found) c.value_at.ensures))

pub returns-in-None : goal.returns-in-None
returns-in-None g c =
    let plain = g.K.Item.plain in
    let worth = g.V.Item.plain in
    let pairs = c.args.pairs.now in
    sym (ap (is_value (worth c.args.v.now)) (value-lacks plain worth pairs.members.keys.items pairs.values.items c.requires.sound.apart (plain c.args.k.now)
    (ap (λ (m : MembersView g.row.K.Denot). member (plain c.args.k.now) (map plain m.keys.items)) (sym c.members.ensures) ∙ c.in-None.ensures.absent)))
