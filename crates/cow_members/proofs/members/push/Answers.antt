use Rattle.std.proofs.Common.{ℕ, ◌++◌, ◌∷◌, [], length, map, sym, ap, subst, ◌∙◌}
use Rattle.cow_model.specs.Members.{member}
use Rattle.cow_row.specs.RowView.{RowView}
use Rattle.cow_table.specs.Pairs.{Gains}
use Rattle.cow_members.specs.Members.{MembersView, AreSound}
use Rattle.cow_members.proofs.Sets.{sound-push}
use Rattle.cow_members.proofs.members.push.Goals as goal

pub returns-clause-sound : goal.returns-clause-sound
returns-clause-sound g c =
    let v = c.members.view_is in
    let k = c.settle.new.self in
    let same = c.settle.ensures.same in
    let row = c.push.ensures ∙ ap (λ (m : MembersView g.row.K.Denot). record { items = m.keys.items ++ k ∷ []; front = m.keys.front; capacity = m.keys.capacity }) v in
    let last = c.len-position.ensures.value ∙ ap (λ (m : MembersView g.row.K.Denot). length m.keys.items) v in
    subst (λ (r : RowView g.row.K.Denot). AreSound g.K.Item.plain g.K.Key.hash_of g.K.Item.IsSettled (record { keys = r; table = c.add.new.self })) (sym row)
    (sound-push g.K.Item.plain g.K.Key.hash_of g.K.Item.IsSettled c.args.members.now k c.add.new.self c.args.hash c.requires.sound c.settle.ensures.settled
    (c.requires.hash ∙ ap g.K.Key.hash_of (sym same))
    (ap (λ a. member a (map g.K.Item.plain c.args.members.now.keys.items)) same ∙ c.requires.absent)
    c.requires.room c.requires.growth
    (subst (λ (m : MembersView g.row.K.Denot). Gains (record { hash = c.args.hash; position = length c.args.members.now.keys.items }) m.table.pairs c.add.new.self.pairs) v
    (subst (λ (p : ℕ). Gains (record { hash = c.args.hash; position = p }) c.members.inside.table.pairs c.add.new.self.pairs) last c.add.ensures.pairs))
    (c.add.ensures.room ∙ ap (λ (m : MembersView g.row.K.Denot). m.table.room) v))
