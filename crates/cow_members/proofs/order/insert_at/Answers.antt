use Rattle.std.proofs.Common.{◌≡◌, length, map, insert, sym, ap, subst, ◌∙◌, arith}
use Rattle.cow_model.specs.Members.{member}
use Rattle.cow_row.specs.RowView.{RowView}
use Rattle.cow_table.specs.Pairs.{Below, Opens}
use Rattle.cow_members.specs.Members.{MembersView, AreSound}
use Rattle.cow_members.proofs.Listed.{map-insert}
use Rattle.cow_members.proofs.Orders.{looks-below, open-at, sound-opened}
use Rattle.cow_members.proofs.order.insert_at.Given.{Over}
use Rattle.cow_members.proofs.order.insert_at.Goals as goal

pub open_behind-requires-clause-below : goal.open_behind-requires-clause-below
open_behind-requires-clause-below g c =
    let m = c.args.members.now in
    let v = c.members.view_is in
    subst (λ (m : MembersView g.row.K.Denot). Below c.len-count.result m.table.pairs) (sym v)
    (looks-below (λ (k : g.row.K.Denot). g.K.Key.hash_of (g.K.Item.plain k)) m.table.pairs m.keys.items c.requires.sound.indexed.lookup c.len-count.result
    (omega (arith, c.len-count.ensures.value, ap (λ (m : MembersView g.row.K.Denot). length m.keys.items) v)))

pub add-requires-clause-absent : goal.add-requires-clause-absent
add-requires-clause-absent g c =
    open-at (λ (k : g.row.K.Denot). g.K.Key.hash_of (g.K.Item.plain k)) c.args.members.now.table.pairs c.args.members.now.keys.items c.requires.sound.indexed.lookup c.args.i c.open_behind.new.table.pairs
    (subst (λ (m : MembersView g.row.K.Denot). Opens c.args.i m.table.pairs c.open_behind.new.table.pairs) c.members.view_is c.open_behind.ensures.pairs)

row : (g : Over) (c : goal.After-insert g) → c.insert.new.self ≡ record { items = insert c.args.members.now.keys.items c.args.i c.settle.new.self; front = c.args.members.now.keys.front; capacity = c.args.members.now.keys.capacity }
row g c = c.insert.ensures ∙ ap (λ (m : MembersView g.row.K.Denot). record { items = insert m.keys.items c.args.i c.settle.new.self; front = m.keys.front; capacity = m.keys.capacity }) c.members.view_is

pub returns-clause-same : goal.returns-clause-same
returns-clause-same g c =
    ap (λ (r : RowView g.row.K.Denot). map g.K.Item.plain r.items) (row g c) ∙ map-insert g.K.Item.plain c.args.members.now.keys.items c.args.i c.settle.new.self
    ∙ ap (λ a. insert (map g.K.Item.plain c.args.members.now.keys.items) c.args.i a) c.settle.ensures.same

pub returns-clause-sound : goal.returns-clause-sound
returns-clause-sound g c =
    let v = c.members.view_is in
    let k = c.settle.new.self in
    let same = c.settle.ensures.same in
    subst (λ (r : RowView g.row.K.Denot). AreSound g.K.Item.plain g.K.Key.hash_of g.K.Item.IsSettled (record { keys = r; table = c.add.new.self })) (sym (row g c))
    (sound-opened g.K.Item.plain g.K.Key.hash_of g.K.Item.IsSettled c.args.members.now c.args.i k c.args.hash c.open_behind.new.table c.add.new.self c.requires.sound c.settle.ensures.settled
    (c.requires.hash ∙ ap g.K.Key.hash_of (sym same))
    (ap (λ a. member a (map g.K.Item.plain c.args.members.now.keys.items)) same ∙ c.requires.absent)
    c.requires.place c.requires.room c.requires.growth
    (subst (λ (m : MembersView g.row.K.Denot). Opens c.args.i m.table.pairs c.open_behind.new.table.pairs) v c.open_behind.ensures.pairs)
    (c.open_behind.ensures.room ∙ ap (λ (m : MembersView g.row.K.Denot). m.table.room) v)
    c.add.ensures.pairs c.add.ensures.room)
