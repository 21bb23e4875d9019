use Rattle.std.proofs.Common.{◌≡◌, ◌+◌, length, remove, slice_get, Some, sym, ap, subst, ◌∙◌, arith}
use Rattle.std.proofs.lemmas.List.Edits.{length-remove}
use Rattle.cow_row.specs.RowView.{RowView}
use Rattle.cow_table.specs.Pairs.{Loses}
use Rattle.cow_members.specs.Members.{MembersView, AreSound}
use Rattle.cow_members.proofs.Orders.{gone-at, gone-below, sound-closed}
use Rattle.cow_members.proofs.order.remove_at.Goals as goal

pub close_behind-requires-clause-absent : goal.close_behind-requires-clause-absent
close_behind-requires-clause-absent g c =
    let loses : Loses c.args.i c.args.members.now.table.pairs c.remove_at.new.self.pairs = subst (λ (m : MembersView g.row.K.Denot). Loses c.args.i m.table.pairs c.remove_at.new.self.pairs) c.members.view_is c.remove_at.ensures.pairs in
    gone-at (λ (k : g.row.K.Denot). g.K.Key.hash_of (g.K.Item.plain k)) c.args.members.now.table.pairs c.args.members.now.keys.items c.requires.sound.indexed.lookup c.args.i c.remove_at.new.self.pairs loses

pub close_behind-requires-clause-below : goal.close_behind-requires-clause-below
close_behind-requires-clause-below g c =
    let row : c.remove-key.new.self ≡ record { items = remove c.args.members.now.keys.items c.args.i; front = c.args.members.now.keys.front; capacity = c.args.members.now.keys.capacity } = c.remove-key.ensures.row ∙ ap (λ (m : MembersView g.row.K.Denot). record { items = remove m.keys.items c.args.i; front = m.keys.front; capacity = m.keys.capacity }) c.members.view_is in
    let loses : Loses c.args.i c.args.members.now.table.pairs c.remove_at.new.self.pairs = subst (λ (m : MembersView g.row.K.Denot). Loses c.args.i m.table.pairs c.remove_at.new.self.pairs) c.members.view_is c.remove_at.ensures.pairs in
    gone-below (λ (k : g.row.K.Denot). g.K.Key.hash_of (g.K.Item.plain k)) c.args.members.now.table.pairs c.args.members.now.keys.items c.requires.sound.indexed.lookup c.args.i c.remove_at.new.self.pairs loses
    (c.len-count.result + 1) (omega (arith, ap (λ (r : RowView g.row.K.Denot). length r.items) row, length-remove c.args.members.now.keys.items c.args.i c.requires.within, c.len-count.ensures.value))

pub returns-clause-sound : goal.returns-clause-sound
returns-clause-sound g c =
    let row : c.remove-key.new.self ≡ record { items = remove c.args.members.now.keys.items c.args.i; front = c.args.members.now.keys.front; capacity = c.args.members.now.keys.capacity } = c.remove-key.ensures.row ∙ ap (λ (m : MembersView g.row.K.Denot). record { items = remove m.keys.items c.args.i; front = m.keys.front; capacity = m.keys.capacity }) c.members.view_is in
    let loses : Loses c.args.i c.args.members.now.table.pairs c.remove_at.new.self.pairs = subst (λ (m : MembersView g.row.K.Denot). Loses c.args.i m.table.pairs c.remove_at.new.self.pairs) c.members.view_is c.remove_at.ensures.pairs in
    let v = c.members.view_is in
    let m = c.args.members.now in
    let value : slice_get m.keys.items c.args.i ≡ Some c.remove-key.result = sym (ap (λ (m : MembersView g.row.K.Denot). slice_get m.keys.items c.args.i) v) ∙ c.remove-key.ensures.value in
    subst (λ (r : RowView g.row.K.Denot). AreSound g.K.Item.plain g.K.Key.hash_of g.K.Item.IsSettled (record { keys = r; table = c.close_behind.new.table })) (sym row)
    (sound-closed g.K.Item.plain g.K.Key.hash_of g.K.Item.IsSettled m c.args.i c.remove-key.result c.remove_at.new.self c.close_behind.new.table c.requires.sound value loses
    (c.remove_at.ensures.room ∙ ap (λ (m : MembersView g.row.K.Denot). m.table.room + 1) v) c.close_behind.ensures.pairs c.close_behind.ensures.room)

pub returns-clause-count : goal.returns-clause-count
returns-clause-count g c =
    let row : c.remove-key.new.self ≡ record { items = remove c.args.members.now.keys.items c.args.i; front = c.args.members.now.keys.front; capacity = c.args.members.now.keys.capacity } = c.remove-key.ensures.row ∙ ap (λ (m : MembersView g.row.K.Denot). record { items = remove m.keys.items c.args.i; front = m.keys.front; capacity = m.keys.capacity }) c.members.view_is in
    omega (arith, ap (λ (r : RowView g.row.K.Denot). length r.items) row, length-remove c.args.members.now.keys.items c.args.i c.requires.within)
