use Rattle.std.proofs.Common.{◌≡◌, ℕ, length, swap, slice_get, Some, sym, ap, subst, ◌∙◌, arith}
use Rattle.std.specs.Prelude.{option_map}
use Rattle.std.proofs.lemmas.List.Edits.{length-swap}
use Rattle.std.proofs.lemmas.Option.{slice_get_past}
use Rattle.cow_row.specs.RowView.{RowView}
use Rattle.cow_table.specs.Pairs.{hash_at}
use Rattle.cow_members.specs.Members.{MembersView, AreSound}
use Rattle.cow_members.specs.Orders.{Exchanges}
use Rattle.cow_members.proofs.Orders.{sound-swapped, swap-same}
use Rattle.cow_members.proofs.order.swap.Given.{Over}
use Rattle.cow_members.proofs.order.swap.Goals as goal

pub returns-then-i-j-clause-items : goal.returns-then-i-j-clause-items
returns-then-i-j-clause-items g c = sym (ap (λ (j : ℕ). swap c.args.members.now.keys.items c.args.i j) (sym c.if-i-j.true) ∙ swap-same c.args.members.now.keys.items c.args.i c.requires.first)

pub exchange-requires-clause-free : goal.exchange-requires-clause-free
exchange-requires-clause-free g c =
    ap (λ (m : MembersView g.row.K.Denot). hash_at m.table.pairs c.len-free.result) c.members.view_is ∙ c.requires.sound.indexed.lookup c.len-free.result
    ∙ ap (λ o. option_map (λ (k : g.row.K.Denot). g.K.Key.hash_of (g.K.Item.plain k)) o)
    (slice_get_past c.args.members.now.keys.items c.len-free.result (omega (arith, c.len-free.ensures.value, ap (λ (m : MembersView g.row.K.Denot). length m.keys.items) c.members.view_is)))

row : (g : Over) (c : goal.After-swap g) → c.swap.new.self ≡ record { items = swap c.args.members.now.keys.items c.args.i c.args.j; front = c.args.members.now.keys.front; capacity = c.args.members.now.keys.capacity }
row g c = c.swap.ensures ∙ ap (λ (m : MembersView g.row.K.Denot). record { items = swap m.keys.items c.args.i c.args.j; front = m.keys.front; capacity = m.keys.capacity }) c.members.view_is

pub returns-clause-sound : goal.returns-clause-sound
returns-clause-sound g c =
    let v = c.members.view_is in
    let m = c.args.members.now in
    let i = c.args.i in
    let j = c.args.j in
    let x = c.get.result.now in
    let y = c.get-2.result.now in
    let at : slice_get m.keys.items i ≡ Some x = sym (ap (λ (m : MembersView g.row.K.Denot). slice_get m.keys.items i) v) ∙ c.get.ensures in
    let over : slice_get m.keys.items j ≡ Some y = sym (ap (λ (m : MembersView g.row.K.Denot). slice_get m.keys.items j) v) ∙ c.get-2.ensures in
    let hash = λ (k : g.row.K.Denot). g.K.Key.hash_of (g.K.Item.plain k) in
    let pairs = subst (λ (n : ℕ). Exchanges i n j (hash y) m.table.pairs c.exchange.new.table.pairs) c.hash-first.ensures
    (subst (λ (n : ℕ). Exchanges i c.hash-first.result j n m.table.pairs c.exchange.new.table.pairs) c.hash-second.ensures
    (subst (λ (m : MembersView g.row.K.Denot). Exchanges i c.hash-first.result j c.hash-second.result m.table.pairs c.exchange.new.table.pairs) v c.exchange.ensures.pairs)) in
    subst (λ (r : RowView g.row.K.Denot). AreSound g.K.Item.plain g.K.Key.hash_of g.K.Item.IsSettled (record { keys = r; table = c.exchange.new.table })) (sym (row g c))
    (sound-swapped g.K.Item.plain g.K.Key.hash_of g.K.Item.IsSettled m i j x y c.exchange.new.table c.requires.sound at over c.if-i-j.false pairs
    (c.exchange.ensures.room ∙ ap (λ (m : MembersView g.row.K.Denot). m.table.room) v))

pub returns-clause-count : goal.returns-clause-count
returns-clause-count g c = ap (λ (r : RowView g.row.K.Denot). length r.items) (row g c) ∙ length-swap c.args.members.now.keys.items c.args.i c.args.j
