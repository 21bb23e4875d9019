use Rattle.std.proofs.Common.{◌≡◌, length, map, set, All, refl, sym, ap, subst, ◌∙◌, arith}
use Rattle.std.proofs.lemmas.List.{length-set}
use Rattle.std.proofs.lemmas.List.Elements.{All-set}
use Rattle.cow_row.specs.RowView.{RowView}
use Rattle.cow_table.specs.Pairs.{Keeps}
use Rattle.cow_members.specs.Members.{MembersView}
use Rattle.cow_members.proofs.Sets.{sound-alike, replaced-same}
use Rattle.cow_members.proofs.members.replace.Given.{Over}
use Rattle.cow_members.proofs.members.replace.Goals as goal

row : (g : Over) (c : goal.After-replace g) → c.replace.new.self ≡ record { items = set c.args.members.now.keys.items c.args.i c.settle.new.self; front = c.args.members.now.keys.front; capacity = c.args.members.now.keys.capacity }
row g c = c.replace.ensures.row ∙ ap (λ (m : MembersView g.row.K.Denot). record { items = set m.keys.items c.args.i c.settle.new.self; front = m.keys.front; capacity = m.keys.capacity }) c.members.view_is

kept : (g : Over) (c : goal.After-replace g) → map g.K.Item.plain c.replace.new.self.items ≡ map g.K.Item.plain c.args.members.now.keys.items
kept g c = ap (λ (r : RowView g.row.K.Denot). map g.K.Item.plain r.items) (row g c) ∙ replaced-same g.K.Item.plain c.args.members.now.keys.items c.args.i c.settle.new.self (g.K.Item.plain c.args.k) c.requires.same c.settle.ensures.same

pub returns-clause-kept : goal.returns-clause-kept
returns-clause-kept g c = kept g c

pub returns-clause-sound : goal.returns-clause-sound
returns-clause-sound g c =
    let v = c.members.view_is in
    let s = c.requires.sound in
    let m = c.args.members.now in
    let long = ap (λ (r : RowView g.row.K.Denot). length r.items) (row g c) ∙ length-set m.keys.items c.args.i c.settle.new.self in
    let capacity = ap (λ (r : RowView g.row.K.Denot). r.capacity) (row g c) in
    let front = ap (λ (r : RowView g.row.K.Denot). r.front) (row g c) in
    let room = ap (λ (m : MembersView g.row.K.Denot). m.table.room) v in
    sound-alike g.K.Item.plain g.K.Key.hash_of g.K.Item.IsSettled m (record { keys = c.replace.new.self; table = c.members.inside.table }) s
    (subst (λ (r : RowView g.row.K.Denot). All g.K.Item.IsSettled r.items) (sym (row g c)) (All-set g.K.Item.IsSettled m.keys.items c.args.i c.settle.new.self c.settle.ensures.settled s.settled))
    (kept g c)
    (subst (λ (n : MembersView g.row.K.Denot). Keeps n.table.pairs c.members.inside.table.pairs) v (record { lookup = λ q. refl; count = refl }))
    (front ∙ s.indexed.front)
    (omega (arith, long, capacity, s.indexed.fits))
    (omega (arith, capacity, room, s.roomy))
