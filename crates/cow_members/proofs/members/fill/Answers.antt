use Rattle.std.proofs.Common.{◌≡◌, List, ◌++◌, length, map, take, drop, sym, ap, subst, ◌∙◌, arith}
use Rattle.std.proofs.lemmas.List.{take_all}
use Rattle.cow_table.specs.Pairs.{Keeps}
use Rattle.cow_members.specs.Members.{MembersView}
use Rattle.cow_members.proofs.Sets.{sound-alike}
use Rattle.cow_members.proofs.members.fill.Goals as goal

pub returns-clause-sound : goal.returns-clause-sound
returns-clause-sound g c =
    let v = c.members.view_is in
    let w = c.from.view_is in
    let s = c.requires.sound in
    let b = c.requires.blank in
    let from = ap (λ (m : MembersView g.row.K.Denot). length m.keys.items) w in
    let none = ap (λ (m : MembersView g.row.K.Denot). m.keys.items) v ∙ b.empty in
    let empty = ap (λ (l : List g.row.K.Denot). length l) none in
    let front = ap (λ (m : MembersView g.row.K.Denot). m.keys.front) v in
    let capacity = ap (λ (m : MembersView g.row.K.Denot). m.keys.capacity) v in
    let room = ap (λ (m : MembersView g.row.K.Denot). m.table.room) v in
    let same : map g.K.Item.plain c.copy_run.new.to.items ≡ map g.K.Item.plain c.args.from.now.keys.items
    = c.copy_run.ensures.same
    ∙ ap (λ (l : List g.row.K.Denot). map g.K.Item.plain l ++ map g.K.Item.plain (take c.len-count.result (drop 0 c.from.inside.keys.items))) none
    ∙ ap (λ (l : List g.row.K.Denot). map g.K.Item.plain l) (take_all c.len-count.result c.from.inside.keys.items (omega (arith, c.len-count.ensures.value)))
    ∙ ap (λ (m : MembersView g.row.K.Denot). map g.K.Item.plain m.keys.items) w in
    let count = c.copy_run.ensures.count in
    let long = c.len-count.ensures.value in
    sound-alike g.K.Item.plain g.K.Key.hash_of g.K.Item.IsSettled c.args.from.now (record { keys = c.copy_run.new.to; table = c.members.inside.table }) s
    c.copy_run.ensures.settled same
    (subst (λ (m : MembersView g.row.K.Denot). Keeps c.args.from.now.table.pairs m.table.pairs) (sym v) b.pairs)
    (c.copy_run.ensures.front ∙ front ∙ b.front)
    (omega (arith, from, empty, capacity, count, long, c.copy_run.ensures.capacity, c.requires.room))
    (omega (arith, capacity, room, c.copy_run.ensures.capacity, b.roomy))
