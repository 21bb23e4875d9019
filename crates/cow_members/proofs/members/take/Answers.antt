use Rattle.std.proofs.Common.{◌≡◌, ℕ, ◌+◌, ◌<◌, List, ◌++◌, ◌∷◌, [], length, set, slice_get, Some, sym, ap, subst, ◌∙◌, arith, IsPermutation}
use Rattle.std.specs.Prelude.{option_map}
use Rattle.std.specs.List.{swap_remove}
use Rattle.std.proofs.lemmas.List.{length_push, length-set}
use Rattle.std.proofs.lemmas.Option.{slice_get_within}
use Rattle.cow_row.specs.RowView.{RowView}
use Rattle.cow_table.specs.Pairs.{hash_at, Renames}
use Rattle.cow_members.specs.Members.{MembersView, IsIndexed}
use Rattle.cow_members.proofs.Lookups.{others-last, others-swap, kept-value, looks-last, last-there, looks-moved, taken-last, taken-other}
use Rattle.cow_members.proofs.Sets.{sound-out}
use Rattle.cow_members.proofs.members.take.Given.{Over}
use Rattle.cow_members.proofs.members.take.Goals as goal

-- ---- the removed key was the last one
whole-end : (g : Over) (c : goal.Then-i-end g) → c.args.members.now.keys.items ≡ c.pop.new.self.items ++ c.in-Some.k ∷ []
whole-end g c = sym (ap (λ (m : MembersView g.row.K.Denot). m.keys.items) c.members.view_is) ∙ c.in-Some.ensures.value

looks-end : (g : Over) (c : goal.Then-i-end g) (q : ℕ) → hash_at c.members.inside.table.pairs q ≡ option_map (λ (k : g.row.K.Denot). g.K.Key.hash_of (g.K.Item.plain k)) (slice_get (c.pop.new.self.items ++ c.in-Some.k ∷ []) q)
looks-end g c q = ap (λ (m : MembersView g.row.K.Denot). hash_at m.table.pairs q) c.members.view_is ∙ c.requires.sound.indexed.lookup q
    ∙ ap (λ (l : List g.row.K.Denot). option_map (λ (k : g.row.K.Denot). g.K.Key.hash_of (g.K.Item.plain k)) (slice_get l q)) (whole-end g c)

others-end : (g : Over) (c : goal.Then-i-end g) → IsPermutation c.args.members.now.keys.items (c.in-Some.k ∷ c.pop.new.self.items)
others-end g c = subst (λ (l : List g.row.K.Denot). IsPermutation l (c.in-Some.k ∷ c.pop.new.self.items)) (sym (whole-end g c)) (others-last c.pop.new.self.items c.in-Some.k)

pub returns-then-i-end-clause-others : goal.returns-then-i-end-clause-others
returns-then-i-end-clause-others g c = others-end g c

pub returns-then-i-end-clause-rest : goal.returns-then-i-end-clause-rest
returns-then-i-end-clause-rest g c =
    sym (ap (λ (i : ℕ). swap_remove c.args.members.now.keys.items i c.in-Some.k) (c.if-i-end.true ∙ c.len-end.ensures.value)
    ∙ ap (λ (l : List g.row.K.Denot). swap_remove l (length c.pop.new.self.items) c.in-Some.k) (whole-end g c) ∙ taken-last c.pop.new.self.items c.in-Some.k c.in-Some.k)

pub returns-then-i-end-clause-sound : goal.returns-then-i-end-clause-sound
returns-then-i-end-clause-sound g c =
    let v = c.members.view_is in
    let s = c.requires.sound in
    let long = ap length (whole-end g c) ∙ length_push c.pop.new.self.items c.in-Some.k in
    let table = ap (λ (m : MembersView g.row.K.Denot). length m.table.pairs) v in
    let front = ap (λ (m : MembersView g.row.K.Denot). m.keys.front) v in
    let capacity = ap (λ (m : MembersView g.row.K.Denot). m.keys.capacity) v in
    let room = ap (λ (m : MembersView g.row.K.Denot). m.table.room) v in
    sound-out g.K.Item.plain g.K.Key.hash_of g.K.Item.IsSettled c.args.members.now (record { keys = c.pop.new.self; table = c.remove_at.new.self }) c.in-Some.k s (others-end g c)
    (record {
      lookup = looks-last (λ (k : g.row.K.Denot). g.K.Key.hash_of (g.K.Item.plain k)) c.members.inside.table.pairs c.pop.new.self.items c.in-Some.k c.args.i (looks-end g c) c.remove_at.new.self.pairs c.remove_at.ensures.pairs (omega (arith, c.if-i-end.true, c.len-end.ensures.value));
      count = omega (arith, long, table, s.indexed.count, c.remove_at.ensures.pairs.count);
      front = c.in-Some.ensures.front ∙ front ∙ s.indexed.front;
      fits = omega (arith, long, capacity, c.in-Some.ensures.capacity, s.indexed.fits);
      small = omega (arith, long, s.indexed.small);
    })
    (c.in-Some.ensures.capacity ∙ capacity) (c.remove_at.ensures.room ∙ ap (λ (n : ℕ). n + 1) room)

-- ---- it was another
whole : (g : Over) (c : goal.After-replace g) → c.args.members.now.keys.items ≡ c.pop.new.self.items ++ c.in-Some.k ∷ []
whole g c = sym (ap (λ (m : MembersView g.row.K.Denot). m.keys.items) c.members.view_is) ∙ c.in-Some.ensures.value

looks : (g : Over) (c : goal.After-replace g) (q : ℕ) → hash_at c.members.inside.table.pairs q ≡ option_map (λ (k : g.row.K.Denot). g.K.Key.hash_of (g.K.Item.plain k)) (slice_get (c.pop.new.self.items ++ c.in-Some.k ∷ []) q)
looks g c q = ap (λ (m : MembersView g.row.K.Denot). hash_at m.table.pairs q) c.members.view_is ∙ c.requires.sound.indexed.lookup q
    ∙ ap (λ (l : List g.row.K.Denot). option_map (λ (k : g.row.K.Denot). g.K.Key.hash_of (g.K.Item.plain k)) (slice_get l q)) (whole g c)

looks-before : (g : Over) (c : goal.After-hash g) (q : ℕ) → hash_at c.members.inside.table.pairs q ≡ option_map (λ (k : g.row.K.Denot). g.K.Key.hash_of (g.K.Item.plain k)) (slice_get (c.pop.new.self.items ++ c.in-Some.k ∷ []) q)
looks-before g c q = ap (λ (m : MembersView g.row.K.Denot). hash_at m.table.pairs q) c.members.view_is ∙ c.requires.sound.indexed.lookup q
    ∙ ap (λ (l : List g.row.K.Denot). option_map (λ (k : g.row.K.Denot). g.K.Key.hash_of (g.K.Item.plain k)) (slice_get l q)) (sym (ap (λ (m : MembersView g.row.K.Denot). m.keys.items) c.members.view_is) ∙ c.in-Some.ensures.value)

pub rename-requires-clause-there : goal.rename-requires-clause-there
rename-requires-clause-there g c =
    let end = c.len-end.ensures.value in
    ap (λ q. hash_at c.remove_at.new.self.pairs q) end
    ∙ last-there (λ (k : g.row.K.Denot). g.K.Key.hash_of (g.K.Item.plain k)) c.members.inside.table.pairs c.pop.new.self.items c.in-Some.k c.args.i (looks-before g c) c.remove_at.new.self.pairs c.remove_at.ensures.pairs (λ e. c.if-i-end.false (e ∙ sym end))
    ∙ ap (λ (h : ℕ). Some h) (sym c.hash.ensures)

pub returns-clause-value : goal.returns-clause-value
returns-clause-value g c =
    ap (λ (l : List g.row.K.Denot). slice_get l c.args.i) (whole g c)
    ∙ kept-value c.pop.new.self.items c.in-Some.k c.replace.result c.args.i (λ e. c.if-i-end.false (e ∙ sym c.len-end.ensures.value)) (subst (λ (l : List g.row.K.Denot). c.args.i < length l) (whole g c) c.requires.within) c.replace.ensures.value

others : (g : Over) (c : goal.After-replace g) → IsPermutation c.args.members.now.keys.items (c.replace.result ∷ c.replace.new.self.items)
others g c =
    subst (λ (r : RowView g.row.K.Denot). IsPermutation c.args.members.now.keys.items (c.replace.result ∷ r.items)) (sym c.replace.ensures.row)
    (subst (λ (l : List g.row.K.Denot). IsPermutation l (c.replace.result ∷ set c.pop.new.self.items c.args.i c.in-Some.k)) (sym (whole g c)) (others-swap c.pop.new.self.items c.in-Some.k c.replace.result c.args.i c.replace.ensures.value))

pub returns-clause-others : goal.returns-clause-others
returns-clause-others g c = others g c

pub returns-clause-rest : goal.returns-clause-rest
returns-clause-rest g c =
    ap (λ (r : RowView g.row.K.Denot). r.items) c.replace.ensures.row
    ∙ sym (ap (λ (l : List g.row.K.Denot). swap_remove l c.args.i c.replace.result) (whole g c)
    ∙ taken-other c.pop.new.self.items c.in-Some.k c.replace.result c.args.i (slice_get_within c.pop.new.self.items c.args.i c.replace.result c.replace.ensures.value))

indexed : (g : Over) (c : goal.After-replace g) → IsIndexed (λ (k : g.row.K.Denot). g.K.Key.hash_of (g.K.Item.plain k)) (record { keys = c.replace.new.self; table = c.rename.new.self })
indexed g c =
    let v = c.members.view_is in
    let s = c.requires.sound in
    let long = ap length (whole g c) ∙ length_push c.pop.new.self.items c.in-Some.k in
    let kept = length-set c.pop.new.self.items c.args.i c.in-Some.k in
    let table = ap (λ (m : MembersView g.row.K.Denot). length m.table.pairs) v in
    let front = ap (λ (m : MembersView g.row.K.Denot). m.keys.front) v in
    let capacity = ap (λ (m : MembersView g.row.K.Denot). m.keys.capacity) v in
    subst (λ (r : RowView g.row.K.Denot). IsIndexed (λ (k : g.row.K.Denot). g.K.Key.hash_of (g.K.Item.plain k)) (record { keys = r; table = c.rename.new.self })) (sym c.replace.ensures.row)
    (record {
      lookup = looks-moved (λ (k : g.row.K.Denot). g.K.Key.hash_of (g.K.Item.plain k)) c.members.inside.table.pairs c.pop.new.self.items c.in-Some.k c.args.i (looks g c) c.remove_at.new.self.pairs c.remove_at.ensures.pairs c.rename.new.self.pairs
          (slice_get_within c.pop.new.self.items c.args.i c.replace.result c.replace.ensures.value)
          (subst (λ q. Renames q (length c.pop.new.self.items) c.args.i c.remove_at.new.self.pairs c.rename.new.self.pairs) c.hash.ensures
          (subst (λ q. Renames c.hash.result q c.args.i c.remove_at.new.self.pairs c.rename.new.self.pairs) c.len-end.ensures.value c.rename.ensures.pairs));
      count = omega (arith, long, kept, table, s.indexed.count, c.remove_at.ensures.pairs.count, c.rename.ensures.pairs.count);
      front = c.in-Some.ensures.front ∙ front ∙ s.indexed.front;
      fits = omega (arith, long, kept, capacity, c.in-Some.ensures.capacity, s.indexed.fits);
      small = omega (arith, long, kept, s.indexed.small);
    })

pub returns-clause-sound : goal.returns-clause-sound
returns-clause-sound g c =
    let v = c.members.view_is in
    let capacity = ap (λ (m : MembersView g.row.K.Denot). m.keys.capacity) v in
    let room = ap (λ (m : MembersView g.row.K.Denot). m.table.room) v in
    sound-out g.K.Item.plain g.K.Key.hash_of g.K.Item.IsSettled c.args.members.now (record { keys = c.replace.new.self; table = c.rename.new.self }) c.replace.result c.requires.sound (others g c) (indexed g c)
    (ap (λ (r : RowView g.row.K.Denot). r.capacity) c.replace.ensures.row ∙ c.in-Some.ensures.capacity ∙ capacity)
    (c.rename.ensures.room ∙ c.remove_at.ensures.room ∙ ap (λ (n : ℕ). n + 1) room)
