-- Keys and values side by side, when pairs change their order.
use Rattle.std.proofs.Common.{◌≡◌, ℕ, ◌<◌, ◌+◌, ◌≤◌, ◌^◌, All, length, map, remove, swap, reverse, List, [], ◌∷◌, refl, sym, ap, ◌∙◌, subst, arith}
use Rattle.std.specs.Prelude.{min}
use Rattle.std.proofs.lemmas.List.{length-map}
use Rattle.std.proofs.lemmas.List.Edits.{length-remove, length-swap}
use Rattle.std.proofs.lemmas.List.Sorted.{All-permutation, IsPermutation-swap}
use Rattle.cow_model.proofs.ListSteps.{All-remove}
use Rattle.cow_members.specs.Members.{MembersView, AreSound}
use Rattle.cow_members.proofs.Listed.{map-remove}
use Rattle.cow_row.proofs.Runs.{map-swap, map-reverse}
use Rattle.cow_model.specs.declared.plain.Literal.{Literal}
use Rattle.cow_model.specs.declared.value.Pair.{Pair}
use Rattle.cow_row.specs.RowView.{RowView}
use Rattle.cow_dict.specs.Storages.{PairsView, AreWhole, side_by_side, keys}
use Rattle.cow_dict.proofs.Sides.{keys-side, length-side}

-- the values of pairs
abbrev pub worths : List Pair → List Literal
worths ps = map (λ p. p.value) ps

pub worths-side : (ks vs : List Literal) → length vs ≡ length ks → worths (side_by_side ks vs) ≡ vs
worths-side [] [] e = refl
worths-side [] (v ∷ vs) e = absurd (omega (arith, e))
worths-side (k ∷ ks) [] e = absurd (omega (arith, e))
worths-side (k ∷ ks) (v ∷ vs) e = ap (λ l. v ∷ l) (worths-side ks vs (omega (arith, e)))

side-of : (ps : List Pair) → side_by_side (keys ps) (worths ps) ≡ ps
side-of [] = refl
side-of (p ∷ ps) = ap (λ l. p ∷ l) (side-of ps)

-- pairs are known by their keys and values
pub by-sides : (ps : List Pair) (ks vs : List Literal) → keys ps ≡ ks → worths ps ≡ vs → side_by_side ks vs ≡ ps
by-sides ps ks vs e f = ap (λ l. side_by_side l vs) (sym e) ∙ ap (side_by_side (keys ps)) (sym f) ∙ side-of ps

module _ {K V : Type 0} (plain : K → Literal) (worth : V → Literal) (xs : List K) (ys : List V) (e : length ys ≡ length xs) where
  abbrev listed : List Pair
  listed = side_by_side (map plain xs) (map worth ys)

  first : keys listed ≡ map plain xs
  first = keys-side (map plain xs) (map worth ys)

  second : worths listed ≡ map worth ys
  second = worths-side (map plain xs) (map worth ys) (length-map ys worth ∙ e ∙ sym (length-map xs plain))

  long : length listed ≡ length xs
  long = length-side (map plain xs) (map worth ys) ∙ length-map xs plain

  pub side-removed-at : (i : ℕ) → side_by_side (map plain (remove xs i)) (map worth (remove ys i)) ≡ remove listed i
  side-removed-at i = by-sides (remove listed i) (map plain (remove xs i)) (map worth (remove ys i))
      (map-remove (λ p. p.key) listed i ∙ ap (λ l. remove l i) first ∙ sym (map-remove plain xs i))
      (map-remove (λ p. p.value) listed i ∙ ap (λ l. remove l i) second ∙ sym (map-remove worth ys i))

  pub side-swapped : (i j : ℕ) → i < length xs → j < length xs → side_by_side (map plain (swap xs i j)) (map worth (swap ys i j)) ≡ swap listed i j
  side-swapped i j a b =
      let ai : i < length listed = omega (arith, a, long) in
      let bj : j < length listed = omega (arith, b, long) in
      by-sides (swap listed i j) (map plain (swap xs i j)) (map worth (swap ys i j))
      (map-swap (λ p. p.key) listed i j ai bj ∙ ap (λ l. swap l i j) first ∙ sym (map-swap plain xs i j a b))
      (map-swap (λ p. p.value) listed i j ai bj ∙ ap (λ l. swap l i j) second ∙ sym (map-swap worth ys i j (omega (arith, a, e)) (omega (arith, b, e))))

  pub side-reversed : side_by_side (map plain (reverse xs)) (map worth (reverse ys)) ≡ reverse listed
  side-reversed = by-sides (reverse listed) (map plain (reverse xs)) (map worth (reverse ys))
      (map-reverse (λ p. p.key) listed ∙ ap reverse first ∙ sym (map-reverse plain xs))
      (map-reverse (λ p. p.value) listed ∙ ap reverse second ∙ sym (map-reverse worth ys))

-- the values stand in another order, and the members are sound
module _ {K V : Type 0} (plain : K → Literal) (hash_of : Literal → ℕ) (P : K → Type 0) (S : V → Type 0) (s : PairsView K V) (w : AreWhole plain hash_of P S s) (m : MembersView K) (sound : AreSound plain hash_of P m) (room : m.keys.capacity ≡ s.members.keys.capacity) where
  whole-row : (l : List V) (r : RowView V) → r ≡ record s.values { items = l } → All S l → length l ≡ length m.keys.items → length l ≤ length s.values.items → AreWhole plain hash_of P S (record { members = m; values = r })
  whole-row l r e a n most = subst (λ (v : RowView V). AreWhole plain hash_of P S (record { members = m; values = v })) (sym e) (record {
    sound = sound;
    settled = a;
    count = n;
    front = w.front;
    fits = omega (arith, most, w.fits);
    roomy = subst (λ n. min s.values.capacity (2 ^ 31) ≤ n) (sym room) w.roomy;
  })

  pub whole-removed : (i : ℕ) (r : RowView V) → i < length s.members.keys.items → length m.keys.items + 1 ≡ length s.members.keys.items → r ≡ record s.values { items = remove s.values.items i } → AreWhole plain hash_of P S (record { members = m; values = r })
  whole-removed i r h n e =
      let one : length (remove s.values.items i) + 1 ≡ length s.values.items = length-remove s.values.items i (omega (arith, h, w.count)) in
      whole-row (remove s.values.items i) r e (All-remove S s.values.items i w.settled) (omega (arith, one, n, w.count)) (omega (arith, one))

  pub whole-swapped : (i j : ℕ) (r : RowView V) → i < length s.members.keys.items → j < length s.members.keys.items → length m.keys.items ≡ length s.members.keys.items → r ≡ record s.values { items = swap s.values.items i j } → AreWhole plain hash_of P S (record { members = m; values = r })
  whole-swapped i j r h k n e =
      let ys = s.values.items in
      let same : length (swap ys i j) ≡ length ys = length-swap ys i j in
      whole-row (swap ys i j) r e (All-permutation S ys (swap ys i j) (IsPermutation-swap ys (swap ys i j) i j (omega (arith, h, w.count)) (omega (arith, k, w.count)) refl) w.settled)
      (omega (arith, same, n, w.count)) (omega (arith, same))
