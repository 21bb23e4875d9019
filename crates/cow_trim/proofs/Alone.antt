-- A branch without children has the pairs of its entries.
use Rattle.std.proofs.Common.{◌≡◌, ℕ, zero, suc, ◌<◌, ◌≤◌, eqb, false, List, [], ◌∷◌, ◌++◌, map, length, get_or, take, Some, inl, inr, refl, sym, ap, ◌∙◌, arith, ne_eqb, eqb-true}
use Rattle.std.specs.Int.{bit_at}
use Rattle.std.proofs.lemmas.Bool.{cases_Bool}
use Rattle.std.proofs.lemmas.List.{length-map, take_more, take_all, append-nil}
use Rattle.std.proofs.lemmas.Option.{slice_get-get_or}
use Rattle.cow_model.specs.declared.value.Pair.{Pair}
use Rattle.cow_model.specs.Canon.{Tree, branch, spread, pairs, slot_pairs}
use Rattle.cow_model.specs.Slots.{slot_at, Fits, rank}
use Rattle.cow_model.proofs.CanonCosts.{pairs-branch}
use Rattle.cow_model.proofs.CanonRanks.{rank-lt, rank-suc}
use Rattle.cow_model.proofs.CanonRows.{bit_zero, slot_entry, slot_free, entry_place, get_or_any}
use Rattle.cow_model.proofs.CanonSlots.{slot_pairs-entry, slot_pairs-free}

one_at : {X : Type 0} (xs : List X) (i : ℕ) → i < length xs → (y : X) × (y ≡ get_or xs i y)
one_at [] i h = absurd (omega arith)
one_at (x ∷ xs) i h = (get_or (x ∷ xs) i x, get_or_any (x ∷ xs) i x (get_or (x ∷ xs) i x) h)

spread_next : (n : ℕ) (f : ℕ → List Pair) → spread (suc n) f ≡ spread n f ++ f n
unfolding spread
spread_next n f = refl

module _ (n m : ℕ) (es : List Pair) (cs : List Tree) (fits : Fits n m (length es) (length cs)) (none : length cs ≡ 0) where
  childless : (d : ℕ) → d < 32 → eqb (bit_at m d) 1 ≡ false
  childless d h = ne_eqb (bit_at m d) 1 (λ e. let l = rank-lt m d 32 e h in omega (arith, l, fits.children, none))

  first_entries : (x : ℕ) → x ≤ 32 → spread x (λ d. slot_pairs (slot_at n m es cs d)) ≡ take (rank n x) es
  unfolding spread rank
  first_entries zero h = refl
  first_entries (suc x) h =
      let ih = first_entries x (omega arith) in
      let next = spread_next x (λ d. slot_pairs (slot_at n m es cs d)) in
      elim (cases_Bool (eqb (bit_at n x) 1)) [
        | inl a ↦
            let i = entry_place n m x _ _ fits (omega arith) a in
            let w = one_at es (rank n x) i in
            let s = slot_entry n m es cs x w.0 a (slice_get-get_or es (rank n x) w.0 i ∙ ap Some (sym w.1)) in
            next ∙ ap (λ ps. ps ++ slot_pairs (slot_at n m es cs x)) ih
            ∙ ap (λ t. take (rank n x) es ++ slot_pairs t) s
            ∙ ap (λ ps. take (rank n x) es ++ ps) (slot_pairs-entry w.0)
            ∙ ap (λ p. take (rank n x) es ++ p ∷ []) w.1
            ∙ sym (take_more es (rank n x) w.0 i)
            ∙ ap (λ k. take k es) (let b = eqb-true (bit_at n x) 1 a in omega (arith, b, rank-suc n x))
        | inr a ↦
            let s = slot_free n m es cs x a (childless x (omega arith)) in
            next ∙ ap (λ ps. ps ++ slot_pairs (slot_at n m es cs x)) ih
            ∙ ap (λ t. take (rank n x) es ++ slot_pairs t) s
            ∙ ap (λ ps. take (rank n x) es ++ ps) slot_pairs-free
            ∙ append-nil (take (rank n x) es)
            ∙ ap (λ k. take k es) (let b = bit_zero n x a in omega (arith, b, rank-suc n x))
      ]

  pub pairs_alone : pairs (branch (slot_at n m es cs)) ≡ es
  pairs_alone =
      pairs-branch (slot_at n m es cs) ∙ first_entries 32 (omega arith)
      ∙ ap (λ k. take k es) fits.entries ∙ take_all (length es) es (omega arith)

-- the same of rows whose places stand for pairs and trees
module _ {X Y : Type 0} (f : X → Pair) (g : Y → Tree) (n m : ℕ) (es : List X) (cs : List Y) (fits : Fits n m (length es) (length cs)) (none : length cs ≡ 0) where
  pub rows_alone : pairs (branch (slot_at n m (map f es) (map g cs))) ≡ map f es
  rows_alone =
      let a : length (map f es) ≡ length es = length-map es f in
      let b : length (map g cs) ≡ length cs = length-map cs g in
      pairs_alone n m (map f es) (map g cs) (rw (a, b) fits) (b ∙ none)
