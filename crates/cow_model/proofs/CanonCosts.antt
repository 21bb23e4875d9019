-- How many entries and children a node has, by its pairs.
use Rattle.std.proofs.Common.{◌≡◌, ℕ, zero, suc, ◌+◌, ◌-◌, ◌*◌, ◌^◌, ◌<◌, ◌≤◌, Bool, true, false, cond, eqb, ltb, List, [], ◌∷◌, map, length, get_or, Some, inl, inr, refl, sym, ap, ◌∙◌, arith, subst, eqb-true, eq-eqb, lt-ltb, le-ltb, All}
use Rattle.std.specs.Int.{bit_at}
use Rattle.std.proofs.lemmas.Bool.{cases_Bool, cases_order}
use Rattle.std.proofs.lemmas.Nat.Bits.{bit_at-lt}
use Rattle.std.proofs.lemmas.List.{length-map, length-append}
use Rattle.std.proofs.lemmas.Option.{slice_get-get_or}
use Rattle.cow_model.specs.declared.plain.Literal.{Literal}
use Rattle.cow_model.specs.declared.value.Pair.{Pair}
use Rattle.cow_model.specs.Canon.{count_where, Tree, Slot, branch, collide, child, spread, pairs, slot_pairs, IsCanonical, AgreeBelow}
use Rattle.cow_model.specs.Slots.{slot_at, Fits, rank}
use Rattle.cow_model.proofs.CanonSlots.{child_long, slot_pairs-child, slot_pairs-entry}
use Rattle.cow_model.proofs.CanonTwins.{same_hash, count_every}
use Rattle.cow_model.proofs.CanonRanks.{rank-suc}
use Rattle.cow_model.proofs.CanonRows.{bit_zero, slot_entry, slot_child, entry_place, child_place, get_or_any}

pub pairs-collide : (ps : List Pair) → pairs (collide ps) ≡ ps
unfolding pairs
pairs-collide ps = refl

pub rank-bound : (n d : ℕ) → rank n d ≤ d
unfolding rank
rank-bound n zero = omega arith
rank-bound n (suc d) = omega (arith, rank-bound n d, bit_at-lt n d)

some_at : {X : Type 0} (xs : List X) (i : ℕ) → i < length xs → (y : X) × (y ≡ get_or xs i y)
some_at [] i h = absurd (omega arith)
some_at (x ∷ xs) i h = (get_or (x ∷ xs) i x, get_or_any (x ∷ xs) i x (get_or (x ∷ xs) i x) h)

pub pairs-branch : (at : ℕ → Slot) → pairs (branch at) ≡ spread 32 (λ d. slot_pairs (at d))
unfolding pairs
pairs-branch at = refl

spread-suc : (n : ℕ) (f : ℕ → List Pair) → length (spread (suc n) f) ≡ length (spread n f) + length (f n)
unfolding spread
spread-suc n f = length-append (spread n f) (f n)

module _ (hash_of : Literal → ℕ) (level next : ℕ) (e : next ≡ level + 1) (l : next ≤ 7) (n m : ℕ) (es : List Pair) (cs : List Tree) (fits : Fits n m (length es) (length cs)) (canonical : IsCanonical hash_of (branch (slot_at n m es cs)) level) where
  at : ℕ → Slot
  at = slot_at n m es cs

  -- an entry is one pair, and a child two at least
  digit_long : (d : ℕ) → d < 32 → bit_at n d + 2 * bit_at m d ≤ length (slot_pairs (at d))
  unfolding at
  digit_long d h =
      elim (cases_Bool (eqb (bit_at n d) 1)) [
        | inl a ↦
            let w = some_at es (rank n d) (entry_place n m d _ _ fits h a) in
            let s = slot_entry n m es cs d w.0 a (slice_get-get_or es (rank n d) w.0 (entry_place n m d _ _ fits h a) ∙ ap Some (sym w.1)) in
            let one : length (slot_pairs (slot_at n m es cs d)) ≡ 1 = ap (λ t. length (slot_pairs t)) s ∙ ap length (slot_pairs-entry w.0) in
            omega (arith, one, fits.apart d, eqb-true (bit_at n d) 1 a)
        | inr a ↦
            let z = bit_zero n d a in
            (elim (cases_Bool (eqb (bit_at m d) 1)) [
              | inl b ↦
                  let w = some_at cs (rank m d) (child_place n m d _ _ fits h b) in
                  let s = slot_child n m es cs d w.0 a b (slice_get-get_or cs (rank m d) w.0 (child_place n m d _ _ fits h b) ∙ ap Some (sym w.1)) in
                  let two = child_long hash_of (slot_at n m es cs) level next e l canonical d h w.0 s in
                  let len : length (slot_pairs (slot_at n m es cs d)) ≡ length (pairs w.0) = ap (λ t. length (slot_pairs t)) s ∙ ap length (slot_pairs-child w.0) in
                  omega (arith, z, two, len, eqb-true (bit_at m d) 1 b)
              | inr b ↦ omega (arith, z, bit_zero m d b)
            ])
      ]

  -- the same of the digits below x, beside the pairs of one child that are counted apart
  some_digits : (d : ℕ) (s : Tree) → d < 32 → at d ≡ child s → bit_at n d ≡ 0 → bit_at m d ≡ 1 → (x : ℕ) → x ≤ 32 → rank n x + 2 * rank m x + cond (ltb d x) (length (pairs s)) 0 ≤ length (spread x (λ d. slot_pairs (at d))) + cond (ltb d x) 2 0
  unfolding rank
  some_digits d s k f a b zero h = rw (le-ltb d 0 (omega arith)) (omega arith)
  some_digits d s k f a b (suc x) h =
      let ih = some_digits d s k f a b x (omega arith) in
      let q = spread-suc x (λ d. slot_pairs (at d)) in
      elim (cases_order d x) [
        | inl p ↦
            let len : length (slot_pairs (at x)) ≡ length (pairs s) = ap (λ y. length (slot_pairs (at y))) (sym p) ∙ ap (λ t. length (slot_pairs t)) f ∙ ap length (slot_pairs-child s) in
            let a' : bit_at n x ≡ 0 = subst (λ y. bit_at n y ≡ 0) p a in
            let b' : bit_at m x ≡ 1 = subst (λ y. bit_at m y ≡ 1) p b in
            let i = rw (le-ltb d x (omega arith)) at ih in
            rw (lt-ltb d (suc x) (omega arith)) (omega (arith, i, q, len, a', b'))
        | inr p ↦
            let g = digit_long x (omega arith) in
            elim p [
              | inl r ↦ let i = rw (lt-ltb d x r) at ih in rw (lt-ltb d (suc x) (omega arith)) (omega (arith, i, q, g))
              | inr r ↦ let i = rw (le-ltb d x (omega arith)) at ih in rw (le-ltb d (suc x) (omega arith)) (omega (arith, i, q, g))
            ]
      ]

  all_digits : (x : ℕ) → x ≤ 32 → rank n x + 2 * rank m x ≤ length (spread x (λ d. slot_pairs (at d)))
  unfolding rank
  all_digits zero h = omega arith
  all_digits (suc x) h = omega (arith, all_digits x (omega arith), spread-suc x (λ d. slot_pairs (at d)), digit_long x (omega arith))

  pub branch_few : length es + 2 * length cs ≤ length (pairs (branch (slot_at n m es cs)))
  unfolding at
  branch_few =
      let a : rank n 32 + 2 * rank m 32 ≤ length (spread 32 (λ d. slot_pairs (slot_at n m es cs d))) = all_digits 32 (omega arith) in
      let b = ap length (pairs-branch (slot_at n m es cs)) in
      omega (arith, a, b, fits.entries, fits.children)

  pub branch_child : (d : ℕ) (s : Tree) → d < 32 → slot_at n m es cs d ≡ child s → bit_at n d ≡ 0 → bit_at m d ≡ 1 → length es + 2 * length cs + length (pairs s) ≤ length (pairs (branch (slot_at n m es cs))) + 2
  unfolding at
  branch_child d s k f p q =
      let a = some_digits d s k f p q 32 (omega arith) in
      let i = rw (lt-ltb d 32 k) at a in
      let b = ap length (pairs-branch (slot_at n m es cs)) in
      omega (arith, i, b, fits.entries, fits.children)

pub branch_near : (hash_of : Literal → ℕ) (level next : ℕ) → next ≡ level + 1 → next ≤ 7 → (n m k c : ℕ) → Fits n m k c → (hash : ℕ) (ps : List Pair) → k ≤ 32 * (7 - level) + count_where (λ p. eqb (hash_of p.key) hash) ps
branch_near hash_of level next e l n m k c fits hash ps = omega (arith, rank-bound n 32, fits.entries, e, l)

-- the same of rows whose places stand for pairs and trees
module _ {X Y : Type 0} (f : X → Pair) (g : Y → Tree) (hash_of : Literal → ℕ) (level next : ℕ) (e : next ≡ level + 1) (l : next ≤ 7) (n m : ℕ) (es : List X) (cs : List Y) (fits : Fits n m (length es) (length cs)) (canonical : IsCanonical hash_of (branch (slot_at n m (map f es) (map g cs))) level) where
  fits_plain : Fits n m (length (map f es)) (length (map g cs))
  fits_plain = let a : length (map f es) ≡ length es = length-map es f in let b : length (map g cs) ≡ length cs = length-map cs g in rw (a, b) fits

  pub rows_few : length es + 2 * length cs ≤ length (pairs (branch (slot_at n m (map f es) (map g cs))))
  rows_few = let a = branch_few hash_of level next e l n m (map f es) (map g cs) fits_plain canonical in omega (arith, a, length-map es f, length-map cs g)

  pub rows_child : (d : ℕ) (s : Tree) → d < 32 → slot_at n m (map f es) (map g cs) d ≡ child s → bit_at n d ≡ 0 → bit_at m d ≡ 1 → length es + 2 * length cs + length (pairs s) ≤ length (pairs (branch (slot_at n m (map f es) (map g cs)))) + 2
  rows_child d s k h p q = let a = branch_child hash_of level next e l n m (map f es) (map g cs) fits_plain canonical d s k h p q in omega (arith, a, length-map es f, length-map cs g)

module _ {X : Type 0} (f : X → Pair) where
  pub collide_few : (es : List X) → length es + 2 * 0 ≤ length (pairs (collide (map f es)))
  collide_few es = let a = ap length (pairs-collide (map f es)) in omega (arith, a, length-map es f)

  pub collide_near : (hash_of : Literal → ℕ) → ((k : Literal) → hash_of k < 2 ^ 32) → (hash : ℕ) → hash < 2 ^ 32 → (es : List X) → AgreeBelow hash_of 7 hash (pairs (collide (map f es))) → length es ≤ 32 * (7 - 7) + count_where (λ p. eqb (hash_of p.key) hash) (pairs (collide (map f es)))
  collide_near hash_of bound hash b es a =
      let ps : List Pair = pairs (collide (map f es)) in
      let c : count_where (λ p. eqb (hash_of p.key) hash) ps ≡ length ps = count_every (λ p. eqb (hash_of p.key) hash) ps (λ i d l. eq-eqb (hash_of (get_or ps i d).key) hash (same_hash (hash_of (get_or ps i d).key) hash (bound (get_or ps i d).key) b (λ k m. a k m i d l))) in
      let q = ap length (pairs-collide (map f es)) in
      omega (arith, c, q, length-map es f)
