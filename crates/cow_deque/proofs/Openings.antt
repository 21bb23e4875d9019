-- The places of a ring while one empty place moves through it.
use Rattle.std.proofs.Common.{◌≡◌, ℕ, zero, suc, ◌+◌, ◌-◌, ◌<◌, ◌≤◌, ◌^◌, ◌⊎◌, inl, inr, List, [], ◌∷◌, ◌++◌, length, map, set, take, drop, insert, remove, replicate, Option, Some, None, refl, sym, ap, ◌∙◌, subst, arith, length-append, length-set, append_assoc}
use Rattle.std.proofs.lemmas.List.{length-map, length-replicate, length-take-le, length-drop, take_at, drop_at, take-append-drop, take-take, take_all, drop_all}
use Rattle.cow_buf.specs.Places.{IsFilled}
use Rattle.cow_row.specs.Places.{somes, place, packed, gapped}
use Rattle.cow_row.proofs.Packed.{somes-packed}
use Rattle.cow_row.proofs.Gaps.{take-gap, put-gap, place-gap, closed, taken}
use Rattle.cow_row.proofs.Splices.{length-gapped}
use Rattle.cow_deque.specs.Rings.{turned, Wraps, IsRing, HasGap}
use Rattle.cow_deque.proofs.Turns.{length-turned, turned-at, turned-set, turned-turned}
use Rattle.cow_deque.proofs.Rings.{items_of, is_ring, laid, fits-ring, small-ring, nones-more}

module _ {X : Type 0} where
  somes-gapped : (xs : List X) (g : ℕ) (ys : List X) (m : ℕ) → somes (gapped 0 xs g ys m) ≡ xs ++ ys
  somes-gapped [] zero ys m = somes-packed 0 ys m
  somes-gapped [] (suc g) ys m = somes-gapped [] g ys m
  somes-gapped (x ∷ xs) g ys m = ap (λ l. x ∷ l) (somes-gapped xs g ys m)

  -- the item before a gap
  before-gap : (xs : List X) (x : X) (g : ℕ) (ys : List X) (m : ℕ) → place (gapped 0 (xs ++ x ∷ []) g ys m) (length xs) ≡ Some x
  before-gap [] x g ys m = refl
  before-gap (y ∷ xs) x g ys m = before-gap xs x g ys m

  take-before : (xs : List X) (x : X) (g : ℕ) (ys : List X) (m : ℕ) → set (gapped 0 (xs ++ x ∷ []) g ys m) (length xs) None ≡ gapped 0 xs (suc g) ys m
  take-before [] x g ys m = refl
  take-before (y ∷ xs) x g ys m = ap (λ l. Some y ∷ l) (take-before xs x g ys m)

  -- the item behind a gap of one place
  behind-gap : (xs : List X) (y : X) (ys : List X) (m : ℕ) → place (gapped 0 xs 1 (y ∷ ys) m) (length xs + 1) ≡ Some y
  behind-gap [] y ys m = refl
  behind-gap (x ∷ xs) y ys m = let e : suc (length xs) + 1 ≡ suc (length xs + 1) = omega arith in rw e (behind-gap xs y ys m)

  -- the last place of a gap of two
  last-none : (xs : List X) (ys : List X) (m : ℕ) → place (gapped 0 xs 2 ys m) (length xs + 1) ≡ None
  last-none [] ys m = refl
  last-none (x ∷ xs) ys m = let e : suc (length xs) + 1 ≡ suc (length xs + 1) = omega arith in rw e (last-none xs ys m)

  put-behind : (xs : List X) (x : X) (ys : List X) (m : ℕ) → set (gapped 0 xs 2 ys m) (length xs + 1) (Some x) ≡ gapped 0 xs 1 (x ∷ ys) m
  put-behind [] x ys m = refl
  put-behind (y ∷ xs) x ys m = let e : suc (length xs) + 1 ≡ suc (length xs + 1) = omega arith in rw e (ap (λ l. Some y ∷ l) (put-behind xs x ys m))

  -- a ring with a gap from its places
  pub is_gap : (cs : List (Option X)) (h k m : ℕ) (xs ys : List X) → turned h cs ≡ gapped 0 xs 1 ys m → k ≡ length xs → h ≤ length cs → length cs ≤ 2 ^ 32 → HasGap cs h k × (items_of cs h ≡ xs ++ ys)
  is_gap cs h k m xs ys e l s b =
      let all : items_of cs h ≡ xs ++ ys = ap somes e ∙ somes-gapped xs 1 ys m in
      let count : length (items_of cs h) ≡ length xs + length ys = ap length all ∙ length-append xs ys in
      let long : length cs ≡ length xs + length ys + 1 + m = omega (arith, sym (length-turned h cs) ∙ ap length e ∙ length-gapped 0 xs 1 ys m) in
      let front : take k (items_of cs h) ≡ xs = ap (take k) all ∙ take_at xs ys k (sym l) in
      let behind : drop k (items_of cs h) ≡ ys = ap (drop k) all ∙ drop_at xs ys k (sym l) in
      let room : length cs - length (items_of cs h) - 1 ≡ m = omega (arith, count, long) in (
        record {
          start = s;
          within = omega (arith, count, l);
          places = e ∙ sym (ap (λ (l : List X). gapped 0 l 1 (drop k (items_of cs h)) (length cs - length (items_of cs h) - 1)) front ∙ ap (λ (l : List X). gapped 0 xs 1 l (length cs - length (items_of cs h) - 1)) behind ∙ ap (gapped 0 xs 1 ys) room);
          room = omega (arith, count, long);
          small = b;
        },
        all,
      )

  -- the items of a list from index k on
  item-on : (xs : List X) (k : ℕ) → k < length xs → (x : X) × (drop k xs ≡ x ∷ drop (k + 1) xs)
  item-on [] k h = absurd (omega arith)
  item-on (x ∷ xs) zero h = (x, refl)
  item-on (x ∷ xs) (suc k) h = let e : suc k + 1 ≡ suc (k + 1) = omega arith in let it = item-on xs k (omega arith) in (it.0, rw e it.1)

  -- the first of the items behind the gap stands at the place behind it
  pub gap-behind : (cs : List (Option X)) (h k q : ℕ) → HasGap cs h k → k < length (items_of cs h) → Wraps h (k + 1) (length cs) q → IsFilled cs q
  gap-behind cs h k q r l w =
      let zs = items_of cs h in let m = length cs - length zs - 1 in
      let it = item-on zs k l in
      let xs = take k zs in
      let count : length xs ≡ k = length-take-le k zs r.within in
      let row : turned h cs ≡ gapped 0 xs 1 (it.0 ∷ drop (k + 1) zs) m = r.places ∙ ap (λ (l : List X). gapped 0 xs 1 l m) it.1 in
      let at : place (turned h cs) (k + 1) ≡ Some it.0 = ap (λ (l : List (Option X)). place l (k + 1)) row ∙ subst (λ (j : ℕ). place (gapped 0 xs 1 (it.0 ∷ drop (k + 1) zs) m) (j + 1) ≡ Some it.0) count (behind-gap xs it.0 (drop (k + 1) zs) m) in
      (it.0, sym (turned-at cs h (k + 1) q None r.start (omega (arith, l, r.room)) w) ∙ at)

  -- the gap moves behind that item
  pub gap-up : (cs : List (Option X)) (h k p q : ℕ) (x : X) → HasGap cs h k → k < length (items_of cs h) → Wraps h (k + 1) (length cs) q → Wraps h k (length cs) p → place cs q ≡ Some x
      → (place (set cs q None) p ≡ None) × HasGap (set (set cs q None) p (Some x)) h (k + 1) × (items_of (set (set cs q None) p (Some x)) h ≡ items_of cs h)
  gap-up cs h k p q x r l v w is =
      let zs = items_of cs h in let m = length cs - length zs - 1 in
      let it = item-on zs k l in
      let xs = take k zs in let ys = drop (k + 1) zs in
      let count : length xs ≡ k = length-take-le k zs r.within in
      let row : turned h cs ≡ gapped 0 xs 1 (it.0 ∷ ys) m = r.places ∙ ap (λ (l : List X). gapped 0 xs 1 l m) it.1 in
      let at : place (turned h cs) (k + 1) ≡ Some it.0 = ap (λ (l : List (Option X)). place l (k + 1)) row ∙ subst (λ (j : ℕ). place (gapped 0 xs 1 (it.0 ∷ ys) m) (j + 1) ≡ Some it.0) count (behind-gap xs it.0 ys m) in
      let found : Some it.0 ≡ Some x = sym at ∙ turned-at cs h (k + 1) q None r.start (omega (arith, l, r.room)) v ∙ is in
      let same : it.0 ≡ x = cc in
      let ds = set cs q None in
      let long : length ds ≡ length cs = length-set cs q None in
      let out : turned h ds ≡ gapped 0 xs 2 ys m = turned-set cs h (k + 1) q None r.start (omega (arith, l, r.room)) v ∙ ap (λ (l : List (Option X)). set l (k + 1) None) row ∙ take-gap 0 xs 1 it.0 ys m (k + 1) (omega (arith, count)) in
      let w2 : Wraps h k (length ds) p = rw long w in
      let es = set ds p (Some x) in
      let put : turned h es ≡ gapped 0 (xs ++ x ∷ []) 1 ys m = turned-set ds h k p (Some x) (omega (arith, r.start, long)) (omega (arith, l, r.room, long)) w2 ∙ ap (λ (l : List (Option X)). set l k (Some x)) out ∙ put-gap 0 xs 1 ys m k x (omega (arith, count)) in
      let empty : place ds p ≡ None = sym (turned-at ds h k p None (omega (arith, r.start, long)) (omega (arith, l, r.room, long)) w2) ∙ ap (λ (l : List (Option X)). place l k) out ∙ place-gap 0 xs 1 ys m k (omega (arith, count)) in
      let whole : (xs ++ x ∷ []) ++ ys ≡ zs = append_assoc xs (x ∷ []) ys ∙ ap (λ (y : X). xs ++ y ∷ ys) (sym same) ∙ ap (λ (l : List X). xs ++ l) (sym it.1) ∙ take-append-drop k zs in
      let g = is_gap es h (k + 1) m (xs ++ x ∷ []) ys put (omega (arith, count, length-append xs (x ∷ []))) (omega (arith, r.start, long, length-set ds p (Some x))) (omega (arith, r.small, long, length-set ds p (Some x))) in
      (empty, g.0, g.1 ∙ whole)

  last-of : (xs : List X) (k : ℕ) → length xs ≡ k + 1 → (x : X) × (xs ≡ take k xs ++ x ∷ [])
  last-of [] k e = absurd (omega (arith, e))
  last-of (x ∷ []) zero e = (x, refl)
  last-of (x ∷ []) (suc k) e = absurd (omega (arith, e))
  last-of (x ∷ y ∷ xs) zero e = absurd (omega (arith, e))
  last-of (x ∷ y ∷ xs) (suc k) e = let it = last-of (y ∷ xs) k (omega (arith, e)) in (it.0, ap (λ l. x ∷ l) it.1)

  -- a gap with an item before it
  split-before : (cs : List (Option X)) (h k : ℕ) → HasGap cs h (k + 1)
      → (x : X) × (take (k + 1) (items_of cs h) ≡ take k (items_of cs h) ++ x ∷ []) × (turned h cs ≡ gapped 0 (take k (items_of cs h) ++ x ∷ []) 1 (drop (k + 1) (items_of cs h)) (length cs - length (items_of cs h) - 1))
  split-before cs h k r =
      let zs = items_of cs h in
      let it = last-of (take (k + 1) zs) k (length-take-le (k + 1) zs r.within) in
      let front : take k (take (k + 1) zs) ≡ take k zs = take-take k (k + 1) zs (omega arith) in
      let split : take (k + 1) zs ≡ take k zs ++ it.0 ∷ [] = it.1 ∙ ap (λ (l : List X). l ++ it.0 ∷ []) front in
      (it.0, split, r.places ∙ ap (λ (l : List X). gapped 0 l 1 (drop (k + 1) zs) (length cs - length zs - 1)) split)

  -- the last of the items before the gap stands at the place before it
  pub gap-before : (cs : List (Option X)) (h k q : ℕ) → HasGap cs h (k + 1) → Wraps h k (length cs) q → IsFilled cs q
  gap-before cs h k q r w =
      let zs = items_of cs h in let m = length cs - length zs - 1 in
      let it = split-before cs h k r in
      let xs = take k zs in let ys = drop (k + 1) zs in
      let count : length xs ≡ k = length-take-le k zs (omega (arith, r.within)) in
      let at : place (turned h cs) k ≡ Some it.0 = ap (λ (l : List (Option X)). place l k) it.2 ∙ subst (λ (j : ℕ). place (gapped 0 (xs ++ it.0 ∷ []) 1 ys m) j ≡ Some it.0) count (before-gap xs it.0 1 ys m) in
      (it.0, sym (turned-at cs h k q None r.start (omega (arith, r.within, r.room)) w) ∙ at)

  -- the gap moves before that item
  pub gap-down : (cs : List (Option X)) (h k p q : ℕ) (x : X) → HasGap cs h (k + 1) → Wraps h k (length cs) q → Wraps h (k + 1) (length cs) p → place cs q ≡ Some x
      → (place (set cs q None) p ≡ None) × HasGap (set (set cs q None) p (Some x)) h k × (items_of (set (set cs q None) p (Some x)) h ≡ items_of cs h)
  gap-down cs h k p q x r v w is =
      let zs = items_of cs h in let m = length cs - length zs - 1 in
      let it = split-before cs h k r in
      let xs = take k zs in let ys = drop (k + 1) zs in
      let count : length xs ≡ k = length-take-le k zs (omega (arith, r.within)) in
      let at : place (turned h cs) k ≡ Some it.0 = ap (λ (l : List (Option X)). place l k) it.2 ∙ subst (λ (j : ℕ). place (gapped 0 (xs ++ it.0 ∷ []) 1 ys m) j ≡ Some it.0) count (before-gap xs it.0 1 ys m) in
      let found : Some it.0 ≡ Some x = sym at ∙ turned-at cs h k q None r.start (omega (arith, r.within, r.room)) v ∙ is in
      let same : it.0 ≡ x = cc in
      let ds = set cs q None in
      let long : length ds ≡ length cs = length-set cs q None in
      let out : turned h ds ≡ gapped 0 xs 2 ys m = turned-set cs h k q None r.start (omega (arith, r.within, r.room)) v ∙ ap (λ (l : List (Option X)). set l k None) it.2 ∙ subst (λ (j : ℕ). set (gapped 0 (xs ++ it.0 ∷ []) 1 ys m) j None ≡ gapped 0 xs 2 ys m) count (take-before xs it.0 1 ys m) in
      let w2 : Wraps h (k + 1) (length ds) p = rw long w in
      let es = set ds p (Some x) in
      let within : k + 1 < length ds = omega (arith, r.within, r.room, long) in
      let put : turned h es ≡ gapped 0 xs 1 (x ∷ ys) m = turned-set ds h (k + 1) p (Some x) (omega (arith, r.start, long)) within w2 ∙ ap (λ (l : List (Option X)). set l (k + 1) (Some x)) out ∙ subst (λ (j : ℕ). set (gapped 0 xs 2 ys m) (j + 1) (Some x) ≡ gapped 0 xs 1 (x ∷ ys) m) count (put-behind xs x ys m) in
      let empty : place ds p ≡ None = sym (turned-at ds h (k + 1) p None (omega (arith, r.start, long)) within w2) ∙ ap (λ (l : List (Option X)). place l (k + 1)) out ∙ subst (λ (j : ℕ). place (gapped 0 xs 2 ys m) (j + 1) ≡ None) count (last-none xs ys m) in
      let whole : xs ++ x ∷ ys ≡ zs = ap (λ (y : X). xs ++ y ∷ ys) (sym same) ∙ sym (append_assoc xs (it.0 ∷ []) ys) ∙ ap (λ (l : List X). l ++ ys) (sym it.1) ∙ take-append-drop (k + 1) zs in
      let g = is_gap es h k m xs (x ∷ ys) put (sym count) (omega (arith, r.start, long, length-set ds p (Some x))) (omega (arith, r.small, long, length-set ds p (Some x))) in
      (empty, g.0, g.1 ∙ whole)

  -- the last places of a row go to its front
  last-first : (xs : List X) (m j : ℕ) → j ≡ length xs + m → turned j (packed 0 xs (suc m)) ≡ gapped 0 [] 1 xs m
  last-first xs m j e =
      let front = map Some xs ++ replicate m None in
      let long : length front ≡ j = omega (arith, e, length-append (map Some xs) (replicate {A = Option X} m None), length-map xs (λ (y : X). Some y), length-replicate {A = Option X} m None) in
      let split : packed 0 xs (suc m) ≡ front ++ None ∷ [] = ap (λ (l : List (Option X)). map Some xs ++ l) (sym (nones-more m)) ∙ sym (append_assoc (map Some xs) (replicate m None) (None ∷ [])) in
      ap (turned j) split ∙ rw (drop_at front (None ∷ []) j long, take_at front (None ∷ []) j long) refl

  -- a ring has a gap before its first item, read from the place before that
  pub gap-first : (cs : List (Option X)) (h n q : ℕ) → IsRing cs h n → n < length cs → Wraps h (length cs - 1) (length cs) q → HasGap cs q 0 × (items_of cs q ≡ items_of cs h)
  gap-first cs h n q r b w =
      let xs = items_of cs h in let m = length cs - n - 1 in let j = length cs - 1 in
      let count : length xs ≡ n = r.packed.count in
      let room : length cs - n ≡ suc m = omega (arith, b) in
      let row : turned h cs ≡ packed 0 xs (suc m) = laid cs h n r ∙ ap (packed 0 xs) room in
      let places : turned q cs ≡ gapped 0 [] 1 xs m = turned-turned cs h j q r.start (omega arith) (omega (arith, w.0)) w.1 ∙ ap (turned j) row ∙ last-first xs m j (omega (arith, count, b)) in
      is_gap cs q 0 m [] xs places refl (omega (arith, w.0)) (small-ring cs h n r)

  -- and one behind its last item
  pub gap-last : (cs : List (Option X)) (h n : ℕ) → IsRing cs h n → n < length cs → HasGap cs h n
  gap-last cs h n r b =
      let xs = items_of cs h in let m = length cs - n - 1 in
      let room : length cs - n ≡ suc m = omega (arith, b) in
      let places : turned h cs ≡ gapped 0 xs 1 [] m = laid cs h n r ∙ ap (packed 0 xs) room in
      (is_gap cs h n m xs [] places (sym r.packed.count) r.start (small-ring cs h n r)).0

  -- a gap before all items
  pub first-gap : (cs : List (Option X)) (h n p : ℕ) → HasGap cs h 0 → length (items_of cs h) ≡ n → Wraps h 0 (length cs) p → IsRing cs (p + 1) n × (items_of cs (p + 1) ≡ items_of cs h)
  first-gap cs h n p r count w =
      let xs = items_of cs h in let m = length cs - length xs - 1 in
      let round : (p + 1 ≡ h + 1) ⊎ (p + 1 + length cs ≡ h + 1) = elim w.1 [ inl e ↦ inl (omega (arith, e)) | inr e ↦ inr (omega (arith, e)) ] in
      let none : turned 1 (gapped 0 [] 1 xs m) ≡ packed 0 xs (suc m) = append_assoc (map Some xs) (replicate m None) (None ∷ []) ∙ ap (λ (l : List (Option X)). map Some xs ++ l) (nones-more m) in
      let places : turned (p + 1) cs ≡ packed 0 xs (suc m) = turned-turned cs h 1 (p + 1) r.start (omega (arith, r.room)) (omega (arith, w.0)) round ∙ ap (turned 1) r.places ∙ none in
      is_ring cs (p + 1) n (suc m) xs places (sym count) (omega (arith, w.0)) r.small

  -- a gap behind all items
  pub last-gap : (cs : List (Option X)) (h n : ℕ) → HasGap cs h n → length (items_of cs h) ≡ n → IsRing cs h n
  last-gap cs h n r count =
      let xs = items_of cs h in let m = length cs - length xs - 1 in
      let front : take n xs ≡ xs = take_all n xs (omega (arith, count)) in
      let behind : drop n xs ≡ [] = drop_all n xs (omega (arith, count)) in
      let places : turned h cs ≡ packed 0 xs (suc m) = r.places ∙ ap (λ (l : List X). gapped 0 l 1 (drop n xs) m) front ∙ ap (λ (l : List X). gapped 0 xs 1 l m) behind in
      (is_ring cs h n (suc m) xs places (sym count) r.start r.small).0

  -- an item in the gap
  pub gap-filled : (cs : List (Option X)) (h k p : ℕ) (x : X) → HasGap cs h k → Wraps h k (length cs) p
      → (place cs p ≡ None) × IsRing (set cs p (Some x)) h (length (items_of cs h) + 1) × (items_of (set cs p (Some x)) h ≡ insert (items_of cs h) k x)
  gap-filled cs h k p x r w =
      let zs = items_of cs h in let m = length cs - length zs - 1 in
      let xs = take k zs in let ys = drop k zs in
      let count : length xs ≡ k = length-take-le k zs r.within in
      let within : k < length cs = omega (arith, r.within, r.room) in
      let empty : place cs p ≡ None = sym (turned-at cs h k p None r.start within w) ∙ ap (λ (l : List (Option X)). place l k) r.places ∙ place-gap 0 xs 0 ys m k (omega (arith, count)) in
      let ds = set cs p (Some x) in
      let long : length ds ≡ length cs = length-set cs p (Some x) in
      let places : turned h ds ≡ packed 0 ((xs ++ x ∷ []) ++ ys) m = turned-set cs h k p (Some x) r.start within w ∙ ap (λ (l : List (Option X)). set l k (Some x)) r.places ∙ put-gap 0 xs 0 ys m k x (omega (arith, count)) ∙ closed 0 (xs ++ x ∷ []) ys m in
      let all : length ((xs ++ x ∷ []) ++ ys) ≡ length zs + 1 = omega (arith, length-append (xs ++ x ∷ []) ys, length-append xs (x ∷ []), count, length-drop k zs, r.within) in
      let it = is_ring ds h (length zs + 1) m ((xs ++ x ∷ []) ++ ys) places (sym all) (omega (arith, r.start, long)) (omega (arith, r.small, long)) in
      (empty, it.0, it.1 ∙ append_assoc xs (x ∷ []) ys)

  -- an item taken out leaves a gap
  pub gap-taken : (cs : List (Option X)) (h n i p : ℕ) (x : X) → IsRing cs h n → i < n → Wraps h i (length cs) p → place cs p ≡ Some x
      → HasGap (set cs p None) h i × (items_of (set cs p None) h ≡ remove (items_of cs h) i)
  gap-taken cs h n i p x r l w is =
      let t = turned h cs in let zs = items_of cs h in let m = length t - (0 + n) in
      let z : 0 + i ≡ i = omega arith in
      let within : i < length cs = omega (arith, l, fits-ring cs h n r) in
      let at : place t (0 + i) ≡ Some x = rw z (turned-at cs h i p None r.start within w ∙ is) in
      let out = rw z at (taken t 0 n i x r.packed l at) in
      let long : length (set cs p None) ≡ length cs = length-set cs p None in
      let places : turned h (set cs p None) ≡ gapped 0 (take i zs) 1 (drop (suc i) zs) m = turned-set cs h i p None r.start within w ∙ out in
      is_gap (set cs p None) h i m (take i zs) (drop (suc i) zs) places (sym (length-take-le i zs (omega (arith, l, r.packed.count)))) (omega (arith, r.start, long)) (omega (arith, small-ring cs h n r, long))
