-- The places of a row while a run of its items is replaced.
use Rattle.std.proofs.Common.{◌≡◌, ℕ, zero, suc, ◌+◌, ◌-◌, ◌<◌, ◌≤◌, ◌⊎◌, inl, inr, List, [], ◌∷◌, ◌++◌, map, length, set, replicate, take, drop, get_or, All, Option, Some, None, refl, sym, ap, ◌∙◌, arith, length-append, append_assoc, add-one}
use Rattle.std.proofs.lemmas.Grind.{common_steps}
use Rattle.std.specs.List.{splice}
use Rattle.std.proofs.lemmas.List.{length-map, length-replicate, length-take-le, length-drop, drop_more, get_or_at, set_at, get_or-append_right, get_or_append_left, get_or-take, get_or-drop, take_at, drop_at, take-append-le, take-map, replicate_more}
use Rattle.std.proofs.lemmas.List.Elements.{All-append, All-take, All-drop}
use Rattle.cow_buf.specs.Places.{IsFilled, IsRun, blanked, shifted}
use Rattle.cow_row.specs.Places.{somes, place, packed, gapped, IsPacked}
use Rattle.cow_row.proofs.Packed.{is_packed, somes-packed}
use Rattle.cow_row.proofs.Gaps.{ahead, length-ahead, gapped-ahead, joined-ahead, split-row, shift-gap}

module _ {X : Type 0} where
  -- the place behind a run that was written is as before
  pub place-behind : (cs ys : List (Option X)) (a n : ℕ) → n ≡ length ys → a + n < length cs → place (splice cs a (a + n) ys) (a + n) ≡ place cs (a + n)
  place-behind cs ys a n e h =
      let rest = drop_more cs (a + n) None h in
      let long : length (take a cs ++ ys) ≡ a + n = omega (arith, length-append (take a cs) ys, length-take-le a cs (omega (arith, h))) in
      rw (rest, ← append_assoc) (get_or_at (take a cs ++ ys) (place cs (a + n)) (drop (a + n + 1) cs) None (a + n) long)

  -- a run that was written grows by the place behind it
  pub splice-more : (cs ys : List (Option X)) (a n : ℕ) (c : Option X) → n ≡ length ys → a + n < length cs → set (splice cs a (a + n) ys) (a + n) c ≡ splice cs a (a + n + 1) (ys ++ c ∷ [])
  splice-more cs ys a n c e h =
      let rest = drop_more cs (a + n) None h in
      let long : length (take a cs ++ ys) ≡ a + n = omega (arith, length-append (take a cs) ys, length-take-le a cs (omega (arith, h))) in
      let put = set_at (take a cs ++ ys) (place cs (a + n)) (drop (a + n + 1) cs) c (a + n) long in
      rw (rest, ← append_assoc, put) (rw (append_assoc, append_assoc) refl)

  -- one more place is empty
  pub blank-more : (cs : List (Option X)) (a n : ℕ) → a + n < length cs → set (blanked None a n cs) (a + n) None ≡ blanked None a (n + 1) cs
  blank-more cs a n h =
      splice-more cs (replicate n None) a n None (sym (length-replicate n None)) h
      ∙ ap (λ (l : List (Option X)). splice cs a (a + n + 1) l) (replicate_more n None)
      ∙ ap (λ (k : ℕ). splice cs a k (replicate {A = Option X} (n + 1) None)) (omega arith)

  -- the place behind the emptied ones is as before
  pub place-blanked : (cs : List (Option X)) (a n : ℕ) → a + n < length cs → place (blanked None a n cs) (a + n) ≡ place cs (a + n)
  place-blanked cs a n h = place-behind cs (replicate n None) a n (sym (length-replicate n None)) h

  filled-item : (xs : List X) (k : ℕ) → k < length xs → IsFilled (map Some xs) k
  filled-item [] k h = absurd (omega arith)
  filled-item (x ∷ xs) zero h = (x, refl)
  filled-item (x ∷ xs) (suc k) h = filled-item xs k (omega arith)

  -- a place of a run is filled
  pub run-filled : (cs : List (Option X)) (a n k : ℕ) → IsRun cs a n → k < n → IsFilled cs (a + k)
  run-filled cs a n k r h =
      let xs = r.1.0 in
      let long : length xs ≡ n = sym (length-map xs Some) ∙ sym (ap length r.1.1) ∙ length-take-le n (drop a cs) (omega (arith, r.0, length-drop a cs)) in
      let it = filled-item xs k (omega (arith, h, long)) in
      let at : place cs (a + k) ≡ place (map Some xs) k = sym (get_or-drop a cs k None) ∙ sym (get_or-take n (drop a cs) k None h) ∙ ap (λ (l : List (Option X)). place l k) r.1.1 in
      (it.0, at ∙ it.1)

  somes-more : (cs : List (Option X)) (k : ℕ) (x : X) → place cs k ≡ Some x → somes (take (suc k) cs) ≡ somes (take k cs) ++ x ∷ []
  somes-more [] k x e = cc
  somes-more (None ∷ cs) zero x e = cc
  somes-more (Some y ∷ cs) zero x e = cc
  somes-more (None ∷ cs) (suc k) x e = somes-more cs k x e
  somes-more (Some y ∷ cs) (suc k) x e = ap (λ l. y ∷ l) (somes-more cs k x e)

  -- the items of one more place
  pub items-more : (cs : List (Option X)) (k : ℕ) (x : X) → place cs k ≡ Some x → somes (take (k + 1) cs) ≡ somes (take k cs) ++ x ∷ []
  items-more cs k x e = rw add-one (somes-more cs k x e)

  place-none : (m k : ℕ) → place {X = X} (replicate m None) k ≡ None
  place-none zero k = refl
  place-none (suc m) zero = refl
  place-none (suc m) (suc k) = place-none m k

  -- past the first items, the places of a gap and those behind the last items are empty
  pub length-gapped : (f : ℕ) (xs : List X) (g : ℕ) (ys : List X) (m : ℕ) → length (gapped f xs g ys m) ≡ f + length xs + g + length ys + m
  length-gapped f xs g ys m = grind (arith, common_steps)

  pub gap-empty : (f : ℕ) (xs : List X) (g : ℕ) (ys : List X) (m i : ℕ) → f + length xs ≤ i → (i < f + length xs + g) ⊎ (f + length xs + g + length ys ≤ i) → place (gapped f xs g ys m) i ≡ None
  gap-empty f xs g ys m i low (inl h) =
      let k = i - (f + length xs) in
      rw (
        gapped-ahead f xs g ys m,
        get_or-append_right (ahead f xs) (replicate g None ++ (map Some ys ++ replicate m None)) (f + length xs) i None (length-ahead f xs) low,
        get_or_append_left (replicate g None) (map Some ys ++ replicate m None) None k (omega (arith, h, length-replicate {A = Option X} g None)),
      ) (place-none g k)
  gap-empty f xs g ys m i low (inr h) =
      let k = i - (f + length xs) in
      rw (
        gapped-ahead f xs g ys m,
        get_or-append_right (ahead f xs) (replicate g None ++ (map Some ys ++ replicate m None)) (f + length xs) i None (length-ahead f xs) low,
        get_or-append_right (replicate g None) (map Some ys ++ replicate m None) g k None (length-replicate g None) (omega (arith, h)),
        get_or-append_right (map Some ys) (replicate m None) (length ys) (k - g) None (length-map ys Some) (omega (arith, h)),
      ) (place-none m (k - g - length ys))

  -- a row at item i
  split-at : (cs : List (Option X)) (f n i : ℕ) → IsPacked cs f n → cs ≡ ahead f (take i (somes cs)) ++ (map Some (drop i (somes cs)) ++ replicate (length cs - (f + n)) None)
  split-at cs f n i p = split-row cs f n i p ∙ gapped-ahead f (take i (somes cs)) 0 (drop i (somes cs)) (length cs - (f + n))

  length-head : (cs : List (Option X)) (f n i : ℕ) → IsPacked cs f n → i ≤ n → length (ahead f (take i (somes cs))) ≡ f + i
  length-head cs f n i p h = omega (arith, length-ahead f (take i (somes cs)), length-take-le i (somes cs) (omega (arith, h, p.count)))

  take-row : (cs : List (Option X)) (f n i : ℕ) → IsPacked cs f n → i ≤ n → take (f + i) cs ≡ ahead f (take i (somes cs))
  take-row cs f n i p h = ap (take (f + i)) (split-at cs f n i p) ∙ take_at (ahead f (take i (somes cs))) (map Some (drop i (somes cs)) ++ replicate (length cs - (f + n)) None) (f + i) (length-head cs f n i p h)

  drop-row : (cs : List (Option X)) (f n i : ℕ) → IsPacked cs f n → i ≤ n → drop (f + i) cs ≡ map Some (drop i (somes cs)) ++ replicate (length cs - (f + n)) None
  drop-row cs f n i p h = ap (drop (f + i)) (split-at cs f n i p) ∙ drop_at (ahead f (take i (somes cs))) (map Some (drop i (somes cs)) ++ replicate (length cs - (f + n)) None) (f + i) (length-head cs f n i p h)

  -- what a run of places of a row holds
  pub run-of-row : (cs : List (Option X)) (f n i c : ℕ) → IsPacked cs f n → i + c ≤ n → take c (drop (f + i) cs) ≡ map Some (take c (drop i (somes cs)))
  run-of-row cs f n i c p h =
      let xs = drop i (somes cs) in
      let long : c ≤ length (map Some xs) = omega (arith, h, p.count, length-map xs Some, length-drop i (somes cs)) in
      rw (drop-row cs f n i p (omega (arith, h)), take-append-le c (map Some xs) (replicate (length cs - (f + n)) None) long) (take-map Some c xs)

  pub is_run : (cs : List (Option X)) (f n i c : ℕ) → IsPacked cs f n → i + c ≤ n → IsRun cs (f + i) c
  is_run cs f n i c p h = (omega (arith, h, p.fits), (take c (drop i (somes cs)), run-of-row cs f n i c p h))

  pub somes-some : (ys : List X) → somes (map Some ys) ≡ ys
  somes-some [] = refl
  somes-some (y ∷ ys) = ap (λ l. y ∷ l) (somes-some ys)

  -- the items of a run of places of a row
  pub items-of-run : (cs : List (Option X)) (f n i c : ℕ) → IsPacked cs f n → i + c ≤ n → somes (take c (drop (f + i) cs)) ≡ take c (drop i (somes cs))
  items-of-run cs f n i c p h = ap somes (run-of-row cs f n i c p h) ∙ somes-some (take c (drop i (somes cs)))

  -- a row in which a run of items has gone
  pub emptied : (cs : List (Option X)) (f n i c : ℕ) → IsPacked cs f n → i + c ≤ n → blanked None (f + i) c cs ≡ gapped f (take i (somes cs)) c (drop (i + c) (somes cs)) (length cs - (f + n))
  emptied cs f n i c p h =
      let sum : f + i + c ≡ f + (i + c) = omega arith in
      rw (sum, take-row cs f n i p (omega (arith, h)), drop-row cs f n (i + c) p h) (sym (gapped-ahead f (take i (somes cs)) c (drop (i + c) (somes cs)) (length cs - (f + n))))

  -- and the gap is as wide as k items
  pub widened : (cs : List (Option X)) (f n i c k : ℕ) → IsPacked cs f n → i + c ≤ n → f + n + k ≤ length cs + c
      → shifted (f + i + c) (f + i + k) (n - i - c) (blanked None (f + i) c cs) ≡ gapped f (take i (somes cs)) k (drop (i + c) (somes cs)) (length cs - (f + n) + c - k)
  widened cs f n i c k p h r =
      let xs = somes cs in
      let m = length cs - (f + n) in
      let a : length (take i xs) ≡ i = length-take-le i xs (omega (arith, h, p.count)) in
      let b : length (drop (i + c) xs) ≡ n - i - c = omega (arith, length-drop (i + c) xs, p.count) in
      ap (shifted (f + i + c) (f + i + k) (n - i - c)) (emptied cs f n i c p h) ∙ shift-gap f (take i xs) (drop (i + c) xs) c k m (m + c - k) (f + i + c) (f + i + k) (n - i - c) (omega (arith, a)) (omega (arith, a)) (sym b) (omega (arith, r, p.fits))

  -- a gap that is filled
  filled-gap : (f : ℕ) (xs ys zs : List X) (m a k : ℕ) → a ≡ f + length xs → k ≡ length zs → splice (gapped f xs k ys m) a (a + k) (map Some zs) ≡ packed f (xs ++ (zs ++ ys)) m
  filled-gap f xs ys zs m a k ea ek =
      let rest = map Some ys ++ replicate m None in
      let front : length (ahead f xs) ≡ a = length-ahead f xs ∙ sym ea in
      let whole : length (ahead f xs ++ replicate k None) ≡ a + k = omega (arith, front, length-append (ahead f xs) (replicate k None), length-replicate {A = Option X} k None) in
      let head : take a (ahead f xs ++ (replicate k None ++ rest)) ≡ ahead f xs = take_at (ahead f xs) (replicate k None ++ rest) a front in
      let tail : drop (a + k) (ahead f xs ++ (replicate k None ++ rest)) ≡ rest = ap (drop (a + k)) (sym (append_assoc (ahead f xs) (replicate k None) rest)) ∙ drop_at (ahead f xs ++ replicate k None) rest (a + k) whole in
      rw (gapped-ahead f xs k ys m, head, tail) (joined-ahead f xs ys zs m)

  -- as many items go as were named, and the others come
  pub length-splice : (xs ys : List X) (i c : ℕ) → i + c ≤ length xs → length (splice xs i (i + c) ys) + c ≡ length xs + length ys
  length-splice xs ys i c h = omega (arith, length-append (take i xs) (ys ++ drop (i + c) xs), length-append ys (drop (i + c) xs), length-take-le i xs (omega (arith, h)), length-drop (i + c) xs)

  replaced-run : (cs : List (Option X)) (f n i c k : ℕ) (zs : List X) → IsPacked cs f n → i + c ≤ n → f + n + k ≤ length cs + c → k ≡ length zs
      → splice (shifted (f + i + c) (f + i + k) (n - i - c) (blanked None (f + i) c cs)) (f + i) (f + i + k) (map Some zs) ≡ packed f (splice (somes cs) i (i + c) zs) (length cs - (f + n) + c - k)
  replaced-run cs f n i c k zs p h r e =
      let xs = somes cs in
      let a : length (take i xs) ≡ i = length-take-le i xs (omega (arith, h, p.count)) in
      ap (λ (l : List (Option X)). splice l (f + i) (f + i + k) (map Some zs)) (widened cs f n i c k p h r) ∙ filled-gap f (take i xs) (drop (i + c) xs) zs (length cs - (f + n) + c - k) (f + i) k (omega (arith, a)) e

  -- a row in which other items stand in the place of a run
  pub replaced-row : (cs ds : List (Option X)) (f n i c k : ℕ) (zs : List X) → IsPacked cs f n → i + c ≤ length (somes cs) → length (somes cs) + k ≤ length cs - f + c → k ≡ length zs
      → ds ≡ splice (shifted (f + i + c) (f + i + k) (n - i - c) (blanked None (f + i) c cs)) (f + i) (f + i + k) (map Some zs)
      → IsPacked ds f (n - c + k) × (somes ds ≡ splice (somes cs) i (i + c) zs)
  replaced-row cs ds f n i c k zs p h r e d =
      let ys = splice (somes cs) i (i + c) zs in
      let m = length cs - (f + n) + c - k in
      let long = length-splice (somes cs) zs i c h in
      let places : ds ≡ packed f ys m = d ∙ replaced-run cs f n i c k zs p (omega (arith, h, p.count)) (omega (arith, r, p.count, p.fits)) e in
      (is_packed f ys m (n - c + k) ds places (omega (arith, long, e, h, p.count)) (omega (arith, long, e, h, r, p.count, p.fits, p.small)), rw places (somes-packed f ys m))

  -- what holds of each item holds of each then
  pub All-splice : (P : X → Type 0) (xs ys : List X) (i j : ℕ) → All P xs → All P ys → All P (splice xs i j ys)
  All-splice P xs ys i j a b = All-append P (take i xs) (ys ++ drop j xs) (All-take P i xs a) (All-append P ys (drop j xs) b (All-drop P j xs a))

-- another item of the same plain value in a place
pub map-set-same : {A B : Type 0} (f : A → B) (xs : List A) (i : ℕ) (x y : A) → y ≡ get_or xs i y → f x ≡ f y → map f (set xs i x) ≡ map f xs
map-set-same f [] i x y e h = refl
map-set-same f (z ∷ xs) zero x y e h = cc
map-set-same f (z ∷ xs) (suc i) x y e h = ap (λ l. f z ∷ l) (map-set-same f xs i x y e h)
