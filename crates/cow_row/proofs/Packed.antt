-- The places of a row through each step of its calls.
use Rattle.std.proofs.Common.{◌≡◌, ℕ, zero, suc, ◌+◌, ◌-◌, ◌<◌, ◌≤◌, ◌^◌, List, [], ◌∷◌, ◌++◌, length, set, replicate, slice_get, Option, Some, None, refl, sym, ap, ◌∙◌, subst, arith, length-append, length-set, add-one, take, drop, swap}
use Rattle.std.proofs.lemmas.List.{length-map, length-replicate, length-take-le, get_or-set_other}
use Rattle.std.proofs.lemmas.List.Edits.{swap_is}
use Rattle.std.proofs.lemmas.Option.{get_or_from_slice_get}
use Rattle.cow_buf.specs.Places.{IsFilled}
use Rattle.cow_row.specs.Places.{somes, place, packed, IsPacked}

module _ {X : Type 0} where
  -- empty places show no item
  pub somes-none : (m : ℕ) → somes {X = X} (replicate m None) ≡ []
  somes-none zero = refl
  somes-none (suc m) = somes-none m

  -- the places of a row show its items
  pub somes-packed : (f : ℕ) (xs : List X) (m : ℕ) → somes (packed f xs m) ≡ xs
  somes-packed zero [] m = somes-none m
  somes-packed zero (x ∷ xs) m = ap (λ l. x ∷ l) (somes-packed zero xs m)
  somes-packed (suc f) xs m = somes-packed f xs m

  pub length-packed : (f : ℕ) (xs : List X) (m : ℕ) → length (packed f xs m) ≡ f + (length xs + m)
  length-packed f xs m = simp (length-append, length-map, length-replicate)

  -- past the empty places in front, places are counted from the first item on
  pub front-get : (f : ℕ) (l : List (Option X)) (i : ℕ) → place (replicate f None ++ l) (f + i) ≡ place l i
  front-get zero l i = let e : 0 + i ≡ i = omega arith in rw e refl
  front-get (suc f) l i = let e : suc f + i ≡ suc (f + i) = omega arith in rw e (front-get f l i)

  pub front-set : (f : ℕ) (l : List (Option X)) (i : ℕ) (x : Option X) → set (replicate f None ++ l) (f + i) x ≡ replicate f None ++ set l i x
  front-set zero l i x = let e : 0 + i ≡ i = omega arith in rw e refl
  front-set (suc f) l i x = let e : suc f + i ≡ suc (f + i) = omega arith in rw e (ap (λ l. None ∷ l) (front-set f l i x))

  place-items : (xs : List X) (m i : ℕ) → i < length xs → place (packed 0 xs m) i ≡ slice_get xs i
  place-items [] m i h = absurd (omega arith)
  place-items (x ∷ xs) m zero h = refl
  place-items (x ∷ xs) m (suc i) h = place-items xs m i (omega arith)

  past-items : (xs : List X) (m : ℕ) → place (packed 0 xs m) (length xs) ≡ None
  past-items [] zero = refl
  past-items [] (suc m) = refl
  past-items (x ∷ xs) m = past-items xs m

  push-items : (xs : List X) (m : ℕ) (x : X) → set (packed 0 xs (suc m)) (length xs) (Some x) ≡ packed 0 (xs ++ x ∷ []) m
  push-items [] m x = refl
  push-items (y ∷ xs) m x = ap (λ l. Some y ∷ l) (push-items xs m x)

  set-items : (xs : List X) (m i : ℕ) (x : X) → i < length xs → set (packed 0 xs m) i (Some x) ≡ packed 0 (set xs i x) m
  set-items [] m i x h = absurd (omega arith)
  set-items (y ∷ xs) m zero x h = refl
  set-items (y ∷ xs) m (suc i) x h = ap (λ l. Some y ∷ l) (set-items xs m i x (omega arith))

  pop-items : (xs : List X) (m : ℕ) (x : X) → set (packed 0 (xs ++ x ∷ []) m) (length xs) None ≡ packed 0 xs (suc m)
  pop-items [] m x = refl
  pop-items (y ∷ xs) m x = ap (λ l. Some y ∷ l) (pop-items xs m x)

  -- what stands at the place of item i
  place-packed : (f : ℕ) (xs : List X) (m i : ℕ) → i < length xs → place (packed f xs m) (f + i) ≡ slice_get xs i
  place-packed f xs m i h = front-get f (packed 0 xs m) i ∙ place-items xs m i h

  -- the place after the last item is empty
  place-past : (f : ℕ) (xs : List X) (m : ℕ) → place (packed f xs m) (f + length xs) ≡ None
  place-past f xs m = front-get f (packed 0 xs m) (length xs) ∙ past-items xs m

  -- one more item at the end
  push-packed : (f : ℕ) (xs : List X) (m : ℕ) (x : X) → set (packed f xs (suc m)) (f + length xs) (Some x) ≡ packed f (xs ++ x ∷ []) m
  push-packed f xs m x = front-set f (packed 0 xs (suc m)) (length xs) (Some x) ∙ ap (λ l. replicate f None ++ l) (push-items xs m x)

  -- another item in the place of item i
  set-packed : (f : ℕ) (xs : List X) (m i : ℕ) (x : X) → i < length xs → set (packed f xs m) (f + i) (Some x) ≡ packed f (set xs i x) m
  set-packed f xs m i x h = front-set f (packed 0 xs m) i (Some x) ∙ ap (λ l. replicate f None ++ l) (set-items xs m i x h)

  -- the last item goes
  pop-packed : (f : ℕ) (xs : List X) (m : ℕ) (x : X) → set (packed f (xs ++ x ∷ []) m) (f + length xs) None ≡ packed f xs (suc m)
  pop-packed f xs m x = front-set f (packed 0 (xs ++ x ∷ []) m) (length xs) None ∙ ap (λ l. replicate f None ++ l) (pop-items xs m x)

  -- the first item goes
  pop_front-packed : (f : ℕ) (xs : List X) (m : ℕ) (x : X) → set (packed f (x ∷ xs) m) f None ≡ packed (suc f) xs m
  pop_front-packed zero xs m x = refl
  pop_front-packed (suc f) xs m x = ap (λ l. None ∷ l) (pop_front-packed f xs m x)

  -- a write to a place hides an earlier one
  pub set-set : (cs : List (Option X)) (i : ℕ) (x y : Option X) → set (set cs i x) i y ≡ set cs i y
  set-set [] i x y = refl
  set-set (c ∷ cs) zero x y = refl
  set-set (c ∷ cs) (suc i) x y = ap (λ l. c ∷ l) (set-set cs i x y)

  -- items and empty places make a row
  pub is_packed : (f : ℕ) (xs : List X) (m n : ℕ) (cs : List (Option X)) → cs ≡ packed f xs m → n ≡ length xs → f + (length xs + m) ≤ 2 ^ 32 → IsPacked cs f n
  is_packed f xs m n cs e l s = rw (e, l) (record {
    places = let same : f + (length xs + m) - (f + length xs) ≡ m = omega arith in rw (somes-packed f xs m, length-packed f xs m, same) refl;
    count = rw (somes-packed f xs m) refl;
    fits = rw (length-packed f xs m) (omega arith);
    small = rw (length-packed f xs m) s;
  })

  item_at : (xs : List X) (i : ℕ) → i < length xs → (x : X) × (slice_get xs i ≡ Some x)
  item_at [] i h = absurd (omega arith)
  item_at (x ∷ xs) zero h = (x, refl)
  item_at (x ∷ xs) (suc i) h = item_at xs i (omega arith)

  -- the place of item i holds it
  pub filled_at : (cs : List (Option X)) (f n i : ℕ) → IsPacked cs f n → i < n → place cs (f + i) ≡ slice_get (somes cs) i
  filled_at cs f n i p h = subst (λ (l : List (Option X)). place l (f + i) ≡ slice_get (somes cs) i) (sym p.places) (place-packed f (somes cs) (length cs - (f + n)) i (omega (arith, p.count)))

  pub is_filled : (cs : List (Option X)) (f n i : ℕ) → IsPacked cs f n → i < n → IsFilled cs (f + i)
  is_filled cs f n i p h = let it = item_at (somes cs) i (omega (arith, p.count)) in (it.0, filled_at cs f n i p h ∙ it.1)

  -- a row with one more item
  pub pushed : (cs : List (Option X)) (f n m : ℕ) (x : X) → IsPacked cs f n → length cs - (f + n) ≡ suc m → set cs (f + n) (Some x) ≡ packed f (somes cs ++ x ∷ []) m
  pushed cs f n m x p e = subst (λ (l : List (Option X)). set l (f + n) (Some x) ≡ packed f (somes cs ++ x ∷ []) m) (sym p.places)
      (subst (λ (k : ℕ). set (packed f (somes cs) (length cs - (f + n))) (f + k) (Some x) ≡ packed f (somes cs ++ x ∷ []) m) p.count (rw e (push-packed f (somes cs) m x)))

  pub IsPacked-push : (cs : List (Option X)) (f n : ℕ) (x : X) → IsPacked cs f n → f + n < length cs → IsPacked (set cs (f + n) (Some x)) f (n + 1)
  IsPacked-push cs f n x p h =
      let e = pushed cs f n (length cs - (f + n) - 1) x p (omega arith) in
      is_packed f (somes cs ++ x ∷ []) (length cs - (f + n) - 1) (n + 1) (set cs (f + n) (Some x)) e (omega (arith, p.count, length-append (somes cs) (x ∷ []))) (omega (arith, p.count, p.small, length-append (somes cs) (x ∷ [])))

  pub somes-push : (cs : List (Option X)) (f n : ℕ) (x : X) → IsPacked cs f n → f + n < length cs → somes (set cs (f + n) (Some x)) ≡ somes cs ++ x ∷ []
  somes-push cs f n x p h = rw (pushed cs f n (length cs - (f + n) - 1) x p (omega arith)) (somes-packed f (somes cs ++ x ∷ []) (length cs - (f + n) - 1))

  -- a row with another item in a place
  pub replaced : (cs : List (Option X)) (f n i : ℕ) (x : X) → IsPacked cs f n → i < n → set cs (f + i) (Some x) ≡ packed f (set (somes cs) i x) (length cs - (f + n))
  replaced cs f n i x p h = subst (λ (l : List (Option X)). set l (f + i) (Some x) ≡ packed f (set (somes cs) i x) (length cs - (f + n))) (sym p.places) (set-packed f (somes cs) (length cs - (f + n)) i x (omega (arith, p.count)))

  pub IsPacked-set : (cs : List (Option X)) (f n i : ℕ) (x : X) → IsPacked cs f n → i < n → IsPacked (set cs (f + i) (Some x)) f n
  IsPacked-set cs f n i x p h =
      is_packed f (set (somes cs) i x) (length cs - (f + n)) n (set cs (f + i) (Some x)) (replaced cs f n i x p h) (omega (arith, p.count, length-set (somes cs) i x)) (omega (arith, p.count, p.fits, p.small, length-set (somes cs) i x))

  pub somes-set : (cs : List (Option X)) (f n i : ℕ) (x : X) → IsPacked cs f n → i < n → somes (set cs (f + i) (Some x)) ≡ set (somes cs) i x
  somes-set cs f n i x p h = rw (replaced cs f n i x p h) (somes-packed f (set (somes cs) i x) (length cs - (f + n)))

  -- a list is its first k items and the last one
  pub last-split : (xs : List X) (k : ℕ) (x : X) → length xs ≡ suc k → slice_get xs k ≡ Some x → xs ≡ take k xs ++ x ∷ []
  last-split [] k x l e = absurd (omega arith)
  last-split (y ∷ []) zero x l e = cc
  last-split (y ∷ []) (suc k) x l e = absurd (omega arith)
  last-split (y ∷ (z ∷ xs)) zero x l e = absurd (omega arith)
  last-split (y ∷ (z ∷ xs)) (suc k) x l e = ap (λ l. y ∷ l) (last-split (z ∷ xs) k x (omega arith) e)

  last_of : (cs : List (Option X)) (f k : ℕ) (x : X) → IsPacked cs f (suc k) → place cs (f + k) ≡ Some x → somes cs ≡ take k (somes cs) ++ x ∷ []
  last_of cs f k x p e = last-split (somes cs) k x p.count (sym (filled_at cs f (suc k) k p (omega arith)) ∙ e)

  -- a row without its last item
  pub popped : (cs : List (Option X)) (f k : ℕ) (x : X) → IsPacked cs f (suc k) → place cs (f + k) ≡ Some x → set cs (f + k) None ≡ packed f (take k (somes cs)) (suc (length cs - (f + suc k)))
  popped cs f k x p e =
      let xs = take k (somes cs) in
      let m = length cs - (f + suc k) in
      let split : somes cs ≡ xs ++ x ∷ [] = last_of cs f k x p e in
      let long : length xs ≡ k = length-take-le k (somes cs) (omega (arith, p.count)) in
      subst (λ (l : List (Option X)). set l (f + k) None ≡ packed f xs (suc m)) (sym p.places)
      (subst (λ (l : List X). set (packed f l m) (f + k) None ≡ packed f xs (suc m)) (sym split)
      (subst (λ (i : ℕ). set (packed f (xs ++ x ∷ []) m) (f + i) None ≡ packed f xs (suc m)) long (pop-packed f xs m x)))

  pub IsPacked-pop : (cs : List (Option X)) (f k : ℕ) (x : X) → IsPacked cs f (suc k) → place cs (f + k) ≡ Some x → IsPacked (set cs (f + k) None) f k
  IsPacked-pop cs f k x p e =
      let long : length (take k (somes cs)) ≡ k = length-take-le k (somes cs) (omega (arith, p.count)) in
      is_packed f (take k (somes cs)) (suc (length cs - (f + suc k))) k (set cs (f + k) None) (popped cs f k x p e) (sym long) (omega (arith, p.count, p.fits, p.small))

  pub somes-pop : (cs : List (Option X)) (f k : ℕ) (x : X) → IsPacked cs f (suc k) → place cs (f + k) ≡ Some x → somes cs ≡ somes (set cs (f + k) None) ++ x ∷ []
  somes-pop cs f k x p e = rw (popped cs f k x p e, somes-packed f (take k (somes cs))) (last_of cs f k x p e)

  first-split : (xs : List X) (k : ℕ) (x : X) → length xs ≡ suc k → slice_get xs 0 ≡ Some x → xs ≡ x ∷ drop 1 xs
  first-split [] k x l e = cc
  first-split (y ∷ xs) k x l e = cc

  first_of : (cs : List (Option X)) (f k : ℕ) (x : X) → IsPacked cs f (suc k) → place cs f ≡ Some x → somes cs ≡ x ∷ drop 1 (somes cs)
  first_of cs f k x p e =
      let start : f + 0 ≡ f = omega arith in
      let at : place cs f ≡ slice_get (somes cs) 0 = rw start at (filled_at cs f (suc k) 0 p (omega arith)) in
      first-split (somes cs) k x p.count (sym at ∙ e)

  -- a row without its first item
  pub popped_front : (cs : List (Option X)) (f k : ℕ) (x : X) → IsPacked cs f (suc k) → place cs f ≡ Some x → set cs f None ≡ packed (suc f) (drop 1 (somes cs)) (length cs - (f + suc k))
  popped_front cs f k x p e =
      let xs = drop 1 (somes cs) in
      let m = length cs - (f + suc k) in
      subst (λ (l : List (Option X)). set l f None ≡ packed (suc f) xs m) (sym p.places)
      (subst (λ (l : List X). set (packed f l m) f None ≡ packed (suc f) xs m) (sym (first_of cs f k x p e)) (pop_front-packed f xs m x))

  pub IsPacked-pop_front : (cs : List (Option X)) (f k : ℕ) (x : X) → IsPacked cs f (suc k) → place cs f ≡ Some x → IsPacked (set cs f None) (f + 1) k
  IsPacked-pop_front cs f k x p e =
      let long : suc (length (drop 1 (somes cs))) ≡ suc k = subst (λ (n : ℕ). suc (length (drop 1 (somes cs))) ≡ n) p.count (sym (ap length (first_of cs f k x p e))) in
      rw add-one (is_packed (suc f) (drop 1 (somes cs)) (length cs - (f + suc k)) k (set cs f None) (popped_front cs f k x p e) (omega arith) (omega (arith, p.count, p.fits, p.small)))

  pub somes-pop_front : (cs : List (Option X)) (f k : ℕ) (x : X) → IsPacked cs f (suc k) → place cs f ≡ Some x → somes cs ≡ x ∷ somes (set cs f None)
  somes-pop_front cs f k x p e = rw (popped_front cs f k x p e, somes-packed (suc f) (drop 1 (somes cs))) (first_of cs f k x p e)

  -- two items out, and in again in each other's place
  pub set-crossed : (cs : List (Option X)) (a b : ℕ) (x y : Option X) → (a ≡ b → ⊥) → set (set (set (set cs a None) b None) a y) b x ≡ set (set cs a y) b x
  set-crossed [] a b x y h = refl
  set-crossed (c ∷ cs) zero zero x y h = absurd (h refl)
  set-crossed (c ∷ cs) zero (suc b) x y h = ap (λ l. y ∷ l) (set-set cs b None x)
  set-crossed (c ∷ cs) (suc a) zero x y h = ap (λ l. x ∷ l) (set-set cs a None y)
  set-crossed (c ∷ cs) (suc a) (suc b) x y h = ap (λ l. c ∷ l) (set-crossed cs a b x y (λ e. h (ap suc e)))

  -- a row with two items in each other's place
  pub swapped : (cs : List (Option X)) (f n i j : ℕ) (x y : X) → IsPacked cs f n → i < n → j < n → slice_get (somes cs) i ≡ Some x → slice_get (somes cs) j ≡ Some y → set (set cs (f + i) (Some y)) (f + j) (Some x) ≡ packed f (swap (somes cs) i j) (length cs - (f + n))
  swapped cs f n i j x y p hi hj ei ej =
      let xs = somes cs in
      let m = length cs - (f + n) in
      let li : i < length xs = omega (arith, p.count) in
      let lj : j < length xs = omega (arith, p.count) in
      let long : j < length (set xs i y) = omega (arith, lj, length-set xs i y) in
      let first : set (set cs (f + i) (Some y)) (f + j) (Some x) ≡ set (packed f (set xs i y) m) (f + j) (Some x) = ap (λ (l : List (Option X)). set l (f + j) (Some x)) (replaced cs f n i y p hi) in
      let both : set (set xs i y) j x ≡ swap xs i j = rw (get_or_from_slice_get xs j y x ej, get_or_from_slice_get xs i x x ei) at (swap_is xs i j x li lj) in
      first ∙ set-packed f (set xs i y) m j x long ∙ ap (λ (l : List X). packed f l m) both

  -- the places after two items were taken out and put back in each other's place
  pub exchanged : (cs c1 c2 c3 c4 : List (Option X)) (f n i j : ℕ) (x y : X) → IsPacked cs f n → i < n → j < n → (f + i ≡ f + j → ⊥)
      → place cs (f + i) ≡ Some x → c1 ≡ set cs (f + i) None → place c1 (f + j) ≡ Some y → c2 ≡ set c1 (f + j) None
      → c3 ≡ set c2 (f + i) (Some y) → c4 ≡ set c3 (f + j) (Some x) → c4 ≡ packed f (swap (somes cs) i j) (length cs - (f + n))
  exchanged cs c1 c2 c3 c4 f n i j x y p hi hj apart px e1 py e2 e3 e4 =
      let x-at : slice_get (somes cs) i ≡ Some x = sym (filled_at cs f n i p hi) ∙ px in
      let still : place c1 (f + j) ≡ place cs (f + j) = rw e1 (get_or-set_other cs (f + i) (f + j) None None (λ e. apart (sym e))) in
      let y-at : slice_get (somes cs) j ≡ Some y = sym (filled_at cs f n j p hj) ∙ sym still ∙ py in
      rw (e4, e3, e2, e1) (set-crossed cs (f + i) (f + j) (Some x) (Some y) apart ∙ swapped cs f n i j x y p hi hj x-at y-at)
