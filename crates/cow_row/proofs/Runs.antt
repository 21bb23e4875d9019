-- Runs of a row's items, and rows that stay sound.
use Rattle.std.proofs.Common.{◌≡◌, ℕ, zero, suc, ◌+◌, ◌<◌, ◌≤◌, List, [], ◌∷◌, ◌++◌, length, map, take, drop, set, All, remove, Some, None, slice_get, Bool, cond, count_by, refl, sym, ap, ◌∙◌, arith, swap, reverse, get_or, IsPermutation, add-one}
use Rattle.std.proofs.lemmas.List.{take-map, drop-map, take_all, drop-set-add, map-set, length-map, map-append, get_or-map, reverse-append, length-take-le, length-drop, drop-take, drop-append-le}
use Rattle.std.proofs.lemmas.Option.{slice_get-map, slice_get_within, get_or_from_slice_get}
use Rattle.std.proofs.lemmas.List.Elements.{All-drop}
use Rattle.std.proofs.lemmas.List.Sorted.{IsPermutation-map, IsPermutation-swap, All-permutation, length_permutation, sum_by_popped}
use Rattle.std.proofs.Math.Seq.{take-suc}
use Rattle.std.proofs.lemmas.List.Edits.{length-remove, length-swap, swap_is}
use Rattle.std.proofs.lemmas.List.Sums.{sum_by-take-drop, sum_by-set, sum_by_more_le}
use Rattle.cow_model.specs.Purse.{unit_if}
use Rattle.cow_row.specs.RowView.{RowView, IsSound}
use Rattle.cow_model.proofs.ListSteps.{All-remove}

slice_get-nil : {A : Type 0} (i : ℕ) → None ≡ slice_get {X = A} [] i
slice_get-nil i = refl

-- an item past the first a
pub slice_get-drop : {A : Type 0} (xs : List A) (a i : ℕ) → slice_get (drop a xs) i ≡ slice_get xs (a + i)
slice_get-drop xs zero i = let e : 0 + i ≡ i = omega arith in rw e refl
slice_get-drop [] (suc a) i = slice_get-nil (suc a + i)
slice_get-drop (x ∷ xs) (suc a) i = let e : suc a + i ≡ suc (a + i) = omega arith in rw e (slice_get-drop xs a i)

slice_get-take : {A : Type 0} (xs : List A) (n k : ℕ) → k < n → slice_get (take n xs) k ≡ slice_get xs k
slice_get-take xs zero k h = absurd (omega arith)
slice_get-take [] (suc n) k h = refl
slice_get-take (x ∷ xs) (suc n) zero h = refl
slice_get-take (x ∷ xs) (suc n) (suc k) h = slice_get-take xs n k (omega arith)

take-set-in : {A : Type 0} (xs : List A) (n k : ℕ) (x : A) → take n (set xs k x) ≡ set (take n xs) k x
take-set-in xs zero k x = refl
take-set-in [] (suc n) k x = refl
take-set-in (y ∷ xs) (suc n) zero x = refl
take-set-in (y ∷ xs) (suc n) (suc k) x = ap (λ l. y ∷ l) (take-set-in xs n k x)

All-tail : {A : Type 0} (P : A → Type 0) (x : A) (xs : List A) → All P (x ∷ xs) → All P xs
All-tail P x xs h = All-drop P 1 (x ∷ xs) h

-- a run has no more that pass than the list
pub count_by-run : {A : Type 0} (p : A → Bool) (xs : List A) (a n : ℕ) → count_by p (take n (drop a xs)) ≤ count_by p xs
count_by-run p xs a n = omega (arith, sum_by-take-drop (λ y. cond (p y) 1 0) (drop a xs) n, sum_by-take-drop (λ y. cond (p y) 1 0) xs a)

-- the plain values of a run have no more units than those of the list
pub units-run : {A B : Type 0} (f : A → B) (p : B → Bool) (xs : List A) (a n : ℕ) → count_by p (map f (take n (drop a xs))) ≤ count_by p (map f xs)
units-run f p xs a n = rw (← take-map f n (drop a xs), ← drop-map f a xs) (count_by-run p (map f xs) a n)

-- a row stays sound where an item leaves it
pub IsSound-remove : {T : Type 0} (P : T → Type 0) (r : RowView T) (i : ℕ) → i < length r.items → IsSound P r → IsSound P (record r { items = remove r.items i })
IsSound-remove P r i h s = record {
  settled = All-remove P r.items i s.settled;
  fits = omega (arith, length-remove r.items i h, s.fits);
  small = omega (arith, length-remove r.items i h, s.small);
}

-- an item of a run
pub slice_get-run : {A : Type 0} (xs : List A) (a n k : ℕ) → k < n → slice_get (take n (drop a xs)) k ≡ slice_get xs (a + k)
slice_get-run xs a n k h = slice_get-take (drop a xs) n k h ∙ slice_get-drop xs a k

-- another item in a place of a run
pub set-run : {A : Type 0} (xs : List A) (a n k : ℕ) (x : A) → take n (drop a (set xs (a + k) x)) ≡ set (take n (drop a xs)) k x
set-run xs a n k x = rw (drop-set-add a xs k x) (take-set-in (drop a xs) n k x)

-- the units of a list with another item in a place
pub units-set : {A B : Type 0} (f : A → B) (p : B → Bool) (xs : List A) (i : ℕ) (x : A) → i < length xs → count_by p (map f (set xs i x)) ≤ count_by p (map f xs) + unit_if (p (f x))
units-set f p xs i x h = rw (map-set f xs i x) (omega (arith, sum_by-set (λ y. cond (p y) 1 0) (map f xs) i (f x) (f x) (omega (arith, length-map xs f))))

-- an item's unit is one of the list's
pub unit-in : {A B : Type 0} (f : A → B) (p : B → Bool) (xs : List A) (i : ℕ) (x : A) → slice_get xs i ≡ Some x → unit_if (p (f x)) ≤ count_by p (map f xs)
unit-in f p xs i x e =
    let at : slice_get (map f xs) i ≡ Some (f x) = rw (slice_get-map f xs i, e) refl in
    let found : get_or (map f xs) i (f x) ≡ f x = get_or_from_slice_get (map f xs) i (f x) (f x) at in
    let one = sum_by_more_le (λ y. cond (p y) 1 0) (map f xs) i (f x) (slice_get_within (map f xs) i (f x) at) in
    omega (arith, rw found at one)

-- the units of what is left where an item is taken out
pub units-out : {A B : Type 0} (f : A → B) (p : B → Bool) (xs ys : List A) (x : A) → IsPermutation xs (x ∷ ys) → count_by p (map f ys) ≤ count_by p (map f xs)
units-out f p xs ys x h = omega (arith, sum_by_popped (λ y. cond (p y) 1 0) (f x) (map f xs) (map f ys) (IsPermutation-map f xs (x ∷ ys) h))

-- a row stays sound where an item leaves it and the others change places
pub IsSound-out : {T : Type 0} (P : T → Type 0) (r s : RowView T) (x : T) → IsPermutation r.items (x ∷ s.items) → s.capacity + 1 ≡ r.capacity → IsSound P r → IsSound P s
IsSound-out P r s x h e p =
    let long = length_permutation r.items (x ∷ s.items) h in
    record {
      settled = All-tail P x s.items (All-permutation P r.items (x ∷ s.items) h p.settled);
      fits = omega (arith, long, p.fits, e);
      small = omega (arith, long, p.small);
    }

-- two places change with their plain values
pub map-swap : {A B : Type 0} (f : A → B) (xs : List A) (i j : ℕ) → i < length xs → j < length xs → map f (swap xs i j) ≡ swap (map f xs) i j
map-swap f [] i j hi hj = refl
map-swap f (d ∷ ys) i j hi hj =
    let xs = d ∷ ys in
    let li : i < length (map f xs) = omega (arith, length-map xs f) in
    let lj : j < length (map f xs) = omega (arith, length-map xs f) in
    rw (← swap_is xs i j d hi hj, ← swap_is (map f xs) i j (f d) li lj, map-set, map-set, get_or-map f xs j d (f d) hj, get_or-map f xs i d (f d) hi) refl

reverse_onto-cons : {A : Type 0} (x : A) (xs : List A) → reverse (x ∷ xs) ≡ reverse xs ++ x ∷ []
reverse_onto-cons x xs = reverse-append (x ∷ []) xs

-- the plain values of a list in the opposite order
pub map-reverse : {A B : Type 0} (f : A → B) (xs : List A) → map f (reverse xs) ≡ reverse (map f xs)
map-reverse f [] = refl
map-reverse f (x ∷ xs) = rw (reverse_onto-cons x xs, reverse_onto-cons (f x) (map f xs), map-append, map-reverse f xs) refl

-- a row stays sound where two items change places
pub IsSound-swap : {T : Type 0} (P : T → Type 0) (r : RowView T) (i j : ℕ) → i < length r.items → j < length r.items → IsSound P r → IsSound P (record r { items = swap r.items i j })
IsSound-swap P r i j hi hj p = record {
  settled = All-permutation P r.items (swap r.items i j) (IsPermutation-swap r.items (swap r.items i j) i j hi hj refl) p.settled;
  fits = omega (arith, length-swap r.items i j, p.fits);
  small = omega (arith, length-swap r.items i j, p.small);
}

-- the plain values of a run with another item in a place
pub set-run-plain : {A B : Type 0} (f : A → B) (xs ys : List A) (s a n k : ℕ) (x y : A) → map f (take n (drop s xs)) ≡ map f (take n (drop a ys)) → f x ≡ f y → map f (take n (drop s (set xs (s + k) x))) ≡ set (map f (take n (drop a ys))) k (f y)
set-run-plain f xs ys s a n k x y e h = rw (set-run xs s n k x, map-set, e, h) refl

-- the plain values of a run with one more item behind it
pub append-run-plain : {A B : Type 0} (f : A → B) (xs zs ys : List A) (s a n : ℕ) (x y : A) → s + n ≤ length xs → take (s + n + 1) zs ≡ take (s + n) xs ++ x ∷ [] → map f (take n (drop s xs)) ≡ map f (take n (drop a ys)) → f x ≡ f y → map f (take (n + 1) (drop s zs)) ≡ map f (take n (drop a ys)) ++ f y ∷ []
append-run-plain f xs zs ys s a n x y h e r p =
    let sum : s + n + 1 ≡ s + (n + 1) = omega arith in
    let long : length (take (s + n) xs) ≡ s + n = length-take-le (s + n) xs h in
    let whole : take (n + 1) (drop s zs) ≡ drop s (take (s + n) xs ++ x ∷ []) = sym (drop-take s (n + 1) zs) ∙ ap (drop s) (rw sum at e) in
    let parts : drop s (take (s + n) xs ++ x ∷ []) ≡ take n (drop s xs) ++ x ∷ [] = drop-append-le s (take (s + n) xs) (x ∷ []) (omega arith) ∙ ap (λ l. l ++ x ∷ []) (drop-take s n xs) in
    rw (whole, parts, map-append, r, p) refl

-- the plain value of an item of a run
pub get-run-plain : {A B : Type 0} (f : A → B) (xs : List A) (a n k : ℕ) (x : A) → k < n → slice_get xs (a + k) ≡ Some x → slice_get (map f (take n (drop a xs))) k ≡ Some (f x)
get-run-plain f xs a n k x h e = rw (slice_get-map f (take n (drop a xs)) k, slice_get-run xs a n k h, e) refl

-- the same of a run that shows what another one did
pub get-same-plain : {A B : Type 0} (f : A → B) (xs ys : List A) (s a n k : ℕ) (x : A) → k < n → map f (take n (drop s xs)) ≡ map f (take n (drop a ys)) → slice_get xs (s + k) ≡ Some x → slice_get (map f (take n (drop a ys))) k ≡ Some (f x)
get-same-plain f xs ys s a n k x h r e = rw (← r) (get-run-plain f xs s n k x h e)

-- one more element read by its index
pub take-more : {A : Type 0} (xs : List A) (i : ℕ) (x : A) → slice_get xs i ≡ Some x → take (i + 1) xs ≡ take i xs ++ x ∷ []
take-more xs i x e = rw (add-one, take-suc xs i x (slice_get_within xs i x e), get_or_from_slice_get xs i x x e) refl

pub length-run-plain : {A B : Type 0} (f : A → B) (xs : List A) (a n : ℕ) → a + n ≤ length xs → length (map f (take n (drop a xs))) ≡ n
length-run-plain f xs a n h = rw (length-map (take n (drop a xs)) f, length-take-le n (drop a xs) (omega (arith, length-drop a xs))) refl

-- how the plain values of a row follow its changes
pub ruleset row_steps = (map-set, map-append, slice_get-map, take-map, drop-map, map-reverse, map-swap)
