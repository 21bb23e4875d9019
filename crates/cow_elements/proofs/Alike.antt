-- When a change leaves a list the same.
use Rattle.std.proofs.Common.{◌≡◌, ℕ, ◌+◌, ◌-◌, ◌<◌, ◌≤◌, pos, Bool, true, List, [], ◌∷◌, ◌++◌, length, take, drop, reverse, get_or, set, swap, slice_get, Some, refl, sym, ap, ◌∙◌, arith}
use Rattle.std.specs.Bool.{Decides}
use Rattle.std.proofs.lemmas.Option.{get_or_from_slice_get, slice_get-get_or}
use Rattle.std.proofs.lemmas.List.{get_or-set_same, set-get_or, get_or-drop, get_or-reverse, length-reverse, length-set, length-append, length-drop, take_more_same, take-append-drop, drop-drop, append_assoc, append_cancel_left, append_cancel_right, append-nil, take_all}
use Rattle.std.proofs.lemmas.List.Edits.{swap_is}
use Rattle.cow_deque.proofs.Turns.{length-turned, turned-at}
use Rattle.cow_deque.specs.Rings.{turned, Wraps}
use Rattle.cow_model.specs.Plain.{same_items}
use Rattle.cow_model.specs.declared.plain.Literal.{Literal}
use Rattle.cow_model.specs.declared.plain.Literal.TheVariants as literal
use Rattle.cow_elements.proofs.Equals.{tells-same}

-- a list is the same as itself
pub itself : (xs : List Literal) → true ≡ same_items xs xs
itself xs = tells-same true xs xs (λ t. refl, λ e. refl)

-- an atom set in its own place
set-own : {A : Type 0} (xs : List A) (i : ℕ) (a : A) → slice_get xs i ≡ Some a → xs ≡ set xs i a
set-own xs i a e = sym (rw (get_or_from_slice_get xs i a a e) at (set-get_or xs i a))

-- a list that an atom set in it leaves the same
own-set : {A : Type 0} (xs : List A) (i : ℕ) (a : A) → i < length xs → xs ≡ set xs i a → slice_get xs i ≡ Some a
own-set xs i a lt e =
    let there = get_or-set_same xs i a a lt in
    let here : get_or xs i a ≡ a = rw (← e) at there in
    rw (slice_get-get_or xs i a lt, here) refl

-- `set` leaves a list the same where the atom is there
pub set-same : (r : Bool) (xs : List Literal) (i : ℕ) (a : Literal) → i < length xs → Decides r (slice_get xs i ≡ Some a) → r ≡ same_items xs (set xs i a)
set-same r xs i a lt d = tells-same r xs (set xs i a) (λ t. set-own xs i a (d.0 t), λ e. d.1 (own-set xs i a lt e))

-- one element in two places
pub swap-own : {A : Type 0} (d : A) (xs : List A) (i j : ℕ) → i < length xs → j < length xs → get_or xs i d ≡ get_or xs j d → xs ≡ swap xs i j
swap-own d xs i j lt less e =
    let w = swap_is xs i j d lt less in
    let v = rw (← e, set-get_or xs i d, e, set-get_or xs j d) at w in
    v

-- a list that a swap leaves the same
pub own-swap : {A : Type 0} (d : A) (xs : List A) (i j : ℕ) → i < length xs → j < length xs → xs ≡ swap xs i j → get_or xs i d ≡ get_or xs j d
own-swap d xs i j lt less e =
    let first = set xs i (get_or xs j d) in
    let within : j < length first = rw (length-set xs i (get_or xs j d)) less in
    let there : get_or (set first j (get_or xs i d)) j d ≡ get_or xs i d = get_or-set_same first j (get_or xs i d) d within in
    sym (rw (swap_is xs i j d lt less, ← e) at there)

-- two places show one element where what is read there is one
places-same : (d : Literal) (xs : List Literal) (i j : ℕ) → i < length xs → j < length xs → slice_get xs i ≡ slice_get xs j → get_or xs i d ≡ get_or xs j d
places-same d xs i j lt less e = get_or_from_slice_get xs i (get_or xs j d) d (e ∙ slice_get-get_or xs j d less)

-- and the other way round
same-places : (d : Literal) (xs : List Literal) (i j : ℕ) → i < length xs → j < length xs → get_or xs i d ≡ get_or xs j d → slice_get xs i ≡ slice_get xs j
same-places d xs i j lt less e = rw (slice_get-get_or xs i d lt, slice_get-get_or xs j d less, e) refl

-- `swap` leaves a list the same where the two elements are one
pub swap-same : (r : Bool) (xs : List Literal) (i j : ℕ) → i < length xs → j < length xs → Decides r (slice_get xs i ≡ slice_get xs j) → r ≡ same_items xs (swap xs i j)
swap-same r xs i j lt less d =
    let zero = literal.Int (pos 0) in
    tells-same r xs (swap xs i j) (
      (λ t. swap-own zero xs i j lt less (places-same zero xs i j lt less (d.0 t))),
      (λ e. d.1 (same-places zero xs i j lt less (own-swap zero xs i j lt less e))),
    )

-- one more element that is the same in the opposite order
pub mirrored-more : (xs : List Literal) (i : ℕ) → i < length xs → take i xs ≡ take i (reverse xs) → slice_get xs i ≡ slice_get xs (length xs - 1 - i) → take (i + 1) xs ≡ take (i + 1) (reverse xs)
mirrored-more xs i lt h e =
    let zero = literal.Int (pos 0) in
    take_more_same xs (reverse xs) i zero lt (rw (length-reverse xs) lt) h (places-same zero xs i (length xs - 1 - i) lt (omega (arith, lt)) e ∙ sym (get_or-reverse xs i zero lt))

-- one more element that is the same where the first k stand last
pub turned-more : (xs : List Literal) (k i p : ℕ) → k ≤ length xs → i < length xs → Wraps k i (length xs) p → take i xs ≡ take i (turned k xs) → slice_get xs i ≡ slice_get xs p → take (i + 1) xs ≡ take (i + 1) (turned k xs)
turned-more xs k i p le lt w h e =
    let zero = literal.Int (pos 0) in
    take_more_same xs (turned k xs) i zero lt (rw (length-turned k xs) lt) h (places-same zero xs i p lt w.0 e ∙ sym (turned-at xs k i p zero le lt w))

-- a list that is the same then shows one element in both places
pub turned-shows : (xs : List Literal) (k i p : ℕ) → k ≤ length xs → i < length xs → Wraps k i (length xs) p → xs ≡ turned k xs → slice_get xs i ≡ slice_get xs p
turned-shows xs k i p le lt w e =
    let zero = literal.Int (pos 0) in
    let one : get_or xs i zero ≡ get_or xs p zero = ap (λ (l : List Literal). get_or l i zero) e ∙ turned-at xs k i p zero le lt w in
    same-places zero xs i p lt w.0 one

-- all of its elements are
pub turned-whole : (xs : List Literal) (k n : ℕ) → n ≡ length xs → take n xs ≡ take n (turned k xs) → xs ≡ turned k xs
turned-whole xs k n e h = sym (take_all n xs (omega (arith, e))) ∙ h ∙ take_all n (turned k xs) (omega (arith, e, length-turned k xs))

-- one more element that is the atom in its place
pub shown-more : (xs atoms : List Literal) (from k : ℕ) (a : Literal) → from + k < length xs → k < length atoms → take k (drop from xs) ≡ take k atoms → slice_get xs (from + k) ≡ Some a → a ≡ get_or atoms k a → take (k + 1) (drop from xs) ≡ take (k + 1) atoms
shown-more xs atoms from k a lt less h e f =
    let within : k < length (drop from xs) = rw (length-drop from xs) (omega (arith, lt)) in
    take_more_same (drop from xs) atoms k a within less h (get_or-drop from xs k a ∙ get_or_from_slice_get xs (from + k) a a e ∙ f)

-- a list is what stands before a stretch, the stretch, and what stands behind it
stretched : (xs : List Literal) (i j : ℕ) → i ≤ j → take i xs ++ take (j - i) (drop i xs) ++ drop j xs ≡ xs
stretched xs i j le =
    let whole : i + (j - i) ≡ j = omega (arith, le) in
    let rest : drop (j - i) (drop i xs) ≡ drop j xs = rw (drop-drop (j - i) i xs, whole) refl in
    let inner : take (j - i) (drop i xs) ++ drop j xs ≡ drop i xs = rw rest at (take-append-drop (j - i) (drop i xs)) in
    append_assoc (take i xs) (take (j - i) (drop i xs)) (drop j xs) ∙ rw inner (take-append-drop i xs)

-- `splice` leaves a list the same where the stretch is the atoms
pub splice-same : (r : Bool) (xs atoms : List Literal) (i j : ℕ) → i ≤ j → Decides r (take (j - i) (drop i xs) ≡ atoms) → r ≡ same_items xs (take i xs ++ atoms ++ drop j xs)
splice-same r xs atoms i j le d =
    let middle = take (j - i) (drop i xs) in
    let whole = stretched xs i j le in
    tells-same r xs (take i xs ++ atoms ++ drop j xs) (
      (λ t. rw (d.0 t) at (sym whole)),
      (λ e. d.1 (append_cancel_left (take i xs) middle atoms (append_cancel_right (take i xs ++ middle) (take i xs ++ atoms) (drop j xs) (whole ∙ e)))),
    )

-- nothing behind a list
extend-none : (xs ys : List Literal) → length ys ≡ 0 → xs ≡ xs ++ ys
extend-none xs [] e = sym (append-nil xs)
extend-none xs (y ∷ ys) e = absurd (omega (arith, e))

-- a list that others behind it leave the same
none-extends : (xs ys : List Literal) → xs ≡ xs ++ ys → length ys ≡ 0
none-extends xs ys e = let grown : length xs ≡ length xs + length ys = ap length e ∙ length-append xs ys in omega (arith, grown)

-- `extend` leaves a list the same where the other is empty
pub extend-same : (r : Bool) (xs ys : List Literal) → Decides r (length ys ≡ 0) → r ≡ same_items xs (xs ++ ys)
extend-same r xs ys d = tells-same r xs (xs ++ ys) (λ t. extend-none xs ys (d.0 t), λ e. d.1 (none-extends xs ys e))
