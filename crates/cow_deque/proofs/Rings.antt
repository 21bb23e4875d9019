-- The places of a ring through each step of its calls.
use Rattle.std.proofs.Common.{◌≡◌, ℕ, suc, ◌+◌, ◌-◌, ◌<◌, ◌≤◌, ◌^◌, ◌⊎◌, inl, inr, List, [], ◌∷◌, ◌++◌, length, map, set, slice_get, take, drop, replicate, Option, Some, None, refl, sym, ap, ◌∙◌, arith, length-append, length-set, length-drop, append_assoc, append-nil, All}
use Rattle.std.proofs.lemmas.List.{length-map, length-replicate, set_at, drop_at, take_at, replicate_more, take-append-le, take-take, take-map, drop-map, take_all, take-append-drop, same_from_push}
use Rattle.std.proofs.lemmas.List.Elements.{All-take, All-drop}
use Rattle.std.proofs.Math.Seq.{take-append-add}
use Rattle.cow_buf.specs.Places.{IsFilled, IsRun}
use Rattle.cow_row.specs.Places.{somes, place, packed, IsPacked}
use Rattle.cow_row.proofs.Packed.{somes-packed, length-packed, is_packed, filled_at, is_filled, IsPacked-push, somes-push, IsPacked-set, somes-set, IsPacked-pop, somes-pop}
use Rattle.cow_row.proofs.Splices.{somes-some}
use Rattle.cow_row.proofs.Whole.{past_none}
use Rattle.cow_deque.specs.Rings.{turned, Wraps, IsRing}
use Rattle.cow_deque.proofs.Turns.{length-turned, turned-at, turned-set, turned-turned, turned-back, turned-same, map-turned}

module _ {X : Type 0} where
  -- the items of a ring, from front to back
  abbrev pub items_of : List (Option X) → ℕ → List X
  items_of cs h = somes (turned h cs)

  -- a ring from its places
  pub is_ring : (cs : List (Option X)) (h n m : ℕ) (xs : List X) → turned h cs ≡ packed 0 xs m → n ≡ length xs → h ≤ length cs → length cs ≤ 2 ^ 32 → IsRing cs h n × (items_of cs h ≡ xs)
  is_ring cs h n m xs e l s b =
      let long : length cs ≡ length xs + m = sym (length-turned h cs) ∙ ap length e ∙ length-packed 0 xs m ∙ omega arith in
      (record { start = s; packed = is_packed 0 xs m n (turned h cs) e l (omega (arith, long, b)) }, rw e (somes-packed 0 xs m))

  pub count-ring : (cs : List (Option X)) (h n : ℕ) → IsRing cs h n → length (items_of cs h) ≡ n
  count-ring cs h n r = r.packed.count

  pub fits-ring : (cs : List (Option X)) (h n : ℕ) → IsRing cs h n → n ≤ length cs
  fits-ring cs h n r = omega (arith, r.packed.fits, length-turned h cs)

  pub small-ring : (cs : List (Option X)) (h n : ℕ) → IsRing cs h n → length cs ≤ 2 ^ 32
  small-ring cs h n r = omega (arith, r.packed.small, length-turned h cs)

  -- read from its front, the items and then the empty places
  pub laid : (cs : List (Option X)) (h n : ℕ) → IsRing cs h n → turned h cs ≡ packed 0 (items_of cs h) (length cs - n)
  laid cs h n r =
      let e : length (turned h cs) - (0 + n) ≡ length cs - n = omega (arith, length-turned h cs) in
      r.packed.places ∙ ap (λ (m : ℕ). packed 0 (items_of cs h) m) e

  -- what stands at the place of item i
  pub ring-at : (cs : List (Option X)) (h n i p : ℕ) → IsRing cs h n → i < n → Wraps h i (length cs) p → place cs p ≡ slice_get (items_of cs h) i
  ring-at cs h n i p r l w =
      let z : 0 + i ≡ i = omega arith in
      sym (turned-at cs h i p None r.start (omega (arith, l, fits-ring cs h n r)) w) ∙ rw z at (filled_at (turned h cs) 0 n i r.packed l)

  pub ring-filled : (cs : List (Option X)) (h n i p : ℕ) → IsRing cs h n → i < n → Wraps h i (length cs) p → IsFilled cs p
  ring-filled cs h n i p r l w =
      let z : 0 + i ≡ i = omega arith in
      let it = rw z at (is_filled (turned h cs) 0 n i r.packed l) in
      (it.0, sym (turned-at cs h i p None r.start (omega (arith, l, fits-ring cs h n r)) w) ∙ it.1)

  -- behind the items the places are empty
  pub ring-clear : (cs : List (Option X)) (h n i p : ℕ) → IsRing cs h n → n ≤ i → i < length cs → Wraps h i (length cs) p → place cs p ≡ None
  ring-clear cs h n i p r l b w = sym (turned-at cs h i p None r.start b w) ∙ past_none (turned h cs) 0 n i r.packed (omega (arith, l))

  -- one more item behind the last
  pub ring-push : (cs : List (Option X)) (h n p : ℕ) (x : X) → IsRing cs h n → n < length cs → Wraps h n (length cs) p
      → IsRing (set cs p (Some x)) h (n + 1) × (items_of (set cs p (Some x)) h ≡ items_of cs h ++ x ∷ [])
  ring-push cs h n p x r b w =
      let t = turned h cs in
      let z : 0 + n ≡ n = omega arith in
      let e : turned h (set cs p (Some x)) ≡ set t n (Some x) = turned-set cs h n p (Some x) r.start b w in
      let within : 0 + n < length t = omega (arith, b, length-turned h cs) in
      let packed = rw z at (IsPacked-push t 0 n x r.packed within) in
      let items = rw z at (somes-push t 0 n x r.packed within) in
      (record { start = omega (arith, r.start, length-set cs p (Some x)); packed = rw e packed }, rw e items)

  -- another item in a place
  pub ring-set : (cs : List (Option X)) (h n i p : ℕ) (x : X) → IsRing cs h n → i < n → Wraps h i (length cs) p
      → IsRing (set cs p (Some x)) h n × (items_of (set cs p (Some x)) h ≡ set (items_of cs h) i x)
  ring-set cs h n i p x r l w =
      let t = turned h cs in
      let z : 0 + i ≡ i = omega arith in
      let e : turned h (set cs p (Some x)) ≡ set t i (Some x) = turned-set cs h i p (Some x) r.start (omega (arith, l, fits-ring cs h n r)) w in
      let packed = rw z at (IsPacked-set t 0 n i x r.packed l) in
      let items = rw z at (somes-set t 0 n i x r.packed l) in
      (record { start = omega (arith, r.start, length-set cs p (Some x)); packed = rw e packed }, rw e items)

  -- the last item goes
  pub ring-pop : (cs : List (Option X)) (h k p : ℕ) (x : X) → IsRing cs h (suc k) → Wraps h k (length cs) p → place cs p ≡ Some x
      → IsRing (set cs p None) h k × (items_of cs h ≡ items_of (set cs p None) h ++ x ∷ [])
  ring-pop cs h k p x r w is =
      let t = turned h cs in
      let z : 0 + k ≡ k = omega arith in
      let b : k < length cs = omega (arith, fits-ring cs h (suc k) r) in
      let e : turned h (set cs p None) ≡ set t k None = turned-set cs h k p None r.start b w in
      let at : place t (0 + k) ≡ Some x = rw z (turned-at cs h k p None r.start b w ∙ is) in
      let packed = rw z at (IsPacked-pop t 0 k x r.packed at) in
      let items = rw z at (somes-pop t 0 k x r.packed at) in
      let none : Option X = None in
      (record { start = omega (arith, r.start, length-set cs p none); packed = rw e packed }, rw e items)

  -- one more empty place
  pub nones-more : (m : ℕ) → replicate {A = Option X} m None ++ None ∷ [] ≡ replicate (suc m) None
  nones-more m = let e : m + 1 ≡ suc m = omega arith in replicate_more m None ∙ ap (λ (j : ℕ). replicate {A = Option X} j None) e

  -- the first of a row goes to its end, empty
  first-out : (x : X) (xs : List X) (m : ℕ) → turned 1 (set (packed 0 (x ∷ xs) m) 0 None) ≡ packed 0 xs (suc m)
  first-out x xs m = append_assoc (map Some xs) (replicate m None) (None ∷ []) ∙ ap (λ (l : List (Option X)). map Some xs ++ l) (nones-more m)

  -- the last place of a row goes to its front, filled
  first-in : (x : X) (xs : List X) (m j : ℕ) → j ≡ length xs + m → turned j (set (packed 0 xs (suc m)) j (Some x)) ≡ packed 0 (x ∷ xs) m
  first-in x xs m j e =
      let front = map Some xs ++ replicate m None in
      let long : length front ≡ j = omega (arith, e, length-append (map Some xs) (replicate {A = Option X} m None), length-map xs (λ (y : X). Some y), length-replicate {A = Option X} m None) in
      let split : packed 0 xs (suc m) ≡ front ++ None ∷ [] = ap (λ (l : List (Option X)). map Some xs ++ l) (sym (nones-more m)) ∙ sym (append_assoc (map Some xs) (replicate m None) (None ∷ [])) in
      let put : set (packed 0 xs (suc m)) j (Some x) ≡ front ++ Some x ∷ [] = ap (λ (l : List (Option X)). set l j (Some x)) split ∙ set_at front None [] (Some x) j long in
      ap (turned j) put ∙ rw (drop_at front (Some x ∷ []) j long, take_at front (Some x ∷ []) j long) refl

  -- the first item goes
  pub ring-pop_front : (cs : List (Option X)) (h k p : ℕ) (x : X) → IsRing cs h (suc k) → Wraps h 0 (length cs) p → place cs p ≡ Some x
      → IsRing (set cs p None) (p + 1) k × (items_of cs h ≡ x ∷ items_of (set cs p None) (p + 1))
  ring-pop_front cs h k p x r w is =
      let ds = set cs p None in
      let long : length ds ≡ length cs = length-set cs p None in
      let b : 0 < length cs = omega (arith, fits-ring cs h (suc k) r) in
      let xs = drop 1 (items_of cs h) in
      let m = length cs - suc k in
      let split : items_of cs h ≡ x ∷ xs = first-split (items_of cs h) k x r.packed.count (sym (ring-at cs h (suc k) 0 p r (omega arith) w) ∙ is) in
      let row : turned h cs ≡ packed 0 (x ∷ xs) m = laid cs h (suc k) r ∙ ap (λ (l : List X). packed 0 l m) split in
      let round : (p + 1 ≡ h + 1) ⊎ (p + 1 + length ds ≡ h + 1) = elim w.1 [ inl e ↦ inl (omega (arith, e)) | inr e ↦ inr (omega (arith, e, long)) ] in
      let places : turned (p + 1) ds ≡ packed 0 xs (suc m) =
      turned-turned ds h 1 (p + 1) (omega (arith, r.start, long)) (omega (arith, b, long)) (omega (arith, w.0, long)) round
      ∙ ap (turned 1) (turned-set cs h 0 p None r.start b w ∙ ap (λ (l : List (Option X)). set l 0 None) row) ∙ first-out x xs m in
      let count : k ≡ length xs = omega (arith, r.packed.count, ap length split) in
      let it = is_ring ds (p + 1) k (suc m) xs places count (omega (arith, w.0, long)) (omega (arith, long, small-ring cs h (suc k) r)) in
      (it.0, split ∙ ap (λ (l : List X). x ∷ l) (sym it.1))
    where
      first-split : (xs : List X) (k : ℕ) (x : X) → length xs ≡ suc k → slice_get xs 0 ≡ Some x → xs ≡ x ∷ drop 1 xs
      first-split [] k x l e = cc
      first-split (y ∷ xs) k x l e = cc

  -- one more item before the first
  pub ring-push_front : (cs : List (Option X)) (h n p : ℕ) (x : X) → IsRing cs h n → n < length cs → Wraps h (length cs - 1) (length cs) p
      → IsRing (set cs p (Some x)) p (n + 1) × (items_of (set cs p (Some x)) p ≡ x ∷ items_of cs h)
  ring-push_front cs h n p x r b w =
      let ds = set cs p (Some x) in
      let long : length ds ≡ length cs = length-set cs p (Some x) in
      let xs = items_of cs h in
      let m = length cs - n - 1 in
      let j = length cs - 1 in
      let count : length xs ≡ n = r.packed.count in
      let room : length cs - n ≡ suc m = omega (arith, b) in
      let row : turned h cs ≡ packed 0 xs (suc m) = laid cs h n r ∙ ap (λ (m : ℕ). packed 0 xs m) room in
      let round : (p ≡ h + j) ⊎ (p + length ds ≡ h + j) = elim w.1 [ inl e ↦ inl e | inr e ↦ inr (omega (arith, e, long)) ] in
      let places : turned p ds ≡ packed 0 (x ∷ xs) m =
      turned-turned ds h j p (omega (arith, r.start, long)) (omega (arith, long)) (omega (arith, w.0, long)) round
      ∙ ap (turned j) (turned-set cs h j p (Some x) r.start (omega (arith, b)) w ∙ ap (λ (l : List (Option X)). set l j (Some x)) row) ∙ first-in x xs m j (omega (arith, count, b)) in
      is_ring ds p (n + 1) m (x ∷ xs) places (omega (arith, count)) (omega (arith, w.0, long)) (omega (arith, long, small-ring cs h n r))

  -- a ring without items has empty places alone
  pub none-left : (cs : List (Option X)) (h n : ℕ) → IsRing cs h n → items_of cs h ≡ [] → cs ≡ replicate (length cs) None
  none-left cs h n r e =
      let count : n ≡ 0 = sym r.packed.count ∙ ap length e in
      let room : length cs - n ≡ length cs = omega (arith, count) in
      let row : turned h cs ≡ replicate (length cs) None = laid cs h n r ∙ rw (e, room) refl in
      sym (turned-back cs h r.start) ∙ ap (turned (length cs - h)) row ∙ turned-same (length cs) (length cs - h) None (omega arith)

  -- such a ring may as well be read from the first place on
  pub bare-ring : (cs : List (Option X)) (h n : ℕ) → IsRing cs h n → items_of cs h ≡ [] → IsPacked cs 0 0 × (somes cs ≡ [])
  bare-ring cs h n r e =
      let bare : cs ≡ packed 0 [] (length cs) = none-left cs h n r e in
      (is_packed 0 [] (length cs) 0 cs bare refl (omega (arith, small-ring cs h n r)), ap somes bare ∙ somes-packed 0 [] (length cs))

  -- a full ring from another place on
  pub ring-turned : (cs : List (Option X)) (h n k q : ℕ) → IsRing cs h n → n ≡ length cs → k < n → Wraps h k (length cs) q → IsRing cs q n × (items_of cs q ≡ turned k (items_of cs h))
  ring-turned cs h n k q r full l w =
      let xs = items_of cs h in
      let none : length cs - n ≡ 0 = omega (arith, full) in
      let row : turned h cs ≡ map Some xs = laid cs h n r ∙ ap (packed 0 xs) none ∙ append-nil (map Some xs) in
      let places : turned q cs ≡ packed 0 (turned k xs) 0 = turned-turned cs h k q r.start (omega (arith, l, full)) (omega (arith, w.0)) w.1 ∙ ap (turned k) row ∙ sym (map-turned Some xs k) ∙ sym (append-nil (map Some (turned k xs))) in
      is_ring cs q n 0 (turned k xs) places (omega (arith, length-turned k xs, r.packed.count)) (omega (arith, w.0)) (small-ring cs h n r)

  all-some : (rs xs : List X) → map Some rs ≡ map Some xs → rs ≡ xs
  all-some rs xs e = sym (somes-some rs) ∙ ap somes e ∙ somes-some xs

  length-somes : (xs : List X) → length (map (λ (x : X). Some x) xs) ≡ length xs
  length-somes xs = length-map xs (λ (x : X). Some x)

  -- items that don't go round the end are one run
  pub one-run : (cs : List (Option X)) (h n : ℕ) → IsRing cs h n → n ≤ length cs - h
      → IsRun cs h n × ((rs ss : List X) → map Some rs ≡ take n (drop h cs) → map Some ss ≡ take 0 (drop 0 cs) → rs ++ ss ≡ items_of cs h)
  one-run cs h n r l =
      let xs = items_of cs h in
      let front : take n (drop h cs) ≡ map Some xs =
      sym (take-append-le n (drop h cs) (take h cs) (omega (arith, l, length-drop h cs))) ∙ ap (take n) (laid cs h n r) ∙ take_at (map Some xs) (replicate (length cs - n) None) n (length-somes xs ∙ r.packed.count) in
      ((omega (arith, l, r.start, fits-ring cs h n r), (xs, front)), λ rs ss e f. ap (λ (l : List X). l ++ ss) (all-some rs xs (e ∙ front)) ∙ ap (λ (l : List X). xs ++ l) (all-some ss [] f) ∙ append-nil xs)

  -- the others are two, one up to the end and one from the first place on
  pub two-runs : (cs : List (Option X)) (h n a b : ℕ) → IsRing cs h n → a ≡ length cs - h → a < n → b ≡ n - a
      → IsRun cs h a × IsRun cs 0 b × ((rs ss : List X) → map Some rs ≡ take a (drop h cs) → map Some ss ≡ take b (drop 0 cs) → rs ++ ss ≡ items_of cs h)
  two-runs cs h n a b r ea l eb =
      let xs = items_of cs h in let us = drop h cs in let vs = take h cs in
      let la : length us ≡ a = length-drop h cs ∙ sym ea in
      let within : b ≤ h = omega (arith, ea, eb, r.start, fits-ring cs h n r) in
      let sum : n ≡ length us + b = omega (arith, la, eb, l) in
      let inner : take n (turned h cs) ≡ us ++ take b cs = rw sum (take-append-add us vs b ∙ ap (λ (l : List (Option X)). us ++ l) (take-take b h cs within)) in
      let whole : us ++ take b cs ≡ map Some xs = sym inner ∙ ap (take n) (laid cs h n r) ∙ take_at (map Some xs) (replicate (length cs - n) None) n (length-somes xs ∙ r.packed.count) in
      let first : us ≡ map Some (take a xs) = sym (take_at us (take b cs) a la) ∙ ap (take a) whole ∙ take-map Some a xs in
      let second : take b cs ≡ map Some (drop a xs) = sym (drop_at us (take b cs) a la) ∙ ap (drop a) whole ∙ drop-map Some a xs in
      let run : take a us ≡ map Some (take a xs) = take_all a us (omega (arith, la)) ∙ first in (
        (omega (arith, ea, r.start), (take a xs, run)),
        (omega (arith, within, r.start), (drop a xs, second)),
        λ rs ss e f. ap (λ (l : List X). l ++ ss) (all-some rs (take a xs) (e ∙ run)) ∙ ap (λ (l : List X). take a xs ++ l) (all-some ss (drop a xs) (f ∙ second)) ∙ take-append-drop a xs,
      )

  -- the first item of a list that is read from index i on goes last
  pub turned-more : (xs : List X) (i : ℕ) (x : X) (ys : List X) → i < length xs → turned i xs ≡ x ∷ ys → ys ++ x ∷ [] ≡ turned (i + 1) xs
  turned-more xs i x ys l e = sym (turned-turned xs i 1 (i + 1) (omega (arith, l)) (omega (arith, l)) (omega (arith, l)) (inl refl) ∙ ap (turned 1) e)

  -- and the last one first
  pub turned-fewer : (xs : List X) (i : ℕ) (x : X) (ys : List X) → i < length xs → turned (length xs - i) xs ≡ ys ++ x ∷ [] → x ∷ ys ≡ turned (length xs - (i + 1)) xs
  turned-fewer xs i x ys l e =
      let j = length xs - (i + 1) in
      let next : turned (length xs - i) xs ≡ turned 1 (turned j xs) = turned-turned xs j 1 (length xs - i) (omega arith) (omega (arith, l)) (omega arith) (inl (omega (arith, l))) in
      last-to-first (turned j xs) ys x (omega (arith, length-turned j xs, l)) (sym next ∙ e)
    where
      last-to-first : (zs ys : List X) (x : X) → 0 < length zs → turned 1 zs ≡ ys ++ x ∷ [] → x ∷ ys ≡ zs
      last-to-first [] ys x h e = absurd (omega (arith, h))
      last-to-first (z ∷ zs) ys x h e = let both = same_from_push zs ys z x e in let front = both.0 in let last = both.1 in cc

-- what is so of two lists together is so of each
pub All-both : {X : Type 0} (P : X → Type 0) (xs ys zs : List X) → xs ++ ys ≡ zs → All P zs → All P xs × All P ys
All-both P xs ys zs e a =
    let both = rw (← e) at a in (
      rw (take_at xs ys (length xs) refl) at (All-take P (length xs) (xs ++ ys) both),
      rw (drop_at xs ys (length xs) refl) at (All-drop P (length xs) (xs ++ ys) both),
    )
