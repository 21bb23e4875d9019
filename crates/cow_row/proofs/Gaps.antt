-- The places of a row while a gap moves through it.
use Rattle.std.proofs.Common.{◌≡◌, ℕ, zero, suc, ◌+◌, ◌-◌, ◌<◌, ◌≤◌, List, [], ◌∷◌, ◌++◌, map, length, set, replicate, slice_get, insert, remove, Option, Some, None, refl, sym, ap, ◌∙◌, subst, arith, length-append, take, drop, append_assoc}
use Rattle.std.proofs.lemmas.List.{length-map, length-replicate, length-take-le, length-drop, map-append, take-append-drop, replicate-append-replicate, drop-replicate}
use Rattle.cow_buf.specs.Places.{shifted, blanked}
use Rattle.cow_row.specs.Places.{somes, place, packed, gapped, IsPacked}
use Rattle.cow_row.proofs.Packed.{filled_at, front-get, front-set}

module _ {X : Type 0} where
  take-nones : (k n : ℕ) → k ≤ n → take k (replicate {A = Option X} n None) ≡ replicate k None
  take-nones zero n h = refl
  take-nones (suc k) zero h = absurd (omega arith)
  take-nones (suc k) (suc n) h = ap (λ l. None ∷ l) (take-nones k n (omega arith))

  drop-nones : (k m : ℕ) → drop k (replicate {A = Option X} (k + m) None) ≡ replicate m None
  drop-nones zero m = let e : 0 + m ≡ m = omega arith in rw e refl
  drop-nones (suc k) m = let e : suc k + m ≡ suc (k + m) = omega arith in rw e (drop-nones k m)

  drop-prefix : (s t : List (Option X)) (k : ℕ) → drop (length s + k) (s ++ t) ≡ drop k t
  drop-prefix [] t k = let e : 0 + k ≡ k = omega arith in rw e refl
  drop-prefix (x ∷ s) t k = let e : suc (length s) + k ≡ suc (length s + k) = omega arith in rw e (drop-prefix s t k)

  take-prefix : (s t : List (Option X)) (k : ℕ) → take (length s + k) (s ++ t) ≡ s ++ take k t
  take-prefix [] t k = let e : 0 + k ≡ k = omega arith in rw e refl
  take-prefix (x ∷ s) t k = let e : suc (length s) + k ≡ suc (length s + k) = omega arith in rw e (ap (λ l. x ∷ l) (take-prefix s t k))

  take-front : (s t : List (Option X)) (k : ℕ) → k ≡ length s → take k (s ++ t) ≡ s
  take-front [] t k e = rw e refl
  take-front (x ∷ s) t k e = rw e (ap (λ l. x ∷ l) (take-front s t (length s) refl))

  drop-front : (s t : List (Option X)) (k : ℕ) → k ≡ length s → drop k (s ++ t) ≡ t
  drop-front [] t k e = rw e refl
  drop-front (x ∷ s) t k e = rw e (drop-front s t (length s) refl)

  drop-further : (s t : List (Option X)) (k i : ℕ) → k ≡ length s → drop (k + i) (s ++ t) ≡ drop i t
  drop-further s t k i e = rw e (drop-prefix s t i)

  -- places behind a prefix move as they would without it
  shift-prefix : (s l : List (Option X)) (i j n : ℕ) → shifted (length s + i) (length s + j) n (s ++ l) ≡ s ++ shifted i j n l
  shift-prefix s l i j n =
      let ei : length s + i + n ≡ length s + (i + n) = omega arith in
      let ej : length s + j + n ≡ length s + (j + n) = omega arith in
      let inner : blanked None (length s + i) n (s ++ l) ≡ s ++ blanked None i n l = rw (ei, take-prefix s l i, drop-prefix s l (i + n), append_assoc) refl in
      rw (inner, ej, take-prefix s (blanked None i n l) j, drop-prefix s (blanked None i n l) (j + n), drop-prefix s l i, append_assoc) refl

  -- items between empty places, moved over some of them
  shift-run : (g g' m m' : ℕ) (ys : List X) → g + m ≡ g' + m' → shifted g g' (length ys) (replicate g None ++ (map Some ys ++ replicate m None)) ≡ replicate g' None ++ (map Some ys ++ replicate m' None)
  shift-run g g' m m' ys e =
      let n = length ys in
      let cs = replicate g None ++ (map Some ys ++ replicate m None) in
      let front : length (replicate {A = Option X} g None) ≡ g = length-replicate g None in
      let run : length (map Some ys) ≡ n = length-map ys Some in
      let first : take g cs ≡ replicate g None = take-front (replicate g None) (map Some ys ++ replicate m None) g (sym front) in
      let rest : drop (g + n) cs ≡ replicate m None = drop-further (replicate g None) (map Some ys ++ replicate m None) g n (sym front) ∙ drop-front (map Some ys) (replicate m None) n (sym run) in
      let items : take n (drop g cs) ≡ map Some ys = rw (drop-front (replicate g None) (map Some ys ++ replicate m None) g (sym front)) (take-front (map Some ys) (replicate m None) n (sym run)) in
      let all : blanked None g n cs ≡ replicate (g' + n + m') None = rw (first, rest, replicate-append-replicate, replicate-append-replicate) (ap (λ (k : ℕ). replicate {A = Option X} k None) (omega arith)) in
      rw (all, items, take-nones g' (g' + n + m') (omega arith), drop-nones (g' + n) m') refl

  -- the items before a gap, with the empty places in front of them
  pub ahead : ℕ → List X → List (Option X)
  ahead f xs = replicate f None ++ map Some xs

  pub length-ahead : (f : ℕ) (xs : List X) → length (ahead f xs) ≡ f + length xs
  unfolding ahead
  length-ahead f xs = simp (length-append, length-map, length-replicate)

  pub gapped-ahead : (f : ℕ) (xs : List X) (g : ℕ) (ys : List X) (m : ℕ) → gapped f xs g ys m ≡ ahead f xs ++ (replicate g None ++ (map Some ys ++ replicate m None))
  unfolding ahead
  gapped-ahead f xs g ys m = rw append_assoc refl

  -- three runs with no gap between
  pub joined-ahead : (f : ℕ) (xs ys zs : List X) (m : ℕ) → ahead f xs ++ (map Some zs ++ (map Some ys ++ replicate m None)) ≡ packed f (xs ++ (zs ++ ys)) m
  unfolding ahead
  joined-ahead f xs ys zs m = rw (map-append, map-append, append_assoc, append_assoc, append_assoc) refl

  -- the items behind a gap move: it widens, or it closes
  pub shift-gap : (f : ℕ) (xs ys : List X) (g g' m m' i j n : ℕ) → i ≡ f + length xs + g → j ≡ f + length xs + g' → n ≡ length ys → g + m ≡ g' + m' → shifted i j n (gapped f xs g ys m) ≡ gapped f xs g' ys m'
  shift-gap f xs ys g g' m m' i j n ei ej en e =
      let long = length-ahead f xs in
      let here : i ≡ length (ahead f xs) + g = omega (arith, long, ei) in
      let there : j ≡ length (ahead f xs) + g' = omega (arith, long, ej) in
      rw (gapped-ahead f xs g ys m, gapped-ahead f xs g' ys m', here, there, en) (shift-prefix (ahead f xs) (replicate g None ++ (map Some ys ++ replicate m None)) g g' (length ys) ∙ ap (λ l. ahead f xs ++ l) (shift-run g g' m m' ys e))

  put-items : (xs : List X) (g : ℕ) (ys : List X) (m : ℕ) (x : X) → set (gapped 0 xs (suc g) ys m) (length xs) (Some x) ≡ gapped 0 (xs ++ x ∷ []) g ys m
  put-items [] g ys m x = refl
  put-items (y ∷ xs) g ys m x = ap (λ l. Some y ∷ l) (put-items xs g ys m x)

  -- one more item before the gap
  pub put-gap : (f : ℕ) (xs : List X) (g : ℕ) (ys : List X) (m i : ℕ) (x : X) → i ≡ f + length xs → set (gapped f xs (suc g) ys m) i (Some x) ≡ gapped f (xs ++ x ∷ []) g ys m
  put-gap f xs g ys m i x e = rw e (front-set f (gapped 0 xs (suc g) ys m) (length xs) (Some x) ∙ ap (λ l. replicate f None ++ l) (put-items xs g ys m x))

  take-none : (g : ℕ) (y : X) (ys : List X) (m : ℕ) → set (gapped 0 [] g (y ∷ ys) m) g None ≡ gapped 0 [] (suc g) ys m
  take-none zero y ys m = refl
  take-none (suc g) y ys m = ap (λ l. None ∷ l) (take-none g y ys m)

  take-items : (xs : List X) (g : ℕ) (y : X) (ys : List X) (m : ℕ) → set (gapped 0 xs g (y ∷ ys) m) (length xs + g) None ≡ gapped 0 xs (suc g) ys m
  take-items [] g y ys m = let e : 0 + g ≡ g = omega arith in rw e (take-none g y ys m)
  take-items (x ∷ xs) g y ys m = let e : suc (length xs) + g ≡ suc (length xs + g) = omega arith in rw e (ap (λ l. Some x ∷ l) (take-items xs g y ys m))

  -- the item behind the gap goes
  pub take-gap : (f : ℕ) (xs : List X) (g : ℕ) (y : X) (ys : List X) (m i : ℕ) → i ≡ f + (length xs + g) → set (gapped f xs g (y ∷ ys) m) i None ≡ gapped f xs (suc g) ys m
  take-gap f xs g y ys m i e = rw e (front-set f (gapped 0 xs g (y ∷ ys) m) (length xs + g) None ∙ ap (λ l. replicate f None ++ l) (take-items xs g y ys m))

  first-none : (xs : List X) (g : ℕ) (ys : List X) (m : ℕ) → place (gapped 0 xs (suc g) ys m) (length xs) ≡ None
  first-none [] g ys m = refl
  first-none (y ∷ xs) g ys m = first-none xs g ys m

  -- the gap's first place is empty
  pub place-gap : (f : ℕ) (xs : List X) (g : ℕ) (ys : List X) (m i : ℕ) → i ≡ f + length xs → place (gapped f xs (suc g) ys m) i ≡ None
  place-gap f xs g ys m i e = rw e (front-get f (gapped 0 xs (suc g) ys m) (length xs) ∙ first-none xs g ys m)

  -- a row is two runs with no gap between
  pub closed : (f : ℕ) (xs ys : List X) (m : ℕ) → gapped f xs 0 ys m ≡ packed f (xs ++ ys) m
  closed f xs ys m = rw (map-append, append_assoc) refl

  -- a row at item i, with no gap
  pub split-row : (cs : List (Option X)) (f n i : ℕ) → IsPacked cs f n → cs ≡ gapped f (take i (somes cs)) 0 (drop i (somes cs)) (length cs - (f + n))
  split-row cs f n i p = p.places ∙ sym (closed f (take i (somes cs)) (drop i (somes cs)) (length cs - (f + n)) ∙ ap (λ (l : List X). packed f l (length cs - (f + n))) (take-append-drop i (somes cs)))

  -- room for one item before item i
  pub opened : (cs : List (Option X)) (f n i : ℕ) → IsPacked cs f n → i ≤ n → f + n < length cs → shifted (f + i) (f + i + 1) (n - i) cs ≡ gapped f (take i (somes cs)) 1 (drop i (somes cs)) (length cs - (f + n) - 1)
  opened cs f n i p h r =
      let xs = somes cs in
      let a : length (take i xs) ≡ i = length-take-le i xs (omega (arith, p.count)) in
      let b : length (drop i xs) ≡ n - i = omega (arith, length-drop i xs, p.count) in
      let moved = shift-gap f (take i xs) (drop i xs) 0 1 (length cs - (f + n)) (length cs - (f + n) - 1) (f + i) (f + i + 1) (n - i) (omega (arith, a)) (omega (arith, a)) (sym b) (omega (arith, r)) in
      ap (shifted (f + i) (f + i + 1) (n - i)) (split-row cs f n i p) ∙ moved

  -- a row with one more item in place i
  pub inserted : (cs : List (Option X)) (f n i : ℕ) (x : X) → IsPacked cs f n → i ≤ n → f + n < length cs → set (shifted (f + i) (f + i + 1) (n - i) cs) (f + i) (Some x) ≡ packed f (insert (somes cs) i x) (length cs - (f + n) - 1)
  inserted cs f n i x p h r =
      let xs = somes cs in
      let m = length cs - (f + n) - 1 in
      let a : length (take i xs) ≡ i = length-take-le i xs (omega (arith, p.count)) in
      let put = put-gap f (take i xs) 0 (drop i xs) m (f + i) x (omega (arith, a)) in
      ap (λ (l : List (Option X)). set l (f + i) (Some x)) (opened cs f n i p h r) ∙ put ∙ closed f (take i xs ++ x ∷ []) (drop i xs) m ∙ ap (λ (l : List X). packed f l m) (append_assoc (take i xs) (x ∷ []) (drop i xs))

  item-split : (xs : List X) (i : ℕ) (x : X) → slice_get xs i ≡ Some x → xs ≡ take i xs ++ x ∷ drop (suc i) xs
  item-split [] i x e = cc
  item-split (y ∷ xs) zero x e = cc
  item-split (y ∷ xs) (suc i) x e = ap (λ l. y ∷ l) (item-split xs i x e)

  -- a row without item i, before the gap is closed
  pub taken : (cs : List (Option X)) (f n i : ℕ) (x : X) → IsPacked cs f n → i < n → place cs (f + i) ≡ Some x → set cs (f + i) None ≡ gapped f (take i (somes cs)) 1 (drop (suc i) (somes cs)) (length cs - (f + n))
  taken cs f n i x p h e =
      let xs = somes cs in
      let m = length cs - (f + n) in
      let a : length (take i xs) ≡ i = length-take-le i xs (omega (arith, p.count)) in
      let split : xs ≡ take i xs ++ x ∷ drop (suc i) xs = item-split xs i x (sym (filled_at cs f n i p h) ∙ e) in
      let whole : cs ≡ gapped f (take i xs) 0 (x ∷ drop (suc i) xs) m = p.places ∙ ap (λ (l : List X). packed f l m) split ∙ sym (closed f (take i xs) (x ∷ drop (suc i) xs) m) in
      ap (λ (l : List (Option X)). set l (f + i) None) whole ∙ take-gap f (take i xs) 0 x (drop (suc i) xs) m (f + i) (omega (arith, a))

  -- a row without item i
  pub removed : (cs : List (Option X)) (f n i : ℕ) (x : X) → IsPacked cs f n → i < n → place cs (f + i) ≡ Some x → shifted (f + i + 1) (f + i) (n - i - 1) (set cs (f + i) None) ≡ packed f (remove (somes cs) i) (suc (length cs - (f + n)))
  removed cs f n i x p h e =
      let xs = somes cs in
      let m = length cs - (f + n) in
      let a : length (take i xs) ≡ i = length-take-le i xs (omega (arith, p.count)) in
      let b : length (drop (suc i) xs) ≡ n - i - 1 = omega (arith, length-drop (suc i) xs, p.count) in
      ap (shifted (f + i + 1) (f + i) (n - i - 1)) (taken cs f n i x p h e) ∙ shift-gap f (take i xs) (drop (suc i) xs) 1 0 m (suc m) (f + i + 1) (f + i) (n - i - 1) (omega (arith, a)) (omega (arith, a)) (sym b) (omega arith) ∙ closed f (take i xs) (drop (suc i) xs) (suc m)

  -- a row moved to the first place
  pub fronted : (cs : List (Option X)) (f n : ℕ) → IsPacked cs f n → shifted f 0 n cs ≡ packed 0 (somes cs) (length cs - n)
  fronted cs f n p =
      let xs = somes cs in
      let here : shifted f 0 n cs ≡ shifted f 0 (length xs) (packed f xs (length cs - (f + n))) = subst (λ (k : ℕ). shifted f 0 n cs ≡ shifted f 0 k (packed f xs (length cs - (f + n)))) (sym p.count) (ap (shifted f 0 n) p.places) in
      here ∙ shift-run f 0 (length cs - (f + n)) (length cs - n) xs (omega (arith, p.fits))

  -- more empty places behind
  pub longer : (xs : List X) (m k : ℕ) → packed 0 xs m ++ replicate k None ≡ packed 0 xs (m + k)
  longer xs m k = append_assoc (map Some xs) (replicate m None) (replicate k None) ∙ ap (λ (l : List (Option X)). map Some xs ++ l) (replicate-append-replicate m k None)

  -- a row at the first place, in a longer buffer
  pub poured : (cs ds : List (Option X)) (f n k : ℕ) → IsPacked cs f n → f ≡ 0 → ds ≡ cs ++ drop (length cs) (replicate k None) → length cs ≤ k → ds ≡ packed 0 (somes cs) (k - n)
  poured cs ds f n k p e d h =
      let xs = somes cs in
      let m = length cs - n in
      let start : cs ≡ packed 0 xs m = subst (λ (j : ℕ). cs ≡ packed j xs (length cs - (j + n))) e p.places ∙ ap (λ (j : ℕ). packed 0 xs j) (omega arith) in
      let sum : m + (k - length cs) ≡ k - n = omega (arith, p.fits) in
      d ∙ ap (λ (l : List (Option X)). cs ++ l) (drop-replicate (length cs) k None) ∙ ap (λ (l : List (Option X)). l ++ replicate (k - length cs) None) start ∙ longer xs m (k - length cs) ∙ ap (λ (j : ℕ). packed 0 xs j) sum
