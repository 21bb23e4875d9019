-- Where a row's items end, and what is left where all of them, or those before a run, are out.
use Rattle.std.proofs.Common.{◌≡◌, ℕ, zero, suc, ◌+◌, ◌-◌, ◌<◌, ◌≤◌, List, [], ◌∷◌, ◌++◌, map, length, set, replicate, take, drop, Option, Some, None, refl, sym, ap, ◌∙◌, subst, arith, length-set, length-append}
use Rattle.std.proofs.lemmas.List.{length-replicate, length-take-le, length-drop, replicate-append-replicate, drop-set-lt, take_all}
use Rattle.cow_buf.specs.Places.{IsRun, IsClear, blanked}
use Rattle.cow_row.specs.Places.{somes, place, packed, gapped, IsPacked}
use Rattle.cow_row.proofs.Packed.{is_packed, somes-packed, length-packed, front-get}
use Rattle.cow_row.proofs.Splices.{is_run, emptied, items-of-run, somes-some}

module _ {X : Type 0} where
  none-at : (m k : ℕ) → place (replicate {A = Option X} m None) k ≡ None
  none-at zero k = refl
  none-at (suc m) zero = refl
  none-at (suc m) (suc k) = none-at m k

  past-at : (xs : List X) (m k : ℕ) → place (packed 0 xs m) (length xs + k) ≡ None
  past-at [] m k = let e : 0 + k ≡ k = omega arith in rw e (none-at m k)
  past-at (x ∷ xs) m k = let e : suc (length xs) + k ≡ suc (length xs + k) = omega arith in rw e (past-at xs m k)

  -- behind the items all places are empty
  pub past_none : (cs : List (Option X)) (f n i : ℕ) → IsPacked cs f n → f + n ≤ i → place cs i ≡ None
  past_none cs f n i p h =
      let xs = somes cs in let m = length cs - (f + n) in let k = i - (f + n) in
      let e : f + (length xs + k) ≡ i = omega (arith, p.count) in
      subst (λ (l : List (Option X)). place l i ≡ None) (sym p.places) (subst (λ (j : ℕ). place (packed f xs m) j ≡ None) e (front-get f (packed 0 xs m) (length xs + k) ∙ past-at xs m k))

  pub clear_past : (cs : List (Option X)) (f n : ℕ) → IsPacked cs f n → IsClear cs (f + n) (length cs)
  clear_past cs f n p i l h = past_none cs f n i p l

  drop-past : (xs : List X) (k : ℕ) → length xs ≤ k → drop k xs ≡ []
  drop-past [] zero h = refl
  drop-past [] (suc k) h = refl
  drop-past (x ∷ xs) zero h = absurd (omega arith)
  drop-past (x ∷ xs) (suc k) h = drop-past xs k (omega arith)

  -- all items are a run
  pub all_run : (cs : List (Option X)) (f n : ℕ) → IsPacked cs f n → IsRun cs f n
  all_run cs f n p = let z : f + 0 ≡ f = omega arith in rw z at (is_run cs f n 0 n p (omega arith))

  -- with all items out
  pub ended : (cs : List (Option X)) (f n : ℕ) → IsPacked cs f n → blanked None f n cs ≡ packed f [] (length cs - f)
  ended cs f n p =
      let xs = somes cs in let m = length cs - (f + n) in
      let z : f + 0 ≡ f = omega arith in
      let gone : drop (0 + n) xs ≡ [] = drop-past xs (0 + n) (omega (arith, p.count)) in
      let all : n + m ≡ length cs - f = omega (arith, p.fits) in
      let out : blanked None f n cs ≡ gapped f [] n (drop (0 + n) xs) m = rw z at (emptied cs f n 0 n p (omega arith)) in
      out ∙ rw gone (ap (λ l. replicate f None ++ l) (replicate-append-replicate n m None ∙ ap (λ k. replicate k None) all))

  pub IsPacked-ended : (cs : List (Option X)) (f n : ℕ) → IsPacked cs f n → IsPacked (blanked None f n cs) f 0
  IsPacked-ended cs f n p = is_packed f [] (length cs - f) 0 (blanked None f n cs) (ended cs f n p) refl (omega (arith, p.fits, p.small))

  pub somes-ended : (cs : List (Option X)) (f n : ℕ) → IsPacked cs f n → somes (blanked None f n cs) ≡ []
  somes-ended cs f n p = rw (ended cs f n p) (somes-packed f [] (length cs - f))

  pub length-ended : (cs : List (Option X)) (f n : ℕ) → IsPacked cs f n → length (blanked None f n cs) ≡ length cs
  length-ended cs f n p = ap length (ended cs f n p) ∙ length-packed f [] (length cs - f) ∙ omega (arith, p.fits)

  pub none-left : (cs : List (Option X)) (f n : ℕ) → IsPacked cs f n → blanked None f n cs ≡ replicate (length (blanked None f n cs)) None
  none-left cs f n p =
      let e : f + (length cs - f) ≡ length cs = omega (arith, p.fits) in
      ended cs f n p ∙ replicate-append-replicate f (length cs - f) None ∙ ap (λ k. replicate k None) (e ∙ sym (length-ended cs f n p))

  -- the items behind one that was taken out
  pub run-behind : (cs : List (Option X)) (f n i : ℕ) → IsPacked cs f n → i < n → IsRun (set cs (f + i) None) (f + i + 1) (n - i - 1)
  run-behind cs f n i p h =
      let e : f + (i + 1) ≡ f + i + 1 = omega arith in
      let r = rw e at (is_run cs f n (i + 1) (n - i - 1) p (omega arith)) in
      (omega (arith, length-set cs (f + i) None, r.0), (r.1.0, rw (drop-set-lt (f + i + 1) cs (f + i) None (omega arith)) r.1.1))

  drop-blanked : (cs : List (Option X)) (a c : ℕ) → a + c ≤ length cs → drop (a + c) (blanked None a c cs) ≡ drop (a + c) cs
  drop-blanked cs zero c h = let e : 0 + c ≡ c = omega arith in rw e (drop_nones c (drop c cs))
    where
      drop_nones : (k : ℕ) (l : List (Option X)) → drop k (replicate k None ++ l) ≡ l
      drop_nones zero l = refl
      drop_nones (suc k) l = drop_nones k l
  drop-blanked [] (suc a) c h = absurd (omega arith)
  drop-blanked (x ∷ cs) (suc a) c h = let e : suc a + c ≡ suc (a + c) = omega arith in rw e (drop-blanked cs a c (omega arith))

  length-blanked : (cs : List (Option X)) (a c : ℕ) → a + c ≤ length cs → length (blanked None a c cs) ≡ length cs
  length-blanked cs a c h = let none : Option X = None in omega (arith, length-append (take a cs) (replicate c none ++ drop (a + c) cs), length-append (replicate c none) (drop (a + c) cs), length-replicate c none, length-take-le a cs (omega (arith, h)), length-drop (a + c) cs)

  -- the items behind those that were taken out
  pub run-behind-blank : (cs : List (Option X)) (f n i c : ℕ) → IsPacked cs f n → i + c ≤ n → IsRun (blanked None (f + i) c cs) (f + i + c) (n - i - c)
  run-behind-blank cs f n i c p h =
      let e : f + (i + c) ≡ f + i + c = omega arith in
      let fits : f + i + c ≤ length cs = omega (arith, p.fits) in
      let r = rw e at (is_run cs f n (i + c) (n - i - c) p (omega arith)) in
      (omega (arith, length-blanked cs (f + i) c fits, r.0), (r.1.0, rw (drop-blanked cs (f + i) c fits) r.1.1))

  -- what the places of a run show
  pub shown_run : (cs : List (Option X)) (f n i c : ℕ) (xs : List X) → IsPacked cs f n → i + c ≤ n → map Some xs ≡ take c (drop (f + i) cs) → xs ≡ take c (drop i (somes cs))
  shown_run cs f n i c xs p h e = sym (somes-some xs) ∙ ap somes e ∙ items-of-run cs f n i c p h

  -- what the places of all items show
  pub shown : (cs : List (Option X)) (f n : ℕ) (xs : List X) → IsPacked cs f n → map Some xs ≡ take n (drop f cs) → xs ≡ somes cs
  shown cs f n xs p e =
      let z : f + 0 ≡ f = omega arith in
      shown_run cs f n 0 n xs p (omega arith) (rw z e) ∙ take_all n (somes cs) (omega (arith, p.count))
