-- A list after a run of it was replaced or moved, index by index.
use Rattle.std.proofs.Common.{◌≡◌, ℕ, ◌+◌, ◌-◌, ◌<◌, ◌≤◌, ◌⊎◌, inl, inr, ⊎_elim, Bool, true, false, ltb, ltb→lt, nltb→le, T, not, subst, List, ◌++◌, map, length, take, drop, get_or, replicate, Option, Some, None, refl, sym, ap, ◌∙◌, arith, take-add, drop-drop}
use Rattle.std.proofs.lemmas.List.{ext_get_or, length-take-le, length-drop, length-append, length-replicate, get_or-replicate, get_or-take, get_or-drop, get_or_append_left, get_or-append_right}
use Rattle.std.specs.List.{splice}
use Rattle.cow_buf.specs.Places.{IsClear, IsClearBut, blanked, moved, shifted}

-- a number is below another, or not
pub below_or : (i n : ℕ) → (i < n) ⊎ (n ≤ i)
below_or i n = by_test (ltb i n) refl
  where
    by_test : (b : Bool) → ltb i n ≡ b → (i < n) ⊎ (n ≤ i)
    by_test true e = inl (ltb→lt i n (subst T (sym e) tt))
    by_test false e = inr (nltb→le i n (subst (λ (c : Bool). T (not c)) (sym e) tt))

module _ {Y : Type 0} (d : Y) where
  -- equal indices, equal elements
  pub at_index : (ys : List Y) (i j : ℕ) → i ≡ j → get_or ys i d ≡ get_or ys j d
  at_index ys i j e = ap (λ k. get_or ys k d) e

  -- ws stands for the n elements of ys from a on
  module _ (ys ws : List Y) (a n : ℕ) (long : length ws ≡ n) (fits : a + n ≤ length ys) where
    -- there are a elements before them
    front : length (take a ys) ≡ a
    front = length-take-le a ys (omega arith)

    -- the list stays as long
    pub splice-length : length (splice ys a (a + n) ws) ≡ length ys
    splice-length = omega (arith, front, long, length-append (take a ys) (ws ++ drop (a + n) ys), length-append ws (drop (a + n) ys), length-drop (a + n) ys)

    -- inside, an element is one of ws
    pub splice-in : (i : ℕ) → a ≤ i → i < a + n → get_or (splice ys a (a + n) ws) i d ≡ get_or ws (i - a) d
    splice-in i l h = get_or-append_right (take a ys) (ws ++ drop (a + n) ys) a i d front l ∙ get_or_append_left ws (drop (a + n) ys) d (i - a) (omega (arith, long))

    -- outside, it is as before
    pub splice-out : (i : ℕ) → (i < a) ⊎ (a + n ≤ i) → get_or (splice ys a (a + n) ws) i d ≡ get_or ys i d
    splice-out i (inl l) = get_or_append_left (take a ys) (ws ++ drop (a + n) ys) d i (omega (arith, front)) ∙ get_or-take a ys i d l
    splice-out i (inr h) = get_or-append_right (take a ys) (ws ++ drop (a + n) ys) a i d front (omega arith) ∙ get_or-append_right ws (drop (a + n) ys) n (i - a) d long (omega arith)
        ∙ get_or-drop (a + n) ys (i - a - n) d ∙ at_index ys _ i (omega arith)

  -- the n elements from `from` on, read one by one
  pub run-length : (ys : List Y) (from n : ℕ) → from + n ≤ length ys → length (take n (drop from ys)) ≡ n
  run-length ys from n fits = length-take-le n (drop from ys) (omega (arith, length-drop from ys))

  -- an element of a run
  pub run-at : (ys : List Y) (from n i : ℕ) → i < n → get_or (take n (drop from ys)) i d ≡ get_or ys (from + i) d
  run-at ys from n i h = get_or-take n (drop from ys) i d h ∙ get_or-drop from ys i d

  module _ (e : Y) (from to n : ℕ) (ys : List Y) (here : from + n ≤ length ys) (there : to + n ≤ length ys) where
    -- the list stays as long where a run is blanked
    empty : length (blanked e from n ys) ≡ length ys
    empty = splice-length ys (replicate n e) from n (length-replicate n e) here

    -- the run fits where it goes
    room : to + n ≤ length (blanked e from n ys)
    room = omega (arith, empty)

    -- the list stays as long
    pub moved-length : length (moved e from to n ys) ≡ length ys
    moved-length = splice-length (blanked e from n ys) (take n (drop from ys)) to n (run-length ys from n here) room ∙ empty

    -- where the run went
    pub moved-in : (i : ℕ) → to ≤ i → i < to + n → get_or (moved e from to n ys) i d ≡ get_or ys (from + (i - to)) d
    moved-in i l h = splice-in (blanked e from n ys) (take n (drop from ys)) to n (run-length ys from n here) room i l h ∙ run-at ys from n (i - to) (omega arith)

    -- where it was and is no more
    pub moved-left : (i : ℕ) → (i < to) ⊎ (to + n ≤ i) → from ≤ i → i < from + n → get_or (moved e from to n ys) i d ≡ e
    moved-left i out l h = splice-out (blanked e from n ys) (take n (drop from ys)) to n (run-length ys from n here) room i out
        ∙ splice-in ys (replicate n e) from n (length-replicate n e) here i l h ∙ get_or-replicate n (i - from) e d (omega arith)

    -- elsewhere
    pub moved-out : (i : ℕ) → (i < to) ⊎ (to + n ≤ i) → (i < from) ⊎ (from + n ≤ i) → get_or (moved e from to n ys) i d ≡ get_or ys i d
    moved-out i out off = splice-out (blanked e from n ys) (take n (drop from ys)) to n (run-length ys from n here) room i out ∙ splice-out ys (replicate n e) from n (length-replicate n e) here i off

    -- a list with these elements is the moved one
    pub is_moved : (zs : List Y) → length zs ≡ length ys
        → ((i : ℕ) → to ≤ i → i < to + n → get_or zs i d ≡ get_or ys (from + (i - to)) d)
        → ((i : ℕ) → (i < to) ⊎ (to + n ≤ i) → from ≤ i → i < from + n → get_or zs i d ≡ e)
        → ((i : ℕ) → (i < to) ⊎ (to + n ≤ i) → (i < from) ⊎ (from + n ≤ i) → get_or zs i d ≡ get_or ys i d)
        → zs ≡ moved e from to n ys
    is_moved zs long came left stayed = ext_get_or d zs (moved e from to n ys) (long ∙ sym moved-length) (λ i _. by (below_or i to) (below_or i (to + n)) (below_or i from) (below_or i (from + n)))
      where
        off : (i : ℕ) → (i < to) ⊎ (to + n ≤ i) → (i < from) ⊎ (from ≤ i) → (i < from + n) ⊎ (from + n ≤ i) → get_or zs i d ≡ get_or (moved e from to n ys) i d
        off i out (inl l) q = stayed i out (inl l) ∙ sym (moved-out i out (inl l))
        off i out (inr l) (inl h) = left i out l h ∙ sym (moved-left i out l h)
        off i out (inr l) (inr h) = stayed i out (inr h) ∙ sym (moved-out i out (inr h))

        by : {i : ℕ} → (i < to) ⊎ (to ≤ i) → (i < to + n) ⊎ (to + n ≤ i) → (i < from) ⊎ (from ≤ i) → (i < from + n) ⊎ (from + n ≤ i) → get_or zs i d ≡ get_or (moved e from to n ys) i d
        by (inl l) p q r = off _ (inl l) q r
        by (inr l) (inl h) q r = came _ l h ∙ sym (moved-in _ l h)
        by (inr l) (inr h) q r = off _ (inr h) q r

module _ {X : Type 0} (cs : List (Option X)) where
  -- an empty place
  abbrev pub gap : Option X
  gap = None

  -- a clear run is as many empty places
  pub run_none : (i k : ℕ) → i + k ≤ length cs → IsClear cs i (i + k) → take k (drop i cs) ≡ replicate k None
  run_none i k fits clear = ext_get_or None (take k (drop i cs)) (replicate k None) (run-length None cs i k fits ∙ sym (length-replicate k None)) (λ j h.
      let lt : j < k = omega (arith, run-length gap cs i k fits) in
      run-at None cs i k j lt ∙ clear (i + j) (omega arith) (omega arith) ∙ sym (get_or-replicate k j None None lt))

  -- a run of n places is moved, by k places up or down, or past m places that lie between
  module _ (from to n : ℕ) (xs : List X) (run : take n (drop from cs) ≡ map Some xs) (here : from + n ≤ length cs) (there : to + n ≤ length cs) where
    long : length (map Some xs) ≡ n
    long = ap length (sym run) ∙ run-length gap cs from n here

    -- the i-th of the run
    ran : (i : ℕ) → i < n → get_or (map Some xs) i None ≡ get_or cs (from + i) None
    ran i h = ap (λ l. get_or l i None) (sym run) ∙ run-at None cs from n i h

    module _ (k : ℕ) (up : to ≡ from + k) (clear : IsClearBut cs from (from + (n + k)) from n) where
      pub up-before : take (n + k) (drop from cs) ≡ map Some xs ++ replicate k None
      up-before = take-add n k (drop from cs) ∙ ap (λ l. l ++ take k (drop n (drop from cs))) run
          ∙ ap (λ l. map Some xs ++ l) (ap (λ l. take k l) (drop-drop n from cs) ∙ run_none (from + n) k (omega arith) (λ i l h. clear i (omega arith) (omega arith) (inr l)))

      -- k empty places, and the run behind them
      abbrev pub ws : List (Option X)
      ws = replicate k None ++ map Some xs

      -- they are as many as before
      pub wide : length ws ≡ n + k
      wide = omega (arith, length-append (replicate k gap) (map Some xs), length-replicate k gap, long)

      -- in the places of both, the run has moved up
      pub up-after : splice cs from (from + (n + k)) (replicate k None ++ map Some xs) ≡ shifted from to n cs
      up-after = is_moved None None from to n cs here there (splice cs from (from + (n + k)) ws) (splice-length None cs ws from (n + k) wide (omega arith))
          (λ i l h. inside i (omega arith) (omega arith) ∙ get_or-append_right (replicate k None) (map Some xs) k (i - from) None (length-replicate k None) (omega arith)
          ∙ ran (i - from - k) (omega arith) ∙ at_index None cs _ (from + (i - to)) (omega arith))
          (λ i out l h. left i (below_or i to) out l h)
          (λ i out off. stays i (below_or i to) out off)
        where
          inside : (i : ℕ) → from ≤ i → i < from + (n + k) → get_or (splice cs from (from + (n + k)) ws) i None ≡ get_or ws (i - from) None
          inside = splice-in None cs ws from (n + k) wide (omega arith)

          none : (i : ℕ) → from ≤ i → i < to → get_or (splice cs from (from + (n + k)) ws) i None ≡ None
          none i l h = inside i l (omega arith) ∙ get_or_append_left (replicate k None) (map Some xs) None (i - from) (omega (arith, length-replicate k gap)) ∙ get_or-replicate k (i - from) None None (omega arith)

          left : (i : ℕ) → (i < to) ⊎ (to ≤ i) → (i < to) ⊎ (to + n ≤ i) → from ≤ i → i < from + n → get_or (splice cs from (from + (n + k)) ws) i None ≡ None
          left i (inl p) out l h = none i l p
          left i (inr p) (inl q) l h = none i l q
          left i (inr p) (inr q) l h = absurd (omega arith)

          stays : (i : ℕ) → (i < to) ⊎ (to ≤ i) → (i < to) ⊎ (to + n ≤ i) → (i < from) ⊎ (from + n ≤ i) → get_or (splice cs from (from + (n + k)) ws) i None ≡ get_or cs i None
          stays i p out (inl o) = splice-out None cs ws from (n + k) wide (omega arith) i (inl o)
          stays i (inl p) out (inr o) = none i (omega arith) p ∙ sym (clear i (omega arith) (omega arith) (inr o))
          stays i (inr p) (inl q) (inr o) = none i (omega arith) q ∙ sym (clear i (omega arith) (omega arith) (inr o))
          stays i (inr p) (inr q) (inr o) = splice-out None cs ws from (n + k) wide (omega arith) i (inr (omega arith))

    module _ (k : ℕ) (down : from ≡ to + k) (clear : IsClearBut cs to (to + (k + n)) from n) where
      pub down-before : take (k + n) (drop to cs) ≡ replicate k None ++ map Some xs
      down-before = take-add k n (drop to cs) ∙ ap (λ l. l ++ take n (drop k (drop to cs))) (run_none to k (omega arith) (λ i l h. clear i (omega arith) (omega arith) (inl (omega arith))))
          ∙ ap (λ l. replicate k None ++ l) (ap (λ l. take n l) (drop-drop k to cs ∙ ap (λ j. drop j cs) (sym down)) ∙ run)

      -- the run, and k empty places behind it
      abbrev pub vs : List (Option X)
      vs = map Some xs ++ replicate k None

      -- they are as many as before
      pub high : length vs ≡ k + n
      high = omega (arith, length-append (map Some xs) (replicate k gap), length-replicate k gap, long)

      -- in the places of both, the run has moved down
      pub down-after : splice cs to (to + (k + n)) (map Some xs ++ replicate k None) ≡ shifted from to n cs
      down-after = is_moved None None from to n cs here there (splice cs to (to + (k + n)) vs) (splice-length None cs vs to (k + n) high (omega arith))
          (λ i l h. inside i (omega arith) (omega arith) ∙ get_or_append_left (map Some xs) (replicate k None) None (i - to) (omega (arith, long)) ∙ ran (i - to) (omega arith))
          (λ i out l h. left i (below_or i (to + n)) out l h)
          (λ i out off. stays i out (below_or i (to + (k + n))) off)
        where
          inside : (i : ℕ) → to ≤ i → i < to + (k + n) → get_or (splice cs to (to + (k + n)) vs) i None ≡ get_or vs (i - to) None
          inside = splice-in None cs vs to (k + n) high (omega arith)

          none : (i : ℕ) → to + n ≤ i → i < to + (k + n) → get_or (splice cs to (to + (k + n)) vs) i None ≡ None
          none i l h = inside i (omega arith) h ∙ get_or-append_right (map Some xs) (replicate k None) n (i - to) None long (omega arith) ∙ get_or-replicate k (i - to - n) None None (omega arith)

          left : (i : ℕ) → (i < to + n) ⊎ (to + n ≤ i) → (i < to) ⊎ (to + n ≤ i) → from ≤ i → i < from + n → get_or (splice cs to (to + (k + n)) vs) i None ≡ None
          left i p (inl o) l h = absurd (omega arith)
          left i p (inr o) l h = none i o (omega arith)

          stays : (i : ℕ) → (i < to) ⊎ (to + n ≤ i) → (i < to + (k + n)) ⊎ (to + (k + n) ≤ i) → (i < from) ⊎ (from + n ≤ i) → get_or (splice cs to (to + (k + n)) vs) i None ≡ get_or cs i None
          stays i (inl o) q off = splice-out None cs vs to (k + n) high (omega arith) i (inl o)
          stays i (inr o) (inl q) off = none i o q ∙ sym (clear i (omega arith) q off)
          stays i (inr o) (inr q) off = splice-out None cs vs to (k + n) high (omega arith) i (inr q)

    -- the two runs lie apart, with m places between them
    module _ (m : ℕ) (clear : IsClear cs to (to + n)) where
      abbrev pub between : ℕ → List (Option X)
      between low = take m (drop (low + n) cs)

      -- as many empty places as the run has
      no_more : length (replicate n gap) ≡ n
      no_more = length-replicate n gap

      -- p, what lies between, and q stand for the places from low on
      module _ (low : ℕ) (fits : low + (n + (m + n)) ≤ length cs) (p q : List (Option X)) (p-long : length p ≡ n) (q-long : length q ≡ n) where
        mid : length (between low) ≡ m
        mid = run-length gap cs (low + n) m (omega arith)

        -- p, what lies between, and q
        abbrev three : List (Option X)
        three = p ++ (between low ++ q)

        -- they are as many as before
        pub three-long : length three ≡ n + (m + n)
        three-long = omega (arith, length-append p (between low ++ q), length-append (between low) q, mid, p-long, q-long)

        -- inside, a place is one of the three
        inside : (i : ℕ) → low ≤ i → i < low + (n + (m + n)) → get_or (splice cs low (low + (n + (m + n))) three) i None ≡ get_or three (i - low) None
        inside = splice-in None cs three low (n + (m + n)) three-long fits

        -- one of p
        first : (i : ℕ) → low ≤ i → i < low + n → get_or (splice cs low (low + (n + (m + n))) three) i None ≡ get_or p (i - low) None
        first i l h = inside i l (omega arith) ∙ get_or_append_left p (between low ++ q) None (i - low) (omega (arith, p-long))

        -- one of q
        last : (i : ℕ) → low + n + m ≤ i → i < low + (n + (m + n)) → get_or (splice cs low (low + (n + (m + n))) three) i None ≡ get_or q (i - low - n - m) None
        last i l h = inside i (omega arith) h ∙ get_or-append_right p (between low ++ q) n (i - low) None p-long (omega arith) ∙ get_or-append_right (between low) q m (i - low - n) None mid (omega arith)

        -- one of what lies between
        second : (i : ℕ) → low + n ≤ i → i < low + n + m → get_or (splice cs low (low + (n + (m + n))) three) i None ≡ get_or cs i None
        second i l h = inside i (omega arith) (omega arith) ∙ get_or-append_right p (between low ++ q) n (i - low) None p-long (omega arith)
            ∙ get_or_append_left (between low) q None (i - low - n) (omega (arith, mid)) ∙ run-at None cs (low + n) m (i - low - n) (omega arith) ∙ at_index None cs _ i (omega arith)

        -- a place outside the two runs
        other : (i : ℕ) → (i < low) ⊎ (low + n ≤ i) → (i < low + n + m) ⊎ (low + n + m + n ≤ i) → (i < low + n + m) ⊎ (low + n + m ≤ i) → get_or (splice cs low (low + (n + (m + n))) three) i None ≡ get_or cs i None
        other i (inl o) r s = splice-out None cs three low (n + (m + n)) three-long fits i (inl o)
        other i (inr o) r (inl s) = second i o s
        other i (inr o) (inl r) (inr s) = absurd (omega arith)
        other i (inr o) (inr r) (inr s) = splice-out None cs three low (n + (m + n)) three-long fits i (inr (omega arith))

      -- the run, what lies between, and the places that it goes to
      pub apart-up-before : to ≡ from + n + m → take (n + (m + n)) (drop from cs) ≡ map Some xs ++ (between from ++ replicate n None)
      apart-up-before e = take-add n (m + n) (drop from cs) ∙ ap (λ l. l ++ take (m + n) (drop n (drop from cs))) run
          ∙ ap (λ l. map Some xs ++ l) (ap (λ l. take (m + n) l) (drop-drop n from cs) ∙ take-add m n (drop (from + n) cs)
          ∙ ap (λ l. between from ++ l) (ap (λ l. take n l) (drop-drop m (from + n) cs ∙ ap (λ j. drop j cs) (sym e)) ∙ run_none to n there clear))

      -- with the first and the last exchanged, the run has moved up
      pub apart-up-after : to ≡ from + n + m → splice cs from (from + (n + (m + n))) (replicate n None ++ (between from ++ map Some xs)) ≡ shifted from to n cs
      apart-up-after e =
          let fits : from + (n + (m + n)) ≤ length cs = omega arith in
          is_moved None None from to n cs here there (splice cs from (from + (n + (m + n))) (replicate n None ++ (between from ++ map Some xs)))
          (splice-length None cs (replicate n None ++ (between from ++ map Some xs)) from (n + (m + n)) (three-long from fits (replicate n None) (map Some xs) no_more long) fits)
          (λ i l h. last from fits (replicate n None) (map Some xs) no_more long i (omega arith) (omega arith) ∙ ran (i - from - n - m) (omega arith) ∙ at_index None cs _ (from + (i - to)) (omega arith))
          (λ i out l h. first from fits (replicate n None) (map Some xs) no_more long i l h ∙ get_or-replicate n (i - from) None None (omega arith))
          (λ i out off. other from fits (replicate n None) (map Some xs) no_more long i off (⊎_elim (λ o. inl (omega arith)) (λ o. inr (omega arith)) out) (below_or i (from + n + m)))

      -- the places that it goes to, what lies between, and the run
      pub apart-down-before : from ≡ to + n + m → take (n + (m + n)) (drop to cs) ≡ replicate n None ++ (between to ++ map Some xs)
      apart-down-before e = take-add n (m + n) (drop to cs) ∙ ap (λ l. l ++ take (m + n) (drop n (drop to cs))) (run_none to n there clear)
          ∙ ap (λ l. replicate n None ++ l) (ap (λ l. take (m + n) l) (drop-drop n to cs) ∙ take-add m n (drop (to + n) cs)
          ∙ ap (λ l. between to ++ l) (ap (λ l. take n l) (drop-drop m (to + n) cs ∙ ap (λ j. drop j cs) (sym e)) ∙ run))

      -- with the first and the last exchanged, the run has moved down
      pub apart-down-after : from ≡ to + n + m → splice cs to (to + (n + (m + n))) (map Some xs ++ (between to ++ replicate n None)) ≡ shifted from to n cs
      apart-down-after e =
          let fits : to + (n + (m + n)) ≤ length cs = omega arith in
          is_moved None None from to n cs here there (splice cs to (to + (n + (m + n))) (map Some xs ++ (between to ++ replicate n None)))
          (splice-length None cs (map Some xs ++ (between to ++ replicate n None)) to (n + (m + n)) (three-long to fits (map Some xs) (replicate n None) long no_more) fits)
          (λ i l h. first to fits (map Some xs) (replicate n None) long no_more i l h ∙ ran (i - to) (omega arith))
          (λ i out l h. last to fits (map Some xs) (replicate n None) long no_more i (omega arith) (omega arith) ∙ get_or-replicate n (i - to - n - m) None None (omega arith))
          (λ i out off. other to fits (map Some xs) (replicate n None) long no_more i out (⊎_elim (λ o. inl (omega arith)) (λ o. inr (omega arith)) off) (below_or i (to + n + m)))
