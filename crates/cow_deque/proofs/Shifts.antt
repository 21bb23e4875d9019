-- Runs of places that move, in a list that is read from an index on, round its end.
use Rattle.std.proofs.Common.{◌≡◌, ℕ, zero, suc, ◌+◌, ◌-◌, ◌≤◌, List, [], ◌∷◌, ◌++◌, length, take, drop, replicate, Option, None, refl, sym, ap, ◌∙◌, arith, length-append, length-drop, append_assoc}
use Rattle.std.proofs.lemmas.List.{length-replicate, length-take-le, take-append-le, drop-append-le, take_at, drop_at, take-append-drop, take-take, drop-drop, drop-take}
use Rattle.std.proofs.Math.Seq.{drop-append-add, take-append-add}
use Rattle.cow_buf.specs.Places.{blanked, shifted}
use Rattle.cow_deque.specs.Rings.{turned}
use Rattle.cow_deque.proofs.Rings.{nones-more}

module _ {X : Type 0} where
  -- places behind others move as they would without these
  shift-behind : (s l : List (Option X)) (i j n : ℕ) → shifted (length s + i) (length s + j) n (s ++ l) ≡ s ++ shifted i j n l
  shift-behind s l i j n =
      let ei : length s + i + n ≡ length s + (i + n) = omega arith in
      let ej : length s + j + n ≡ length s + (j + n) = omega arith in
      let inner : blanked None (length s + i) n (s ++ l) ≡ s ++ blanked None i n l = rw (ei, take-append-add s l i, drop-append-add s l (i + n), append_assoc) refl in
      rw (inner, ej, take-append-add s (blanked None i n l) j, drop-append-add s (blanked None i n l) (j + n), drop-append-add s l i, append_assoc) refl

  length-blanked : (l : List (Option X)) (i n : ℕ) → i + n ≤ length l → length (blanked None i n l) ≡ length l
  length-blanked l i n h =
      let none : Option X = None in
      omega (arith, length-append (take i l) (replicate n none ++ drop (i + n) l), length-append (replicate n none) (drop (i + n) l), length-replicate n none, length-take-le i l (omega (arith, h)), length-drop (i + n) l, h)

  pub length-shifted : (l : List (Option X)) (i j n : ℕ) → i + n ≤ length l → j + n ≤ length l → length (shifted i j n l) ≡ length l
  length-shifted l i j n h k =
      let bs = blanked None i n l in let run = take n (drop i l) in
      let long = length-blanked l i n h in
      omega (arith, length-append (take j bs) (run ++ drop (j + n) bs), length-append run (drop (j + n) bs), length-take-le n (drop i l) (omega (arith, length-drop i l, h)), length-take-le j bs (omega (arith, long, k)), length-drop (j + n) bs, long, k)

  -- places before others move as they would without these
  shift-before : (l s : List (Option X)) (i j n : ℕ) → i + n ≤ length l → j + n ≤ length l → shifted i j n (l ++ s) ≡ shifted i j n l ++ s
  shift-before l s i j n h k =
      let bs = blanked None i n l in
      let long = length-blanked l i n h in
      let inner : blanked None i n (l ++ s) ≡ bs ++ s =
      ap (λ (t : List (Option X)). t ++ (replicate n None ++ drop (i + n) (l ++ s))) (take-append-le i l s (omega (arith, h)))
      ∙ ap (λ (t : List (Option X)). take i l ++ (replicate n None ++ t)) (drop-append-le (i + n) l s h)
      ∙ ap (λ (t : List (Option X)). take i l ++ t) (sym (append_assoc (replicate n None) (drop (i + n) l) s)) ∙ sym (append_assoc (take i l) (replicate n None ++ drop (i + n) l) s) in
      let run : take n (drop i (l ++ s)) ≡ take n (drop i l) = ap (take n) (drop-append-le i l s (omega (arith, h))) ∙ take-append-le n (drop i l) s (omega (arith, h, length-drop i l)) in
      ap (λ (t : List (Option X)). take j t ++ (take n (drop i (l ++ s)) ++ drop (j + n) t)) inner
      ∙ ap (λ (t : List (Option X)). take j (bs ++ s) ++ (t ++ drop (j + n) (bs ++ s))) run
      ∙ ap (λ (t : List (Option X)). t ++ (take n (drop i l) ++ drop (j + n) (bs ++ s))) (take-append-le j bs s (omega (arith, k, long)))
      ∙ ap (λ (t : List (Option X)). take j bs ++ (take n (drop i l) ++ t)) (drop-append-le (j + n) bs s (omega (arith, k, long)))
      ∙ ap (λ (t : List (Option X)). take j bs ++ t) (sym (append_assoc (take n (drop i l)) (drop (j + n) bs) s)) ∙ sym (append_assoc (take j bs) (take n (drop i l) ++ drop (j + n) bs) s)

  -- a run that lies from `h` on, before and after
  pub turned-shift-front : (cs : List (Option X)) (h i j n : ℕ) → h + i + n ≤ length cs → h + j + n ≤ length cs → turned h (shifted (h + i) (h + j) n cs) ≡ shifted i j n (turned h cs)
  turned-shift-front cs h i j n a b =
      let us = take h cs in let vs = drop h cs in
      let lu : length us ≡ h = length-take-le h cs (omega (arith, a)) in
      let split : us ++ vs ≡ cs = take-append-drop h cs in
      let here : shifted (h + i) (h + j) n cs ≡ us ++ shifted i j n vs =
      ap (shifted (h + i) (h + j) n) (sym split) ∙ rw lu at (shift-behind us vs i j n) in
      ap (turned h) here ∙ rw (drop_at us (shifted i j n vs) h lu, take_at us (shifted i j n vs) h lu) (sym (shift-before vs us i j n (omega (arith, length-drop h cs, a)) (omega (arith, length-drop h cs, b))))

  -- a run that lies before `h`, before and after
  pub turned-shift-back : (cs : List (Option X)) (h i j n p q : ℕ) → h ≤ length cs → p + length cs ≡ h + i → q + length cs ≡ h + j → p + n ≤ h → q + n ≤ h → turned h (shifted p q n cs) ≡ shifted i j n (turned h cs)
  turned-shift-back cs h i j n p q k ep eq a b =
      let us = take h cs in let vs = drop h cs in
      let lu : length us ≡ h = length-take-le h cs k in
      let split : us ++ vs ≡ cs = take-append-drop h cs in
      let here : shifted p q n cs ≡ shifted p q n us ++ vs = ap (shifted p q n) (sym split) ∙ shift-before us vs p q n (omega (arith, a, lu)) (omega (arith, b, lu)) in
      let ls : length (shifted p q n us) ≡ h = length-shifted us p q n (omega (arith, a, lu)) (omega (arith, b, lu)) ∙ lu in
      let ei : i ≡ length vs + p = omega (arith, length-drop h cs, ep, k) in
      let ej : j ≡ length vs + q = omega (arith, length-drop h cs, eq, k) in
      ap (turned h) here ∙ rw (drop_at (shifted p q n us) vs h ls, take_at (shifted p q n us) vs h ls, ei, ej) (sym (shift-behind vs us p q n))

  -- a run moves down by one place, into an empty one
  pub slide-down : (us bs cs : List (Option X)) (k n : ℕ) → k ≡ length us → n ≡ length bs → shifted (k + 1) k n (us ++ None ∷ (bs ++ cs)) ≡ us ++ (bs ++ None ∷ cs)
  slide-down us bs cs k n ek en =
      let z : length us + 0 ≡ k = omega (arith, ek) in
      let one : length us + 1 ≡ k + 1 = omega (arith, ek) in
      rw (z, one) at (shift-behind us (None ∷ (bs ++ cs)) 1 0 n) ∙ ap (λ (t : List (Option X)). us ++ t) inner
    where
      inner : shifted 1 0 n (None ∷ (bs ++ cs)) ≡ bs ++ None ∷ cs
      inner =
          let e : 1 + n ≡ suc n = omega arith in
          let z : 0 + n ≡ n = omega arith in
          let run : take n (bs ++ cs) ≡ bs = take_at bs cs n (sym en) in
          let rest : drop n (bs ++ cs) ≡ cs = drop_at bs cs n (sym en) in
          let blank : blanked None 1 n (None ∷ (bs ++ cs)) ≡ replicate n None ++ None ∷ cs =
          ap (λ (j : ℕ). take 1 (None ∷ (bs ++ cs)) ++ (replicate n None ++ drop j (None ∷ (bs ++ cs)))) e
          ∙ ap (λ (t : List (Option X)). None ∷ (replicate n None ++ t)) rest
          ∙ ap (λ (t : List (Option X)). t ++ cs) (sym (nones-more n)) ∙ append_assoc (replicate n None) (None ∷ []) cs in
          ap (λ (t : List (Option X)). take n (bs ++ cs) ++ drop (0 + n) t) blank
          ∙ ap (λ (t : List (Option X)). t ++ drop (0 + n) (replicate n None ++ None ∷ cs)) run
          ∙ ap (λ (j : ℕ). bs ++ drop j (replicate n None ++ None ∷ cs)) z
          ∙ ap (λ (t : List (Option X)). bs ++ t) (drop_at (replicate n None) (None ∷ cs) n (length-replicate n None))

  -- a run moves up by one place, into an empty one
  pub slide-up : (us bs cs : List (Option X)) (k n : ℕ) → k ≡ length us → n ≡ length bs → shifted k (k + 1) n (us ++ (bs ++ None ∷ cs)) ≡ us ++ None ∷ (bs ++ cs)
  slide-up us bs cs k n ek en =
      let z : length us + 0 ≡ k = omega (arith, ek) in
      let one : length us + 1 ≡ k + 1 = omega (arith, ek) in
      rw (z, one) at (shift-behind us (bs ++ None ∷ cs) 0 1 n) ∙ ap (λ (t : List (Option X)). us ++ t) inner
    where
      first-none : (m : ℕ) → take 1 (replicate {A = Option X} m None ++ None ∷ cs) ≡ None ∷ []
      first-none zero = refl
      first-none (suc m) = refl

      past : (m : ℕ) → drop (1 + m) (replicate {A = Option X} m None ++ None ∷ cs) ≡ cs
      past zero = refl
      past (suc m) = let e : 1 + suc m ≡ suc (1 + m) = omega arith in rw e (past m)

      inner : shifted 0 1 n (bs ++ None ∷ cs) ≡ None ∷ (bs ++ cs)
      inner =
          let z : 0 + n ≡ n = omega arith in
          let run : take n (bs ++ None ∷ cs) ≡ bs = take_at bs (None ∷ cs) n (sym en) in
          let rest : drop n (bs ++ None ∷ cs) ≡ None ∷ cs = drop_at bs (None ∷ cs) n (sym en) in
          let blank : blanked None 0 n (bs ++ None ∷ cs) ≡ replicate n None ++ None ∷ cs = ap (λ (j : ℕ). replicate n None ++ drop j (bs ++ None ∷ cs)) z ∙ ap (λ (t : List (Option X)). replicate n None ++ t) rest in
          ap (λ (t : List (Option X)). take 1 t ++ (take n (bs ++ None ∷ cs) ++ drop (1 + n) t)) blank
          ∙ ap (λ (t : List (Option X)). take 1 (replicate n None ++ None ∷ cs) ++ (t ++ drop (1 + n) (replicate n None ++ None ∷ cs))) run
          ∙ ap (λ (t : List (Option X)). t ++ (bs ++ drop (1 + n) (replicate n None ++ None ∷ cs))) (first-none n)
          ∙ ap (λ (t : List (Option X)). None ∷ (bs ++ t)) (past n)

  -- what a run of places holds that lies from `h` on
  pub run-front : (cs : List (Option X)) (h i n : ℕ) → h + i + n ≤ length cs → take n (drop (h + i) cs) ≡ take n (drop i (turned h cs))
  run-front cs h i n a =
      let long = length-drop h cs in
      sym (ap (take n) (drop-append-le i (drop h cs) (take h cs) (omega (arith, long, a)) ∙ ap (λ (t : List (Option X)). t ++ take h cs) (drop-drop i h cs))
      ∙ take-append-le n (drop (h + i) cs) (take h cs) (omega (arith, length-drop (h + i) cs, a)))

  -- and one that lies before `h`
  pub run-back : (cs : List (Option X)) (h i n p : ℕ) → h ≤ length cs → p + length cs ≡ h + i → p + n ≤ h → take n (drop p cs) ≡ take n (drop i (turned h cs))
  run-back cs h i n p k e a =
      let vs = drop h cs in
      let ei : i ≡ length vs + p = omega (arith, length-drop h cs, e, k) in
      let eh : h ≡ p + (h - p) = omega (arith, a) in
      let cut : drop p (take h cs) ≡ take (h - p) (drop p cs) = ap (λ (j : ℕ). drop p (take j cs)) eh ∙ drop-take p (h - p) cs in
      let there : drop i (turned h cs) ≡ drop p (take h cs) = rw ei (drop-append-add vs (take h cs) p) in
      sym (ap (take n) (there ∙ cut) ∙ take-take n (h - p) (drop p cs) (omega (arith, a)))
