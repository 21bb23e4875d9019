-- The places of a ring while an empty place moves by a move of memory.
use Rattle.std.proofs.Common.{◌≡◌, ℕ, ◌+◌, ◌-◌, ◌<◌, ◌≤◌, inl, inr, List, [], ◌∷◌, ◌++◌, length, map, take, drop, replicate, Option, Some, None, refl, sym, ap, ◌∙◌, arith, length-append, length-drop, append_assoc}
use Rattle.std.proofs.Math.Seq.{take-add}
use Rattle.std.proofs.lemmas.List.{length-map, length-take-le, take_at, drop_at, take-append-drop, map-append}
use Rattle.cow_buf.specs.Places.{IsRun, IsClearBut, shifted}
use Rattle.cow_row.specs.Places.{place, gapped}
use Rattle.cow_row.proofs.Gaps.{place-gap}
use Rattle.cow_deque.specs.Rings.{turned, Wraps, HasGap}
use Rattle.cow_deque.proofs.Turns.{turned-at}
use Rattle.cow_deque.proofs.Rings.{items_of}
use Rattle.cow_deque.proofs.Openings.{is_gap}
use Rattle.cow_deque.proofs.Shifts.{length-shifted, turned-shift-front, turned-shift-back, run-front, run-back, slide-down, slide-up}

module _ {X : Type 0} where
  -- places behind a gap of one
  abbrev rest : List X → ℕ → List (Option X)
  rest ys m = map Some ys ++ replicate m None

  length-somes : (xs : List X) → length (map (λ (x : X). Some x) xs) ≡ length xs
  length-somes xs = length-map xs (λ (x : X). Some x)

  -- a gap with two runs behind it
  apart : (xs vs bs : List X) (m : ℕ) → gapped 0 xs 1 (vs ++ bs) m ≡ map Some xs ++ None ∷ (map Some vs ++ rest bs m)
  apart xs vs bs m = rw (map-append, append_assoc) refl

  -- a gap with two runs before it
  apart-before : (xs vs bs : List X) (m : ℕ) → gapped 0 (xs ++ vs) 1 bs m ≡ map Some xs ++ (map Some vs ++ None ∷ rest bs m)
  apart-before xs vs bs m = rw (map-append, append_assoc) refl

  run-between : (us bs cs : List (Option X)) (k n : ℕ) → length us ≡ k → length bs ≡ n → take n (drop k (us ++ (bs ++ cs))) ≡ bs
  run-between us bs cs k n a b = rw (drop_at us (bs ++ cs) k a, take_at bs cs n b) refl

  run-past : (us bs cs : List (Option X)) (k n : ℕ) → length us ≡ k → length bs ≡ n → take n (drop (k + 1) (us ++ None ∷ (bs ++ cs))) ≡ bs
  run-past us bs cs k n a b =
      let long : length (us ++ None ∷ []) ≡ k + 1 = omega (arith, a, length-append us (None ∷ [])) in
      rw (← append_assoc us (None ∷ []) (bs ++ cs)) (run-between (us ++ None ∷ []) bs cs (k + 1) n long b)

  empty-at : (cs : List (Option X)) (h k p : ℕ) → HasGap cs h k → Wraps h k (length cs) p → place cs p ≡ None
  empty-at cs h k p r w =
      let zs = items_of cs h in let m = length cs - length zs - 1 in
      sym (turned-at cs h k p None r.start (omega (arith, r.within, r.room)) w) ∙ ap (λ (l : List (Option X)). place l k) r.places ∙ place-gap 0 (take k zs) 0 (drop k zs) m k (omega (arith, length-take-le k zs r.within))

  -- the n items behind the gap, which lie behind it in the buffer too, move before it
  pub gap-slid-up : (cs : List (Option X)) (h k n p : ℕ) → HasGap cs h k → k + n ≤ length (items_of cs h) → Wraps h k (length cs) p → p + n < length cs
      → IsRun cs (p + 1) n × IsClearBut cs p (p + n) (p + 1) n × HasGap (shifted (p + 1) p n cs) h (k + n) × (items_of (shifted (p + 1) p n cs) h ≡ items_of cs h)
  gap-slid-up cs h k n p r l w b =
      let zs = items_of cs h in let m = length cs - length zs - 1 in
      let xs = take k zs in let ys = take n (drop k zs) in let ws = drop n (drop k zs) in
      let lx : length xs ≡ k = length-take-le k zs r.within in
      let ly : length ys ≡ n = length-take-le n (drop k zs) (omega (arith, length-drop k zs, l)) in
      let row : turned h cs ≡ map Some xs ++ None ∷ (map Some ys ++ rest ws m) = r.places ∙ ap (λ (t : List X). gapped 0 xs 1 t m) (sym (take-append-drop n (drop k zs))) ∙ apart xs ys ws m in
      let slid : shifted (k + 1) k n (turned h cs) ≡ gapped 0 (xs ++ ys) 1 ws m = ap (shifted (k + 1) k n) row ∙ slide-down (map Some xs) (map Some ys) (rest ws m) k n (sym (length-somes xs ∙ lx)) (sym (length-somes ys ∙ ly)) ∙ sym (apart-before xs ys ws m) in
      let found : take n (drop (k + 1) (turned h cs)) ≡ map Some ys = ap (λ (t : List (Option X)). take n (drop (k + 1) t)) row ∙ run-past (map Some xs) (map Some ys) (rest ws m) k n (length-somes xs ∙ lx) (length-somes ys ∙ ly) in
      let both = sides in
      let places : turned h (shifted (p + 1) p n cs) ≡ gapped 0 (xs ++ ys) 1 ws m = both.0 ∙ slid in
      let long : length (shifted (p + 1) p n cs) ≡ length cs = length-shifted cs (p + 1) p n (omega (arith, b)) (omega (arith, b)) in
      let g = is_gap (shifted (p + 1) p n cs) h (k + n) m (xs ++ ys) ws places (omega (arith, length-append xs ys, lx, ly)) (omega (arith, long, r.start)) (omega (arith, long, r.small)) in
      let whole : (xs ++ ys) ++ ws ≡ zs = append_assoc xs ys ws ∙ ap (λ (t : List X). xs ++ t) (take-append-drop n (drop k zs)) ∙ take-append-drop k zs in (
        (omega (arith, b), (ys, both.1 ∙ found)),
        λ i low high out. ap (place cs) (elim out [ inl e ↦ omega (arith, low, e) | inr e ↦ absurd (omega (arith, high, e)) ]) ∙ empty-at cs h k p r w,
        g.0,
        g.1 ∙ whole,
      )
    where
      sides : (turned h (shifted (p + 1) p n cs) ≡ shifted (k + 1) k n (turned h cs)) × (take n (drop (p + 1) cs) ≡ take n (drop (k + 1) (turned h cs)))
      sides = elim w.1 [
        | inl e ↦
            let one : h + (k + 1) ≡ p + 1 = omega (arith, e) in
            let z : h + k ≡ p = omega (arith, e) in
            (rw (one, z) at (turned-shift-front cs h (k + 1) k n (omega (arith, e, b)) (omega (arith, e, b))), rw one at (run-front cs h (k + 1) n (omega (arith, e, b))))
        | inr e ↦
            (turned-shift-back cs h (k + 1) k n (p + 1) p r.start (omega (arith, e)) e (omega (arith, e, l, r.room)) (omega (arith, e, l, r.room)), run-back cs h (k + 1) n (p + 1) r.start (omega (arith, e)) (omega (arith, e, l, r.room)))
      ]

  -- the n items before the gap, which lie before it in the buffer too, move behind it
  pub gap-slid-down : (cs : List (Option X)) (h k n p : ℕ) → HasGap cs h (k + n) → Wraps h (k + n) (length cs) (p + n)
      → IsRun cs p n × IsClearBut cs (p + 1) (p + 1 + n) p n × HasGap (shifted p (p + 1) n cs) h k × (items_of (shifted p (p + 1) n cs) h ≡ items_of cs h)
  gap-slid-down cs h k n p r w =
      let zs = items_of cs h in let m = length cs - length zs - 1 in
      let xs = take k zs in let ys = take n (drop k zs) in let ws = drop (k + n) zs in
      let lx : length xs ≡ k = length-take-le k zs (omega (arith, r.within)) in
      let ly : length ys ≡ n = length-take-le n (drop k zs) (omega (arith, length-drop k zs, r.within)) in
      let row : turned h cs ≡ map Some xs ++ (map Some ys ++ None ∷ rest ws m) = r.places ∙ ap (λ (t : List X). gapped 0 t 1 ws m) (take-add k n zs) ∙ apart-before xs ys ws m in
      let slid : shifted k (k + 1) n (turned h cs) ≡ gapped 0 xs 1 (ys ++ ws) m = ap (shifted k (k + 1) n) row ∙ slide-up (map Some xs) (map Some ys) (rest ws m) k n (sym (length-somes xs ∙ lx)) (sym (length-somes ys ∙ ly)) ∙ sym (apart xs ys ws m) in
      let found : take n (drop k (turned h cs)) ≡ map Some ys = ap (λ (t : List (Option X)). take n (drop k t)) row ∙ run-between (map Some xs) (map Some ys) (None ∷ rest ws m) k n (length-somes xs ∙ lx) (length-somes ys ∙ ly) in
      let both = sides in
      let places : turned h (shifted p (p + 1) n cs) ≡ gapped 0 xs 1 (ys ++ ws) m = both.0 ∙ slid in
      let long : length (shifted p (p + 1) n cs) ≡ length cs = length-shifted cs p (p + 1) n (omega (arith, w.0)) (omega (arith, w.0)) in
      let g = is_gap (shifted p (p + 1) n cs) h k m xs (ys ++ ws) places (sym lx) (omega (arith, long, r.start)) (omega (arith, long, r.small)) in
      let whole : xs ++ (ys ++ ws) ≡ zs = sym (append_assoc xs ys ws) ∙ ap (λ (t : List X). t ++ ws) (sym (take-add k n zs)) ∙ take-append-drop (k + n) zs in (
        (omega (arith, w.0), (ys, both.1 ∙ found)),
        λ i low high out. ap (place cs) (elim out [ inl e ↦ absurd (omega (arith, low, e)) | inr e ↦ omega (arith, high, e) ]) ∙ empty-at cs h (k + n) (p + n) r w,
        g.0,
        g.1 ∙ whole,
      )
    where
      sides : (turned h (shifted p (p + 1) n cs) ≡ shifted k (k + 1) n (turned h cs)) × (take n (drop p cs) ≡ take n (drop k (turned h cs)))
      sides = elim w.1 [
        | inl e ↦
            let z : h + k ≡ p = omega (arith, e) in
            let one : h + (k + 1) ≡ p + 1 = omega (arith, e) in
            (rw (z, one) at (turned-shift-front cs h k (k + 1) n (omega (arith, e, w.0)) (omega (arith, e, w.0))), rw z at (run-front cs h k n (omega (arith, e, w.0))))
        | inr e ↦
            (turned-shift-back cs h k (k + 1) n p (p + 1) r.start (omega (arith, e)) (omega (arith, e)) (omega (arith, e, r.within, r.room)) (omega (arith, e, r.within, r.room)), run-back cs h k n p r.start (omega (arith, e)) (omega (arith, e, r.within, r.room)))
      ]

-- behind the last place the first one comes
pub round-next : (h k n p : ℕ) → h ≤ n → k + 1 < n → Wraps h k n p → p + 1 ≡ n → Wraps h (k + 1) n 0
round-next h k n p s l w e = (omega (arith, l), inr (elim w.1 [ inl f ↦ omega (arith, e, f) | inr f ↦ absurd (omega (arith, e, f, s, l)) ]))

-- before the first place the last one comes
pub round-before : (h k n : ℕ) → h ≤ n → 0 < k → k < n → Wraps h k n 0 → Wraps h (k - 1) n (n - 1)
round-before h k n s a l w = (omega (arith, l), inl (elim w.1 [ inl f ↦ absurd (omega (arith, f, a)) | inr f ↦ omega (arith, f, a, l) ]))
