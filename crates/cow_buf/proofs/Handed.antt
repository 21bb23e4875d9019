-- All that a block holds goes to an empty one.
use Rattle.std.proofs.Common.{◌≡◌, ℕ, zero, suc, ◌+◌, ◌-◌, ◌≤◌, List, [], ◌∷◌, ◌++◌, length, take, drop, replicate, Option, None, refl, sym, ap, ◌∙◌, arith, append_assoc}
use Rattle.std.proofs.lemmas.List.{replicate-append-replicate, take-append-drop, length-drop, drop-replicate}
use Rattle.std.specs.List.{splice}
use Rattle.cow_buf.specs.Places.{IsClear, blanked}
use Rattle.cow_buf.proofs.Moves.{run_none}

module _ {X : Type 0} where
  -- what lies behind the first n places is empty
  tail-none : (cs : List (Option X)) (n : ℕ) → n ≤ length cs → IsClear cs n (length cs) → drop n cs ≡ replicate (length cs - n) None
  tail-none cs n h clear =
      let e : n + (length cs - n) ≡ length cs = omega arith in
      let some = run_none cs n (length cs - n) (omega arith) (λ i l u. clear i l (omega arith)) in
      sym (take_whole (drop n cs) (length cs - n) (length-drop n cs)) ∙ some
    where
      take_whole : (ys : List (Option X)) (k : ℕ) → length ys ≡ k → take k ys ≡ ys
      take_whole [] zero h = refl
      take_whole [] (suc k) h = refl
      take_whole (y ∷ ys) zero h = absurd (omega arith)
      take_whole (y ∷ ys) (suc k) h = ap (λ l. y ∷ l) (take_whole ys k (omega arith))

  pub left-none : (cs : List (Option X)) (n : ℕ) → n ≤ length cs → IsClear cs n (length cs) → blanked None 0 n cs ≡ replicate (length cs) None
  left-none cs n h clear =
      let e : n + (length cs - n) ≡ length cs = omega arith in
      let z : 0 + n ≡ n = omega arith in
      rw z (ap (λ l. replicate n None ++ l) (tail-none cs n h clear) ∙ replicate-append-replicate n (length cs - n) None ∙ ap (λ k. replicate k None) e)

  pub came-all : (cs ds : List (Option X)) (n : ℕ) → n ≤ length cs → IsClear cs n (length cs) → length cs ≤ length ds → ds ≡ replicate (length ds) None
      → splice ds 0 (0 + n) (take n (drop 0 cs)) ≡ cs ++ drop (length cs) ds
  came-all cs ds n h clear wide none =
      let m = length cs - n in let k = length ds - length cs in
      let d₁ : drop n ds ≡ replicate (m + k) None = ap (λ l. drop n l) none ∙ drop-replicate n (length ds) None ∙ ap (λ j. replicate j None) (omega arith) in
      let d₂ : drop (length cs) ds ≡ replicate k None = ap (λ l. drop (length cs) l) none ∙ drop-replicate (length cs) (length ds) None in
      let z : 0 + n ≡ n = omega arith in
      rw (z, d₁, d₂) (ap (λ l. take n cs ++ l) (sym (replicate-append-replicate m k None)) ∙ sym (append_assoc (take n cs) (replicate m None) (replicate k None))
      ∙ ap (λ l. (take n cs ++ l) ++ replicate k None) (sym (tail-none cs n h clear)) ∙ ap (λ l. l ++ replicate k None) (take-append-drop n cs))
