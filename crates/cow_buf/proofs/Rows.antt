-- A row of places is taken apart, and put together again. Assumes `Logic`.
use Rattle.std.proofs.Common.{◌≡◌, ℕ, zero, suc, ◌+◌, ◌*◌, ◌<◌, ◌≤◌, ◌^◌, List, [], ◌∷◌, ◌++◌, map, length, take, drop, get_or, replicate, Option, Some, None, refl, sym, ap, ◌∙◌, arith, take-append-drop, drop-drop}
use Rattle.std.proofs.lemmas.List.{length-take-le, length-drop}
use Rattle.std.specs.Mem.{type_size}
use lib.ListN.{set}
use native.Mathlib.Nat.{zero-mul, suc-mul}
use seplogic.Ra.Ura.{Ura}
use base.Logic.{SProp, ent, sep, via, snd∗, id⊢}
use base.Fml.{Lft, Fml, ftrue, fsep, froom}
use mir.Syntax.{ty_array}
use types.Logic.{Logic, sem}
use types.Kit.{‵, ◌⊛◌, ◌$◌, ◌∵◌, !, qed, by, move, keep, drop as skip, use1, use2, split, frame, rewrite, fsplit, fjoin, done}
use denote.Slice.{elements_shared}
use denote.Steps.{nothing}
use Rattle.core.proofs.ptr.Rows.{times_below, one_below}
use Rattle.core.proofs.mem.Param.{El, R, el_x, elτ}
use Rattle.cow_buf.specs.Block.{place_owns, row_owns, place_lends, row_lends}

module _ (E : El) where
  -- what a place may hold
  abbrev pub Place : Type 0
  Place = Option (el_x E)

  -- the bytes of a place
  abbrev pub sz : ℕ
  sz = type_size (R E)

-- of a row of n places in fewer than 2 ^ 63 bytes, the size of a place and the bytes before place i fit a word
pub word_fits : (i n s : ℕ) → i < n → n * s < 2 ^ 63 → (s < 2 ^ 64) × (i * s < 2 ^ 64)
word_fits i n s lt small = let one = one_below n s (2 ^ 63) (omega arith) small in let all = times_below i n s (2 ^ 63) (omega arith) small in (omega arith, omega arith)

-- so do the bytes before the place after the last
pub end_fits : (i n s : ℕ) → i ≤ n → n * s < 2 ^ 63 → i * s < 2 ^ 64
end_fits i n s le small = let all = times_below i n s (2 ^ 63) le small in omega arith

-- a filled place is a place of the row
pub filled_within : {X : Type 0} (ps : List (Option X)) (i : ℕ) (x : X) → get_or ps i None ≡ Some x → i < length ps
filled_within [] i x holds = cc
filled_within (p ∷ ps) zero x holds = omega arith
filled_within (p ∷ ps) (suc i) x holds = omega (arith, filled_within ps i x holds)

module _ (E : El) {M : Type 1} {𝓤 : Ura M} (𝓛 : Logic 𝓤) (b : ℕ) where
  open 𝓛 use {H}

  -- whoever has P may have Q
  abbrev ◌⊢◌ : SProp 𝓤 → SProp 𝓤 → Type 1
  P ⊢ Q = ent 𝓤 P Q

  -- P, and beside it, apart, Q
  abbrev ◌∗◌ : SProp 𝓤 → SProp 𝓤 → SProp 𝓤
  P ∗ Q = sep 𝓤 P Q

  -- the assertion that a formula is
  abbrev ⟦◌⟧ : Fml → SProp 𝓤
  ⟦ P ⟧ = sem 𝓛 P

  infix 26 ◌⊢◌
  infixr 35 ◌∗◌
  -- the bytes of a place
  abbrev w : ℕ
  w = sz E

  -- a place of block b
  abbrev One : ℕ → Place E → Fml
  One = place_owns (R E) b

  -- a row of places of block b
  abbrev pub Row : ℕ → List (Place E) → Fml
  Row = row_owns (R E) b

  -- a row, and one that begins where it ends, are one row
  pub glued : (ps qs : List (Place E)) (at next : ℕ) → next ≡ length ps * w + at → ⟦ Row at ps ⟧ ∗ ⟦ Row next qs ⟧ ⊢ ⟦ Row at (ps ++ qs) ⟧
  glued [] qs at next here = let same : at ≡ next = omega (arith, zero-mul w) in qed 𝓛 (‵ ftrue ∷ ‵ (Row next qs) ∷ []) ∵ skip ! $ rewrite ! 0 (λ (k : ℕ). ‵ (Row k qs)) (sym same) refl $ done !
  glued (p ∷ ps) qs at next here =
      let further : next ≡ length ps * w + (at + w) = omega (arith, suc-mul (length ps) w) in
      qed 𝓛 (‵ (Row at (p ∷ ps)) ∷ ‵ (Row next qs) ∷ []) ∵ fsplit ! $ frame ! $ by ! (glued ps qs (at + w) next further)

  -- and a row is these two, cut anywhere
  pub parted : (ps qs : List (Place E)) (at next : ℕ) → next ≡ length ps * w + at → ⟦ Row at (ps ++ qs) ⟧ ⊢ ⟦ Row at ps ⟧ ∗ ⟦ Row next qs ⟧
  parted [] qs at next here = let same : at ≡ next = omega (arith, zero-mul w) in qed 𝓛 (‵ (Row at qs) ∷ []) ∵ nothing ! $ rewrite ! 1 (λ (k : ℕ). ‵ (Row k qs)) same refl $ done !
  parted (p ∷ ps) qs at next here =
      let further : next ≡ length ps * w + (at + w) = omega (arith, suc-mul (length ps) w) in
      qed 𝓛 (‵ (Row at (p ∷ ps ++ qs)) ∷ []) ∵ fsplit ! $ move ! (1 ∷ []) $ use1 𝓛 (‵ (Row (at + w) ps) ⊛ ‵ (Row next qs)) (parted ps qs (at + w) next further) $ split ! $
      move ! (2 ∷ 0 ∷ []) $ fjoin ! $ done !

  -- the row but for place i
  abbrev pub others : ℕ → ℕ → List (Place E) → Fml
  others at i [] = ftrue
  others at zero (p ∷ ps) = Row (at + w) ps
  others at (suc i) (p ∷ ps) = fsep (One at p) (others (at + w) i ps)

  -- place i is taken out of the row
  pub place_out : (ps : List (Place E)) (i at here : ℕ) → here ≡ i * w + at → i < length ps → ⟦ Row at ps ⟧ ⊢ ⟦ One here (get_or ps i None) ⟧ ∗ ⟦ others at i ps ⟧
  place_out [] i at here e lt = absurd (omega arith)
  place_out (p ∷ ps) zero at here e lt =
      let same : at ≡ here = omega (arith, zero-mul w) in qed 𝓛 (‵ (Row at (p ∷ ps)) ∷ []) ∵ fsplit ! $ rewrite ! 0 (λ (k : ℕ). ‵ (One k p)) same refl $ done !
  place_out (p ∷ ps) (suc i) at here e lt =
      let e' : here ≡ i * w + (at + w) = omega (arith, suc-mul i w) in
      qed 𝓛 (‵ (Row at (p ∷ ps)) ∷ []) ∵ fsplit ! $ move ! (1 ∷ []) $ use1 𝓛 (‵ (One here (get_or ps i None)) ⊛ ‵ (others (at + w) i ps)) (place_out ps i (at + w) here e' (omega arith)) $ split ! $
      move ! (2 ∷ 1 ∷ []) $ fjoin ! $ move ! (1 ∷ []) $ done !

  -- and put back, holding q by then
  pub place_in : (ps : List (Place E)) (i at here : ℕ) → here ≡ i * w + at → i < length ps → (q : Place E) → ⟦ One here q ⟧ ∗ ⟦ others at i ps ⟧ ⊢ ⟦ Row at (set ps i q) ⟧
  place_in [] i at here e lt q = absurd (omega arith)
  place_in (p ∷ ps) zero at here e lt q =
      let same : here ≡ at = omega (arith, zero-mul w) in qed 𝓛 (‵ (One here q) ∷ ‵ (others at zero (p ∷ ps)) ∷ []) ∵ rewrite ! 0 (λ (k : ℕ). ‵ (One k q)) same refl $ fjoin ! $ done !
  place_in (p ∷ ps) (suc i) at here e lt q =
      let e' : here ≡ i * w + (at + w) = omega (arith, suc-mul i w) in
      qed 𝓛 (‵ (One here q) ∷ ‵ (others at (suc i) (p ∷ ps)) ∷ []) ∵ move ! (1 ∷ []) $ fsplit ! $ frame ! $ move ! (1 ∷ 0 ∷ []) $ by ! (place_in ps i (at + w) here e' (omega arith) q)

  -- the row but for the n places from place i on
  abbrev pub around : ℕ → ℕ → ℕ → List (Place E) → Fml
  around at i n ps = fsep (Row at (take i ps)) (Row (n * w + (i * w + at)) (drop (i + n) ps))

  module _ (ps : List (Place E)) (at i n : ℕ) (within : i + n ≤ length ps) where
    -- the run begins behind the places before it
    ahead : i * w + at ≡ length (take i ps) * w + at
    ahead = ap (λ k. k * w + at) (sym (length-take-le i ps (omega arith)))

    -- and what follows begins behind the run
    after_run : (run : List (Place E)) → length run ≡ n → n * w + (i * w + at) ≡ length run * w + (i * w + at)
    after_run run long = ap (λ k. k * w + (i * w + at)) (sym long)

    -- a run of n places is taken out of the row
    pub run_out : ⟦ Row at ps ⟧ ⊢ ⟦ Row (i * w + at) (take n (drop i ps)) ⟧ ∗ ⟦ around at i n ps ⟧
    run_out =
        let run = take n (drop i ps) in let rest = drop (i + n) ps in let long : length run ≡ n = length-take-le n (drop i ps) (omega (arith, length-drop i ps)) in
        let three : ps ≡ take i ps ++ (run ++ rest) = sym (take-append-drop i ps) ∙ ap (λ qs. take i ps ++ qs) (sym (take-append-drop n (drop i ps)) ∙ ap (λ qs. run ++ qs) (drop-drop n i ps)) in
        qed 𝓛 (‵ (Row at ps) ∷ []) ∵ rewrite ! 0 (λ (qs : List (Place E)). ‵ (Row at qs)) three refl $
        use1 𝓛 (‵ (Row at (take i ps)) ⊛ ‵ (Row (i * w + at) (run ++ rest))) (parted (take i ps) (run ++ rest) at (i * w + at) ahead) $ split ! $ move ! (1 ∷ []) $
        use1 𝓛 (‵ (Row (i * w + at) run) ⊛ ‵ (Row (n * w + (i * w + at)) rest)) (parted run rest (i * w + at) (n * w + (i * w + at)) (after_run run long)) $ split ! $
        frame ! $ move ! (1 ∷ 0 ∷ []) $ fjoin ! $ done !

    -- and n places are put where it was
    pub run_in : (run : List (Place E)) → length run ≡ n → ⟦ Row (i * w + at) run ⟧ ∗ ⟦ around at i n ps ⟧ ⊢ ⟦ Row at (take i ps ++ (run ++ drop (i + n) ps)) ⟧
    run_in run long =
        let rest = drop (i + n) ps in
        qed 𝓛 (‵ (Row (i * w + at) run) ∷ ‵ (around at i n ps) ∷ []) ∵ move ! (1 ∷ []) $ fsplit ! $ move ! (2 ∷ 1 ∷ []) $
        use2 𝓛 (‵ (Row (i * w + at) (run ++ rest))) (glued run rest (i * w + at) (n * w + (i * w + at)) (after_run run long)) $ move ! (1 ∷ []) $
        by ! (glued (take i ps) (run ++ rest) at (i * w + at) ahead)

  -- n empty places are room for n values
  pub room_of : (n at : ℕ) → ⟦ Row at (replicate n None) ⟧ ⊢ H.room (ty_array (elτ E) n) b at
  room_of zero at = 𝓛.laws.room_nil (elτ E) b at
  room_of (suc n) at = qed 𝓛 (‵ (Row at (replicate (suc n) None)) ∷ []) ∵ fsplit ! $ use1 𝓛 (‵ (froom (elτ E) b at)) (𝓛.laws.raw-room (elτ E) b at) $ move ! (1 ∷ []) $
      use1 𝓛 (‵ (froom (ty_array (elτ E) n) b (at + w))) (room_of n (at + w)) $ move ! (1 ∷ 0 ∷ []) $ by ! (𝓛.laws.room_cons (elτ E) n b at)

  -- and room for n values is n empty places
  pub of_room : (n at : ℕ) → H.room (ty_array (elτ E) n) b at ⊢ ⟦ Row at (replicate n None) ⟧
  of_room zero at = qed 𝓛 (‵ (froom (ty_array (elτ E) zero) b at) ∷ []) ∵ skip ! $ nothing ! $ done !
  of_room (suc n) at = qed 𝓛 (‵ (froom (ty_array (elτ E) (suc n)) b at) ∷ []) ∵ use1 𝓛 (‵ (froom (elτ E) b at) ⊛ ‵ (froom (ty_array (elτ E) n) b (at + w))) (𝓛.laws.room_uncons (elτ E) n b at) $
      split ! $ use1 𝓛 (‵ (One at None)) (𝓛.laws.room-raw (elτ E) b at) $ frame ! $ by ! (of_room n (at + w))

  -- place i of a lent row is lent
  pub place_seen : (κ : Lft) (ps : List (Place E)) (i at here : ℕ) → here ≡ i * w + at → i < length ps → ⟦ row_lends (R E) b at ps κ ⟧ ⊢ ⟦ place_lends (R E) b here (get_or ps i None) κ ⟧
  place_seen κ [] i at here e lt = absurd (omega arith)
  place_seen κ (p ∷ ps) zero at here e lt = let same : at ≡ here = omega (arith, zero-mul w) in
      qed 𝓛 (‵ (row_lends (R E) b at (p ∷ ps) κ) ∷ []) ∵ fsplit ! $ rewrite ! 0 (λ (k : ℕ). ‵ (place_lends (R E) b k p κ)) same refl $ keep ! (0 ∷ []) $ done !
  place_seen κ (p ∷ ps) (suc i) at here e lt = let e' : here ≡ i * w + (at + w) = omega (arith, suc-mul i w) in
      via 𝓤 ⟦ row_lends (R E) b (at + w) ps κ ⟧ (snd∗ 𝓤 ⟦ place_lends (R E) b at p κ ⟧ ⟦ row_lends (R E) b (at + w) ps κ ⟧) (place_seen κ ps i (at + w) here e' (omega arith))

  -- a lent run of a lent row is lent as a slice is
  pub each_seen : (κ : Lft) (xs : List (el_x E)) (at : ℕ) → ⟦ row_lends (R E) b at (map Some xs) κ ⟧ ⊢ ⟦ elements_shared (R E) xs b at κ ⟧
  each_seen κ [] at = id⊢ 𝓤 _
  each_seen κ (x ∷ xs) at = qed 𝓛 (‵ (row_lends (R E) b at (map Some (x ∷ xs)) κ) ∷ []) ∵ fsplit ! $ move ! (1 ∷ []) $ use1 𝓛 (‵ (elements_shared (R E) xs b (at + w) κ)) (each_seen κ xs (at + w)) $ move ! (1 ∷ 0 ∷ []) $ fjoin ! $ done !

  seen_from : (κ : Lft) (ps : List (Place E)) (i at here : ℕ) → here ≡ i * w + at → ⟦ row_lends (R E) b at ps κ ⟧ ⊢ ⟦ row_lends (R E) b here (drop i ps) κ ⟧
  seen_from κ ps zero at here e = let same : at ≡ here = omega (arith, zero-mul w) in qed 𝓛 (‵ (row_lends (R E) b at ps κ) ∷ []) ∵ rewrite ! 0 (λ (k : ℕ). ‵ (row_lends (R E) b k ps κ)) same refl $ done !
  seen_from κ [] (suc i) at here e = id⊢ 𝓤 _
  seen_from κ (p ∷ ps) (suc i) at here e = let e' : here ≡ i * w + (at + w) = omega (arith, suc-mul i w) in
      via 𝓤 ⟦ row_lends (R E) b (at + w) ps κ ⟧ (snd∗ 𝓤 ⟦ place_lends (R E) b at p κ ⟧ ⟦ row_lends (R E) b (at + w) ps κ ⟧) (seen_from κ ps i (at + w) here e')

  seen_front : (κ : Lft) (ps : List (Place E)) (n at : ℕ) → ⟦ row_lends (R E) b at ps κ ⟧ ⊢ ⟦ row_lends (R E) b at (take n ps) κ ⟧
  seen_front κ ps zero at = qed 𝓛 (‵ (row_lends (R E) b at ps κ) ∷ []) ∵ skip ! $ nothing ! $ done !
  seen_front κ [] (suc n) at = id⊢ 𝓤 _
  seen_front κ (p ∷ ps) (suc n) at = qed 𝓛 (‵ (row_lends (R E) b at (p ∷ ps) κ) ∷ []) ∵ fsplit ! $ frame ! $ by ! (seen_front κ ps n (at + w))

  pub run_seen : (κ : Lft) (ps : List (Place E)) (i n at here : ℕ) (xs : List (el_x E)) → here ≡ i * w + at → take n (drop i ps) ≡ map Some xs → ⟦ row_lends (R E) b at ps κ ⟧ ⊢ ⟦ elements_shared (R E) xs b here κ ⟧
  run_seen κ ps i n at here xs e run = qed 𝓛 (‵ (row_lends (R E) b at ps κ) ∷ []) ∵ use1 𝓛 (‵ (row_lends (R E) b here (drop i ps) κ)) (seen_from κ ps i at here e) $
      use1 𝓛 (‵ (row_lends (R E) b here (take n (drop i ps)) κ)) (seen_front κ (drop i ps) n here) $ rewrite ! 0 (λ (qs : List (Place E)). ‵ (row_lends (R E) b here qs κ)) run refl $ by ! (each_seen κ xs here)
