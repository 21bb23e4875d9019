-- The units of a stock: cut, glued and counted. Assumes `Logic`.
use Rattle.std.proofs.Common.{◌≡◌, ℕ, ◌+◌, ◌-◌, ◌^◌, ◌<◌, ◌≤◌, Bool, true, false, [], ◌∷◌, refl, sym, arith}
use mathlib.Core.Logic.{dite}
use native.Mathlib.Decide.{ℕ_discrete, dec_le}
use seplogic.Ra.Ura.{Ura}
use base.Fraction.{full_share}
use base.FractionLaws.{Counts, counts_some, Counts-op, Counts-all, not-OpDef-full_share}
use base.Logic.{SProp, ent, sep, ex, emp, guard, upd, via}
use base.Fml.{GName, Share, Fml, ftrue, fex, fown}
use base.Algebras.{shares}
use types.Logic.{Logic, sem}
use types.Kit.{‵, ◌⊛◌, some, given, later, ◌$◌, ◌∵◌, !, qed, by, move, keep, drop, use0, use1, use2, split, fpick, fpack, pick, learn, check, show, rewrite, updating, await, now, done}
use types.Owned.{own_glued, own_join, own_new, basic}
use denote.Steps.{nothing}
use Rattle.cow_cell.specs.Stock.{IsSome, none_or_some, units}

module _ {M : Type 1} {𝓤 : Ura M} (𝓛 : Logic 𝓤) where
  abbrev Pr : Type 2
  Pr = SProp 𝓤

  abbrev ◌⊢◌ : Pr → Pr → Type 1
  P ⊢ Q = ent 𝓤 P Q

  abbrev ◌∗◌ : Pr → Pr → Pr
  P ∗ Q = sep 𝓤 P Q

  abbrev ⟦◌⟧ : Fml → Pr
  ⟦ P ⟧ = sem 𝓛 P

  infix 26 ◌⊢◌
  infixr 35 ◌∗◌
  module _ (s : GName) where
    -- a share e of the stock's ghost name
    abbrev own : Share → Fml
    own e = fown shares s e

    -- no unit costs nothing
    pub units_none : emp 𝓤 ⊢ ⟦ units s 0 ⟧
    units_none = qed 𝓛 [] ∵ nothing ! $ fpack ! (0 ≡ 0) (λ _. ftrue) refl $ fpack ! Bool (none_or_some s 0) true $ done !

    -- a share of k parts is k units
    units_in : (k : ℕ) (e : Share) → IsSome k e → ⟦ own e ⟧ ⊢ ⟦ units s k ⟧
    units_in k e c = qed 𝓛 (‵ (own e) ∷ []) ∵ fpack ! (IsSome k e) (λ _. own e) c $ fpack ! Share (λ f. fex (IsSome k f) (λ _. own f)) e $ fpack ! Bool (none_or_some s k) false $ done !

    -- what follows from any share of k parts
    abbrev Given : ℕ → Pr → Type 1
    Given k Z = (e : Share) → IsSome k e → ⟦ own e ⟧ ⊢ Z

    -- k units are such a share, by whether there are any
    out_as : (k : ℕ) → 0 < k → (Z : Pr) → Given k Z → (y : Bool) → ⟦ none_or_some s k y ⟧ ⊢ Z
    out_as k p Z h true = qed 𝓛 (‵ (none_or_some s k true) ∷ []) ∵ fpick ! (λ z. absurd (omega arith))
    out_as k p Z h false = qed 𝓛 (‵ (none_or_some s k false) ∷ []) ∵ fpick ! (λ e. fpick ! (λ c. by ! (h e c)))

    -- k units, at least one, are such a share
    units_out : (k : ℕ) → 0 < k → (Z : Pr) → Given k Z → ⟦ units s k ⟧ ⊢ Z
    units_out k p Z h = qed 𝓛 (‵ (units s k) ∷ []) ∵ fpick ! (λ y. by ! (out_as k p Z h y))

    -- units are cut in two
    pub units_cut : (k i j : ℕ) → i + j ≡ k → ⟦ units s k ⟧ ⊢ ⟦ units s i ⟧ ∗ ⟦ units s j ⟧
    units_cut k i j total = let Z : Pr = ⟦ units s i ⟧ ∗ ⟦ units s j ⟧ in dite (ℕ_discrete i 0)
        (λ z. let same : k ≡ j = omega arith in qed 𝓛 (‵ (units s k) ∷ []) ∵ rewrite ! 0 (λ (n : ℕ). ‵ (units s n)) same refl $ use0 𝓛 (‵ (units s 0)) units_none $ rewrite ! 0 (λ (n : ℕ). ‵ (units s n)) (sym z) refl $ done !)
        (λ z. dite (ℕ_discrete j 0)
        (λ w. let same : k ≡ i = omega arith in qed 𝓛 (‵ (units s k) ∷ []) ∵ rewrite ! 0 (λ (n : ℕ). ‵ (units s n)) same refl $ use0 𝓛 (‵ (units s 0)) units_none $ rewrite ! 0 (λ (n : ℕ). ‵ (units s n)) (sym w) refl $ move ! (1 ∷ 0 ∷ []) $ done !)
        (λ w. units_out k (omega arith) Z (λ r c. let fits : k ≤ 2 ^ 62 = c.1 in let e = counts_some 62 i (omega arith) (omega arith) in let f = counts_some 62 j (omega arith) (omega arith) in
        qed 𝓛 (‵ (own r) ∷ []) ∵ use1 𝓛 (‵ (own e.0) ⊛ ‵ (own f.0)) (𝓛.algebras.own_cut shares s e.0 f.0 r (Counts-op 62 e.0 f.0 r i j k e.1 f.1 c.2 total)) $ split ! $
        use1 𝓛 (‵ (units s i)) (units_in i e.0 (omega arith, omega arith, e.1)) $ move ! (1 ∷ []) $ use1 𝓛 (‵ (units s j)) (units_in j f.0 (omega arith, omega arith, f.1)) $ move ! (1 ∷ 0 ∷ []) $ done !)))

    -- two runs of units are one share, where it fits
    glue_as : (i j k : ℕ) → 0 < i → 0 < j → i + j ≡ k → (r : Share) → Counts 62 r k → ⟦ units s i ⟧ ∗ ⟦ units s j ⟧ ⊢ ⟦ own r ⟧
    glue_as i j k pi pj total r c = qed 𝓛 (‵ (units s i) ∷ ‵ (units s j) ∷ []) ∵ by ! (base.Logic.ex∗ 𝓤 (λ (y : Bool). ⟦ none_or_some s i y ⟧) ⟦ units s j ⟧ (λ y. split_by y))
      where
        -- with the first run as a share
        both : (e : Share) → IsSome i e → ⟦ own e ⟧ ∗ ⟦ units s j ⟧ ⊢ ⟦ own r ⟧
        both e ce = qed 𝓛 (‵ (own e) ∷ ‵ (units s j) ∷ []) ∵ move ! (1 ∷ []) $ fpick ! (λ y. by ! (other y))
          where
            -- and the second
            other : (y : Bool) → ⟦ none_or_some s j y ⟧ ∗ ⟦ own e ⟧ ⊢ ⟦ own r ⟧
            other true = qed 𝓛 (‵ (none_or_some s j true) ∷ ‵ (own e) ∷ []) ∵ fpick ! (λ z. absurd (omega arith))
            other false = qed 𝓛 (‵ (none_or_some s j false) ∷ ‵ (own e) ∷ []) ∵ fpick ! (λ f. fpick ! (λ cf. move ! (1 ∷ 0 ∷ []) $ by ! (own_join 𝓛 shares s e f r (Counts-op 62 e f r i j k ce.2 cf.2 c total))))

        -- by whether the first run has any
        split_by : (y : Bool) → ⟦ none_or_some s i y ⟧ ∗ ⟦ units s j ⟧ ⊢ ⟦ own r ⟧
        split_by true = qed 𝓛 (‵ (none_or_some s i true) ∷ ‵ (units s j) ∷ []) ∵ fpick ! (λ z. absurd (omega arith))
        split_by false = qed 𝓛 (‵ (none_or_some s i false) ∷ ‵ (units s j) ∷ []) ∵ fpick ! (λ e. fpick ! (λ ce. by ! (both e ce)))

    -- two runs of units are one, where it fits
    glue_fits : (i j k : ℕ) → i + j ≡ k → k ≤ 2 ^ 62 → ⟦ units s i ⟧ ∗ ⟦ units s j ⟧ ⊢ ⟦ units s k ⟧
    glue_fits i j k total fits = dite (ℕ_discrete i 0)
        (λ z. let same : j ≡ k = omega arith in qed 𝓛 (‵ (units s i) ∷ ‵ (units s j) ∷ []) ∵ move ! (1 ∷ []) $ rewrite ! 0 (λ (n : ℕ). ‵ (units s n)) same refl $ keep ! (0 ∷ []) $ done !)
        (λ z. dite (ℕ_discrete j 0)
        (λ w. let same : i ≡ k = omega arith in qed 𝓛 (‵ (units s i) ∷ ‵ (units s j) ∷ []) ∵ rewrite ! 0 (λ (n : ℕ). ‵ (units s n)) same refl $ keep ! (0 ∷ []) $ done !)
        (λ w. let r = counts_some 62 k (omega arith) fits in qed 𝓛 (‵ (units s i) ∷ ‵ (units s j) ∷ []) ∵ use2 𝓛 (‵ (own r.0)) (glue_as i j k (omega arith) (omega arith) total r.0 r.1) $ by ! (units_in k r.0 (omega arith, fits, r.1))))

    -- 2 ^ 62 units are the whole name
    units_whole : ⟦ units s (2 ^ 62) ⟧ ⊢ ⟦ own full_share ⟧
    units_whole = qed 𝓛 (‵ (units s (2 ^ 62)) ∷ []) ∵ use1 𝓛 (‵ (units s 1) ⊛ ‵ (units s (2 ^ 62 - 1))) (units_cut (2 ^ 62) 1 (2 ^ 62 - 1) (omega arith)) $ split ! $
        by ! (glue_as 1 (2 ^ 62 - 1) (2 ^ 62) (omega arith) (omega arith) (omega arith) full_share (Counts-all 62))

    -- no unit stands beside all of them
    none_beside : (m : ℕ) → 0 < m → (Z : Pr) → ⟦ units s m ⟧ ∗ ⟦ own full_share ⟧ ⊢ Z
    none_beside m p Z = qed 𝓛 (‵ (units s m) ∷ ‵ (own full_share) ∷ []) ∵ fpick ! (λ y. by ! (split_by y))
      where
        -- by whether there are any
        split_by : (y : Bool) → ⟦ none_or_some s m y ⟧ ∗ ⟦ own full_share ⟧ ⊢ Z
        split_by true = qed 𝓛 (‵ (none_or_some s m true) ∷ ‵ (own full_share) ∷ []) ∵ fpick ! (λ z. absurd (omega arith))
        split_by false = qed 𝓛 (‵ (none_or_some s m false) ∷ ‵ (own full_share) ∷ []) ∵ fpick ! (λ e. fpick ! (λ c. move ! (1 ∷ 0 ∷ []) $
            by ! (own_glued 𝓛 shares s full_share e Z (λ x m. absurd (not-OpDef-full_share e m.0)))))

    -- two runs of units are one, and it always fits
    pub units_glue : (i j : ℕ) → ⟦ units s i ⟧ ∗ ⟦ units s j ⟧ ⊢ guard 𝓤 (i + j ≤ 2 ^ 62) ⟦ units s (i + j) ⟧
    units_glue i j = let Z : Pr = guard 𝓤 (i + j ≤ 2 ^ 62) ⟦ units s (i + j) ⟧ in dite (dec_le (i + j) (2 ^ 62))
        (λ fits. qed 𝓛 (‵ (units s i) ∷ ‵ (units s j) ∷ []) ∵ check ! fits $ by ! (glue_fits i j (i + j) refl fits))
        (λ many. qed 𝓛 (‵ (units s i) ∷ ‵ (units s j) ∷ []) ∵ use2 𝓛 (given (j ≤ 2 ^ 62) (‵ (units s i) ⊛ ‵ (units s j))) (beside_fits i j) $ learn ! (λ fj. split ! $
        use1 𝓛 (‵ (units s (i - (2 ^ 62 - j))) ⊛ ‵ (units s (2 ^ 62 - j))) (units_cut i (i - (2 ^ 62 - j)) (2 ^ 62 - j) (omega arith)) $ split ! $ move ! (1 ∷ 2 ∷ []) $
        use2 𝓛 (‵ (units s (2 ^ 62))) (glue_fits (2 ^ 62 - j) j (2 ^ 62) (omega arith) (omega arith)) $ use1 𝓛 (‵ (own full_share)) units_whole $ move ! (1 ∷ 0 ∷ []) $
        by ! (none_beside (i - (2 ^ 62 - j)) (omega arith) Z)))
      where
        -- k units are at most 2 ^ 62, by whether there are any
        fits_as : (n : ℕ) (y : Bool) → ⟦ none_or_some s n y ⟧ ⊢ guard 𝓤 (n ≤ 2 ^ 62) ⟦ units s n ⟧
        fits_as n true = qed 𝓛 (‵ (none_or_some s n true) ∷ []) ∵ fpick ! (λ z. drop ! $ check ! (omega arith) $ use0 𝓛 (‵ (units s 0)) units_none $ rewrite ! 0 (λ (k : ℕ). ‵ (units s k)) (sym z) refl $ done !)
        fits_as n false = qed 𝓛 (‵ (none_or_some s n false) ∷ []) ∵ fpick ! (λ e. fpick ! (λ c. check ! c.1 $ by ! (units_in n e c)))

        -- the same beside others
        beside_fits : (i j : ℕ) → ⟦ units s i ⟧ ∗ ⟦ units s j ⟧ ⊢ guard 𝓤 (j ≤ 2 ^ 62) (⟦ units s i ⟧ ∗ ⟦ units s j ⟧)
        beside_fits i j = qed 𝓛 (‵ (units s i) ∷ ‵ (units s j) ∷ []) ∵ move ! (1 ∷ []) $ fpick ! (λ y. use1 𝓛 (given (j ≤ 2 ^ 62) (‵ (units s j))) (fits_as j y) $ learn ! (λ f. check ! f $ move ! (1 ∷ 0 ∷ []) $ done !))

  -- a new stock
  pub stock_new : emp 𝓤 ⊢ 𝓛.H.⇛ (ex 𝓤 (λ (s : GName). ⟦ units s (2 ^ 62) ⟧))
  stock_new = qed 𝓛 [] ∵ updating ! $ use0 𝓛 (later (some (λ (s : GName). ‵ (fown shares s full_share)))) (via 𝓤 _ (own_new 𝓛 shares full_share) (basic 𝓛 (ex 𝓤 (λ (s : GName). ⟦ fown shares s full_share ⟧)))) $
      await ! tt $ pick ! (λ s. use1 𝓛 (‵ (units s (2 ^ 62))) (units_in s (2 ^ 62) full_share (omega arith, omega arith, Counts-all 62)) $ now ! $ show ! (λ (γ : GName). ⟦ units γ (2 ^ 62) ⟧) s $ done !)
