-- A copy of memory that a function makes as its last call: what it is handed, and what it leaves. Assumes `Logic`.
use Rattle.std.proofs.Common.{◌≡◌, ℕ, ◌<◌, ◌^◌, List, [], ◌∷◌, refl, ap, w64}
use seplogic.Ra.Ura.{Ura}
use base.Logic.{emp}
use base.Fml.{Lft, Share, Fml, ftrue, fsep, flft}
use contract.Monad.{fact, fact_i}
use mir.Val.{Val, vint, vunit}
use types.Logic.{Logic}
use types.Kit.{Goal, Item, Seq, Soaks, Step, step, ‵, raw, ◌⊛◌, some, later, ◌$◌, move, drop as skip, use0, split, join, pick, await, feq_l}
use denote.Builtin.{usize, unit}
use denote.RattleType.{owns}
use denote.RawPtr.{Ptr, RawPtr, rawptr_vals}
use denote.Shadow.{pure_i}
use denote.Steps.{only}

module _ {M : Type 1} {𝓤 : Ura M} (𝓛 : Logic 𝓤) (κ : Lft) (q : Share) where
  -- the tokens of a copy's one lifetime
  abbrev pub token : Item 𝓤
  token = ‵ (flft κ q) ⊛ ‵ ftrue

  -- the arguments of a copy of n values
  abbrev pub handed : Ptr → Ptr → ℕ → Fml
  handed src dst n = owns (RawPtr ∷ RawPtr ∷ usize ∷ []) (src, (dst, (n, tt))) (rawptr_vals src, (rawptr_vals dst, (vint w64 n ∷ [], tt)))

  -- what a copy asks: its arguments, two facts, and the memory before it
  abbrev pub asks_copy : Ptr → Ptr → ℕ → Type 0 → Type 0 → Fml → Item 𝓤
  asks_copy src dst n Lives Known before = (token ⊛ ‵ (handed src dst n)) ⊛ (raw (fact 𝓤 Lives) ⊛ raw (fact 𝓤 Known) ⊛ ‵ before)

  -- what it leaves: the answer `()`, and the memory after it
  abbrev pub copied : Fml → Val → Item 𝓤
  copied after v = later (some (λ (r : Unit {0}). (token ⊛ ‵ (unit.own_val r (v ∷ []))) ⊛ some (λ (ws : Unit {0} × (Unit {0} × (Unit {0} × Unit {0}))). ‵ (fsep ftrue (fsep ftrue (fsep ftrue ftrue))) ⊛ ‵ after)))

  module _ {K : Type 0} {Γ : List (Item 𝓤)} {G : Goal 𝓤 𝓛.H} where
    -- the memory and the token are what a copy asks, where the facts hold
    pub asks : K → (src dst : Ptr) (n : ℕ) {Lives Known : Type 0} (before : Fml) → n < 2 ^ 64 → Lives → Known → Step K 𝓛 (asks_copy src dst n Lives Known before ∷ Γ) G (‵ before ∷ token ∷ Γ) G
    asks t src dst n {Lives} {Known} before fits lives known = step (λ s.
        use0 𝓛 (raw (fact 𝓤 Known)) (fact_i 𝓤 Known (emp 𝓤) known) $ join t $ use0 𝓛 (raw (fact 𝓤 Lives)) (fact_i 𝓤 Lives (emp 𝓤) lives) $ join t $
        pure_i t (handed src dst n) (tt, (tt, ((tt, tt), tt))) (refl, (refl, ((refl, fits), tt))) $ move t (2 ∷ 0 ∷ []) $ join t $ join t $ s)

    -- after a copy: [the memory; the token]
    pub has_copied : K → Soaks G → (after : Fml) (v : Val) → (v ≡ vunit → Seq K 𝓛 (‵ after ∷ token ∷ Γ) G) → Seq K 𝓛 (copied after v ∷ Γ) G
    has_copied t z after v k = await t z $ pick t (λ r. split t $ split t $ move t (1 ∷ []) $ feq_l t (λ returned. move t (1 ∷ []) $ pick t (λ ws. split t $ skip t $ k (ap only returned))))
