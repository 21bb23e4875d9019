-- A memory as one pointer, and its block as places and the right to free them. Assumes `Logic`.
use Rattle.std.proofs.Common.{◌≡◌, ℕ, ◌*◌, ◌<◌, ◌^◌, List, [], ◌∷◌, ◌++◌, length, refl, sym, ap, subst, ◌∙◌}
use Rattle.std.specs.Global.{Global}
use Rattle.std_alloc.proofs.RcSteps.{word}
use Rattle.std_heap.proofs.GlobalToken.{dealloc_token_start}
use Rattle.std_heap.specs.contracts.GlobalAllocator.TheImpl.{ghosts}
use seplogic.Ra.Ura.{Ura}
use base.Logic.{ent, sep, emp, guard, never, id⊢, guard_i}
use base.Fml.{Lft, GName, Share, Fml, flft, fobs, fbor, fobor, fauth}
use base.Fraction.{full_share}
use base.Stored.{Gv}
use contract.Monad.{fact_use}
use mir.Raw.{raw as bare}
use mir.Syntax.{ty_array}
use mir.Val.{Val, vstruct, of_list}
use types.Logic.{Logic, sem}
use types.SemTy.{Body}
use types.Kit.{Goal, Item, Seq, Soaks, Step, step, ‵, given, ◌$◌, ◌∵◌, !, qed, move, drop as skip, check, learn, use0, use1, use2, rewrite, fsplit, fsplit3, fjoin3, fjoin, fpick, fpack, flt_l, flt_i, done}
use denote.Copied.{Struct-Copied}
use denote.Laws.{Is, shows}
use denote.Memory.{cell_at, mem}
use denote.Opens.{Opens}
use denote.RattleType.{RattleType}
use denote.RawPtr.{Ptr, block_ptr, count_of, ptr_val, in_a_block}
use denote.Shadow.{makes_shadow}
use denote.Steps.{peeks, opens, closes}
use denote.Struct.Laws.{RawPtr-copy}
use denote.Struct.Owning.{shape}
use denote.Struct.Struct.{Struct}
use Rattle.core.proofs.mem.Param.{El, R, elτ}
use Rattle.cow_buf.specs.Block.{row_owns, frees, block_owns}
use Rattle.cow_buf.specs.Follows.{holding}
use Rattle.cow_buf.specs.contracts.memory.Memory as memory
use Rattle.cow_buf.proofs.Rows.{Place, sz}

module _ (E : El) where
  -- the row of a memory
  abbrev pub Mem : RattleType
  Mem = memory.the_row (R E)

  -- its fields as words
  abbrev pub Fields : RattleType
  Fields = Struct (shape (memory.the_type (R E)))

  -- they are the word of its pointer
  pub told : (p : Ptr) (vs : List Val) → Is Fields (p, tt) vs → vs ≡ word p ∷ []
  told p vs is = is.1.0 ∙ ap (λ (us : List Val). vstruct (of_list (us ++ [])) ∷ []) is.1.1.0

  module _ {M : Type 1} {𝓤 : Ura M} (𝓛 : Logic 𝓤) where
    -- that word is had for nothing
    made : (p : Ptr) → ent 𝓤 (emp 𝓤) (sem 𝓛 (Fields.own_val (p, tt) (word p ∷ [])))
    made p = makes_shadow 𝓛 (Fields.own_val (p, tt) (word p ∷ [])) (λ vss. (tt, (tt, tt))) ((ptr_val p ∷ [], tt), (refl, (refl, tt)))

    -- and may be read through a `&`
    pub opened : Opens 𝓛 Fields
    opened = (Struct-Copied 𝓛 (shape (memory.the_type (R E))) (refl, tt) (RawPtr-copy.copied M 𝓤 𝓛, tt)).opens

    -- the places and the right to free them make a memory
    pub whole : (m : Mem.Denot) (b at : ℕ) → m.start ≡ block_ptr b at → (ps : List (Place E)) → length ps ≡ length m.places → length m.places * sz E < 2 ^ 63
        → ent 𝓤 (sep 𝓤 (sem 𝓛 (row_owns (R E) b at ps)) (sem 𝓛 (frees (R E) (block_ptr b at) (length m.places)))) (sem 𝓛 (Mem.own_val (holding m ps) (word m.start ∷ [])))
    whole m b at here ps long small =
        qed 𝓛 (‵ (row_owns (R E) b at ps) ∷ ‵ (frees (R E) (block_ptr b at) (length m.places)) ∷ []) ∵ rewrite ! 1 (λ (n : ℕ). ‵ (frees (R E) (block_ptr b at) n)) (sym long) refl $
        flt_i ! (length ps * sz E) (2 ^ 63) (subst (λ n. n * sz E < 2 ^ 63) (sym long) small) $ fjoin3 ! $ rewrite ! 0 (λ (p : Ptr). ‵ (block_owns (R E) p ps)) (sym here) refl $
        use0 𝓛 (‵ (Fields.own_val (m.start, tt) (word m.start ∷ []))) (made m.start) $ fjoin ! $ done !

    -- the right to free a block tells that it begins at its first byte
    begins : (p : Ptr) (n : ℕ) → ent 𝓤 (sem 𝓛 (frees (R E) p n)) (guard 𝓤 (count_of p ≡ 0) (sem 𝓛 (frees (R E) p n)))
    begins p n = let Right : Global → Fml = λ heap. ghosts.dealloc_token heap (bare (ty_array (elτ E) n)) p in let Start : Type 0 = count_of p ≡ 0 in
        qed 𝓛 (‵ (frees (R E) p n) ∷ []) ∵ fpick ! (λ heap.
        use1 𝓛 (given Start (‵ (Right heap))) (fact_use 𝓤 Start (dealloc_token_start 𝓛 heap (bare (ty_array (elτ E) n)) p) (guard_i 𝓤 Start (sem 𝓛 (Right heap)))) $ learn ! (λ start.
        fpack ! Global Right heap $ check ! start $ done !))

  module _ {M : Type 1} {𝓤 : Ura M} {𝓛 : Logic 𝓤} {K : Type 0} {Γ : List (Item 𝓤)} {G : Goal 𝓤 𝓛.H} where
    -- a memory comes apart: [its places; the right to free them]
    pub parts : K → (m : Mem.Denot) (vs : List Val)
        → ((b at : ℕ) → m.start ≡ block_ptr b at → at ≡ 0 → vs ≡ word m.start ∷ [] → length m.places * sz E < 2 ^ 63
        → Seq K 𝓛 (‵ (row_owns (R E) b at m.places) ∷ ‵ (frees (R E) (block_ptr b at) (length m.places)) ∷ Γ) G)
        → Seq K 𝓛 (‵ (Mem.own_val m vs) ∷ Γ) G
    parts t m vs k = fsplit t $ peeks t Fields (Is Fields) (shows 𝓛 Fields) (m.start, tt) vs (λ is. skip t $
        in_a_block t m.start (λ p. block_owns (R E) p m.places) (id⊢ 𝓤 (never 𝓤)) (λ b at here. let n = length m.places in fsplit3 t $ flt_l t (λ small. move t (1 ∷ []) $
        use1 𝓛 (given (at ≡ 0) (‵ (frees (R E) (block_ptr b at) n))) (begins 𝓛 (block_ptr b at) n) $ learn t (λ start. move t (1 ∷ 0 ∷ []) $ k b at here start (told m.start vs is) small))))

  module _ {M : Type 1} {𝓤 : Ura M} {𝓛 : Logic 𝓤} {K : Type 0} {Γ : List (Item 𝓤)} {G : Goal 𝓤 𝓛.H} where
    -- a `&mut` to a memory is opened: [its places; the right to free them; its word; what closes the borrow]
    pub opens_block : K → Soaks G → {κ : Lft} {q : Share} {γ : GName} (m : Mem.Denot) (rb ro : ℕ)
        → ((b at : ℕ) → m.start ≡ block_ptr b at → at ≡ 0 → length m.places * sz E < 2 ^ 63
        → Seq K 𝓛 (‵ (row_owns (R E) b at m.places) ∷ ‵ (frees (R E) (block_ptr b at) (length m.places)) ∷ ‵ (cell_at full_share Mem.mir (word (block_ptr b at) ∷ []) rb ro)
        ∷ ‵ (fobor κ q (Body (mem Mem) rb ro γ)) ∷ ‵ (fobs γ (Mem.coded.code m)) ∷ ‵ (fauth γ (Mem.coded.code m)) ∷ Γ) G)
        → Seq K 𝓛 (‵ (fobs γ (Mem.coded.code m)) ∷ ‵ (fbor κ (Body (mem Mem) rb ro γ)) ∷ ‵ (flft κ q) ∷ Γ) G
    opens_block t z {κ} {q} {γ} m rb ro k = opens t z Mem {h = m} rb ro (λ vs. move t (1 ∷ []) $
        parts {Γ = ‵ (cell_at full_share Mem.mir vs rb ro) ∷ ‵ (fobor κ q (Body (mem Mem) rb ro γ)) ∷ ‵ (fobs γ (Mem.coded.code m)) ∷ ‵ (fauth γ (Mem.coded.code m)) ∷ Γ} t m vs (λ b at here start is small.
        rewrite t 2 (λ (us : List Val). ‵ (cell_at full_share Mem.mir us rb ro)) (is ∙ ap (λ (p : Ptr). word p ∷ []) here) refl $ k b at here start small))

    -- and closed, at other places of the same block
    pub closes_block : K → Soaks G → {κ : Lft} {q : Share} {u v : Gv} {γ : GName} (m : Mem.Denot) (rb ro b at : ℕ) → m.start ≡ block_ptr b at → length m.places * sz E < 2 ^ 63
        → (ps : List (Place E)) → length ps ≡ length m.places
        → Step K 𝓛 (‵ (fobs γ (Mem.coded.code (holding m ps))) ∷ ‵ (fbor κ (Body (mem Mem) rb ro γ)) ∷ ‵ (flft κ q) ∷ Γ) G
        (‵ (row_owns (R E) b at ps) ∷ ‵ (frees (R E) (block_ptr b at) (length m.places)) ∷ ‵ (cell_at full_share Mem.mir (word (block_ptr b at) ∷ []) rb ro)
        ∷ ‵ (fobor κ q (Body (mem Mem) rb ro γ)) ∷ ‵ (fobs γ u) ∷ ‵ (fauth γ v) ∷ Γ) G
    closes_block t z m rb ro b at here small ps long = step (λ s.
        use2 𝓛 (‵ (Mem.own_val (holding m ps) (word m.start ∷ []))) (whole 𝓛 m b at here ps long small) $
        rewrite t 1 (λ (p : Ptr). ‵ (cell_at full_share Mem.mir (word p ∷ []) rb ro)) (sym here) refl $ move t (1 ∷ 0 ∷ []) $ closes t z Mem (holding m ps) (word m.start ∷ []) rb ro $ s)
