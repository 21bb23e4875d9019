-- `at_mut` lends the value of a place, and the block follows it. Assumes `Logic`.
use types.Kit.{group, done}
use base.Fml.{GName}
use denote.Follow.{follows, Part, lends_Part}
use denote.Memory.{mem, part_of}
use denote.Ref.{MutBor, MutRef}
use denote.Signature.{mut_ref_to}
use denote.Triple.Walked.{Goes-spent_ref}
use base.Logic.{sep}
use Rattle.cow_buf.proofs.Walks.{tail, El, R, args, el_x, ◌≡◌, ℕ, ◌*◌, ◌<◌, ◌^◌, List, [], ◌∷◌, length, None, refl, sym, w64, ◌+◌, get_or, Some, proved, leaves, word, Fml, ftrue, fsep, flft, Lft, full_share, SProp, emp, id⊢, ent, ◌⊑◌, fact, fact_i, tables, usize, yes, no, cell_at, uint_vals, uint_Tells, owns, Ptr, block_ptr, mut_vals, mut_Tells, types_at, plain, nothing, heard, Stays, stay_dropped, walk_of, Goes-dropped, set, length-set, inst_fn, named, Val, vptr, vint, Ura, sets_last, alloc_all, pass_all, free_all, look_at, get, sets, env, through, some, later, pick, await, fpack, ‵, raw, ◌⊛◌, at_ret, ◌$◌, ◌∵◌, !, qed, by, move, keep, use0, use1, use2, split, join, rewrite, fsplit, fjoin, split3, fsplit3, fjoin3, Logic, sem, all_of, sub, look_in, stop, fld, of_opd, bin, first, exec, returns, enter, addr, load, size_lit, blocks}
use Rattle.cow_buf.specs.Block.{frees, place_owns, row_owns}
use Rattle.cow_buf.specs.Places.{IsFilled}
use Rattle.cow_buf.proofs.Fields.{whole, Mem, opens_block}
use Rattle.cow_buf.proofs.Rows.{filled_within, word_fits, Place, sz, others, place_out, place_in}
use Rattle.cow_buf.specs.Follows.{holding}
use Rattle.cow_buf.specs.contracts.memory.Memory.at_mut.{ended, clauses}
use Rattle.cow_buf.specs.contracts.memory.Memory.at_mut.Key.{name as #self}
use Rattle.cow_buf.proofs.memory.Memory.at_mut.Statement.{statement}
use Rattle.cow_buf.proofs.memory.Memory.at_mut.Code as code

-- the memory m with x in place i
abbrev filled_with : (E : El) → (Mem E).Denot → ℕ → el_x E → (Mem E).Denot
filled_with E m i x = holding m (set m.places i (Some x))

module _ (E : El) {M : Type 1} {𝓤 : Ura M} (𝓛 : Logic 𝓤) (m : (Mem E).Denot) (rb ro b at i : ℕ) where
  -- all of a memory but the value in place i
  abbrev beside : Fml
  beside = fsep (others E 𝓛 b at i m.places) (fsep (frees (R E) (block_ptr b at) (length m.places)) (cell_at full_share (Mem E).mir (word (block_ptr b at) ∷ []) rb ro))

  -- which makes a memory with any value there
  beside_back : m.start ≡ block_ptr b at → i < length m.places → length m.places * sz E < 2 ^ 63 → (x : el_x E)
      → ent 𝓤 (sep 𝓤 (sem 𝓛 ((mem (R E)).own_at x b (i * sz E + at))) (sem 𝓛 beside)) (sem 𝓛 ((mem (Mem E)).own_at (filled_with E m i x) rb ro))
  unfolding part_of
  beside_back here within small x = let ps = set m.places i (Some x) in
      qed 𝓛 (‵ (place_owns (R E) b (i * sz E + at) (Some x)) ∷ ‵ beside ∷ []) ∵ move ! (1 ∷ []) $ fsplit3 ! $ move ! (3 ∷ 0 ∷ []) $
      use2 𝓛 (‵ (row_owns (R E) b at ps)) (place_in E 𝓛 b m.places i at (i * sz E + at) refl within (Some x)) $
      use2 𝓛 (‵ ((Mem E).own_val (holding m ps) (word m.start ∷ []))) (whole E 𝓛 m b at here ps (length-set m.places i (Some x)) small) $
      rewrite ! 1 (λ (p : Ptr). ‵ (cell_at full_share (Mem E).mir (word p ∷ []) rb ro)) (sym here) refl $ move ! (1 ∷ 0 ∷ []) $ fjoin ! $
      fpack ! (List Val) (λ vs. fsep (cell_at full_share (Mem E).mir vs rb ro) ((Mem E).own_val (holding m ps) vs)) (word m.start ∷ []) $ done !

pub at_mut_spec : {M : Type 1} → statement M
at_mut_spec 𝓤 𝓛 𝓜 𝓡 wired X L =
    let H = 𝓛.H in let 𝓣 = tables 𝓤 H 𝓜 𝓡 𝓡.env in let E : El = record { row = X; laws = L } in let En = ended X in let c = clauses X 𝓛 𝓜.mem 𝓡.returns in let fn = inst_fn (args E) code.function in
    let number = plain (λ _. usize) in let hs : Stays En.signature.params En.kept = (stay_dropped (mut_ref_to (0 ∷ []) tt (plain (λ _. Mem E))) no, (stay_dropped number yes, tt)) in
    proved 𝓛 En hs c 𝓜 𝓡 (Goes-spent_ref 𝓛 2 (0 ∷ []) tt (plain (λ _. Mem E)), (Goes-dropped 𝓛 2 number yes (λ κs x f. refl), tt)) (#self (args E)) fn (code.unfolded 𝓤 H 𝓜 𝓡 wired (X, tt))
    (λ κs. (mut_vals, (uint_vals w64, tt))) (λ κs. (mut_Tells (named 0) κs.0 (Mem E), (uint_Tells w64, tt))) (λ κs qs bounds a gh are.
    let m : (Mem E).Denot = a.0.now in let rb : ℕ = a.0.ref_ptr.0 in let ro : ℕ = a.0.ref_ptr.1 in let γ = a.0.ghost_name in let κ : Lft = κs.0 in let i : ℕ = a.1.0 in let s = sz E in let ps : List (Place E) = m.places in
    let y : (walk_of 𝓛 En hs c).Ghost = ((κs, qs, bounds, a, (vptr rb ro ∷ [], (vint w64 i ∷ [], tt))), gh) in let Post : Val → SProp 𝓤 = (walk_of 𝓛 En hs c).post y in
    qed 𝓛 (((‵ (flft κ qs.0) ⊛ ‵ (flft κs.1.0 qs.1.0) ⊛ ‵ ftrue) ⊛ ‵ (owns (types_at En.signature.params κs) a y.0.4)) ∷ raw (fact 𝓤 (κs.1.0 ⊑ X.lives)) ∷ raw (fact 𝓤 (IsFilled ps i)) ∷ []) ∵
    keep ! (2 ∷ 0 ∷ []) $ heard ! (IsFilled ps i) (λ filled. let x : X.Denot = filled.0 in let holds = filled.1 in let within = filled_within ps i x holds in let Held : Type 0 = get_or ps i None ≡ Some x in
    split ! $ split ! $ move ! (2 ∷ []) $ fsplit ! $ fsplit3 ! $ keep ! (1 ∷ 2 ∷ 4 ∷ 5 ∷ []) $
    enter ! 𝓣.C 𝓣.Λ fn (vptr rb ro ∷ vint w64 i ∷ []) Post $ alloc_all ! (λ l. pass_all ! refl ((tt, tt), ((tt, record { fits = are.1.0.1 }), tt)) $ let Ev = env fn.locals l in
    opens_block E ! tt m rb ro (λ b at here start small. let spot : ℕ = i * s + at in let fits = word_fits i (length ps) s within small in let Rest : Fml = beside E 𝓛 m rb ro b at i in
    use1 𝓛 (‵ (place_owns (R E) b spot (get_or ps i None)) ⊛ ‵ (others E 𝓛 b at i ps)) (place_out E 𝓛 b ps i at spot refl within) $ split ! $
    rewrite ! 0 (λ (p : Place E). ‵ (place_owns (R E) b spot p)) holds refl $
    -- [the value; the other places; the right to free; the word; what closes the borrow, in three parts; the other tokens]
    first ! $ blocks ! $ sets ! (of_opd ! (load ! (through ! refl (fld ! refl (stop !))) (look_in ! 3 (sub ! 0 refl (all_of !))))) refl (tt, tt) $
    sets ! (bin ! (get ! refl) (size_lit ! (record { fits = fits.0 })) (record { fits = fits.1 })) refl (tt, record { fits = fits.1 }) $ sets ! (bin ! (get ! refl) (get ! refl) tt) refl (tt, tt) $
    sets_last ! (addr ! (through ! refl (stop !))) refl (tt, tt) $ exec ! 𝓣.C 𝓣.Λ Ev (tail fn.body) (at_ret Ev Post) $ sets ! (of_opd ! (get ! refl)) refl (tt, tt) $
    let back = beside_back E 𝓛 m rb ro b at i here within small in let new : X.Denot → (Mem E).Denot = filled_with E m i in let was = (Mem E).coded.code m in
    move ! (1 ∷ 2 ∷ 3 ∷ []) $ fjoin3 ! $ move ! (2 ∷ 3 ∷ 4 ∷ 1 ∷ 0 ∷ []) $ group ! 5 $
    use1 𝓛 (later (some (λ (δ : GName). raw (Part 𝓛 (Mem E) (R E) new (named 0) κ qs.0 rb ro b spot γ (sem 𝓛 Rest) back x δ)))) (lends_Part 𝓛 (Mem E) (R E) new (named 0) κ qs.0 rb ro b spot γ (sem 𝓛 Rest) back was was x) $ await ! tt $ pick ! (λ δ.
    let r : MutBor X.Denot = record { ref_ptr = (b, spot); ghost_name = δ; now = x } in
    use1 𝓛 (‵ ((MutRef (named 0) κ (R E)).own_val r (vptr b spot ∷ [])) ⊛ ‵ (flft κ qs.0) ⊛ ‵ (follows (Mem E) (R E) γ δ new)) (id⊢ 𝓤 _) $ split3 ! $ move ! (1 ∷ 3 ∷ []) $ join ! $ move ! (2 ∷ []) $
    use0 𝓛 (raw (fact 𝓤 Held)) (fact_i 𝓤 Held (emp 𝓤) holds) $ move ! (1 ∷ 0 ∷ []) $ join ! $ nothing ! $ nothing ! $ fjoin ! $ nothing ! $ fjoin ! $
    returns ! (look_at ! 0 refl) $ free_all ! refl $ keep ! (2 ∷ 0 ∷ 3 ∷ 1 ∷ []) $ by ! (leaves 𝓛 En hs c y (vptr b spot) r (tt, (tt, tt)) (tt, (tt, tt))))))))
