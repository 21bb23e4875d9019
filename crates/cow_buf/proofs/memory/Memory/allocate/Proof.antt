-- `allocate` cuts the room that the heap gives into empty places. Assumes `Logic`.
use denote.Param.{layout}
use mir.Val.{of_list, vstruct, vcons, vnil}
use denote.RawPtr.{ptr_val, null_ptr, room_for}
use denote.Shadow.{makes_shadow}
use Rattle.std_alloc.proofs.RcSteps.{first_Good}
use Rattle.std_alloc.proofs.ResultValues.{ok_of, err_of}
use Rattle.std_alloc.proofs.VecSteps.Shapes.{head, arm_body}
use base.Logic.{fst∗}
use types.Kit.{Goal, Seq, Item, Post as After, any_q, drop as skip}
use mir.Syntax.{Ty, Body}
use denote.Steps.{facts}
use Rattle.std.proofs.Common.{true, false}
use lib.Dec.{lit<}
use prog.Wp.{Wp, after_seq, at_return}
use types.Match.{live, vrt, in_variant}
use types.Part.{agg}
use types.Run.{lit, switches_on}
use types.ByLocal.{lands_as, get_tag}
use denote.Triple.Call.{calls_at}
use Rattle.std.specs.Global.{Global}
use Rattle.std.specs.Prelude.{Ok, Err}
use Rattle.std.specs.Vec.Ownership.{FitsInBlock}
use Rattle.core.specs.Allocator.{block_if_ok}
use Rattle.core.proofs.alloc.Calls.{Answer, answer_val, Answer-typed}
use Rattle.std_heap.specs.contracts.GlobalAllocator.TheImpl.{ghosts}
use Rattle.std_heap.proofs.GlobalAllocator.allocate.Met.{met}
use Rattle.core.specs.contracts.result.Result as result
use Rattle.core.specs.contracts.alloc.AllocError as refusal
use Rattle.std_heap.specs.contracts.Global as heap
use Rattle.std_heap.specs.contracts.GlobalAllocator.allocate as callee
use Rattle.cow_buf.proofs.Walks.{fm, tail, El, R, args, elτ, uncapped, block_ty, block_size, block_align, replicate, ◌≡◌, ℕ, ◌*◌, ◌<◌, ◌^◌, List, [], ◌∷◌, ◌++◌, length, None, refl, sym, ap, ◌∙◌, subst, arith, w64, length-replicate, proved, leaves, as_written, word-Good, word, Fml, ftrue, fsep, froom, flft, never, SProp, emp, id⊢, ◌⊑◌, fact, fact_i, tables, RefOf, usize, yes, Is, shows, uint_vals, uint_Tells, owns, in_a_block, Ptr, block_ptr, shr_Tells, shr_vals, pure_i, types_at, plain, only, nothing, heard, triple_of, Stays, stay_dropped, walk_of, Goes-dropped, inst_fn, ty_array, named, Val, vptr, vint, capped_fits, align, capped, size, Ura, is, get_in, sets_last, alloc_all, pass_all, free_all, look_at, get, sets, env, some, later, pick, await, fpack, ‵, raw, ◌⊛◌, at_ret, ◌$◌, ◌∵◌, !, qed, by, move, keep, use0, use1, use2, split, join, rewrite, fsplit, fjoin, Logic, sem, all_of, size_word, align_word, no_more, and_then, stop, fld, of_opd, bin, first, exec, returns, enter}
use Rattle.cow_buf.proofs.Fields.{whole, Mem}
use Rattle.cow_buf.specs.Block.{frees, row_owns}
use Rattle.cow_buf.proofs.Rows.{of_room, Place, sz}
use Rattle.cow_buf.specs.contracts.memory.Memory.allocate.{ended, clauses}
use Rattle.cow_buf.specs.contracts.memory.Memory.allocate.Key.{name as #self}
use Rattle.cow_buf.proofs.memory.Memory.allocate.Statement.{statement}
use Rattle.cow_buf.proofs.memory.Memory.allocate.Code as code

module _ {M : Type 1} {𝓤 : Ura M} {𝓛 : Logic 𝓤} {K : Type 0} {Γ : List (Item 𝓤)} {G : Goal 𝓤 𝓛.H} where
  -- the heap answers with a block and the right to free it, or with nothing
  answered : K → (r : Answer.Denot) (v : Val) (τ : Ty) (h : Global)
      → ((b at : ℕ) → v ≡ answer_val true b at → Seq K 𝓛 (‵ (froom τ b at) ∷ ‵ (ghosts.dealloc_token h τ (block_ptr b at)) ∷ Γ) G) → (v ≡ answer_val false 0 0 → Seq K 𝓛 Γ G)
      → Seq K 𝓛 (‵ (Answer.own_val r (v ∷ [])) ∷ ‵ (block_if_ok (ghosts.dealloc_token h) τ r) ∷ Γ) G
  answered t (Ok p) v τ h ok none = let Got : Ptr → Fml = λ z. fsep (room_for τ z) (ghosts.dealloc_token h τ z) in
      facts t Answer (Is Answer) (shows 𝓛 Answer) (Ok p) (v ∷ []) (λ is. in_a_block t p Got (fst∗ 𝓤 (never 𝓤) (sem 𝓛 (ghosts.dealloc_token h τ null_ptr))) (λ b at here. fsplit t $ ok b at (ap only is.1.0 ∙ ap (λ (us : List Val). live 0 (of_list us)) (is.1.1.1.0 ∙ ap (λ (us : List Val). us ++ []) (is.1.1.1.1.0 ∙ ap (λ (z : Ptr). ptr_val z ∷ []) here)))))
  answered t (Err e) v τ h ok none = facts t Answer (Is Answer) (shows 𝓛 Answer) (Err e) (v ∷ []) (λ is. skip t $ none (ap only is.1.0 ∙ ap (λ (us : List Val). live 1 (of_list us)) (is.1.1.1.0 ∙ ap (λ (us : List Val). us ++ []) is.1.1.1.1.0.1.0)))

pub allocate_spec : {M : Type 1} → statement M
allocate_spec 𝓤 𝓛 𝓜 𝓡 wired X L =
    let H = 𝓛.H in let 𝓣 = tables 𝓤 H 𝓜 𝓡 𝓡.env in let E : El = record { row = X; laws = L } in let En = ended X in let c = clauses X 𝓛 𝓜.mem 𝓡.returns in let fn = inst_fn (args E) code.function in
    let Takes = triple_of 𝓛 callee.signature (callee.spec 𝓛 𝓜.mem 𝓡.returns) in let known = met 𝓤 𝓛 𝓜 𝓡 (code.calls-std_heap::GlobalAllocator::allocate 𝓡.env wired) in
    let lender = RefOf (0 ∷ []) tt (plain (λ _. heap.the_row)) (λ _. tt) in let number = plain (λ _. usize) in
    let hs : Stays En.signature.params En.kept = (stay_dropped lender yes, (stay_dropped number yes, tt)) in
    proved 𝓛 En hs c 𝓜 𝓡 (Goes-dropped 𝓛 2 lender yes (λ κs x f. refl), (Goes-dropped 𝓛 2 number yes (λ κs x f. refl), tt)) (#self (args E)) fn (code.unfolded 𝓤 H 𝓜 𝓡 wired (X, tt))
    (λ κs. (shr_vals, (uint_vals w64, tt))) (λ κs. (shr_Tells (named 0) κs.0 heap.the_row, (uint_Tells w64, tt))) (λ κs qs bounds a gh are.
    let r = a.0 in let n : ℕ = a.1.0 in let s = sz E in let al : ℕ = capped (align (elτ E)) in
    let y : (walk_of 𝓛 En hs c).Ghost = ((κs, qs, bounds, a, (shr_vals r, (vint w64 n ∷ [], tt))), gh) in let Post : Val → SProp 𝓤 = (walk_of 𝓛 En hs c).post y in let Asked : Type 0 = FitsInBlock X n in
    qed 𝓛 (((‵ (flft κs.0 qs.0) ⊛ ‵ (flft κs.1.0 qs.1.0) ⊛ ‵ ftrue) ⊛ ‵ (owns (types_at En.signature.params κs) a y.0.4)) ∷ raw (fact 𝓤 (κs.1.0 ⊑ X.lives)) ∷ raw (fact 𝓤 Asked) ∷ []) ∵
    keep ! (2 ∷ 0 ∷ []) $ heard ! Asked (λ asked. let small : n * s < 2 ^ 63 = asked.0 in let bytes : n * s < 2 ^ 64 = omega arith in split ! $ split ! $ move ! (2 ∷ []) $ fsplit ! $ keep ! (0 ∷ 2 ∷ 3 ∷ []) $
    enter ! 𝓣.C 𝓣.Λ fn (vptr r.ref_ptr.0 r.ref_ptr.1 ∷ vint w64 n ∷ []) Post $ alloc_all ! (λ l. pass_all ! refl ((tt, tt), ((tt, record { fits = are.1.0.1 }), tt)) $ let Ev = env fn.locals l in
    let arms : Body = head (tail (tail fn.body)) in let rest : Body = tail (tail (tail fn.body)) in let Then : After 𝓤 H = any_q (after_seq 𝓤 H (Wp 𝓤 H 𝓣.C 𝓣.Λ Ev rest (at_return 𝓤 H Ev Post)) (at_return 𝓤 H Ev Post)) in
    let z : Takes.Ghost = (((κs.0, tt), (qs.0, tt), tt, (r, (n * s, (al, tt))), (shr_vals r, (vint w64 (n * s) ∷ [], (vint w64 al ∷ [], tt)))), block_ty E n) in let Sized : Type 0 = (capped (size (block_ty E n)) ≡ n * s) × (capped (align (block_ty E n)) ≡ al) in
    sets ! (is ! (bin ! (get ! refl) (size_word !) (record { fits = subst (λ (k : ℕ). k < 2 ^ 64) (sym (uncapped n s bytes)) bytes })) (ap (vint w64) (uncapped n s bytes))) refl (tt, record { fits = bytes }) $
    use0 𝓛 (raw (fact 𝓤 Sized)) (fact_i 𝓤 Sized (emp 𝓤) (block_size E n bytes, block_align E n)) $
    pure_i ! (owns (usize ∷ usize ∷ []) z.0.3.1 z.0.4.1) ((tt, tt), ((tt, tt), tt)) ((refl, bytes), ((refl, capped_fits (align (elτ E))), tt)) $ move ! (2 ∷ 0 ∷ []) $ fjoin ! $
    nothing ! $ move ! (3 ∷ 0 ∷ []) $ join ! $ join ! $ join ! $ use1 𝓛 (raw (Takes.pre z)) (id⊢ 𝓤 _) $
    calls_at ! (fm 𝓛 𝓜 𝓡) Takes known z (and_then ! (get ! refl) (and_then ! (get ! refl) (and_then ! (align_word !) (no_more !)))) (λ v.
    use1 𝓛 (later (some (λ (o : Answer.Denot). ((‵ (flft κs.0 qs.0) ⊛ ‵ ftrue) ⊛ ‵ (Answer.own_val o (v ∷ []))) ⊛ some (λ (ws : Unit {0} × (Unit {0} × (Unit {0} × Unit {0}))). ‵ (fsep ftrue (fsep ftrue (fsep ftrue ftrue)))
    ⊛ ‵ (block_if_ok (ghosts.dealloc_token r.now) (block_ty E n) o))))) (id⊢ 𝓤 _) $
    await ! tt $ pick ! (λ o. split ! $ split ! $ move ! (2 ∷ []) $ pick ! (λ ws. split ! $ skip ! $ move ! (1 ∷ []) $ split ! $ move ! (0 ∷ 4 ∷ []) $ join ! $ move ! (3 ∷ 2 ∷ []) $
    -- [what the heap answers; the block, if any; the tokens]
    answered ! o v (block_ty E n) r.now (λ b at e. let p : Ptr = block_ptr b at in let ps : List (Place E) = replicate n None in let m : (Mem E).Denot = record { start = p; places = ps } in
    let ok = first_Good (layout (Mem E)) (word p) (word-Good [] p) in let long : length ps ≡ n = length-replicate n None in let Ens : Type 0 = ps ≡ ps in
    lands_as ! e refl (Answer-typed true b at) $ first ! $ switches_on ! (get_tag ! (vrt ! refl (fld ! refl (stop !))) (all_of !)) $ exec ! 𝓣.C 𝓣.Λ Ev (arm_body 0 arms) Then $
    sets ! (of_opd ! (get_in ! (vrt ! refl (fld ! refl (stop !))) (in_variant ! 0 0 refl refl (all_of !)))) refl (tt, tt) $ sets ! (of_opd ! (get ! refl)) refl (tt, tt) $
    sets ! (agg ! (and_then ! (get ! refl) (no_more !))) refl (word-Good [] p) $ sets_last ! (agg ! (and_then ! (lit ! tt) (and_then ! (get ! refl) (no_more !)))) refl ok $
    exec ! 𝓣.C 𝓣.Λ Ev rest (at_ret Ev Post) $ sets ! (of_opd ! (get ! refl)) refl ok $
    as_written ! (ty_array (elτ E) n) b at $ use1 𝓛 (‵ (row_owns (R E) b at ps)) (of_room E 𝓛 b n at) $ move ! (1 ∷ []) $
    fpack ! Global (λ h. ghosts.dealloc_token h (block_ty E n) p) r.now $ rewrite ! 0 (λ (k : ℕ). ‵ (frees (R E) p k)) (sym long) refl $ move ! (1 ∷ 0 ∷ []) $
    use2 𝓛 (‵ ((Mem E).own_val m (word p ∷ []))) (whole E 𝓛 m b at refl ps refl (subst (λ (k : ℕ). k * s < 2 ^ 63) (sym long) small)) $
    use1 𝓛 (‵ ((result.the_row (Mem E) refusal.the_row).own_val (Ok m) (live 0 (vcons (word p) vnil) ∷ []))) (ok_of 𝓛 (Mem E) refusal.the_row m (word p)) $
    use0 𝓛 (raw (fact 𝓤 Ens)) (fact_i 𝓤 Ens (emp 𝓤) refl) $ nothing ! $ nothing ! $ fjoin ! $ nothing ! $ fjoin ! $
    returns ! (look_at ! 0 refl) $ free_all ! refl $ keep ! (3 ∷ 0 ∷ 2 ∷ 1 ∷ []) $ by ! (leaves 𝓛 En hs c y (live 0 (vcons (word p) vnil)) (Ok m) (tt, (tt, tt)) (tt, (tt, tt))))
    (λ e. let none : Val = live 1 (vcons (vstruct vnil) vnil) in let Ens : Type 0 = Unit {0} in
    lands_as ! e refl (Answer-typed false 0 0) $ first ! $ switches_on ! (get_tag ! (vrt ! refl (fld ! refl (stop !))) (all_of !)) $ exec ! 𝓣.C 𝓣.Λ Ev (arm_body 1 arms) Then $
    sets ! (of_opd ! (get_in ! (vrt ! refl (fld ! refl (stop !))) (in_variant ! 1 0 refl refl (all_of !)))) refl (tt, tt) $ sets_last ! (agg ! (and_then ! (lit ! tt) (and_then ! (get ! refl) (no_more !)))) refl (tt, (record { fits = lit< tt }, (tt, tt))) $
    exec ! 𝓣.C 𝓣.Λ Ev rest (at_ret Ev Post) $ sets ! (of_opd ! (get ! refl)) refl (tt, (record { fits = lit< tt }, (tt, tt))) $
    use0 𝓛 (‵ ((refusal.the_row).own_val (record {}) (vstruct vnil ∷ []))) (makes_shadow 𝓛 ((refusal.the_row).own_val (record {}) (vstruct vnil ∷ [])) (λ vss. (tt, tt)) (tt, (refl, tt))) $
    use1 𝓛 (‵ ((result.the_row (Mem E) refusal.the_row).own_val (Err (record {})) (none ∷ []))) (err_of 𝓛 (Mem E) refusal.the_row (record {}) (vstruct vnil)) $
    use0 𝓛 (raw (fact 𝓤 Ens)) (fact_i 𝓤 Ens (emp 𝓤) tt) $ nothing ! $ nothing ! $ fjoin ! $ nothing ! $ fjoin ! $
    returns ! (look_at ! 0 refl) $ free_all ! refl $ keep ! (3 ∷ 0 ∷ 2 ∷ 1 ∷ []) $ by ! (leaves 𝓛 En hs c y none (Err (record {})) (tt, (tt, tt)) (tt, (tt, tt))))))))))
