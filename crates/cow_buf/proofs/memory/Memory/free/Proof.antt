-- `free` makes room of the empty places, and hands it back to the heap. Assumes `Logic`.
use types.Kit.{feq_l, fpick}
use denote.Builtin.{unit}
use denote.RawPtr.{RawPtr}
use denote.Ref.{ShrRef}
use Rattle.core.proofs.alloc.Calls.{Goes-blank}
use Rattle.std_heap.proofs.GlobalAllocator.deallocate.Met.{met}
use Rattle.std_heap.specs.contracts.Global as heap
use Rattle.std_heap.specs.contracts.GlobalAllocator.deallocate as callee
use Rattle.cow_buf.proofs.Walks.{fm, tail, El, R, args, elτ, uncapped, block_ty, block_size, block_align, replicate, ◌≡◌, ℕ, ◌*◌, ◌<◌, ◌^◌, List, [], ◌∷◌, ◌++◌, length, None, refl, sym, ap, ◌∙◌, subst, arith, w64, length-replicate, leaves, proved_at, as_raw, word-Good, word, ftrue, fsep, froom, flft, SProp, emp, id⊢, ent, ◌⊑◌, fact, fact_i, tables, RefOf, usize, yes, no, uint_Tells, owns, Ptr, block_ptr, shr_Tells, shr_vals, pure_i, types_at, plain, only, nothing, heard, calls_at_last, triple_of, Stays, stay_dropped, walk_of, Goes-dropped, T, inst_fn, ty_array, named, ty_unit, Val, vptr, vint, has_ty, WT, vunit, capped_fits, align, capped, size, WpFn, is, get_in, alloc_all, pass_all, free_all, look_at, get, sets, env, lands_last, some, later, pick, await, ‵, raw, ◌⊛◌, at_ret, ◌$◌, ◌∵◌, !, qed, by, move, keep, use0, use1, split, join, rewrite, fsplit, fjoin, feq_i, suffices, all_of, sub, size_word, align_word, no_more, and_then, stop, fld, of_opd, bin, first, exec, returns, enter, blocks, unit_lit}
use Rattle.cow_buf.specs.Block.{frees, row_owns}
use Rattle.cow_buf.proofs.Fields.{parts, Mem}
use Rattle.cow_buf.proofs.Rows.{room_of, Place, sz}
use Rattle.cow_buf.specs.contracts.memory.Memory.free.{ended, clauses}
use Rattle.cow_buf.specs.contracts.memory.Memory.free.Key.{name as #self}
use Rattle.cow_buf.proofs.memory.Memory.free.Statement.{statement}
use Rattle.cow_buf.proofs.memory.Memory.free.Code as code

pub free_spec : {M : Type 1} → statement M
free_spec 𝓤 𝓛 𝓜 𝓡 wired X L =
    let H = 𝓛.H in let 𝓣 = tables 𝓤 H 𝓜 𝓡 𝓡.env in let E : El = record { row = X; laws = L } in let En = ended X in let c = clauses X 𝓛 𝓜.mem 𝓡.returns in let fn = inst_fn (args E) code.function in
    let Gives = triple_of 𝓛 callee.signature (callee.spec 𝓛 𝓜.mem 𝓡.returns) in let known = met 𝓤 𝓛 𝓜 𝓡 (code.calls-std_heap::GlobalAllocator::deallocate 𝓡.env wired) in
    let block = plain (λ _. Mem E) in let lender = RefOf (0 ∷ []) tt (plain (λ _. heap.the_row)) (λ _. tt) in let number = plain (λ _. usize) in
    let hs : Stays En.signature.params En.kept = (stay_dropped block no, (stay_dropped lender yes, (stay_dropped number yes, tt))) in
    proved_at 𝓛 En hs c 𝓜 𝓡 (Goes-blank 𝓛 2 block no (λ κs x f. tt), (Goes-dropped 𝓛 2 lender yes (λ κs x f. refl), (Goes-dropped 𝓛 2 number yes (λ κs x f. refl), tt))) (#self (args E)) fn (code.unfolded 𝓤 H 𝓜 𝓡 wired (X, tt)) (λ y are.
    let κs = y.0.0 in let qs = y.0.1 in let a = y.0.3 in let m : (Mem E).Denot = a.0 in let r = a.1.0 in let n : ℕ = a.1.1.0 in let s = sz E in let ps : List (Place E) = m.places in
    let Post : Val → SProp 𝓤 = (walk_of 𝓛 En hs c).post y in let Run : List Val → SProp 𝓤 = λ vs. WpFn 𝓤 H 𝓣.C 𝓣.Λ fn vs Post in let Asked : Type 0 = ps ≡ replicate n None in
    let heap_is = shr_Tells (named 0) κs.0 heap.the_row r y.0.4.1.0 are.1.0 in let n_is = uint_Tells w64 n y.0.4.1.1.0 are.1.1.0 in
    qed 𝓛 (((‵ (flft κs.0 qs.0) ⊛ ‵ (flft κs.1.0 qs.1.0) ⊛ ‵ ftrue) ⊛ ‵ (owns (types_at En.signature.params κs) a y.0.4)) ∷ raw (fact 𝓤 (κs.1.0 ⊑ X.lives)) ∷ raw (fact 𝓤 Asked) ∷ []) ∵
    keep ! (2 ∷ 0 ∷ []) $ heard ! Asked (λ asked. let long : length ps ≡ n = ap length asked ∙ length-replicate n None in split ! $ split ! $ move ! (2 ∷ []) $ fsplit ! $
    parts E ! m y.0.4.0 (λ b at here start block_is small. let passed : List Val = word (block_ptr b at) ∷ vptr r.ref_ptr.0 r.ref_ptr.1 ∷ vint w64 n ∷ [] in
    let bytes : n * s < 2 ^ 64 = (let below : n * s < 2 ^ 63 = subst (λ k. k * s < 2 ^ 63) long small in omega arith) in let al : ℕ = capped (align (elτ E)) in
    suffices ! (Run passed) (subst (λ (vs : List Val). ent 𝓤 (Run passed) (Run vs)) (sym (λ j. (block_is ∙ ap (λ (p : Ptr). word p ∷ []) here) j ++ (heap_is j ++ (n_is j ++ [])))) (id⊢ 𝓤 (Run passed))) $
    rewrite ! 0 (λ (qs : List (Place E)). ‵ (row_owns (R E) b at qs)) asked refl $ rewrite ! 1 (λ (k : ℕ). ‵ (frees (R E) (block_ptr b at) k)) long refl $
    use1 𝓛 (‵ (froom (ty_array (elτ E) n) b at)) (room_of E 𝓛 b n at) $ as_raw ! (ty_array (elτ E) n) b at $
    move ! (1 ∷ []) $ fpick ! (λ h. move ! (1 ∷ 0 ∷ []) $ fjoin ! $ move ! (1 ∷ []) $ fsplit ! $ keep ! (0 ∷ 2 ∷ 3 ∷ 4 ∷ []) $
    rewrite ! 0 (λ (vs : List Val). ‵ ((ShrRef (named 0) κs.0 heap.the_row).own_val r vs)) heap_is refl $
    -- [the `&` to the heap; the room and the right to free it; the heap's token; the other tokens]
    enter ! 𝓣.C 𝓣.Λ fn passed Post $ alloc_all ! (λ l. pass_all ! refl (word-Good [] (block_ptr b at), ((tt, tt), ((tt, record { fits = are.1.1.0.1 }), tt))) $ let Ev = env fn.locals l in
    let z : Gives.Ghost = (((κs.0, tt), (qs.0, tt), tt, (r, (block_ptr b at, (n * s, (al, tt)))), (shr_vals r, (vptr b at ∷ [], (vint w64 (n * s) ∷ [], (vint w64 al ∷ [], tt))))), block_ty E n) in
    let Sized : Type 0 = (capped (size (block_ty E n)) ≡ n * s) × (capped (align (block_ty E n)) ≡ al) in
    sets ! (of_opd ! (get_in ! (fld ! refl (stop !)) (sub ! 0 refl (all_of !)))) refl (tt, tt) $ first ! $ blocks ! $ sets ! (of_opd ! (get ! refl)) refl (tt, tt) $
    sets ! (is ! (bin ! (get ! refl) (size_word !) (record { fits = subst (λ (k : ℕ). k < 2 ^ 64) (sym (uncapped n s bytes)) bytes })) (ap (vint w64) (uncapped n s bytes))) refl (tt, record { fits = bytes }) $
    move ! (1 ∷ []) $ use0 𝓛 (raw (fact 𝓤 Sized)) (fact_i 𝓤 Sized (emp 𝓤) (block_size E n bytes, block_align E n)) $ join ! $
    pure_i ! (owns (RawPtr ∷ usize ∷ usize ∷ []) z.0.3.1 z.0.4.1) (tt, ((tt, tt), ((tt, tt), tt))) (refl, ((refl, bytes), ((refl, capped_fits (align (elτ E))), tt))) $ move ! (2 ∷ 0 ∷ []) $ fjoin ! $
    nothing ! $ move ! (3 ∷ 0 ∷ []) $ join ! $ join ! $ join ! $ use1 𝓛 (raw (Gives.pre z)) (id⊢ 𝓤 _) $
    calls_at_last ! (fm 𝓛 𝓜 𝓡) Gives known z (and_then ! (get ! refl) (and_then ! (get ! refl) (and_then ! (get ! refl) (and_then ! (align_word !) (no_more !))))) (λ v.
    use1 𝓛 (later (some (λ (o : Unit {0}). ((‵ (flft κs.0 qs.0) ⊛ ‵ ftrue) ⊛ ‵ (unit.own_val o (v ∷ []))) ⊛ some (λ (ws : Unit {0} × (Unit {0} × (Unit {0} × (Unit {0} × Unit {0})))). ‵ (fsep ftrue (fsep ftrue (fsep ftrue (fsep ftrue ftrue)))) ⊛ ‵ ftrue)))) (id⊢ 𝓤 _) $
    await ! tt $ pick ! (λ o. split ! $ split ! $ move ! (1 ∷ []) $ feq_l ! (λ returned. split ! $
    lands_last ! refl (subst (λ (u : Val). T (has_ty ty_unit u) × WT u) (sym (ap only returned)) (tt, tt)) $ exec ! 𝓣.C 𝓣.Λ Ev (tail (tail fn.body)) (at_ret Ev Post) $ sets ! (of_opd ! (unit_lit !)) refl (tt, tt) $
    move ! (0 ∷ 3 ∷ []) $ join ! $ nothing ! $ nothing ! $ fjoin ! $ nothing ! $ fjoin ! $ nothing ! $ fjoin ! $ feq_i ! (List Val) (vunit ∷ []) (vunit ∷ []) refl $ nothing ! $
    returns ! (look_at ! 0 refl) $ free_all ! refl $ keep ! (3 ∷ 2 ∷ 1 ∷ 0 ∷ []) $ by ! (leaves 𝓛 En hs c y vunit tt (tt, (tt, (tt, tt))) (tt, (tt, (tt, tt))))))))))))
