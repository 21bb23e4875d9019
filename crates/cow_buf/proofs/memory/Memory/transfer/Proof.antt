-- `transfer` hands `ptr::copy_nonoverlapping` a run of values, and room elsewhere in the row. Assumes `Logic`.
use Rattle.core.specs.contracts.ptr.copy_nonoverlapping as copy
use Rattle.core.proofs.ptr.copy_nonoverlapping.Met as copies
use Rattle.cow_buf.proofs.Walks.{fm, tail, El, R, args, elτ, el_x, times_below, uncapped, ◌≡◌, ℕ, ◌*◌, ◌<◌, ◌^◌, List, [], ◌∷◌, length, None, refl, sym, ap, ◌∙◌, subst, arith, w64, ◌+◌, Some, ◌≤◌, min, max, length-map, proved, leaves, Fml, ftrue, fsep, froom, flft, full_share, SProp, emp, id⊢, ◌⊑◌, fact, fact_i, tables, Array, usize, yes, part_at, uint_vals, uint_Tells, owns, block_ptr, rawptr_vals, mut_vals, mut_Tells, types_at, plain, nothing, heard, calls_at_last, triple_of, Stays, stay_dropped, walk_of, Goes-dropped, stay_ref, Goes-ref, T, inst_fn, ty_array, named, ty_unit, Val, vptr, vint, has_ty, WT, vunit, is, alloc_all, pass_all, free_all, look_at, get, sets, env, through, lands_last, ‵, raw, ◌⊛◌, at_ret, ◌$◌, ◌∵◌, !, qed, by, move, keep, use0, use1, use2, split, join, fsplit, fjoin, feq_i, fsplit3, fjoin3, all_of, sub, look_in, size_word, no_more, and_then, stop, fld, of_opd, bin, first, exec, returns, enter, load, blocks, unit_lit}
use Rattle.cow_buf.specs.Places.{IsRun, IsClear, shifted}
use Rattle.cow_buf.proofs.Moves.{run-length, moved-length, gap}
use Rattle.cow_buf.proofs.Arrays.{Transfer, transfers}
use Rattle.cow_buf.proofs.Copies.{copied, asks, has_copied}
use Rattle.cow_buf.proofs.Rows.{end_fits, Place, sz}
use Rattle.cow_buf.specs.Block.{row_owns}
use Rattle.cow_buf.specs.Follows.{holding}
use Rattle.cow_buf.proofs.Fields.{Mem, opens_block, closes_block}
use Rattle.cow_buf.specs.contracts.memory.Memory.transfer.{ended, clauses}
use Rattle.cow_buf.specs.contracts.memory.Memory.transfer.Key.{name as #self}
use Rattle.cow_buf.proofs.memory.Memory.transfer.Statement.{statement}
use Rattle.cow_buf.proofs.memory.Memory.transfer.Code as code

pub transfer_spec : {M : Type 1} → statement M
transfer_spec 𝓤 𝓛 𝓜 𝓡 wired X L =
    let H = 𝓛.H in let 𝓣 = tables 𝓤 H 𝓜 𝓡 𝓡.env in let E : El = record { row = X; laws = L } in let En = ended X in let c = clauses X 𝓛 𝓜.mem 𝓡.returns in let fn = inst_fn (args E) code.function in
    let Copies = triple_of 𝓛 (copy.signature X) (copy.spec X 𝓛 𝓜.mem 𝓡.returns) in let known = copies.met 𝓤 𝓛 𝓜 𝓡 (code.calls-core::ptr::copy_nonoverlapping 𝓡.env wired) X L in
    let block = plain (λ _. Mem E) in let number = plain (λ _. usize) in let goes = Goes-dropped 𝓛 2 number yes (λ κs x f. refl) in
    let hs : Stays En.signature.params En.kept = (stay_ref (0 ∷ []) tt block, (stay_dropped number yes, (stay_dropped number yes, (stay_dropped number yes, tt)))) in
    proved 𝓛 En hs c 𝓜 𝓡 (Goes-ref 𝓛 2 0 tt block, (goes, (goes, (goes, tt)))) (#self (args E)) fn (code.unfolded 𝓤 H 𝓜 𝓡 wired (X, tt))
    (λ κs. (mut_vals, (uint_vals w64, (uint_vals w64, (uint_vals w64, tt))))) (λ κs. (mut_Tells (named 0) κs.0 (Mem E), (uint_Tells w64, (uint_Tells w64, (uint_Tells w64, tt))))) (λ κs qs bounds a gh are.
    let m : (Mem E).Denot = a.0.now in let rb : ℕ = a.0.ref_ptr.0 in let ro : ℕ = a.0.ref_ptr.1 in let from : ℕ = a.1.0 in let to : ℕ = a.1.1.0 in let n : ℕ = a.1.1.1.0 in
    let s = sz E in let ps : List (Place E) = m.places in let ps' = shifted from to n ps in let passed : List Val = vptr rb ro ∷ vint w64 from ∷ vint w64 to ∷ vint w64 n ∷ [] in
    let y : (walk_of 𝓛 En hs c).Ghost = ((κs, qs, bounds, a, (vptr rb ro ∷ [], (vint w64 from ∷ [], (vint w64 to ∷ [], (vint w64 n ∷ [], tt))))), gh) in let Post : Val → SProp 𝓤 = (walk_of 𝓛 En hs c).post y in
    let Lives : Type 0 = κs.1.0 ⊑ X.lives in let Run : Type 0 = IsRun ps from n in let Room : Type 0 = to + n ≤ length ps in let Apart : Type 0 = min from to + n ≤ max from to in let Clear : Type 0 = IsClear ps to (to + n) in let Ens : Type 0 = ps' ≡ ps' in
    qed 𝓛 (((‵ (flft κs.0 qs.0) ⊛ ‵ (flft κs.1.0 qs.1.0) ⊛ ‵ ftrue) ⊛ ‵ (owns (types_at En.signature.params κs) a y.0.4)) ∷ raw (fact 𝓤 Lives) ∷ raw (fact 𝓤 Run) ∷ raw (fact 𝓤 Room) ∷ raw (fact 𝓤 Apart) ∷ raw (fact 𝓤 Clear) ∷ []) ∵
    move ! (1 ∷ 2 ∷ 3 ∷ 4 ∷ 5 ∷ []) $ heard ! Lives (λ lives. heard ! Run (λ filled. heard ! Room (λ there. heard ! Apart (λ apart. heard ! Clear (λ clear.
    let here : from + n ≤ length ps = filled.0 in let xs : List (el_x E) = filled.1.0 in let run = filled.1.1 in
    let long : length xs ≡ n = sym (length-map xs Some) ∙ ap length (sym run) ∙ run-length (gap ps) ps from n here in
    split ! $ split ! $ move ! (2 ∷ []) $ fsplit ! $ fsplit3 ! $ keep ! (1 ∷ 2 ∷ 4 ∷ 0 ∷ 5 ∷ []) $
    enter ! 𝓣.C 𝓣.Λ fn passed Post $ alloc_all ! (λ l. pass_all ! refl ((tt, tt), ((tt, record { fits = are.1.0.1 }), ((tt, record { fits = are.1.1.0.1 }), ((tt, record { fits = are.1.1.1.0.1 }), tt)))) $ let Ev = env fn.locals l in
    opens_block E ! tt m rb ro (λ b at starts start small. let src : ℕ = from * s + at in let dst : ℕ = to * s + at in
    let f : from * s < 2 ^ 64 = end_fits from (length ps) s (omega arith) small in let t : to * s < 2 ^ 64 = end_fits to (length ps) s (omega arith) small in
    -- [the places; the right to free; the word; what closes the borrow, in three parts; the pointer; the tokens]
    first ! $ blocks ! $ sets ! (of_opd ! (load ! (through ! refl (fld ! refl (stop !))) (look_in ! 2 (sub ! 0 refl (all_of !))))) refl (tt, tt) $
    sets ! (is ! (bin ! (get ! refl) (size_word !) (record { fits = subst (λ (k : ℕ). k < 2 ^ 64) (sym (uncapped from s f)) f })) (ap (vint w64) (uncapped from s f))) refl (tt, record { fits = f }) $ sets ! (bin ! (get ! refl) (get ! refl) tt) refl (tt, tt) $
    sets ! (of_opd ! (load ! (through ! refl (fld ! refl (stop !))) (look_in ! 2 (sub ! 0 refl (all_of !))))) refl (tt, tt) $
    sets ! (is ! (bin ! (get ! refl) (size_word !) (record { fits = subst (λ (k : ℕ). k < 2 ^ 64) (sym (uncapped to s t)) t })) (ap (vint w64) (uncapped to s t))) refl (tt, record { fits = t }) $ sets ! (bin ! (get ! refl) (get ! refl) tt) refl (tt, tt) $
    let plan : Transfer E 𝓛 b ps from to n at = transfers E 𝓛 b ps from to n at xs run long here there clear apart in
    use1 𝓛 (‵ (fsep (part_at (Array (R E) n) full_share plan.items b src) (froom (ty_array (elτ E) n) b dst)) ⊛ ‵ plan.Rest) plan.out $ split ! $
    let before : Fml = fsep (part_at (Array (R E) n) full_share plan.items b src) (froom (ty_array (elτ E) n) b dst) in let after : Fml = fsep (part_at (Array (R E) n) full_share plan.items b dst) (froom (ty_array (elτ E) n) b src) in
    let z : Copies.Ghost = (((κs.1.0, tt), (qs.1.0, tt), tt, (block_ptr b src, (block_ptr b dst, (n, tt))), (rawptr_vals (block_ptr b src), (rawptr_vals (block_ptr b dst), (vint w64 n ∷ [], tt)))), plan.items) in
    move ! (0 ∷ 8 ∷ []) $ asks 𝓛 κs.1.0 qs.1.0 ! (block_ptr b src) (block_ptr b dst) n before are.1.1.1.0.1 lives (times_below n (length ps) s (2 ^ 63) (omega arith) small) $ use1 𝓛 (raw (Copies.pre z)) (id⊢ 𝓤 _) $
    calls_at_last ! (fm 𝓛 𝓜 𝓡) Copies known z (and_then ! (get ! refl) (and_then ! (get ! refl) (and_then ! (get ! refl) (no_more !)))) (λ v.
    use1 𝓛 (copied 𝓛 κs.1.0 qs.1.0 after v) (id⊢ 𝓤 _) $ has_copied 𝓛 κs.1.0 qs.1.0 ! tt after v (λ returned.
    lands_last ! refl (subst (λ (u : Val). T (has_ty ty_unit u) × WT u) (sym returned) (tt, tt)) $ exec ! 𝓣.C 𝓣.Λ Ev (tail fn.body) (at_ret Ev Post) $ sets ! (of_opd ! (unit_lit !)) refl (tt, tt) $
    move ! (0 ∷ 2 ∷ []) $ use2 𝓛 (‵ (row_owns (R E) b at ps')) plan.back $ move ! (0 ∷ 2 ∷ 3 ∷ 4 ∷ 5 ∷ 6 ∷ []) $
    closes_block E ! tt m rb ro b at starts small ps' (moved-length (gap ps) None from to n ps here there) $ move ! (4 ∷ 0 ∷ 1 ∷ []) $ fjoin3 ! $
    nothing ! $ nothing ! $ fjoin ! $ nothing ! $ fjoin ! $ nothing ! $ fjoin ! $ move ! (1 ∷ 0 ∷ []) $ fjoin ! $ move ! (1 ∷ 2 ∷ []) $ join ! $
    feq_i ! (List Val) (vunit ∷ []) (vunit ∷ []) refl $ use0 𝓛 (raw (fact 𝓤 Ens)) (fact_i 𝓤 Ens (emp 𝓤) refl) $
    returns ! (look_at ! 0 refl) $ free_all ! refl $ keep ! (2 ∷ 3 ∷ 1 ∷ 0 ∷ []) $ by ! (leaves 𝓛 En hs c y vunit tt (holding m ps', (tt, (tt, (tt, tt)))) (tt, (tt, (tt, (tt, tt)))))))))))))))
