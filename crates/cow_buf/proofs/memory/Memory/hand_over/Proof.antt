-- `hand_over` hands `ptr::copy_nonoverlapping` a run of values, and room in another block. Assumes `Logic`.
use Rattle.std.specs.List.{splice}
use Rattle.std.proofs.Common.{map, take, drop}
use Rattle.core.specs.contracts.ptr.copy_nonoverlapping as copy
use Rattle.core.proofs.ptr.copy_nonoverlapping.Met as copies
use Rattle.cow_buf.proofs.Walks.{fm, tail, El, R, args, elτ, el_x, times_below, uncapped, replicate, ◌≡◌, ℕ, ◌*◌, ◌<◌, ◌^◌, List, [], ◌∷◌, length, None, refl, sym, ap, ◌∙◌, subst, arith, w64, ◌+◌, Some, ◌≤◌, length-replicate, length-map, proved, leaves, Fml, ftrue, fsep, froom, flft, full_share, SProp, emp, id⊢, ◌⊑◌, fact, fact_i, tables, Array, usize, yes, part_at, uint_vals, uint_Tells, owns, block_ptr, rawptr_vals, mut_vals, mut_Tells, types_at, plain, nothing, heard, calls_at_last, triple_of, Stays, stay_dropped, walk_of, Goes-dropped, stay_ref, Goes-ref, T, inst_fn, ty_array, named, ty_unit, Val, vptr, vint, has_ty, WT, vunit, is, alloc_all, pass_all, free_all, look_at, get, sets, env, through, lands_last, ‵, raw, ◌⊛◌, at_ret, ◌$◌, ◌∵◌, !, qed, by, move, keep, use0, use1, use2, split, join, rewrite, fsplit, fjoin, feq_i, split3, fsplit3, fjoin3, all_of, sub, look_in, size_word, no_more, and_then, stop, fld, of_opd, bin, first, exec, returns, enter, load, blocks, unit_lit}
use Rattle.cow_buf.specs.Places.{IsRun, IsClear, blanked}
use Rattle.cow_buf.proofs.Moves.{run-length, run_none, splice-length, gap}
use Rattle.cow_buf.proofs.Arrays.{to_array, of_array}
use Rattle.cow_buf.proofs.Rows.{around, run_out, run_in, room_of, of_room, end_fits, Place, sz}
use Rattle.cow_buf.proofs.Copies.{copied, asks, has_copied}
use Rattle.cow_buf.specs.Block.{row_owns}
use Rattle.cow_buf.specs.Follows.{holding}
use Rattle.cow_buf.proofs.Fields.{Mem, opens_block, closes_block}
use Rattle.cow_buf.specs.contracts.memory.Memory.hand_over.{ended, clauses}
use Rattle.cow_buf.specs.contracts.memory.Memory.hand_over.Key.{name as #self}
use Rattle.cow_buf.proofs.memory.Memory.hand_over.Statement.{statement}
use Rattle.cow_buf.proofs.memory.Memory.hand_over.Code as code

pub hand_over_spec : {M : Type 1} → statement M
hand_over_spec 𝓤 𝓛 𝓜 𝓡 wired X L =
    let H = 𝓛.H in let 𝓣 = tables 𝓤 H 𝓜 𝓡 𝓡.env in let E : El = record { row = X; laws = L } in let En = ended X in let c = clauses X 𝓛 𝓜.mem 𝓡.returns in let fn = inst_fn (args E) code.function in
    let Copies = triple_of 𝓛 (copy.signature X) (copy.spec X 𝓛 𝓜.mem 𝓡.returns) in let known = copies.met 𝓤 𝓛 𝓜 𝓡 (code.calls-core::ptr::copy_nonoverlapping 𝓡.env wired) X L in
    let block = plain (λ _. Mem E) in let number = plain (λ _. usize) in let goes = Goes-dropped 𝓛 3 number yes (λ κs x f. refl) in
    let hs : Stays En.signature.params En.kept = (stay_ref (0 ∷ []) tt block, (stay_ref (1 ∷ []) tt block, (stay_dropped number yes, (stay_dropped number yes, (stay_dropped number yes, tt))))) in
    proved 𝓛 En hs c 𝓜 𝓡 (Goes-ref 𝓛 3 0 tt block, (Goes-ref 𝓛 3 1 tt block, (goes, (goes, (goes, tt))))) (#self (args E)) fn (code.unfolded 𝓤 H 𝓜 𝓡 wired (X, tt))
    (λ κs. (mut_vals, (mut_vals, (uint_vals w64, (uint_vals w64, (uint_vals w64, tt)))))) (λ κs. (mut_Tells (named 0) κs.0 (Mem E), (mut_Tells (named 1) κs.1.0 (Mem E), (uint_Tells w64, (uint_Tells w64, (uint_Tells w64, tt)))))) (λ κs qs bounds a gh are.
    let m : (Mem E).Denot = a.0.now in let rb : ℕ = a.0.ref_ptr.0 in let ro : ℕ = a.0.ref_ptr.1 in let m₁ : (Mem E).Denot = a.1.0.now in let rb₁ : ℕ = a.1.0.ref_ptr.0 in let ro₁ : ℕ = a.1.0.ref_ptr.1 in
    let from : ℕ = a.1.1.0 in let to : ℕ = a.1.1.1.0 in let n : ℕ = a.1.1.1.1.0 in let s = sz E in let ps : List (Place E) = m.places in let qs₁ : List (Place E) = m₁.places in
    let moved = take n (drop from ps) in let ps' = blanked None from n ps in let qs₁' = splice qs₁ to (to + n) moved in let passed : List Val = vptr rb ro ∷ vptr rb₁ ro₁ ∷ vint w64 from ∷ vint w64 to ∷ vint w64 n ∷ [] in
    let y : (walk_of 𝓛 En hs c).Ghost = ((κs, qs, bounds, a, (vptr rb ro ∷ [], (vptr rb₁ ro₁ ∷ [], (vint w64 from ∷ [], (vint w64 to ∷ [], (vint w64 n ∷ [], tt)))))), gh) in let Post : Val → SProp 𝓤 = (walk_of 𝓛 En hs c).post y in
    let Lives : Type 0 = κs.1.1.0 ⊑ X.lives in let Run : Type 0 = IsRun ps from n in let Room : Type 0 = to + n ≤ length qs₁ in let Clear : Type 0 = IsClear qs₁ to (to + n) in let Left : Type 0 = ps' ≡ ps' in let Came : Type 0 = qs₁' ≡ qs₁' in
    qed 𝓛 (((‵ (flft κs.0 qs.0) ⊛ ‵ (flft κs.1.0 qs.1.0) ⊛ ‵ (flft κs.1.1.0 qs.1.1.0) ⊛ ‵ ftrue) ⊛ ‵ (owns (types_at En.signature.params κs) a y.0.4)) ∷ raw (fact 𝓤 Lives) ∷ raw (fact 𝓤 Run) ∷ raw (fact 𝓤 Room) ∷ raw (fact 𝓤 Clear) ∷ []) ∵
    move ! (1 ∷ 2 ∷ 3 ∷ 4 ∷ []) $ heard ! Lives (λ lives. heard ! Run (λ filled. heard ! Room (λ there. heard ! Clear (λ clear.
    let here : from + n ≤ length ps = filled.0 in let xs : List (el_x E) = filled.1.0 in let run = filled.1.1 in
    let all : length moved ≡ n = run-length (gap ps) ps from n here in let none = length-replicate n (gap ps) in let long : length xs ≡ n = sym (length-map xs Some) ∙ ap length (sym run) ∙ all in
    split ! $ split3 ! $ move ! (3 ∷ []) $ fsplit ! $ fsplit3 ! $ move ! (3 ∷ []) $ fsplit ! $ fsplit3 ! $ keep ! (5 ∷ 6 ∷ 7 ∷ 1 ∷ 2 ∷ 8 ∷ 0 ∷ 4 ∷ 9 ∷ []) $
    enter ! 𝓣.C 𝓣.Λ fn passed Post $ alloc_all ! (λ l. pass_all ! refl ((tt, tt), ((tt, tt), ((tt, record { fits = are.1.1.0.1 }), ((tt, record { fits = are.1.1.1.0.1 }), ((tt, record { fits = are.1.1.1.1.0.1 }), tt))))) $ let Ev = env fn.locals l in
    opens_block E ! tt m rb ro (λ b at starts start small. move ! (6 ∷ 7 ∷ 8 ∷ []) $ opens_block E ! tt m₁ rb₁ ro₁ (λ b₁ at₁ starts₁ start₁ small₁. let src : ℕ = from * s + at in let dst : ℕ = to * s + at₁ in
    let f : from * s < 2 ^ 64 = end_fits from (length ps) s (omega arith) small in let fit = subst (λ (k : ℕ). k < 2 ^ 64) (sym (uncapped from s f)) f in
    let u : to * s < 2 ^ 64 = end_fits to (length qs₁) s (omega arith) small₁ in let ufit = subst (λ (k : ℕ). k < 2 ^ 64) (sym (uncapped to s u)) u in
    -- [other's places; the right to free them; its word; what closes the borrow, in three parts; the same of self; self's pointer; other's; the tokens]
    first ! $ blocks ! $ sets ! (of_opd ! (load ! (through ! refl (fld ! refl (stop !))) (look_in ! 8 (sub ! 0 refl (all_of !))))) refl (tt, tt) $
    sets ! (is ! (bin ! (get ! refl) (size_word !) (record { fits = fit })) (ap (vint w64) (uncapped from s f))) refl (tt, record { fits = f }) $ sets ! (bin ! (get ! refl) (get ! refl) tt) refl (tt, tt) $
    sets ! (of_opd ! (load ! (through ! refl (fld ! refl (stop !))) (look_in ! 2 (sub ! 0 refl (all_of !))))) refl (tt, tt) $
    sets ! (is ! (bin ! (get ! refl) (size_word !) (record { fits = ufit })) (ap (vint w64) (uncapped to s u))) refl (tt, record { fits = u }) $ sets ! (bin ! (get ! refl) (get ! refl) tt) refl (tt, tt) $
    use1 𝓛 (‵ (row_owns (R E) b₁ dst (take n (drop to qs₁))) ⊛ ‵ (around E 𝓛 b₁ at₁ to n qs₁)) (run_out E 𝓛 b₁ qs₁ at₁ to n there) $ split ! $
    rewrite ! 0 (λ (ws : List (Place E)). ‵ (row_owns (R E) b₁ dst ws)) (run_none qs₁ to n there clear) refl $ use1 𝓛 (‵ (froom (ty_array (elτ E) n) b₁ dst)) (room_of E 𝓛 b₁ n dst) $ move ! (7 ∷ []) $
    use1 𝓛 (‵ (row_owns (R E) b src moved) ⊛ ‵ (around E 𝓛 b at from n ps)) (run_out E 𝓛 b ps at from n here) $ split ! $
    rewrite ! 0 (λ (ws : List (Place E)). ‵ (row_owns (R E) b src ws)) run refl $ use1 𝓛 (‵ (part_at (Array (R E) n) full_share xs b src)) (to_array E 𝓛 b n src xs long) $ move ! (0 ∷ 2 ∷ []) $ fjoin ! $
    -- [the run and the room; the rest of self's places; of other's; other's right, word and open borrow in three; the same of self; the pointers; the tokens]
    let before : Fml = fsep (part_at (Array (R E) n) full_share xs b src) (froom (ty_array (elτ E) n) b₁ dst) in let after : Fml = fsep (part_at (Array (R E) n) full_share xs b₁ dst) (froom (ty_array (elτ E) n) b src) in
    let z : Copies.Ghost = (((κs.1.1.0, tt), (qs.1.1.0, tt), tt, (block_ptr b src, (block_ptr b₁ dst, (n, tt))), (rawptr_vals (block_ptr b src), (rawptr_vals (block_ptr b₁ dst), (vint w64 n ∷ [], tt)))), xs) in
    move ! (0 ∷ 15 ∷ []) $ asks 𝓛 κs.1.1.0 qs.1.1.0 ! (block_ptr b src) (block_ptr b₁ dst) n before are.1.1.1.1.0.1 lives (times_below n (length ps) s (2 ^ 63) (omega arith) small) $ use1 𝓛 (raw (Copies.pre z)) (id⊢ 𝓤 _) $
    calls_at_last ! (fm 𝓛 𝓜 𝓡) Copies known z (and_then ! (get ! refl) (and_then ! (get ! refl) (and_then ! (get ! refl) (no_more !)))) (λ v.
    use1 𝓛 (copied 𝓛 κs.1.1.0 qs.1.1.0 after v) (id⊢ 𝓤 _) $ has_copied 𝓛 κs.1.1.0 qs.1.1.0 ! tt after v (λ returned. fsplit ! $
    lands_last ! refl (subst (λ (u : Val). T (has_ty ty_unit u) × WT u) (sym returned) (tt, tt)) $ exec ! 𝓣.C 𝓣.Λ Ev (tail fn.body) (at_ret Ev Post) $ sets ! (of_opd ! (unit_lit !)) refl (tt, tt) $
    use1 𝓛 (‵ (row_owns (R E) b₁ dst (map Some xs))) (of_array E 𝓛 b₁ n dst xs) $ rewrite ! 0 (λ (ws : List (Place E)). ‵ (row_owns (R E) b₁ dst ws)) (sym run) refl $ move ! (0 ∷ 4 ∷ []) $
    use2 𝓛 (‵ (row_owns (R E) b₁ at₁ qs₁')) (run_in E 𝓛 b₁ qs₁ at₁ to n there moved all) $ move ! (0 ∷ 4 ∷ 5 ∷ 6 ∷ 7 ∷ 8 ∷ []) $
    closes_block E ! tt m₁ rb₁ ro₁ b₁ at₁ starts₁ small₁ qs₁' (splice-length (gap qs₁) qs₁ moved to n all there) $ move ! (3 ∷ 5 ∷ []) $
    use1 𝓛 (‵ (row_owns (R E) b src (replicate n None))) (of_room E 𝓛 b n src) $ use2 𝓛 (‵ (row_owns (R E) b at ps')) (run_in E 𝓛 b ps at from n here (replicate n None) none) $ move ! (0 ∷ 5 ∷ 6 ∷ 7 ∷ 8 ∷ 9 ∷ []) $
    closes_block E ! tt m rb ro b at starts small ps' (splice-length (gap ps) ps (replicate n None) from n none here) $ move ! (8 ∷ 0 ∷ 1 ∷ []) $ fjoin3 ! $ move ! (6 ∷ 2 ∷ 3 ∷ []) $ fjoin3 ! $
    nothing ! $ nothing ! $ fjoin ! $ nothing ! $ fjoin ! $ nothing ! $ fjoin ! $ move ! (1 ∷ 0 ∷ []) $ fjoin ! $ move ! (1 ∷ 0 ∷ []) $ fjoin ! $ move ! (2 ∷ 3 ∷ []) $ join ! $ move ! (2 ∷ 0 ∷ []) $ join ! $
    feq_i ! (List Val) (vunit ∷ []) (vunit ∷ []) refl $ use0 𝓛 (raw (fact 𝓤 Came)) (fact_i 𝓤 Came (emp 𝓤) refl) $ use0 𝓛 (raw (fact 𝓤 Left)) (fact_i 𝓤 Left (emp 𝓤) refl) $ join ! $
    returns ! (look_at ! 0 refl) $ free_all ! refl $ keep ! (2 ∷ 3 ∷ 1 ∷ 0 ∷ []) $ by ! (leaves 𝓛 En hs c y vunit tt (holding m ps', (holding m₁ qs₁', (tt, (tt, (tt, tt))))) (tt, (tt, (tt, (tt, (tt, tt))))))))))))))))
