-- `run` shows the values of a run, which a `&` to the block lends. Assumes `Logic`.
use types.Kit.{flt_l, flt_i}
use types.Part.{agg}
use types.Run.{and_then, no_more}
use denote.Slice.{slice_val, elements_shared}
use Rattle.std.proofs.Common.{map, take, drop}
use base.Fml.{fhide}
use denote.Memory.{hidden_shr}
use denote.Opens.{hide, unhide}
use denote.Steps.{looks, shuts}
use denote.Struct.Lending.{lent_out}
use Rattle.cow_buf.proofs.Walks.{uncapped, is, size_word, times_below, length-map, ◌<◌, ◌^◌, arith, subst, tail, El, R, args, ◌≡◌, ℕ, ◌*◌, List, [], ◌∷◌, length, refl, sym, ap, ◌∙◌, w64, ◌+◌, Some, proved, leaves, word, ftrue, flft, Lft, never, SProp, emp, id⊢, ◌⊑◌, fact, fact_i, tables, RefOf, usize, yes, Is, shows, cell_at, uint_vals, uint_Tells, owns, in_a_block, Ptr, block_ptr, shr_Tells, shr_vals, types_at, plain, nothing, heard, peeks, Stays, stay_dropped, walk_of, Goes-dropped, inst_fn, named, Val, vptr, vint, sets_last, alloc_all, pass_all, free_all, look_at, get, sets, env, through, ‵, raw, ◌⊛◌, at_ret, ◌$◌, ◌∵◌, !, qed, by, move, keep, use0, use1, split, join, rewrite, fsplit, fjoin, feq_i, all_of, sub, look_in, stop, fld, of_opd, bin, first, exec, returns, enter, load, blocks}
use Rattle.cow_buf.specs.Block.{block_lends}
use Rattle.cow_buf.specs.Places.{IsRun}
use Rattle.cow_buf.proofs.Fields.{Fields, told, opened, Mem}
use Rattle.cow_buf.proofs.Rows.{run_seen, end_fits, Place, sz}
use Rattle.cow_buf.specs.contracts.memory.Memory.run.{ended, clauses}
use Rattle.cow_buf.specs.contracts.memory.Memory.run.Key.{name as #self}
use Rattle.cow_buf.proofs.memory.Memory.run.Statement.{statement}
use Rattle.cow_buf.specs.contracts.memory.Memory as memory
use Rattle.cow_buf.proofs.memory.Memory.run.Code as code
use Rattle.std.proofs.lemmas.List.{length-take-le, length-drop}

pub run_spec : {M : Type 1} → statement M
run_spec 𝓤 𝓛 𝓜 𝓡 wired X L =
    let H = 𝓛.H in let 𝓣 = tables 𝓤 H 𝓜 𝓡 𝓡.env in let E : El = record { row = X; laws = L } in let En = ended X in let c = clauses X 𝓛 𝓜.mem 𝓡.returns in let fn = inst_fn (args E) code.function in
    let block = RefOf (0 ∷ []) tt (plain (λ _. Mem E)) (λ _. tt) in let number = plain (λ _. usize) in let hs : Stays En.signature.params En.kept = (stay_dropped block yes, (stay_dropped number yes, (stay_dropped number yes, tt))) in
    let goes = Goes-dropped 𝓛 2 number yes (λ κs x f. refl) in
    proved 𝓛 En hs c 𝓜 𝓡 (Goes-dropped 𝓛 2 block yes (λ κs x f. refl), (goes, (goes, tt))) (#self (args E)) fn (code.unfolded 𝓤 H 𝓜 𝓡 wired (X, tt))
    (λ κs. (shr_vals, (uint_vals w64, (uint_vals w64, tt)))) (λ κs. (shr_Tells (named 0) κs.0 (Mem E), (uint_Tells w64, (uint_Tells w64, tt)))) (λ κs qs bounds a gh are.
    let m : (Mem E).Denot = a.0.now in let rb : ℕ = a.0.ref_ptr.0 in let ro : ℕ = a.0.ref_ptr.1 in let κ : Lft = κs.0 in let from : ℕ = a.1.0 in let n : ℕ = a.1.1.0 in let s = sz E in let ps : List (Place E) = m.places in let p : Ptr = m.start in
    let y : (walk_of 𝓛 En hs c).Ghost = ((κs, qs, bounds, a, (vptr rb ro ∷ [], (vint w64 from ∷ [], (vint w64 n ∷ [], tt)))), gh) in let Post : Val → SProp 𝓤 = (walk_of 𝓛 En hs c).post y in
    qed 𝓛 (((‵ (flft κ qs.0) ⊛ ‵ (flft κs.1.0 qs.1.0) ⊛ ‵ ftrue) ⊛ ‵ (owns (types_at En.signature.params κs) a y.0.4)) ∷ raw (fact 𝓤 (κs.1.0 ⊑ X.lives)) ∷ raw (fact 𝓤 (IsRun ps from n)) ∷ []) ∵
    keep ! (2 ∷ 0 ∷ []) $ heard ! (IsRun ps from n) (λ run. let xs : List X.Denot = run.1.0 in let Ens : Type 0 = map Some xs ≡ take n (drop from ps) in
    let long : length xs ≡ n = sym (length-map xs Some) ∙ ap length (sym run.1.1) ∙ length-take-le n (drop from ps) (omega (arith, length-drop from ps, run.0)) in
    split ! $ split ! $ move ! (2 ∷ []) $ fsplit ! $ fsplit ! $ keep ! (1 ∷ 3 ∷ 4 ∷ []) $
    enter ! 𝓣.C 𝓣.Λ fn (vptr rb ro ∷ vint w64 from ∷ vint w64 n ∷ []) Post $ alloc_all ! (λ l. pass_all ! refl ((tt, tt), ((tt, record { fits = are.1.0.1 }), ((tt, record { fits = are.1.1.0.1 }), tt))) $ let Ev = env fn.locals l in
    use1 𝓛 (‵ (hidden_shr (Fields E) κ (p, tt) rb ro) ⊛ ‵ (fhide (block_lends (R E) p ps κ)))
    (lent_out 𝓛 (memory.struct (R E)) (memory.the_codes X.Denot (R E).coded) (memory.the_heap (R E)) (memory.the_lent (R E)) κ m rb ro) $ split ! $ move ! (1 ∷ []) $ unhide ! $
    in_a_block ! p (λ z. block_lends (R E) z ps κ) (id⊢ 𝓤 (never 𝓤)) (λ b at here. fsplit ! $ flt_l ! (λ small. let spot : ℕ = from * s + at in
    let f : from * s < 2 ^ 64 = end_fits from (length ps) s (omega (arith, run.0)) small in let fit = subst (λ (k : ℕ). k < 2 ^ 64) (sym (uncapped from s f)) f in
    use1 𝓛 (‵ (elements_shared (R E) xs b spot κ)) (run_seen E 𝓛 b κ ps from n at spot xs refl run.1.1) $ hide ! $ move ! (1 ∷ 2 ∷ []) $
    looks ! tt (Fields E) (opened E 𝓛) (p, tt) rb ro (λ q vs. move ! (1 ∷ []) $ peeks ! (Fields E) (Is (Fields E)) (shows 𝓛 (Fields E)) (p, tt) vs (λ is_so. let word_is : vs ≡ word (block_ptr b at) ∷ [] = told E p vs is_so ∙ ap (λ (z : Ptr). word z ∷ []) here in
    -- [what the word owns; the word; what shuts the borrow; the borrow; the values; the other tokens]
    rewrite ! 1 (λ (us : List Val). ‵ (cell_at q (Fields E).mir us rb ro)) word_is refl $
    first ! $ blocks ! $ sets ! (of_opd ! (load ! (through ! refl (fld ! refl (stop !))) (look_in ! 1 (sub ! 0 refl (all_of !))))) refl (tt, tt) $
    sets ! (is ! (bin ! (get ! refl) (size_word !) (record { fits = fit })) (ap (vint w64) (uncapped from s f))) refl (tt, record { fits = f }) $ sets ! (bin ! (get ! refl) (get ! refl) tt) refl (tt, tt) $
    sets_last ! (agg ! (and_then ! (get ! refl) (and_then ! (get ! refl) (no_more !)))) refl (tt, (tt, (record { fits = are.1.1.0.1 }, tt))) $ exec ! 𝓣.C 𝓣.Λ Ev (tail fn.body) (at_ret Ev Post) $ sets ! (of_opd ! (get ! refl)) refl (tt, (tt, (record { fits = are.1.1.0.1 }, tt))) $
    rewrite ! 1 (λ (us : List Val). ‵ (cell_at q (Fields E).mir us rb ro)) (sym word_is) refl $ move ! (1 ∷ 0 ∷ 2 ∷ []) $ shuts ! tt (Fields E) q (p, tt) vs rb ro $
    move ! (0 ∷ 3 ∷ []) $ join ! $ move ! (2 ∷ []) $
    flt_i ! (length xs * s) (2 ^ 63) (subst (λ (k : ℕ). k * s < 2 ^ 63) (sym long) (times_below n (length ps) s (2 ^ 63) (omega (arith, run.0)) small)) $ flt_i ! (length xs) (2 ^ 64) (subst (λ (k : ℕ). k < 2 ^ 64) (sym long) are.1.1.0.1) $ fjoin ! $
    feq_i ! (List Val) (slice_val (b, spot) n ∷ []) (slice_val (b, spot) (length xs) ∷ []) (subst (λ (k : ℕ). slice_val (b, spot) n ∷ [] ≡ slice_val (b, spot) k ∷ []) (sym long) refl) $ fjoin ! $ fjoin ! $
    use0 𝓛 (raw (fact 𝓤 Ens)) (fact_i 𝓤 Ens (emp 𝓤) (sym run.1.1)) $ nothing ! $ nothing ! $ fjoin ! $ nothing ! $ fjoin ! $ nothing ! $ fjoin ! $
    returns ! (look_at ! 0 refl) $ free_all ! refl $ keep ! (3 ∷ 0 ∷ 2 ∷ 1 ∷ []) $ by ! (leaves 𝓛 En hs c y (slice_val (b, spot) n) (record { ref_ptr = (b, spot); now = xs }) (tt, (tt, (tt, tt))) (tt, (tt, (tt, tt)))))))))))
