-- `put` writes a value into the room that an empty place is. Assumes `Logic`.
use borrow.Table.OneValue.{part_in}
use types.Run.{init, assigns_last}
use Rattle.core.proofs.mem.Param.{one}
use Rattle.cow_buf.proofs.Walks.{tail, El, R, args, elτ, lawful, ◌≡◌, ℕ, ◌*◌, ◌<◌, List, [], ◌∷◌, ◌++◌, length, None, refl, sym, subst, w64, ◌+◌, get_or, Some, leaves, proved_at, as_written, ftrue, flft, full_share, SProp, emp, id⊢, ent, ◌⊑◌, fact, fact_i, tables, usize, yes, no, uint_Tells, owns, mut_Tells, types_at, plain, nothing, heard, Stays, stay_dropped, walk_of, Goes-dropped, stay_ref, Goes-ref, set, length-set, inst_fn, named, Val, vptr, vint, vunit, WpFn, alloc_all, pass_all, free_all, look_at, get, sets, env, through, ‵, raw, ◌⊛◌, at_ret, ◌$◌, ◌∵◌, !, qed, by, move, keep, use0, use1, use2, split, join, rewrite, fsplit, fjoin, feq_i, fsplit3, fjoin3, suffices, all_of, sub, look_in, stop, fld, of_opd, bin, first, exec, returns, enter, load, size_lit, blocks, unit_lit}
use Rattle.cow_buf.proofs.Rows.{word_fits, Place, sz, others, place_out, place_in}
use Rattle.cow_buf.specs.Block.{place_owns, row_owns}
use Rattle.cow_buf.specs.Follows.{holding}
use Rattle.cow_buf.proofs.Fields.{Mem, opens_block, closes_block}
use Rattle.cow_buf.specs.contracts.memory.Memory.put.{ended, clauses}
use Rattle.cow_buf.specs.contracts.memory.Memory.put.Key.{name as #self}
use Rattle.cow_buf.proofs.memory.Memory.put.Statement.{statement}
use Rattle.cow_buf.proofs.memory.Memory.put.Code as code

pub put_spec : {M : Type 1} → statement M
put_spec 𝓤 𝓛 𝓜 𝓡 wired X L =
    let H = 𝓛.H in let 𝓣 = tables 𝓤 H 𝓜 𝓡 𝓡.env in let E : El = record { row = X; laws = L } in let En = ended X in let c = clauses X 𝓛 𝓜.mem 𝓡.returns in let fn = inst_fn (args E) code.function in
    let block = plain (λ _. Mem E) in let number = plain (λ _. usize) in let item = plain (λ _. R E) in
    let hs : Stays En.signature.params En.kept = (stay_ref (0 ∷ []) tt block, (stay_dropped number yes, (stay_dropped item no, tt))) in
    proved_at 𝓛 En hs c 𝓜 𝓡 (Goes-ref 𝓛 2 0 tt block, (Goes-dropped 𝓛 2 number yes (λ κs x f. refl), (Goes-dropped 𝓛 2 item no (λ κs x f. refl), tt))) (#self (args E)) fn (code.unfolded 𝓤 H 𝓜 𝓡 wired (X, tt)) (λ y are.
    let κs = y.0.0 in let qs = y.0.1 in let a = y.0.3 in let m : (Mem E).Denot = a.0.now in let o = a.0.ref_ptr in let i : ℕ = a.1.0 in let x : X.Denot = a.1.1.0 in let s = sz E in let ps : List (Place E) = m.places in let ps' = set ps i (Some x) in
    let Post : Val → SProp 𝓤 = (walk_of 𝓛 En hs c).post y in let Run : List Val → SProp 𝓤 = λ vs. WpFn 𝓤 H 𝓣.C 𝓣.Λ fn vs Post in let Within : Type 0 = i < length ps in let Empty : Type 0 = get_or ps i None ≡ None in let Ens : Type 0 = ps' ≡ ps' in
    let xv = one E y.0.4.1.1.0 (((lawful E) 𝓛).typed x y.0.4.1.1.0 are.1.1.0) in let v : Val = xv.0 in let good = xv.2 in let passed : List Val = vptr o.0 o.1 ∷ vint w64 i ∷ v ∷ [] in
    let self_is = mut_Tells (named 0) κs.0 (Mem E) a.0 y.0.4.0 are.0 in let i_is = uint_Tells w64 i y.0.4.1.0 are.1.0 in
    qed 𝓛 (((‵ (flft κs.0 qs.0) ⊛ ‵ (flft κs.1.0 qs.1.0) ⊛ ‵ ftrue) ⊛ ‵ (owns (types_at En.signature.params κs) a y.0.4)) ∷ raw (fact 𝓤 (κs.1.0 ⊑ X.lives)) ∷ raw (fact 𝓤 Within) ∷ raw (fact 𝓤 Empty) ∷ []) ∵
    keep ! (2 ∷ 3 ∷ 0 ∷ []) $ heard ! Within (λ within. heard ! Empty (λ empty. split ! $ split ! $ move ! (2 ∷ []) $ fsplit ! $ fsplit3 ! $ move ! (3 ∷ []) $ fsplit3 ! $ keep ! (4 ∷ 5 ∷ 6 ∷ 1 ∷ 3 ∷ 7 ∷ []) $
    rewrite ! 3 (λ (vs : List Val). ‵ ((R E).own_val x vs)) xv.1 refl $
    suffices ! (Run passed) (subst (λ (vs : List Val). ent 𝓤 (Run passed) (Run vs)) (sym (λ j. self_is j ++ (i_is j ++ (xv.1 j ++ [])))) (id⊢ 𝓤 (Run passed))) $
    enter ! 𝓣.C 𝓣.Λ fn passed Post $ alloc_all ! (λ l. pass_all ! refl ((tt, tt), ((tt, record { fits = are.1.0.1 }), (good, tt))) $ let Ev = env fn.locals l in
    opens_block E ! tt m o.0 o.1 (λ b at here start small. let spot : ℕ = i * s + at in let fits = word_fits i (length ps) s within small in
    use1 𝓛 (‵ (place_owns (R E) b spot (get_or ps i None)) ⊛ ‵ (others E 𝓛 b at i ps)) (place_out E 𝓛 b ps i at spot refl within) $ split ! $
    rewrite ! 0 (λ (p : Place E). ‵ (place_owns (R E) b spot p)) empty refl $ as_written ! (elτ E) b spot $
    -- [the room; the other places; the right to free; the word; what closes the borrow, in three parts; the value; the pointer; the tokens]
    first ! $ blocks ! $ sets ! (of_opd ! (load ! (through ! refl (fld ! refl (stop !))) (look_in ! 3 (sub ! 0 refl (all_of !))))) refl (tt, tt) $
    sets ! (bin ! (get ! refl) (size_lit ! (record { fits = fits.0 })) (record { fits = fits.1 })) refl (tt, record { fits = fits.1 }) $ sets ! (bin ! (get ! refl) (get ! refl) tt) refl (tt, tt) $
    sets ! (of_opd ! (get ! refl)) refl good $ assigns_last ! (of_opd ! (get ! refl)) (through ! refl (stop !)) (init ! 0 refl good) $
    exec ! 𝓣.C 𝓣.Λ Ev (tail fn.body) (at_ret Ev Post) $ sets ! (of_opd ! (unit_lit !)) refl (tt, tt) $
    move ! (0 ∷ 7 ∷ []) $ use2 𝓛 (‵ (place_owns (R E) b spot (Some x))) (part_in 𝓛 (R E) refl full_share x b spot v) $ use2 𝓛 (‵ (row_owns (R E) b at ps')) (place_in E 𝓛 b ps i at spot refl within (Some x)) $
    closes_block E ! tt m o.0 o.1 b at here small ps' (length-set ps i (Some x)) $ move ! (3 ∷ 0 ∷ 1 ∷ []) $ fjoin3 ! $
    nothing ! $ nothing ! $ fjoin ! $ nothing ! $ fjoin ! $ move ! (1 ∷ 0 ∷ []) $ fjoin ! $ move ! (1 ∷ 2 ∷ []) $ join ! $ feq_i ! (List Val) (vunit ∷ []) (vunit ∷ []) refl $ use0 𝓛 (raw (fact 𝓤 Ens)) (fact_i 𝓤 Ens (emp 𝓤) refl) $
    returns ! (look_at ! 0 refl) $ free_all ! refl $ keep ! (2 ∷ 3 ∷ 1 ∷ 0 ∷ []) $ by ! (leaves 𝓛 En hs c y vunit tt (holding m ps', (tt, (tt, tt))) (tt, (tt, (tt, tt)))))))))
