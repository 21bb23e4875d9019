-- `take` reads a value, and its place is empty then. Assumes `Logic`.
use types.Run.{look}
use borrow.Table.OneValue.{part_out}
use base.Fml.{fat}
use Rattle.cow_buf.proofs.Walks.{tail, El, R, args, elτ, lawful, ◌≡◌, ℕ, ◌*◌, List, [], ◌∷◌, length, None, refl, w64, ◌+◌, get_or, Some, proved, leaves, as_raw, ftrue, froom, flft, full_share, SProp, emp, ◌⊑◌, fact, fact_i, tables, usize, yes, Is, shows, uint_vals, uint_Tells, owns, mut_vals, mut_Tells, types_at, plain, nothing, heard, peeks, Stays, stay_dropped, walk_of, Goes-dropped, stay_ref, Goes-ref, set, length-set, inst_fn, named, Val, vptr, vint, sets_last, alloc_all, pass_all, free_all, look_at, get, sets, env, through, some, pick, ‵, raw, ◌⊛◌, at_ret, ◌$◌, ◌∵◌, !, qed, by, move, keep, use0, use1, use2, split, join, rewrite, fsplit, fjoin, fsplit3, fjoin3, all_of, sub, look_in, stop, fld, of_opd, bin, first, exec, returns, enter, load, size_lit, blocks}
use Rattle.cow_buf.specs.Places.{IsFilled}
use Rattle.cow_buf.proofs.Rows.{filled_within, word_fits, Place, sz, others, place_out, place_in}
use Rattle.cow_buf.specs.Block.{place_owns, row_owns}
use Rattle.cow_buf.specs.Follows.{holding}
use Rattle.cow_buf.proofs.Fields.{Mem, opens_block, closes_block}
use Rattle.cow_buf.specs.contracts.memory.Memory.take.{ended, clauses}
use Rattle.cow_buf.specs.contracts.memory.Memory.take.Key.{name as #self}
use Rattle.cow_buf.proofs.memory.Memory.take.Statement.{statement}
use Rattle.cow_buf.proofs.memory.Memory.take.Code as code

pub take_spec : {M : Type 1} → statement M
take_spec 𝓤 𝓛 𝓜 𝓡 wired X L =
    let H = 𝓛.H in let 𝓣 = tables 𝓤 H 𝓜 𝓡 𝓡.env in let E : El = record { row = X; laws = L } in let En = ended X in let c = clauses X 𝓛 𝓜.mem 𝓡.returns in let fn = inst_fn (args E) code.function in
    let block = plain (λ _. Mem E) in let number = plain (λ _. usize) in let hs : Stays En.signature.params En.kept = (stay_ref (0 ∷ []) tt block, (stay_dropped number yes, tt)) in
    proved 𝓛 En hs c 𝓜 𝓡 (Goes-ref 𝓛 2 0 tt block, (Goes-dropped 𝓛 2 number yes (λ κs x f. refl), tt)) (#self (args E)) fn (code.unfolded 𝓤 H 𝓜 𝓡 wired (X, tt))
    (λ κs. (mut_vals, (uint_vals w64, tt))) (λ κs. (mut_Tells (named 0) κs.0 (Mem E), (uint_Tells w64, tt))) (λ κs qs bounds a gh are.
    let m : (Mem E).Denot = a.0.now in let rb : ℕ = a.0.ref_ptr.0 in let ro : ℕ = a.0.ref_ptr.1 in let i : ℕ = a.1.0 in let s = sz E in let ps : List (Place E) = m.places in let ps' = set ps i None in
    let y : (walk_of 𝓛 En hs c).Ghost = ((κs, qs, bounds, a, (vptr rb ro ∷ [], (vint w64 i ∷ [], tt))), gh) in let Post : Val → SProp 𝓤 = (walk_of 𝓛 En hs c).post y in
    qed 𝓛 (((‵ (flft κs.0 qs.0) ⊛ ‵ (flft κs.1.0 qs.1.0) ⊛ ‵ ftrue) ⊛ ‵ (owns (types_at En.signature.params κs) a y.0.4)) ∷ raw (fact 𝓤 (κs.1.0 ⊑ X.lives)) ∷ raw (fact 𝓤 (IsFilled ps i)) ∷ []) ∵
    keep ! (2 ∷ 0 ∷ []) $ heard ! (IsFilled ps i) (λ filled. let x : X.Denot = filled.0 in let holds = filled.1 in let within = filled_within ps i x holds in
    let Held : Type 0 = get_or ps i None ≡ Some x in let Ens : Type 0 = ps' ≡ ps' in
    split ! $ split ! $ move ! (2 ∷ []) $ fsplit ! $ fsplit3 ! $ keep ! (1 ∷ 2 ∷ 4 ∷ 0 ∷ 5 ∷ []) $
    enter ! 𝓣.C 𝓣.Λ fn (vptr rb ro ∷ vint w64 i ∷ []) Post $ alloc_all ! (λ l. pass_all ! refl ((tt, tt), ((tt, record { fits = are.1.0.1 }), tt)) $ let Ev = env fn.locals l in
    opens_block E ! tt m rb ro (λ b at here start small. let spot : ℕ = i * s + at in let fits = word_fits i (length ps) s within small in
    use1 𝓛 (‵ (place_owns (R E) b spot (get_or ps i None)) ⊛ ‵ (others E 𝓛 b at i ps)) (place_out E 𝓛 b ps i at spot refl within) $ split ! $
    rewrite ! 0 (λ (p : Place E). ‵ (place_owns (R E) b spot p)) holds refl $
    use1 𝓛 (some (λ (v : Val). ‵ (fat full_share (elτ E) b spot v) ⊛ ‵ (X.own_val x (v ∷ [])))) (part_out 𝓛 (R E) refl full_share x b spot) $ pick ! (λ v. split ! $ move ! (1 ∷ []) $
    peeks ! (R E) (Is (R E)) (shows 𝓛 (R E)) x (v ∷ []) (λ is. let good = (((lawful E) 𝓛).typed x (v ∷ []) is).0 in
    -- [what the value owns; its bytes; the other places; the right to free; the word; what closes the borrow, in three parts; the pointer; the tokens]
    first ! $ blocks ! $ sets ! (of_opd ! (load ! (through ! refl (fld ! refl (stop !))) (look_in ! 4 (sub ! 0 refl (all_of !))))) refl (tt, tt) $
    sets ! (bin ! (get ! refl) (size_lit ! (record { fits = fits.0 })) (record { fits = fits.1 })) refl (tt, record { fits = fits.1 }) $ sets ! (bin ! (get ! refl) (get ! refl) tt) refl (tt, tt) $
    sets_last ! (of_opd ! (load ! (through ! refl (stop !)) (look ! 1 refl))) refl good $ exec ! 𝓣.C 𝓣.Λ Ev (tail fn.body) (at_ret Ev Post) $ sets ! (of_opd ! (get ! refl)) refl good $
    move ! (1 ∷ []) $ use1 𝓛 (‵ (froom (elτ E) b spot)) (𝓛.laws.at_room (elτ E) b spot v) $ as_raw ! (elτ E) b spot $ move ! (0 ∷ 2 ∷ []) $
    use2 𝓛 (‵ (row_owns (R E) b at ps')) (place_in E 𝓛 b ps i at spot refl within None) $ move ! (0 ∷ 2 ∷ 3 ∷ 4 ∷ 5 ∷ 6 ∷ []) $
    closes_block E ! tt m rb ro b at here small ps' (length-set ps i None) $ move ! (4 ∷ 0 ∷ 1 ∷ []) $ fjoin3 ! $
    nothing ! $ nothing ! $ fjoin ! $ move ! (1 ∷ 0 ∷ []) $ fjoin ! $ move ! (1 ∷ 3 ∷ []) $ join ! $ use0 𝓛 (raw (fact 𝓤 Ens)) (fact_i 𝓤 Ens (emp 𝓤) refl) $ use0 𝓛 (raw (fact 𝓤 Held)) (fact_i 𝓤 Held (emp 𝓤) holds) $ join ! $
    returns ! (look_at ! 0 refl) $ free_all ! refl $ keep ! (1 ∷ 2 ∷ 3 ∷ 0 ∷ []) $ by ! (leaves 𝓛 En hs c y v x (holding m ps', (tt, tt)) (tt, (tt, tt)))))))))
