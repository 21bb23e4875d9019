-- One fetch_add. The handle stays, and a unit of the holder goes into the block beside its own.
use Rattle.std.proofs.Common.{◌≡◌, ℕ, ◌+◌, ◌-◌, ◌^◌, ◌<◌, Bool, false, List, [], ◌∷◌, sym, refl, ap, ◌∙◌, arith, lit<, w64}
use mir.Syntax.{dcons, dnil, a_type, named}
use mir.Val.{Val, vint, vptr}
use mir.MapTy.{inst_fn}
use base.Share
use base.Logic.{SProp, emp, id⊢, via, guard_i}
use base.Fml.{Lft, Share, Fml, ftrue, fsep, flft, fhide, finv}
use types.Logic.{sem}
use types.Kit.{‵, raw, ◌⊛◌, given, mean, at_ret, ◌$◌, ◌∵◌, !, qed, by, move, keep, drop, split, split3, join, fsplit, fsplit3, fjoin, fjoin3, fpick, fpack, learn, use0, use1, use2, use3, rewrite, feq_i}
use types.Run.{stop, fld, load, addr, lit, of_opd, no_more, and_then, first, blocks, exec, look_raw, Calls-last, returns, enter}
use types.ByLocal.{alloc_all, pass_all, free_all, look_at, get, through, sets, lands_last, is, env}
use types.Part.{agg, sub, whole, look_in}
use types.Tokens.{obor_close}
use contract.Running.{tables}
use contract.Monad.{fact, fact_i, fact_use}
use denote.Exit.{yes}
use denote.RattleType.{RattleType, owns}
use denote.Signature.{types_at, plain}
use denote.RawPtr.{Ptr, InBlock, block_ptr, block_of, count_of, at_block}
use denote.Steps.{nothing, opens, closes, peeks, heard, looks, shuts}
use denote.Opens.{unhide, hide}
use denote.Laws.{Is, shows}
use denote.Memory.{cell_at, hidden_shr}
use denote.Param.{param, bounded}
use denote.Builtin.{RefOf}
use denote.Ref.{mut_vals, mut_Tells, shr_vals, shr_Tells}
use denote.Struct.Lending.{lent_out}
use denote.Triple.Walked.{Stays, stay_dropped, stay_ref, walk_of, Goes-dropped, Goes-ref}
use Rattle.core.proofs.atomic.Steps.{tail}
use Rattle.core.specs.contracts.marker.PhantomData as marker
use Rattle.atomic_table.proofs.Walks.{proved, leaves}
use Rattle.atomic_table.proofs.Calls.{fm, seq_cst, found, finds, adds}
use Rattle.cow_cell.specs.contracts.units.Units as tokens
use denote.Struct.Owning.{to}
use Rattle.std_heap.specs.contracts.Global as Heap
use Rattle.cow_cell.specs.Cell.{Invariant, handle, cell_owns, cell_shares}
use Rattle.cow_cell.specs.contracts.counted.Counted as hand
use Rattle.cow_cell.proofs.Fields.{hand_of, HandleFields, hand_told, hand_opened, hand_made, typed, shares_placed}
use Rattle.cow_cell.proofs.CountSteps.{after_retain, retains}
use Rattle.cow_cell.specs.contracts.counted.Counted.retain.{ended, clauses}
use Rattle.cow_cell.specs.contracts.counted.Counted.retain.Key.{name as #self}
use Rattle.cow_cell.proofs.counted.Counted.retain.Statement.{statement}
use Rattle.cow_cell.proofs.counted.Counted.retain.Code as code
use types.Tokens.{shr_bor-open}
use types.Within.{tokens_halve}
use Rattle.std_heap.proofs.Handle.{heap_val}
use Rattle.cow_cell.proofs.Fields.{heap_told, heap_opened}

pub retain_spec : {M : Type 1} → statement M
retain_spec 𝓤 𝓛 𝓜 𝓡 wired X Y L _ g d _ =
    let H = 𝓛.H in let 𝓣 = tables 𝓤 H 𝓜 𝓡 𝓡.env in let R : RattleType = param 0 X in let Q : RattleType = param 1 Y in let En = ended X Y g d in let c = clauses X Y g d 𝓛 𝓜.mem 𝓡.returns in
    let inst = bounded (a_type ∷ a_type ∷ []) (X, (Y, tt)) (dcons d dnil) in let fn = inst_fn inst code.function in let s = g.name in
    let Row : RattleType = hand.the_row R Q g in let D : RattleType = HandleFields R Q g in let Un : RattleType = tokens.the_row Q g in let G : RattleType = (Heap.the_field).row in
    let self = RefOf (0 ∷ []) tt (plain (λ _. Row)) (λ _. tt) in let un = plain (λ _. Un) in let hs : Stays En.signature.params En.kept = (stay_dropped self yes, (stay_ref (1 ∷ []) tt un, tt)) in
    proved 𝓛 En hs c 𝓜 𝓡 (Goes-dropped 𝓛 4 self yes (λ κs x f. refl), (Goes-ref 𝓛 4 1 tt un, tt)) (#self inst) fn (code.unfolded 𝓤 H 𝓜 𝓡 wired (X, (Y, tt)) d)
    (λ κs. (shr_vals, (mut_vals, tt))) (λ κs. (shr_Tells (named 0) κs.0 Row, (mut_Tells (named 1) κs.1.0 Un, tt))) (λ κs qs bounds a gh are.
    let b : ℕ = a.0.ref_ptr.0 in let o : ℕ = a.0.ref_ptr.1 in let κ : Lft = κs.0 in let κq : Share = qs.0 in let h : Row.Denot = a.0.now in let p : Ptr = h.at in let alloc = h.alloc in let x : X.Denot = h.value in let fields : D.Denot = to (hand.the_type R Q g) h in
    let bu : ℕ = a.1.0.ref_ptr.0 in let ou : ℕ = a.1.0.ref_ptr.1 in let ν : Lft = κs.1.0 in let u : Un.Denot = a.1.0.now in let k : ℕ = u.count in let u' : Un.Denot = record u { count = k - 1 } in
    let others : Fml = fsep (flft κs.1.1.0 qs.1.1.0) (fsep (flft κs.1.1.1.0 qs.1.1.1.0) ftrue) in
    let pb : ℕ = block_of p in let po : ℕ = count_of p in let Shares : Ptr × Bool → Fml = λ z. cell_shares R s alloc z.0 z.1 x κ in
    let y : (walk_of 𝓛 En hs c).Ghost = ((κs, qs, bounds, a, (vptr b o ∷ [], (vptr bu ou ∷ [], tt))), gh) in let Post : Val → SProp 𝓤 = (walk_of 𝓛 En hs c).post y in
    let Asked : Type 0 = (h.alone ≡ false) × (0 < k) in let Ens : Type 0 = (h ≡ h) × ((k - 1) + 1 ≡ k) × (k < 2 ^ 62) in
    qed 𝓛 (((‵ (flft κ κq) ⊛ ‵ (flft ν qs.1.0) ⊛ ‵ others) ⊛ ‵ (owns (types_at En.signature.params κs) a y.0.4)) ∷ raw (fact 𝓤 _) ∷ raw (fact 𝓤 _) ∷ raw (fact 𝓤 Asked) ∷ []) ∵
    keep ! (3 ∷ 0 ∷ []) $ heard ! Asked (λ asked. let some_held = asked.1 in split ! $ split3 ! $ move ! (3 ∷ []) $ fsplit3 ! $ fsplit ! $ move ! (2 ∷ []) $ fsplit3 ! $ keep ! (4 ∷ 1 ∷ 2 ∷ 7 ∷ 6 ∷ 8 ∷ []) $
    enter ! 𝓣.C 𝓣.Λ fn (vptr b o ∷ vptr bu ou ∷ []) Post $ alloc_all ! (λ l. pass_all ! refl ((tt, tt), ((tt, tt), tt)) $ let Ev = env fn.locals l in
    use1 𝓛 (‵ (hidden_shr D κ fields b o) ⊛ ‵ (fhide (Shares (p, h.alone))))
    (lent_out 𝓛 (hand.struct R Q g) (hand.the_codes X.Denot Y.Denot R.coded Q.coded Heap.the_row.coded (marker.the_row Q).coded) (hand.the_heap R Q g) (hand.the_lent R Q g) κ h b o) $
    split ! $ move ! (1 ∷ []) $ unhide ! $
    use1 𝓛 (given (InBlock p) (‵ (Shares (p, h.alone)))) (fact_use 𝓤 _ (shares_placed 𝓛 R s alloc p h.alone x κ) (guard_i 𝓤 (InBlock p) (sem 𝓛 (Shares (p, h.alone))))) $ learn ! (λ inb. let at : p ≡ block_ptr pb po = at_block p inb in
    rewrite ! 0 (λ (z : Ptr × Bool). ‵ (Shares z)) (λ i. (at i, asked.0 i)) refl $ fpick ! (λ n₀. fsplit3 ! $ let J : Fml = finv (Invariant R s alloc pb po x n₀) in
    -- [a share of the token; the invariant; what is shown; the fields; units, in two parts; its token; self's token; the others]
    move ! (7 ∷ []) $ use1 𝓛 (‵ (flft κ (Share.left κq)) ⊛ ‵ (flft κ (Share.right κq))) (𝓛.lfts.lft_split κ κq) $ split ! $ move ! (2 ∷ 0 ∷ []) $ shr_bor-open ! tt (tokens_halve 𝓛 (n₀ ∷ [])) (λ e.
    move ! (3 ∷ []) $ use1 𝓛 (‵ J ⊛ ‵ J) (𝓛.invs.inv_dup (Invariant R s alloc pb po x n₀)) $ split ! $ move ! (6 ∷ 4 ∷ []) $
    looks ! tt D (hand_opened R Q g 𝓛) fields b o (λ q vs. move ! (1 ∷ []) $ peeks ! D (Is D) (shows 𝓛 D) fields vs (λ is_so.
    let ev : vs ≡ hand_of (block_ptr pb po) ∷ [] = hand_told R Q g fields vs is_so ∙ ap (λ (r : Ptr). hand_of r ∷ []) at in let after : ℕ → Fml = after_retain 𝓛 R s alloc pb po x n₀ k e some_held in
    rewrite ! 1 (λ (ws : List Val). ‵ (cell_at q D.mir ws b o)) ev refl $
    sets ! (of_opd ! (load ! (through ! refl (fld ! refl (stop !))) (look_in ! 1 (sub ! 0 refl (whole !))))) refl (tt, tt) $
    rewrite ! 1 (λ (ws : List Val). ‵ (cell_at q D.mir ws b o)) (sym ev) refl $ move ! (1 ∷ 0 ∷ 2 ∷ []) $ shuts ! tt D q fields vs b o $
    -- [half of self's token; the fields' share; the invariant, twice; the open share; its token; what is shown; units, in two parts; its token; the others]
    move ! (7 ∷ 8 ∷ 9 ∷ []) $ opens ! tt Un bu ou (λ us. move ! (1 ∷ []) $ fsplit ! $ move ! (1 ∷ []) $ move ! (8 ∷ 11 ∷ 0 ∷ []) $
    use3 𝓛 (raw (𝓣.C _ (vptr pb (po + 0) ∷ vint w64 1 ∷ seq_cst ∷ []) (λ r. mean 𝓛 (found after r))))
    (via 𝓤 _ (retains 𝓛 R s alloc pb po x n₀ k e some_held) (adds 𝓛 𝓜 𝓡 (code.calls-core::raw_atomic::fetch_add 𝓡.env wired) (block_ptr pb (po + 0)) 1 (lit< tt) after)) $
    first ! $ blocks ! $ sets ! (addr ! (through ! refl (fld ! refl (stop !)))) refl (tt, tt) $ sets ! (agg ! (and_then ! (lit ! tt) (no_more !))) refl (tt, (record { fits = lit< tt }, tt)) $
    Calls-last ! (fm 𝓛 𝓜 𝓡) (found after) (and_then ! (get ! refl) (and_then ! (lit ! tt) (and_then ! (get ! refl) (no_more !)))) (λ r. finds ! after (λ n fits.
    lands_last ! refl (tt, record { fits = fits }) $ exec ! 𝓣.C 𝓣.Λ Ev (tail (tail fn.body)) (at_ret Ev Post) $
    -- [what the step gave; units' field, cell, open borrow and names; half of self's token; the fields' share; the invariant; the open share; what is shown; the others]
    move ! (7 ∷ []) $ unhide ! $ fsplit ! $ fsplit ! $ drop ! $ fsplit ! $ move ! (1 ∷ []) $ drop ! $ move ! (1 ∷ []) $ drop ! $ hide ! $ use1 𝓛 (‵ (hidden_shr G κ fields.1.0 b (o + 8))) (id⊢ 𝓤 _) $ move ! (0 ∷ 7 ∷ []) $
    looks ! tt G (heap_opened 𝓛) fields.1.0 b (o + 8) (λ q₂ ws. move ! (1 ∷ []) $ peeks ! G (Is G) (shows 𝓛 G) fields.1.0 ws (λ heap_so. let eh : ws ≡ heap_val ∷ [] = heap_told fields.1.0 ws heap_so in
    rewrite ! 1 (λ (us : List Val). ‵ (cell_at q₂ G.mir us b (o + 8))) eh refl $ sets ! (of_opd ! (load ! (through ! refl (fld ! refl (stop !))) (look_raw ! 1 refl))) refl (tt, ((tt, tt), tt)) $
    rewrite ! 1 (λ (us : List Val). ‵ (cell_at q₂ G.mir us b (o + 8))) (sym eh) refl $ move ! (1 ∷ 0 ∷ 2 ∷ []) $ shuts ! tt G q₂ fields.1.0 ws b (o + 8) $
    sets ! (agg ! (no_more !)) refl (tt, tt) $ sets ! (is ! (agg ! (and_then ! (get ! refl) (and_then ! (get ! refl) (and_then ! (get ! refl) (no_more !))))) (ap hand_of (sym at))) refl (typed p inb) $
    -- [half of self's token; the handle's share; what the step gave; units' field, cell, open borrow and names; the invariant; the open share; what is shown; the others]
    move ! (2 ∷ []) $ fsplit3 ! $ move ! (2 ∷ []) $ fsplit ! $ move ! (1 ∷ []) $ fpick ! (λ fewer. drop ! $ move ! (1 ∷ 2 ∷ 0 ∷ []) $ move ! (5 ∷ 1 ∷ []) $ fjoin ! $ move ! (5 ∷ 0 ∷ 6 ∷ 7 ∷ 8 ∷ []) $ closes ! tt Un u' us bu ou $
    feq_i ! (List Val) (vptr bu ou ∷ []) (vptr bu ou ∷ []) refl $ fjoin3 ! $ nothing ! $ move ! (1 ∷ 0 ∷ []) $ fjoin ! $ nothing ! $ fjoin ! $
    -- [units; its token; the part; the share's token; half of self's token; the handle's share; the invariant; the open share; what is shown; the others]
    move ! (7 ∷ 3 ∷ []) $ obor_close ! tt $ drop ! $ move ! (0 ∷ 4 ∷ []) $ use2 𝓛 (‵ (flft κ κq)) (𝓛.lfts.lft_join κ κq) $
    move ! (3 ∷ 5 ∷ 6 ∷ []) $ fjoin3 ! $ fpack ! ℕ (handle R s alloc pb po x) n₀ $ rewrite ! 0 (λ (z : Ptr × Bool). ‵ (cell_owns R s alloc z.0 z.1 x)) {x = (p, h.alone)} {y = (block_ptr pb po, false)} (λ i. (sym at i, sym asked.0 i)) refl $
    use0 𝓛 (‵ (D.own_val fields (hand_of p ∷ []))) (hand_made R Q g 𝓛 fields) $ fjoin ! $ move ! (3 ∷ 5 ∷ []) $ join ! $ move ! (2 ∷ 0 ∷ []) $ join ! $
    use0 𝓛 (raw (fact 𝓤 Ens)) (fact_i 𝓤 Ens (emp 𝓤) (refl, omega arith, fewer)) $
    returns ! (look_at ! 0 refl) $ free_all ! refl $ keep ! (1 ∷ 3 ∷ 2 ∷ 0 ∷ []) $ by ! (leaves 𝓛 En hs c y (hand_of p) h (tt, (u', tt)) (tt, (tt, tt)))))))))))))))))
