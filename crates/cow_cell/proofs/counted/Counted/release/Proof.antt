-- One fetch_sub. The last handle has the block.
use Rattle.std.proofs.Common.{◌≡◌, ℕ, ◌+◌, ◌^◌, ◌<◌, ◌≤◌, T, true, List, [], ◌∷◌, refl, ap, subst, lit<, w64, Some, None}
use mir.Syntax.{dcons, dnil, a_type, named}
use mir.Val.{Val, vint, vptr, vcons, vnil}
use mir.MapTy.{inst_fn}
use base.Logic.{SProp, emp, via, guard_i}
use base.Fml.{Lft, Fml, ftrue, fsep, flft}
use types.Logic.{sem}
use types.Kit.{‵, raw, ◌⊛◌, given, later, mean, at_ret, ◌$◌, ◌∵◌, !, qed, by, move, keep, drop, split, join, fsplit, fsplit3, fjoin, fjoin3, fpick, learn, use0, use1, use2, await, rewrite, feq_i}
use types.Run.{stop, fld, addr, lit, of_opd, bin, no_more, and_then, first, blocks, skips, branches, exec, Calls-last, returns, returns_within, enter}
use types.ByLocal.{alloc_all, pass_all, free_all, look_at, get, get_in, through, sets, lands_last, is, env}
use types.Match.{live}
use types.Part.{agg, sub, whole}
use contract.Running.{tables}
use contract.Monad.{fact, fact_i, fact_use}
use denote.Exit.{no}
use denote.RattleType.{RattleType, owns}
use denote.Signature.{types_at, plain}
use denote.RawPtr.{Ptr, InBlock, block_ptr, ptr_val, block_of, count_of, at_block}
use denote.Steps.{nothing, opens, closes}
use denote.Param.{param, layout, bounded}
use denote.Param.Laws.{param_laws}
use denote.Ref.{mut_vals, mut_Tells}
use denote.Triple.Walked.{Stays, stay_dropped, stay_ref, walk_of, Goes-dropped, Goes-ref}
use Rattle.core.proofs.atomic.Steps.{tail}
use Rattle.atomic_table.proofs.Walks.{proved, leaves}
use Rattle.atomic_table.proofs.Calls.{fm, seq_cst, found, finds, subs}
use Rattle.cow_cell.specs.contracts.units.Units as tokens
use denote.Struct.Owning.{to}
use denote.Struct.Members.{Member}
use Rattle.std_heap.specs.contracts.GlobalAllocator.TheImpl.{ghosts}
use Rattle.std_alloc.specs.Box.Ownership.{box_owns}
use Rattle.cow_cell.specs.Cell.{body, cell_owns}
use Rattle.cow_cell.specs.contracts.block.Block as block
use Rattle.cow_cell.specs.contracts.counted.Counted as hand
use Rattle.cow_cell.proofs.Blocks.{body_back}
use Rattle.cow_cell.proofs.Fields.{hand_of, raw_box_of, hand_told, RawBox, RawBoxFields, raw_box_made, raw_box_typed, typed, owns_placed}
use Rattle.cow_cell.proofs.CountSteps.{Last, after_release, releases, got_back}
use Rattle.cow_cell.specs.contracts.counted.Counted.release.{ended, clauses}
use Rattle.cow_cell.specs.contracts.counted.Counted.release.Key.{name as #self}
use Rattle.cow_cell.proofs.counted.Counted.release.Statement.{statement}
use Rattle.cow_cell.proofs.counted.Counted.release.Code as code
use base.Logic.{all_e}
use Rattle.std.specs.Prelude.{IfSome, IsSome, IsNone}
use Rattle.core.specs.contracts.option.Option as Opt
use Rattle.std_alloc.proofs.RcSteps.{is_not, is_so, Some-of, none_of, some_Good}

pub release_spec : {M : Type 1} → statement M
release_spec 𝓤 𝓛 𝓜 𝓡 wired X Y L _ g d _ =
    let H = 𝓛.H in let 𝓣 = tables 𝓤 H 𝓜 𝓡 𝓡.env in let R : RattleType = param 0 X in let Q : RattleType = param 1 Y in let En = ended X Y g d in let c = clauses X Y g d 𝓛 𝓜.mem 𝓡.returns in
    let inst = bounded (a_type ∷ a_type ∷ []) (X, (Y, tt)) (dcons d dnil) in let fn = inst_fn inst code.function in let s = g.name in
    let B : RattleType = block.the_row R in let Row : RattleType = hand.the_row R Q g in let Lo : RattleType = RawBox B in let Un : RattleType = tokens.the_row Q g in
    let self = plain (λ _. Row) in let un = plain (λ _. Un) in let hs : Stays En.signature.params En.kept = (stay_dropped self no, (stay_ref (0 ∷ []) tt un, tt)) in
    proved 𝓛 En hs c 𝓜 𝓡 (Goes-dropped 𝓛 3 self no (λ κs x f. refl), (Goes-ref 𝓛 3 0 tt un, tt)) (#self inst) fn (code.unfolded 𝓤 H 𝓜 𝓡 wired (X, (Y, tt)) d)
    (λ κs. ((λ x. hand_of x.at ∷ []), (mut_vals, tt))) (λ κs. ((λ x vs so. hand_told R Q g (to (hand.the_type R Q g) x) vs so.0), (mut_Tells (named 0) κs.0 Un, tt))) (λ κs qs bounds a gh are.
    let b : ℕ = a.1.0.ref_ptr.0 in let o : ℕ = a.1.0.ref_ptr.1 in let κ : Lft = κs.0 in let u : Un.Denot = a.1.0.now in let k : ℕ = u.count in let h : Row.Denot = a.0 in let p : Ptr = h.at in let alloc = h.alloc in let x : X.Denot = h.value in
    let pb : ℕ = block_of p in let po : ℕ = count_of p in let others : Fml = fsep (flft κs.1.0 qs.1.0) (fsep (flft κs.1.1.0 qs.1.1.0) ftrue) in let u' : Un.Denot = record u { count = k + 1 } in
    let m : Member = record { row = R; ty = layout X } in let Own : Ptr → Fml = λ z. cell_owns R s alloc z h.alone x in let after : ℕ → Fml = after_release 𝓛 R s alloc pb po x h.alone k in
    let y : (walk_of 𝓛 En hs c).Ghost = ((κs, qs, bounds, a, (hand_of p ∷ [], (vptr b o ∷ [], tt))), gh) in let Post : Val → SProp 𝓤 = (walk_of 𝓛 En hs c).post y in
    qed 𝓛 (((‵ (flft κ qs.0) ⊛ ‵ others) ⊛ ‵ (owns (types_at En.signature.params κs) a y.0.4)) ∷ raw ((c κs a).requires gh) ∷ []) ∵
    split ! $ split ! $ move ! (2 ∷ []) $ fsplit3 ! $ fsplit ! $ move ! (2 ∷ []) $ fsplit3 ! $ keep ! (4 ∷ 1 ∷ 2 ∷ 6 ∷ 7 ∷ []) $
    use1 𝓛 (given (InBlock p) (‵ (Own p))) (fact_use 𝓤 _ (owns_placed 𝓛 R s alloc p h.alone x) (guard_i 𝓤 (InBlock p) (sem 𝓛 (Own p)))) $ learn ! (λ inb. let at : p ≡ block_ptr pb po = at_block p inb in
    rewrite ! 0 (λ (z : Ptr). ‵ (Own z)) at refl $ move ! (1 ∷ 2 ∷ 3 ∷ []) $
    enter ! 𝓣.C 𝓣.Λ fn (hand_of p ∷ vptr b o ∷ []) Post $ alloc_all ! (λ l. pass_all ! refl (typed p inb, ((tt, tt), tt)) $ let Ev = env fn.locals l in
    opens ! tt Un b o (λ us. move ! (1 ∷ []) $ fsplit ! $ move ! (6 ∷ 1 ∷ []) $
    -- [the handle; the units; the token's field; the units' cell; the open borrow; the names; the other tokens]
    use2 𝓛 (raw (𝓣.C _ (vptr pb (po + 0) ∷ vint w64 1 ∷ seq_cst ∷ []) (λ r. mean 𝓛 (found after r))))
    (via 𝓤 _ (releases 𝓛 R s alloc pb po x k h.alone) (subs 𝓛 𝓜 𝓡 (code.calls-core::raw_atomic::fetch_sub 𝓡.env wired) (block_ptr pb (po + 0)) 1 (lit< tt) after)) $
    sets ! (is ! (of_opd ! (get_in ! (fld ! refl (stop !)) (sub ! 0 refl (whole !)))) (ap ptr_val at)) refl (tt, tt) $ sets ! (of_opd ! (get_in ! (fld ! refl (stop !)) (sub ! 1 refl (whole !)))) refl (tt, ((tt, tt), tt)) $
    first ! $ blocks ! $ sets ! (addr ! (through ! refl (fld ! refl (stop !)))) refl (tt, tt) $ sets ! (agg ! (and_then ! (lit ! tt) (no_more !))) refl (tt, (record { fits = lit< tt }, tt)) $
    Calls-last ! (fm 𝓛 𝓜 𝓡) (found after) (and_then ! (get ! refl) (and_then ! (lit ! tt) (and_then ! (get ! refl) (no_more !)))) (λ r. finds ! after (λ n fits.
    lands_last ! refl (tt, record { fits = fits }) $ exec ! 𝓣.C 𝓣.Λ Ev (tail (tail (tail fn.body))) (at_ret Ev Post) $ sets ! (of_opd ! (get ! refl)) refl (tt, record { fits = fits }) $
    fsplit3 ! $ move ! (2 ∷ []) $ fpick ! (λ told. drop ! $ move ! (2 ∷ 0 ∷ []) $ fjoin ! $ move ! (2 ∷ 0 ∷ 3 ∷ 4 ∷ 5 ∷ []) $ closes ! tt Un u' us b o $
    feq_i ! (List Val) (vptr b o ∷ []) (vptr b o ∷ []) refl $ fjoin3 ! $ nothing ! $ move ! (1 ∷ 0 ∷ []) $ fjoin ! $ nothing ! $ fjoin ! $ move ! (1 ∷ 3 ∷ []) $ join ! $
    -- [the tokens; what is left of the parameters; what the last handle has]
    sets ! (bin ! (get ! refl) (lit ! tt) tt) refl (tt, tt) $ first ! $ branches ! (get ! refl)
    (λ other. let many = is_not n 1 other in let Ens : Type 0 = (k + 1 ≡ k + 1) × (k + 1 ≤ 2 ^ 62) × IfSome None (λ (l : Lo.Denot). l.value.value ≡ x) × (h.alone ≡ true → IsSome {T = Lo.Denot} None) × (IsNone {T = Lo.Denot} None → k + 1 < 2 ^ 62) in
    sets ! (agg ! (and_then ! (lit ! tt) (no_more !))) refl (tt, (record { fits = lit< tt }, tt)) $ use0 𝓛 (‵ ((Opt.the_row Lo).own_val None (live 0 vnil ∷ []))) (none_of 𝓛 Lo) $
    use0 𝓛 (raw (fact 𝓤 Ens)) (fact_i 𝓤 Ens (emp 𝓤) (refl, told.0, tt, (λ al. absurd (many (told.1 al))), (λ _. told.2 many))) $
    returns_within ! Post refl (look_at ! 0 refl) $ free_all ! refl $ keep ! (2 ∷ 3 ∷ 1 ∷ 0 ∷ []) $ by ! (leaves 𝓛 En hs c y (live 0 vnil) None (tt, (u', tt)) (tt, (tt, tt))))
    (λ last. let one_left : n ≡ 1 = is_so n 1 last in let End : Fml = Last 𝓛 R s alloc pb po x h.alone k in let w : Val = raw_box_of (block_ptr pb po) in let v : B.Denot = record { count = 0; value = x } in
    let out : Lo.Denot = record { at = block_ptr pb po; alloc = alloc; value = v } in let good = some_Good (layout Lo) w (raw_box_typed (block_ptr pb po) tt) in
    let Ens : Type 0 = (k + 1 ≡ k + 1) × (k + 1 ≤ 2 ^ 62) × (x ≡ x) × (h.alone ≡ true → IsSome (Some out)) × (IsNone (Some out) → k + 1 < 2 ^ 62) in
    skips ! $ exec ! 𝓣.C 𝓣.Λ Ev (tail (tail (tail (tail (tail (tail fn.body)))))) (at_ret Ev Post) $
    move ! (2 ∷ []) $ use1 𝓛 (‵ End) (all_e 𝓤 (λ (_ : n ≡ 1). sem 𝓛 End) one_left) $ fsplit ! $ move ! (1 ∷ []) $ use1 𝓛 (later (‵ (body R s alloc pb po x))) (got_back 𝓛 R s alloc pb po x) $ await ! tt $ move ! (1 ∷ 0 ∷ []) $
    use2 𝓛 (‵ (box_owns (ghosts.dealloc_token alloc) B (block_ptr pb po) v)) (body_back m 𝓛 ((param_laws 0 X L).lawful 𝓛) s alloc pb po 0 x) $
    sets ! (agg ! (and_then ! (get ! refl) (and_then ! (get ! refl) (no_more !)))) refl (raw_box_typed (block_ptr pb po) tt) $ sets ! (agg ! (and_then ! (lit ! tt) (and_then ! (get ! refl) (no_more !)))) refl good $
    use0 𝓛 (‵ ((RawBoxFields B).own_val (block_ptr pb po, (alloc, tt)) (w ∷ []))) (raw_box_made B 𝓛 (block_ptr pb po) alloc) $ fjoin ! $ use1 𝓛 (‵ ((Opt.the_row Lo).own_val (Some out) (live 1 (vcons w vnil) ∷ []))) (Some-of 𝓛 Lo out w) $
    use0 𝓛 (raw (fact 𝓤 Ens)) (fact_i 𝓤 Ens (emp 𝓤) (refl, told.0, refl, (λ _. refl), (λ z. absurd (subst T z tt)))) $
    returns ! (look_at ! 0 refl) $ free_all ! refl $ keep ! (2 ∷ 3 ∷ 1 ∷ 0 ∷ []) $ by ! (leaves 𝓛 En hs c y (live 1 (vcons w vnil)) (Some out) (tt, (u', tt)) (tt, (tt, tt)))))))))))
