-- The value of a handle, alone or not.
use Rattle.std.proofs.Common.{◌≡◌, ℕ, ◌+◌, List, [], ◌∷◌, sym, refl, ap, ◌∙◌}
use mir.Syntax.{dcons, dnil, a_type, named}
use mir.Val.{Val, vptr}
use mir.MapTy.{inst_fn}
use base.Logic.{SProp, emp, guard_i}
use base.Fml.{Lft, Fml, ftrue, fsep, flft, fhide}
use types.Logic.{sem}
use types.Kit.{‵, raw, ◌⊛◌, given, at_ret, ◌$◌, ◌∵◌, !, qed, by, move, keep, split, join, fsplit, fjoin, learn, use0, use1, rewrite, feq_i}
use types.Run.{stop, fld, hop, addr, of_opd, first, blocks, exec, returns, enter}
use types.ByLocal.{alloc_all, pass_all, free_all, look_at, get, through, sets, sets_last, env}
use types.Part.{sub, whole, look_in}
use contract.Running.{tables}
use contract.Monad.{fact, fact_i, fact_use}
use denote.Exit.{yes}
use denote.RattleType.{RattleType, owns}
use denote.Signature.{types_at, plain}
use denote.RawPtr.{Ptr, InBlock, block_ptr, block_of, count_of, at_block}
use denote.Steps.{nothing, peeks, looks, shuts}
use denote.Opens.{unhide}
use denote.Laws.{Is, shows}
use denote.Memory.{cell_at, hidden_shr}
use denote.Param.{param, bounded}
use denote.Param.Laws.{param_laws}
use denote.Builtin.{RefOf}
use denote.Ref.{shr_vals, shr_Tells}
use denote.Struct.Lending.{lent_out}
use denote.Triple.Walked.{Stays, stay_dropped, walk_of, Goes-dropped}
use Rattle.core.proofs.atomic.Steps.{tail}
use Rattle.core.specs.contracts.marker.PhantomData as marker
use Rattle.atomic_table.proofs.Walks.{proved, leaves}
use denote.Struct.Owning.{to}
use Rattle.std_heap.specs.contracts.Global as Heap
use Rattle.cow_cell.specs.Cell.{offset, cell_shares}
use Rattle.cow_cell.specs.contracts.counted.Counted as hand
use Rattle.cow_cell.proofs.Cells.{sees}
use Rattle.cow_cell.proofs.Fields.{hand_of, HandleFields, hand_told, hand_opened, shares_placed}
use Rattle.cow_cell.specs.contracts.counted.Counted.get.{ended, clauses}
use Rattle.cow_cell.specs.contracts.counted.Counted.get.Key.{name as #self}
use Rattle.cow_cell.proofs.counted.Counted.get.Statement.{statement}
use Rattle.cow_cell.proofs.counted.Counted.get.Code as code

pub get_spec : {M : Type 1} → statement M
get_spec 𝓤 𝓛 𝓜 𝓡 wired X Y L _ g d _ =
    let H = 𝓛.H in let 𝓣 = tables 𝓤 H 𝓜 𝓡 𝓡.env in let R : RattleType = param 0 X in let Q : RattleType = param 1 Y in let En = ended X Y g d in let c = clauses X Y g d 𝓛 𝓜.mem 𝓡.returns in
    let inst = bounded (a_type ∷ a_type ∷ []) (X, (Y, tt)) (dcons d dnil) in let fn = inst_fn inst code.function in let s = g.name in let LR = param_laws 0 X L in
    let Row : RattleType = hand.the_row R Q g in let D : RattleType = HandleFields R Q g in let self = RefOf (0 ∷ []) tt (plain (λ _. Row)) (λ _. tt) in let hs : Stays En.signature.params En.kept = (stay_dropped self yes, tt) in
    proved 𝓛 En hs c 𝓜 𝓡 (Goes-dropped 𝓛 3 self yes (λ κs x f. refl), tt) (#self inst) fn (code.unfolded 𝓤 H 𝓜 𝓡 wired (X, (Y, tt)) d)
    (λ κs. (shr_vals, tt)) (λ κs. (shr_Tells (named 0) κs.0 Row, tt)) (λ κs qs bounds a gh are.
    let b : ℕ = a.0.ref_ptr.0 in let o : ℕ = a.0.ref_ptr.1 in let κ : Lft = κs.0 in let h : Row.Denot = a.0.now in let p : Ptr = h.at in let x : X.Denot = h.value in let others : Fml = fsep (flft κs.1.0 qs.1.0) (fsep (flft κs.1.1.0 qs.1.1.0) ftrue) in
    let pb : ℕ = block_of p in let po : ℕ = count_of p in let e : ℕ = po + offset R in let fields : D.Denot = to (hand.the_type R Q g) h in let Shares : Ptr → Fml = λ z. cell_shares R s h.alloc z h.alone x κ in
    let y : (walk_of 𝓛 En hs c).Ghost = ((κs, qs, bounds, a, (vptr b o ∷ [], tt)), gh) in let Post : Val → SProp 𝓤 = (walk_of 𝓛 En hs c).post y in
    qed 𝓛 (((‵ (flft κ qs.0) ⊛ ‵ others) ⊛ ‵ (owns (types_at En.signature.params κs) a y.0.4)) ∷ raw ((c κs a).requires gh) ∷ []) ∵
    split ! $ split ! $ move ! (2 ∷ []) $ fsplit ! $ fsplit ! $ keep ! (1 ∷ 3 ∷ 4 ∷ []) $
    enter ! 𝓣.C 𝓣.Λ fn (vptr b o ∷ []) Post $ alloc_all ! (λ l. pass_all ! refl ((tt, tt), tt) $ let Ev = env fn.locals l in
    use1 𝓛 (‵ (hidden_shr D κ fields b o) ⊛ ‵ (fhide (Shares p)))
    (lent_out 𝓛 (hand.struct R Q g) (hand.the_codes X.Denot Y.Denot R.coded Q.coded Heap.the_row.coded (marker.the_row Q).coded) (hand.the_heap R Q g) (hand.the_lent R Q g) κ h b o) $
    split ! $ move ! (1 ∷ []) $ unhide ! $
    use1 𝓛 (given (InBlock p) (‵ (Shares p))) (fact_use 𝓤 _ (shares_placed 𝓛 R s h.alloc p h.alone x κ) (guard_i 𝓤 (InBlock p) (sem 𝓛 (Shares p)))) $ learn ! (λ inb. let at : p ≡ block_ptr pb po = at_block p inb in
    rewrite ! 0 (λ (z : Ptr). ‵ (Shares z)) at refl $ use1 𝓛 (‵ (hidden_shr R κ x pb e)) (sees R s h.alloc pb po x 𝓛 LR.shr_laws h.alone κ) $ move ! (1 ∷ 2 ∷ []) $
    looks ! tt D (hand_opened R Q g 𝓛) fields b o (λ q vs. move ! (1 ∷ []) $ peeks ! D (Is D) (shows 𝓛 D) fields vs (λ is_so.
    let ev : vs ≡ hand_of (block_ptr pb po) ∷ [] = hand_told R Q g fields vs is_so ∙ ap (λ (r : Ptr). hand_of r ∷ []) at in
    rewrite ! 1 (λ (ws : List Val). ‵ (cell_at q D.mir ws b o)) ev refl $ first ! $ blocks ! $
    sets_last ! (addr ! (through ! refl (fld ! refl (hop ! (look_in ! 1 (sub ! 0 refl (whole !))) (fld ! refl (stop !)))))) refl (tt, tt) $ exec ! 𝓣.C 𝓣.Λ Ev (tail fn.body) (at_ret Ev Post) $
    sets ! (of_opd ! (get ! refl)) refl (tt, tt) $ rewrite ! 1 (λ (ws : List Val). ‵ (cell_at q D.mir ws b o)) (sym ev) refl $ move ! (1 ∷ 0 ∷ 2 ∷ []) $ shuts ! tt D q fields vs b o $
    move ! (0 ∷ 3 ∷ []) $ join ! $ move ! (2 ∷ []) $ feq_i ! (List Val) (vptr pb e ∷ []) (vptr pb e ∷ []) refl $ fjoin ! $
    use0 𝓛 (raw (fact 𝓤 (x ≡ x))) (fact_i 𝓤 (x ≡ x) (emp 𝓤) refl) $ nothing ! $ nothing ! $ fjoin ! $
    returns ! (look_at ! 0 refl) $ free_all ! refl $ keep ! (3 ∷ 0 ∷ 2 ∷ 1 ∷ []) $ by ! (leaves 𝓛 En hs c y (vptr pb e) (record { ref_ptr = (pb, e); now = x }) (tt, tt) (tt, tt)))))))
