-- An alone handle lends its value, with no step. Assumes `Logic`.
use Rattle.std.proofs.Common.{◌≡◌, ℕ, ◌+◌, Bool, true, List, [], ◌∷◌, sym, refl, ap, ◌∙◌, MutBor}
use mir.Syntax.{dcons, dnil, a_type, named}
use mir.Val.{Val, vptr}
use mir.MapTy.{inst_fn}
use base.Fraction.{full_share}
use base.Logic.{SProp, ent, sep, emp, guard_i}
use base.Fml.{Lft, GName, Share, Fml, ftrue, fsep, flft}
use types.Logic.{sem}
use types.Kit.{‵, raw, ◌⊛◌, some, given, later, at_ret, ◌$◌, ◌∵◌, !, qed, by, move, keep, split, split3, join, group, fsplit, fsplit3, fjoin, fjoin3, fpack, pick, learn, use0, use1, await, rewrite, done}
use types.Run.{stop, fld, load, addr, of_opd, first, blocks, exec, returns, enter}
use types.ByLocal.{alloc_all, pass_all, free_all, look_at, get, through, sets, sets_last, env}
use types.Part.{sub, whole, look_in}
use contract.Running.{tables}
use contract.Monad.{fact, fact_i, fact_use}
use denote.Exit.{no}
use denote.RattleType.{RattleType, owns}
use denote.Signature.{types_at, plain, mut_ref_to}
use denote.RawPtr.{Ptr, InBlock, block_ptr, block_of, count_of, at_block}
use denote.Steps.{heard, nothing, opens, peeks}
use denote.Laws.{Is, shows}
use denote.Memory.{mem, part_of, cell_at}
use denote.Param.{param, bounded}
use denote.Ref.{MutRef, mut_vals, mut_Tells}
use denote.Triple.Walked.{Stays, stay_dropped, walk_of, Goes-spent_ref}
use Rattle.core.proofs.atomic.Steps.{tail}
use Rattle.atomic_table.proofs.Walks.{proved, leaves}
use Rattle.cow_cell.specs.Stock.{units}
use denote.Struct.Owning.{to}
use Rattle.cow_cell.specs.Cell.{offset, value_at, cell_owns}
use Rattle.cow_cell.specs.contracts.counted.Counted as hand
use Rattle.cow_cell.proofs.Fields.{hand_of, HandleFields, hand_told, owns_placed}
use Rattle.cow_cell.specs.contracts.counted.Counted.only.{ended, clauses}
use Rattle.cow_cell.specs.contracts.counted.Counted.only.Key.{name as #self}
use Rattle.cow_cell.proofs.counted.Counted.only.Statement.{statement}
use Rattle.cow_cell.proofs.counted.Counted.only.Code as code
use denote.Follow.{follows, lends_Part}
use Rattle.cow_cell.specs.Cell.{frees, joins}
use Rattle.cow_cell.specs.Follows.{written}
use Rattle.core.specs.Sync.RawAtomic.{word}

pub only_spec : {M : Type 1} → statement M
unfolding part_of
only_spec 𝓤 𝓛 𝓜 𝓡 wired X Y L _ g d _ =
    let H = 𝓛.H in let 𝓣 = tables 𝓤 H 𝓜 𝓡 𝓡.env in let R : RattleType = param 0 X in let Q : RattleType = param 1 Y in let En = ended X Y g d in let c = clauses X Y g d 𝓛 𝓜.mem 𝓡.returns in
    let inst = bounded (a_type ∷ a_type ∷ []) (X, (Y, tt)) (dcons d dnil) in let fn = inst_fn inst code.function in let s = g.name in
    let Row : RattleType = hand.the_row R Q g in let D : RattleType = HandleFields R Q g in
    let row = plain (λ _. Row) in let self = mut_ref_to (0 ∷ []) tt row in let hs : Stays En.signature.params En.kept = (stay_dropped self no, tt) in
    proved 𝓛 En hs c 𝓜 𝓡 (Goes-spent_ref 𝓛 3 (0 ∷ []) tt row, tt) (#self inst) fn (code.unfolded 𝓤 H 𝓜 𝓡 wired (X, (Y, tt)) d)
    (λ κs. (mut_vals, tt)) (λ κs. (mut_Tells (named 0) κs.0 Row, tt)) (λ κs qs bounds a gh are.
    let b : ℕ = a.0.ref_ptr.0 in let o : ℕ = a.0.ref_ptr.1 in let κ : Lft = κs.0 in let κq : Share = qs.0 in let γ : GName = a.0.ghost_name in let h : Row.Denot = a.0.now in let p : Ptr = h.at in let alloc = h.alloc in let x : X.Denot = h.value in let fields : D.Denot = to (hand.the_type R Q g) h in
    let others : Fml = fsep (flft κs.1.0 qs.1.0) (fsep (flft κs.1.1.0 qs.1.1.0) ftrue) in let pb : ℕ = block_of p in let po : ℕ = count_of p in let there : ℕ = po + offset R in
    let Own : Ptr → Fml = λ z. cell_owns R s alloc z h.alone x in let Lent : RattleType = MutRef (named 0) κ R in let Asked : Type 0 = h.alone ≡ true in let Ens : Type 0 = x ≡ x in
    let y : (walk_of 𝓛 En hs c).Ghost = ((κs, qs, bounds, a, (vptr b o ∷ [], tt)), gh) in let Post : Val → SProp 𝓤 = (walk_of 𝓛 En hs c).post y in
    qed 𝓛 (((‵ (flft κ κq) ⊛ ‵ others) ⊛ ‵ (owns (types_at En.signature.params κs) a y.0.4)) ∷ raw (fact 𝓤 _) ∷ raw (fact 𝓤 _) ∷ raw (fact 𝓤 Asked) ∷ []) ∵
    keep ! (3 ∷ 0 ∷ []) $ heard ! Asked (λ asked. split ! $ split ! $ move ! (2 ∷ []) $ fsplit ! $ fsplit3 ! $ keep ! (1 ∷ 2 ∷ 4 ∷ 5 ∷ []) $
    enter ! 𝓣.C 𝓣.Λ fn (vptr b o ∷ []) Post $ alloc_all ! (λ l. pass_all ! refl ((tt, tt), tt) $ let Ev = env fn.locals l in
    opens ! tt Row b o (λ vs. move ! (1 ∷ []) $ fsplit ! $ peeks ! D (Is D) (shows 𝓛 D) fields vs (λ shaped. move ! (1 ∷ []) $
    use1 𝓛 (given (InBlock p) (‵ (Own p))) (fact_use 𝓤 _ (owns_placed 𝓛 R s alloc p h.alone x) (guard_i 𝓤 (InBlock p) (sem 𝓛 (Own p)))) $ learn ! (λ inb. let at : p ≡ block_ptr pb po = at_block p inb in
    let ev : vs ≡ hand_of (block_ptr pb po) ∷ [] = hand_told R Q g fields vs shaped ∙ ap (λ (r : Ptr). hand_of r ∷ []) at in
    rewrite ! 0 (λ (z : Ptr × Bool). ‵ (cell_owns R s alloc z.0 z.1 x)) (λ i. (at i, asked i)) refl $ rewrite ! 2 (λ (ws : List Val). ‵ (cell_at full_share Row.mir ws b o)) ev refl $
    -- [the handle; the fields; the cell; the open borrow; the names; the others]
    sets ! (of_opd ! (load ! (through ! refl (fld ! refl (stop !))) (look_in ! 2 (sub ! 0 refl (whole !))))) refl (tt, tt) $
    let at_there : Val = vptr pb there in let rest : Fml = fsep (frees R s alloc pb po) (joins R s alloc pb po) in
    let Rest : Fml = fsep rest (fsep (word pb (po + 0) 1) (fsep (units s 1) (fsep (D.own_val fields vs) (cell_at full_share Row.mir vs b o)))) in
    let back : (w : X.Denot) → ent 𝓤 (sep 𝓤 (sem 𝓛 ((mem R).own_at w pb there)) (sem 𝓛 Rest)) (sem 𝓛 ((mem Row).own_at (written h w) b o)) = λ w.
    qed 𝓛 (‵ (value_at R s alloc pb po w) ∷ ‵ Rest ∷ []) ∵ move ! (1 ∷ []) $ fsplit3 ! $ move ! (2 ∷ []) $ fsplit3 ! $ move ! (5 ∷ 3 ∷ []) $ fjoin ! $ move ! (0 ∷ 4 ∷ 1 ∷ []) $ fjoin3 ! $
    rewrite ! 0 (λ (z : Ptr). ‵ (cell_owns R s alloc z true w)) {x = p} {y = block_ptr pb po} (sym at) refl $ move ! (1 ∷ 0 ∷ []) $ fjoin ! $ move ! (1 ∷ 0 ∷ []) $ fjoin ! $
    fpack ! (List Val) (λ zs. fsep (cell_at full_share Row.mir zs b o) (Row.own_val (written h w) zs)) vs $ done ! in
    first ! $ blocks ! $ sets_last ! (addr ! (through ! refl (fld ! refl (stop !)))) refl (tt, tt) $
    exec ! 𝓣.C 𝓣.Λ Ev (tail (tail fn.body)) (at_ret Ev Post) $ sets ! (of_opd ! (get ! refl)) refl (tt, tt) $
    rewrite ! 2 (λ (ws : List Val). ‵ (cell_at full_share Row.mir ws b o)) (sym ev) refl $ fsplit3 ! $ fsplit ! $
    -- [the value; what frees the block; the count; the unit; the fields; the cell; the open borrow; the names; the others]
    move ! (4 ∷ 5 ∷ []) $ fjoin ! $ move ! (3 ∷ 4 ∷ 0 ∷ []) $ fjoin3 ! $ move ! (2 ∷ 0 ∷ []) $ fjoin ! $ move ! (2 ∷ 3 ∷ 4 ∷ 1 ∷ 0 ∷ []) $ group ! 5 $
    use1 𝓛 (later (some (λ (γ' : GName). ‵ (Lent.own_val (record { ref_ptr = (pb, there); ghost_name = γ'; now = x }) (at_there ∷ [])) ⊛ ‵ (flft κ κq) ⊛ ‵ (follows Row R γ γ' (written h)))))
    (lends_Part 𝓛 Row R (written h) (named 0) κ κq b o pb there γ (sem 𝓛 Rest) back (Row.coded.code h) (Row.coded.code h) x) $ await ! tt $ pick ! (λ γ'.
    let z : MutBor X.Denot = record { ref_ptr = (pb, there); ghost_name = γ'; now = x } in
    split3 ! $ move ! (1 ∷ 3 ∷ []) $ join ! $ move ! (2 ∷ []) $ use0 𝓛 (raw (fact 𝓤 Ens)) (fact_i 𝓤 Ens (emp 𝓤) refl) $ move ! (1 ∷ 0 ∷ []) $ join ! $ nothing ! $ nothing ! $ fjoin ! $
    returns ! (look_at ! 0 refl) $ free_all ! refl $ keep ! (2 ∷ 0 ∷ 3 ∷ 1 ∷ []) $ by ! (leaves 𝓛 En hs c y at_there z (tt, tt) (tt, tt)))))))))
