-- The block of a raw box is alone, with one unit.
use Rattle.std.proofs.Common.{◌≡◌, ℕ, ◌+◌, ◌-◌, ◌<◌, true, List, [], ◌∷◌, refl, arith}
use mir.Syntax.{dcons, dnil, a_type, named}
use mir.Val.{Val, vptr}
use mir.MapTy.{inst_fn}
use base.Logic.{SProp, emp, guard_i}
use base.Fml.{Lft, Fml, ftrue, fsep, flft}
use types.Logic.{sem}
use types.Kit.{‵, raw, ◌⊛◌, given, ◌$◌, ◌∵◌, !, qed, by, move, keep, split, join, fsplit, fsplit3, fjoin, fjoin3, learn, use0, use1, use2, feq_i}
use types.Run.{stop, fld, of_opd, no_more, and_then, returns, enter}
use types.ByLocal.{alloc_all, pass_all, free_all, look_at, get, get_in, sets}
use types.Part.{agg, sub, whole}
use contract.Running.{tables}
use contract.Monad.{fact, fact_i, fact_use}
use denote.Exit.{no}
use denote.RattleType.{RattleType, owns}
use denote.Signature.{types_at, plain}
use denote.RawPtr.{Ptr, InBlock}
use denote.Steps.{nothing, opens, closes, heard}
use denote.Param.{param, layout, bounded}
use denote.Param.Laws.{param_laws}
use denote.Ref.{mut_vals, mut_Tells}
use denote.Triple.Walked.{Stays, stay_dropped, stay_ref, walk_of, Goes-dropped, Goes-ref}
use Rattle.core.proofs.atomic.Steps.{tail}
use Rattle.atomic_table.proofs.Walks.{proved, leaves}
use Rattle.cow_cell.specs.Stock.{units}
use Rattle.cow_cell.proofs.UnitSteps.{units_cut}
use Rattle.cow_cell.specs.contracts.units.Units as tokens
use denote.Struct.Owning.{to}
use denote.Struct.Members.{Member}
use Rattle.std_heap.specs.contracts.GlobalAllocator.TheImpl.{ghosts}
use Rattle.std_alloc.specs.Box.Ownership.{box_owns}
use Rattle.cow_cell.specs.Cell.{cell_owns}
use Rattle.cow_cell.specs.contracts.block.Block as block
use Rattle.cow_cell.specs.contracts.counted.Counted as hand
use Rattle.cow_cell.proofs.Blocks.{alone_made}
use Rattle.cow_cell.proofs.Fields.{hand_of, raw_box_of, HandleFields, hand_made, RawBox, raw_box_told, raw_box_typed, typed, box_placed}
use Rattle.cow_cell.specs.contracts.counted.Counted.of.{ended, clauses}
use Rattle.cow_cell.specs.contracts.counted.Counted.of.Key.{name as #self}
use Rattle.cow_cell.proofs.counted.Counted.of.Statement.{statement}
use Rattle.cow_cell.proofs.counted.Counted.of.Code as code

pub of_spec : {M : Type 1} → statement M
of_spec 𝓤 𝓛 𝓜 𝓡 wired X Y L _ g d _ =
    let H = 𝓛.H in let 𝓣 = tables 𝓤 H 𝓜 𝓡 𝓡.env in let R : RattleType = param 0 X in let Q : RattleType = param 1 Y in let En = ended X Y g d in let c = clauses X Y g d 𝓛 𝓜.mem 𝓡.returns in
    let inst = bounded (a_type ∷ a_type ∷ []) (X, (Y, tt)) (dcons d dnil) in let fn = inst_fn inst code.function in let s = g.name in
    let B : RattleType = block.the_row R in let Row : RattleType = hand.the_row R Q g in let Lo : RattleType = RawBox B in let Un : RattleType = tokens.the_row Q g in
    let lo = plain (λ _. Lo) in let un = plain (λ _. Un) in let hs : Stays En.signature.params En.kept = (stay_dropped lo no, (stay_ref (0 ∷ []) tt un, tt)) in
    proved 𝓛 En hs c 𝓜 𝓡 (Goes-dropped 𝓛 3 lo no (λ κs x f. refl), (Goes-ref 𝓛 3 0 tt un, tt)) (#self inst) fn (code.unfolded 𝓤 H 𝓜 𝓡 wired (X, (Y, tt)) d)
    (λ κs. ((λ x. raw_box_of x.at ∷ []), (mut_vals, tt))) (λ κs. ((λ x vs so. raw_box_told B x.at x.alloc vs so.0), (mut_Tells (named 0) κs.0 Un, tt))) (λ κs qs bounds a gh are.
    let b : ℕ = a.1.0.ref_ptr.0 in let o : ℕ = a.1.0.ref_ptr.1 in let κ : Lft = κs.0 in let u : Un.Denot = a.1.0.now in let k : ℕ = u.count in let p : Ptr = a.0.at in let alloc = a.0.alloc in let v : B.Denot = a.0.value in let x : X.Denot = v.value in
    let others : Fml = fsep (flft κs.1.0 qs.1.0) (fsep (flft κs.1.1.0 qs.1.1.0) ftrue) in let u' : Un.Denot = record u { count = k - 1 } in let new : Row.Denot = record { at = p; alloc = alloc; marker = record {}; value = x; alone = true } in
    let m : Member = record { row = R; ty = layout X } in let Box : Fml = box_owns (ghosts.dealloc_token alloc) B p v in
    let y : (walk_of 𝓛 En hs c).Ghost = ((κs, qs, bounds, a, (raw_box_of p ∷ [], (vptr b o ∷ [], tt))), gh) in let Post : Val → SProp 𝓤 = (walk_of 𝓛 En hs c).post y in
    let Asked : Type 0 = (v.count ≡ 1) × (0 < k) in let Told : Type 0 = (x ≡ x) × (true ≡ true) × ((k - 1) + 1 ≡ k) in
    qed 𝓛 (((‵ (flft κ qs.0) ⊛ ‵ others) ⊛ ‵ (owns (types_at En.signature.params κs) a y.0.4)) ∷ raw (fact 𝓤 _) ∷ raw (fact 𝓤 _) ∷ raw (fact 𝓤 Asked) ∷ []) ∵
    keep ! (3 ∷ 0 ∷ []) $ heard ! Asked (λ asked. let some_held = asked.1 in split ! $ split ! $ move ! (2 ∷ []) $ fsplit3 ! $ fsplit ! $ move ! (2 ∷ []) $ fsplit3 ! $ keep ! (4 ∷ 1 ∷ 2 ∷ 6 ∷ 7 ∷ []) $
    use1 𝓛 (given (InBlock p) (‵ Box)) (fact_use 𝓤 _ (box_placed 𝓛 R s alloc B p v) (guard_i 𝓤 (InBlock p) (sem 𝓛 Box))) $ learn ! (λ inb. move ! (1 ∷ 2 ∷ 3 ∷ []) $
    enter ! 𝓣.C 𝓣.Λ fn (raw_box_of p ∷ vptr b o ∷ []) Post $ alloc_all ! (λ l. pass_all ! refl (raw_box_typed p inb, ((tt, tt), tt)) $
    opens ! tt Un b o (λ us. move ! (1 ∷ []) $ fsplit ! $ move ! (1 ∷ []) $
    use1 𝓛 (‵ (units s 1) ⊛ ‵ (units s (k - 1))) (units_cut 𝓛 s k 1 (k - 1) (omega arith)) $ split ! $ move ! (2 ∷ 1 ∷ []) $ fjoin ! $ move ! (2 ∷ 0 ∷ 3 ∷ 4 ∷ 5 ∷ []) $ closes ! tt Un u' us b o $
    -- [two parts of units; the token; the unit; the box; the other tokens]
    feq_i ! (List Val) (vptr b o ∷ []) (vptr b o ∷ []) refl $ fjoin3 ! $ nothing ! $ move ! (1 ∷ 0 ∷ []) $ fjoin ! $ nothing ! $ fjoin ! $ move ! (1 ∷ 4 ∷ []) $ join ! $
    move ! (3 ∷ 2 ∷ []) $ use2 𝓛 (‵ (cell_owns R s alloc p true x)) (alone_made m 𝓛 ((param_laws 0 X L).lawful 𝓛) s alloc p v asked.0) $
    sets ! (of_opd ! (get_in ! (fld ! refl (stop !)) (sub ! 0 refl (whole !)))) refl (Rattle.core.proofs.atomic.Steps.Ptr-Good p) $ sets ! (of_opd ! (get_in ! (fld ! refl (stop !)) (sub ! 1 refl (whole !)))) refl (tt, ((tt, tt), tt)) $
    sets ! (agg ! (no_more !)) refl (tt, tt) $ sets ! (agg ! (and_then ! (get ! refl) (and_then ! (get ! refl) (and_then ! (get ! refl) (no_more !))))) refl (typed p inb) $
    use0 𝓛 (‵ ((HandleFields R Q g).own_val (to (hand.the_type R Q g) new) (hand_of p ∷ []))) (hand_made R Q g 𝓛 (to (hand.the_type R Q g) new)) $ fjoin ! $ use0 𝓛 (raw (fact 𝓤 Told)) (fact_i 𝓤 Told (emp 𝓤) (refl, refl, omega arith)) $
    returns ! (look_at ! 0 refl) $ free_all ! refl $ keep ! (2 ∷ 3 ∷ 1 ∷ 0 ∷ []) $ by ! (leaves 𝓛 En hs c y (hand_of p) new (tt, (u', tt)) (tt, (tt, tt))))))))
