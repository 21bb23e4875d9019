-- `into_raw_with_allocator` takes the box apart, and the raw box is made of what it gives.
use Rattle.std.proofs.Common.{◌≡◌, List, [], ◌∷◌, ◌++◌, refl, sym, ap, ◌∙◌, subst}
use mir.Syntax.{a_type, dcons, dnil}
use mir.Raw.{raw as bare}
use mir.Val.{Val, vstruct, of_list}
use mir.MapTy.{inst_fn}
use base.Logic.{SProp, ent, emp, never, id⊢, fst∗}
use base.Fml.{Fml, ftrue, fsep, flft}
use prog.Wp.{WpFn}
use types.Logic.{sem}
use types.Kit.{‵, raw, ◌⊛◌, some, later, ◌$◌, ◌∵◌, !, qed, by, move, keep, drop, split, split3, join, fsplit, fjoin, fpick, pick, suffices, use0, use1, await, rewrite, feq_l}
use types.Run.{stop, fld, of_opd, no_more, and_then, returns, enter}
use types.ByLocal.{alloc_all, pass_all, free_all, look_at, get, get_in, sets, lands_as}
use types.Part.{agg, sub, whole}
use contract.Monad.{fact, fact_i}
use contract.Running.{tables}
use denote.Exit.{no}
use denote.RattleType.{RattleType, owns}
use denote.Signature.{types_at, plain}
use denote.Builtin.{RawPtr}
use denote.RawPtr.{Ptr, block_ptr, null_ptr, ptr_val, in_a_block}
use denote.Steps.{nothing, only, heard}
use denote.Param.{layout, bounded}
use denote.Struct.Tuple.{Tuple}
use denote.Triple.Spec.{triple_of}
use denote.Triple.Call.{calls_at}
use denote.Triple.Walked.{Stays, stay_dropped, walk_of}
use Rattle.core.proofs.alloc.Calls.{Goes-blank, handle_tells}
use Rattle.core.proofs.atomic.Steps.{fm}
use Rattle.std_alloc.specs.Box.Ownership.{box_owns}
use Rattle.std_alloc.proofs.BoxSteps.Form as box
use Rattle.std_alloc.proofs.BoxSteps.Steps.{box_out, box_in}
use Rattle.std.proofs.raw_atomic.Walks.{proved_at, leaves}
use Rattle.cow_cell.proofs.RawBoxes.{Raw, boxed, raw_of_box}
use Rattle.std_alloc.specs.contracts.boxed.Box.into_raw_with_allocator as callee
use Rattle.std_alloc.proofs.boxed.Box.into_raw_with_allocator.Met.{met}
use Rattle.cow_cell.specs.contracts.raw_box.RawBox.from_box.{ended, clauses}
use Rattle.cow_cell.specs.contracts.raw_box.RawBox.from_box.Key.{name as #self}
use Rattle.cow_cell.proofs.raw_box.RawBox.from_box.Statement.{statement}
use Rattle.cow_cell.proofs.raw_box.RawBox.from_box.Code as code

pub from_box_spec : {M : Type 1} → statement M
from_box_spec 𝓤 𝓛 𝓜 𝓡 wired X Z L LZ g d dx dd met_of_alloc glue glued =
    let H = 𝓛.H in let 𝓣 = tables 𝓤 H 𝓜 𝓡 𝓡.env in let E : box.Bx = record { row = X; laws = L; al = record { row = Z; laws = LZ; g = g; d = d; drops = dd } } in
    let R : RattleType = box.R E in let P : RattleType = box.P E in let B : RattleType = box.B E in let Out : RattleType = Raw E in let Two : RattleType = Tuple (RawPtr ∷ P ∷ []) in
    let En = ended X Z g d dx dd in let c = clauses X Z g d dx dd 𝓛 𝓜.mem 𝓡.returns in
    let inst = bounded (a_type ∷ a_type ∷ []) (X, (Z, tt)) (dcons d (dcons dx (dcons dd dnil))) in let fn = inst_fn inst code.function in
    let given_box = plain (λ _. B) in let hs : Stays En.signature.params En.kept = (stay_dropped given_box no, tt) in
    let Apart = triple_of 𝓛 (callee.signature X Z g d dd dx) (callee.spec X Z g d dd dx 𝓛 𝓜.mem 𝓡.returns) in
    let known = met 𝓤 𝓛 𝓜 𝓡 (code.calls-std_alloc::boxed::Box::into_raw_with_allocator 𝓡.env wired) X Z L LZ g d dd dx met_of_alloc glued glue in
    proved_at 𝓛 En hs c 𝓜 𝓡 (Goes-blank 𝓛 2 given_box no (λ κs x f. tt), tt) (#self inst) fn (code.unfolded 𝓤 H 𝓜 𝓡 wired (X, (Z, tt)) d dx dd) (λ y are.
    let κs = y.0.0 in let qs = y.0.1 in let from : B.Denot = y.0.3.0 in let vs : List Val = y.0.4.0 in let x : X.Denot = from.value in let alloc : Z.Denot = from.alloc in let Kept : Type 0 = x ≡ x in
    let Post : Val → SProp 𝓤 = (walk_of 𝓛 En hs c).post y in let Run : List Val → SProp 𝓤 = λ ws. WpFn 𝓤 H 𝓣.C 𝓣.Λ fn ws Post in
    let alive = ‵ (flft κs.0 qs.0) ⊛ ‵ (flft κs.1.0 qs.1.0) ⊛ ‵ ftrue in let Owned : Ptr → Fml = λ p. box_owns (g.dealloc_token alloc) R p x in
    qed 𝓛 ((alive ⊛ ‵ (owns (types_at En.signature.params κs) y.0.3 y.0.4)) ∷ raw ((c κs y.0.3).requires y.1) ∷ []) ∵ split ! $ move ! (1 ∷ []) $ fsplit ! $
    box_out E ! from vs (λ b o hv at one_word fits. box_in E ! from b o x at refl $
    -- [the box; nothing; the tokens; what is asked]
    let w : Val = box.word E hv b o in let good = box.box_typed E hv b o fits in let q : Apart.Ghost = ((κs, qs, tt, (from, tt), (w ∷ [], tt)), tt) in
    fjoin ! $ move ! (1 ∷ 0 ∷ []) $ join ! $ join ! $ use1 𝓛 (raw (Apart.pre q)) (id⊢ 𝓤 _) $
    suffices ! (Run (w ∷ [])) (subst (λ (ws : List Val). ent 𝓤 (Run (w ∷ [])) (Run ws)) (sym (λ i. one_word i ++ [])) (id⊢ 𝓤 (Run (w ∷ [])))) $
    enter ! 𝓣.C 𝓣.Λ fn (w ∷ []) Post $ alloc_all ! (λ l. pass_all ! refl (good, tt) $ sets ! (of_opd ! (get ! refl)) refl good $
    calls_at ! (fm 𝓛 𝓜 𝓡) Apart known q (and_then ! (get ! refl) (no_more !)) (λ u.
    use1 𝓛 (later (some (λ (r : Ptr × Z.Denot). (alive ⊛ ‵ (Two.own_val r (u ∷ []))) ⊛ some (λ (_ : (Unit {0} × (Unit {0} × Unit {0})) × Unit {0}). ‵ (fsep (fsep ftrue (fsep ftrue ftrue)) ftrue) ⊛ (raw (fact 𝓤 (r.1 ≡ alloc)) ⊛ ‵ (Owned r.0)))))) (id⊢ 𝓤 _) $
    await ! tt $ pick ! (λ r. split ! $ move ! (1 ∷ []) $ pick ! (λ _. split3 ! $ drop ! $ heard ! (r.1 ≡ alloc) (λ same.
    -- [what the box owned; the tokens with the pair]
    in_a_block ! r.0 Owned (fst∗ 𝓤 (never 𝓤) (sem 𝓛 (g.dealloc_token alloc (bare (layout X)) null_ptr))) (λ b' o' at'.
    move ! (1 ∷ []) $ split ! $ move ! (1 ∷ []) $ fpick ! (λ words. fsplit ! $ feq_l ! (λ is_pair. fsplit ! $ feq_l ! (λ is_ptr. fsplit ! $
    rewrite ! 0 (λ (s : Z.Denot). ‵ (Z.own_val s words.1.0)) same refl $ handle_tells E.al ! alloc words.1.0 (λ hv' is_alloc fits'.
    -- [the allocator; nothing; the tokens; what the box owned]
    let out : Out.Denot = record { at = block_ptr b' o'; alloc = alloc; value = x } in let w' : Val = box.word E hv' b' o' in let good' = box.box_typed E hv' b' o' fits' in
    lands_as ! (ap only (is_pair ∙ (λ j. vstruct (of_list ((is_ptr ∙ ap (λ (p : Ptr). ptr_val p ∷ []) at') j ++ (is_alloc j ++ []))) ∷ []))) refl good' $
    sets ! (of_opd ! (get_in ! (fld ! refl (stop !)) (sub ! 0 refl (whole !)))) refl (tt, tt) $ sets ! (of_opd ! (get_in ! (fld ! refl (stop !)) (sub ! 1 refl (whole !)))) refl fits' $
    sets ! (of_opd ! (get ! refl)) refl fits' $ sets ! (agg ! (and_then ! (get ! refl) (and_then ! (get ! refl) (no_more !)))) refl good' $
    move ! (3 ∷ 0 ∷ []) $ fsplit ! $ box_in E ! (boxed E out) b' o' x refl refl $ use1 𝓛 (‵ (Out.own_val out (w' ∷ []))) (raw_of_box E 𝓛 out (w' ∷ [])) $
    use0 𝓛 (raw (fact 𝓤 Kept)) (fact_i 𝓤 Kept (emp 𝓤) refl) $ nothing ! $ nothing ! $ fjoin ! $
    returns ! (look_at ! 0 refl) $ free_all ! refl $ keep ! (4 ∷ 0 ∷ 2 ∷ 1 ∷ []) $ by ! (leaves 𝓛 En hs c y w' out ((tt, (tt, tt)), tt) (tt, tt))))))))))))))
