-- The raw box is taken apart, `from_raw` has all that it asks, and its box is the one that was.
use Rattle.std.proofs.Common.{◌≡◌, List, [], ◌∷◌, ◌++◌, refl, sym, ap, subst}
use mir.Syntax.{a_type, dcons, dnil}
use mir.Val.{Val, vptr}
use mir.MapTy.{inst_fn}
use base.Logic.{SProp, ent, id⊢}
use base.Fml.{ftrue, flft}
use prog.Wp.{WpFn}
use types.Kit.{‵, raw, ◌⊛◌, some, later, at_ret, ◌$◌, ◌∵◌, !, qed, by, move, keep, drop, split, split3, join, fsplit, fjoin, pick, suffices, use1, await, rewrite, feq_i}
use types.Run.{stop, fld, of_opd, no_more, and_then, first, blocks, exec, returns, enter}
use types.ByLocal.{alloc_all, pass_all, free_all, look_at, get, get_in, sets, lands_last, env}
use types.Part.{sub, whole}
use contract.Monad.{fact}
use contract.BorrowLft.{◌⊑◌}
use contract.Running.{tables}
use denote.Exit.{no}
use denote.RattleType.{RattleType, owns}
use denote.Signature.{types_at, plain}
use denote.RawPtr.{block_ptr}
use denote.Steps.{nothing, only}
use denote.Param.{layout, bounded}
use denote.Triple.Clauses.{Lasts, lasts}
use denote.Triple.Spec.{triple_of}
use denote.Triple.Call.{calls_at_last}
use denote.Triple.Walked.{Stays, stay_dropped, walk_of}
use Rattle.core.proofs.alloc.Calls.{Goes-blank}
use Rattle.core.proofs.alloc.Shapes.{after}
use Rattle.core.proofs.atomic.Steps.{fm}
use Rattle.core.proofs.cell.Inside.{Good}
use Rattle.std_alloc.proofs.BoxSteps.Form as box
use Rattle.std_alloc.proofs.BoxSteps.Steps.{box_out, box_in}
use Rattle.std.proofs.raw_atomic.Walks.{proved_at, leaves}
use Rattle.cow_cell.proofs.RawBoxes.{Raw, boxed, box_of_raw}
use Rattle.std_alloc.specs.contracts.boxed.Box.from_raw as callee
use Rattle.std_alloc.proofs.boxed.Box.from_raw.Met.{met}
use Rattle.cow_cell.specs.contracts.raw_box.RawBox.into_box.{ended, clauses}
use Rattle.cow_cell.specs.contracts.raw_box.RawBox.into_box.Key.{name as #self}
use Rattle.cow_cell.proofs.raw_box.RawBox.into_box.Statement.{statement}
use Rattle.cow_cell.proofs.raw_box.RawBox.into_box.Code as code

pub into_box_spec : {M : Type 1} → statement M
into_box_spec 𝓤 𝓛 𝓜 𝓡 wired X Z L LZ g d dx dd met_of_alloc glue glued =
    let H = 𝓛.H in let 𝓣 = tables 𝓤 H 𝓜 𝓡 𝓡.env in let E : box.Bx = record { row = X; laws = L; al = record { row = Z; laws = LZ; g = g; d = d; drops = dd } } in
    let B : RattleType = box.B E in let From : RattleType = Raw E in let En = ended X Z g d dx dd in let Ce = callee.ended X Z g d dd in let c = clauses X Z g d dx dd 𝓛 𝓜.mem 𝓡.returns in
    let inst = bounded (a_type ∷ a_type ∷ []) (X, (Z, tt)) (dcons d (dcons dx (dcons dd dnil))) in let fn = inst_fn inst code.function in
    let self = plain (λ _. From) in let hs : Stays En.signature.params En.kept = (stay_dropped self no, tt) in
    let Again = triple_of 𝓛 (callee.signature X Z g d dd) (callee.spec X Z g d dd 𝓛 𝓜.mem 𝓡.returns) in
    let known = met 𝓤 𝓛 𝓜 𝓡 (code.calls-std_alloc::boxed::Box::from_raw 𝓡.env wired) X Z L LZ g d dd met_of_alloc glued in
    proved_at 𝓛 En hs c 𝓜 𝓡 (Goes-blank 𝓛 2 self no (λ κs x f. tt), tt) (#self inst) fn (code.unfolded 𝓤 H 𝓜 𝓡 wired (X, (Z, tt)) d dx dd) (λ y are.
    let κs = y.0.0 in let qs = y.0.1 in let from : From.Denot = y.0.3.0 in let vs : List Val = y.0.4.0 in let x : X.Denot = from.value in let alloc : Z.Denot = from.alloc in
    let Post : Val → SProp 𝓤 = (walk_of 𝓛 En hs c).post y in let Run : List Val → SProp 𝓤 = λ ws. WpFn 𝓤 H 𝓣.C 𝓣.Λ fn ws Post in
    let alive = ‵ (flft κs.0 qs.0) ⊛ ‵ (flft κs.1.0 qs.1.0) ⊛ ‵ ftrue in
    qed 𝓛 ((alive ⊛ ‵ (owns (types_at En.signature.params κs) y.0.3 y.0.4)) ∷ raw ((c κs y.0.3).requires y.1) ∷ []) ∵ split ! $ move ! (1 ∷ []) $ fsplit ! $
    use1 𝓛 (‵ (B.own_val (boxed E from) vs)) (box_of_raw E 𝓛 from vs) $ box_out E ! (boxed E from) vs (λ b o hv at one_word fits.
    -- [the value; the right to free it; the allocator; nothing; the tokens; what is asked]
    let w : Val = box.word E hv b o in let good = box.box_typed E hv b o fits in let q : Again.Ghost = ((κs, qs, tt, (alloc, (block_ptr b o, tt)), (hv ∷ [], (vptr b o ∷ [], tt))), x) in
    fjoin ! $ move ! (4 ∷ []) $ use1 𝓛 (raw (fact 𝓤 (κs.0 ⊑ X.lives)) ⊛ raw (fact 𝓤 (κs.1.0 ⊑ Z.lives)) ⊛ ‵ ftrue) (id⊢ 𝓤 _) $ split3 ! $ move ! (2 ∷ []) $ drop ! $
    -- [the lifetimes outlast their types, twice; the box; the allocator; nothing; the tokens]
    move ! (1 ∷ 2 ∷ []) $ join ! $ move ! (1 ∷ 0 ∷ []) $ join ! $ move ! (2 ∷ []) $ feq_i ! (List Val) (vptr b o ∷ []) (vptr b o ∷ []) refl $ fjoin ! $ move ! (2 ∷ 0 ∷ []) $ fjoin ! $
    move ! (2 ∷ 0 ∷ []) $ join ! $ join ! $ use1 𝓛 (raw (Again.pre q)) (id⊢ 𝓤 _) $
    suffices ! (Run (w ∷ [])) (subst (λ (ws : List Val). ent 𝓤 (Run (w ∷ [])) (Run ws)) (sym (λ i. one_word i ++ [])) (id⊢ 𝓤 (Run (w ∷ [])))) $
    enter ! 𝓣.C 𝓣.Λ fn (w ∷ []) Post $ alloc_all ! (λ l. pass_all ! refl (good, tt) $ let Ev = env fn.locals l in
    sets ! (of_opd ! (get_in ! (fld ! refl (stop !)) (sub ! 0 refl (whole !)))) refl (tt, tt) $ sets ! (of_opd ! (get_in ! (fld ! refl (stop !)) (sub ! 1 refl (whole !)))) refl fits $
    first ! $ blocks ! $ sets ! (of_opd ! (get ! refl)) refl fits $ calls_at_last ! (fm 𝓛 𝓜 𝓡) Again known q (and_then ! (get ! refl) (and_then ! (get ! refl) (no_more !))) (λ u.
    use1 𝓛 (later (some (λ (r : B.Denot). (alive ⊛ ‵ (B.own_val r (u ∷ []))) ⊛ some (λ (ls : Lasts Ce κs q.0.3). ‵ (lasts Ce κs q.0.3 ls) ⊛ (raw (fact 𝓤 (r.value ≡ x)) ⊛ raw (fact 𝓤 (r.alloc ≡ alloc))))))) (id⊢ 𝓤 (Again.post q u)) $
    await ! tt $ pick ! (λ r. split ! $ move ! (1 ∷ []) $ pick ! (λ _. split3 ! $ drop ! $ move ! (2 ∷ []) $ split ! $ move ! (1 ∷ []) $
    -- [the box; the tokens; its value is the one that was; its allocator is]
    box_out E ! r (u ∷ []) (λ b' o' hv' at' is_word fits'. box_in E ! r b' o' r.value at' refl $ rewrite ! 0 (λ (ws : List Val). ‵ (B.own_val r ws)) (sym is_word) refl $
    let good' : Good (layout B) u = subst (Good (layout B)) (sym (ap only is_word)) (box.box_typed E hv' b' o' fits') in
    lands_last ! refl good' $ exec ! 𝓣.C 𝓣.Λ Ev (after 3 fn.body) (at_ret Ev Post) $ sets ! (of_opd ! (get ! refl)) refl good' $
    nothing ! $ nothing ! $ fjoin ! $ returns ! (look_at ! 0 refl) $ free_all ! refl $ keep ! (2 ∷ 0 ∷ 1 ∷ 3 ∷ []) $ by ! (leaves 𝓛 En hs c y u r ((tt, (tt, tt)), tt) (tt, tt)))))))))
