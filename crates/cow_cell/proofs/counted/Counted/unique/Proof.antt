-- One load. A sole handle lends its value.
use Rattle.std.proofs.Common.{◌≡◌, ◌≢◌, ℕ, ◌+◌, ◌^◌, ◌<◌, T, Bool, true, false, List, [], ◌∷◌, sym, refl, ap, ◌∙◌, subst, lit<, MutBor, Some, None}
use mir.Syntax.{dcons, dnil, a_type, named}
use mir.Val.{Val, vptr, vcons, vnil}
use mir.MapTy.{inst_fn}
use base.Fraction.{full_share}
use base.Logic.{SProp, ent, sep, emp, via, guard_i}
use base.Fml.{Lft, GName, Share, Fml, ftrue, fsep, flft, fres}
use types.Logic.{sem}
use types.Kit.{‵, raw, ◌⊛◌, some, given, later, mean, at_ret, ◌$◌, ◌∵◌, !, qed, by, move, keep, drop, split, split3, join, group, fsplit, fsplit3, fjoin, fjoin3, fpick, fpack, pick, learn, use0, use1, use2, await, rewrite, feq_i, done}
use types.Run.{stop, fld, load, addr, lit, of_opd, bin, no_more, and_then, first, blocks, skips, branches, exec, Calls-last, returns, returns_within, enter}
use types.ByLocal.{alloc_all, pass_all, free_all, look_at, get, through, sets, sets_last, lands_last, env}
use types.Match.{live}
use types.Part.{agg, sub, whole, look_in}
use contract.Running.{tables}
use contract.Monad.{fact, fact_i, fact_use}
use denote.Exit.{no}
use denote.RattleType.{RattleType, owns}
use denote.Signature.{types_at, plain, mut_ref_to}
use denote.RawPtr.{Ptr, InBlock, block_ptr, block_of, count_of, at_block}
use denote.Steps.{nothing, opens, closes, peeks}
use denote.Laws.{Is, shows}
use denote.Memory.{mem, part_of, cell_at}
use denote.Param.{param, bounded}
use denote.Ref.{MutRef, mut_vals, mut_Tells}
use denote.Triple.Walked.{Stays, stay_dropped, stay_ref, walk_of, Goes-ref, Goes-spent_ref}
use Rattle.core.proofs.atomic.Steps.{tail}
use Rattle.atomic_table.proofs.Walks.{proved, leaves}
use Rattle.atomic_table.proofs.Calls.{fm, seq_cst, found, finds, loads}
use Rattle.cow_cell.specs.Stock.{units}
use Rattle.cow_cell.specs.contracts.units.Units as tokens
use denote.Struct.Owning.{to}
use Rattle.cow_cell.specs.Cell.{offset, value_at, body, owns_counted, cell_owns}
use Rattle.cow_cell.specs.contracts.counted.Counted as hand
use Rattle.cow_cell.proofs.Fields.{hand_of, HandleFields, hand_told, owns_placed}
use Rattle.cow_cell.proofs.CountSteps.{got_back, Sole, after_test, tests}
use Rattle.cow_cell.specs.contracts.counted.Counted.unique.{ended, clauses}
use Rattle.cow_cell.specs.contracts.counted.Counted.unique.Key.{name as #self}
use Rattle.cow_cell.proofs.counted.Counted.unique.Statement.{statement}
use Rattle.cow_cell.proofs.counted.Counted.unique.Code as code
use base.Logic.{all_e}
use Rattle.std.specs.Prelude.{IfSome, IsSome, IsNone}
use Rattle.core.specs.contracts.option.Option as Opt
use Rattle.std_alloc.proofs.RcSteps.{is_not, is_so, Some-of, none_of}
use denote.Follow.{follows, follows_by, lends_Part}
use Rattle.cow_cell.specs.Cell.{frees, joins}
use Rattle.cow_cell.specs.Follows.{written}
use Rattle.core.specs.Sync.RawAtomic.{word}

not_true : (y : Bool) → (y ≡ true → ⊥) → y ≡ false
not_true true h = absurd (h refl)
not_true false h = refl

pub unique_spec : {M : Type 1} → statement M
unfolding part_of follows_by
unique_spec 𝓤 𝓛 𝓜 𝓡 wired X Y L _ g d _ =
    let H = 𝓛.H in let 𝓣 = tables 𝓤 H 𝓜 𝓡 𝓡.env in let R : RattleType = param 0 X in let Q : RattleType = param 1 Y in let En = ended X Y g d in let c = clauses X Y g d 𝓛 𝓜.mem 𝓡.returns in
    let inst = bounded (a_type ∷ a_type ∷ []) (X, (Y, tt)) (dcons d dnil) in let fn = inst_fn inst code.function in let s = g.name in
    let Row : RattleType = hand.the_row R Q g in let D : RattleType = HandleFields R Q g in let Un : RattleType = tokens.the_row Q g in
    let row = plain (λ _. Row) in let self = mut_ref_to (0 ∷ []) tt row in let un = plain (λ _. Un) in let hs : Stays En.signature.params En.kept = (stay_dropped self no, (stay_ref (1 ∷ []) tt un, tt)) in
    proved 𝓛 En hs c 𝓜 𝓡 (Goes-spent_ref 𝓛 4 (0 ∷ []) tt row, (Goes-ref 𝓛 4 1 tt un, tt)) (#self inst) fn (code.unfolded 𝓤 H 𝓜 𝓡 wired (X, (Y, tt)) d)
    (λ κs. (mut_vals, (mut_vals, tt))) (λ κs. (mut_Tells (named 0) κs.0 Row, (mut_Tells (named 1) κs.1.0 Un, tt))) (λ κs qs bounds a gh are.
    let b : ℕ = a.0.ref_ptr.0 in let o : ℕ = a.0.ref_ptr.1 in let κ : Lft = κs.0 in let κq : Share = qs.0 in let γ : GName = a.0.ghost_name in let h : Row.Denot = a.0.now in let p : Ptr = h.at in let alloc = h.alloc in let x : X.Denot = h.value in let fields : D.Denot = to (hand.the_type R Q g) h in
    let bu : ℕ = a.1.0.ref_ptr.0 in let ou : ℕ = a.1.0.ref_ptr.1 in let ν : Lft = κs.1.0 in let u : Un.Denot = a.1.0.now in let k : ℕ = u.count in
    let others : Fml = fsep (flft κs.1.1.0 qs.1.1.0) (fsep (flft κs.1.1.1.0 qs.1.1.1.0) ftrue) in let pb : ℕ = block_of p in let po : ℕ = count_of p in let there : ℕ = po + offset R in
    let Own : Ptr → Fml = λ z. cell_owns R s alloc z h.alone x in let after : ℕ → Fml = after_test 𝓛 R s alloc pb po x k h.alone in let Lent : RattleType = MutRef (named 0) κ R in
    let y : (walk_of 𝓛 En hs c).Ghost = ((κs, qs, bounds, a, (vptr b o ∷ [], (vptr bu ou ∷ [], tt))), gh) in let Post : Val → SProp 𝓤 = (walk_of 𝓛 En hs c).post y in
    qed 𝓛 (((‵ (flft κ κq) ⊛ ‵ (flft ν qs.1.0) ⊛ ‵ others) ⊛ ‵ (owns (types_at En.signature.params κs) a y.0.4)) ∷ raw ((c κs a).requires gh) ∷ []) ∵
    keep ! (0 ∷ []) $ split ! $ split3 ! $ move ! (3 ∷ []) $ fsplit3 ! $ fsplit3 ! $ move ! (3 ∷ []) $ fsplit3 ! $ keep ! (4 ∷ 5 ∷ 7 ∷ 1 ∷ 2 ∷ 8 ∷ 9 ∷ []) $
    enter ! 𝓣.C 𝓣.Λ fn (vptr b o ∷ vptr bu ou ∷ []) Post $ alloc_all ! (λ l. pass_all ! refl ((tt, tt), ((tt, tt), tt)) $ let Ev = env fn.locals l in
    opens ! tt Row b o (λ vs. move ! (1 ∷ []) $ fsplit ! $ peeks ! D (Is D) (shows 𝓛 D) fields vs (λ shaped. move ! (1 ∷ []) $
    use1 𝓛 (given (InBlock p) (‵ (Own p))) (fact_use 𝓤 _ (owns_placed 𝓛 R s alloc p h.alone x) (guard_i 𝓤 (InBlock p) (sem 𝓛 (Own p)))) $ learn ! (λ inb. let at : p ≡ block_ptr pb po = at_block p inb in
    let ev : vs ≡ hand_of (block_ptr pb po) ∷ [] = hand_told R Q g fields vs shaped ∙ ap (λ (r : Ptr). hand_of r ∷ []) at in
    rewrite ! 0 (λ (z : Ptr). ‵ (Own z)) at refl $ rewrite ! 2 (λ (ws : List Val). ‵ (cell_at full_share Row.mir ws b o)) ev refl $
    -- [the handle; the fields; the cell; the open borrow; the names; units, in two parts; its token; the others]
    sets ! (of_opd ! (load ! (through ! refl (fld ! refl (stop !))) (look_in ! 2 (sub ! 0 refl (whole !))))) refl (tt, tt) $
    move ! (6 ∷ 7 ∷ 8 ∷ []) $ opens ! tt Un bu ou (λ us. move ! (1 ∷ []) $ fsplit ! $ move ! (1 ∷ []) $ move ! (6 ∷ 0 ∷ []) $
    use2 𝓛 (raw (𝓣.C _ (vptr pb (po + 0) ∷ seq_cst ∷ []) (λ r. mean 𝓛 (found after r))))
    (via 𝓤 _ (tests 𝓛 R s alloc pb po x k h.alone) (loads 𝓛 𝓜 𝓡 (code.calls-core::raw_atomic::load 𝓡.env wired) (block_ptr pb (po + 0)) after)) $
    first ! $ blocks ! $ sets ! (addr ! (through ! refl (fld ! refl (stop !)))) refl (tt, tt) $ sets ! (agg ! (and_then ! (lit ! tt) (no_more !))) refl (tt, (record { fits = lit< tt }, tt)) $
    Calls-last ! (fm 𝓛 𝓜 𝓡) (found after) (and_then ! (get ! refl) (and_then ! (get ! refl) (no_more !))) (λ r. finds ! after (λ n fits.
    lands_last ! refl (tt, record { fits = fits }) $ exec ! 𝓣.C 𝓣.Λ Ev (tail (tail fn.body)) (at_ret Ev Post) $ sets ! (of_opd ! (get ! refl)) refl (tt, record { fits = fits }) $
    fsplit3 ! $ move ! (2 ∷ []) $ fsplit ! $ move ! (1 ∷ []) $ fpick ! (λ told. drop ! $
    -- [where others are; the units; where none is; units' field, cell, open borrow and names; the fields; the cell; the open borrow; the names; the others]
    move ! (3 ∷ 1 ∷ []) $ fjoin ! $ move ! (3 ∷ 0 ∷ 4 ∷ 5 ∷ 6 ∷ []) $ closes ! tt Un u us bu ou $
    feq_i ! (List Val) (vptr bu ou ∷ []) (vptr bu ou ∷ []) refl $ fjoin3 ! $ nothing ! $ move ! (1 ∷ 0 ∷ []) $ fjoin ! $ nothing ! $ fjoin ! $ move ! (1 ∷ 9 ∷ []) $ join ! $
    rewrite ! 5 (λ (ws : List Val). ‵ (cell_at full_share Row.mir ws b o)) (sym ev) refl $
    -- [two tokens and the others; units; where others are; where none is; the fields; the cell; the open borrow; the names]
    sets ! (bin ! (get ! refl) (lit ! tt) tt) refl (tt, tt) $ first ! $ branches ! (get ! refl)
    (λ other. let many = is_not n 1 other in let isf : h.alone ≡ false = not_true h.alone (λ al. many (told.0 al)) in let Q₀ : Fml = owns_counted R s alloc pb po x in
    let Ens : Type 0 = (k ≡ k) × IfSome None (λ (z : Lent.Denot). z.now ≡ x) × (h.alone ≡ true → IsSome {T = Lent.Denot} None) × (IsNone {T = Lent.Denot} None → k + 1 < 2 ^ 62) × (k < 2 ^ 62) in
    sets ! (agg ! (and_then ! (lit ! tt) (no_more !))) refl (tt, (record { fits = lit< tt }, tt)) $
    move ! (2 ∷ []) $ use1 𝓛 (‵ Q₀) (all_e 𝓤 (λ (_ : n ≢ 1). sem 𝓛 Q₀) many) $
    rewrite ! 0 (λ (z : Ptr × Bool). ‵ (cell_owns R s alloc z.0 z.1 x)) {x = (p, h.alone)} {y = (block_ptr pb po, false)} (λ i. (sym at i, sym isf i)) refl $
    move ! (4 ∷ 0 ∷ []) $ fjoin ! $ move ! (4 ∷ 0 ∷ 5 ∷ 6 ∷ 7 ∷ []) $ closes ! tt Row h vs b o $ use1 𝓛 (‵ (fres γ (Row.coded.code h))) (𝓛.names.obs-res γ (Row.coded.code h)) $ move ! (2 ∷ 3 ∷ []) $ join ! $
    use0 𝓛 (‵ ((Opt.the_row Lent).own_val None (live 0 vnil ∷ []))) (none_of 𝓛 Lent) $ use0 𝓛 (raw (fact 𝓤 Ens)) (fact_i 𝓤 Ens (emp 𝓤) (refl, tt, (λ al. absurd (many (told.0 al))), (λ _. told.1 many), told.2)) $ move ! (3 ∷ 0 ∷ []) $ join ! $
    returns_within ! Post refl (look_at ! 0 refl) $ free_all ! refl $ keep ! (2 ∷ 4 ∷ 1 ∷ 0 ∷ []) $ by ! (leaves 𝓛 En hs c y (live 0 vnil) None (tt, (u, tt)) (tt, (tt, tt))))
    (λ last. let one_left : n ≡ 1 = is_so n 1 last in let S : Fml = Sole 𝓛 R s alloc pb po x k in let at_there : Val = vptr pb there in let rest : Fml = fsep (frees R s alloc pb po) (joins R s alloc pb po) in
    let Rest : Fml = fsep rest (fsep (word pb (po + 0) 1) (fsep (units s 1) (fsep (D.own_val fields vs) (cell_at full_share Row.mir vs b o)))) in
    let back : (w : X.Denot) → ent 𝓤 (sep 𝓤 (sem 𝓛 ((mem R).own_at w pb there)) (sem 𝓛 Rest)) (sem 𝓛 ((mem Row).own_at (written h w) b o)) = λ w.
    qed 𝓛 (‵ (value_at R s alloc pb po w) ∷ ‵ Rest ∷ []) ∵ move ! (1 ∷ []) $ fsplit3 ! $ move ! (2 ∷ []) $ fsplit3 ! $ move ! (5 ∷ 3 ∷ []) $ fjoin ! $ move ! (0 ∷ 4 ∷ 1 ∷ []) $ fjoin3 ! $
    rewrite ! 0 (λ (z : Ptr). ‵ (cell_owns R s alloc z true w)) {x = p} {y = block_ptr pb po} (sym at) refl $ move ! (1 ∷ 0 ∷ []) $ fjoin ! $ move ! (1 ∷ 0 ∷ []) $ fjoin ! $
    fpack ! (List Val) (λ zs. fsep (cell_at full_share Row.mir zs b o) (Row.own_val (written h w) zs)) vs $ done ! in
    skips ! $ exec ! 𝓣.C 𝓣.Λ Ev (tail (tail (tail (tail (tail fn.body))))) (at_ret Ev Post) $
    move ! (3 ∷ []) $ use1 𝓛 (‵ S) (all_e 𝓤 (λ (_ : n ≡ 1). sem 𝓛 S) one_left) $ fsplit3 ! $ move ! (2 ∷ []) $ use1 𝓛 (later (‵ (body R s alloc pb po x))) (got_back 𝓛 R s alloc pb po x) $ await ! tt $ fsplit ! $
    -- [the value; what frees the block; the count; the unit; two tokens and the others; units; where others are; the fields; the cell; the open borrow; the names]
    first ! $ blocks ! $ sets ! (addr ! (through ! refl (fld ! refl (stop !)))) refl (tt, tt) $
    sets_last ! (agg ! (and_then ! (lit ! tt) (and_then ! (get ! refl) (no_more !)))) refl (tt, (record { fits = lit< tt }, (tt, tt))) $
    exec ! 𝓣.C 𝓣.Λ Ev (tail (tail (tail (tail (tail (tail fn.body)))))) (at_ret Ev Post) $ sets ! (of_opd ! (get ! refl)) refl (tt, (record { fits = lit< tt }, (tt, tt))) $
    move ! (7 ∷ 8 ∷ []) $ fjoin ! $ move ! (3 ∷ 4 ∷ 0 ∷ []) $ fjoin3 ! $ move ! (2 ∷ 0 ∷ []) $ fjoin ! $ move ! (5 ∷ 6 ∷ 7 ∷ 1 ∷ 0 ∷ []) $ group ! 5 $
    use1 𝓛 (later (some (λ (γ' : GName). ‵ (Lent.own_val (record { ref_ptr = (pb, there); ghost_name = γ'; now = x }) (at_there ∷ [])) ⊛ ‵ (flft κ κq) ⊛ ‵ (follows Row R γ γ' (written h)))))
    (lends_Part 𝓛 Row R (written h) (named 0) κ κq b o pb there γ (sem 𝓛 Rest) back (Row.coded.code h) (Row.coded.code h) x) $ await ! tt $ pick ! (λ γ'.
    let z : MutBor X.Denot = record { ref_ptr = (pb, there); ghost_name = γ'; now = x } in let Ens : Type 0 = (k ≡ k) × (x ≡ x) × (h.alone ≡ true → IsSome (Some z)) × (IsNone (Some z) → k + 1 < 2 ^ 62) × (k < 2 ^ 62) in
    split3 ! $ use1 𝓛 (‵ ((Opt.the_row Lent).own_val (Some z) (live 1 (vcons at_there vnil) ∷ []))) (Some-of 𝓛 Lent z at_there) $ move ! (1 ∷ 3 ∷ []) $ join ! $
    use0 𝓛 (raw (fact 𝓤 Ens)) (fact_i 𝓤 Ens (emp 𝓤) (refl, refl, (λ _. refl), (λ w. absurd (subst T w tt)), told.2)) $ move ! (3 ∷ 0 ∷ []) $ join ! $
    returns ! (look_at ! 0 refl) $ free_all ! refl $ keep ! (1 ∷ 3 ∷ 2 ∷ 0 ∷ []) $ by ! (leaves 𝓛 En hs c y (live 1 (vcons at_there vnil)) (Some z) (tt, (u, tt)) (tt, (tt, tt))))))))))))))
