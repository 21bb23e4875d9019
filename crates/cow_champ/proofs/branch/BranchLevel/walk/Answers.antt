-- One digit more.
use Rattle.std.proofs.Common.{◌≡◌, ◌∙◌, ℕ, ◌+◌, ◌<◌, ◌≤◌, List, take, length, true, false, arith, sym, refl, ap, subst}
use Rattle.cow_model.specs.Canon.{spread, slot_pairs, pairs, branch}
use Rattle.cow_model.proofs.CanonBuilds.{spread-next, spread-none}
use Rattle.cow_model.proofs.CanonCosts.{pairs-branch}
use Rattle.cow_champ.specs.Node.{seen_pair, SeenSettled, slots_of}
use Rattle.cow_champ.proofs.Appending.{appends_none, appends_after, appends_is, appends_front}
use Rattle.cow_champ.proofs.Outcomes.{when_ok, when_err}
use Rattle.cow_champ.proofs.branch.BranchLevel.walk.Goals as goal

pub loop-d-init : goal.loop-d-init
loop-d-init g c = appends_is (seen_pair g.K.Item.plain g.V.Item.plain) (SeenSettled g.K.Item.IsSettled g.V.Item.IsSettled) _ _ _ _ (sym (spread-none _)) (appends_none _ _ _)

pub loop-d-preserved : goal.loop-d-preserved
loop-d-preserved g c =
    let seen = seen_pair g.K.Item.plain g.V.Item.plain in
    let still = SeenSettled g.K.Item.IsSettled g.V.Item.IsSettled in
    appends_is seen still _ _ _ _ (sym (spread-next c.loop-d.d _))
    (appends_after seen still _ _ _ _ _ c.loop-d.invariant (when_ok c.walk_at.result (sym c.is_err.ensures.value ∙ c.if-is_err.false) c.walk_at.ensures.ok))

pub returns-then-is_err-clause-refused : goal.returns-then-is_err-clause-refused
returns-then-is_err-clause-refused g c =
    let seen = seen_pair g.K.Item.plain g.V.Item.plain in
    let still = SeenSettled g.K.Item.IsSettled g.V.Item.IsSettled in
    let same = when_err c.walk_at.result (sym c.is_err.ensures.value ∙ c.if-is_err.true) c.walk_at.ensures.refused in
    c.truncate.ensures.items ∙ ap (take c.len-start.result) same ∙ ap (λ n. take n c.loop-d.into.items) (c.len-start.ensures ∙ c.args.into.now.ok.0) ∙ appends_front seen still _ _ _ c.loop-d.invariant

pub returns-clause-ok : goal.returns-clause-ok
returns-clause-ok g c =
    let seen = seen_pair g.K.Item.plain g.V.Item.plain in
    let still = SeenSettled g.K.Item.IsSettled g.V.Item.IsSettled in
    let all : c.loop-d.d ≡ 32 = omega (arith, c.loop-d-test.false, c.loop-d.auto.d-end) in
    appends_is seen still _ _ _ _ (ap (λ n. spread n (λ x. slot_pairs (slots_of g.K.Item.plain g.V.Item.plain g.C.Level.shape c.args.self.now.data c.args.self.now.nodes c.args.self.now.entries.items c.args.self.now.children.items x))) all ∙ sym (pairs-branch _)) c.loop-d.invariant
