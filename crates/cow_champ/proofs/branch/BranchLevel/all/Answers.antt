-- The digits below d pass.
use Rattle.std.proofs.Common.{◌≡◌, ◌∙◌, ℕ, ◌+◌, ◌<◌, List, true, false, Bool, rules, arith, sym, refl, ap}
use Rattle.std.proofs.Common.{suc}
use Rattle.std.specs.List.{list_all}
use Rattle.cow_model.specs.Canon.{spread, slot_pairs}
use Rattle.cow_model.specs.declared.value.Pair.{Pair}
use Rattle.cow_model.proofs.CanonBuilds.{spread-none}
use Rattle.cow_model.proofs.CanonCosts.{pairs-branch}
use Rattle.cow_champ.specs.Node.{slots_of}
use Rattle.cow_champ.proofs.Tests.{spread_all, spread_but}
use Rattle.cow_champ.proofs.branch.BranchLevel.all.Goals as goal

pub loop-d-init : goal.loop-d-init
loop-d-init g c = λ p h. ap (list_all (λ q. p q.key q.value)) (spread-none _)

pub returns-then-not-all_at : goal.returns-then-not-all_at
returns-then-not-all_at g c = λ p h.
    let t : Pair → Bool = λ q. p q.key q.value in
    let at : ℕ → List Pair = λ x. slot_pairs (slots_of g.K.Item.plain g.V.Item.plain g.C.Level.shape c.args.self.now.data c.args.self.now.nodes c.args.self.now.entries.items c.args.self.now.children.items x) in
    let failed : c.all_at.result ≡ false = search rules in
    sym (ap (list_all t) (pairs-branch _) ∙ spread_but t at c.loop-d.d 32 c.loop-d-test.true (sym (c.all_at.ensures p h) ∙ failed))

pub loop-d-preserved : goal.loop-d-preserved
loop-d-preserved g c = λ p h.
    let t : Pair → Bool = λ q. p q.key q.value in
    let at : ℕ → List Pair = λ x. slot_pairs (slots_of g.K.Item.plain g.V.Item.plain g.C.Level.shape c.args.self.now.data c.args.self.now.nodes c.args.self.now.entries.items c.args.self.now.children.items x) in
    let passed : c.all_at.result ≡ true = search rules in
    let e : c.loop-d.d + 1 ≡ suc c.loop-d.d = omega arith in
    ap (λ n. list_all t (spread n at)) e ∙ spread_all t at c.loop-d.d (c.loop-d.invariant p h) (sym (c.all_at.ensures p h) ∙ passed)

pub returns : goal.returns
returns g c = λ p h.
    let t : Pair → Bool = λ q. p q.key q.value in
    let at : ℕ → List Pair = λ x. slot_pairs (slots_of g.K.Item.plain g.V.Item.plain g.C.Level.shape c.args.self.now.data c.args.self.now.nodes c.args.self.now.entries.items c.args.self.now.children.items x) in
    let all : c.loop-d.d ≡ 32 = omega (arith, c.loop-d-test.false, c.loop-d.auto.d-end) in
    sym (ap (list_all t) (pairs-branch _) ∙ ap (λ n. list_all t (spread n at)) (sym all) ∙ c.loop-d.invariant p h)
