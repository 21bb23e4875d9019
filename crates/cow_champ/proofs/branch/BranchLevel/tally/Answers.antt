-- The pairs below d are counted.
use Rattle.std.proofs.Common.{◌≡◌, ◌∙◌, ℕ, suc, ◌+◌, ◌-◌, ◌^◌, ◌<◌, List, Bool, min, rules, arith, sym, refl, ap}
use Rattle.cow_model.specs.Canon.{count_where, spread, slot_pairs}
use Rattle.cow_model.specs.declared.value.Pair.{Pair}
use Rattle.cow_model.proofs.CanonBuilds.{spread-none}
use Rattle.cow_model.proofs.CanonCosts.{pairs-branch}
use Rattle.cow_champ.specs.Node.{slots_of}
use Rattle.cow_champ.proofs.Tests.{spread_count}
use Rattle.cow_champ.proofs.branch.BranchLevel.tally.Goals as goal

pub loop-d-init : goal.loop-d-init
loop-d-init g c = λ p h.
    let t : Pair → Bool = λ q. p q.key q.value in
    let at : ℕ → List Pair = λ x. slot_pairs (slots_of g.K.Item.plain g.V.Item.plain g.C.Level.shape c.args.self.now.data c.args.self.now.nodes c.args.self.now.entries.items c.args.self.now.children.items x) in
    let none : count_where t (spread 0 at) ≡ 0 = ap (count_where t) (spread-none at) in
    omega (arith, none)

pub loop-d-preserved : goal.loop-d-preserved
loop-d-preserved g c = λ p h.
    let t : Pair → Bool = λ q. p q.key q.value in
    let at : ℕ → List Pair = λ x. slot_pairs (slots_of g.K.Item.plain g.V.Item.plain g.C.Level.shape c.args.self.now.data c.args.self.now.nodes c.args.self.now.entries.items c.args.self.now.children.items x) in
    let e : c.loop-d.d + 1 ≡ suc c.loop-d.d = omega arith in
    let more : count_where t (spread (c.loop-d.d + 1) at) ≡ count_where t (spread c.loop-d.d at) + count_where t (at c.loop-d.d) = ap (λ n. count_where t (spread n at)) e ∙ spread_count t at c.loop-d.d in
    let here = c.tally_at.ensures p h in
    let before = c.loop-d.invariant p h in
    omega (arith, c.saturating_add-found.ensures, here, before, more)

pub returns : goal.returns
returns g c = λ p h.
    let t : Pair → Bool = λ q. p q.key q.value in
    let at : ℕ → List Pair = λ x. slot_pairs (slots_of g.K.Item.plain g.V.Item.plain g.C.Level.shape c.args.self.now.data c.args.self.now.nodes c.args.self.now.entries.items c.args.self.now.children.items x) in
    let all : c.loop-d.d ≡ 32 = omega (arith, c.loop-d-test.false, c.loop-d.auto.d-end) in
    c.loop-d.invariant p h ∙ ap (λ n. min n (2 ^ 64 - 1)) (ap (λ n. count_where t (spread n at)) all ∙ sym (ap (count_where t) (pairs-branch _)))
