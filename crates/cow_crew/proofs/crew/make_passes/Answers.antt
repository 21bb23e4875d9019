use Rattle.std.proofs.Common.{arith, ◌≡◌, ◌++◌, ◌∷◌, [], ap, ◌∙◌, sum_by}
use Rattle.std.proofs.lemmas.List.Elements.{All-push}
use Rattle.std.proofs.lemmas.List.Sums.{sum_by_push}
use Rattle.cow_crew.specs.Passes.{Progress, IsIdle}
use Rattle.cow_crew.proofs.crew.make_passes.Goals as goal

pub loop-made-preserved : goal.loop-made-preserved
loop-made-preserved g c =
    let inv = c.loop-made.invariant in
    let kept = c.split-another.ensures.kept in
    let given = c.split-another.ensures.given in
    let pushed : c.push.new.self.items ≡ c.loop-made.all.items ++ c.split-another.result ∷ [] = c.in_ok-push.ensures.items in
    let sum = sum_by_push (λ (p : Progress g.row.J.Denot). p.parts) c.loop-made.all.items c.split-another.result in
    let sum' = ap (sum_by (λ (p : Progress g.row.J.Denot). p.parts)) pushed in
    let one = ap (λ t. t.parts) given in
    let fewer = ap (λ t. t.parts) kept in
    let grown = c.in_ok-push.ensures.len in
    let i2 = inv.2 in let i3 = inv.3 in let i4 = inv.4 in let count = c.requires.count in let low = c.loop-made-test.true in (
      ((ap (λ t. t.table) kept ∙ inv.0.0.0, ap (λ t. t.jobs) kept ∙ inv.0.0.1), ap (λ t. t.numbers) kept ∙ inv.0.1),
      rw pushed (All-push (IsIdle c.args.board.now) c.loop-made.all.items c.split-another.result inv.1 ((ap (λ t. t.table) given ∙ inv.0.0.0, ap (λ t. t.jobs) given ∙ inv.0.0.1), ap (λ t. t.numbers) given ∙ inv.0.1)),
      omega (arith, grown, i2),
      omega (arith, grown, fewer, i2, i3, count, low),
      omega (arith, sum, sum', one, grown, i4),
    )
