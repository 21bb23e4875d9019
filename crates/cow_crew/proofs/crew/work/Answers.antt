use Rattle.std.proofs.Common.{arith, ap, sym, ◌∙◌, length}
use Rattle.cow_crew.specs.Rule.{next_after}
use Rattle.cow_crew.proofs.Passing.{has_job, has_ended, draws_on}
use Rattle.cow_crew.proofs.crew.work.Goals as goal

pub serve-requires-clause-job : goal.serve-requires-clause-job
serve-requires-clause-job g c κs within = has_job _ _ _ c.draw.ensures (sym c.is_some.ensures ∙ c.loop-pass-test.true)

pub loop-pass-smaller : goal.loop-pass-smaller
loop-pass-smaller g c =
    let less = draws_on _ _ _ c.draw.ensures (length c.args.board.now.jobs) (ap length c.loop-pass.invariant.0.1) (sym c.is_some.ensures ∙ c.loop-pass-test.true) in
    let served = ap (λ t. next_after t.numbers) c.serve.ensures in
    omega (arith, less, served)

pub returns : goal.returns
returns g c =
    let d = c.draw.ensures in
    let of = c.loop-pass.invariant.0 in (
      ((ap (λ t. t.table) d.gains ∙ of.0, ap (λ t. t.jobs) d.gains ∙ of.1), has_ended _ _ _ d (sym c.is_some.ensures ∙ c.loop-pass-test.false)),
      ap (λ t. t.parts) d.gains ∙ c.loop-pass.invariant.1,
    )
