use Rattle.std.proofs.Common.{ap, sym, subst, ◌∙◌, ◌≡◌, false}
use Rattle.cow_crew.specs.Passes.{Progress, HasJob, served_of, is_done}
use Rattle.cow_crew.proofs.Carrying.{one_name}
use mathlib.Core.Option.{some}
use Rattle.cow_crew.proofs.Fitting.{fresh_job, fits_done}
use Rattle.cow_crew.proofs.board.Board.serve.Goals as goal

pub take_job-job-requires-clause-job : goal.take_job-job-requires-clause-job
take_job-job-requires-clause-job g c =
    let S : Progress g.row.J.Denot → Type 0 = λ t. t.served ≡ false in
    let job = fresh_job g.J.Job.gives c.pass.inside.seat.me c.pass.inside.last c.in-Some.number c.pass.invariant c.in-Some.is (subst HasJob (sym c.pass.view_is) c.requires.job) (subst S (sym c.pass.view_is) c.requires.fresh) in
    (job.1.0, job.1.2)

pub invariant_of-pass : goal.invariant_of-pass
invariant_of-pass g c =
    let S : Progress g.row.J.Denot → Type 0 = λ t. t.served ≡ false in
    let job = fresh_job g.J.Job.gives c.pass.inside.seat.me c.pass.inside.last c.in-Some.number c.pass.invariant c.in-Some.is (subst HasJob (sym c.pass.view_is) c.requires.job) (subst S (sym c.pass.view_is) c.requires.fresh) in
    let carries = job.1.2 in
    let name = c.take_job-job.ensures.name in
    let one = one_name c.pass.inside.seat.me c.in-Some.number job.1.0 c.take_job-job.result (carries.0, carries.1, carries.2.0) name.0 in
    let held = c.put_result.ensures.held c.take_job-job.result name.1 in
    fits_done g.J.Job.gives c.pass.inside.seat.me c.put_result.new.seat.me c.pass.inside.last c.in-Some.number c.take_job-job.result held.0 c.pass.invariant job.0 (job.1.1 ∙ ap some one) (c.put_result.ensures.same.2 ∙ c.take_job-job.ensures.same.2) held.1
    (held.2, (c.run-out.result, held.3, c.run-out.ensures))

pub returns : goal.returns
returns g c =
    let held = c.put_result.ensures.held c.take_job-job.result c.take_job-job.ensures.name.1 in
    let same = c.put_result.ensures.same.2 ∙ c.take_job-job.ensures.same.2 in
    let table = c.put_result.ensures.same.0 ∙ c.take_job-job.ensures.same.0 ∙ ap (λ t. t.table) c.pass.view_is in
    let jobs = ap (λ v. v.jobs) same ∙ ap (λ t. t.jobs) c.pass.view_is in
    let numbers = ap (λ v. v.numbers) same ∙ ap (λ t. t.numbers) c.pass.view_is in
    let parts = ap (λ v. v.parts) same ∙ ap (λ t. t.parts) c.pass.view_is in
    let served = ap served_of held.1 ∙ ap is_done held.3 in
    λ i. record { table = table i; jobs = jobs i; numbers = numbers i; parts = parts i; served = served i }
