use Rattle.std.proofs.Common.{rules, arith, sym, subst, ◌≡◌, ◌⊎◌, [], true}
use mathlib.Core.Option.{none}
use Rattle.atomic_table.specs.Table.{step}
use Rattle.cow_crew.specs.Passes.{Progress}
use Rattle.cow_crew.proofs.Steps.{draws}
use Rattle.cow_crew.proofs.Fitting.{ready, fits_drew}
use Rattle.cow_crew.proofs.board.Board.draw.Goals as goal

pub fetch_add-found-requires : goal.fetch_add-found-requires
fetch_add-found-requires g c =
    let Q : Progress g.row.J.Denot → Type 0 = λ t. (t.numbers ≡ []) ⊎ (t.served ≡ true) in
    (search rules, search rules, draws g.J.Job.gives _ _ _ _ _ c.pass.invariant.some_part (search rules) (omega (arith, c.self.invariant.3)) (ready g.J.Job.gives c.pass.inside.seat.me c.pass.inside.last c.pass.invariant (subst Q (sym c.pass.view_is) c.requires.ready)))

pub invariant_of-pass : goal.invariant_of-pass
invariant_of-pass g c =
    fits_drew g.J.Job.gives (step 0 0 1 0 none) c.pass.inside.seat.me c.fetch_add-found.new.seat.me c.fetch_add-found.result c.pass.invariant.some_part c.fetch_add-found.ensures.2
