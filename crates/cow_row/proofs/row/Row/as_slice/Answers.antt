use Rattle.cow_row.proofs.Whole.{all_run, shown}
use Rattle.cow_row.proofs.row.Row.as_slice.Goals as goal

pub run-requires : goal.run-requires
run-requires g c = all_run c.self.inside.buf c.self.inside.front c.self.inside.len c.self.invariant

pub returns : goal.returns
returns g c = rw (← c.self.view_is) (shown c.self.inside.buf c.self.inside.front c.self.inside.len c.run.result.now c.self.invariant c.run.ensures)
