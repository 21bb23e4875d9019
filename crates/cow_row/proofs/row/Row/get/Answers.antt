use Rattle.std.proofs.Common.{arith, sym, ◌∙◌}
use Rattle.cow_row.proofs.Packed.{is_filled, filled_at}
use Rattle.cow_row.proofs.row.Row.get.Goals as goal

pub at-requires : goal.at-requires
at-requires g c = let within = rw (← c.self.view_is) at c.requires in is_filled c.self.inside.buf c.self.inside.front c.self.inside.len c.args.i c.self.invariant (omega (arith, within, c.self.invariant.count))

pub returns : goal.returns
returns g c = let within = rw (← c.self.view_is) at c.requires in rw (← c.self.view_is) (sym (filled_at c.self.inside.buf c.self.inside.front c.self.inside.len c.args.i c.self.invariant (omega (arith, within, c.self.invariant.count))) ∙ c.at.ensures)
