use Rattle.std.proofs.Common.{arith, refl, sym, ◌∙◌, length-set}
use Rattle.cow_row.proofs.Packed.{is_filled, filled_at, IsPacked-set, somes-set, set-set}
use Rattle.cow_row.proofs.row.Row.replace.Goals as goal

pub take-old-requires : goal.take-old-requires
take-old-requires g c = let within = rw (← c.self.view_is) at c.requires in is_filled c.self.inside.buf c.self.inside.front c.self.inside.len c.args.i c.self.invariant (omega (arith, within, c.self.invariant.count))

pub invariant_of-self : goal.invariant_of-self
invariant_of-self g c = let within = rw (← c.self.view_is) at c.requires in rw (c.put.ensures, c.take-old.ensures.places, set-set) (IsPacked-set c.self.inside.buf c.self.inside.front c.self.inside.len c.args.i c.args.x c.self.invariant (omega (arith, within, c.self.invariant.count)))

pub returns-clause-value : goal.returns-clause-value
returns-clause-value g c = let within = rw (← c.self.view_is) at c.requires in rw (← c.self.view_is) (sym (filled_at c.self.inside.buf c.self.inside.front c.self.inside.len c.args.i c.self.invariant (omega (arith, within, c.self.invariant.count))) ∙ c.take-old.ensures.value)

pub returns-clause-row : goal.returns-clause-row
returns-clause-row g c = let within = rw (← c.self.view_is) at c.requires in rw (c.put.ensures, c.take-old.ensures.places, set-set, somes-set c.self.inside.buf c.self.inside.front c.self.inside.len c.args.i c.args.x c.self.invariant (omega (arith, within, c.self.invariant.count)), length-set, ← c.self.view_is) refl
