use Rattle.std.proofs.Common.{◌-◌, suc, ◌≡◌, arith}
use Rattle.cow_row.specs.Places.{IsPacked}
use Rattle.cow_row.proofs.Packed.{is_filled, IsPacked-pop, somes-pop}
use Rattle.cow_row.proofs.row.Row.pop.Goals as goal

pub take-requires : goal.take-requires
take-requires g c = is_filled c.self.inside.buf c.self.inside.front c.self.inside.len (c.self.inside.len - 1) c.self.invariant (omega arith)

pub invariant_of-self : goal.invariant_of-self
invariant_of-self g c =
    let more : c.self.inside.len ≡ suc (c.self.inside.len - 1) = omega arith in
    let packed : IsPacked c.self.inside.buf c.self.inside.front (suc (c.self.inside.len - 1)) = rw (← more) c.self.invariant in
    rw c.take.ensures.places (IsPacked-pop c.self.inside.buf c.self.inside.front (c.self.inside.len - 1) c.take.result packed c.take.ensures.value)

pub returns-clause-value : goal.returns-clause-value
returns-clause-value g c =
    let more : c.self.inside.len ≡ suc (c.self.inside.len - 1) = omega arith in
    let packed : IsPacked c.self.inside.buf c.self.inside.front (suc (c.self.inside.len - 1)) = rw (← more) c.self.invariant in
    rw (← c.self.view_is, c.take.ensures.places) (somes-pop c.self.inside.buf c.self.inside.front (c.self.inside.len - 1) c.take.result packed c.take.ensures.value)
