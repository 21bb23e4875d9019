use Rattle.std.proofs.Common.{◌-◌, ◌+◌, suc, ◌≡◌, arith}
use Rattle.cow_row.specs.Places.{IsPacked}
use Rattle.cow_row.proofs.Packed.{is_filled, IsPacked-pop_front, somes-pop_front}
use Rattle.cow_row.proofs.row.Row.pop_front.Goals as goal

pub take-first-requires : goal.take-first-requires
take-first-requires g c =
    let start : c.self.inside.front + 0 ≡ c.self.inside.front = omega arith in
    rw start at (is_filled c.self.inside.buf c.self.inside.front c.self.inside.len 0 c.self.invariant (omega arith))

pub invariant_of-self : goal.invariant_of-self
invariant_of-self g c =
    let more : c.self.inside.len ≡ suc (c.self.inside.len - 1) = omega arith in
    let packed : IsPacked c.self.inside.buf c.self.inside.front (suc (c.self.inside.len - 1)) = rw (← more) c.self.invariant in
    rw c.take-first.ensures.places (IsPacked-pop_front c.self.inside.buf c.self.inside.front (c.self.inside.len - 1) c.take-first.result packed c.take-first.ensures.value)

pub returns-clause-value : goal.returns-clause-value
returns-clause-value g c =
    let more : c.self.inside.len ≡ suc (c.self.inside.len - 1) = omega arith in
    let packed : IsPacked c.self.inside.buf c.self.inside.front (suc (c.self.inside.len - 1)) = rw (← more) c.self.invariant in
    rw (← c.self.view_is, c.take-first.ensures.places) (somes-pop_front c.self.inside.buf c.self.inside.front (c.self.inside.len - 1) c.take-first.result packed c.take-first.ensures.value)
