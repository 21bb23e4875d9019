use Rattle.std.proofs.Common.{◌≡◌, ℕ, ◌<◌, ◌≤◌, vec_len, vec_capacity, get_or, false}
use Rattle.core.specs.Mem.Slots.{slots_items, slots_len, slots_filled}
use Rattle.core.specs.Mem.Slots.Ownership.{Filled}
use Rattle.cow_crew.proofs.Carrying.{AreResultsSoFar}
use Rattle.cow_crew.proofs.slots.results.Given as goal

abbrev pub invariant-loop-i : goal.invariant-loop-i
invariant-loop-i g l =
    (slots_items l.closed.slots ≡ slots_items l.fn.closed.slots)
    × (slots_len l.closed.slots ≡ slots_len l.fn.closed.slots)
    × Filled (slots_filled l.closed.slots) l.i (slots_len l.closed.slots)
    × ((k : ℕ) → k < l.i → get_or (slots_filled l.closed.slots) k false ≡ false)
    × (vec_len l.outs ≡ l.i)
    × (slots_len l.fn.closed.slots ≤ vec_capacity l.outs)
    × AreResultsSoFar (slots_items l.fn.closed.slots) l.outs.items
