-- The words in which contracts speak of slices.
use Rattle.std.specs.Prelude.{ℕ, ◌+◌, ◌*◌, ◌≤◌, Bool, length}
use Rattle.cow_array.specs.Slice.{Slice}
use Rattle.cow_model.specs.Flat.{Flat, copies}
use Rattle.cow_model.specs.Purse.{Purse, Moves, unit_if}

-- the storage of a slice holds no more units than before, but for one item more, where that is counted
abbrev pub AddsUnit : Bool → (before after : Flat Slice) → Type 0
AddsUnit counted before after = after.value.units ≤ before.value.units + unit_if counted

-- a change of a slice costs: spare moves by at most the units of its storage, and copied rises by nothing where it was alone, else by at most the weights of the elements that it shows
abbrev pub PaysShown : ℕ → Flat Slice → (h h' : Purse) → Type 0
PaysShown weight before h h' = Moves before.value.units (copies before.alone (weight * length before.value.items)) h h'
