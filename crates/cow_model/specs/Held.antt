-- Where the bytes of a text stand.
use Rattle.std.specs.Prelude.{ℕ, ◌≤◌, List, take, ⊤}
use Rattle.cow_model.specs.declared.plain.Held.{Held}
use Rattle.cow_model.specs.declared.plain.Held.TheVariants as held

-- the bytes: of a short text the first ones of its place
abbrev pub held_bytes : Held → List ℕ
held_bytes (held.Short len bytes) = take len bytes
held_bytes (held.Long items) = items.items

-- the first ones are in the place
abbrev pub FitsPlace : Held → Type 0
FitsPlace (held.Short len bytes) = len ≤ 30
FitsPlace (held.Long items) = ⊤
