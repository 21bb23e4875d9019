-- What was read of a source, from what it has left before and after, where it tells.
use Rattle.std.specs.Prelude.{◌≡◌, ℕ, ◌+◌, ◌≤◌, length, Option}
use Rattle.std.specs.Io.KnownBytes.{Consumes, IsAtEnd}
use Rattle.cow_model.specs.Lexis.{Text}

-- the most bytes of a script
abbrev pub max_bytes : ℕ
max_bytes = 1048576

-- these are all the bytes, and no more than a script may have
pub record ReadsWhole (before after : Option Text) (bytes : Text) : Type 0 where
  pub consumed : Consumes before after bytes
  pub at_end : IsAtEnd after
  pub short : length bytes ≤ max_bytes

-- one byte more than a script may have was read
abbrev pub ReadsTooMuch : Option Text → Option Text → Type 0
ReadsTooMuch before after = (bytes : Text) × Consumes before after bytes × (length bytes ≡ max_bytes + 1)

-- no more than a script may have was read
abbrev pub ReadsPart : Option Text → Option Text → Type 0
ReadsPart before after = (bytes : Text) × Consumes before after bytes × (length bytes ≤ max_bytes)

-- some bytes were read
abbrev pub ReadsSome : Option Text → Option Text → Type 0
ReadsSome before after = (bytes : Text) × Consumes before after bytes
