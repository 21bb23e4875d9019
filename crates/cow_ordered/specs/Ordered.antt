-- The words in which contracts speak of ordered sets. An ordered set is the list of its members.
use Rattle.std.specs.Prelude.{ℕ}
use Rattle.std.specs.List.{insert}
use Rattle.cow_model.specs.Members.{Placing}

-- a new member is placed at i
abbrev pub placed_at : ℕ → Placing
placed_at i a items = insert items i a
