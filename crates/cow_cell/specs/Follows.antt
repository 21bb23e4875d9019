-- What stands in a handle after `sole` and after `only`.
use Rattle.std.specs.Prelude.{true}
use base.Fml.{Fml}
use denote.RattleType.{RattleType}
use denote.Ref.{MutBor}
use denote.Follow.{follows, follows_if}
use Rattle.std.specs.Option.{ghost_name_of}
use Rattle.std.specs.declared.option.Option.{Option}
use Rattle.cow_cell.specs.declared.units.Stock.{Ghosts}
use Rattle.cow_cell.specs.declared.counted.Counted.{Counted}
use Rattle.cow_cell.specs.contracts.counted.Counted.{the_row}

-- the handle c, alone, that shows w
abbrev pub written : {X Q : Type 0} → Counted X Q → X → Counted X Q
written c w = record c { value = w; alone = true }

-- after Some: written with what the reference holds as it ends; after None: the handle as it was
abbrev pub follows_unique : (R Q : RattleType) (g : Ghosts Q.Denot) → MutBor (Counted R.Denot Q.Denot) → Option (MutBor R.Denot) → Fml
follows_unique R Q g c r = follows_if (the_row R Q g) R c.ghost_name (ghost_name_of r) (written c.now) c.now

-- written with what the reference holds as it ends
abbrev pub follows_only : (R Q : RattleType) (g : Ghosts Q.Denot) → MutBor (Counted R.Denot Q.Denot) → MutBor R.Denot → Fml
follows_only R Q g c r = follows (the_row R Q g) R c.ghost_name r.ghost_name (written c.now)
