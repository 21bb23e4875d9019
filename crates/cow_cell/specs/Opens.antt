-- Which stock a type stands for.
use Rattle.std.specs.Prelude.{◌≡◌}
use Rattle.cow_cell.specs.declared.units.Stock.{Ghosts}
use Rattle.cow_cell.specs.declared.units.Opening.{Opening}

-- Q stands for the new stock s: the ghost names are the same
pub record Opens {Q : Type 0} (g : Ghosts Q) (s : Opening) : Type 0 where
  pub name : s.name ≡ g.name
  pub ids : s.ids ≡ g.ids
