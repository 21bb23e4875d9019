-- What the definitions say of a script.
use Rattle.std.specs.Prelude.{◌≡◌, List, Result, Ok, Err}
use Rattle.cow_model.specs.Run.{text_of, least, bound}
use Rattle.cow_model.specs.declared.fault.ParseFault.{ParseFault}
use Rattle.cow_model.specs.declared.shape.Shape.{Shape}
use Rattle.cow_model.specs.declared.statement.Statement.{Statement}
use Rattle.cow_plain.specs.declared.script.Told.{Told}

-- what these statements print, and how many copies they make, at least and at most
pub record Tells (ss : List Statement) (shapes : List Shape) (told : Told) : Type 0 where
  pub text : told.text ≡ text_of ss shapes
  pub least : told.least ≡ least ss shapes
  pub bound : told.bound ≡ bound ss shapes

-- a script tells that, and other bytes their fault
abbrev pub Says : Result (List Statement) ParseFault → List Shape → Result Told ParseFault → Type 0
Says (Ok ss) shapes (Ok told) = Tells ss shapes told
Says (Err fault) shapes (Err other) = fault ≡ other
Says _ shapes _ = ⊥
