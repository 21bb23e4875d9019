-- A statement of which no line is told is built.
use Rattle.std.proofs.Common.{◌≡◌, ℕ, Bool, true, false, Option, Some, None, refl, if◌then◌else◌}
use Rattle.std.specs.Option.{option_or}
use Rattle.cow_model.specs.Sharing.{Layer}
use Rattle.cow_model.specs.declared.statement.Statement.TheOpen.{Statement-F}
use Rattle.cow_value.specs.Built.{is_built, is_built_kind, unbuilt_at}

-- by whether its kind is built
by-kind : (b : Bool) (n : ℕ) → (if b then None else Some n) ≡ None → b ≡ true
by-kind true n e = refl
by-kind false n e = cc

-- it is built
pub none-built : (s : Layer) → unbuilt_at s ≡ None → is_built s ≡ true
none-built (Statement-F.Let l n k atoms) e = by-kind (is_built_kind k) l e
none-built s e = cc

-- no line of the one or else of the other: there are none of both
pub neither : (o p : Option ℕ) → option_or o p ≡ None → (o ≡ None) × (p ≡ None)
neither None p e = (refl, e)
neither (Some n) p e = cc
