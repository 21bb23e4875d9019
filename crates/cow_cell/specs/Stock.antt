-- The ledger of a stock. All of its units are the whole of one ghost name, and k of them are k parts
-- in 2 ^ 62 of it. So parts in two hands are at most 2 ^ 62 together.
use Rattle.std.specs.Prelude.{◌≡◌, ℕ, ◌^◌, ◌<◌, ◌≤◌, Bool, true, false}
use base.FractionLaws.{Counts}
use base.Algebras.{shares}
use base.Fml.{GName, Share, Fml, ftrue, fex, fown}

-- the share e is k parts in 2 ^ 62, at least one
abbrev pub IsSome : ℕ → Share → Type 0
IsSome k e = (0 < k) × (k ≤ 2 ^ 62) × Counts 62 e k

-- no unit, or k of them
abbrev pub none_or_some : GName → ℕ → Bool → Fml
none_or_some s k true = fex (k ≡ 0) (λ _. ftrue)
none_or_some s k false = fex Share (λ e. fex (IsSome k e) (λ _. fown shares s e))

-- k units of the stock s
abbrev pub units : GName → ℕ → Fml
units s k = fex Bool (none_or_some s k)
