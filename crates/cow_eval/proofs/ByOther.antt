-- A statement that changes one value by another is its row of the table.
use Rattle.std.proofs.Common.{◌≡◌, ℕ, Bool, ◌⊎◌, inl, inr, refl}
use Rattle.cow_model.specs.Lexis.{Text}
use Rattle.cow_model.specs.Sharing.{literals}
use Rattle.cow_model.specs.Step.{changing_by, turned_by}
use Rattle.cow_model.specs.declared.outcome.Environment.{Environment}
use Rattle.cow_model.specs.declared.statement.Statement as statement
use Rattle.cow_model.specs.declared.statement.Statement.{Statement, out-Statement}
use Rattle.cow_model.specs.declared.statement.Statement.TheVariants.{Extend, Union, Inter, Minus, SymDiff, Merge, Within}

-- one of the seven, on these two names
abbrev IsByOther : Statement → Text → Text → Type 0
IsByOther s n m =
    ((l : ℕ) × s ≡ Extend l n m) ⊎ (((l : ℕ) × s ≡ Union l n m) ⊎ (((l : ℕ) × s ≡ Inter l n m) ⊎ (((l : ℕ) × s ≡ Minus l n m) ⊎
    (((l : ℕ) × s ≡ SymDiff l n m) ⊎ (((l : ℕ) × (take : Bool) × s ≡ Merge l n m take) ⊎ ((l : ℕ) × s ≡ Within l n m))))))

-- it does what its row says, and has no literals
pub by-other : (env : Environment) (s : Statement) (n m : Text) → IsByOther s n m →
    (changing_by env (out-Statement s) ≡ turned_by env n m (out-Statement s)) × (literals (out-Statement s) ≡ 0)
unfolding statement.out-Statement denote.Hole.Carrier.out
by-other env s n m (inl is) = rw is.1 (refl, refl)
by-other env s n m (inr (inl is)) = rw is.1 (refl, refl)
by-other env s n m (inr (inr (inl is))) = rw is.1 (refl, refl)
by-other env s n m (inr (inr (inr (inl is)))) = rw is.1 (refl, refl)
by-other env s n m (inr (inr (inr (inr (inl is))))) = rw is.1 (refl, refl)
by-other env s n m (inr (inr (inr (inr (inr (inl is)))))) = rw is.2 (refl, refl)
by-other env s n m (inr (inr (inr (inr (inr (inr is)))))) = rw is.1 (refl, refl)
