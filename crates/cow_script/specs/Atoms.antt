-- How many atoms a line may have.
use Rattle.std.specs.Prelude.{ℕ, ◌+◌, nat_lt, Result, Ok, Err, ⊤, if◌then◌else◌}
use Rattle.cow_model.specs.declared.fault.Flaw.{Flaw}
use Rattle.cow_model.specs.declared.fault.Flaw.TheVariants.{Limit}
use Rattle.cow_model.specs.Readers.{max_atoms}

-- whether one more atom may stand behind n others
abbrev pub one_more : ℕ → Result ⊤ Flaw
one_more n = if nat_lt n max_atoms then Ok tt else Err (Limit (max_atoms + 1) max_atoms)
