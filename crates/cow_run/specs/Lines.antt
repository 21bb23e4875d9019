-- The lines that the program itself writes.
use Rattle.std.specs.Prelude.{ℕ, Bool, [], ◌++◌, codes, if◌then◌else◌}
use Rattle.std.specs.Fmt.{decimal}
use Rattle.cow_model.specs.Lexis.{Text}
use Rattle.cow_model.specs.declared.fault.ParseFault.{ParseFault}
use Rattle.cow_model.specs.declared.fault.ParseFault.TheVariants.{BadWord, BadAtom, BadName, ForkShape, Limit}

-- the line of `Usage`
abbrev pub usage_text : Text
usage_text = codes "usage: cowrun run [--workers w] [--census] | make SEED N | judge\n"

-- a line that names a line of the script
abbrev pub at_line : ℕ → Text → Text
at_line line what = codes "line " ++ decimal line ++ what

-- the line of `NotYet`
abbrev pub not_built_text : ℕ → Text
not_built_text line = at_line line (codes ": not built\n")

-- what is said of a limit
abbrev pub over_text : ℕ → ℕ → Text
over_text quantity bound = codes ": " ++ decimal quantity ++ codes " is over the limit of " ++ decimal bound ++ codes "\n"

-- the line of `Script`
abbrev pub fault_text : ParseFault → Text
fault_text (BadWord line) = at_line line (codes ": bad word\n")
fault_text (BadAtom line) = at_line line (codes ": bad atom\n")
fault_text (BadName line) = at_line line (codes ": bad name\n")
fault_text (ForkShape line) = at_line line (codes ": bad fork\n")
fault_text (Limit line quantity bound) = at_line line (over_text quantity bound)

-- the line of the census
abbrev pub census_text : ℕ → ℕ → Text
census_text copied bound = codes "copied " ++ decimal copied ++ codes " of at most " ++ decimal bound ++ codes "\n"

-- the census, where it is asked for
abbrev pub census_if : Bool → ℕ → ℕ → Text
census_if census copied most = if census then census_text copied most else []
