-- The literals of a script's statements: short texts, and no more of them than a value holds.
use Rattle.std.proofs.Common.{◌≡◌, ◌≤◌, List, All}
use Rattle.std.specs.Prelude.{Ok}
use Rattle.cow_model.specs.declared.statement.Statement.{Statement, out-Statement}
use Rattle.cow_model.specs.Atoms.{FitsTexts}
use Rattle.cow_model.specs.Sharing.{literals}
use Rattle.cow_model.specs.Plain.{max_count}
use Rattle.cow_model.specs.Lexis.{Text}
use Rattle.cow_model.specs.Parse.{script_of}
use Rattle.cow_model.proofs.ReadForms.{Fits, reads_statement, fork_fits}
use Rattle.cow_model.proofs.ReadScripts.{all_read}

-- all statements of a script fit
fits_read : (bytes : Text) (ss : List Statement) → script_of bytes ≡ Ok ss → All Fits ss
fits_read bytes ss is = all_read Fits (record { forms = reads_statement; forks = fork_fits }) bytes ss is

-- no literal text of a script's statement has more than 255 bytes
pub fits_texts : (bytes : Text) (ss : List Statement) → script_of bytes ≡ Ok ss → All (λ s. FitsTexts (out-Statement s)) ss
fits_texts bytes ss is = λ k d h. (fits_read bytes ss is k d h).texts

-- a script's statement has no more literals than a value may hold
pub few_literals : (bytes : Text) (ss : List Statement) → script_of bytes ≡ Ok ss → All (λ s. literals (out-Statement s) ≤ max_count) ss
few_literals bytes ss is = λ k d h. (fits_read bytes ss is k d h).few
