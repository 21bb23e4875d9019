-- What every script has that was read.
use Rattle.std.proofs.Common.{◌≡◌, ◌≤◌, List, length, Ok}
use Rattle.cow_model.specs.Lexis.{Text}
use Rattle.cow_model.specs.Parse.{script_of}
use Rattle.cow_model.specs.declared.statement.Statement.{Statement}
use Rattle.cow_tasks.proofs.ReadTasks.{few_in, is_runnable}
use Rattle.cow_run.specs.Input.{max_bytes}
use Rattle.cow_run.specs.Runs.{IsRead}

-- the statements of a script of at most 1,048,576 bytes
pub is_read : (bytes : Text) (ss : List Statement) → script_of bytes ≡ Ok ss → length bytes ≤ max_bytes → IsRead ss
is_read bytes ss is short = record { runs = is_runnable bytes ss is short; few = few_in bytes ss is short }
