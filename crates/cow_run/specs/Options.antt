-- The words that the program is given.
use Rattle.std.specs.Prelude.{ℕ, ℤ, pos, nat_le, Bool, true, false, ◌&&◌, List, [], ◌∷◌, codes, Option, Some, None, if◌then◌else◌}
use Rattle.std.specs.Str.{bytes_eq}
use Rattle.cow_model.specs.Integer.{integer_of}
use Rattle.cow_model.specs.Lexis.{Text}
use Rattle.cow_run.specs.declared.options.Running.{Running}

-- the workers where none are asked for
abbrev pub default_workers : ℕ
default_workers = 4

-- the most workers that may be asked for
abbrev pub max_workers : ℕ
max_workers = 64

-- an integer as a number of workers
abbrev pub workers_in : Option ℤ → Option ℕ
workers_in (Some (pos n)) = if nat_le 1 n && nat_le n max_workers then Some n else None
workers_in other = None

-- the number of workers that a word writes
abbrev pub workers_of : Text → Option ℕ
workers_of word = workers_in (integer_of word)

-- `run`, with so many workers
abbrev pub run_with : Bool → Option ℕ → Option Running
run_with census None = None
run_with census (Some w) = Some (record { census = census; workers = w })

-- `--workers w`
abbrev pub with_workers : Bool → Text → Option Running
with_workers census word = run_with census (workers_of word)

-- the words behind `run`: `--census` and `--workers w`, each at most once, in either order
abbrev pub flags : List Text → Option Running
flags [] = run_with false (Some default_workers)
flags (a ∷ []) = if bytes_eq a (codes "--census") then run_with true (Some default_workers) else None
flags (a ∷ b ∷ []) = if bytes_eq a (codes "--workers") then with_workers false b else None
flags (a ∷ b ∷ c ∷ []) =
    if bytes_eq a (codes "--census") && bytes_eq b (codes "--workers") then with_workers true c
    else if bytes_eq a (codes "--workers") && bytes_eq c (codes "--census") then with_workers true b
    else None
flags words = None

-- `run` and its flags; no other words are an option
abbrev pub options : List Text → Option Running
options [] = None
options (first ∷ rest) = if bytes_eq first (codes "run") then flags rest else None

-- whether the options ask for the census
abbrev pub asks_census : Option Running → Bool
asks_census None = false
asks_census (Some running) = running.census
