-- What contracts see of a board and of a pass, and what a pass carries.
use Rattle.std.specs.Prelude.{◌≡◌, ℕ, ◌+◌, ◌<◌, ◌≤◌, ◌⊎◌, Bool, true, false, List, [], ◌∷◌, ◌++◌, length, Option, Some, None, MatchOption}
use mathlib.Core.Option.{some}
use mathlib.Core.Option as maybe
use lib.ListN.{get_elem?}
use Rattle.atomic_table.specs.Table.{Me}
use Rattle.atomic_table.specs.Seated.{TableId}
use Rattle.atomic_table.specs.declared.shared.Seat.{Seat}
use Rattle.cow_crew.specs.declared.place.Held.{Held}
use Rattle.cow_crew.specs.declared.place.Held.TheVariants.{Waiting, Taken, Done}
use Rattle.cow_crew.specs.declared.place.Place.{Place}
use Rattle.cow_crew.specs.declared.rule.View.{View}
use Rattle.cow_crew.specs.Rule.{last, next_after, EndsPast, IsWaiting, IsDone}

-- a board: its table, and the jobs that it was opened with
pub record Listing (J : Type 0) : Type 0 where
  pub table : TableId
  pub jobs : List J

-- a pass: the table and the jobs of its board, the numbers that it has drawn, the latest last, its parts, and whether its last number was served
pub record Progress (J : Type 0) : Type 0 where
  pub table : TableId
  pub jobs : List J
  pub numbers : List ℕ
  pub parts : ℕ
  pub served : Bool

module _ {J : Type 0} where
  -- a board with this table and these jobs
  abbrev pub listing : TableId → List J → Listing J
  listing t js = record { table = t; jobs = js }

  -- the table has one word, and a slot for each of 1 to 65,536 jobs
  abbrev pub IsTableOf : TableId → List J → Type 0
  IsTableOf t js = (t.words ≡ 1) × (t.slots ≡ length js) × (0 < length js) × (length js ≤ 65536)

  -- the first pass of a board has no number and all parts, one more than there are jobs
  abbrev pub first_pass : Listing J → Progress J
  first_pass b = record { table = b.table; jobs = b.jobs; numbers = []; parts = length b.jobs + 1; served = false }

  -- with so many parts
  abbrev pub with_parts : ℕ → Progress J → Progress J
  with_parts k p = record p { parts = k }

  -- with one more number, which was not served yet
  abbrev pub with_number : ℕ → Progress J → Progress J
  with_number r p = record p { numbers = p.numbers ++ r ∷ []; served = false }

  -- with the numbers of another pass, before its own, and its parts
  abbrev pub joined_by : Progress J → Progress J → Progress J
  joined_by q p = record p { numbers = q.numbers ++ p.numbers; parts = p.parts + q.parts }

  -- the pass is one of the board
  abbrev pub IsOf : Listing J → Progress J → Type 0
  IsOf b p = (p.table ≡ b.table) × (p.jobs ≡ b.jobs)

  -- the last number is that of a job
  abbrev pub HasJob : Progress J → Type 0
  HasJob p = (i : ℕ) × (last p.numbers ≡ some i) × (i < length p.jobs)

  -- the last number is past the jobs
  abbrev pub HasEnded : Progress J → Type 0
  HasEnded p = EndsPast (length p.jobs) p.numbers

  -- it has no number yet, or its last number is that of a job and was served
  abbrev pub MayDraw : Progress J → Type 0
  MayDraw p = (p.numbers ≡ []) ⊎ (p.served ≡ true)

  -- a draw: the number found is past all earlier ones of the pass, and the answer tells it exactly where it is that of a job
  pub record Draws (old new : Progress J) (answer : Option ℕ) : Type 0 where
    pub number : ℕ
    pub gains : new ≡ with_number number old
    pub later : next_after old.numbers ≤ number
    pub told : MatchOption answer (length old.jobs ≤ number) (λ x. (x ≡ number) × (number < length old.jobs))

-- the same value in std's option
abbrev pub as_std : maybe.Option ℕ → Option ℕ
as_std maybe.none = None
as_std (maybe.some x) = Some x

module _ {J X : Type 0} where
  -- whether a slot holds a result
  abbrev pub is_done : Held J X → Bool
  is_done (Waiting j) = false
  is_done Taken = false
  is_done (Done x) = true

  -- whether the slot that a seat carries holds a result
  abbrev pub served_of : List (ℕ × Place J X) → Bool
  served_of [] = false
  served_of (x ∷ xs) = is_done x.1.held

  -- what a seat shows of a pass
  abbrev pub progress_of : Seat (Place J X) (View J) → Progress J
  progress_of s = record { table = s.table_id; jobs = s.me.0.jobs; numbers = s.me.0.numbers; parts = s.me.0.parts; served = served_of s.me.1 }

  -- what a seat carries fits its view: the slot of its last number, where that is of a job, and else nothing
  pub record Fits (gives : J → X → Type 0) (m : Me (Place J X) (View J)) (found : Option ℕ) : Type 0 where
    pub some_part : 0 < m.0.parts
    pub last_is : as_std (last m.0.numbers) ≡ found
    pub holds : (i : ℕ) (j : J) → last m.0.numbers ≡ some i → get_elem? m.0.jobs i ≡ some j → (y : Place J X) × (m.1 ≡ (i, y) ∷ []) × (IsWaiting j y ⊎ IsDone gives j y)
    pub idle : ¬ ((i : ℕ) × (last m.0.numbers ≡ some i) × (i < length m.0.jobs)) → m.1 ≡ []

module _ {J : Type 0} (b : Listing J) where
  -- a pass of the board that has drawn nothing
  abbrev pub IsIdle : Progress J → Type 0
  IsIdle p = IsOf b p × (p.numbers ≡ [])

  -- a pass of the board whose last number is past the jobs
  abbrev pub IsOver : Progress J → Type 0
  IsOver p = IsOf b p × HasEnded p

  -- what the work of a pass makes of it
  abbrev pub Works : Progress J → Progress J → Type 0
  Works p q = IsOver q × (q.parts ≡ p.parts)
