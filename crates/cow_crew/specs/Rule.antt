-- The rule of a board, and what each of its steps tells.
-- Word 0 is the number of draws. Slot i is at home with job i before number i is drawn, out with the seat that drew it until that seat draws again, and from then on at home with its result.
use Rattle.std.specs.Prelude.{◌≡◌, ℕ, ◌+◌, ◌-◌, ◌<◌, ◌≤◌, ◌⊎◌, List, [], ◌∷◌, ◌++◌, length}
use mathlib.Core.Option.{some, none}
use mathlib.Core.Option as maybe
use lib.ListN.{get_elem?}
use Rattle.atomic_table.specs.Table.{State, Me, Step}
use Rattle.cow_crew.specs.declared.place.Held.TheVariants.{Waiting, Done}
use Rattle.cow_crew.specs.declared.place.Place.{Place}
use Rattle.cow_crew.specs.declared.rule.View.{View}

-- f of each view, added up
abbrev pub total : {V : Type 0} → (V → ℕ) → List V → ℕ
total f [] = 0
total f (v ∷ vs) = f v + total f vs

-- 1 where the numbers are the same, else 0
abbrev pub same : ℕ → ℕ → ℕ
same x y = 1 - ((x - y) + (y - x))

-- 1 where x is below n, else 0
abbrev pub below : ℕ → ℕ → ℕ
below x n = 1 - (x + 1 - n)

-- 1 where y is n or more, else 0
abbrev pub past : ℕ → ℕ → ℕ
past n y = 1 - (n - y)

-- how often x stands in the list
abbrev pub times : ℕ → List ℕ → ℕ
times x [] = 0
times x (y ∷ ys) = same x y + times x ys

-- how many numbers of the list are ends: n or more
abbrev pub ends : ℕ → List ℕ → ℕ
ends n [] = 0
ends n (y ∷ ys) = past n y + ends n ys

-- the last of x and the numbers of the list
abbrev pub last_of : ℕ → List ℕ → ℕ
last_of x [] = x
last_of x (y ∷ ys) = last_of y ys

-- the last number, where there is one
abbrev pub last : List ℕ → maybe.Option ℕ
last [] = none
last (x ∷ xs) = some (last_of x xs)

-- one more than the last number, or 0
abbrev pub next_after : List ℕ → ℕ
next_after [] = 0
next_after (x ∷ xs) = last_of x xs + 1

-- the last number is an end
abbrev pub EndsPast : ℕ → List ℕ → Type 0
EndsPast n xs = (i : ℕ) × (last xs ≡ some i) × (n ≤ i)

module _ {J X : Type 0} where
  -- the slot's value names the job and holds it
  abbrev pub IsWaiting : J → Place J X → Type 0
  IsWaiting j y = (y.job.value ≡ j) × (y.held ≡ Waiting j)

  module _ (gives : J → X → Type 0) where
    -- the slot's value names the job and holds a result that it gives
    abbrev pub IsDone : J → Place J X → Type 0
    IsDone j y = (y.job.value ≡ j) × ((x : X) × (y.held ≡ Done x) × gives j x)

    -- what a seat that may draw has: no number and no slot, or the slot of its last number with the result
    abbrev pub IsReady : Me (Place J X) (View J) → Type 0
    IsReady m = ((m.0.numbers ≡ []) × (m.1 ≡ []))
        ⊎ ((i : ℕ) × (y : Place J X) × (j : J) × (last m.0.numbers ≡ some i) × (m.1 ≡ (i, y) ∷ []) × (get_elem? m.0.jobs i ≡ some j) × IsDone j y)

-- i is the last number of a view
abbrev pub IsOut : {J : Type 0} → List (View J) → ℕ → Type 0
IsOut {J} views i = (port : ℕ) × (v : View J) × (get_elem? views port ≡ some v) × (last v.numbers ≡ some i)

-- what is true of each view: with parts it has the jobs, without parts no number; it has no more ends than parts, and fewer where it may draw
pub record IsViewOf {J : Type 0} (jobs : List J) (v : View J) : Type 0 where
  pub jobs_are : 0 < v.parts → v.jobs ≡ jobs
  pub idle : v.parts ≡ 0 → v.numbers ≡ []
  pub room : ends (length jobs) v.numbers ≤ v.parts
  pub may_draw : 0 < v.parts → ¬ (EndsPast (length jobs) v.numbers) → ends (length jobs) v.numbers < v.parts

-- the rule
pub record IsKept {J X : Type 0} (gives : J → X → Type 0) (jobs : List J) (s : State (Place J X) (View J)) : Type 0 where
  -- how many numbers were drawn
  pub drawn : ℕ
  pub word : s.words ≡ drawn ∷ []
  pub wide : length s.homes ≡ length jobs
  pub parts : total (λ v. v.parts) s.views ≡ length jobs + 1
  -- each number that was drawn stands in one view, once, and no other stands in any
  pub once : (x : ℕ) → total (λ v. times x v.numbers) s.views ≡ below x drawn
  pub ended : total (λ v. ends (length jobs) v.numbers) s.views ≡ drawn - length jobs
  pub each_view : (port : ℕ) (v : View J) → get_elem? s.views port ≡ some v → IsViewOf jobs v
  -- the slot of a number that was not drawn has its job
  pub waits : (i : ℕ) (j : J) → get_elem? jobs i ≡ some j → drawn ≤ i → (y : Place J X) × (get_elem? s.homes i ≡ some (some y)) × IsWaiting j y
  -- the slot of the last number of a view is with the seat
  pub out : (i : ℕ) → i < length jobs → IsOut s.views i → get_elem? s.homes i ≡ some none
  -- every other slot of a number that was drawn has its result
  pub done : (i : ℕ) (j : J) → get_elem? jobs i ≡ some j → i < drawn → IsOut s.views i ⊎ ((y : Place J X) × (get_elem? s.homes i ≡ some (some y)) × IsDone gives j y)

module _ {J : Type 0} where
  -- a view of these
  abbrev pub viewed : List J → List ℕ → ℕ → View J
  viewed js xs k = record { jobs = js; numbers = xs; parts = k }

  -- the view that a board begins with
  abbrev pub opened : List J → View J
  opened js = viewed js [] (length js + 1)

  -- after a draw that found r
  abbrev pub drawn_by : View J → ℕ → View J
  drawn_by v r = viewed v.jobs (v.numbers ++ r ∷ []) v.parts

  -- after a split, the view that stays
  abbrev pub left : View J → View J
  left v = viewed v.jobs v.numbers (v.parts - 1)

  -- and the new one
  abbrev pub right : View J → View J
  right v = viewed v.jobs [] 1

  -- after a join, the view that stays
  abbrev pub both : View J → View J → View J
  both v w = viewed v.jobs (w.numbers ++ v.numbers) (v.parts + w.parts)

  -- and the spent one
  abbrev pub spent : View J
  spent = viewed [] [] 0

-- a draw found r, which is past the view's earlier numbers and now its last one; below the number of jobs the seat has the slot with its job, else none
abbrev pub HasDrawn : {J X : Type 0} → Step (Place J X) → Me (Place J X) (View J) → ℕ → Me (Place J X) (View J) → Type 0
HasDrawn {J} {X} st m r m' =
    (m'.0 ≡ drawn_by m.0 r)
    × (r < length m.0.jobs → (y : Place J X) × (j : J) × (get_elem? m.0.jobs r ≡ some j) × (m'.1 ≡ (r, y) ∷ []) × IsWaiting j y)
    × (length m.0.jobs ≤ r → m'.1 ≡ [])
    × (next_after m.0.numbers ≤ r)
