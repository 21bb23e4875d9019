-- What lies in the slots: at the start, with a seat, and at the end.
use Rattle.std.specs.Prelude.{◌≡◌, ℕ, List, [], ◌∷◌, length}
use mathlib.Core.Option.{some}
use lib.ListN.{get_elem?}
use Rattle.atomic_table.specs.Table.{Me}
use Rattle.atomic_table.specs.declared.shared.Seat.{Seat}
use Rattle.cow_crew.specs.declared.place.Held.TheVariants.{Done}
use Rattle.cow_crew.specs.declared.place.Place.{Place}
use Rattle.cow_crew.specs.declared.rule.View.{View}
use Rattle.cow_crew.specs.Rule.{IsWaiting}

module _ {J X : Type 0} where
  -- the i-th slot holds the i-th job
  abbrev pub AllWait : List J → List (Place J X) → Type 0
  AllWait [] [] = Unit {0}
  AllWait [] (y ∷ ys) = ⊥
  AllWait (j ∷ js) [] = ⊥
  AllWait (j ∷ js) (y ∷ ys) = IsWaiting j y × AllWait js ys

  -- the seat is the same, with the same view
  abbrev pub IsSameSeat : Seat (Place J X) (View J) → Seat (Place J X) (View J) → Type 0
  IsSameSeat old new = (new.table_id ≡ old.table_id) × (new.id ≡ old.id) × (new.me.0 ≡ old.me.0)

  -- the seat carries this slot alone, and it holds the job
  abbrev pub CarriesJob : Me (Place J X) (View J) → ℕ → J → Type 0
  CarriesJob m slot j = (y : Place J X) × (m.1 ≡ (slot, y) ∷ []) × IsWaiting j y

  -- the seat carries this slot alone, which names the job
  abbrev pub CarriesName : Me (Place J X) (View J) → ℕ → J → Type 0
  CarriesName m slot j = (y : Place J X) × (m.1 ≡ (slot, y) ∷ []) × (y.job.value ≡ j)

  -- the same, and the slot holds the result
  abbrev pub CarriesResult : Me (Place J X) (View J) → ℕ → J → X → Type 0
  CarriesResult m slot j x = (y : Place J X) × (m.1 ≡ (slot, y) ∷ []) × (y.job.value ≡ j) × (y.held ≡ Done x)

  -- each slot holds a result
  abbrev pub AllDone : List (Place J X) → Type 0
  AllDone ys = (i : ℕ) (y : Place J X) → get_elem? ys i ≡ some y → (x : X) × (y.held ≡ Done x)

  -- the i-th is the result in the i-th slot
  pub record AreResults (ys : List (Place J X)) (outs : List X) : Type 0 where
    pub len : length outs ≡ length ys
    pub each : (i : ℕ) (y : Place J X) (x : X) → get_elem? ys i ≡ some y → get_elem? outs i ≡ some x → y.held ≡ Done x
