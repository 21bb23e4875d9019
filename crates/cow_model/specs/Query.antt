-- What a statement that only reads prints of a value, or why it is refused.
use Rattle.std.specs.Prelude.{ℕ, ℤ, ◌-◌, Bool, List, length, Option, Some, None, Result, Ok, Err, is_some}
use Rattle.std.specs.Fmt.{decimal}
use Rattle.cow_model.specs.Lexis.{Text}
use Rattle.cow_model.specs.Printed.{nil_or, truth}
use Rattle.cow_model.specs.Members as members
use Rattle.cow_model.specs.Pairs as pairs
use Rattle.cow_model.specs.Plain.{count, same_items, same_pairs}
use Rattle.cow_model.specs.Operation.{index, element, pair, value_under}
use Rattle.cow_model.specs.declared.plain.Literal.{Literal}
use Rattle.cow_model.specs.declared.plain.Literal.TheVariants as literal
use Rattle.cow_model.specs.declared.value.Plain.{Plain}
use Rattle.cow_model.specs.declared.value.Plain.TheVariants.{Array, Slice, Deque, Set, Dict, OSet, ODict, Heap, TSet, TDict}
use Rattle.cow_model.specs.declared.statement.Side.{Side}
use Rattle.cow_model.specs.declared.statement.Side.TheVariants as side
use Rattle.cow_model.specs.declared.refusal.Refusal.{Refusal}
use Rattle.cow_model.specs.declared.refusal.Refusal.TheVariants.{WrongKind, OutOfRange}

-- the text of a line, or why there is none
abbrev pub Told : Type 0
Told = Result Text Refusal

-- the statement has nothing for values of this kind
abbrev pub wrong : Told
wrong = Err WrongKind

-- what stands at a place, which has to be there
abbrev pub at_place : Option ℕ → (ℕ → Text) → Told
at_place None tell = Err OutOfRange
at_place (Some k) tell = Ok (tell k)

-- `count N`
abbrev pub count_of : Plain → Told
count_of value = Ok (decimal (count value))

-- the element at a position, where the position is an integer
abbrev pub get_at : ℕ → Literal → List Literal → Told
get_at start (literal.Int i) items = at_place (index start (length items) i) (element items)
get_at start (literal.Text bytes) items = wrong

-- `get N X`
abbrev pub get : Literal → Plain → Told
get x (Array items) = get_at 0 x items
get x (Slice start items) = get_at start x items
get x (Deque items) = get_at 0 x items
get x (Dict ps) = Ok (value_under x ps)
get x (ODict ps) = Ok (value_under x ps)
get x (TDict ps) = Ok (value_under x ps)
get x value = wrong

-- `at N I`
abbrev pub at : ℤ → Plain → Told
at i (OSet items) = at_place (index 0 (length items) i) (element items)
at i (ODict ps) = at_place (index 0 (length ps) i) (pair ps)
at i value = wrong

-- `has N A`
abbrev pub has : Literal → Plain → Told
has a (Set items) = Ok (truth (members.member a items))
has a (TSet items) = Ok (truth (members.member a items))
has a (OSet items) = Ok (truth (members.member a items))
has a (Dict ps) = Ok (truth (is_some (pairs.place_in a ps)))
has a (ODict ps) = Ok (truth (is_some (pairs.place_in a ps)))
has a (TDict ps) = Ok (truth (is_some (pairs.place_in a ps)))
has a value = wrong

-- `place N A`
abbrev pub place : Literal → Plain → Told
place a (OSet items) = Ok (nil_or decimal (members.place_in a items))
place a (ODict ps) = Ok (nil_or decimal (pairs.place_in a ps))
place a value = wrong

-- `peek N END`
abbrev pub peek : Side → Plain → Told
peek side.Min (Heap items) = Ok (element items 0)
peek side.Max (Heap items) = Ok (element items (length items - 1))
peek end value = wrong

-- a question about two values of one kind of sets
abbrev pub of_sets : (List Literal → List Literal → Bool) → Plain → Plain → Told
of_sets f (Set items) (Set others) = Ok (truth (f items others))
of_sets f (TSet items) (TSet others) = Ok (truth (f items others))
of_sets f (OSet items) (OSet others) = Ok (truth (f items others))
of_sets f value other = wrong

-- `subset N M`
abbrev pub subset : Plain → Plain → Told
subset = of_sets members.subset

-- `disjoint N M`
abbrev pub disjoint : Plain → Plain → Told
disjoint = of_sets members.disjoint

-- `equal N M`: slices by elements alone
abbrev pub equal : Plain → Plain → Told
equal (Array items) (Array others) = Ok (truth (same_items items others))
equal (Slice start items) (Slice other others) = Ok (truth (same_items items others))
equal (Deque items) (Deque others) = Ok (truth (same_items items others))
equal (Set items) (Set others) = Ok (truth (same_items items others))
equal (Dict ps) (Dict others) = Ok (truth (same_pairs ps others))
equal (OSet items) (OSet others) = Ok (truth (same_items items others))
equal (ODict ps) (ODict others) = Ok (truth (same_pairs ps others))
equal (TSet items) (TSet others) = Ok (truth (same_items items others))
equal (TDict ps) (TDict others) = Ok (truth (same_pairs ps others))
equal value other = wrong
