-- What a statement does to the value of a name, kind by kind: the value after it and what is printed, or why it is refused.
use Rattle.std.specs.Prelude.{codes, ℕ, ℤ, pos, negsuc, ◌+◌, ◌-◌, ◌&&◌, Bool, true, false, nat_le, nat_lt, List, [], ◌∷◌, ◌++◌, length, take, drop, reverse, slice_get, slice_set, Option, Some, None, Result, Ok, Err, fold, if◌then◌else◌}
use Rattle.std.specs.List as list
use Rattle.cow_model.specs.Lexis.{Text}
use Rattle.cow_model.specs.Printed.{line, atom_text, pair_text, nil_or, truth}
use Rattle.cow_model.specs.Members as members
use Rattle.cow_model.specs.Pairs as pairs
use Rattle.cow_model.specs.Plain.{max_count, count}
use Rattle.cow_model.specs.declared.plain.Literal.{Literal}
use Rattle.cow_model.specs.declared.plain.Literal.TheVariants as literal
use Rattle.cow_model.specs.declared.value.Pair.{Pair}
use Rattle.cow_model.specs.declared.value.Plain.{Plain}
use Rattle.cow_model.specs.declared.value.Plain.TheVariants.{Array, Slice, Deque, Set, Dict, OSet, ODict, Heap, TSet, TDict}
use Rattle.cow_model.specs.declared.statement.Kind.{Kind}
use Rattle.cow_model.specs.declared.statement.Kind.TheVariants as kind
use Rattle.cow_model.specs.declared.statement.Side.{Side}
use Rattle.cow_model.specs.declared.statement.Side.TheVariants as side
use Rattle.cow_model.specs.declared.outcome.Done.{Done}
use Rattle.cow_model.specs.declared.refusal.Refusal.{Refusal}
use Rattle.cow_model.specs.declared.refusal.Refusal.TheVariants.{WrongKind, OutOfRange, Full}

-- what becomes of a statement
abbrev pub Answer : Type 0
Answer = Result Done Refusal

-- nothing is printed
abbrev pub silent : Plain → Answer
silent value = Ok (record { value = value; reply = [] })

-- one line is printed
abbrev pub replies : Text → Plain → Answer
replies text value = Ok (record { value = value; reply = line text })

-- the statement has nothing for values of this kind
abbrev pub wrong : Answer
wrong = Err WrongKind

-- a place in a list, which has to be there
abbrev pub at_place : {A : Type 0} → Option A → (A → Answer) → Answer
at_place None run = Err OutOfRange
at_place (Some k) run = run k

-- the place that an index names in a list of n elements, of which the first has the index `start`
abbrev pub index : ℕ → ℕ → ℤ → Option ℕ
index start n (pos i) = if nat_le start i && nat_lt i (start + n) then Some (i - start) else None
index start n (negsuc i) = None

-- the elements I to J - 1 of n
abbrev pub stretch : ℕ → ℤ → ℤ → Option (ℕ × ℕ)
stretch n (pos i) (pos j) = if nat_le i j && nat_le j n then Some (i, j) else None
stretch n i j = None

-- the printed form of what stands at a place
abbrev pub element : List Literal → ℕ → Text
element items k = nil_or atom_text (slice_get items k)

-- the printed form of the pair at a place
abbrev pub pair : List Pair → ℕ → Text
pair ps k = nil_or pair_text (slice_get ps k)

-- the printed form of the value under a key
abbrev pub value_under : Literal → List Pair → Text
value_under key ps = nil_or atom_text (pairs.value_in key ps)

-- a value has at most 65,536 elements or pairs
abbrev pub fitting : Answer → Answer
fitting (Ok done) = if nat_le (count done.value) max_count then Ok done else Err Full
fitting (Err why) = Err why

-- `let N = KIND A*`: each atom or pair is added in order
abbrev pub made : Kind → List Literal → Plain
made kind.Array atoms = Array atoms
made kind.Deque atoms = Deque atoms
made kind.Set atoms = Set (members.union members.in_order [] atoms)
made kind.Dict atoms = Dict (fold (pairs.put pairs.in_order) [] (pairs.paired atoms))
made kind.OSet atoms = OSet (members.union members.last [] atoms)
made kind.ODict atoms = ODict (fold (pairs.put pairs.last) [] (pairs.paired atoms))
made kind.Heap atoms = Heap (members.ascending atoms)
made kind.TSet atoms = TSet (members.union members.in_order [] atoms)
made kind.TDict atoms = TDict (fold (pairs.put pairs.in_order) [] (pairs.paired atoms))

-- `slice M I J`
abbrev pub slice : ℤ → ℤ → Plain → Answer
slice i j (Array items) = at_place (stretch (length items) i j) (λ r. silent (Slice r.0 (take (r.1 - r.0) (drop r.0 items))))
slice i j value = wrong

-- a set with a member, and whether it is new
abbrev pub joined : (List Literal → Plain) → members.Placing → Literal → List Literal → Answer
joined make place a items = if members.member a items then replies (truth false) (make items) else replies (truth true) (make (place a items))

-- `append N A`
abbrev pub append : Literal → Plain → Answer
append a (Array items) = silent (Array (items ++ a ∷ []))
append a (Slice start items) = silent (Slice start (items ++ a ∷ []))
append a (Deque items) = silent (Deque (items ++ a ∷ []))
append a (OSet items) = joined OSet members.last a items
append a value = wrong

-- `prepend N A`
abbrev pub prepend : Literal → Plain → Answer
prepend a (Deque items) = silent (Deque (a ∷ items))
prepend a value = wrong

-- `insert N A`
abbrev pub insert : Literal → Plain → Answer
insert a (Set items) = joined Set members.in_order a items
insert a (TSet items) = joined TSet members.in_order a items
insert a (Heap items) = silent (Heap (members.in_order a items))
insert a value = wrong

-- a list with an atom at a place up to its end
abbrev pub inserted : (List Literal → Plain) → ℤ → Literal → List Literal → Answer
inserted make i a items = at_place (index 0 (length items + 1) i) (λ k. silent (make (list.insert items k a)))

-- `insert N I A`
abbrev pub insert_at : ℤ → Literal → Plain → Answer
insert_at i a (Array items) = inserted Array i a items
insert_at i a (Deque items) = inserted Deque i a items
insert_at i a (OSet items) = at_place (index 0 (length items + 1) i) (λ k. joined OSet (λ b others. list.insert others k b) a items)
insert_at i a value = wrong

-- the old member is printed; an equal one in its place is the same plain value
abbrev pub updated : (List Literal → Plain) → members.Placing → Literal → List Literal → Answer
updated make place a items = if members.member a items then replies (atom_text a) (make items) else replies (codes "nil") (make (place a items))

-- `update N A`
abbrev pub update : Literal → Plain → Answer
update a (Set items) = updated Set members.in_order a items
update a (TSet items) = updated TSet members.in_order a items
update a (OSet items) = updated OSet members.last a items
update a value = wrong

-- the element at a place goes
abbrev pub removed : (List Literal → Plain) → List Literal → ℕ → Answer
removed make items k = replies (element items k) (make (list.remove items k))

-- the element at a position goes, where the position is an integer
abbrev pub removed_at : (List Literal → Plain) → Literal → List Literal → Answer
removed_at make (literal.Int i) items = at_place (index 0 (length items) i) (removed make items)
removed_at make (literal.Text bytes) items = wrong

-- a member goes, where it is there
abbrev pub removed_member : (List Literal → Plain) → List Literal → Option ℕ → Answer
removed_member make items None = replies (codes "nil") (make items)
removed_member make items (Some k) = removed make items k

-- the pair of a key goes, where it is there; its value is printed
abbrev pub removed_key : (List Pair → Plain) → List Pair → Literal → Option ℕ → Answer
removed_key make ps key None = replies (codes "nil") (make ps)
removed_key make ps key (Some k) = replies (value_under key ps) (make (list.remove ps k))

-- `remove N X`
abbrev pub remove : Literal → Plain → Answer
remove x (Array items) = removed_at Array x items
remove x (Deque items) = removed_at Deque x items
remove x (Set items) = removed_member Set items (members.place_in x items)
remove x (TSet items) = removed_member TSet items (members.place_in x items)
remove x (OSet items) = removed_member OSet items (members.place_in x items)
remove x (Dict ps) = removed_key Dict ps x (pairs.place_in x ps)
remove x (ODict ps) = removed_key ODict ps x (pairs.place_in x ps)
remove x (TDict ps) = removed_key TDict ps x (pairs.place_in x ps)
remove x value = wrong

-- `removeat N I`
abbrev pub remove_at : ℤ → Plain → Answer
remove_at i (OSet items) = at_place (index 0 (length items) i) (removed OSet items)
remove_at i (ODict ps) = at_place (index 0 (length ps) i) (λ k. replies (pair ps k) (ODict (list.remove ps k)))
remove_at i value = wrong

-- `set N I A`
abbrev pub set : ℤ → Literal → Plain → Answer
set i a (Array items) = at_place (index 0 (length items) i) (λ k. silent (Array (slice_set items k a)))
set i a (Slice start items) = at_place (index start (length items) i) (λ k. silent (Slice start (slice_set items k a)))
set i a (Deque items) = at_place (index 0 (length items) i) (λ k. silent (Deque (slice_set items k a)))
set i a value = wrong

-- the first element goes, where there is one
abbrev pub first_popped : (List Literal → Plain) → List Literal → Answer
first_popped make [] = replies (codes "nil") (make [])
first_popped make (a ∷ items) = replies (atom_text a) (make items)

-- the last element goes, where there is one
abbrev pub last_popped : (List Literal → Plain) → List Literal → Answer
last_popped make items = replies (element items (length items - 1)) (make (take (length items - 1) items))

-- the first element of a slice goes, where there is one, and with it its index
abbrev pub slice_popped : ℕ → List Literal → Answer
slice_popped start [] = replies (codes "nil") (Slice start [])
slice_popped start (a ∷ items) = replies (atom_text a) (Slice (start + 1) items)

-- `pop N END`
abbrev pub pop : Side → Plain → Answer
pop side.Last (Array items) = last_popped Array items
pop side.First (Slice start items) = slice_popped start items
pop side.First (Deque items) = first_popped Deque items
pop side.Last (Deque items) = last_popped Deque items
pop side.Min (Heap items) = first_popped Heap items
pop side.Max (Heap items) = last_popped Heap items
pop end value = wrong

-- an element of a heap becomes another
abbrev pub replaced : Literal → List Literal → Option ℕ → Answer
replaced a items place = at_place place (λ k. replies (element items k) (Heap (members.in_order a (list.remove items k))))

-- `replace N END A`
abbrev pub replace : Side → Literal → Plain → Answer
replace side.Min a (Heap items) = replaced a items (index 0 (length items) (pos 0))
replace side.Max a (Heap items) = replaced a items (index 1 (length items) (pos (length items)))
replace end a value = wrong

-- two elements change places
abbrev pub swapped : {A : Type 0} → (List A → Plain) → ℤ → ℤ → List A → Answer
swapped make i j items =
    at_place (index 0 (length items) i) (λ k. at_place (index 0 (length items) j) (λ m. silent (make (list.swap items k m))))

-- `swap N I J`
abbrev pub swap : ℤ → ℤ → Plain → Answer
swap i j (Array items) = swapped Array i j items
swap i j (OSet items) = swapped OSet i j items
swap i j (ODict ps) = swapped ODict i j ps
swap i j value = wrong

-- `reverse N`
abbrev pub reversed : Plain → Answer
reversed (Array items) = silent (Array (reverse items))
reversed (OSet items) = silent (OSet (reverse items))
reversed (ODict ps) = silent (ODict (reverse ps))
reversed value = wrong

-- `rotate N C`
abbrev pub rotate : ℤ → Plain → Answer
rotate c (Deque items) = at_place (index 0 (length items + 1) c) (λ k. silent (Deque (drop k items ++ take k items)))
rotate c value = wrong

-- `splice N I J A*`
abbrev pub splice : ℤ → ℤ → List Literal → Plain → Answer
splice i j atoms (Array items) = at_place (stretch (length items) i j) (λ r. silent (Array (take r.0 items ++ atoms ++ drop r.1 items)))
splice i j atoms value = wrong

-- `reserve N C`
abbrev pub reserve : ℤ → Plain → Answer
reserve c (Array items) = at_place (index 0 (max_count + 1) c) (λ k. silent (Array items))
reserve c (Deque items) = at_place (index 0 (max_count + 1) c) (λ k. silent (Deque items))
reserve c value = wrong

-- `clear N`
abbrev pub clear : Plain → Answer
clear (Array items) = silent (Array [])
clear value = wrong

-- `rebase N`
abbrev pub rebase : Plain → Answer
rebase (Slice start items) = silent (Array items)
rebase value = wrong

-- the value under a key is put, and the old one printed
abbrev pub put_in : (List Pair → Plain) → pairs.Placing → Pair → List Pair → Answer
put_in make place p ps = replies (value_under p.key ps) (make (pairs.put place ps p))

-- `put N K V`
abbrev pub put : Pair → Plain → Answer
put p (Dict ps) = put_in Dict pairs.in_order p ps
put p (ODict ps) = put_in ODict pairs.last p ps
put p (TDict ps) = put_in TDict pairs.in_order p ps
put p value = wrong

-- `extend N M`
abbrev pub extend : Plain → Plain → Answer
extend (Array items) (Array others) = silent (Array (items ++ others))
extend value other = wrong

-- a set operation on two values of one kind of sets, which places new members as that kind does
abbrev pub on_sets : (members.Placing → List Literal → List Literal → List Literal) → Plain → Plain → Answer
on_sets f (Set items) (Set others) = silent (Set (f members.in_order items others))
on_sets f (TSet items) (TSet others) = silent (TSet (f members.in_order items others))
on_sets f (OSet items) (OSet others) = silent (OSet (f members.last items others))
on_sets f value other = wrong

-- `union N M`
abbrev pub union : Plain → Plain → Answer
union = on_sets members.union

-- `inter N M`
abbrev pub inter : Plain → Plain → Answer
inter = on_sets (λ place. members.inter)

-- `minus N M`
abbrev pub minus : Plain → Plain → Answer
minus = on_sets (λ place. members.minus)

-- `symdiff N M`
abbrev pub symdiff : Plain → Plain → Answer
symdiff = on_sets members.symdiff

-- `merge N M keep`, and `merge N M take`
abbrev pub merge : Bool → Plain → Plain → Answer
merge take (Dict ps) (Dict others) = silent (Dict (pairs.merge pairs.in_order take ps others))
merge take (TDict ps) (TDict others) = silent (TDict (pairs.merge pairs.in_order take ps others))
merge take value other = wrong

-- `within N M`
abbrev pub within : Plain → Plain → Answer
within (Dict ps) (Set items) = silent (Dict (pairs.within ps items))
within (TDict ps) (Set items) = silent (TDict (pairs.within ps items))
within value other = wrong
