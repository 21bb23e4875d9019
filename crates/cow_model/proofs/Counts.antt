-- How many elements a value of any kind has after a statement.
use Rattle.std.proofs.Common.{◌≡◌, ℕ, ◌+◌, ◌-◌, ◌*◌, ◌≤◌, ◌++◌, fold, insert, ℤ, Option, Some, None, drop, subst, Bool, true, false, List, [], ◌∷◌, length, take, Result, Ok, Err, refl, ap, arith, leb, if◌then◌else◌}
use Rattle.std.specs.Prelude.{OnOk, OnErr}
use Rattle.cow_model.specs.declared.memory.NoMemory.{NoMemory}
use Rattle.std.proofs.lemmas.Bool.{leb-true}
use Rattle.std.proofs.lemmas.List.{length-take, length-drop, length-set, length-append}
use Rattle.cow_model.specs.Changes.{change_of, change_by_of}
use Rattle.cow_model.specs.Operation.{Answer, fitting, slice, silent, at_place, stretch, pop, first_popped, slice_popped}
use Rattle.cow_model.specs.Members as members
use Rattle.cow_model.specs.Pairs as pairs
use Rattle.cow_model.specs.Operation.{made}
use Rattle.cow_model.specs.declared.statement.Kind.{Kind}
use Rattle.cow_model.specs.declared.statement.Kind.TheVariants as kind
use Rattle.cow_model.specs.Plain.{count, size, max_count}
use Rattle.cow_model.specs.Sharing.{Layer}
use Rattle.cow_model.specs.declared.outcome.Done.{Done}
use Rattle.cow_model.specs.declared.plain.Literal.{Literal}
use Rattle.cow_model.specs.declared.refusal.Refusal.TheVariants.{Full}
use Rattle.cow_model.specs.declared.statement.Side.{Side}
use Rattle.cow_model.specs.declared.statement.Side.TheVariants as side
use Rattle.cow_model.specs.declared.statement.Statement.TheOpen.{Statement-F}
use Rattle.cow_model.specs.declared.value.Pair.{Pair}
use Rattle.cow_model.specs.declared.value.Plain.{Plain}
use Rattle.cow_model.specs.declared.value.Plain.TheVariants.{Array, Slice, Deque, Set, Dict, OSet, ODict, Heap, TSet, TDict}
use Rattle.cow_model.specs.Answers.{value_after}
use Rattle.cow_model.specs.Turns.{turn_of, turn_by_of}

-- no more than two atoms an element
pub size-count : (v : Plain) → size v ≤ 2 * count v
size-count (Array items) = omega arith
size-count (Slice start items) = omega arith
size-count (Deque items) = omega arith
size-count (Set items) = omega arith
size-count (Dict pairs) = omega arith
size-count (OSet items) = omega arith
size-count (ODict pairs) = omega arith
size-count (Heap items) = omega arith
size-count (TSet items) = omega arith
size-count (TDict pairs) = omega arith

-- a test of the count leaves at most 65,536 elements
fits-if : (b : Bool) (v : Plain) (d : Done) → (b ≡ true → count d.value ≤ max_count) → count v ≤ max_count → count (value_after v (if b then Ok d else Err Full)) ≤ max_count
fits-if true v d fits small = fits refl
fits-if false v d fits small = small

-- a fitting answer leaves at most 65,536 elements
pub fits : (v : Plain) (a : Answer) → count v ≤ max_count → count (value_after v (fitting a)) ≤ max_count
fits v (Ok d) small = fits-if (leb (count d.value) max_count) v d (leb-true (count d.value) max_count) small
fits v (Err why) small = small

-- a front is no longer than the whole
shorter : (items : List Literal) (k : ℕ) → length (take k items) ≤ length items
shorter items k = rw (length-take k items) (omega arith)

-- without its first element
first-fewer : (make : List Literal → Plain) (items : List Literal) → ((xs : List Literal) → count (make xs) ≡ length xs) → count (value_after (make items) (first_popped make items)) ≤ length items
first-fewer make [] is = rw (is []) (omega arith)
first-fewer make (a ∷ items) is = rw (is items) (omega arith)

-- a slice without it
slice-fewer : (start : ℕ) (items : List Literal) → count (value_after (Slice start items) (slice_popped start items)) ≤ length items
slice-fewer start [] = omega arith
slice-fewer start (a ∷ items) = omega arith

-- a pop leaves no more elements than there were
pub pop-fewer : (s : Side) (v : Plain) → count (value_after v (pop s v)) ≤ count v
pop-fewer side.Last (Array items) = shorter items (length items - 1)
pop-fewer side.First (Slice start items) = slice-fewer start items
pop-fewer side.First (Deque items) = first-fewer Deque items (λ xs. refl)
pop-fewer side.Last (Deque items) = shorter items (length items - 1)
pop-fewer side.Min (Heap items) = first-fewer Heap items (λ xs. refl)
pop-fewer side.Max (Heap items) = shorter items (length items - 1)
pop-fewer s v = omega arith

-- a statement leaves at most 65,536 elements
pub turn-small : (s : Layer) (v : Plain) → count v ≤ max_count → count (value_after v ((turn_of s).run v)) ≤ max_count
turn-small (Statement-F.Pop l n side) v small = let fewer = pop-fewer side v in omega (arith, fewer, small)
turn-small s v small = fits v (change_of s v) small

-- and so does a change by another value
pub turn_by-small : (s : Layer) (v w : Plain) → count v ≤ max_count → count (value_after v ((turn_by_of s w).run v)) ≤ max_count
turn_by-small s v w small = fits v (change_by_of s v w) small

-- a call that gives the value or keeps it leaves at most 65,536 elements
pub small-after : {X : Type 0} (T : Type 0) (r : Result X NoMemory) (v v' : Plain) (a : Answer) → OnOk r (v' ≡ value_after v a) → OnErr r ((v' ≡ v) × T) → count (value_after v a) ≤ max_count → count v ≤ max_count → count v' ≤ max_count
small-after T (Ok x) v v' a ok err after small = rw ok after
small-after T (Err x) v v' a ok err after small = rw err.0 small

-- a stretch of a list is no longer than the list
cut-small : (items : List Literal) (r : Option (ℕ × ℕ)) (w : Plain) → at_place r (λ x. silent (Slice x.0 (take (x.1 - x.0) (drop x.0 items)))) ≡ silent w → length items ≤ max_count → count w ≤ max_count
cut-small items None w e small = cc
cut-small items (Some (a, b)) w e small =
    let is : Slice a (take (b - a) (drop a items)) ≡ w = ap (λ a. value_after w a) e in
    let first = length-take (b - a) (drop a items) in
    let rest = length-drop a items in
    subst (λ v. count v ≤ max_count) is (omega (arith, first, rest, small))

-- a slice is no longer than what it is cut from (as far as it is asked for: at most 65,536 elements)
pub slice-small : (i j : ℤ) (v w : Plain) → slice i j v ≡ silent w → count v ≤ max_count → count w ≤ max_count
slice-small i j (Array items) w e small = cut-small items (stretch (length items) i j) w e small
slice-small i j (Slice start items) w e small = cc
slice-small i j (Deque items) w e small = cc
slice-small i j (Set items) w e small = cc
slice-small i j (Dict pairs) w e small = cc
slice-small i j (OSet items) w e small = cc
slice-small i j (ODict pairs) w e small = cc
slice-small i j (Heap items) w e small = cc
slice-small i j (TSet items) w e small = cc
slice-small i j (TDict pairs) w e small = cc

-- elements added in turn, each at most one more
fold-grows : {A B : Type 0} (f : List A → B → List A) → ((xs : List A) (b : B) → length (f xs b) ≤ length xs + 1) → (xs : List A) (bs : List B) → length (fold f xs bs) ≤ length xs + length bs
fold-grows f step xs [] = omega arith
fold-grows f step xs (b ∷ bs) = let rest = fold-grows f step (f xs b) bs in let one = step xs b in omega (arith, rest, one)

-- a member more
joined-length : (place : members.Placing) → ((a : Literal) (xs : List Literal) → length (place a xs) ≤ length xs + 1) → (xs : List Literal) (a : Literal) → length (members.with_member place xs a) ≤ length xs + 1
joined-length place is xs a = elim (members.member a xs) as (λ b. length (if b then xs else place a xs) ≤ length xs + 1) [ true ↦ omega arith | false ↦ is a xs ]

-- a pair more
put-length : (place : pairs.Placing) → ((q : Pair) (xs : List Pair) → length (place q xs) ≤ length xs + 1) → (i : Option ℕ) (q : Pair) (xs : List Pair) → length (pairs.put_at place i q xs) ≤ length xs + 1
put-length place is None q xs = is q xs
put-length place is (Some i) q xs = let same = length-set xs i q in omega (arith, same)

-- half as many pairs as atoms
paired-length : (atoms : List Literal) → length (pairs.paired atoms) ≤ length atoms
paired-length [] = omega arith
paired-length (x ∷ []) = omega arith
paired-length (x ∷ y ∷ atoms) = let rest = paired-length atoms in omega (arith, rest)

-- one more in its place
in-order-length : {A : Type 0} (xs : List A) (i : ℕ) (a : A) → length (insert xs i a) ≤ length xs + 1
in-order-length xs i a = let e = length-append (take i xs) (a ∷ drop i xs) in let front = length-take i xs in let back = length-drop i xs in omega (arith, e, front, back)

last-length : {A : Type 0} (xs : List A) (a : A) → length (xs ++ a ∷ []) ≤ length xs + 1
last-length xs a = let e = length-append xs (a ∷ []) in omega (arith, e)

-- a new value has no more elements than the statement has literals
pub made-small : (k : Kind) (atoms : List Literal) → count (made k atoms) ≤ length atoms
made-small kind.Array atoms = omega arith
made-small kind.Deque atoms = omega arith
made-small kind.Set atoms = let grown = fold-grows (members.with_member members.in_order) (joined-length members.in_order (λ a xs. in-order-length xs _ a)) [] atoms in omega (arith, grown)
made-small kind.TSet atoms = let grown = fold-grows (members.with_member members.in_order) (joined-length members.in_order (λ a xs. in-order-length xs _ a)) [] atoms in omega (arith, grown)
made-small kind.OSet atoms = let grown = fold-grows (members.with_member members.last) (joined-length members.last (λ a xs. last-length xs a)) [] atoms in omega (arith, grown)
made-small kind.Heap atoms = let grown = fold-grows (λ xs a. members.in_order a xs) (λ xs a. in-order-length xs _ a) [] atoms in omega (arith, grown)
made-small kind.Dict atoms = let grown = fold-grows (pairs.put pairs.in_order) (λ xs q. put-length pairs.in_order (λ q xs. in-order-length xs _ q) (pairs.place_in q.key xs) q xs) [] (pairs.paired atoms) in let few = paired-length atoms in omega (arith, grown, few)
made-small kind.TDict atoms = let grown = fold-grows (pairs.put pairs.in_order) (λ xs q. put-length pairs.in_order (λ q xs. in-order-length xs _ q) (pairs.place_in q.key xs) q xs) [] (pairs.paired atoms) in let few = paired-length atoms in omega (arith, grown, few)
made-small kind.ODict atoms = let grown = fold-grows (pairs.put pairs.last) (λ xs q. put-length pairs.last (λ q xs. last-length xs q) (pairs.place_in q.key xs) q xs) [] (pairs.paired atoms) in let few = paired-length atoms in omega (arith, grown, few)
