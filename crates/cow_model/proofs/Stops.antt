-- Where the last element of a value of any kind stands after a statement: at most one index further, or below 65,536.
use Rattle.std.proofs.Common.{ℕ, ◌+◌, ◌≤◌, ℤ, pos, max, Bool, true, false, List, [], ◌∷◌, ◌++◌, length, insert, take, Option, Some, None, Ok, Err, arith}
use Rattle.std.specs.Prelude.{IfOk, nat_le, slice_set, if◌then◌else◌}
use Rattle.cow_model.specs.Answers.{value_after}
use Rattle.cow_model.specs.Changes.{change_of, change_by_of}
use Rattle.cow_model.specs.Members as members
use Rattle.cow_model.specs.Operation as operation
use Rattle.cow_model.specs.Operation.{Answer, fitting, at_place, index}
use Rattle.cow_model.specs.Plain.{count, stop, max_count}
use Rattle.cow_model.specs.Sharing.{Layer}
use Rattle.cow_model.specs.Turns.{turn_of, turn_by_of}
use Rattle.cow_model.specs.declared.plain.Literal.{Literal}
use Rattle.cow_model.specs.declared.plain.Literal.TheVariants as literal
use Rattle.cow_model.specs.declared.refusal.Refusal.TheVariants.{Full}
use Rattle.cow_model.specs.declared.statement.Side.{Side}
use Rattle.cow_model.specs.declared.statement.Side.TheVariants as side
use Rattle.cow_model.specs.declared.statement.Statement.TheOpen.{Statement-F}
use Rattle.cow_model.specs.declared.value.Pair.{Pair}
use Rattle.cow_model.specs.declared.value.Plain.{Plain}
use Rattle.cow_model.specs.declared.value.Plain.TheVariants.{Array, Slice, Deque, Set, Dict, OSet, ODict, Heap, TSet, TDict}
use Rattle.std.proofs.lemmas.List.{length-append, length-set}
use Rattle.cow_model.proofs.Counts.{turn-small, fits}

-- a number is no more than the greater of it and another
most : (n k : ℕ) → k ≤ max (n + 1) k
most n k = search arith

-- one index further at most, or as many elements as there are
abbrev Near : ℕ → Answer → Type 0
Near n answer = IfOk answer (λ done. stop done.value ≤ max (n + 1) (count done.value))

-- a kind whose values begin at 0
abbrev Begins : {A : Type 0} → (List A → Plain) → Type 0
Begins {A} make = (n : ℕ) (items : List A) → stop (make items) ≤ max (n + 1) (count (make items))

at-near : {A : Type 0} (n : ℕ) (place : Option A) (run : A → Answer) → ((k : A) → Near n (run k)) → Near n (at_place place run)
at-near n None run h = _
at-near n (Some k) run h = h k

if-near : (n : ℕ) (b : Bool) (x y : Answer) → Near n x → Near n y → Near n (if b then x else y)
if-near n true x y h k = h
if-near n false x y h k = k

-- what is a step further, and no further than 65,536 where it is no more than the elements
further : (n k c : ℕ) → k ≤ max (n + 1) c → c ≤ max_count → k ≤ max (n + 1) max_count
further n k c h small = search (arith, h, small)

behind : (n : ℕ) → n ≤ max (n + 1) max_count
behind n = search arith

-- a slice grows by one element, keeps its length, or loses its first
longer : (start : ℕ) (items : List Literal) (a : Literal) → start + length (items ++ a ∷ []) ≤ max (start + length items + 1) (length (items ++ a ∷ []))
longer start items a = let e = length-append items (a ∷ []) in rw e (search arith)

as-long : (start : ℕ) (items : List Literal) (k : ℕ) (a : Literal) → start + length (slice_set items k a) ≤ max (start + length items + 1) (length (slice_set items k a))
as-long start items k a = let e = length-set items k a in rw e (search arith)

shorter : (start : ℕ) (items : List Literal) → Near (start + length items) (operation.slice_popped start items)
shorter start [] = search arith
shorter start (a ∷ items) = search arith

array : Begins Array
array n items = most n (length items)

deque : Begins Deque
deque n items = most n (length items)

set : Begins Set
set n items = most n (length items)

oset : Begins OSet
oset n items = most n (length items)

heap : Begins Heap
heap n items = most n (length items)

tset : Begins TSet
tset n items = most n (length items)

dict : Begins Dict
dict n pairs = most n (length pairs)

odict : Begins ODict
odict n pairs = most n (length pairs)

tdict : Begins TDict
tdict n pairs = most n (length pairs)

inserted-near : (make : List Literal → Plain) → Begins make → (n : ℕ) (i : ℤ) (a : Literal) (items : List Literal) → Near n (operation.inserted make i a items)
inserted-near make is n i a items = at-near n (index 0 (length items + 1) i) _ (λ k. is n _)

joined-near : (make : List Literal → Plain) → Begins make → (n : ℕ) (place : members.Placing) (a : Literal) (items : List Literal) → Near n (operation.joined make place a items)
joined-near make is n place a items = if-near n (members.member a items) _ _ (is n _) (is n _)

updated-near : (make : List Literal → Plain) → Begins make → (n : ℕ) (place : members.Placing) (a : Literal) (items : List Literal) → Near n (operation.updated make place a items)
updated-near make is n place a items = if-near n (members.member a items) _ _ (is n _) (is n _)

removed_at-near : (make : List Literal → Plain) → Begins make → (n : ℕ) (x : Literal) (items : List Literal) → Near n (operation.removed_at make x items)
removed_at-near make is n (literal.Int i) items = at-near n (index 0 (length items) i) _ (λ k. is n _)
removed_at-near make is n (literal.Text t) items = _

removed_member-near : (make : List Literal → Plain) → Begins make → (n : ℕ) (items : List Literal) (place : Option ℕ) → Near n (operation.removed_member make items place)
removed_member-near make is n items None = is n _
removed_member-near make is n items (Some k) = is n _

removed_key-near : (make : List Pair → Plain) → Begins make → (n : ℕ) (ps : List Pair) (x : Literal) (place : Option ℕ) → Near n (operation.removed_key make ps x place)
removed_key-near make is n ps x None = is n _
removed_key-near make is n ps x (Some k) = is n _

first-near : (make : List Literal → Plain) → Begins make → (n : ℕ) (items : List Literal) → Near n (operation.first_popped make items)
first-near make is n [] = is n _
first-near make is n (a ∷ items) = is n _

swapped-near : {A : Type 0} (make : List A → Plain) → Begins make → (n : ℕ) (i j : ℤ) (items : List A) → Near n (operation.swapped make i j items)
swapped-near make is n i j items = at-near n (index 0 (length items) i) _ (λ k. at-near n (index 0 (length items) j) _ (λ m. is n _))

-- the same statement by statement
append-near : (a : Literal) (v : Plain) → Near (stop v) (operation.append a v)
append-near a (Array items) = array _ _
append-near a (Slice start items) = longer start items a
append-near a (Deque items) = deque _ _
append-near a (OSet items) = joined-near OSet oset _ members.last a items
append-near a v = _

prepend-near : (a : Literal) (v : Plain) → Near (stop v) (operation.prepend a v)
prepend-near a (Deque items) = deque _ (a ∷ items)
prepend-near a v = _

insert-near : (a : Literal) (v : Plain) → Near (stop v) (operation.insert a v)
insert-near a (Set items) = joined-near Set set _ members.in_order a items
insert-near a (TSet items) = joined-near TSet tset _ members.in_order a items
insert-near a (Heap items) = heap _ _
insert-near a v = _

insert_at-near : (i : ℤ) (a : Literal) (v : Plain) → Near (stop v) (operation.insert_at i a v)
insert_at-near i a (Array items) = inserted-near Array array _ i a items
insert_at-near i a (Deque items) = inserted-near Deque deque _ i a items
insert_at-near i a (OSet items) = at-near _ (index 0 (length items + 1) i) _ (λ k. joined-near OSet oset (length items) (λ b others. insert others k b) a items)
insert_at-near i a v = _

update-near : (a : Literal) (v : Plain) → Near (stop v) (operation.update a v)
update-near a (Set items) = updated-near Set set _ members.in_order a items
update-near a (TSet items) = updated-near TSet tset _ members.in_order a items
update-near a (OSet items) = updated-near OSet oset _ members.last a items
update-near a v = _

remove-near : (x : Literal) (v : Plain) → Near (stop v) (operation.remove x v)
remove-near x (Array items) = removed_at-near Array array _ x items
remove-near x (Deque items) = removed_at-near Deque deque _ x items
remove-near x (Set items) = removed_member-near Set set _ items _
remove-near x (TSet items) = removed_member-near TSet tset _ items _
remove-near x (OSet items) = removed_member-near OSet oset _ items _
remove-near x (Dict ps) = removed_key-near Dict dict _ ps x _
remove-near x (ODict ps) = removed_key-near ODict odict _ ps x _
remove-near x (TDict ps) = removed_key-near TDict tdict _ ps x _
remove-near x v = _

remove_at-near : (i : ℤ) (v : Plain) → Near (stop v) (operation.remove_at i v)
remove_at-near i (OSet items) = at-near _ (index 0 (length items) i) _ (λ k. oset _ _)
remove_at-near i (ODict ps) = at-near _ (index 0 (length ps) i) _ (λ k. odict _ _)
remove_at-near i v = _

set-near : (i : ℤ) (a : Literal) (v : Plain) → Near (stop v) (operation.set i a v)
set-near i a (Array items) = at-near _ (index 0 (length items) i) _ (λ k. array _ _)
set-near i a (Slice start items) = at-near _ (index start (length items) i) _ (λ k. as-long start items k a)
set-near i a (Deque items) = at-near _ (index 0 (length items) i) _ (λ k. deque _ _)
set-near i a v = _

pop-near : (s : Side) (v : Plain) → Near (stop v) (operation.pop s v)
pop-near side.Last (Array items) = array _ _
pop-near side.First (Slice start items) = shorter start items
pop-near side.First (Deque items) = first-near Deque deque _ items
pop-near side.Last (Deque items) = deque _ _
pop-near side.Min (Heap items) = first-near Heap heap _ items
pop-near side.Max (Heap items) = heap _ _
pop-near s v = _

replace-near : (s : Side) (a : Literal) (v : Plain) → Near (stop v) (operation.replace s a v)
replace-near side.Min a (Heap items) = at-near _ (index 0 (length items) (pos 0)) _ (λ k. heap _ _)
replace-near side.Max a (Heap items) = at-near _ (index 1 (length items) (pos (length items))) _ (λ k. heap _ _)
replace-near s a v = _

swap-near : (i j : ℤ) (v : Plain) → Near (stop v) (operation.swap i j v)
swap-near i j (Array items) = swapped-near Array array _ i j items
swap-near i j (OSet items) = swapped-near OSet oset _ i j items
swap-near i j (ODict ps) = swapped-near ODict odict _ i j ps
swap-near i j v = _

reversed-near : (v : Plain) → Near (stop v) (operation.reversed v)
reversed-near (Array items) = array _ _
reversed-near (OSet items) = oset _ _
reversed-near (ODict ps) = odict _ _
reversed-near v = _

rotate-near : (c : ℤ) (v : Plain) → Near (stop v) (operation.rotate c v)
rotate-near c (Deque items) = at-near _ (index 0 (length items + 1) c) _ (λ k. deque _ _)
rotate-near c v = _

splice-near : (i j : ℤ) (atoms : List Literal) (v : Plain) → Near (stop v) (operation.splice i j atoms v)
splice-near i j atoms (Array items) = at-near _ (operation.stretch (length items) i j) _ (λ r. array _ _)
splice-near i j atoms v = _

reserve-near : (c : ℤ) (v : Plain) → Near (stop v) (operation.reserve c v)
reserve-near c (Array items) = at-near _ (index 0 (max_count + 1) c) _ (λ k. array _ _)
reserve-near c (Deque items) = at-near _ (index 0 (max_count + 1) c) _ (λ k. deque _ _)
reserve-near c v = _

clear-near : (v : Plain) → Near (stop v) (operation.clear v)
clear-near (Array items) = array _ []
clear-near v = _

rebase-near : (v : Plain) → Near (stop v) (operation.rebase v)
rebase-near (Slice start items) = array _ _
rebase-near v = _

put-near : (p : Pair) (v : Plain) → Near (stop v) (operation.put p v)
put-near p (Dict ps) = dict _ _
put-near p (ODict ps) = odict _ _
put-near p (TDict ps) = tdict _ _
put-near p v = _

change-near : (s : Layer) (v : Plain) → Near (stop v) (change_of s v)
change-near (Statement-F.Append l n a) v = append-near a v
change-near (Statement-F.Prepend l n a) v = prepend-near a v
change-near (Statement-F.Insert l n a) v = insert-near a v
change-near (Statement-F.InsertAt l n i a) v = insert_at-near i a v
change-near (Statement-F.Update l n a) v = update-near a v
change-near (Statement-F.Remove l n x) v = remove-near x v
change-near (Statement-F.RemoveAt l n i) v = remove_at-near i v
change-near (Statement-F.Set l n i a) v = set-near i a v
change-near (Statement-F.Replace l n s a) v = replace-near s a v
change-near (Statement-F.Swap l n i j) v = swap-near i j v
change-near (Statement-F.Reverse l n) v = reversed-near v
change-near (Statement-F.Rotate l n c) v = rotate-near c v
change-near (Statement-F.Splice l n i j atoms) v = splice-near i j atoms v
change-near (Statement-F.Reserve l n c) v = reserve-near c v
change-near (Statement-F.Clear l n) v = clear-near v
change-near (Statement-F.Rebase l n) v = rebase-near v
change-near (Statement-F.Put l n k x) v = put-near (record { key = k; value = x }) v
change-near s v = _

sets-near : (f : members.Placing → List Literal → List Literal → List Literal) (v w : Plain) → Near (stop v) (operation.on_sets f v w)
sets-near f (Set xs) (Set ys) = set _ _
sets-near f (TSet xs) (TSet ys) = tset _ _
sets-near f (OSet xs) (OSet ys) = oset _ _
sets-near f v w = _

extend-near : (v w : Plain) → Near (stop v) (operation.extend v w)
extend-near (Array xs) (Array ys) = array _ _
extend-near v w = _

merge-near : (b : Bool) (v w : Plain) → Near (stop v) (operation.merge b v w)
merge-near b (Dict xs) (Dict ys) = dict _ _
merge-near b (TDict xs) (TDict ys) = tdict _ _
merge-near b v w = _

within-near : (v w : Plain) → Near (stop v) (operation.within v w)
within-near (Dict xs) (Set ys) = dict _ _
within-near (TDict xs) (Set ys) = tdict _ _
within-near v w = _

change_by-near : (s : Layer) (v w : Plain) → Near (stop v) (change_by_of s v w)
change_by-near (Statement-F.Extend l n m) v w = extend-near v w
change_by-near (Statement-F.Union l n m) v w = sets-near members.union v w
change_by-near (Statement-F.Inter l n m) v w = sets-near (λ place. members.inter) v w
change_by-near (Statement-F.Minus l n m) v w = sets-near (λ place. members.minus) v w
change_by-near (Statement-F.SymDiff l n m) v w = sets-near members.symdiff v w
change_by-near (Statement-F.Merge l n m take) v w = merge-near take v w
change_by-near (Statement-F.Within l n m) v w = within-near v w
change_by-near s v w = _

-- what fits
fitting-near : (n : ℕ) (a : Answer) → Near n a → Near n (fitting a)
fitting-near n (Ok done) h = if-near n (nat_le (count done.value) max_count) (Ok done) (Err Full) h _
fitting-near n (Err why) h = _

after-near : (v : Plain) (a : Answer) → Near (stop v) a → count (value_after v a) ≤ max_count → stop (value_after v a) ≤ max (stop v + 1) max_count
after-near v (Ok done) h small = further (stop v) (stop done.value) (count done.value) h small
after-near v (Err why) h small = behind (stop v)

-- the last element of a value stands at most one index further after a statement, or below 65,536
pub turn-near : (s : Layer) (v : Plain) → count v ≤ max_count → stop (value_after v ((turn_of s).run v)) ≤ max (stop v + 1) max_count
turn-near (Statement-F.Pop l n side) v small = after-near v (operation.pop side v) (pop-near side v) (turn-small (Statement-F.Pop l n side) v small)
turn-near s v small = after-near v (fitting (change_of s v)) (fitting-near (stop v) (change_of s v) (change-near s v)) (turn-small s v small)

-- the same after a change by another value
pub turn_by-near : (s : Layer) (v w : Plain) → count v ≤ max_count → stop (value_after v ((turn_by_of s w).run v)) ≤ max (stop v + 1) max_count
turn_by-near s v w small = after-near v (fitting (change_by_of s v w)) (fitting-near (stop v) (change_by_of s v w) (change_by-near s v w)) (fits v (change_by_of s v w) small)
