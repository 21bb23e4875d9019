-- A value of any kind that holds no counted item holds none after a statement that brings none in.
use Rattle.std.proofs.Common.{◌≡◌, ℕ, suc, ◌+◌, ◌<◌, ℤ, pos, negsuc, Bool, true, false, not, cond, List, [], ◌∷◌, ◌++◌, length, take, drop, reverse, swap, set, insert, remove, filter, fold, Option, Some, None, Ok, Err, count_by, refl, arith}
use Rattle.cow_model.specs.declared.memory.NoMemory.{NoMemory}
use Rattle.std.specs.Prelude.{Result, OnOk, OnErr, IfOk, nat_le, if◌then◌else◌}
use Rattle.std.specs.List.{sum_by}
use Rattle.std.proofs.lemmas.Grind.{common_steps}
use Rattle.std.proofs.lemmas.List.Sums.{sum_by-append, sum_by-take-drop, sum_by-set, sum_by-insert}
use Rattle.std.proofs.lemmas.List.Quantifiers.{position-Some}
use Rattle.std.proofs.lemmas.List.Sorted.{IsPermutation-swap, IsPermutation-reverse, sum_by-IsPermutation}
use Rattle.cow_model.specs.Atoms.{counted_in, is_tree_kind}
use Rattle.cow_model.specs.Changes.{change_of, change_by_of}
use Rattle.cow_model.specs.Members as members
use Rattle.cow_model.specs.Pairs as pairs
use Rattle.cow_model.specs.Operation as operation
use Rattle.cow_model.specs.Order.{same}
use Rattle.cow_model.specs.Operation.{Answer, fitting, index, stretch, at_place, joined, updated}
use Rattle.cow_model.specs.Plain.{count, is_tree, max_count}
use Rattle.cow_model.specs.Sharing.{Layer}
use Rattle.cow_model.specs.declared.plain.Literal.{Literal}
use Rattle.cow_model.specs.declared.plain.Literal.TheVariants as literal
use Rattle.cow_model.specs.declared.refusal.Refusal.TheVariants.{Full}
use Rattle.cow_model.specs.declared.statement.Kind.{Kind}
use Rattle.cow_model.specs.declared.statement.Kind.TheVariants as kind
use Rattle.cow_model.specs.declared.statement.Side.{Side}
use Rattle.cow_model.specs.declared.statement.Side.TheVariants as side
use Rattle.cow_model.specs.declared.statement.Statement.TheOpen.{Statement-F}
use Rattle.cow_model.specs.declared.value.Pair.{Pair}
use Rattle.cow_model.specs.declared.value.Plain.{Plain}
use Rattle.cow_model.specs.declared.value.Plain.TheVariants.{Array, Slice, Deque, Set, Dict, OSet, ODict, Heap, TSet, TDict}
use Rattle.cow_model.specs.Answers.{value_after}
use Rattle.cow_model.specs.Units.{units_of, pair_units}
use Rattle.cow_model.specs.Turns.{turn_of, turn_by_of}

-- nothing in a list has units
abbrev None-in : {A : Type 0} → (A → ℕ) → List A → Type 0
None-in w xs = sum_by w xs ≡ 0

module _ {A : Type 0} (w : A → ℕ) where
  append-none : (xs ys : List A) → None-in w xs → None-in w ys → None-in w (xs ++ ys)
  append-none xs ys h k = omega (arith, sum_by-append w xs ys, h, k)

  take-none : (xs : List A) (n : ℕ) → None-in w xs → None-in w (take n xs)
  take-none xs n h = omega (arith, sum_by-take-drop w xs n, h)

  drop-none : (xs : List A) (n : ℕ) → None-in w xs → None-in w (drop n xs)
  drop-none xs n h = omega (arith, sum_by-take-drop w xs n, h)

  insert-none : (xs : List A) (i : ℕ) (a : A) → None-in w xs → w a ≡ 0 → None-in w (insert xs i a)
  insert-none xs i a h k = omega (arith, sum_by-insert w xs i a, h, k)

  remove-none : (xs : List A) (i : ℕ) → None-in w xs → None-in w (remove xs i)
  remove-none xs i h = append-none (take i xs) (drop (suc i) xs) (take-none xs i h) (drop-none xs (suc i) h)

  reverse-none : (xs : List A) → None-in w xs → None-in w (reverse xs)
  reverse-none xs h = omega (arith, sum_by-IsPermutation w xs (reverse xs) (IsPermutation-reverse xs), h)

  swap-none : (xs : List A) (i j : ℕ) → i < length xs → j < length xs → None-in w xs → None-in w (swap xs i j)
  swap-none xs i j a b h = omega (arith, sum_by-IsPermutation w xs (swap xs i j) (IsPermutation-swap xs (swap xs i j) i j a b refl), h)

  set-none : (xs : List A) (i : ℕ) (a : A) → i < length xs → None-in w xs → w a ≡ 0 → None-in w (set xs i a)
  set-none xs i a lt h k = omega (arith, sum_by-set w xs i a a lt, h, k)

  -- an element before others
  cons-units : (x : A) (xs : List A) → sum_by w (x ∷ xs) ≡ w x + sum_by w xs
  cons-units x xs = let e : sum_by w (x ∷ xs) ≡ (0 + w x) + sum_by w xs = sum_by-append w (x ∷ []) xs in omega (arith, e)

  -- the head and the rest of such a list
  head-none : (x : A) (xs : List A) → None-in w (x ∷ xs) → w x ≡ 0
  head-none x xs h = omega (arith, cons-units x xs, h)

  tail-none : (x : A) (xs : List A) → None-in w (x ∷ xs) → None-in w xs
  tail-none x xs h = omega (arith, cons-units x xs, h)

  -- some of the elements
  kept-none : (b : Bool) (x : A) (xs : List A) → w x ≡ 0 → None-in w xs → None-in w (if b then x ∷ xs else xs)
  kept-none true x xs h k = let e = cons-units x xs in rw e (omega (arith, h, k))
  kept-none false x xs h k = k

  filter-none : (f : A → Bool) (xs : List A) → None-in w xs → None-in w (filter f xs)
  filter-none f [] h = refl
  filter-none f (x ∷ xs) h = kept-none (f x) x (filter f xs) (head-none x xs h) (filter-none f xs (tail-none x xs h))

-- elements added in turn
fold-none : {A B : Type 0} (w : A → ℕ) (v : B → ℕ) (f : List A → B → List A) → ((xs : List A) (b : B) → None-in w xs → v b ≡ 0 → None-in w (f xs b)) →
    (xs : List A) (bs : List B) → None-in w xs → None-in v bs → None-in w (fold f xs bs)
fold-none w v f step xs [] h k = h
fold-none w v f step xs (b ∷ bs) h k = fold-none w v f step (f xs b) bs (step xs b h (head-none v b bs k)) (tail-none v b bs k)

-- a trie is never bare: its nodes count
pub no-trie : (p : Literal → Bool) (v : Plain) → is_tree v ≡ true → units_of p v ≡ 0 → ⊥
no-trie p (TSet items) is h = omega (arith, h)
no-trie p (TDict pairs) is h = omega (arith, h)
no-trie p v is h = cc

-- what a statement makes holds nothing, if it isn't refused
abbrev Bare : (Literal → Bool) → Answer → Type 0
Bare p answer = IfOk answer (λ done. units_of p done.value ≡ 0)

-- the unit of an atom
abbrev unit : (Literal → Bool) → Literal → ℕ
unit p x = cond (p x) 1 0

-- a statement at a place
at-bare : {A : Type 0} (p : Literal → Bool) (place : Option A) (run : A → Answer) → ((k : A) → place ≡ Some k → Bare p (run k)) → Bare p (at_place place run)
at-bare p None run h = _
at-bare p (Some k) run h = h k refl

-- one of two
if-bare : (p : Literal → Bool) (b : Bool) (x y : Answer) → Bare p x → Bare p y → Bare p (if b then x else y)
if-bare p true x y h k = h
if-bare p false x y h k = k

-- an index names a place that is there
index-within : (start n : ℕ) (i : ℤ) (k : ℕ) → index start n i ≡ Some k → k < n
index-within start n (pos i) k e = grind (arith, common_steps, e)
index-within start n (negsuc i) k e = cc

module _ (p : Literal → Bool) (a : Literal) (k : unit p a ≡ 0) where
  -- a new member in its place
  placed : (items : List Literal) → count_by p items ≡ 0 → count_by p (members.in_order a items) ≡ 0
  placed items h = insert-none (unit p) items _ a h k

  -- or behind all others
  behind : (items : List Literal) → count_by p items ≡ 0 → count_by p (items ++ a ∷ []) ≡ 0
  behind items h = append-none (unit p) items (a ∷ []) h (omega (arith, k))

  append-bare : (v : Plain) → units_of p v ≡ 0 → Bare p (operation.append a v)
  append-bare (Array items) h = behind items h
  append-bare (Slice start items) h = behind items h
  append-bare (Deque items) h = behind items h
  append-bare (OSet items) h = if-bare p (members.member a items) _ _ h (behind items h)
  append-bare v h = _

  prepend-bare : (v : Plain) → units_of p v ≡ 0 → Bare p (operation.prepend a v)
  prepend-bare (Deque items) h = append-none (unit p) (a ∷ []) items (omega (arith, k)) h
  prepend-bare v h = _

  insert-bare : (v : Plain) → units_of p v ≡ 0 → Bare p (operation.insert a v)
  insert-bare (Set items) h = if-bare p (members.member a items) _ _ h (placed items h)
  insert-bare (TSet items) h = absurd (no-trie p (TSet items) refl h)
  insert-bare (Heap items) h = placed items h
  insert-bare v h = _

  insert_at-bare : (i : ℤ) (v : Plain) → units_of p v ≡ 0 → Bare p (operation.insert_at i a v)
  insert_at-bare i (Array items) h = at-bare p (index 0 (length items + 1) i) _ (λ m e. insert-none (unit p) items m a h k)
  insert_at-bare i (Deque items) h = at-bare p (index 0 (length items + 1) i) _ (λ m e. insert-none (unit p) items m a h k)
  insert_at-bare i (OSet items) h = at-bare p (index 0 (length items + 1) i) _ (λ m e. if-bare p (members.member a items) _ _ h (insert-none (unit p) items m a h k))
  insert_at-bare i v h = _

  update-bare : (v : Plain) → units_of p v ≡ 0 → Bare p (operation.update a v)
  update-bare (Set items) h = if-bare p (members.member a items) _ _ h (placed items h)
  update-bare (TSet items) h = absurd (no-trie p (TSet items) refl h)
  update-bare (OSet items) h = if-bare p (members.member a items) _ _ h (behind items h)
  update-bare v h = _

  set-bare : (i : ℤ) (v : Plain) → units_of p v ≡ 0 → Bare p (operation.set i a v)
  set-bare i (Array items) h = at-bare p (index 0 (length items) i) _ (λ m e. set-none (unit p) items m a (index-within 0 (length items) i m e) h k)
  set-bare i (Slice start items) h = at-bare p (index start (length items) i) _ (λ m e. set-none (unit p) items m a (index-within start (length items) i m e) h k)
  set-bare i (Deque items) h = at-bare p (index 0 (length items) i) _ (λ m e. set-none (unit p) items m a (index-within 0 (length items) i m e) h k)
  set-bare i v h = _

  replace-bare : (s : Side) (v : Plain) → units_of p v ≡ 0 → Bare p (operation.replace s a v)
  replace-bare side.Min (Heap items) h = at-bare p (index 0 (length items) (pos 0)) _ (λ m e. placed (remove items m) (remove-none (unit p) items m h))
  replace-bare side.Max (Heap items) h = at-bare p (index 1 (length items) (pos (length items))) _ (λ m e. placed (remove items m) (remove-none (unit p) items m h))
  replace-bare s v h = _

module _ (p : Literal → Bool) where
  -- a member or a key that goes
  member-bare : (make : List Literal → Plain) → ((xs : List Literal) → units_of p (make xs) ≡ count_by p xs) → (items : List Literal) (place : Option ℕ) → count_by p items ≡ 0 → Bare p (operation.removed_member make items place)
  member-bare make is items None h = rw (is items) h
  member-bare make is items (Some m) h = rw (is (remove items m)) (remove-none (unit p) items m h)

  key-bare : (make : List Pair → Plain) → ((xs : List Pair) → units_of p (make xs) ≡ sum_by (pair_units p) xs) → (ps : List Pair) (x : Literal) (place : Option ℕ) → sum_by (pair_units p) ps ≡ 0 → Bare p (operation.removed_key make ps x place)
  key-bare make is ps x None h = rw (is ps) h
  key-bare make is ps x (Some m) h = rw (is (remove ps m)) (remove-none (pair_units p) ps m h)

  remove-bare : (x : Literal) (v : Plain) → units_of p v ≡ 0 → Bare p (operation.remove x v)
  remove-bare (literal.Int i) (Array items) h = at-bare p (index 0 (length items) i) _ (λ m e. remove-none (unit p) items m h)
  remove-bare (literal.Int i) (Deque items) h = at-bare p (index 0 (length items) i) _ (λ m e. remove-none (unit p) items m h)
  remove-bare (literal.Text t) (Array items) h = _
  remove-bare (literal.Text t) (Deque items) h = _
  remove-bare x (Set items) h = member-bare Set (λ xs. refl) items (members.place_in x items) h
  remove-bare x (TSet items) h = absurd (no-trie p (TSet items) refl h)
  remove-bare x (OSet items) h = member-bare OSet (λ xs. refl) items (members.place_in x items) h
  remove-bare x (Dict ps) h = key-bare Dict (λ xs. refl) ps x (pairs.place_in x ps) h
  remove-bare x (ODict ps) h = key-bare ODict (λ xs. refl) ps x (pairs.place_in x ps) h
  remove-bare x (TDict ps) h = absurd (no-trie p (TDict ps) refl h)
  remove-bare x v h = _

  remove_at-bare : (i : ℤ) (v : Plain) → units_of p v ≡ 0 → Bare p (operation.remove_at i v)
  remove_at-bare i (OSet items) h = at-bare p (index 0 (length items) i) _ (λ m e. remove-none (unit p) items m h)
  remove_at-bare i (ODict ps) h = at-bare p (index 0 (length ps) i) _ (λ m e. remove-none (pair_units p) ps m h)
  remove_at-bare i v h = _

  -- two elements change places
  swapped-bare : {A : Type 0} (w : A → ℕ) (make : List A → Plain) → ((xs : List A) → units_of p (make xs) ≡ sum_by w xs) → (i j : ℤ) (items : List A) → sum_by w items ≡ 0 → Bare p (operation.swapped make i j items)
  swapped-bare w make is i j items h = at-bare p (index 0 (length items) i) _ (λ a e. at-bare p (index 0 (length items) j) _ (λ b f. rw (is (swap items a b)) (swap-none w items a b (index-within 0 (length items) i a e) (index-within 0 (length items) j b f) h)))

  swap-bare : (i j : ℤ) (v : Plain) → units_of p v ≡ 0 → Bare p (operation.swap i j v)
  swap-bare i j (Array items) h = swapped-bare (unit p) Array (λ xs. refl) i j items h
  swap-bare i j (OSet items) h = swapped-bare (unit p) OSet (λ xs. refl) i j items h
  swap-bare i j (ODict ps) h = swapped-bare (pair_units p) ODict (λ xs. refl) i j ps h
  swap-bare i j v h = _

  reversed-bare : (v : Plain) → units_of p v ≡ 0 → Bare p (operation.reversed v)
  reversed-bare (Array items) h = reverse-none (unit p) items h
  reversed-bare (OSet items) h = reverse-none (unit p) items h
  reversed-bare (ODict ps) h = reverse-none (pair_units p) ps h
  reversed-bare v h = _

  rotate-bare : (i : ℤ) (v : Plain) → units_of p v ≡ 0 → Bare p (operation.rotate i v)
  rotate-bare i (Deque items) h = at-bare p (index 0 (length items + 1) i) _ (λ m e. append-none (unit p) (drop m items) (take m items) (drop-none (unit p) items m h) (take-none (unit p) items m h))
  rotate-bare i v h = _

  splice-bare : (i j : ℤ) (atoms : List Literal) (v : Plain) → count_by p atoms ≡ 0 → units_of p v ≡ 0 → Bare p (operation.splice i j atoms v)
  splice-bare i j atoms (Array items) k h = at-bare p (stretch (length items) i j) _ (λ r e. append-none (unit p) (take r.0 items ++ atoms) (drop r.1 items) (append-none (unit p) (take r.0 items) atoms (take-none (unit p) items r.0 h) k) (drop-none (unit p) items r.1 h))
  splice-bare i j atoms v k h = _

  reserve-bare : (i : ℤ) (v : Plain) → units_of p v ≡ 0 → Bare p (operation.reserve i v)
  reserve-bare i (Array items) h = at-bare p (index 0 (max_count + 1) i) _ (λ m e. h)
  reserve-bare i (Deque items) h = at-bare p (index 0 (max_count + 1) i) _ (λ m e. h)
  reserve-bare i v h = _

  clear-bare : (v : Plain) → units_of p v ≡ 0 → Bare p (operation.clear v)
  clear-bare (Array items) h = refl
  clear-bare v h = _

  rebase-bare : (v : Plain) → units_of p v ≡ 0 → Bare p (operation.rebase v)
  rebase-bare (Slice start items) h = h
  rebase-bare v h = _

  -- the first and the last element go
  first-bare : (make : List Literal → Plain) → ((xs : List Literal) → units_of p (make xs) ≡ count_by p xs) → (items : List Literal) → count_by p items ≡ 0 → Bare p (operation.first_popped make items)
  first-bare make is [] h = rw (is []) refl
  first-bare make is (a ∷ items) h = rw (is items) (tail-none (unit p) a items h)

  slice-bare : (start : ℕ) (items : List Literal) → count_by p items ≡ 0 → Bare p (operation.slice_popped start items)
  slice-bare start [] h = refl
  slice-bare start (a ∷ items) h = tail-none (unit p) a items h

  pop-bare : (s : Side) (v : Plain) → units_of p v ≡ 0 → Bare p (operation.pop s v)
  pop-bare side.Last (Array items) h = take-none (unit p) items _ h
  pop-bare side.First (Slice start items) h = slice-bare start items h
  pop-bare side.First (Deque items) h = first-bare Deque (λ xs. refl) items h
  pop-bare side.Last (Deque items) h = take-none (unit p) items _ h
  pop-bare side.Min (Heap items) h = first-bare Heap (λ xs. refl) items h
  pop-bare side.Max (Heap items) h = take-none (unit p) items _ h
  pop-bare s v h = _

  -- a pair in its place, or put as a new one
  pair-placed : (q : Pair) (ps : List Pair) → pair_units p q ≡ 0 → sum_by (pair_units p) ps ≡ 0 → sum_by (pair_units p) (pairs.in_order q ps) ≡ 0
  pair-placed q ps k h = insert-none (pair_units p) ps _ q h k

  pair-behind : (q : Pair) (ps : List Pair) → pair_units p q ≡ 0 → sum_by (pair_units p) ps ≡ 0 → sum_by (pair_units p) (pairs.last q ps) ≡ 0
  pair-behind q ps k h = append-none (pair_units p) ps (q ∷ []) h (omega (arith, k))

-- what places a pair brings in nothing
abbrev Places : (Literal → Bool) → pairs.Placing → Type 0
Places p place = (q : Pair) (ps : List Pair) → pair_units p q ≡ 0 → sum_by (pair_units p) ps ≡ 0 → sum_by (pair_units p) (place q ps) ≡ 0

-- what places an atom brings in nothing
abbrev Joins : (Literal → Bool) → members.Placing → Type 0
Joins p place = (a : Literal) (xs : List Literal) → unit p a ≡ 0 → count_by p xs ≡ 0 → count_by p (place a xs) ≡ 0

module _ (p : Literal → Bool) where
  put-at : (place : pairs.Placing) → Places p place → (i : Option ℕ) (q : Pair) (ps : List Pair) → pairs.place_in q.key ps ≡ i → pair_units p q ≡ 0 → sum_by (pair_units p) ps ≡ 0 → sum_by (pair_units p) (pairs.put_at place i q ps) ≡ 0
  put-at place is None q ps e k h = is q ps k h
  put-at place is (Some i) q ps e k h = set-none (pair_units p) ps i q ((position-Some (λ x. same q.key x.key) ps i q e).0) h k

  put-none : (place : pairs.Placing) → Places p place → (ps : List Pair) (q : Pair) → sum_by (pair_units p) ps ≡ 0 → pair_units p q ≡ 0 → sum_by (pair_units p) (pairs.put place ps q) ≡ 0
  put-none place is ps q h k = put-at place is (pairs.place_in q.key ps) q ps refl k h

  put-new-at : (place : pairs.Placing) → Places p place → (i : Option ℕ) (q : Pair) (ps : List Pair) → pair_units p q ≡ 0 → sum_by (pair_units p) ps ≡ 0 → sum_by (pair_units p) (pairs.put_new_at place i q ps) ≡ 0
  put-new-at place is None q ps k h = is q ps k h
  put-new-at place is (Some i) q ps k h = h

  put-new-none : (place : pairs.Placing) → Places p place → (ps : List Pair) (q : Pair) → sum_by (pair_units p) ps ≡ 0 → pair_units p q ≡ 0 → sum_by (pair_units p) (pairs.put_new place ps q) ≡ 0
  put-new-none place is ps q h k = put-new-at place is (pairs.place_in q.key ps) q ps k h

  put-bare : (q : Pair) (v : Plain) → pair_units p q ≡ 0 → units_of p v ≡ 0 → Bare p (operation.put q v)
  put-bare q (Dict ps) k h = put-none pairs.in_order (pair-placed p) ps q h k
  put-bare q (ODict ps) k h = put-none pairs.last (pair-behind p) ps q h k
  put-bare q (TDict ps) k h = absurd (no-trie p (TDict ps) refl h)
  put-bare q v k h = _

  -- the units of a pair of two atoms
  pair-none : (x y : Literal) → count_by p (x ∷ y ∷ []) ≡ 0 → pair_units p (record { key = x; value = y }) ≡ 0
  pair-none x y h = omega (arith, h)

  -- a statement that changes one value
  pub change-bare : (s : Layer) (v : Plain) → units_of p v ≡ 0 → counted_in p s ≡ 0 → Bare p (change_of s v)
  change-bare (Statement-F.Append l n a) v h k = append-bare p a (omega (arith, k)) v h
  change-bare (Statement-F.Prepend l n a) v h k = prepend-bare p a (omega (arith, k)) v h
  change-bare (Statement-F.Insert l n a) v h k = insert-bare p a (omega (arith, k)) v h
  change-bare (Statement-F.InsertAt l n i a) v h k = insert_at-bare p a (omega (arith, k)) i v h
  change-bare (Statement-F.Update l n a) v h k = update-bare p a (omega (arith, k)) v h
  change-bare (Statement-F.Remove l n x) v h k = remove-bare p x v h
  change-bare (Statement-F.RemoveAt l n i) v h k = remove_at-bare p i v h
  change-bare (Statement-F.Set l n i a) v h k = set-bare p a (omega (arith, k)) i v h
  change-bare (Statement-F.Replace l n s a) v h k = replace-bare p a (omega (arith, k)) s v h
  change-bare (Statement-F.Swap l n i j) v h k = swap-bare p i j v h
  change-bare (Statement-F.Reverse l n) v h k = reversed-bare p v h
  change-bare (Statement-F.Rotate l n c) v h k = rotate-bare p c v h
  change-bare (Statement-F.Splice l n i j atoms) v h k = splice-bare p i j atoms v k h
  change-bare (Statement-F.Reserve l n c) v h k = reserve-bare p c v h
  change-bare (Statement-F.Clear l n) v h k = clear-bare p v h
  change-bare (Statement-F.Rebase l n) v h k = rebase-bare p v h
  change-bare (Statement-F.Put l n x y) v h k = put-bare (record { key = x; value = y }) v (pair-none x y k) h
  change-bare s v h k = _

  -- what the value is then
  after-bare : (v : Plain) (a : Answer) → units_of p v ≡ 0 → Bare p a → units_of p (value_after v a) ≡ 0
  after-bare v (Ok done) h k = k
  after-bare v (Err why) h k = h

  fitting-bare : (a : Answer) → Bare p a → Bare p (fitting a)
  fitting-bare (Ok done) k = if-bare p (nat_le (count done.value) max_count) (Ok done) (Err Full) k _
  fitting-bare (Err why) k = _

  -- a value of any kind stays bare
  pub turn-bare : (s : Layer) (v : Plain) → units_of p v ≡ 0 → counted_in p s ≡ 0 → units_of p (value_after v ((turn_of s).run v)) ≡ 0
  turn-bare (Statement-F.Pop l n side) v h k = after-bare v (operation.pop side v) h (pop-bare p side v h)
  turn-bare s v h k = after-bare v (fitting (change_of s v)) h (fitting-bare (change_of s v) (change-bare s v h k))

  -- a member of a set
  with-none : (place : members.Placing) → Joins p place → (xs : List Literal) (a : Literal) → count_by p xs ≡ 0 → unit p a ≡ 0 → count_by p (members.with_member place xs a) ≡ 0
  with-none place is xs a h k = elim (members.member a xs) as (λ b. count_by p (if b then xs else place a xs) ≡ 0) [ true ↦ h | false ↦ is a xs k h ]

  union-none : (place : members.Placing) → Joins p place → (xs ys : List Literal) → count_by p xs ≡ 0 → count_by p ys ≡ 0 → count_by p (members.union place xs ys) ≡ 0
  union-none place is xs ys h k = fold-none (unit p) (unit p) (members.with_member place) (with-none place is) xs ys h k

  -- an operation on two sets
  sets-bare : (f : members.Placing → List Literal → List Literal → List Literal) → ((place : members.Placing) → Joins p place → (xs ys : List Literal) → count_by p xs ≡ 0 → count_by p ys ≡ 0 → count_by p (f place xs ys) ≡ 0) →
      (v w : Plain) → units_of p v ≡ 0 → units_of p w ≡ 0 → Bare p (operation.on_sets f v w)
  sets-bare f is (Set xs) (Set ys) h k = is members.in_order (λ a items one. placed p a one items) xs ys h k
  sets-bare f is (TSet xs) (TSet ys) h k = absurd (no-trie p (TSet xs) refl h)
  sets-bare f is (OSet xs) (OSet ys) h k = is members.last (λ a items one. behind p a one items) xs ys h k
  sets-bare f is v w h k = _

  inter-none : (place : members.Placing) → Joins p place → (xs ys : List Literal) → count_by p xs ≡ 0 → count_by p ys ≡ 0 → count_by p (members.inter xs ys) ≡ 0
  inter-none place is xs ys h k = filter-none (unit p) (λ a. members.member a ys) xs h

  minus-none : (place : members.Placing) → Joins p place → (xs ys : List Literal) → count_by p xs ≡ 0 → count_by p ys ≡ 0 → count_by p (members.minus xs ys) ≡ 0
  minus-none place is xs ys h k = filter-none (unit p) (λ a. not (members.member a ys)) xs h

  symdiff-none : (place : members.Placing) → Joins p place → (xs ys : List Literal) → count_by p xs ≡ 0 → count_by p ys ≡ 0 → count_by p (members.symdiff place xs ys) ≡ 0
  symdiff-none place is xs ys h k = union-none place is (members.minus xs ys) (members.minus ys xs) (minus-none place is xs ys h k) (minus-none place is ys xs k h)

  -- two maps
  merged-none : (place : pairs.Placing) → Places p place → (b : Bool) (xs ys : List Pair) → sum_by (pair_units p) xs ≡ 0 → sum_by (pair_units p) ys ≡ 0 → sum_by (pair_units p) (pairs.merge place b xs ys) ≡ 0
  merged-none place is true xs ys h k = fold-none (pair_units p) (pair_units p) (pairs.put place) (put-none place is) xs ys h k
  merged-none place is false xs ys h k = fold-none (pair_units p) (pair_units p) (pairs.put_new place) (put-new-none place is) xs ys h k

  merge-bare : (b : Bool) (v w : Plain) → units_of p v ≡ 0 → units_of p w ≡ 0 → Bare p (operation.merge b v w)
  merge-bare b (Dict xs) (Dict ys) h k = merged-none pairs.in_order (pair-placed p) b xs ys h k
  merge-bare b (TDict xs) (TDict ys) h k = absurd (no-trie p (TDict xs) refl h)
  merge-bare b v w h k = _

  within-bare : (v w : Plain) → units_of p v ≡ 0 → units_of p w ≡ 0 → Bare p (operation.within v w)
  within-bare (Dict xs) (Set ys) h k = filter-none (pair_units p) (λ q. members.member q.key ys) xs h
  within-bare (TDict xs) (Set ys) h k = absurd (no-trie p (TDict xs) refl h)
  within-bare v w h k = _

  extend-bare : (v w : Plain) → units_of p v ≡ 0 → units_of p w ≡ 0 → Bare p (operation.extend v w)
  extend-bare (Array xs) (Array ys) h k = append-none (unit p) xs ys h k
  extend-bare v w h k = _

  change_by-bare : (s : Layer) (v w : Plain) → units_of p v ≡ 0 → units_of p w ≡ 0 → Bare p (change_by_of s v w)
  change_by-bare (Statement-F.Extend l n m) v w h k = extend-bare v w h k
  change_by-bare (Statement-F.Union l n m) v w h k = sets-bare members.union union-none v w h k
  change_by-bare (Statement-F.Inter l n m) v w h k = sets-bare (λ place. members.inter) inter-none v w h k
  change_by-bare (Statement-F.Minus l n m) v w h k = sets-bare (λ place. members.minus) minus-none v w h k
  change_by-bare (Statement-F.SymDiff l n m) v w h k = sets-bare members.symdiff symdiff-none v w h k
  change_by-bare (Statement-F.Merge l n m take) v w h k = merge-bare take v w h k
  change_by-bare (Statement-F.Within l n m) v w h k = within-bare v w h k
  change_by-bare s v w h k = _

  -- a value of any kind stays bare by another one
  pub turn_by-bare : (s : Layer) (v w : Plain) → units_of p v ≡ 0 → units_of p w ≡ 0 → units_of p (value_after v ((turn_by_of s w).run v)) ≡ 0
  turn_by-bare s v w h k = after-bare v (fitting (change_by_of s v w)) h (fitting-bare (change_by_of s v w) (change_by-bare s v w h k))

  -- the units of pairs are those of their atoms
  paired-none : (atoms : List Literal) → count_by p atoms ≡ 0 → sum_by (pair_units p) (pairs.paired atoms) ≡ 0
  paired-none [] h = refl
  paired-none (x ∷ []) h = refl
  paired-none (x ∷ y ∷ atoms) h =
      let one = cons-units (unit p) x (y ∷ atoms) in
      let two = cons-units (unit p) y atoms in
      let rest = paired-none atoms (omega (arith, one, two, h)) in
      let whole = cons-units (pair_units p) (record { key = x; value = y }) (pairs.paired atoms) in
      omega (arith, one, two, h, rest, whole)

  -- a new value is bare where its literals are
  pub made-bare : (k : Kind) (atoms : List Literal) → is_tree_kind k ≡ false → count_by p atoms ≡ 0 → units_of p (operation.made k atoms) ≡ 0
  made-bare kind.Array atoms flat h = h
  made-bare kind.Deque atoms flat h = h
  made-bare kind.Set atoms flat h = union-none members.in_order (λ a items one. placed p a one items) [] atoms refl h
  made-bare kind.TSet atoms flat h = cc
  made-bare kind.OSet atoms flat h = union-none members.last (λ a items one. behind p a one items) [] atoms refl h
  made-bare kind.Heap atoms flat h = fold-none (unit p) (unit p) (λ xs a. members.in_order a xs) (λ xs a none one. placed p a one xs none) [] atoms refl h
  made-bare kind.Dict atoms flat h = fold-none (pair_units p) (pair_units p) (pairs.put pairs.in_order) (put-none pairs.in_order (pair-placed p)) [] (pairs.paired atoms) refl (paired-none atoms h)
  made-bare kind.TDict atoms flat h = cc
  made-bare kind.ODict atoms flat h = fold-none (pair_units p) (pair_units p) (pairs.put pairs.last) (put-none pairs.last (pair-behind p)) [] (pairs.paired atoms) refl (paired-none atoms h)

-- a call that gives the value or keeps it leaves no more
pub after-call : (p : Literal → Bool) {X : Type 0} (T : Type 0) (r : Result X NoMemory) (v v' : Plain) (a : Answer) → OnOk r (v' ≡ value_after v a) → OnErr r ((v' ≡ v) × T) → units_of p v ≡ 0 → units_of p (value_after v a) ≡ 0 → units_of p v' ≡ 0
after-call p T (Ok x) v v' a ok err before after = rw ok after
after-call p T (Err x) v v' a ok err before after = rw err.0 before
