-- What a statement may copy of a value of any kind.
use Rattle.std.proofs.Common.{◌≡◌, ℕ, ◌+◌, ◌*◌, ◌≤◌, count_by, Bool, true, false, length, refl, arith}
use Rattle.cow_model.specs.Plain.{count, max_count}
use Rattle.cow_model.specs.Sharing.{Layer, path_cost, same_hash}
use Rattle.cow_model.specs.declared.plain.Literal.{Literal}
use Rattle.cow_model.specs.declared.statement.Side.{Side}
use Rattle.cow_model.specs.declared.statement.Side.TheVariants as side
use Rattle.cow_model.specs.declared.statement.Statement.TheOpen.{Statement-F}
use Rattle.cow_model.specs.declared.value.Plain.{Plain}
use Rattle.cow_model.specs.declared.value.Plain.TheVariants.{Slice, TSet, TDict}
use Rattle.cow_model.proofs.Counts.{size-count}
use Rattle.cow_model.specs.Turns.{turn_of, added_of}
use Rattle.cow_model.specs.Sharing.{own_cost_of, key_cost_of, pop_cost_of, both_cost_of}

-- what isn't alone costs at least what is alone does: a change's own cost
pub own-falls : (a : Bool) (v : Plain) → own_cost_of true v ≤ own_cost_of a v
own-falls true v = omega arith
own-falls false v = omega arith

-- the cost of one key
pub key-falls : (x : Literal) (a : Bool) (v : Plain) → key_cost_of x true v ≤ key_cost_of x a v
key-falls x a (TSet items) = omega arith
key-falls x a (TDict pairs) = omega arith
key-falls x true v = omega arith
key-falls x false v = omega arith

-- the cost of a pop
pub pop-falls : (s : Side) (a : Bool) (v : Plain) → pop_cost_of s true v ≤ pop_cost_of s a v
pop-falls side.First true (Slice start items) = omega arith
pop-falls side.First false (Slice start items) = omega arith
pop-falls s true v = omega arith
pop-falls s false v = omega arith

-- the cost of a statement
pub cost-falls : (s : Layer) (a : Bool) (v : Plain) → (turn_of s).cost true v ≤ (turn_of s).cost a v
cost-falls (Statement-F.Insert l n x) a v = key-falls x a v
cost-falls (Statement-F.Update l n x) a v = key-falls x a v
cost-falls (Statement-F.Remove l n x) a v = key-falls x a v
cost-falls (Statement-F.Put l n k x) a v = key-falls k a v
cost-falls (Statement-F.Pop l n side) a v = pop-falls side a v
cost-falls s a v = own-falls a v

-- a path is no more than the whole
path-most : (w n k : ℕ) → path_cost w n k ≤ w * n
path-most w n k = search arith

-- no statement costs more than two copies an element, but a front
pub own-most : (a : Bool) (v : Plain) → own_cost_of a v ≤ 2 * count v
own-most true v = omega arith
own-most false v = size-count v

-- what a change may copy by what the handle knows is no more than by a flag that stands for it
pub cost-kept : (s : Layer) (a b : Bool) (v : Plain) → (b ≡ true → a ≡ true) → (turn_of s).cost a v ≤ (turn_of s).cost b v
cost-kept s true b v h = cost-falls s b v
cost-kept s false false v h = omega arith
cost-kept s false true v h = let wrong : false ≡ true = h refl in cc

-- the same of a change by another value
pub both-falls : (a : Bool) (v : Plain) → both_cost_of true v ≤ both_cost_of a v
both-falls a (TSet items) = omega arith
both-falls a (TDict pairs) = omega arith
both-falls true v = omega arith
both-falls false v = omega arith

pub both-kept : (a b : Bool) (v : Plain) → (b ≡ true → a ≡ true) → both_cost_of a v ≤ both_cost_of b v
both-kept true b v h = both-falls b v
both-kept false false v h = omega arith
both-kept false true v h = let wrong : false ≡ true = h refl in cc

-- no more is added than the other has
pub added-most : (s : Layer) (v : Plain) → count v ≤ max_count → added_of s v ≤ 2 * max_count
added-most (Statement-F.Inter l n m) v small = omega arith
added-most (Statement-F.Minus l n m) v small = omega arith
added-most (Statement-F.Within l n m) v small = omega arith
added-most s v small = let most = size-count v in omega (arith, most, small)

-- no statement may copy more than two atoms an element, or one
key-most : (x : Literal) (a : Bool) (v : Plain) → key_cost_of x a v ≤ 2 * count v
key-most x a (TSet items) = let most = path-most 1 (length items) (count_by (same_hash x) items) in omega (arith, most)
key-most x a (TDict pairs) = let most = path-most 2 (length pairs) (count_by (λ p. same_hash x p.key) pairs) in omega (arith, most)
key-most x a v = own-most a v

pop-most : (s : Side) (a : Bool) (v : Plain) → pop_cost_of s a v ≤ 2 * count v + 1
pop-most side.First true (Slice start items) = omega arith
pop-most side.First false (Slice start items) = omega arith
pop-most s a v = let most = own-most a v in omega (arith, most)

pub cost-most : (s : Layer) (a : Bool) (v : Plain) → (turn_of s).cost a v ≤ 2 * count v + 1
cost-most (Statement-F.Insert l n x) a v = let most = key-most x a v in omega (arith, most)
cost-most (Statement-F.Update l n x) a v = let most = key-most x a v in omega (arith, most)
cost-most (Statement-F.Remove l n x) a v = let most = key-most x a v in omega (arith, most)
cost-most (Statement-F.Put l n k x) a v = let most = key-most k a v in omega (arith, most)
cost-most (Statement-F.Pop l n side) a v = pop-most side a v
cost-most s a v = let most = own-most a v in omega (arith, most)

-- nor a change by another value
pub both-most : (a : Bool) (v : Plain) → both_cost_of a v ≤ 2 * count v
both-most a (TSet items) = omega arith
both-most a (TDict pairs) = omega arith
both-most true v = own-most true v
both-most false v = own-most false v
