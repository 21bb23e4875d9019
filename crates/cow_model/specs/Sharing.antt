-- The sharing rule: how many copies a statement allows, and when a name's value is taken to be alone in its storage.
use Rattle.std.specs.Prelude.{ℕ, ◌+◌, ◌*◌, min, ◌==◌, Bool, true, false, not, ◌||◌, ◌&&◌, length, count_by, if◌then◌else◌}
use Rattle.cow_model.specs.Hash.{literal_hash}
use Rattle.cow_model.specs.Plain.{size, is_tree, same_plain}
use Rattle.cow_model.specs.declared.plain.Literal.{Literal}
use Rattle.cow_model.specs.declared.value.Plain.{Plain}
use Rattle.cow_model.specs.declared.value.Plain.TheVariants.{Slice, TSet, TDict}
use Rattle.cow_model.specs.declared.statement.Side.{Side}
use Rattle.cow_model.specs.declared.statement.Side.TheVariants.{First}
use Rattle.cow_model.specs.declared.statement.Statement.{Statement}
use Rattle.cow_model.specs.declared.statement.TaskBlock.{TaskBlock}
use Rattle.cow_model.specs.declared.statement.Statement.TheOpen.{Statement-F}
use Rattle.cow_model.specs.declared.outcome.Entry.{Entry}

-- one level of a statement, as `out-Statement` opens it
abbrev pub Layer : Type 0
Layer = Statement-F Statement TaskBlock

-- the literal atoms of a statement: each allows one copy
abbrev pub literals : Layer → ℕ
literals (Statement-F.Let l n k atoms) = length atoms
literals (Statement-F.Append l n a) = 1
literals (Statement-F.Prepend l n a) = 1
literals (Statement-F.Insert l n a) = 1
literals (Statement-F.InsertAt l n i a) = 1
literals (Statement-F.Update l n a) = 1
literals (Statement-F.Remove l n x) = 1
literals (Statement-F.Set l n i a) = 1
literals (Statement-F.Get l n x) = 1
literals (Statement-F.Has l n a) = 1
literals (Statement-F.Place l n a) = 1
literals (Statement-F.Replace l n s a) = 1
literals (Statement-F.Splice l n i j atoms) = length atoms
literals (Statement-F.Put l n k v) = 2
literals statement = 0

-- a change allows the size of a value that isn't alone
abbrev pub own_cost_of : Bool → Plain → ℕ
own_cost_of alone v = if alone then 0 else size v

-- whether an atom has the hash of another
abbrev pub same_hash : Literal → Literal → Bool
same_hash a b = literal_hash a == literal_hash b

-- the copies of a trie's path: at most the whole, of weight w, or 224 and the keys of one hash
abbrev pub path_cost : ℕ → ℕ → ℕ → ℕ
path_cost w n alike = min (w * n) (w * (224 + alike))

-- a change of one key allows a path of a trie, and else what a change allows
abbrev pub key_cost_of : Literal → Bool → Plain → ℕ
key_cost_of a alone (TSet items) = path_cost 1 (length items) (count_by (same_hash a) items)
key_cost_of a alone (TDict pairs) = path_cost 2 (length pairs) (count_by (λ p. same_hash a p.key) pairs)
key_cost_of a alone v = own_cost_of alone v

-- the first element of a slice that isn't alone is one copy
abbrev pub pop_cost_of : Side → Bool → Plain → ℕ
pop_cost_of First alone (Slice start items) = if alone then 0 else 1
pop_cost_of side alone v = own_cost_of alone v

-- a change by another value: a trie is copied whole, alone or not
abbrev pub both_cost_of : Bool → Plain → ℕ
both_cost_of alone v = if is_tree v then size v else own_cost_of alone v

-- a change of an entry's value by another
abbrev pub both_cost : Entry → ℕ
both_cost e = both_cost_of e.alone e.value

-- the first element of a slice goes without a change of its storage; any other change parts it from those who share it
abbrev pub pop_parts : Side → Plain → Bool
pop_parts First (Slice start items) = false
pop_parts side v = true

-- whether a value is alone after a change: it was, or it differs and the change parts it
abbrev pub alone_if : Bool → Bool → Plain → Plain → Bool
alone_if parts alone v v' = alone || parts && not (same_plain v v')
