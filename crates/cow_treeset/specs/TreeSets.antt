-- The words in which contracts speak of tree sets. A tree set is the ascending list of its members.
use Rattle.std.specs.Prelude.{◌≡◌, ℕ, ◌+◌, ◌==◌, List, map, count_by}
use Rattle.cow_model.specs.Flat.{Flat, Stays}
use Rattle.cow_model.specs.Members.{ascending}
use Rattle.cow_model.specs.declared.plain.Literal.{Literal}
use Rattle.cow_model.specs.declared.value.Pair.{Pair}

-- the set of the keys of pairs
abbrev pub set_of : List Pair → List Literal
set_of ps = ascending (map (λ p. p.key) ps)

-- how many members have a hash
abbrev pub alike : (Literal → ℕ) → ℕ → List Literal → ℕ
alike hash_of hash v = count_by (λ a. hash_of a == hash) v

-- the members that the nodes on the path of a key have at most: 32 on each of seven levels, and those of its hash
abbrev pub on_path : (Literal → ℕ) → Literal → List Literal → ℕ
on_path hash_of k v = 224 + alike hash_of (hash_of k) v

-- a change was refused, and the key is handed back
abbrev pub HandsKey : {K E : Type 0} → K → (before after : Flat (List Literal)) → E × K → Type 0
HandsKey k before after e = Stays before after × (e.1 ≡ k)

-- the plain key of what a trie is built of: a hash, a key and a value that says nothing
abbrev pub key_of : {K V : Type 0} → (K → Literal) → ℕ × K × V → Literal
key_of plain t = plain t.1

-- the key stands beside its hash
abbrev pub IsHashed : {K V : Type 0} → (Literal → ℕ) → (K → Literal) → ℕ × K × V → Type 0
IsHashed hash_of plain t = t.0 ≡ hash_of (plain t.1)
