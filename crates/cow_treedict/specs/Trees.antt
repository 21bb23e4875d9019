-- The words in which contracts speak of trees. A tree is the list of its pairs by ascending key.
use Rattle.std.specs.Prelude.{◌≡◌, ℕ, ◌+◌, ◌==◌, not, List, [], fold, count_by}
use Rattle.cow_model.specs.Flat.{Flat, Stays}
use Rattle.cow_model.specs.Pairs.{in_order, put}
use Rattle.cow_model.specs.declared.plain.Literal.{Literal}
use Rattle.cow_model.specs.declared.value.Pair.{Pair}
use Rattle.cow_dict.specs.Dictionaries.{has, kept_by}
use Rattle.cow_dict.specs.Storages.{pair_of}

-- how many keys have a hash
abbrev pub alike : (Literal → ℕ) → ℕ → List Pair → ℕ
alike hash_of hash v = count_by (λ p. hash_of p.key == hash) v

-- the pairs that the nodes on the path of a key have at most: 32 on each of seven levels, and those of its hash
abbrev pub on_path : (Literal → ℕ) → Literal → List Pair → ℕ
on_path hash_of k v = 224 + alike hash_of (hash_of k) v

-- a change was refused, and key and value are handed back
abbrev pub HandsBoth : {K V E : Type 0} → K → V → (before after : Flat (List Pair)) → E × K × V → Type 0
HandsBoth k v before after e = Stays before after × (e.1 ≡ k) × (e.2 ≡ v)

-- the map that an empty one becomes when it is updated with the pairs in order
abbrev pub map_from : List Pair → List Pair
map_from ps = fold (put in_order) [] ps

-- the plain pair of a key and a value
abbrev pub plain_pair : {K V : Type 0} → (K → Literal) → (V → Literal) → K × V → Pair
plain_pair plain worth t = pair_of (plain t.0) (worth t.1)

-- a key stands beside its hash
abbrev pub IsHashed : {K V : Type 0} → (Literal → ℕ) → (K → Literal) → ℕ × K × V → Type 0
IsHashed hash_of plain t = t.0 ≡ hash_of (plain t.1)

-- the pairs whose key isn't one of v
abbrev pub others_of : List Pair → List Pair → List Pair
others_of v ps = kept_by (λ k. not (has k v)) ps
