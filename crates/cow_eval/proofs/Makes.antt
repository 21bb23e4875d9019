-- What a new value of any kind holds and takes.
use Rattle.std.proofs.Common.{◌≡◌, ◌+◌, ◌*◌, ◌≤◌, List, [], ◌∷◌, length, Bool, true, false, refl, arith}
use Rattle.std.specs.List.{sum_by}
use Rattle.std.proofs.lemmas.List.Sums.{count_by-le-length, sum_by-cons}
use Rattle.cow_model.specs.Atoms.{is_tree_kind}
use Rattle.cow_model.specs.Flat.{need}
use Rattle.cow_model.proofs.Counts.{made-small, size-count}
use Rattle.cow_model.specs.Operation.{made}
use Rattle.cow_model.specs.Plain.{count, size}
use Rattle.cow_model.specs.Purse.{unit_if}
use Rattle.cow_model.specs.Units.{nodes_of, pair_units, units_of}
use Rattle.cow_model.specs.declared.plain.Literal.{Literal}
use Rattle.cow_model.specs.declared.statement.Kind.{Kind}
use Rattle.cow_model.specs.declared.statement.Kind.TheVariants as kind
use Rattle.cow_model.specs.declared.value.Pair.{Pair}
use Rattle.cow_model.specs.declared.value.Plain.{Plain}
use Rattle.cow_model.specs.declared.value.Plain.TheVariants.{Array, Slice, Deque, Set, Dict, OSet, ODict, Heap, TSet, TDict}
use Rattle.cow_eval.proofs.Flags.{nodes-most}

-- it has no nodes, where it is no trie
pub made-flat : (k : Kind) (atoms : List Literal) → is_tree_kind k ≡ false → nodes_of (made k atoms) ≡ 0
made-flat kind.Array atoms e = refl
made-flat kind.Deque atoms e = refl
made-flat kind.Set atoms e = refl
made-flat kind.Dict atoms e = refl
made-flat kind.OSet atoms e = refl
made-flat kind.ODict atoms e = refl
made-flat kind.Heap atoms e = refl
made-flat kind.TSet atoms e = cc
made-flat kind.TDict atoms e = cc

one-most : (b : Bool) → unit_if b ≤ 1
one-most true = omega arith
one-most false = omega arith

pairs-within : (p : Literal → Bool) (ps : List Pair) → sum_by (pair_units p) ps ≤ 2 * length ps
pairs-within p [] = omega arith
pairs-within p (q ∷ ps) = omega (arith, sum_by-cons (pair_units p) q ps, pairs-within p ps, one-most (p q.key), one-most (p q.value))

-- a unit an atom, and those of its nodes
units-within : (p : Literal → Bool) (v : Plain) → units_of p v ≤ size v + nodes_of v
units-within p (Array items) = omega (arith, count_by-le-length p items)
units-within p (Slice start items) = omega (arith, count_by-le-length p items)
units-within p (Deque items) = omega (arith, count_by-le-length p items)
units-within p (Set items) = omega (arith, count_by-le-length p items)
units-within p (Dict ps) = omega (arith, pairs-within p ps)
units-within p (OSet items) = omega (arith, count_by-le-length p items)
units-within p (ODict ps) = omega (arith, pairs-within p ps)
units-within p (Heap items) = omega (arith, count_by-le-length p items)
units-within p (TSet items) = omega (arith, count_by-le-length p items)
units-within p (TDict ps) = omega (arith, pairs-within p ps)

pub made-units : (p : Literal → Bool) (k : Kind) (atoms : List Literal) → units_of p (made k atoms) ≤ 2 * length atoms + need (length atoms)
made-units p k atoms =
    let v = made k atoms in
    omega (arith, units-within p v, size-count v, nodes-most v, made-small k atoms)
