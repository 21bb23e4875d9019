-- A value of any kind is one with itself.
use Rattle.std.proofs.Common.{◌≡◌, ℕ, ◌==◌, true, List, [], ◌∷◌, refl, arith}
use Rattle.std.proofs.lemmas.Cmp.{eq_by_cmp_equiv}
use Rattle.cow_model.proofs.LiteralOrder.{literal_cmp_total}
use Rattle.cow_model.specs.Order.{same}
use Rattle.cow_model.specs.Plain.{same_items, same_pairs, same_plain}
use Rattle.cow_model.specs.declared.plain.Literal.{Literal}
use Rattle.cow_model.specs.declared.value.Pair.{Pair}
use Rattle.cow_model.specs.declared.value.Plain.{Plain}
use Rattle.cow_model.specs.declared.value.Plain.TheVariants.{Array, Slice, Deque, Set, Dict, OSet, ODict, Heap, TSet, TDict}

-- an atom is one with itself
one : (x : Literal) → same x x ≡ true
one x = (eq_by_cmp_equiv literal_cmp_total).refl x

-- a list is one with itself
pub same-list : (items : List Literal) → same_items items items ≡ true
same-list [] = refl
same-list (x ∷ items) = rw (one x, same-list items) refl

-- so is a list of pairs
pub same-pair-list : (pairs : List Pair) → same_pairs pairs pairs ≡ true
same-pair-list [] = refl
same-pair-list (p ∷ pairs) = rw (one p.key, one p.value, same-pair-list pairs) refl

-- number n is one with itself
same-number : (n : ℕ) → (n == n) ≡ true
same-number n = search arith

-- a value is one with itself
pub same-self : (v : Plain) → same_plain v v ≡ true
same-self (Array items) = same-list items
same-self (Slice start items) = rw (same-list items) (search (arith))
same-self (Deque items) = same-list items
same-self (Set items) = same-list items
same-self (Dict pairs) = same-pair-list pairs
same-self (OSet items) = same-list items
same-self (ODict pairs) = same-pair-list pairs
same-self (Heap items) = same-list items
same-self (TSet items) = same-list items
same-self (TDict pairs) = same-pair-list pairs
