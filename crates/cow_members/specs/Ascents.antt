-- Lists of atoms that ascend strictly: the lists that stand for sets.
use Rattle.std.specs.Prelude.{◌≡◌, true, List, [], ◌∷◌, ⊤}
use Rattle.cow_model.specs.Order.{below}
use Rattle.cow_model.specs.declared.plain.Literal.{Literal}

-- x is below each of them
abbrev pub IsBelow : Literal → List Literal → Type 0
IsBelow x [] = ⊤
IsBelow x (y ∷ ys) = (below x y ≡ true) × IsBelow x ys

-- each atom is below all that follow, so no two are one
abbrev pub Ascends : List Literal → Type 0
Ascends [] = ⊤
Ascends (x ∷ xs) = IsBelow x xs × Ascends xs
