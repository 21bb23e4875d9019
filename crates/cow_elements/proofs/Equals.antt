-- Lists of plain atoms are one exactly where they are equal.
use Rattle.std.proofs.Common.{◌≡◌, Bool, true, List}
use Rattle.std.specs.Bool.{Decides}
use Rattle.std.specs.Cmp.{Equal-is}
use Rattle.std.specs.Cmp.Lexicographic.{pointwise_decides}
use Rattle.std.proofs.lemmas.Bool.Decides.{same_from_decides}
use Rattle.std.proofs.lemmas.Cmp.{eq_by_cmp_equiv}
use Rattle.cow_model.proofs.LiteralOrder.{literal_cmp_total, literal_cmp-IsAntisymmetric}
use Rattle.cow_model.specs.Order.{literal_cmp, same}
use Rattle.cow_model.specs.Plain.{same_items}
use Rattle.cow_model.specs.declared.plain.Literal.{Literal}

-- atoms that are one are equal
one : (x y : Literal) → same x y ≡ true → x ≡ y
one x y e = literal_cmp-IsAntisymmetric x y ((Equal-is (literal_cmp x y)).0 e)

-- two atoms are one exactly where they are equal
pub one-or-not : (x y : Literal) → Decides (same x y) (x ≡ y)
one-or-not x y = (one x y, λ e. rw e ((eq_by_cmp_equiv literal_cmp_total).refl y))

-- a test of equality is what tells whether two lists are one
pub tells-same : (r : Bool) (xs ys : List Literal) → Decides r (xs ≡ ys) → r ≡ same_items xs ys
tells-same r xs ys d = same_from_decides r (same_items xs ys) d (pointwise_decides one-or-not xs ys)
