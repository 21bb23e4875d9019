-- Texts that grow, and the lists and pairs that are printed.
use Rattle.std.proofs.Common.{◌≡◌, ◌<◌, ◌≤◌, List, [], ◌∷◌, ◌++◌, length, take, map, ap, sym, ◌∙◌, arith}
use Rattle.std.specs.Io.{StartsWith}
use Rattle.std.proofs.Math.Seq.{take-append_seam}
use Rattle.std.proofs.lemmas.List.{take-take, length-take}
use Rattle.std.proofs.lemmas.Simd.{map-map}
use Rattle.cow_model.specs.Lexis.{Text}
use Rattle.cow_model.specs.declared.plain.Literal.{Literal}
use Rattle.cow_model.specs.declared.value.Pair.{Pair}
use Rattle.cow_model.specs.Printed.{atom_text, pair_text, list_text, pairs_text}
use Rattle.cow_print.specs.Shown.{bracketed}

-- a front is no longer than the text
front_le : (new old : Text) → StartsWith new old → length old ≤ length new
front_le new old is = omega (arith, length-take (length old) new, ap (λ t. length t) is)

-- a text with more behind it
pub front_of_more : (new old added : Text) → new ≡ old ++ added → StartsWith new old
front_of_more new old added is = rw is (take-append_seam old added)

-- a text that grew from a text that grew
pub front_of_front : (new mid old : Text) → StartsWith mid old → StartsWith new mid → StartsWith new old
front_of_front new mid old first then =
    sym (take-take (length old) (length mid) new (front_le mid old first)) ∙ (ap (take (length old)) then ∙ first)

-- the list of the printed forms
pub list_is : {X : Type 0} (plain : X → Literal) (items : List X) → bracketed (map (λ x. atom_text (plain x)) items) ≡ list_text (map plain items)
list_is plain items = ap bracketed (sym (map-map atom_text plain items))

-- the pairs of the printed forms, where there are some
pub pairs_are : {X : Type 0} (pair : X → Pair) (pairs : List X) → 0 < length pairs → bracketed (map (λ x. pair_text (pair x)) pairs) ≡ pairs_text (map pair pairs)
pairs_are pair [] some = absurd (omega (arith, some))
pairs_are pair (p ∷ ps) some = ap bracketed (sym (map-map pair_text pair (p ∷ ps)))
