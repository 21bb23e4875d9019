-- Texts that grow statement by statement.
use Rattle.std.proofs.Common.{◌≡◌, ◌++◌, length, drop, ap, sym, ◌∙◌, append_assoc, take-append-drop, refl}
use Rattle.std.specs.Io.{StartsWith}
use Rattle.std.proofs.lemmas.List.{append_cancel_left}
use Rattle.cow_model.specs.Lexis.{Text}
use Rattle.cow_model.specs.Fronts.{IsFrontOf, GrowsWithin}

-- a text that is complete but for what is to come grew by a front of the whole
pub grows_within : (old new rest whole : Text) → StartsWith new old → new ++ rest ≡ old ++ whole → GrowsWithin old new whole
grows_within old new rest whole kept complete =
    let added = drop (length old) new in
    let grown : new ≡ old ++ added = sym (take-append-drop (length old) new) ∙ ap (λ front. front ++ added) kept in
    record {
      added = added;
      front = (rest, append_cancel_left old (added ++ rest) whole (sym (append_assoc old added rest) ∙ (ap (λ text. text ++ rest) (sym grown) ∙ complete)));
      grown = grown;
    }

-- a front of a front is a front
pub front-on : (a b c : Text) → IsFrontOf a b → IsFrontOf b c → IsFrontOf a c
front-on a b c (x, p) (y, q) = (x ++ y, sym (append_assoc a x y) ∙ (ap (λ t. t ++ y) p ∙ q))

-- a text is a front of one that goes on
pub front-of : (a x : Text) → IsFrontOf a (a ++ x)
front-of a x = (x, refl)
