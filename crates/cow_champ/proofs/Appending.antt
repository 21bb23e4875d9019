-- Items that stand behind others.
use Rattle.std.proofs.Common.{◌≡◌, ℕ, List, [], ◌∷◌, ◌++◌, map, length, take, All, refl, sym, ap, ◌∙◌, subst, arith, append-nil, append_assoc}
use Rattle.std.proofs.lemmas.List.{map-append}
use Rattle.std.proofs.lemmas.List.Elements.{All-append, All-cons}
use Rattle.cow_model.specs.declared.value.Pair.{Pair}
use Rattle.cow_champ.specs.Words.{Appends}

take_front : {X : Type 0} (xs ys : List X) → take (length xs) (xs ++ ys) ≡ xs
take_front [] ys = refl
take_front (x ∷ xs) ys = ap (λ zs. x ∷ zs) (take_front xs ys)

module _ {X : Type 0} (seen : X → Pair) (Settled : X → Type 0) where
  pub appends_none : (xs : List X) → Appends seen Settled [] xs xs
  appends_none xs = record { more = []; list = sym (append-nil xs); shown = refl; settled = λ i d l. absurd (omega (arith, l)) }

  pub appends_one : (xs ys : List X) (x : X) (p : Pair) → ys ≡ xs ++ x ∷ [] → seen x ≡ p → Settled x → Appends seen Settled (p ∷ []) xs ys
  appends_one xs ys x p e s t = record { more = x ∷ []; list = e; shown = ap (λ q. q ∷ []) s; settled = All-cons Settled x [] t (λ i d l. absurd (omega (arith, l))) }

  pub appends_after : (ps qs : List Pair) (a b c : List X) → Appends seen Settled ps a b → Appends seen Settled qs b c → Appends seen Settled (ps ++ qs) a c
  appends_after ps qs a b c h k = record {
    more = h.more ++ k.more;
    list = k.list ∙ ap (λ ys. ys ++ k.more) h.list ∙ append_assoc a h.more k.more;
    shown = map-append seen h.more k.more ∙ ap (λ ys. ys ++ map seen k.more) h.shown ∙ ap (λ ys. ps ++ ys) k.shown;
    settled = All-append Settled h.more k.more h.settled k.settled;
  }

  pub appends_is : (ps qs : List Pair) (a b : List X) → ps ≡ qs → Appends seen Settled ps a b → Appends seen Settled qs a b
  appends_is ps qs a b e h = subst (λ rs. Appends seen Settled rs a b) e h

  -- what stood there before
  pub appends_front : (ps : List Pair) (a b : List X) → Appends seen Settled ps a b → take (length a) b ≡ a
  appends_front ps a b h = ap (take (length a)) h.list ∙ take_front a h.more
