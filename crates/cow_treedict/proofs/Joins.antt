-- The pairs of two dictionaries, each key once.
use Rattle.std.proofs.Common.{◌≡◌, ℕ, ◌+◌, ◌*◌, ◌≤◌, length, map, List, [], ◌∷◌, ◌++◌, Bool, true, false, not, cond, Option, Some, None, refl, sym, ap, ◌∙◌, subst, arith}
use Rattle.std.specs.Prelude.{is_some}
use Rattle.std.proofs.lemmas.Bool.{true≢false}
use Rattle.std.proofs.lemmas.List.{length-map}
use Rattle.cow_model.proofs.Ascending.{on_side}
use Rattle.cow_model.specs.Canon.{has_key, count_where, IsDistinct}
use Rattle.cow_model.specs.Flat.{need}
use Rattle.cow_model.specs.Order.{same}
use Rattle.cow_model.specs.Pairs.{in_order, value_in, merge}
use Rattle.cow_model.specs.Purse.{Purse}
use Rattle.cow_model.specs.declared.plain.Literal.{Literal}
use Rattle.cow_model.specs.declared.value.Pair.{Pair}
use Rattle.cow_champ.specs.Spending.{Spends}
use Rattle.cow_members.proofs.Ascents.{same-is}
use Rattle.cow_members.specs.Ascents.{Ascends}
use Rattle.cow_dict.specs.Dictionaries.{has, either_of, merged}
use Rattle.cow_dict.specs.Storages.{keys, by_key}
use Rattle.cow_dict.proofs.Maps.{Distinct, choice, keys-by_key, member-value, value-cons, value-past, value-by_key, distinct-ascending, same-map}
use Rattle.cow_dict.proofs.Merges.{map-merge, value-merge, ascends-merge}
use Rattle.cow_treedict.specs.Trees.{others_of}
use Rattle.cow_treedict.proofs.Makes.{count-lacks}
use Rattle.cow_treedict.proofs.Trees.{one_if, is-same, distinct-map, has-value, long}

shift : (b : Bool) (v : Literal) (x y : Option Literal) → choice b (Some v) (either_of x y) ≡ either_of (choice b (Some v) x) y
shift true v x y = refl
shift false v x y = refl

value-append : (q : Literal) (xs ys : List Pair) → value_in q (xs ++ ys) ≡ either_of (value_in q xs) (value_in q ys)
value-append q [] ys = refl
value-append q (p ∷ xs) ys = value-cons q p (xs ++ ys) ∙ ap (choice (same q p.key) (Some p.value)) (value-append q xs ys)
    ∙ shift (same q p.key) p.value (value_in q xs) (value_in q ys) ∙ ap (λ o. either_of o (value_in q ys)) (sym (value-cons q p xs))

first-stays : (x y z : Option Literal) → is_some x ≡ true → either_of x y ≡ either_of x z
first-stays None y z e = absurd (true≢false (sym e))
first-stays (Some v) y z e = refl

count-append : (t : Pair → Bool) (xs ys : List Pair) → count_where t (xs ++ ys) ≡ count_where t xs + count_where t ys
count-append t [] ys = omega arith
count-append t (p ∷ xs) ys = let n = count-append t xs ys in omega (arith, n)

module _ (v : List Pair) where
  -- a key that is one of v isn't the same as one that isn't
  other-key : (q k : Literal) → has q v ≡ false → has k v ≡ true → same q k ≡ false
  other-key q k h e = on_side (same q k)
      (λ f. absurd (true≢false (sym e ∙ sym (ap (λ a. has a v) (same-is q k f)) ∙ h)))
      (λ f. f)

  value-others : (q : Literal) → has q v ≡ false → (rs : List Pair) → value_in q (others_of v rs) ≡ value_in q rs
  value-others q h [] = refl
  value-others q h (p ∷ rs) = on_side (has p.key v)
      (λ e. ap (λ b. value_in q (cond (not b) (p ∷ others_of v rs) (others_of v rs))) e ∙ value-others q h rs ∙ sym (value-past q p rs (other-key q p.key h e)))
      (λ e. ap (λ b. value_in q (cond (not b) (p ∷ others_of v rs) (others_of v rs))) e ∙ value-cons q p (others_of v rs)
      ∙ ap (choice (same q p.key) (Some p.value)) (value-others q h rs) ∙ sym (value-cons q p rs))

  count-fewer : (t : Pair → Bool) (rs : List Pair) → count_where t (others_of v rs) ≤ count_where t rs
  count-fewer t [] = omega arith
  count-fewer t (p ∷ rs) = on_side (has p.key v)
      (λ e. let z = ap (λ b. count_where t (cond (not b) (p ∷ others_of v rs) (others_of v rs))) e in omega (arith, z, count-fewer t rs))
      (λ e. let z = ap (λ b. count_where t (cond (not b) (p ∷ others_of v rs) (others_of v rs))) e in omega (arith, z, count-fewer t rs))

  count-none : (k : Literal) → has k v ≡ true → (rs : List Pair) → count_where (has_key k) (others_of v rs) ≡ 0
  count-none k h [] = refl
  count-none k h (p ∷ rs) = on_side (has p.key v)
      (λ e. ap (λ b. count_where (has_key k) (cond (not b) (p ∷ others_of v rs) (others_of v rs))) e ∙ count-none k h rs)
      (λ e. let z = ap (λ b. count_where (has_key k) (cond (not b) (p ∷ others_of v rs) (others_of v rs))) e in
      let other : same k p.key ≡ false = on_side (same k p.key) (λ f. absurd (true≢false (sym h ∙ ap (λ a. has a v) (same-is k p.key f) ∙ e))) (λ f. f) in
      let one : one_if (has_key k p) ≡ 0 = ap one_if (is-same p.key k ∙ other) in
      omega (arith, z, one, count-none k h rs))

  module _ (xs rs : List Pair) (is : by_key xs ≡ v) (d : Distinct xs) where
    value-mine : (q : Literal) → is_some (value_in q xs) ≡ has q v
    value-mine q = sym (ap is_some (ap (value_in q) (sym is) ∙ value-by_key xs d q)) ∙ has-value q v

    value-joined : (q : Literal) → value_in q (xs ++ others_of v rs) ≡ merged false (value_in q rs) (value_in q xs)
    value-joined q = value-append q xs (others_of v rs) ∙ on_side (has q v)
        (λ e. first-stays (value_in q xs) (value_in q (others_of v rs)) (value_in q rs) (value-mine q ∙ e))
        (λ e. ap (either_of (value_in q xs)) (value-others q e rs))

    pub joined-distinct : IsDistinct xs → IsDistinct rs → IsDistinct (xs ++ others_of v rs)
    joined-distinct one two k =
        let n = count-append (has_key k) xs (others_of v rs) in
        on_side (has k v)
        (λ e. omega (arith, n, one k, count-none k e rs))
        (λ e. omega (arith, n, two k, count-fewer (has_key k) rs, count-lacks k xs (member-value k xs ∙ value-mine k ∙ e)))

    pub joined-map : IsDistinct xs → Distinct rs → IsDistinct rs → by_key (xs ++ others_of v rs) ≡ merge in_order false v (by_key rs)
    joined-map one e two = map-merge false xs rs (xs ++ others_of v rs) d e (distinct-map (xs ++ others_of v rs) (joined-distinct one two)) value-joined
        ∙ ap (λ l. merge in_order false l (by_key rs)) is

-- the other way round
pub merge-turned : (v w : List Pair) → Ascends (keys v) → Ascends (keys w) → merge in_order false w v ≡ merge in_order true v w
merge-turned v w a b = same-map (merge in_order false w v) (merge in_order true v w) (ascends-merge false w v b) (ascends-merge true v w a)
    (λ q. value-merge false w v b (distinct-ascending v a) q ∙ sym (value-merge true v w a (distinct-ascending w b) q))

pub others-push : (v ps : List Pair) (p : Pair) → has p.key v ≡ false → others_of v (ps ++ p ∷ []) ≡ others_of v ps ++ p ∷ []
others-push v [] p e = ap (λ b. cond (not b) (p ∷ []) []) e
others-push v (r ∷ ps) p e = on_side (has r.key v)
    (λ f. ap (λ b. cond (not b) (r ∷ others_of v (ps ++ p ∷ [])) (others_of v (ps ++ p ∷ []))) f ∙ others-push v ps p e
    ∙ sym (ap (λ b. cond (not b) (r ∷ others_of v ps) (others_of v ps) ++ p ∷ []) f))
    (λ f. ap (λ b. cond (not b) (r ∷ others_of v (ps ++ p ∷ [])) (others_of v (ps ++ p ∷ []))) f ∙ ap (λ l. r ∷ l) (others-push v ps p e)
    ∙ sym (ap (λ b. cond (not b) (r ∷ others_of v ps) (others_of v ps) ++ p ∷ []) f))

pub others-past : (v ps : List Pair) (p : Pair) → has p.key v ≡ true → others_of v (ps ++ p ∷ []) ≡ others_of v ps
others-past v [] p e = ap (λ b. cond (not b) (p ∷ []) []) e
others-past v (r ∷ ps) p e = on_side (has r.key v)
    (λ f. ap (λ b. cond (not b) (r ∷ others_of v (ps ++ p ∷ [])) (others_of v (ps ++ p ∷ []))) f ∙ others-past v ps p e
    ∙ sym (ap (λ b. cond (not b) (r ∷ others_of v ps) (others_of v ps)) f))
    (λ f. ap (λ b. cond (not b) (r ∷ others_of v (ps ++ p ∷ [])) (others_of v (ps ++ p ∷ []))) f ∙ ap (λ l. r ∷ l) (others-past v ps p e)
    ∙ sym (ap (λ b. cond (not b) (r ∷ others_of v ps) (others_of v ps)) f))

-- the pairs of a map have distinct keys
pub apart : (xs v : List Pair) → by_key xs ≡ v → Ascends (keys v) → Distinct xs
apart xs v e s = subst Ascends (keys-by_key xs) (subst (λ l. Ascends (keys l)) (sym e) s)

pub counted : {R : Type 0} (seen : R → Pair) (rs : List R) (v : List Pair) → by_key (map seen rs) ≡ v → length v ≡ length rs
counted seen rs v e = long (map seen rs) v e ∙ length-map rs seen

-- the pairs of both, of which one list was made after the other
pub one_after : (f : List Pair) (xs more now then : List Pair) → now ≡ then ++ more → then ≡ f ++ xs → f ≡ [] → now ≡ xs ++ more
one_after f xs more now then e h n = e ∙ ap (λ l. l ++ more) (h ∙ ap (λ l. l ++ xs) n)

-- ---- what a merge costs
pub spends-joined : (w a b n m l : ℕ) (x y z u : Purse) → n ≡ a → m ≡ b → l ≤ a + b → Spends (2 * a) (w * a) x y → Spends (2 * b) (w * b) y z → z.spare ≤ u.spare + (14 * l + 1) → u.copied ≡ z.copied → Spends (need (n + m)) (w * (n + m)) x u
spends-joined w a b n m l x y z u e f k p q r s = record {
  falls = omega (arith, p.falls, q.falls, r, e, f, k);
  copied = omega (arith, p.copied, q.copied, s, ap (λ t. w * t) e, ap (λ t. w * t) f);
  kept = omega (arith, p.kept, q.kept, s);
}
