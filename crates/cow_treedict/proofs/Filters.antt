-- The pairs whose keys pass a test.
use Rattle.std.proofs.Common.{◌≡◌, ℕ, ◌+◌, ◌*◌, ◌<◌, ◌≤◌, length, map, take, slice_index_or, List, [], ◌∷◌, ◌++◌, Bool, true, false, ◌&&◌, cond, append_assoc, Some, None, refl, sym, ap, ◌∙◌, arith}
use Rattle.std.specs.List.{list_all}
use Rattle.std.proofs.lemmas.Bool.{true≢false}
use Rattle.std.proofs.lemmas.List.{map-append, take_more}
use Rattle.std.proofs.lemmas.List.Elements.{filter-append}
use Rattle.cow_model.proofs.Ascending.{on_side}
use Rattle.cow_model.specs.Canon.{has_key, count_where, IsDistinct}
use Rattle.cow_model.specs.Flat.{need}
use Rattle.cow_model.specs.Order.{same}
use Rattle.cow_model.specs.Pairs.{value_in}
use Rattle.cow_model.specs.Purse.{Purse}
use Rattle.cow_model.specs.declared.plain.Literal.{Literal}
use Rattle.cow_model.specs.declared.value.Pair.{Pair}
use Rattle.cow_champ.specs.Spending.{Spends}
use Rattle.cow_members.proofs.Ascents.{same-is}
use Rattle.cow_dict.specs.Dictionaries.{kept_by}
use Rattle.cow_dict.specs.Storages.{keys, by_key}
use Rattle.cow_dict.proofs.Maps.{Distinct, choice, keys-by_key, map-filter, value-cons, value-past}
use Rattle.cow_dict.proofs.Questions.{all-ascending}
use Rattle.cow_treedict.proofs.Trees.{distinct-map}

module _ (p : Literal → Bool) where
  -- a pair stays, or it doesn't
  pub kept-one : (r : Pair) → p r.key ≡ true → kept_by p (r ∷ []) ≡ r ∷ []
  kept-one r e = ap (λ b. cond b (r ∷ []) []) e

  pub kept-none : (r : Pair) → p r.key ≡ false → kept_by p (r ∷ []) ≡ []
  kept-none r e = ap (λ b. cond b (r ∷ []) []) e

  -- what stands under a key
  value-stays : (q : Literal) → p q ≡ true → (ps : List Pair) → value_in q (kept_by p ps) ≡ value_in q ps
  value-stays q h [] = refl
  value-stays q h (r ∷ ps) = on_side (p r.key)
      (λ e. ap (λ b. value_in q (cond b (r ∷ kept_by p ps) (kept_by p ps))) e ∙ value-cons q r (kept_by p ps)
      ∙ ap (choice (same q r.key) (Some r.value)) (value-stays q h ps) ∙ sym (value-cons q r ps))
      (λ e. ap (λ b. value_in q (cond b (r ∷ kept_by p ps) (kept_by p ps))) e ∙ value-stays q h ps ∙ sym (value-past q r ps (other e)))
    where
      other : p r.key ≡ false → same q r.key ≡ false
      other e = on_side (same q r.key) (λ f. absurd (true≢false (sym h ∙ ap p (same-is q r.key f) ∙ e))) (λ f. f)

  value-goes : (q : Literal) → p q ≡ false → (ps : List Pair) → value_in q (kept_by p ps) ≡ None
  value-goes q h [] = refl
  value-goes q h (r ∷ ps) = on_side (p r.key)
      (λ e. ap (λ b. value_in q (cond b (r ∷ kept_by p ps) (kept_by p ps))) e ∙ value-past q r (kept_by p ps) (other e) ∙ value-goes q h ps)
      (λ e. ap (λ b. value_in q (cond b (r ∷ kept_by p ps) (kept_by p ps))) e ∙ value-goes q h ps)
    where
      other : p r.key ≡ true → same q r.key ≡ false
      other e = on_side (same q r.key) (λ f. absurd (true≢false (sym e ∙ sym (ap p (same-is q r.key f)) ∙ h))) (λ f. f)

  -- the map that they stand for
  pub kept-map : (xs ks v : List Pair) → by_key xs ≡ v → Distinct xs → ks ≡ kept_by p xs → IsDistinct ks → by_key ks ≡ kept_by p v
  kept-map xs ks v is d e s = map-filter p xs ks d (distinct-map ks s) (λ q. ap (value_in q) e ∙ on_side (p q)
      (λ f. value-stays q f xs ∙ sym (ap (λ b. choice b (value_in q xs) None) f))
      (λ f. value-goes q f xs ∙ sym (ap (λ b. choice b (value_in q xs) None) f)))
      ∙ ap (kept_by p) is

  all-keys : (ps : List Pair) → list_all (λ r. p r.key) ps ≡ list_all p (keys ps)
  all-keys [] = refl
  all-keys (r ∷ ps) = ap (λ b. p r.key && b) (all-keys ps)

  -- whether all keys of a map pass
  pub all-map : (ps v : List Pair) → by_key ps ≡ v → list_all (λ r. p r.key) ps ≡ list_all p (keys v)
  all-map ps v e = all-keys ps ∙ all-ascending p (keys ps) ∙ ap (list_all p) (sym (keys-by_key ps)) ∙ ap (λ l. list_all p (keys l)) e

-- ---- how many there are of each key
pub count-push : (t : Pair → Bool) (ps : List Pair) (r : Pair) → count_where t (ps ++ r ∷ []) ≡ count_where t ps + count_where t (r ∷ [])
count-push t [] r = omega arith
count-push t (q ∷ ps) r = let n = count-push t ps r in omega (arith, n)

-- one pair more is looked at
pub seen-more : {R : Type 0} (seen : R → Pair) (rs : List R) (i : ℕ) (x : R) → i < length rs → x ≡ slice_index_or rs i x → map seen (take (i + 1) rs) ≡ map seen (take i rs) ++ seen x ∷ []
seen-more seen rs i x lt e = ap (map seen) (take_more rs i x lt) ∙ map-append seen (take i rs) (slice_index_or rs i x ∷ []) ∙ ap (λ z. map seen (take i rs) ++ seen z ∷ []) (sym e)

pub kept-turn : (p : Literal → Bool) (new old from xs ys : List Pair) (r : Pair) → new ≡ old ++ kept_by p (r ∷ []) → old ≡ from ++ kept_by p xs → ys ≡ xs ++ r ∷ [] → new ≡ from ++ kept_by p ys
kept-turn p new old from xs ys r e h m = e ∙ ap (λ l. l ++ kept_by p (r ∷ [])) h ∙ append_assoc from (kept_by p xs) (kept_by p (r ∷ []))
    ∙ ap (λ l. from ++ l) (sym (filter-append (λ q. p q.key) xs (r ∷ [])) ∙ ap (kept_by p) (sym m))

pub count-turn : (t : Pair → Bool) (new old from xs ys : List Pair) (r : Pair) → count_where t new ≤ count_where t old + count_where t (r ∷ []) → count_where t old ≤ count_where t from + count_where t xs → ys ≡ xs ++ r ∷ [] → count_where t new ≤ count_where t from + count_where t ys
count-turn t new old from xs ys r e h m = let n = ap (count_where t) m ∙ count-push t xs r in omega (arith, e, h, n)

-- no key comes that wasn't there
pub fewer-distinct : (xs ks : List Pair) → ((t : Pair → Bool) → count_where t ks ≤ count_where t [] + count_where t xs) → IsDistinct xs → IsDistinct ks
fewer-distinct xs ks f d k = let n = f (has_key k) in let m = d k in omega (arith, n, m)

-- ---- what it costs
pub spends-kept : (w a n l : ℕ) (x y z : Purse) → n ≡ a → l ≤ a → Spends (2 * a) (w * a) x y → y.spare ≤ z.spare + (14 * l + 1) → z.copied ≡ y.copied → Spends (need n) (w * n) x z
spends-kept w a n l x y z e k p r s = record {
  falls = omega (arith, p.falls, r, e, k);
  copied = omega (arith, p.copied, s, ap (λ t. w * t) e);
  kept = omega (arith, p.kept, s);
}

-- what was there before ends
pub spends-then : (u c : ℕ) (x y z : Purse) → Spends u c x y → y.spare + 1 ≤ z.spare → z.copied ≡ y.copied → Spends u c x z
spends-then u c x y z p r s = record { falls = omega (arith, p.falls, r); copied = omega (arith, p.copied, s); kept = omega (arith, p.kept, s) }
