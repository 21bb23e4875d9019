-- Keys go from a canonical shape: the map that is left.
use Rattle.std.proofs.Common.{◌≡◌, ℕ, ◌+◌, length, List, true, false, not, ◌&&◌, Option, Some, None, refl, sym, ap, ◌∙◌, subst, arith}
use Rattle.std.specs.Prelude.{is_some}
use Rattle.std.proofs.lemmas.Bool.{true≢false}
use Rattle.cow_model.proofs.Ascending.{on_side}
use Rattle.cow_model.proofs.CanonCounts.{count-filter, count_never}
use Rattle.cow_model.proofs.CanonSlots.{count-canon, length-canon, IsCanonical-canon}
use Rattle.cow_model.specs.Canon.{has_key, count_where, IsDistinct, without, get, canon, pairs, Tree}
use Rattle.cow_model.specs.Order.{same}
use Rattle.cow_model.specs.Pairs.{value_in}
use Rattle.cow_model.specs.declared.plain.Literal.{Literal}
use Rattle.cow_model.specs.declared.value.Pair.{Pair}
use Rattle.cow_members.proofs.Ascents.{same-is}
use Rattle.cow_dict.specs.Dictionaries.{without as without_pair}
use Rattle.cow_dict.specs.Storages.{by_key}
use Rattle.cow_dict.proofs.Maps.{choice, map-filter, value-none}
use Rattle.cow_trim.proofs.Leavings.{length-gone}
use Rattle.cow_trim.proofs.Removals.{IsDistinct-without}
use Rattle.cow_treedict.proofs.Trees.{distinct-map, none-member, value-without, value-alike}

pub no-value : (o : Option Literal) → is_some o ≡ false → o ≡ None
no-value None e = refl
no-value (Some x) e = absurd (true≢false e)

none-left : (k : Literal) (ps : List Pair) → count_where (has_key k) (without k ps) ≡ 0
unfolding without
none-left k ps =
    count-filter (has_key k) (λ q. not (has_key k q)) ps
    ∙ count_never (λ x. not (has_key k x) && has_key k x) (λ x. on_side (has_key k x) (λ e. ap (λ b. not b && b) e) (λ e. ap (λ b. not b && b) e)) ps

value-gone : (k q : Literal) (ps : List Pair) → value_in q (without k ps) ≡ choice (not (same q k)) (value_in q ps) None
value-gone k q ps =
    on_side (same q k)
    (λ e. let z : count_where (has_key q) (without k ps) ≡ 0 = subst (λ j. count_where (has_key j) (without k ps) ≡ 0) (sym (same-is q k e)) (none-left k ps) in
    value-none q (without k ps) (none-member q (without k ps) z) ∙ sym (ap (λ b. choice (not b) (value_in q ps) None) e))
    (λ e. value-without k q ps e ∙ sym (ap (λ b. choice (not b) (value_in q ps) None) e))

module _ (hash_of : Literal → ℕ) (level : ℕ) (k : Literal) (ps : List Pair) (d : IsDistinct ps) where
  -- the map without the key
  pub map-gone : by_key (pairs (canon hash_of (without k ps) level)) ≡ without_pair k (by_key ps)
  map-gone =
      let zs = pairs (canon hash_of (without k ps) level) in
      let g : IsDistinct (without k ps) = IsDistinct-without k ps d in
      let c = IsCanonical-canon hash_of (without k ps) level g in
      map-filter (λ j. not (same j k)) ps zs (distinct-map ps d) (distinct-map zs c.distinct)
      (λ q. value-alike (without k ps) zs (distinct-map (without k ps) g) (distinct-map zs c.distinct) (λ t. count-canon hash_of t (without k ps) level) q ∙ value-gone k q ps)

  -- one pair fewer, where the key was there
  pub size-gone : is_some (get k ps) ≡ true → (s : Tree) → s ≡ canon hash_of (without k ps) level → length (pairs s) + 1 ≡ length ps
  size-gone n s f =
      let m = ap (λ t. length (pairs t)) f in
      omega (arith, m, length-canon hash_of (without k ps) level, length-gone k ps d n)
