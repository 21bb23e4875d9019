-- Pairs in an order of their own: where a key stands, and what one key does to them.
use Rattle.std.proofs.Common.{◌≡◌, ℕ, zero, suc, ◌+◌, ◌*◌, ◌≤◌, cond, length, map, remove, set, List, [], ◌∷◌, ◌++◌, Bool, true, false, not, leb, slice_get, Option, Some, None, refl, sym, ap, ◌∙◌, subst, arith}
use Rattle.std.specs.Prelude.{option_map, IfSome, IfNone}
use Rattle.std.specs.List.{sum_by, position_or_len}
use Rattle.std.proofs.lemmas.Bool.{true≢false}
use Rattle.std.proofs.lemmas.List.{length-map, map-set}
use Rattle.std.proofs.lemmas.Option.{slice_get-map}
use Rattle.cow_members.proofs.Listed.{has-member as listed-member}
use Rattle.cow_model.specs.Flat.{copies}
use Rattle.cow_model.specs.Members.{member, ascending, place_in as member_place}
use Rattle.cow_model.specs.Order.{same}
use Rattle.cow_model.specs.Pairs.{last, place_in, value_in, put, put_at}
use Rattle.cow_model.specs.Purse.{Purse, Moves, more, unit_if}
use Rattle.cow_model.specs.declared.plain.Literal.{Literal}
use Rattle.cow_model.specs.declared.value.Pair.{Pair}
use Rattle.cow_members.specs.Ascents.{Ascends}
use Rattle.cow_members.proofs.Ascents.{itself, differs, or-no}
use Rattle.cow_members.proofs.Listed.{Distinct, distinct-by, place-found, place-none, place-told}
use Rattle.cow_dict.specs.Dictionaries.{has, without, units}
use Rattle.cow_dict.specs.Storages.{side_by_side, pair_of, keys}
use Rattle.cow_dict.proofs.Calls.{count-listed, key-unit, value-there, value-lacks}
use Rattle.cow_dict.proofs.Maps.{has-member}
use Rattle.cow_dict.proofs.Orders.{worths, worths-side, by-sides}
use Rattle.cow_dict.proofs.Sides.{keys-side, length-side}

-- ---- where a key stands
place-len : (a : Literal) (ps : List Pair) → position_or_len (λ p. same a p.key) ps ≡ position_or_len (same a) (keys ps)
place-len a [] = refl
place-len a (p ∷ ps) = ap (λ n. cond (not (same a p.key)) (1 + n) 0) (place-len a ps)

pub place-keys : (a : Literal) (ps : List Pair) → place_in a ps ≡ member_place a (keys ps)
place-keys a ps = ap (λ n. cond {A = Option ℕ} (leb (suc n) (length ps)) (Some n) None) (place-len a ps)
    ∙ ap (λ n. cond {A = Option ℕ} (leb (suc (position_or_len (same a) (keys ps))) n) (Some (position_or_len (same a) (keys ps))) None) (sym (length-map ps (λ p. p.key)))

-- ---- a pair is put
pub put-there : (ps : List Pair) (p : Pair) (i : ℕ) → place_in p.key ps ≡ Some i → put last ps p ≡ set ps i p
put-there ps p i e = ap (λ o. put_at last o p ps) e

pub put-absent : (ps : List Pair) (p : Pair) → place_in p.key ps ≡ None → put last ps p ≡ ps ++ p ∷ []
put-absent ps p e = ap (λ o. put_at last o p ps) e

set-same : (ks : List Literal) (i : ℕ) (a : Literal) → slice_get ks i ≡ Some a → set ks i a ≡ ks
set-same [] i a e = refl
set-same (k ∷ ks) zero a e = let z : k ≡ a = cc in ap (λ x. x ∷ ks) (sym z)
set-same (k ∷ ks) (suc i) a e = ap (λ l. k ∷ l) (set-same ks i a e)

-- ---- a pair is taken out
other-way : (a b : Literal) → same a b ≡ false → same b a ≡ false
other-way a b f = differs b a (λ w. true≢false (sym (ap (same a) w ∙ itself a) ∙ f))

pub without-absent : (a : Literal) (ps : List Pair) → member a (keys ps) ≡ false → ps ≡ without a ps
without-absent a [] m = refl
without-absent a (p ∷ ps) m =
    let n = or-no (same a p.key) (member a (keys ps)) m in
    ap (λ l. p ∷ l) (without-absent a ps n.1) ∙ sym (ap (λ t. cond (not t) (p ∷ without a ps) (without a ps)) (other-way a p.key n.0))

got-member : (ks : List Literal) (a : Literal) (i : ℕ) → slice_get ks i ≡ Some a → member a ks ≡ true
got-member ks a i e = listed-member ks a i e

pub remove-pair : (a : Literal) (ps : List Pair) (i : ℕ) → Distinct (keys ps) → slice_get (keys ps) i ≡ Some a → remove ps i ≡ without a ps
remove-pair a [] i d e = cc
remove-pair a (p ∷ ps) zero d e =
    let z : p.key ≡ a = cc in
    without-absent a ps (subst (λ w. member w (keys ps) ≡ false) z d.0)
    ∙ sym (ap (λ t. cond (not t) (p ∷ without a ps) (without a ps)) (ap (λ w. same w a) z ∙ itself a))
remove-pair a (p ∷ ps) (suc i) d e =
    ap (λ l. p ∷ l) (remove-pair a ps i d.1 e)
    ∙ sym (ap (λ t. cond (not t) (p ∷ without a ps) (without a ps)) (differs p.key a (λ w. true≢false (sym (got-member (keys ps) a i e) ∙ subst (λ z. member z (keys ps) ≡ false) w d.0))))

module _ {K V : Type 0} (plain : K → Literal) (worth : V → Literal) (xs : List K) (ys : List V) where
  abbrev listed : List Pair
  listed = side_by_side (map plain xs) (map worth ys)

  pub has-listed : (a : Literal) → has a listed ≡ member a (map plain xs)
  has-listed a = has-member a listed ∙ ap (member a) (keys-side (map plain xs) (map worth ys))

  pub place-listed : (a : Literal) → place_in a listed ≡ member_place a (map plain xs)
  place-listed a = place-keys a listed ∙ ap (member_place a) (keys-side (map plain xs) (map worth ys))

  module _ (apart : Ascends (ascending (map plain xs))) where
    pub ascends-listed : Ascends (ascending (keys listed))
    ascends-listed = subst (λ l. Ascends (ascending l)) (sym (keys-side (map plain xs) (map worth ys))) apart

    keys-apart : Distinct (keys listed)
    keys-apart = distinct-by (keys listed) ascends-listed

    key-at : (a : Literal) (i : ℕ) → option_map plain (slice_get xs i) ≡ Some a → slice_get (keys listed) i ≡ Some a
    key-at a i h = ap (λ l. slice_get l i) (keys-side (map plain xs) (map worth ys)) ∙ slice_get-map plain xs i ∙ h

    -- what a look-up tells
    pub place-row : (o : Option ℕ) (a : Literal) → IfSome o (λ i. option_map plain (slice_get xs i) ≡ Some a) → IfNone o (member a (map plain xs) ≡ false) → o ≡ place_in a listed
    place-row o a found absent = place-told plain o a xs apart found absent ∙ sym (place-listed a)

    pub value-row : (a : Literal) (i : ℕ) (y : V) → option_map plain (slice_get xs i) ≡ Some a → slice_get ys i ≡ Some y → Some (worth y) ≡ value_in a listed
    value-row a i y h e = sym (value-there plain worth xs ys apart a i y h e)

    pub value-none-row : (a : Literal) → member a (map plain xs) ≡ false → None ≡ value_in a listed
    value-none-row a m = sym (value-lacks plain worth xs ys apart a m)

    pub put-pushed : (a w : Literal) → member a (map plain xs) ≡ false → listed ++ pair_of a w ∷ [] ≡ put last listed (pair_of a w)
    put-pushed a w m = sym (put-absent listed (pair_of a w) (place-listed a ∙ sym (place-none a (map plain xs) m)))

    pub put-replaced : (a w : Literal) (i : ℕ) → length ys ≡ length xs → option_map plain (slice_get xs i) ≡ Some a
        → side_by_side (map plain xs) (set (map worth ys) i w) ≡ put last listed (pair_of a w)
    put-replaced a w i n h =
        let at : place_in a listed ≡ Some i = place-keys a listed ∙ sym (place-found a (keys listed) i keys-apart (key-at a i h)) in
        by-sides (set listed i (pair_of a w)) (map plain xs) (set (map worth ys) i w)
        (map-set (λ p. p.key) listed i (pair_of a w) ∙ set-same (keys listed) i a (key-at a i h) ∙ keys-side (map plain xs) (map worth ys))
        (map-set (λ p. p.value) listed i (pair_of a w) ∙ ap (λ l. set l i w) (worths-side (map plain xs) (map worth ys) (length-map ys worth ∙ n ∙ sym (length-map xs plain))))
        ∙ sym (put-there listed (pair_of a w) i at)

    pub removed-row : (a : Literal) (i : ℕ) → option_map plain (slice_get xs i) ≡ Some a → remove listed i ≡ without a listed
    removed-row a i h = remove-pair a listed i keys-apart (key-at a i h)

  pub kept-row : (a : Literal) → member a (map plain xs) ≡ false → listed ≡ without a listed
  kept-row a m = without-absent a listed (ap (member a) (keys-side (map plain xs) (map worth ys)) ∙ m)

  -- the storage is made alone, then a key ends that is the same as one that is held
  pub paid-row : (f g : Literal → Bool) (w : ℕ) (alone : Bool) (i : ℕ) (a : Literal) (h k l : Purse) → option_map plain (slice_get xs i) ≡ Some a
      → Moves (sum_by (units f g) listed) (copies alone (w * length xs)) h k → k.spare ≤ h.spare → l ≡ more (unit_if (f a)) k
      → Moves (sum_by (units f g) listed) (copies alone (w * length listed)) h l
  paid-row f g w alone i a h k l at paid down e =
      let spare = ap (λ (p : Purse). p.spare) e in
      let copied = ap (λ (p : Purse). p.copied) e in
      let made = ap (λ n. copies alone (w * n)) (count-listed plain worth xs ys) in
      let one = key-unit f g (map plain xs) (map worth ys) i a (slice_get-map plain xs i ∙ at) in
      record {
        falls = omega (arith, paid.falls, spare);
        rises = omega (arith, down, spare, one);
        copied = omega (arith, paid.copied, copied, made);
        kept = omega (arith, paid.kept, copied);
      }

  -- two are the same where their keys and their values are
  pub alike-rows : (us : List K) (ws : List V) → length ys ≡ length xs → length ws ≡ length us → listed ≡ side_by_side (map plain us) (map worth ws) → (map plain xs ≡ map plain us) × (map worth ys ≡ map worth ws)
  alike-rows us ws e f s = (
    sym (keys-side (map plain xs) (map worth ys)) ∙ ap keys s ∙ keys-side (map plain us) (map worth ws),
    sym (worths-side (map plain xs) (map worth ys) (length-map ys worth ∙ e ∙ sym (length-map xs plain))) ∙ ap worths s
        ∙ worths-side (map plain us) (map worth ws) (length-map ws worth ∙ f ∙ sym (length-map us plain)),
  )

-- how many pairs there are, and which keys they have
pub ruleset row_steps = (count-listed, length-side, keys-side, length-map, has-listed)
