-- Lists of pairs that a dictionary is made of.
use Rattle.std.proofs.Common.{◌≡◌, ℕ, List, [], ◌∷◌, ◌||◌, false, IsPermutation, Result, Ok, Err, sym, ap, ◌∙◌, refl, arith}
use Rattle.std.specs.Result.{IfOk}
use Rattle.std.proofs.lemmas.Bool.{true≢false}
use Rattle.cow_model.proofs.Ascending.{on_side}
use Rattle.cow_model.proofs.CanonSlots.{count-canon, IsCanonical-canon}
use Rattle.cow_model.specs.Canon.{has_key, count_where, IsDistinct, canon, pairs}
use Rattle.cow_model.specs.Members.{member}
use Rattle.cow_model.specs.Order.{same}
use Rattle.cow_model.specs.declared.plain.Literal.{Literal}
use Rattle.cow_model.specs.declared.value.Pair.{Pair}
use Rattle.cow_members.proofs.Ascents.{member-same}
use Rattle.cow_dict.specs.Storages.{keys, by_key}
use Rattle.cow_dict.proofs.Maps.{Distinct, ascends-by_key, distinct-permutes, keys-tail, same-map, value-by_key, value-permutes}
use Rattle.cow_treedict.proofs.Trees.{one_if, is-same, distinct-map, ascends-map, value-alike}

pub IfOk_map : {T E : Type 0} {P R : T → Type 0} (r : Result T E) → ((v : T) → P v → R v) → IfOk r P → IfOk r R
IfOk_map {P = P} {R = R} r f h = (elim r as (λ x. IfOk x P → IfOk x R) [ Ok v ↦ f v | Err e ↦ λ _. tt ]) h

pub IfOk_both : {T E : Type 0} (P R S : T → Type 0) (r : Result T E) → ((v : T) → P v → R v → S v) → IfOk r P → IfOk r R → IfOk r S
IfOk_both P R S r f p q = (elim r as (λ x. IfOk x P → IfOk x R → IfOk x S) [ Ok v ↦ f v | Err e ↦ λ p q. tt ]) p q

-- a key that isn't there is counted nowhere
pub count-lacks : (k : Literal) (ps : List Pair) → member k (keys ps) ≡ false → count_where (has_key k) ps ≡ 0
count-lacks k [] m = refl
count-lacks k (p ∷ ps) m = on_side (same k p.key)
    (λ e. absurd (true≢false (sym (ap (λ b. b || member k (keys ps)) e) ∙ m)))
    (λ e. let z : one_if (has_key k p) ≡ 0 = ap one_if (is-same p.key k ∙ e) in
    omega (arith, z, count-lacks k ps (sym (ap (λ b. b || member k (keys ps)) e) ∙ m)))

pub distinct-counts : (ps : List Pair) → Distinct ps → IsDistinct ps
distinct-counts [] d k = omega arith
distinct-counts (p ∷ ps) d k =
    let t = keys-tail p.key (keys ps) d in
    on_side (same k p.key)
    (λ e. let z : one_if (has_key k p) ≡ 1 = ap one_if (is-same p.key k ∙ e) in
    omega (arith, z, count-lacks k ps (member-same k p.key (keys ps) e ∙ t.0)))
    (λ e. let z : one_if (has_key k p) ≡ 0 = ap one_if (is-same p.key k ∙ e) in
    omega (arith, z, distinct-counts ps t.1 k))

-- the order of the pairs doesn't matter
pub map-permutes : (xs ys : List Pair) → IsPermutation xs ys → Distinct xs → by_key ys ≡ by_key xs
map-permutes xs ys h d =
    let e = distinct-permutes xs ys h d in
    same-map (by_key ys) (by_key xs) (ascends-by_key ys e) (ascends-by_key xs d) (λ q.
    value-by_key ys e q ∙ value-permutes xs ys h d q ∙ sym (value-by_key xs d q))

-- nor does it that they are put into a canonical shape
pub map-canon : (hash_of : Literal → ℕ) (level : ℕ) (ps : List Pair) → IsDistinct ps → by_key (pairs (canon hash_of ps level)) ≡ by_key ps
map-canon hash_of level ps d =
    let zs = pairs (canon hash_of ps level) in
    let c = IsCanonical-canon hash_of ps level d in
    let e = distinct-map ps d in
    let f = distinct-map zs c.distinct in
    same-map (by_key zs) (by_key ps) (ascends-map zs c.distinct) (ascends-map ps d) (λ q.
    value-by_key zs f q ∙ value-alike ps zs e f (λ t. count-canon hash_of t ps level) q ∙ sym (value-by_key ps e q))
