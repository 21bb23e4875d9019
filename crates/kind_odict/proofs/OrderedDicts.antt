-- What the statements on ordered dictionaries leave, and when they leave one the same.
use Rattle.std.proofs.Common.{◌≡◌, ℕ, ℤ, ◌+◌, ◌-◌, ◌<◌, ◌≤◌, length, map, List, [], ◌∷◌, ◌++◌, Bool, true, false, not, ◌||◌, ◌&&◌, cond, remove, swap, reverse, slice_get, get_or, Option, Some, None, refl, sym, ap, ◌∙◌, subst, codes, arith}
use Rattle.std.specs.Prelude.{is_some, nat_lt, option_map}
use Rattle.std.specs.Bool.{Decides}
use Rattle.std.proofs.lemmas.Bool.{true≢false}
use Rattle.std.proofs.lemmas.List.{length-map, length_push, get_or-reverse}
use Rattle.std.proofs.lemmas.List.Edits.{length-remove}
use Rattle.std.proofs.lemmas.Option.{slice_get-get_or, slice_get-map}
use Rattle.cow_dict.proofs.Maps.{has-member, member-value, put-absent, put-here, put-keys, put-past, value-here, value-past}
use Rattle.cow_dict.proofs.Sides.{length-side}
use Rattle.cow_dict.specs.Dictionaries.{comes}
use Rattle.cow_dict.specs.Storages.{keys, pair_of, side_by_side}
use Rattle.cow_elements.proofs.Alike.{own-swap, swap-own}
use Rattle.cow_elements.proofs.Parts.{told-of}
use Rattle.cow_members.proofs.Ascents.{itself, same-is}
use Rattle.cow_members.proofs.Listed.{Distinct, distinct-by, place-found}
use Rattle.cow_members.specs.Ascents.{Ascends}
use Rattle.cow_model.proofs.Ascending.{on_side}
use Rattle.cow_model.specs.Members as members
use Rattle.cow_model.specs.Members.{ascending, member}
use Rattle.cow_model.specs.Operation as operation
use Rattle.cow_model.specs.Order.{same}
use Rattle.cow_model.specs.Pairs.{last, place_in, put, value_in}
use Rattle.cow_model.specs.Plain.{same_pairs}
use Rattle.cow_model.specs.Printed.{line}
use Rattle.cow_model.specs.Turns.{keyed, tells_of, whole}
use Rattle.cow_model.specs.declared.plain.Literal.{Literal}
use Rattle.cow_model.specs.declared.value.Pair.{Pair}
use Rattle.cow_model.specs.declared.value.Plain.TheVariants.{ODict}
use Rattle.kind_dict.proofs.Dicts.{tells-pairs}

-- ---- a pair is put
-- behind a pair of another key
pub put-step : (p q : Pair) (ps : List Pair) → same p.key q.key ≡ false → put last (q ∷ ps) p ≡ q ∷ put last ps p
put-step p q ps f = on_side (member p.key (keys ps))
    (λ m. put-past last p q ps f m)
    (λ n. put-absent last p (q ∷ ps) (ap (λ b. b || member p.key (keys ps)) f ∙ n) ∙ ap (λ l. q ∷ l) (sym (put-absent last p ps n)))

-- its value is then the one under its key
put-told : (p : Pair) (ps : List Pair) → value_in p.key (put last ps p) ≡ Some p.value
put-told p [] = ap (value_in p.key) (put-absent last p [] refl) ∙ value-here p.key p [] (itself p.key)
put-told p (q ∷ ps) = on_side (same p.key q.key)
    (λ t. ap (value_in p.key) (put-here last p q ps t) ∙ value-here p.key p ps (itself p.key))
    (λ f. ap (value_in p.key) (put-step p q ps f) ∙ value-past p.key q (put last ps p) f ∙ put-told p ps)

-- one that is there changes nothing
keeps : (p : Pair) (ps : List Pair) → value_in p.key ps ≡ Some p.value → put last ps p ≡ ps
keeps p [] e = cc
keeps p (q ∷ ps) e = on_side (same p.key q.key)
    (λ t.
    let is : Some q.value ≡ Some p.value = sym (value-here p.key q ps t) ∙ e in
    let one : p.value ≡ q.value = cc in
    put-here last p q ps t ∙ ap (λ r. r ∷ ps) (ap (λ k. pair_of k p.value) (same-is p.key q.key t) ∙ ap (pair_of q.key) one))
    (λ f. put-step p q ps f ∙ ap (λ l. q ∷ l) (keeps p ps (sym (value-past p.key q ps f) ∙ e)))

put-same : (r : Bool) (p : Pair) (ps : List Pair) → Decides r (value_in p.key ps ≡ Some p.value) → r ≡ same_pairs ps (put last ps p)
put-same r p ps d = tells-pairs r ps (put last ps p) (
  (λ t. sym (keeps p ps (d.0 t))),
  (λ e. d.1 (ap (value_in p.key) e ∙ put-told p ps)),
)

count-keys : (ps : List Pair) → length (keys ps) ≡ length ps
count-keys ps = length-map ps (λ p. p.key)

-- how long it gets
pub length-put : (p : Pair) (ps : List Pair) → length (put last ps p) ≤ length ps + comes p.key ps
length-put p ps = on_side (member p.key (keys ps))
    (λ m. omega (arith, count-keys (put last ps p), count-keys ps, ap length (put-keys last p ps m)))
    (λ n.
    let new : comes p.key ps ≡ 1 = ap (λ t. cond t 0 1) (has-member p.key ps ∙ n) in
    omega (arith, new, ap length (put-absent last p ps n), length_push ps p))

pub length-put-most : (p : Pair) (ps : List Pair) → length (put last ps p) ≤ length ps + 1
length-put-most p ps = on_side (member p.key (keys ps))
    (λ m. omega (arith, count-keys (put last ps p), count-keys ps, ap length (put-keys last p ps m)))
    (λ n. omega (arith, ap length (put-absent last p ps n), length_push ps p))

-- ---- whether `put` leaves a value alone that wasn't, by what was found under the key
parts-put : (told r : Bool) (p : Pair) (ps : List Pair) → Decides r (value_in p.key ps ≡ Some p.value) → told ≡ not r → tells_of told (keyed p.key (operation.put p)) (ODict ps) (operation.fitting (operation.put p (ODict ps)))
parts-put told r p ps d h = told-of told (keyed p.key (operation.put p)) (ODict ps) (ODict (put last ps p)) (line (operation.value_under p.key ps)) (h ∙ ap not (put-same r p ps d))

pub parts-put-there : (told r : Bool) (p : Pair) (w : Literal) (ps : List Pair) → Some w ≡ value_in p.key ps → Decides r (w ≡ p.value) → told ≡ not r → tells_of told (keyed p.key (operation.put p)) (ODict ps) (operation.fitting (operation.put p (ODict ps)))
parts-put-there told r p w ps e d h = parts-put told r p ps (
  (λ t. sym e ∙ ap (λ (v : Literal). Some v) (d.0 t)),
  (λ f. d.1 (inner w p.value (e ∙ f))),
) h
  where
    inner : (x y : Literal) → Some x ≡ Some y → x ≡ y
    inner x y e = cc

pub parts-put-absent : (p : Pair) (ps : List Pair) → None ≡ value_in p.key ps → tells_of true (keyed p.key (operation.put p)) (ODict ps) (operation.fitting (operation.put p (ODict ps)))
parts-put-absent p ps e = parts-put true false p ps (
  (λ t. absurd (true≢false (sym t))),
  (λ f. absurd (true≢false (sym (ap is_some (e ∙ f))))),
) refl

-- ---- whether a pair that goes does
pub place-within : (x : Literal) (ps : List Pair) (k : ℕ) → Some k ≡ place_in x ps → k < length ps
place-within x ps k e = grind (arith, e)

shorter : (ps rs : List Pair) → length rs + 1 ≡ length ps → false ≡ same_pairs ps rs
shorter ps rs short = tells-pairs false ps rs ((λ t. absurd (true≢false (sym t))), (λ e. absurd (omega (arith, short, ap length e))))

pub parts-gone : (x : Literal) (ps : List Pair) (k : ℕ) → Some k ≡ place_in x ps → tells_of true (keyed x (operation.remove x)) (ODict ps) (operation.fitting (operation.remove x (ODict ps)))
parts-gone x ps k e =
    let t = keyed x (operation.remove x) in
    subst (λ o. tells_of true t (ODict ps) (operation.fitting (operation.removed_key ODict ps x o))) e
    (told-of true t (ODict ps) (ODict (remove ps k)) (line (operation.value_under x ps)) (ap not (shorter ps (remove ps k) (length-remove ps k (place-within x ps k e)))))

pub parts-absent : (x : Literal) (ps : List Pair) → None ≡ place_in x ps → tells_of false (keyed x (operation.remove x)) (ODict ps) (operation.fitting (operation.remove x (ODict ps)))
parts-absent x ps e =
    let t = keyed x (operation.remove x) in
    subst (λ o. tells_of false t (ODict ps) (operation.fitting (operation.removed_key ODict ps x o))) e
    (told-of false t (ODict ps) (ODict ps) (line (codes "nil")) (ap not (tells-pairs true ps ps (λ t. refl, λ e. refl))))

-- ---- each key stands in one place
some-is : (i k : ℕ) → Some i ≡ Some k → i ≡ k
some-is i k e = cc

key-at : (ps : List Pair) (i : ℕ) (z : Pair) → i < length ps → slice_get (keys ps) i ≡ Some (get_or ps i z).key
key-at ps i z l = slice_get-map (λ (p : Pair). p.key) ps i ∙ ap (option_map (λ (p : Pair). p.key)) (slice_get-get_or ps i z l)

one-place : (ps : List Pair) (m n : ℕ) (z : Pair) → Distinct (keys ps) → m < length ps → n < length ps → get_or ps m z ≡ get_or ps n z → m ≡ n
one-place ps m n z d l k e =
    some-is m n (place-found (get_or ps m z).key (keys ps) m d (key-at ps m z l)
    ∙ ap (λ (p : Pair). members.place_in p.key (keys ps)) e
    ∙ sym (place-found (get_or ps n z).key (keys ps) n d (key-at ps n z k)))

swap-same : (r : Bool) (ps : List Pair) (m n : ℕ) → Distinct (keys ps) → m < length ps → n < length ps → Decides r (m ≡ n) → r ≡ same_pairs ps (swap ps m n)
swap-same r [] m n d l k h = absurd (omega (arith, l))
swap-same r (p ∷ ps) m n d l k h = tells-pairs r (p ∷ ps) (swap (p ∷ ps) m n) (
  (λ t. swap-own p (p ∷ ps) m n l k (ap (λ i. get_or (p ∷ ps) i p) (h.0 t))),
  (λ e. h.1 (one-place (p ∷ ps) m n p d l k (own-swap p (p ∷ ps) m n l k e))),
)

pub parts-swap : (told r : Bool) (i j : ℤ) (ps : List Pair) (m n : ℕ) → Distinct (keys ps) → Some m ≡ operation.index 0 (length ps) i → Some n ≡ operation.index 0 (length ps) j → m < length ps → n < length ps
    → Decides r (m ≡ n) → told ≡ not r → tells_of told (whole (operation.swap i j)) (ODict ps) (operation.fitting (operation.swap i j (ODict ps)))
parts-swap told r i j ps m n d e f l k h s =
    let t = whole (operation.swap i j) in
    subst (λ o. tells_of told t (ODict ps) (operation.fitting (operation.at_place o (λ k. operation.at_place (operation.index 0 (length ps) j) (λ m. operation.silent (ODict (swap ps k m))))))) e
    (subst (λ o. tells_of told t (ODict ps) (operation.fitting (operation.at_place o (λ k. operation.silent (ODict (swap ps m k)))))) f
    (told-of told t (ODict ps) (ODict (swap ps m n)) [] (s ∙ ap not (swap-same r ps m n d l k h))))

-- where a place isn't there
pub none-first : (told : Bool) (i j : ℤ) (ps : List Pair) → None ≡ operation.index 0 (length ps) i → tells_of told (whole (operation.swap i j)) (ODict ps) (operation.fitting (operation.swap i j (ODict ps)))
none-first told i j ps e =
    subst (λ o. tells_of told (whole (operation.swap i j)) (ODict ps) (operation.fitting (operation.at_place o (λ k. operation.at_place (operation.index 0 (length ps) j) (λ m. operation.silent (ODict (swap ps k m))))))) e tt

pub none-second : (told : Bool) (i j : ℤ) (ps : List Pair) → None ≡ operation.index 0 (length ps) j → tells_of told (whole (operation.swap i j)) (ODict ps) (operation.fitting (operation.swap i j (ODict ps)))
none-second told i j ps e =
    let t = whole (operation.swap i j) in
    subst (λ o. tells_of told t (ODict ps) (operation.fitting (operation.at_place (operation.index 0 (length ps) i) (λ k. operation.at_place o (λ m. operation.silent (ODict (swap ps k m))))))) e
    (elim (operation.index 0 (length ps) i) as (λ o. tells_of told t (ODict ps) (operation.fitting (operation.at_place o (λ k. operation.at_place None (λ m. operation.silent (ODict (swap ps k m)))))))
    [ None ↦ tt | Some k ↦ tt ])

-- the keys that are shown are those of the pairs
pub shown-count : {K : Type 0} (plain : K → Literal) (xs : List K) (vs : List Literal) (ps : List Pair) → side_by_side (map plain xs) vs ≡ ps → length xs ≡ length ps
shown-count plain xs vs ps e = sym (length-map xs plain) ∙ sym (length-side (map plain xs) vs) ∙ ap length e

pub shown-apart : (ps : List Pair) → Ascends (ascending (keys ps)) → Distinct (keys ps)
shown-apart ps s = distinct-by (keys ps) s

-- the first pair is the last one only where there is no other
turned-short : (ps : List Pair) → length ps ≤ 1 → ps ≡ reverse ps
turned-short [] l = refl
turned-short (p ∷ []) l = refl
turned-short (p ∷ q ∷ ps) l = absurd (omega (arith, l))

short-turned : (ps : List Pair) → Distinct (keys ps) → ps ≡ reverse ps → length ps ≤ 1
short-turned [] d e = omega arith
short-turned (p ∷ ps) d e =
    let all = p ∷ ps in
    let n = length all in
    let first : get_or all 0 p ≡ get_or all (n - 1 - 0) p = ap (λ l. get_or l 0 p) e ∙ get_or-reverse all 0 p (omega arith) in
    let same : 0 ≡ n - 1 - 0 = one-place all 0 (n - 1 - 0) p d (omega arith) (omega arith) first in
    omega (arith, same)

pub parts-reverse : (n : ℕ) (ps : List Pair) → n ≡ length ps → Distinct (keys ps) → tells_of (nat_lt 1 n) (whole operation.reversed) (ODict ps) (operation.fitting (operation.reversed (ODict ps)))
parts-reverse n ps e d = told-of (nat_lt 1 n) (whole operation.reversed) (ODict ps) (ODict (reverse ps)) [] (on_side (nat_lt 1 n)
    (λ t.
    let long : 1 < n = grind (arith, t) in
    t ∙ ap not (tells-pairs false ps (reverse ps) ((λ s. absurd (true≢false (sym s))), (λ s. absurd (omega (arith, e, long, short-turned ps d s))))))
    (λ f.
    let short : n ≤ 1 = grind (arith, f) in
    f ∙ ap not (tells-pairs true ps (reverse ps) ((λ s. turned-short ps (omega (arith, e, short))), (λ s. refl)))))
