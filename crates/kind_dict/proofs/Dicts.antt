-- What the statements on dictionaries leave, in the words of the collection, and when they leave one the same.
use Rattle.std.proofs.Common.{◌≡◌, ℕ, zero, suc, ◌+◌, ◌<◌, ◌≤◌, ◌≢◌, length, map, List, [], ◌∷◌, ◌++◌, Bool, true, false, not, ◌||◌, ◌&&◌, cond, filter, fold, take, drop, remove, slice_get, count_by, Option, Some, None, Ok, Err, refl, sym, ap, ◌∙◌, subst, codes, arith}
use Rattle.std.specs.Prelude.{is_some, nat_le, nat_lt}
use Rattle.std.specs.List.{list_all, prefix_len}
use Rattle.std.specs.Bool.{Decides}
use Rattle.std.specs.Cmp.Lexicographic.{pointwise_decides}
use Rattle.std.proofs.lemmas.Bool.{true≢false}
use Rattle.std.proofs.lemmas.Bool.Decides.{same_from_decides}
use Rattle.std.proofs.lemmas.List.{length-map}
use Rattle.std.proofs.lemmas.List.Sums.{count_by-le-length, length-filter}
use Rattle.cow_dict.proofs.Maps.{ascends-put, choice, distinct-ascending, has-member, keys-in_order, member-value, put-absent, put-keys, same-map, value-here, value-none, value-past, value-put}
use Rattle.cow_dict.proofs.Merges.{ascends-merge, put_new-absent, put_new-there, value-merge}
use Rattle.cow_dict.proofs.Questions.{all-held, value-held}
use Rattle.cow_dict.specs.Dictionaries.{comes, either_of, has, holds, without}
use Rattle.cow_dict.specs.Storages.{keys, pair_of}
use Rattle.cow_members.proofs.Ascents.{above-lacks, and-both, itself, same-is}
use Rattle.cow_members.specs.Ascents.{Ascends}
use Rattle.cow_model.proofs.Ascending.{on_side}
use Rattle.cow_model.specs.Members as members
use Rattle.cow_model.specs.Members.{member, union, with_member}
use Rattle.cow_model.specs.Operation as operation
use Rattle.cow_model.specs.Order.{same}
use Rattle.cow_model.specs.Pairs.{in_order, merge, place_in, put, put_new, value_in, within}
use Rattle.cow_model.specs.Answers.{is_refused, reply_of, value_after, verdict}
use Rattle.cow_model.specs.Flat.{Flat}
use Rattle.cow_model.specs.Lexis.{Text}
use Rattle.cow_model.specs.Plain.{count, max_count, same_pair, same_pairs}
use Rattle.cow_model.specs.Printed.{line, atom_text, nil_or}
use Rattle.cow_model.specs.Turns.{keyed, tells_of, whole}
use Rattle.cow_model.specs.declared.plain.Literal.{Literal}
use Rattle.cow_model.specs.declared.value.Pair.{Pair}
use Rattle.cow_model.specs.declared.value.Plain.TheVariants.{Dict, Set}
use Rattle.cow_members.proofs.Operations.{lacking-there, lacking-more}
use Rattle.cow_members.specs.Sets.{lacking, ChangesTo}
use Rattle.cow_model.specs.declared.refusal.Refusal.TheVariants.{Full}
use Rattle.cow_value.specs.Calls.{Does}
use Rattle.kind_dict.specs.Values.{dict}
use Rattle.cow_elements.proofs.Equals.{one-or-not}
use Rattle.cow_elements.proofs.Members.{length-union, length-union-most}
use Rattle.cow_elements.proofs.Parts.{told-of}

-- ---- lists of pairs are one exactly where they are equal
both-same : (p q : Pair) → Decides (same_pair p q) (p ≡ q)
both-same p q = (
  (λ e.
      let both = and-both (same p.key q.key) (same p.value q.value) e in
      ap (λ k. pair_of k p.value) (same-is p.key q.key both.0) ∙ ap (pair_of q.key) (same-is p.value q.value both.1)),
  (λ e. rw e (ap (λ b. b && same q.value q.value) (itself q.key) ∙ itself q.value)),
)

pub tells-pairs : (r : Bool) (ps rs : List Pair) → Decides r (ps ≡ rs) → r ≡ same_pairs ps rs
tells-pairs r ps rs d = same_from_decides r (same_pairs ps rs) d (pointwise_decides both-same ps rs)

-- ---- the pair of a key goes
module _ (k : Literal) where
  -- the number of pairs before that of the key
  abbrev pub before : List Pair → ℕ
  before ps = prefix_len (λ p. not (same k p.key)) ps

  before-here : (p : Pair) (ps : List Pair) → same k p.key ≡ true → before (p ∷ ps) ≡ 0
  before-here p ps e = ap (λ t. cond (not t) (1 + before ps) 0) e

  before-there : (p : Pair) (ps : List Pair) → same k p.key ≡ false → before (p ∷ ps) ≡ suc (before ps)
  before-there p ps e = let more : 1 + before ps ≡ suc (before ps) = omega arith in ap (λ t. cond (not t) (1 + before ps) 0) e ∙ more

  stands : (ps : List Pair) → member k (keys ps) ≡ true → before ps < length ps
  stands [] m = absurd (true≢false (sym m))
  stands (p ∷ ps) m = on_side (same k p.key)
      (λ e. rw (before-here p ps e) (omega arith))
      (λ e. let rest = stands ps (sym (ap (λ t. t || member k (keys ps)) e) ∙ m) in rw (before-there p ps e) (omega (arith, rest)))

  stands-nowhere : (ps : List Pair) → member k (keys ps) ≡ false → before ps ≡ length ps
  stands-nowhere [] m = refl
  stands-nowhere (p ∷ ps) m = on_side (same k p.key)
      (λ e. absurd (true≢false (sym (ap (λ t. t || member k (keys ps)) e) ∙ m)))
      (λ e. before-there p ps e ∙ ap suc (stands-nowhere ps (sym (ap (λ t. t || member k (keys ps)) e) ∙ m)))

  turned : (p : Pair) → same k p.key ≡ false → same p.key k ≡ false
  turned p d = on_side (same p.key k) (λ e. absurd (true≢false (sym (subst (λ z. same k z ≡ true) (sym (same-is p.key k e)) (itself k)) ∙ d))) (λ e. e)

  filtered : (p : Pair) (ps : List Pair) (b : Bool) → same p.key k ≡ b → without k (p ∷ ps) ≡ cond (not b) (p ∷ without k ps) (without k ps)
  filtered p ps b e = ap (λ t. cond (not t) (p ∷ without k ps) (without k ps)) e

  pub none-goes : (ps : List Pair) → member k (keys ps) ≡ false → without k ps ≡ ps
  none-goes [] m = refl
  none-goes (p ∷ ps) m = on_side (same k p.key)
      (λ e. absurd (true≢false (sym (ap (λ t. t || member k (keys ps)) e) ∙ m)))
      (λ e. filtered p ps false (turned p e) ∙ ap (λ l. p ∷ l) (none-goes ps (sym (ap (λ t. t || member k (keys ps)) e) ∙ m)))

  gone : (ps : List Pair) → Ascends (keys ps) → member k (keys ps) ≡ true → remove ps (before ps) ≡ without k ps
  gone [] s m = absurd (true≢false (sym m))
  gone (p ∷ ps) s m = on_side (same k p.key)
      (λ e.
      let one : k ≡ p.key = same-is k p.key e in
      let here : same p.key k ≡ true = subst (λ z. same z k ≡ true) one (itself k) in
      let lacks : member k (keys ps) ≡ false = subst (λ z. member z (keys ps) ≡ false) (sym one) (above-lacks p.key (keys ps) s.0) in
      rw (before-here p ps e) (sym (none-goes ps lacks) ∙ sym (filtered p ps true here)))
      (λ e.
      let rest = gone ps s.1 (sym (ap (λ t. t || member k (keys ps)) e) ∙ m) in
      rw (before-there p ps e) (ap (λ l. p ∷ l) rest ∙ sym (filtered p ps false (turned p e))))

-- `remove`: the value under the key is told, and its pair goes, where there is one
pub removes : (k : Literal) (ps : List Pair) → Ascends (keys ps) → operation.remove k (Dict ps) ≡ operation.replies (operation.value_under k ps) (Dict (without k ps))
removes k ps s = on_side (member k (keys ps))
    (λ m.
    let within : nat_lt (before k ps) (length ps) ≡ true = grind (arith, stands k ps m) in
    ap (λ t. operation.removed_key Dict ps k (cond t (Some (before k ps)) None)) within
    ∙ ap (λ l. operation.replies (operation.value_under k ps) (Dict l)) (gone k ps s m))
    (λ m.
    let past : nat_lt (before k ps) (length ps) ≡ false = grind (arith, stands-nowhere k ps m) in
    ap (λ t. operation.removed_key Dict ps k (cond t (Some (before k ps)) None)) past
    ∙ ap (λ o. operation.replies (nil_or atom_text o) (Dict ps)) (sym (value-none k ps m))
    ∙ ap (λ l. operation.replies (operation.value_under k ps) (Dict l)) (sym (none-goes k ps m)))

-- ---- `remove`, from what the call of the collection does
length-without : (k : Literal) (ps : List Pair) → length (without k ps) ≤ length ps
length-without k ps = omega (arith, length-filter (λ p. not (same p.key k)) ps, count_by-le-length (λ p. not (same p.key k)) ps)

pub removed-answer : (k : Literal) (ps : List Pair) → Ascends (keys ps) → length ps ≤ max_count →
    operation.fitting (operation.remove k (Dict ps)) ≡ operation.replies (operation.value_under k ps) (Dict (without k ps))
removed-answer k ps s n =
    let fits : nat_le (count (Dict (without k ps))) max_count ≡ true = grind (arith, length-without k ps, n) in
    ap operation.fitting (removes k ps s)
    ∙ ap (λ b. cond {A = operation.Answer} b (operation.replies (operation.value_under k ps) (Dict (without k ps))) (Err Full)) fits

module _ (k : Literal) (before after : Flat (List Pair)) (s : Ascends (keys before.value)) (n : length before.value ≤ max_count) where
  pub does-remove : (text text' : Text) → ChangesTo (without k before.value) before after → text' ≡ text ++ line (operation.value_under k before.value)
      → Does (keyed k (operation.remove k)) (dict before) (dict after) text text' (Ok (Ok tt))
  does-remove text text' c t =
      let answer = removed-answer k before.value s n in
      record {
        told = subst (λ a. Ok tt ≡ verdict a) (sym answer) refl;
        value = subst (λ a. Dict after.value ≡ value_after (Dict before.value) a) (sym answer) (ap Dict c.value);
        reply = subst (λ a. text' ≡ text ++ reply_of a) (sym answer) t;
        kept = tt;
        alone = λ e. grind (arith, c.handle, e);
        parted = λ p. grind (arith, c.handle);
      }

  pub never-refused : is_refused (operation.fitting (operation.remove k (Dict before.value))) ≡ true → {X : Type 0} → X
  never-refused e = absurd (true≢false (sym e ∙ ap is_refused (removed-answer k before.value s n)))

-- ---- the keys of what is put
keys-put : (p : Pair) (ps : List Pair) → keys (put in_order ps p) ≡ with_member members.in_order (keys ps) p.key
keys-put p ps = on_side (member p.key (keys ps))
    (λ m. put-keys in_order p ps m ∙ sym (ap (λ t. cond t (keys ps) (members.in_order p.key (keys ps))) m))
    (λ m. ap keys (put-absent in_order p ps m) ∙ keys-in_order p ps ∙ sym (ap (λ t. cond t (keys ps) (members.in_order p.key (keys ps))) m))

keys-put_new : (p : Pair) (ps : List Pair) → keys (put_new in_order ps p) ≡ with_member members.in_order (keys ps) p.key
keys-put_new p ps = on_side (member p.key (keys ps))
    (λ m. ap keys (put_new-there p ps m) ∙ sym (ap (λ t. cond t (keys ps) (members.in_order p.key (keys ps))) m))
    (λ m. ap keys (put_new-absent p ps m) ∙ keys-in_order p ps ∙ sym (ap (λ t. cond t (keys ps) (members.in_order p.key (keys ps))) m))

keys-merge : (t : Bool) (ps rs : List Pair) → keys (merge in_order t ps rs) ≡ union members.in_order (keys ps) (keys rs)
keys-merge true ps [] = refl
keys-merge true ps (r ∷ rs) = keys-merge true (put in_order ps r) rs ∙ ap (λ l. union members.in_order l (keys rs)) (keys-put r ps)
keys-merge false ps [] = refl
keys-merge false ps (r ∷ rs) = keys-merge false (put_new in_order ps r) rs ∙ ap (λ l. union members.in_order l (keys rs)) (keys-put_new r ps)

count-keys : (ps : List Pair) → length (keys ps) ≡ length ps
count-keys ps = length-map ps (λ p. p.key)

-- how long dictionaries get
pub length-merge : (t : Bool) (ps rs : List Pair) → Ascends (keys rs) → length (merge in_order t ps rs) ≡ length ps + lacking (keys ps) (keys rs)
length-merge t ps rs s = omega (arith, count-keys (merge in_order t ps rs), count-keys ps, ap length (keys-merge t ps rs), length-union (keys ps) (keys rs) s)

pub length-merge-most : (t : Bool) (ps rs : List Pair) → length (merge in_order t ps rs) ≤ length ps + length rs
length-merge-most t ps rs = omega (arith, count-keys (merge in_order t ps rs), count-keys ps, count-keys rs, ap length (keys-merge t ps rs), length-union-most (keys ps) (keys rs))

pub length-put : (p : Pair) (ps : List Pair) → length (put in_order ps p) ≤ length ps + comes p.key ps
length-put p ps = on_side (member p.key (keys ps))
    (λ m. omega (arith, count-keys (put in_order ps p), count-keys ps, ap length (put-keys in_order p ps m)))
    (λ m.
    let new : comes p.key ps ≡ 1 = ap (λ t. cond t 0 1) (has-member p.key ps ∙ m) in
    omega (arith, new, count-keys (put in_order ps p), count-keys ps, length-merge-most true ps (p ∷ [])))

pub length-put-most : (p : Pair) (ps : List Pair) → length (put in_order ps p) ≤ length ps + 1
length-put-most p ps = length-merge-most true ps (p ∷ [])

pub length_within : (ps : List Pair) (v : List Literal) → length (within ps v) ≤ length ps
length_within ps v = omega (arith, length-filter (λ p. member p.key v) ps, count_by-le-length (λ p. member p.key v) ps)

-- ---- when a dictionary stays the same
kept-all : {X : Type 0} (p : X → Bool) (xs : List X) → list_all p xs ≡ true → xs ≡ filter p xs
kept-all p [] e = refl
kept-all p (x ∷ xs) e =
    let both = and-both (p x) (list_all p xs) e in
    ap (λ l. x ∷ l) (kept-all p xs both.1) ∙ sym (ap (λ t. cond t (x ∷ filter p xs) (filter p xs)) both.0)

all-kept : {X : Type 0} (p : X → Bool) (xs : List X) → xs ≡ filter p xs → list_all p xs ≡ true
all-kept p [] e = refl
all-kept p (x ∷ xs) e = on_side (p x)
    (λ t.
    let rest : x ∷ xs ≡ x ∷ filter p xs = e ∙ ap (λ b. cond b (x ∷ filter p xs) (filter p xs)) t in
    let tails : xs ≡ filter p xs = cc in
    ap (λ b. b && list_all p xs) t ∙ all-kept p xs tails)
    (λ f.
    let short : x ∷ xs ≡ filter p xs = e ∙ ap (λ b. cond b (x ∷ filter p xs) (filter p xs)) f in
    absurd (omega (arith, ap length short, length-filter p xs, count_by-le-length p xs)))

filter-same : (p : Pair → Bool) (ps : List Pair) → list_all p ps ≡ same_pairs ps (filter p ps)
filter-same p ps = tells-pairs (list_all p ps) ps (filter p ps) (kept-all p ps, all-kept p ps)

all-keys : (f : Literal → Bool) (ps : List Pair) → list_all f (keys ps) ≡ list_all (λ p. f p.key) ps
all-keys f [] = refl
all-keys f (p ∷ ps) = ap (λ b. f p.key && b) (all-keys f ps)

lacks-all : (k : Literal) (ps : List Pair) → not (member k (keys ps)) ≡ list_all (λ p. not (same p.key k)) ps
lacks-all k [] = refl
lacks-all k (p ∷ ps) = on_side (same k p.key)
    (λ e.
    let here : same p.key k ≡ true = subst (λ z. same z k ≡ true) (same-is k p.key e) (itself k) in
    ap (λ t. not (t || member k (keys ps))) e ∙ sym (ap (λ t. not t && list_all (λ q. not (same q.key k)) ps) here))
    (λ e. ap (λ t. not (t || member k (keys ps))) e ∙ lacks-all k ps ∙ sym (ap (λ t. not t && list_all (λ q. not (same q.key k)) ps) (turned k p e)))

put-same : (r : Bool) (p : Pair) (ps : List Pair) → Ascends (keys ps) → Decides r (value_in p.key ps ≡ Some p.value) → r ≡ same_pairs ps (put in_order ps p)
put-same r p ps s d = tells-pairs r ps (put in_order ps p) (
  (λ t. same-map ps (put in_order ps p) s (ascends-put p ps s) (λ q. on_side (same q p.key)
      (λ e. ap (λ k. value_in k ps) (same-is q p.key e) ∙ d.0 t ∙ sym (value-put p ps (distinct-ascending ps s) q ∙ ap (λ b. choice b (Some p.value) (value_in q ps)) e))
      (λ e. sym (value-put p ps (distinct-ascending ps s) q ∙ ap (λ b. choice b (Some p.value) (value_in q ps)) e)))),
  (λ e. d.1 (ap (value_in p.key) e ∙ value-put p ps (distinct-ascending ps s) p.key ∙ ap (λ b. choice b (Some p.value) (value_in p.key ps)) (itself p.key))),
)

keeps-same : (r : Bool) (ps rs : List Pair) → Ascends (keys rs) → Decides r (lacking (keys ps) (keys rs) ≡ 0) → r ≡ same_pairs ps (merge in_order false ps rs)
keeps-same r ps rs s d = tells-pairs r ps (merge in_order false ps rs) (
  (λ t. none-comes ps rs (d.0 t)),
  (λ e. d.1 (omega (arith, ap length e, length-merge false ps rs s))),
)
  where
    none-comes : (ps rs : List Pair) → lacking (keys ps) (keys rs) ≡ 0 → ps ≡ merge in_order false ps rs
    none-comes ps [] n = refl
    none-comes ps (r ∷ rs) n = on_side (member r.key (keys ps))
        (λ m. none-comes ps rs (sym (lacking-there (keys ps) (keys rs) r.key m) ∙ n) ∙ sym (ap (λ l. merge in_order false l rs) (put_new-there r ps m)))
        (λ m. absurd (omega (arith, n, lacking-more (keys ps) (keys rs) r.key m)))

takes-same : (ps rs : List Pair) → Ascends (keys ps) → Ascends (keys rs) → list_all (holds ps) rs ≡ same_pairs ps (merge in_order true ps rs)
takes-same ps rs s t =
    let d = distinct-ascending rs t in
    tells-pairs (list_all (holds ps) rs) ps (merge in_order true ps rs) (
      (λ all. same-map ps (merge in_order true ps rs) s (ascends-merge true ps rs s) (λ q. sym (value-merge true ps rs s d q ∙ taken (value_in q rs) (value_in q ps) (λ v e. value-held ps rs all q v e)))),
      (λ e. all-held ps rs d (λ q v f. ap (value_in q) e ∙ value-merge true ps rs s d q ∙ ap (λ o. either_of o (value_in q ps)) f)),
    )
  where
    taken : (theirs mine : Option Literal) → ((v : Literal) → theirs ≡ Some v → mine ≡ Some v) → either_of theirs mine ≡ mine
    taken None mine h = refl
    taken (Some v) mine h = sym (h v refl)

-- ---- whether a statement leaves a value alone that wasn't
pub parts-put : (told r : Bool) (p : Pair) (ps : List Pair) → Ascends (keys ps) → Decides r (value_in p.key ps ≡ Some p.value) → told ≡ not r → tells_of told (keyed p.key (operation.put p)) (Dict ps) (operation.fitting (operation.put p (Dict ps)))
parts-put told r p ps s d h = told-of told (keyed p.key (operation.put p)) (Dict ps) (Dict (put in_order ps p)) (line (operation.value_under p.key ps)) (h ∙ ap not (put-same r p ps s d))

pub parts-remove : (told : Bool) (k : Literal) (ps : List Pair) → Ascends (keys ps) → told ≡ has k ps → tells_of told (keyed k (operation.remove k)) (Dict ps) (operation.fitting (operation.remove k (Dict ps)))
parts-remove told k ps s h =
    let lost : not (member k (keys ps)) ≡ same_pairs ps (without k ps) = lacks-all k ps ∙ filter-same (λ p. not (same p.key k)) ps in
    subst (λ a. tells_of told (keyed k (operation.remove k)) (Dict ps) (operation.fitting a)) (sym (removes k ps s))
    (told-of told (keyed k (operation.remove k)) (Dict ps) (Dict (without k ps)) (line (operation.value_under k ps)) (h ∙ has-member k ps ∙ sym (twice (member k (keys ps))) ∙ ap not lost))
  where
    twice : (b : Bool) → not (not b) ≡ b
    twice true = refl
    twice false = refl

-- the same by what was found under the key
pub parts-put-there : (told r : Bool) (p : Pair) (w : Literal) (ps : List Pair) → Ascends (keys ps) → Some w ≡ value_in p.key ps → Decides r (w ≡ p.value) → told ≡ not r → tells_of told (keyed p.key (operation.put p)) (Dict ps) (operation.fitting (operation.put p (Dict ps)))
parts-put-there told r p w ps s e d h = parts-put told r p ps s (
  (λ t. sym e ∙ ap (λ (v : Literal). Some v) (d.0 t)),
  (λ f. d.1 (inner w p.value (e ∙ f))),
) h
  where
    inner : (x y : Literal) → Some x ≡ Some y → x ≡ y
    inner x y e = cc

pub parts-put-absent : (p : Pair) (ps : List Pair) → Ascends (keys ps) → None ≡ value_in p.key ps → tells_of true (keyed p.key (operation.put p)) (Dict ps) (operation.fitting (operation.put p (Dict ps)))
parts-put-absent p ps s e = parts-put true false p ps s (
  (λ t. absurd (true≢false (sym t))),
  (λ f. absurd (true≢false (sym (ap is_some (e ∙ f))))),
) refl

pub parts-remove-there : (k w : Literal) (ps : List Pair) → Ascends (keys ps) → Some w ≡ value_in k ps → tells_of true (keyed k (operation.remove k)) (Dict ps) (operation.fitting (operation.remove k (Dict ps)))
parts-remove-there k w ps s e = parts-remove true k ps s (sym (has-member k ps ∙ member-value k ps ∙ ap is_some (sym e)))

pub parts-remove-absent : (k : Literal) (ps : List Pair) → Ascends (keys ps) → None ≡ value_in k ps → tells_of false (keyed k (operation.remove k)) (Dict ps) (operation.fitting (operation.remove k (Dict ps)))
parts-remove-absent k ps s e = parts-remove false k ps s (sym (has-member k ps ∙ member-value k ps ∙ ap is_some (sym e)))

pub parts-keep : (told r : Bool) (ps rs : List Pair) → Ascends (keys rs) → Decides r (lacking (keys ps) (keys rs) ≡ 0) → told ≡ not r → tells_of told (whole (λ v. operation.merge false v (Dict rs))) (Dict ps) (operation.fitting (operation.merge false (Dict ps) (Dict rs)))
parts-keep told r ps rs s d h = told-of told (whole (λ v. operation.merge false v (Dict rs))) (Dict ps) (Dict (merge in_order false ps rs)) [] (h ∙ ap not (keeps-same r ps rs s d))

pub parts-take : (told : Bool) (ps rs : List Pair) → Ascends (keys ps) → Ascends (keys rs) → told ≡ not (list_all (holds ps) rs) → tells_of told (whole (λ v. operation.merge true v (Dict rs))) (Dict ps) (operation.fitting (operation.merge true (Dict ps) (Dict rs)))
parts-take told ps rs s t h = told-of told (whole (λ v. operation.merge true v (Dict rs))) (Dict ps) (Dict (merge in_order true ps rs)) [] (h ∙ ap not (takes-same ps rs s t))

pub parts-within : (told : Bool) (ps : List Pair) (v : List Literal) → told ≡ not (list_all (λ k. member k v) (keys ps)) → tells_of told (whole (λ d. operation.within d (Set v))) (Dict ps) (operation.fitting (operation.within (Dict ps) (Set v)))
parts-within told ps v h = told-of told (whole (λ d. operation.within d (Set v))) (Dict ps) (Dict (within ps v)) [] (h ∙ ap not (all-keys (λ k. member k v) ps ∙ filter-same (λ p. member p.key v) ps))
