-- Where a member stands, how long sets get, and when one stays the same, whatever shows them.
use Rattle.std.proofs.Common.{◌≡◌, ℕ, suc, ◌+◌, ◌<◌, ◌≤◌, length, List, [], ◌∷◌, Bool, true, false, not, ◌||◌, ◌&&◌, cond, filter, remove, slice_get, Option, Some, None, Ok, Err, refl, sym, ap, ◌∙◌, subst, codes, arith}
use Rattle.std.specs.Prelude.{nat_lt, nat_le}
use Rattle.std.specs.List.{list_all, prefix_len}
use Rattle.std.specs.Bool.{Decides}
use Rattle.std.proofs.lemmas.Bool.{true≢false}
use Rattle.std.proofs.lemmas.List.Sums.{count_by-le-length, length-filter}
use Rattle.cow_members.proofs.Ascents.{above-lacks, and-both, ascends-filter, each-all, itself, member-filter, member-in_order, member-union, same-is, unequal}
use Rattle.cow_members.specs.Ascents.{Ascends, IsBelow}
use Rattle.cow_model.proofs.Ascending.{on_side, behind, ahead}
use Rattle.cow_model.specs.Members.{disjoint, in_order, inter, member, minus, subset, symdiff, union, with_member}
use Rattle.cow_model.specs.Operation as operation
use Rattle.cow_model.specs.Order.{below, same}
use Rattle.cow_model.specs.Lexis.{Text}
use Rattle.cow_model.specs.Plain.{count, max_count, same_items, same_plain}
use Rattle.cow_model.specs.Printed.{atom_text, line, nil_or}
use Rattle.cow_model.specs.Turns.{Turn, keyed, tells_of}
use Rattle.cow_model.specs.declared.plain.Literal.{Literal}
use Rattle.cow_model.specs.declared.refusal.Refusal.TheVariants.{Full}
use Rattle.cow_model.specs.declared.value.Plain.{Plain}
use Rattle.cow_model.specs.declared.value.Plain.TheVariants.{Set}
use Rattle.cow_members.proofs.Keys.{without-none}
use Rattle.cow_members.proofs.Operations.{lacking-there, lacking-more}
use Rattle.cow_members.specs.Sets.{found, lacking, without}
use Rattle.cow_elements.proofs.Equals.{tells-same}

-- ---- one member goes
module _ (x : Literal) where
  -- the number of members before the first that is x
  abbrev pub before : List Literal → ℕ
  before v = prefix_len (λ y. not (same x y)) v

  before-here : (y : Literal) (v : List Literal) → same x y ≡ true → before (y ∷ v) ≡ 0
  before-here y v e = ap (λ t. cond (not t) (1 + before v) 0) e

  before-there : (y : Literal) (v : List Literal) → same x y ≡ false → before (y ∷ v) ≡ suc (before v)
  before-there y v e = let more : 1 + before v ≡ suc (before v) = omega arith in ap (λ t. cond (not t) (1 + before v) 0) e ∙ more

  -- a member stands within the list, and is x
  pub stands : (v : List Literal) → member x v ≡ true → (before v < length v) × (slice_get v (before v) ≡ Some x)
  stands [] m = absurd (true≢false (sym m))
  stands (y ∷ v) m = on_side (same x y)
      (λ e. rw (before-here y v e) (omega arith, ap (λ z. Some z) (sym (same-is x y e))))
      (λ e. let rest = stands v (sym (ap (λ t. t || member x v) e) ∙ m) in rw (before-there y v e) (omega (arith, rest.0), rest.1))

  -- one that is none stands past the end
  pub stands-nowhere : (v : List Literal) → member x v ≡ false → before v ≡ length v
  stands-nowhere [] m = refl
  stands-nowhere (y ∷ v) m = on_side (same x y)
      (λ e. absurd (true≢false (sym (ap (λ t. t || member x v) e) ∙ m)))
      (λ e. before-there y v e ∙ ap suc (stands-nowhere v (sym (ap (λ t. t || member x v) e) ∙ m)))

  filtered : (y : Literal) (v : List Literal) (b : Bool) → same y x ≡ b → without x (y ∷ v) ≡ cond (not (b || false)) (y ∷ without x v) (without x v)
  filtered y v b e = ap (λ t. cond (not (t || false)) (y ∷ without x v) (without x v)) e

  turned : (y : Literal) → same x y ≡ false → same y x ≡ false
  turned y d = on_side (same y x) (λ e. absurd (true≢false (sym (subst (λ z. same x z ≡ true) (sym (same-is y x e)) (itself x)) ∙ d))) (λ e. e)

  pub gone : (v : List Literal) → Ascends v → member x v ≡ true → remove v (before v) ≡ without x v
  gone [] s m = absurd (true≢false (sym m))
  gone (y ∷ v) s m = on_side (same x y)
      (λ e.
      let one : x ≡ y = same-is x y e in
      let here : same y x ≡ true = subst (λ z. same z x ≡ true) one (itself x) in
      let lacks : member x v ≡ false = subst (λ z. member z v ≡ false) (sym one) (above-lacks y v s.0) in
      rw (before-here y v e) (without-none x v lacks ∙ sym (filtered y v true here)))
      (λ e.
      let rest = gone v s.1 (sym (ap (λ t. t || member x v) e) ∙ m) in
      rw (before-there y v e) (ap (λ l. y ∷ l) rest ∙ sym (filtered y v false (turned y e))))

-- ---- how long sets get
pub length-in_order : (a : Literal) (v : List Literal) → length (in_order a v) ≡ 1 + length v
length-in_order a [] = refl
length-in_order a (z ∷ v) = on_side (below z a)
    (λ e. omega (arith, ap length (behind a z v e), length-in_order a v))
    (λ e. omega (arith, ap length (ahead a z v e)))

-- one more member below all others of a list is none of them
lacking-below : (y : Literal) (v w : List Literal) → IsBelow y w → lacking (in_order y v) w ≡ lacking v w
lacking-below y v [] b = refl
lacking-below y v (q ∷ w) b =
    let other : same q y ≡ false = unequal y q b.0 in
    let alike : member q (in_order y v) ≡ member q v = member-in_order q y v ∙ ap (λ t. t || member q v) other in
    on_side (member q v)
    (λ e. omega (arith, lacking-there (in_order y v) w q (alike ∙ e), lacking-below y v w b.1, lacking-there v w q e))
    (λ e. omega (arith, lacking-more (in_order y v) w q (alike ∙ e), lacking-below y v w b.1, lacking-more v w q e))

pub length-union : (v w : List Literal) → Ascends w → length (union in_order v w) ≡ length v + lacking v w
length-union v [] s = omega arith
length-union v (y ∷ w) s = on_side (member y v)
    (λ e. ap (λ t. length (union in_order (cond t v (in_order y v)) w)) e ∙ length-union v w s.1 ∙ ap (λ n. length v + n) (sym (lacking-there v w y e)))
    (λ e.
    ap (λ t. length (union in_order (cond t v (in_order y v)) w)) e ∙ length-union (in_order y v) w s.1
    ∙ omega (arith, length-in_order y v, lacking-below y v w s.0, lacking-more v w y e))

pub length-union-most : (v w : List Literal) → length (union in_order v w) ≤ length v + length w
length-union-most v [] = omega arith
length-union-most v (y ∷ w) = on_side (member y v)
    (λ e. omega (arith, ap (λ t. length (union in_order (cond t v (in_order y v)) w)) e, length-union-most v w))
    (λ e. omega (arith, ap (λ t. length (union in_order (cond t v (in_order y v)) w)) e, length-union-most (in_order y v) w, length-in_order y v))

pub length-with : (a : Literal) (v : List Literal) → length (with_member in_order v a) ≤ length v + 1
length-with a v = on_side (member a v)
    (λ e. rw e (omega arith))
    (λ e. rw e (omega (arith, length-in_order a v)))

-- all of a list that has none of another are missing there
all-missing : (v w : List Literal) → ((q : Literal) → member q w ≡ true → member q v ≡ false) → lacking v w ≡ length w
all-missing v [] h = refl
all-missing v (y ∷ w) h =
    omega (arith, lacking-more v w y (h y (ap (λ t. t || member y w) (itself y))), all-missing v w (λ q m. h q (ap (λ t. same q y || t) m ∙ or-true (same q y))))
  where
    or-true : (a : Bool) → (a || true) ≡ true
    or-true true = refl
    or-true false = refl

no-both : (a b c : Bool) → (a && not b) ≡ true → (c && not a) ≡ false
no-both true b true e = refl
no-both true b false e = refl
no-both false b c e = cc

pub length-symdiff : (v w : List Literal) → Ascends v → Ascends w → length (symdiff in_order v w) ≡ lacking w v + lacking v w
length-symdiff v w s t =
    let apart : lacking (minus v w) (minus w v) ≡ length (minus w v) =
    all-missing (minus v w) (minus w v) (λ q m.
    member-filter (λ a. not (member a w)) q v
    ∙ no-both (member q w) (member q v) (member q v) (sym (member-filter (λ a. not (member a v)) q w) ∙ m)) in
    length-union (minus v w) (minus w v) (ascends-filter (λ a. not (member a v)) w t)
    ∙ omega (arith, apart, length-filter (λ a. not (member a w)) v, length-filter (λ a. not (member a v)) w)

pub length_inter : (v w : List Literal) → length (inter v w) ≤ length v
length_inter v w = omega (arith, length-filter (λ a. member a w) v, count_by-le-length (λ a. member a w) v)

pub length_minus : (v w : List Literal) → length (minus v w) ≤ length v
length_minus v w = omega (arith, length-filter (λ a. not (member a w)) v, count_by-le-length (λ a. not (member a w)) v)

pub length-symdiff-most : (v w : List Literal) → length (symdiff in_order v w) ≤ length v + length w
length-symdiff-most v w =
    omega (arith, length-union-most (minus v w) (minus w v), length_minus v w, length_minus w v)

-- ---- when a set stays the same
kept-all : (p : Literal → Bool) (v : List Literal) → list_all p v ≡ true → v ≡ filter p v
kept-all p [] e = refl
kept-all p (x ∷ v) e =
    let both = and-both (p x) (list_all p v) e in
    ap (λ l. x ∷ l) (kept-all p v both.1) ∙ sym (ap (λ t. cond t (x ∷ filter p v) (filter p v)) both.0)

all-kept : (p : Literal → Bool) (v : List Literal) → v ≡ filter p v → list_all p v ≡ true
all-kept p v e = each-all p v (λ q m. rest (member q v) (p q) m (sym (member-filter p q v) ∙ ap (member q) (sym e) ∙ m))
  where
    rest : (a b : Bool) → a ≡ true → (a && b) ≡ true → b ≡ true
    rest a b m e = (and-both a b e).1

-- a filter leaves it the same where it keeps all
filter-same : (p : Literal → Bool) (v : List Literal) → list_all p v ≡ same_items v (filter p v)
filter-same p v = tells-same (list_all p v) v (filter p v) (kept-all p v, all-kept p v)

pub inter-same : (v w : List Literal) → subset v w ≡ same_items v (inter v w)
inter-same v w = filter-same (λ a. member a w) v

pub minus-same : (v w : List Literal) → disjoint v w ≡ same_items v (minus v w)
minus-same v w = filter-same (λ a. not (member a w)) v

none-comes : (v w : List Literal) → subset w v ≡ true → v ≡ union in_order v w
none-comes v [] e = refl
none-comes v (y ∷ w) e =
    let both = and-both (member y v) (list_all (λ a. member a v) w) e in
    none-comes v w both.1 ∙ sym (ap (λ t. union in_order (cond t v (in_order y v)) w) both.0)

pub or-right : (a b : Bool) → b ≡ true → (a || b) ≡ true
or-right true b e = refl
or-right false b e = e

comes-none : (v w : List Literal) → v ≡ union in_order v w → subset w v ≡ true
comes-none v w e = each-all (λ a. member a v) w (λ q m. ap (member q) e ∙ member-union in_order member-in_order q v w ∙ or-right (member q v) (member q w) m)

pub union-same : (v w : List Literal) → subset w v ≡ same_items v (union in_order v w)
union-same v w = tells-same (subset w v) v (union in_order v w) (none-comes v w, comes-none v w)

nothing-differs : (v : List Literal) → v ≡ symdiff in_order v []
nothing-differs v = kept-all (λ a. not (member a [])) v (each-all (λ a. not (member a [])) v (λ q m. refl))

pub differs-by-one : (a b c : Bool) → b ≡ true → a ≡ ((a && not b) || (b && not a)) → c ≡ true
differs-by-one true true c e f = cc
differs-by-one false true c e f = cc
differs-by-one a false c e f = cc

differs-nothing : (v w : List Literal) → v ≡ symdiff in_order v w → w ≡ []
differs-nothing v [] e = refl
differs-nothing v (y ∷ w) e =
    let here : member y (y ∷ w) ≡ true = ap (λ t. t || member y w) (itself y) in
    let split : member y v ≡ ((member y v && not (member y (y ∷ w))) || (member y (y ∷ w) && not (member y v))) =
    ap (member y) e ∙ member-union in_order member-in_order y (minus v (y ∷ w)) (minus (y ∷ w) v)
    ∙ ap (λ t. t || member y (minus (y ∷ w) v)) (member-filter (λ a. not (member a (y ∷ w))) y v)
    ∙ ap (λ t. (member y v && not (member y (y ∷ w))) || t) (member-filter (λ a. not (member a v)) y (y ∷ w)) in
    absurd (true≢false (sym (differs-by-one (member y v) (member y (y ∷ w)) false here split)))

pub symdiff-same : (r : Bool) (v w : List Literal) → Decides r (w ≡ []) → r ≡ same_items v (symdiff in_order v w)
symdiff-same r v w d = tells-same r v (symdiff in_order v w) (
  (λ t. rw (d.0 t) (nothing-differs v)),
  (λ e. d.1 (differs-nothing v w e)),
)

-- one that comes makes it longer
pub insert-same : (a : Literal) (v : List Literal) → member a v ≡ same_items v (with_member in_order v a)
insert-same a v = tells-same (member a v) v (with_member in_order v a) (
  (λ t. rw t refl),
  (λ e. on_side (member a v) (λ f. f) (λ f. absurd (omega (arith, length-in_order a v, ap length e, ap (λ t. length (cond t v (in_order a v))) f)))),
)

-- one that goes isn't there any more
pub remove-same : (x : Literal) (v : List Literal) → not (member x v) ≡ same_items v (without x v)
remove-same x v = tells-same (not (member x v)) v (without x v) (
  (λ t. without-none x v (unnot (member x v) t)),
  (λ e. on_side (member x v)
      (λ m. absurd (true≢false (sym m ∙ ap (member x) e ∙ member-filter (λ a. not (member a (x ∷ []))) x v ∙ no-more (member x v))))
      (λ m. ap not m)),
)
  where
    unnot : (b : Bool) → not b ≡ true → b ≡ false
    unnot true e = cc
    unnot false e = refl

    no-more : (b : Bool) → (b && not (same x x || false)) ≡ false
    no-more true = ap (λ t. not (t || false)) (itself x)
    no-more false = refl
