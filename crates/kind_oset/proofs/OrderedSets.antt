-- What the statements on ordered sets leave, and when they leave an ordered set the same.
use Rattle.std.proofs.Common.{◌≡◌, ℕ, ℤ, ◌+◌, ◌<◌, ◌≤◌, length, List, [], ◌∷◌, Bool, true, false, not, ◌||◌, ◌&&◌, cond, insert, remove, slice_get, Option, Some, None, refl, sym, ap, ◌∙◌, subst, codes, arith}
use Rattle.std.specs.Prelude.{nat_lt, Result, OnOk}
use Rattle.std.specs.Bool.{Decides}
use Rattle.std.proofs.lemmas.Bool.{true≢false}
use Rattle.std.proofs.lemmas.List.{length-append, length_push}
use Rattle.std.proofs.lemmas.List.Edits.{length-insert, length-remove, insert_end}
use Rattle.std.proofs.lemmas.List.Sums.{count_by-le-length, length-filter}
use Rattle.cow_members.proofs.Ascents.{each-all, itself, member-filter, member-last, member-union}
use Rattle.cow_members.proofs.Listed.{Distinct, place-none, symdiff-parts, toggled-nothing, union-none, union-parts}
use Rattle.cow_members.proofs.Operations.{all-there, union-most}
use Rattle.cow_members.specs.Sets.{ChangesTo, lacking}
use Rattle.cow_model.proofs.Ascending.{on_side}
use Rattle.cow_model.specs.Flat.{Flat}
use Rattle.cow_model.specs.Members.{last, member, minus, place_in, subset, symdiff, union, with_member}
use Rattle.cow_model.specs.Operation as operation
use Rattle.cow_model.specs.Lexis.{Text}
use Rattle.cow_model.specs.Plain.{same_items}
use Rattle.cow_model.specs.Printed.{atom_text, line, nil_or, truth}
use Rattle.cow_model.specs.Purse.{Purse}
use Rattle.cow_model.specs.Turns.{Turn, keyed, tells_of, whole}
use Rattle.cow_model.specs.declared.memory.NoMemory.{NoMemory}
use Rattle.cow_model.specs.declared.plain.Literal.{Literal}
use Rattle.cow_model.specs.declared.value.Plain.TheVariants.{OSet}
use Rattle.cow_elements.proofs.Equals.{tells-same}
use Rattle.cow_elements.proofs.Members.{before, differs-by-one, length_minus, or-right, stands}
use Rattle.cow_elements.proofs.Parts.{told-of}
use Rattle.cow_elements.specs.Sets.{Adds}
use Rattle.cow_ordered.specs.Ordered.{placed_at}

-- ---- where a member stands
some-is : (i k : ℕ) → Some i ≡ Some k → i ≡ k
some-is i k e = cc

none-some : (k : ℕ) → None ≡ Some k → true ≡ false
none-some k e = cc

there : (a : Literal) (v : List Literal) → member a v ≡ true → place_in a v ≡ Some (before a v)
there a v m =
    let here = stands a v m in
    let within : nat_lt (before a v) (length v) ≡ true = grind (arith, here.0) in
    ap (λ t. cond {A = Option ℕ} t (Some (before a v)) None) within

-- one that isn't new is a member
pub not-new : (b : Bool) → false ≡ not b → b ≡ true
not-new true e = refl
not-new false e = absurd (true≢false (sym e))

-- what has no place is no member
pub nowhere : (a : Literal) (v : List Literal) → None ≡ place_in a v → member a v ≡ false
nowhere a v e = on_side (member a v) (λ m. absurd (true≢false (none-some (before a v) (e ∙ there a v m)))) (λ m. m)

-- a member stands within the list
pub placed : (a : Literal) (v : List Literal) (k : ℕ) → Some k ≡ place_in a v → (k < length v) × (slice_get v k ≡ Some a)
placed a v k e = on_side (member a v)
    (λ m. subst (λ n. (n < length v) × (slice_get v n ≡ Some a)) (some-is (before a v) k (sym (there a v m) ∙ sym e)) (stands a v m))
    (λ m. absurd (true≢false (none-some k (place-none a v m ∙ sym e))))

-- the text of a member is that of what stands at its place
pub element-of : (a : Literal) (v : List Literal) (k : ℕ) → Some k ≡ place_in a v → operation.element v k ≡ atom_text a
element-of a v k e = ap (λ o. nil_or atom_text o) (placed a v k e).1

-- what comes at the end comes last
pub adds-last : (counted : Literal → Bool) (n : ℕ) (a : Literal) (before after : Flat (List Literal)) (h h' : Purse) (r : Result Bool NoMemory) → n ≡ length before.value
    → Adds counted (placed_at n) a before after h h' r → Adds counted last a before after h h' r
adds-last counted n a before after h h' r e added =
    let one : with_member (placed_at n) before.value a ≡ with_member last before.value a =
    ap (λ l. cond (member a before.value) before.value l) (ap (λ m. insert before.value m a) e ∙ insert_end before.value a) in
    record {
      told = added.told;
      value = subst (λ w. OnOk r (ChangesTo w before after)) one added.value;
      kept = added.kept;
      alone = added.alone;
      moved = added.moved;
      falls = added.falls;
    }

-- ---- how long ordered sets get
pub length-last : (v w : List Literal) → Distinct w → length (union last v w) ≡ length v + lacking v w
length-last v w d = ap length (union-parts v w d) ∙ omega (arith, length-append v (minus w v), length-filter (λ a. not (member a v)) w)

pub length-last-most : (v w : List Literal) → length (union last v w) ≤ length v + length w
length-last-most v w = omega (arith, union-most v w, count_by-le-length (λ a. not (member a v)) w)

pub length-either : (v w : List Literal) → Distinct w → length (symdiff last v w) ≡ lacking w v + lacking v w
length-either v w d =
    ap length (symdiff-parts v w d)
    ∙ omega (arith, length-append (minus v w) (minus w v), length-filter (λ a. not (member a w)) v, length-filter (λ a. not (member a v)) w)

pub length-either-most : (v w : List Literal) → length (symdiff last v w) ≤ length v + length w
length-either-most v w = omega (arith, length-last-most (minus v w) (minus w v), length_minus v w, length_minus w v)

-- ---- when an ordered set stays the same
comes-none : (v w : List Literal) → v ≡ union last v w → subset w v ≡ true
comes-none v w e = each-all (λ a. member a v) w (λ q m. ap (member q) e ∙ member-union last member-last q v w ∙ or-right (member q v) (member q w) m)

pub union-last-same : (v w : List Literal) → subset w v ≡ same_items v (union last v w)
union-last-same v w = tells-same (subset w v) v (union last v w) ((λ t. union-none v w (all-there v w t)), comes-none v w)

differs-nothing : (v w : List Literal) → v ≡ symdiff last v w → w ≡ []
differs-nothing v [] e = refl
differs-nothing v (y ∷ w) e =
    let here : member y (y ∷ w) ≡ true = ap (λ t. t || member y w) (itself y) in
    let split : member y v ≡ ((member y v && not (member y (y ∷ w))) || (member y (y ∷ w) && not (member y v))) =
    ap (member y) e ∙ member-union last member-last y (minus v (y ∷ w)) (minus (y ∷ w) v)
    ∙ ap (λ t. t || member y (minus (y ∷ w) v)) (member-filter (λ a. not (member a (y ∷ w))) y v)
    ∙ ap (λ t. (member y v && not (member y (y ∷ w))) || t) (member-filter (λ a. not (member a v)) y (y ∷ w)) in
    absurd (true≢false (sym (differs-by-one (member y v) (member y (y ∷ w)) false here split)))

pub symdiff-last-same : (r : Bool) (v w : List Literal) → Decides r (w ≡ []) → r ≡ same_items v (symdiff last v w)
symdiff-last-same r v w d = tells-same r v (symdiff last v w) (
  (λ t. rw (d.0 t) (toggled-nothing v)),
  (λ e. d.1 (differs-nothing v w e)),
)

-- one that comes makes it longer
longer : (m : Bool) (v w : List Literal) → length w ≡ length v + 1 → m ≡ same_items v (cond m v w)
longer m v w long = tells-same m v (cond m v w) (
  (λ t. rw t refl),
  (λ e. on_side m (λ f. f) (λ f. absurd (omega (arith, long, ap length e, ap (λ t. length (cond t v w)) f)))),
)

-- one that goes makes it shorter
shorter : (v w : List Literal) → length w + 1 ≡ length v → false ≡ same_items v w
shorter v w short = tells-same false v w ((λ t. absurd (true≢false (sym t))), (λ e. absurd (omega (arith, short, ap length e))))

-- ---- whether a statement leaves a value alone that wasn't
-- a member comes, or nothing does
comes-told : (told : Bool) (t : Turn) (m : Bool) (there new : Text) (v w : List Literal) → t.parts (OSet v) ≡ true → told ≡ not m → length w ≡ length v + 1
    → tells_of told t (OSet v) (operation.fitting (cond {A = operation.Answer} m (operation.replies there (OSet v)) (operation.replies new (OSet w))))
comes-told told t m there new v w parts h long =
    elim m as (λ b. told ≡ not b → same_items v (cond b v w) ≡ b → tells_of told t (OSet v) (operation.fitting (cond {A = operation.Answer} b (operation.replies there (OSet v)) (operation.replies new (OSet w))))) [
      | true ↦ (λ h e. told-of told t (OSet v) (OSet v) (line there) (h ∙ sym (ap not e) ∙ ap (λ p. p && not (same_items v v)) (sym parts)))
      | false ↦ (λ h e. told-of told t (OSet v) (OSet w) (line new) (h ∙ sym (ap not e) ∙ ap (λ p. p && not (same_items v w)) (sym parts)))
    ]
    h (sym (longer m v w long))

pub parts-append : (told : Bool) (a : Literal) (v : List Literal) → told ≡ not (member a v) → tells_of told (whole (operation.append a)) (OSet v) (operation.fitting (operation.append a (OSet v)))
parts-append told a v h = comes-told told (whole (operation.append a)) (member a v) (truth false) (truth true) v (last a v) refl h (length_push v a)

pub parts-renew : (told : Bool) (a : Literal) (v : List Literal) → told ≡ not (member a v) → tells_of told (keyed a (operation.update a)) (OSet v) (operation.fitting (operation.update a (OSet v)))
parts-renew told a v h = comes-told told (keyed a (operation.update a)) (member a v) (atom_text a) (codes "nil") v (last a v) refl h (length_push v a)

pub parts-place : (told : Bool) (i : ℤ) (a : Literal) (v : List Literal) (k : ℕ) → Some k ≡ operation.index 0 (length v + 1) i → k ≤ length v → told ≡ not (member a v)
    → tells_of told (whole (operation.insert_at i a)) (OSet v) (operation.fitting (operation.insert_at i a (OSet v)))
parts-place told i a v k e l h =
    let t = whole (operation.insert_at i a) in
    subst (λ o. tells_of told t (OSet v) (operation.fitting (operation.at_place o (λ k. operation.joined OSet (λ b others. insert others k b) a v)))) e
    (comes-told told t (member a v) (truth false) (truth true) v (insert v k a) refl h (length-insert v k a l))

-- a member goes, or there is none
pub parts-gone : (x : Literal) (v : List Literal) (k : ℕ) → Some k ≡ place_in x v → tells_of true (keyed x (operation.remove x)) (OSet v) (operation.fitting (operation.remove x (OSet v)))
parts-gone x v k e =
    let t = keyed x (operation.remove x) in
    subst (λ o. tells_of true t (OSet v) (operation.fitting (operation.removed_member OSet v o))) e
    (told-of true t (OSet v) (OSet (remove v k)) (line (operation.element v k)) (ap not (shorter v (remove v k) (length-remove v k (placed x v k e).0))))

pub parts-absent : (x : Literal) (v : List Literal) → None ≡ place_in x v → tells_of false (keyed x (operation.remove x)) (OSet v) (operation.fitting (operation.remove x (OSet v)))
parts-absent x v e =
    let t = keyed x (operation.remove x) in
    subst (λ o. tells_of false t (OSet v) (operation.fitting (operation.removed_member OSet v o))) e
    (told-of false t (OSet v) (OSet v) (line (codes "nil")) (ap not (tells-same true v v (λ t. refl, λ e. refl))))
