-- What the statements on sets leave, in the words of the collection, and when they leave a set the same.
use Rattle.std.proofs.Common.{◌≡◌, ℕ, suc, ◌+◌, ◌<◌, ◌≤◌, length, List, [], ◌∷◌, Bool, true, false, not, ◌||◌, ◌&&◌, cond, filter, remove, slice_get, Option, Some, None, Ok, Err, refl, sym, ap, ◌∙◌, subst, codes, arith}
use Rattle.std.specs.Prelude.{nat_lt, nat_le}
use Rattle.std.specs.List.{list_all, prefix_len}
use Rattle.std.specs.Bool.{Decides}
use Rattle.std.proofs.lemmas.Bool.{true≢false}
use Rattle.std.proofs.lemmas.List.Sums.{count_by-le-length, length-filter}
use Rattle.cow_members.proofs.Ascents.{above-lacks, and-both, ascends-filter, each-all, itself, member-filter, member-in_order, member-union, same-is, unequal}
use Rattle.cow_members.specs.Ascents.{Ascends, IsBelow}
use Rattle.cow_model.proofs.Ascending.{on_side, behind, ahead}
use Rattle.cow_model.specs.Members.{disjoint, in_order, inter, member, minus, subset, symdiff, union, with_member}
use Rattle.cow_model.specs.Operation as operation
use Rattle.cow_model.specs.Order.{below, same}
use Rattle.cow_model.specs.Lexis.{Text}
use Rattle.cow_model.specs.Plain.{count, max_count, same_items, same_plain}
use Rattle.cow_model.specs.Printed.{atom_text, line, nil_or}
use Rattle.cow_model.specs.Turns.{Turn, keyed, tells_of}
use Rattle.cow_model.specs.declared.plain.Literal.{Literal}
use Rattle.cow_model.specs.declared.refusal.Refusal.TheVariants.{Full}
use Rattle.cow_model.specs.declared.value.Plain.{Plain}
use Rattle.cow_model.specs.declared.value.Plain.TheVariants.{Set}
use Rattle.cow_members.proofs.Keys.{without-none}
use Rattle.cow_members.proofs.Operations.{lacking-there, lacking-more}
use Rattle.cow_members.specs.Sets.{found, lacking, without}
use Rattle.cow_elements.proofs.Equals.{tells-same}
use Rattle.cow_elements.proofs.Members.{before, gone, insert-same, remove-same, stands, stands-nowhere}
use Rattle.cow_elements.proofs.Parts.{told-of}

-- what is found, and what isn't
pub is-found : (x y : Literal) (v : List Literal) → Some y ≡ found x v → member x v ≡ true
is-found x y v e = on_side (member x v) (λ m. m) (λ m. absurd (true≢false (none-some y (sym (ap (λ t. cond {A = Option Literal} t (Some x) None) m) ∙ sym e))))
  where
    none-some : (y : Literal) → None ≡ Some y → true ≡ false
    none-some y e = cc

pub not-found : (x : Literal) (v : List Literal) → None ≡ found x v → member x v ≡ false
not-found x v e = on_side (member x v) (λ m. absurd (true≢false (some-none (sym (ap (λ t. cond {A = Option Literal} t (Some x) None) m) ∙ sym e)))) (λ m. m)
  where
    some-none : Some x ≡ None → true ≡ false
    some-none e = cc

-- `remove` of a member
pub removes : (x : Literal) (v : List Literal) → Ascends v → member x v ≡ true → operation.remove x (Set v) ≡ operation.replies (atom_text x) (Set (without x v))
removes x v s m =
    let here = stands x v m in
    let within : nat_lt (before x v) (length v) ≡ true = grind (arith, here.0) in
    ap (λ t. operation.removed_member Set v (cond t (Some (before x v)) None)) within
    ∙ ap (λ o. operation.replies (nil_or atom_text o) (Set (remove v (before x v)))) here.1
    ∙ ap (λ l. operation.replies (atom_text x) (Set l)) (gone x v s m)

-- `remove` of one that is no member
pub removes-none : (x : Literal) (v : List Literal) → member x v ≡ false → operation.remove x (Set v) ≡ operation.replies (codes "nil") (Set v)
removes-none x v m =
    let past : nat_lt (before x v) (length v) ≡ false = grind (arith, stands-nowhere x v m) in
    ap (λ t. operation.removed_member Set v (cond t (Some (before x v)) None)) past

-- ---- whether a statement leaves a set alone that wasn't
-- `insert`, and `update` too: a member comes, or nothing does
pub parts-insert : (told : Bool) (a : Literal) (v : List Literal) → told ≡ not (member a v) → tells_of told (keyed a (operation.insert a)) (Set v) (operation.fitting (operation.insert a (Set v)))
parts-insert told a v h =
    let t = keyed a (operation.insert a) in
    elim (member a v) as (λ b. told ≡ not b → same_items v (cond b v (in_order a v)) ≡ b → tells_of told t (Set v) (operation.fitting (cond {A = operation.Answer} b (operation.replies (codes "false") (Set v)) (operation.replies (codes "true") (Set (in_order a v))))))
    [ true ↦ (λ h e. told-of told t (Set v) (Set v) (line (codes "false")) (h ∙ sym (ap not e))) | false ↦ (λ h e. told-of told t (Set v) (Set (in_order a v)) (line (codes "true")) (h ∙ sym (ap not e))) ]
    h (sym (insert-same a v))

pub parts-update : (told : Bool) (a : Literal) (v : List Literal) → told ≡ not (member a v) → tells_of told (keyed a (operation.update a)) (Set v) (operation.fitting (operation.update a (Set v)))
parts-update told a v h =
    let t = keyed a (operation.update a) in
    elim (member a v) as (λ b. told ≡ not b → same_items v (cond b v (in_order a v)) ≡ b → tells_of told t (Set v) (operation.fitting (cond {A = operation.Answer} b (operation.replies (atom_text a) (Set v)) (operation.replies (codes "nil") (Set (in_order a v))))))
    [ true ↦ (λ h e. told-of told t (Set v) (Set v) (line (atom_text a)) (h ∙ sym (ap not e))) | false ↦ (λ h e. told-of told t (Set v) (Set (in_order a v)) (line (codes "nil")) (h ∙ sym (ap not e))) ]
    h (sym (insert-same a v))

-- `remove`
pub parts-remove : (told : Bool) (x : Literal) (v : List Literal) → Ascends v → told ≡ member x v → tells_of told (keyed x (operation.remove x)) (Set v) (operation.fitting (operation.remove x (Set v)))
parts-remove told x v s e =
    let t = keyed x (operation.remove x) in
    on_side (member x v)
    (λ m.
    let same = subst (λ b. not b ≡ same_items v (without x v)) m (remove-same x v) in
    subst (λ a. tells_of told t (Set v) (operation.fitting a)) (sym (removes x v s m))
    (told-of told t (Set v) (Set (without x v)) (line (atom_text x)) (e ∙ m ∙ ap not same)))
    (λ m.
    subst (λ a. tells_of told t (Set v) (operation.fitting a)) (sym (removes-none x v m))
    (told-of told t (Set v) (Set v) (line (codes "nil")) (e ∙ m ∙ ap not (itself-same v))))
  where
    itself-same : (v : List Literal) → true ≡ same_items v v
    itself-same v = tells-same true v v (λ t. refl, λ e. refl)
