-- When an element in the stead of the least or the greatest leaves an ascending list the same.
use Rattle.std.proofs.Common.{◌≡◌, ℕ, zero, suc, ◌+◌, ◌-◌, pos, length, List, [], ◌∷◌, Bool, true, false, not, ◌&&◌, cond, remove, slice_get, count_by, Option, Some, None, refl, sym, ap, ◌∙◌, subst, arith}
use Rattle.std.specs.Prelude.{nat_lt, nat_le}
use Rattle.std.specs.Bool.{Decides}
use Rattle.std.proofs.lemmas.Bool.{true≢false}
use Rattle.std.proofs.lemmas.List.Sums.{sum_by-cons}
use Rattle.cow_members.proofs.Ascents.{itself, same-is}
use Rattle.cow_model.proofs.Ascending.{on_side, behind, ahead, rank, tied, ascending_cons}
use Rattle.cow_model.specs.Members.{ascending, in_order}
use Rattle.cow_model.specs.Operation as operation
use Rattle.cow_model.specs.Order.{below, same}
use Rattle.cow_model.specs.Plain.{same_items}
use Rattle.cow_model.specs.Printed.{line}
use Rattle.cow_model.specs.Turns.{tells_of, whole}
use Rattle.cow_model.specs.declared.plain.Literal.{Literal}
use Rattle.cow_model.specs.declared.statement.Side.{Side}
use Rattle.cow_model.specs.declared.statement.Side.TheVariants.{Min, Max}
use Rattle.cow_model.specs.declared.value.Plain.TheVariants.{Heap}
use Rattle.cow_elements.proofs.Equals.{tells-same}
use Rattle.cow_elements.proofs.Members.{length-in_order}
use Rattle.cow_elements.proofs.Parts.{told-of}

not-itself : (z : Literal) → below z z ≡ true → true ≡ false
not-itself z e = sym e ∙ rank.one_way z z e

-- ---- what stands behind the first of an ascending list
rest-of : (z : Literal) (l zs : List Literal) → in_order z l ≡ z ∷ zs → l ≡ zs
rest-of z [] zs e = cc
rest-of z (y ∷ l) zs e = on_side (below y z)
    (λ f.
    let both : y ∷ in_order z l ≡ z ∷ zs = sym (behind z y l f) ∙ e in
    let one : y ≡ z = cc in
    absurd (true≢false (not-itself z (subst (λ w. below w z ≡ true) one f))))
    (λ f. let both : z ∷ y ∷ l ≡ z ∷ zs = sym (ahead z y l f) ∙ e in cc)

rest-ascends : (z : Literal) (zs : List Literal) → ascending (z ∷ zs) ≡ z ∷ zs → ascending zs ≡ zs
rest-ascends z zs e = rest-of z (ascending zs) zs (sym (ascending_cons z zs) ∙ e)

leads : (z : Literal) (zs : List Literal) → ascending (z ∷ zs) ≡ z ∷ zs → in_order z zs ≡ z ∷ zs
leads z zs e = ap (in_order z) (sym (rest-ascends z zs e)) ∙ sym (ascending_cons z zs) ∙ e

-- the next isn't below the first
next-not : (z y : Literal) (zs : List Literal) → in_order z (y ∷ zs) ≡ z ∷ y ∷ zs → below y z ≡ false
next-not z y zs e = on_side (below y z)
    (λ f.
    let both : y ∷ in_order z zs ≡ z ∷ y ∷ zs = sym (behind z y zs f) ∙ e in
    let one : y ≡ z = cc in
    absurd (true≢false (not-itself z (subst (λ w. below w z ≡ true) one f))))
    (λ f. f)

-- none of the others is
none-below : (z : Literal) (zs : List Literal) → ascending (z ∷ zs) ≡ z ∷ zs → (k : ℕ) (b : Literal) → slice_get zs k ≡ Some b → below b z ≡ false
none-below z [] e k b s = cc
none-below z (y ∷ zs) e zero b s = let one : y ≡ b = cc in subst (λ w. below w z ≡ false) one (next-not z y zs (leads z (y ∷ zs) e))
none-below z (y ∷ zs) e (suc k) b s =
    rank.chain b y z (none-below y zs (rest-ascends z (y ∷ zs) e) k b s) (next-not z y zs (leads z (y ∷ zs) e))

-- ---- an element that goes out and comes back
heads-out : (z : Literal) (zs r : List Literal) → ascending (z ∷ zs) ≡ z ∷ zs → in_order z r ≡ zs → z ∷ r ≡ zs
heads-out z zs [] e h = h
heads-out z zs (y ∷ r) e h = on_side (below y z)
    (λ f.
    let first : zs ≡ y ∷ in_order z r = sym h ∙ behind z y r f in
    absurd (true≢false (sym f ∙ none-below z zs e 0 y (subst (λ l. slice_get l 0 ≡ Some y) (sym first) refl))))
    (λ f. sym (ahead z y r f) ∙ h)

pub put-back : (v : List Literal) → ascending v ≡ v → (k : ℕ) (b : Literal) → slice_get v k ≡ Some b → in_order b (remove v k) ≡ v
put-back [] e k b s = cc
put-back (z ∷ zs) e zero b s = let one : z ≡ b = cc in subst (λ w. in_order w zs ≡ z ∷ zs) one (leads z zs e)
put-back (z ∷ zs) e (suc k) b s =
    let back = put-back zs (rest-ascends z zs e) k b s in
    on_side (below z b)
    (λ f. behind b z (remove zs k) f ∙ ap (λ l. z ∷ l) back)
    (λ f.
    let one : b ≡ z = tied b z (none-below z zs e k b s) f in
    ahead b z (remove zs k) f
    ∙ ap (λ w. w ∷ z ∷ remove zs k) one
    ∙ ap (λ l. z ∷ l) (heads-out z zs (remove zs k) e (subst (λ w. in_order w (remove zs k) ≡ zs) one back)))

-- ---- another in its stead
counted-in : (p : Literal → Bool) (a : Literal) (v : List Literal) → count_by p (in_order a v) ≡ cond (p a) 1 0 + count_by p v
counted-in p a [] = sum_by-cons (λ x. cond (p x) 1 0) a []
counted-in p a (z ∷ v) = on_side (below z a)
    (λ e. omega (arith, ap (count_by p) (behind a z v e), sum_by-cons (λ x. cond (p x) 1 0) z (in_order a v), sum_by-cons (λ x. cond (p x) 1 0) z v, counted-in p a v))
    (λ e. ap (count_by p) (ahead a z v e) ∙ sum_by-cons (λ x. cond (p x) 1 0) a (z ∷ v))

-- where both give one list, they are one
one-in : (a b : Literal) (v : List Literal) → in_order b v ≡ in_order a v → b ≡ a
one-in a b v e = on_side (same b a)
    (λ f. same-is b a f)
    (λ f. absurd (omega (arith, counted-in (same b) a v, counted-in (same b) b v, ap (count_by (same b)) e, ap {B = ℕ} (λ t. cond t 1 0) f, ap {B = ℕ} (λ t. cond t 1 0) (itself b))))

past-end : (v : List Literal) (k : ℕ) → slice_get v k ≡ None → remove v k ≡ v
past-end [] zero e = refl
past-end [] (suc k) e = refl
past-end (z ∷ v) zero e = cc
past-end (z ∷ v) (suc k) e = ap (λ l. z ∷ l) (past-end v k e)

stands-there : (a : Literal) (v : List Literal) (k : ℕ) (o : Option Literal) → slice_get v k ≡ o → ascending v ≡ v → v ≡ in_order a (remove v k) → slice_get v k ≡ Some a
stands-there a v k None s e h = absurd (omega (arith, ap length h, length-in_order a (remove v k), ap length (past-end v k s)))
stands-there a v k (Some b) s e h = s ∙ ap (λ x. Some x) (one-in a b (remove v k) (put-back v e k b s ∙ h))

pub replaced-same : (r : Bool) (a : Literal) (v : List Literal) (k : ℕ) → ascending v ≡ v → Decides r (slice_get v k ≡ Some a) → r ≡ same_items v (in_order a (remove v k))
replaced-same r a v k e d = tells-same r v (in_order a (remove v k)) (
  (λ t. sym (put-back v e k a (d.0 t))),
  (λ h. d.1 (stands-there a v k (slice_get v k) refl e h)),
)

-- ---- whether `replace` leaves a heap alone that wasn't
index-is : (start n i k : ℕ) → operation.index start n (pos i) ≡ Some k → i - start ≡ k
index-is start n i k = elim (nat_le start i && nat_lt i (start + n)) as (λ b. cond {A = Option ℕ} b (Some (i - start)) None ≡ Some k → i - start ≡ k)
    [ true ↦ (λ e. cc) | false ↦ (λ e. cc) ]

parts-replaced : (told : Bool) (a : Literal) (v : List Literal) (end : Side) (p : Option ℕ) → ((k : ℕ) → p ≡ Some k → told ≡ not (same_items v (in_order a (remove v k)))) → tells_of told (whole (operation.replace end a)) (Heap v) (operation.fitting (operation.replaced a v p))
parts-replaced told a v end None h = tt
parts-replaced told a v end (Some k) h = told-of told (whole (operation.replace end a)) (Heap v) (Heap (in_order a (remove v k))) (line (operation.element v k)) (h k refl)

pub parts-replace-min : (r told : Bool) (a : Literal) (v : List Literal) → ascending v ≡ v → Decides r (slice_get v 0 ≡ Some a) → told ≡ not r → tells_of told (whole (operation.replace Min a)) (Heap v) (operation.fitting (operation.replace Min a (Heap v)))
parts-replace-min r told a v e d h = parts-replaced told a v Min (operation.index 0 (length v) (pos 0)) (λ k s.
    let first : 0 ≡ k = omega (arith, index-is 0 (length v) 0 k s) in
    h ∙ ap not (subst (λ n. r ≡ same_items v (in_order a (remove v n))) first (replaced-same r a v 0 e d)))

pub parts-replace-max : (r told : Bool) (a : Literal) (v : List Literal) → ascending v ≡ v → Decides r (slice_get v (length v - 1) ≡ Some a) → told ≡ not r → tells_of told (whole (operation.replace Max a)) (Heap v) (operation.fitting (operation.replace Max a (Heap v)))
parts-replace-max r told a v e d h = parts-replaced told a v Max (operation.index 1 (length v) (pos (length v))) (λ k s.
    h ∙ ap not (subst (λ n. r ≡ same_items v (in_order a (remove v n))) (index-is 1 (length v) (length v) k s) (replaced-same r a v (length v - 1) e d)))
