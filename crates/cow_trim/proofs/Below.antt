-- The child at a key's digit: what the key means there, and what its changes mean in the branch.
use Rattle.std.proofs.Common.{◌≡◌, ◌≢◌, ℕ, ◌+◌, ◌-◌, ◌*◌, ◌<◌, ◌≤◌, Bool, true, false, eqb, List, [], ◌∷◌, length, get_or, sym, ap, ◌∙◌, subst, arith, eqb-true}
use Rattle.std.proofs.Math.ListN.{set}
use Rattle.std.specs.Int.{bit_at}
use Rattle.cow_cell.specs.declared.counted.Counted.{Counted}
use Rattle.cow_model.specs.declared.plain.Literal.{Literal}
use Rattle.cow_model.specs.declared.value.Pair.{Pair}
use Rattle.cow_model.specs.Canon.{Tree, Slot, branch, child, entry, pairs, count_where, digit, canon, IsCanonical, AgreeBelow, without, get}
use Rattle.cow_model.specs.Slots.{rank, Fits}
use Rattle.cow_model.proofs.CanonCosts.{rank-bound}
use Rattle.cow_model.proofs.CanonRows.{child_place, bit_zero}
use Rattle.cow_model.proofs.CanonShapes.{digit-lt}
use Rattle.cow_model.proofs.CanonSlots.{child_long, child_group, child_canonical, child_agrees, get_child, same_branch, count-group-le}
use Rattle.cow_champ.specs.Node.{slots_of, value_of}
use Rattle.cow_champ.specs.Spending.{on_path}
use Rattle.cow_champ.specs.declared.rows.Entry.{Entry}
use Rattle.cow_champ.proofs.Changes.{slots_child_here, slots_child_others}
use Rattle.cow_champ.proofs.NodeCosts.{branch_child}
use Rattle.cow_champ.proofs.RowSlots.{slots_child}
use Rattle.cow_trim.proofs.Removals.{cut_at_child, cut_at_one}

module _ {X Y C Z : Type 0} (key_plain : X → Literal) (value_plain : Y → Literal) (shape_of : C → Tree) (hash_of : Literal → ℕ) (level next : ℕ) (e : next ≡ level + 1) (l : next ≤ 7) (n m : ℕ) (es : List (Entry X Y)) (cs : List (Counted C Z)) (fits : Fits n m (length es) (length cs)) (canonical : IsCanonical hash_of (branch (slots_of key_plain value_plain shape_of n m es cs)) level) (hash d : ℕ) (is : d ≡ digit hash level) (none : eqb (bit_at n d) 1 ≡ false) (some : eqb (bit_at m d) 1 ≡ true) (j : ℕ) (at_j : j ≡ rank m d) (x : Counted C Z) (at_x : x ≡ get_or cs j x) where
  small : d < 32
  small = subst (λ y. y < 32) (sym is) (digit-lt hash level)

  pub below_within : j < length cs
  below_within = rw at_j (child_place n m d _ _ fits small some)

  here : slots_of key_plain value_plain shape_of n m es cs d ≡ child (shape_of (value_of x))
  here = slots_child key_plain value_plain shape_of n m es cs d none some j at_j below_within x at_x

  pub below_agrees : AgreeBelow hash_of level hash (pairs (branch (slots_of key_plain value_plain shape_of n m es cs))) → AgreeBelow hash_of next hash (pairs (shape_of (value_of x)))
  below_agrees a = child_agrees hash_of _ level next e l canonical hash a (shape_of (value_of x)) (subst (λ y. slots_of key_plain value_plain shape_of n m es cs y ≡ child (shape_of (value_of x))) is here)

  pub below_canonical : IsCanonical hash_of (shape_of (value_of x)) next
  below_canonical = child_canonical hash_of _ level next e l canonical d small (shape_of (value_of x)) here

  pub below_two : 2 ≤ length (pairs (shape_of (value_of x)))
  below_two = child_long hash_of _ level next e l canonical d small (shape_of (value_of x)) here

  pub below_held : (k : Literal) → hash ≡ hash_of k → get k (pairs (branch (slots_of key_plain value_plain shape_of n m es cs))) ≡ get k (pairs (shape_of (value_of x)))
  below_held k f = get_child hash_of _ level next e l canonical k d (is ∙ ap (λ y. digit y level) f) (shape_of (value_of x)) here

  pub below_more : length es + 2 * length cs + length (pairs (shape_of (value_of x))) ≤ length (pairs (branch (slots_of key_plain value_plain shape_of n m es cs))) + 2
  below_more = branch_child key_plain value_plain shape_of hash_of level next e l n m es cs fits canonical d (shape_of (value_of x)) small here (bit_zero n d none) (eqb-true (bit_at m d) 1 some)

  pub below_path : on_path hash_of next hash (pairs (shape_of (value_of x))) ≤ on_path hash_of level hash (pairs (branch (slots_of key_plain value_plain shape_of n m es cs))) - length es
  below_path =
      let at = slots_of key_plain value_plain shape_of n m es cs in
      let t : Pair → Bool = λ p. eqb (hash_of p.key) hash in
      let grp = child_group hash_of at level next e l canonical d small (shape_of (value_of x)) here in
      let less : count_where t (pairs (shape_of (value_of x))) ≤ count_where t (pairs (branch at)) = subst (λ ps. count_where t ps ≤ count_where t (pairs (branch at))) grp (count-group-le hash_of t level d (pairs (branch at))) in
      omega (arith, less, rank-bound n 32, fits.entries, e, l)

  others : (y : Counted C Z) (z : ℕ) → z ≢ d → slots_of key_plain value_plain shape_of n m es (set cs j y) z ≡ slots_of key_plain value_plain shape_of n m es cs z
  others y = slots_child_others key_plain value_plain shape_of n m es cs d j y some at_j

  is_there : (y : Counted C Z) → slots_of key_plain value_plain shape_of n m es (set cs j y) d ≡ child (shape_of (value_of y))
  is_there y = slots_child_here key_plain value_plain shape_of n m es cs d j y none some at_j below_within

  -- the child stays, loses the key, or makes room for its last pair
  pub below_kept : (y : Counted C Z) → shape_of (value_of y) ≡ shape_of (value_of x) → branch (slots_of key_plain value_plain shape_of n m es (set cs j y)) ≡ branch (slots_of key_plain value_plain shape_of n m es cs)
  below_kept y f = same_branch _ _ d (is_there y ∙ ap child f ∙ sym here) (others y)

  pub below_cut : (k : Literal) → hash ≡ hash_of k → (y : Counted C Z) → 2 ≤ length (without k (pairs (shape_of (value_of x)))) → shape_of (value_of y) ≡ canon hash_of (without k (pairs (shape_of (value_of x)))) next → branch (slots_of key_plain value_plain shape_of n m es (set cs j y)) ≡ canon hash_of (without k (pairs (branch (slots_of key_plain value_plain shape_of n m es cs)))) level
  below_cut k f y two new = cut_at_child hash_of _ level next e l canonical k d (is ∙ ap (λ z. digit z level) f) _ (others y) (shape_of (value_of x)) here two (shape_of (value_of y)) new (is_there y)

  pub below_lifted : (k : Literal) → hash ≡ hash_of k → (y : Counted C Z) (p : Pair) → without k (pairs (shape_of (value_of x))) ≡ p ∷ [] → (at' : ℕ → Slot) → at' d ≡ entry p → ((z : ℕ) → z ≢ d → at' z ≡ slots_of key_plain value_plain shape_of n m es (set cs j y) z) → branch at' ≡ canon hash_of (without k (pairs (branch (slots_of key_plain value_plain shape_of n m es cs)))) level
  below_lifted k f y p left at' new same = cut_at_one hash_of _ level next e l canonical k d (is ∙ ap (λ z. digit z level) f) at' (λ z ne. same z ne ∙ others y z ne) (shape_of (value_of x)) here p left new
