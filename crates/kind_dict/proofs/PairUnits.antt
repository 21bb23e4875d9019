-- How many units the pairs hold once one is put, and how pairs are read from a list of atoms.
use Rattle.std.proofs.Common.{◌≡◌, ℕ, ◌+◌, ◌-◌, ◌≤◌, length, take, drop, get_or, List, [], ◌∷◌, Bool, true, false, ◌||◌, cond, Option, Some, None, sym, ap, ◌∙◌, arith}
use Rattle.std.specs.List.{sum_by}
use Rattle.std.proofs.lemmas.Bool.{true≢false}
use Rattle.std.proofs.lemmas.List.{take_all}
use Rattle.std.proofs.lemmas.List.Sums.{sum_by-cons}
use Rattle.std.proofs.lemmas.List.Sorted.{IsPermutation-insert, sum_by-IsPermutation}
use Rattle.std.specs.Prelude.{is_some}
use Rattle.cow_dict.proofs.Maps.{has-member, member-value, put-absent, put-here, put-past, value-here, value-past}
use Rattle.cow_dict.specs.Dictionaries.{key_units}
use Rattle.cow_members.proofs.Ascents.{same-is}
use Rattle.cow_model.proofs.Ascending.{on_side}
use Rattle.cow_model.specs.Members.{member}
use Rattle.cow_model.specs.Order.{same}
use Rattle.cow_model.specs.Pairs.{in_order, put, value_in}
use Rattle.cow_model.specs.Purse.{unit_if}
use Rattle.cow_model.specs.Units.{pair_units}
use Rattle.cow_model.specs.declared.plain.Literal.{Literal}
use Rattle.cow_model.specs.declared.value.Pair.{Pair}
use Rattle.cow_dict.specs.Storages.{keys, pair_of}

-- a list of two atoms and more is those two and what is behind them
pub two-first : (xs : List Literal) (k v : Literal) → 2 ≤ length xs → k ≡ get_or xs 0 k → v ≡ get_or xs 1 v → xs ≡ k ∷ v ∷ take (length xs - 2) (drop 2 xs)
two-first [] k v n e f = absurd (omega (arith, n))
two-first (x ∷ []) k v n e f = absurd (omega (arith, n))
two-first (x ∷ y ∷ ys) k v n e f =
    let all : take (length (x ∷ y ∷ ys) - 2) ys ≡ ys = take_all (length (x ∷ y ∷ ys) - 2) ys (omega arith) in
    ap (λ l. x ∷ y ∷ l) (sym all) ∙ ap (λ a. a ∷ y ∷ take (length (x ∷ y ∷ ys) - 2) ys) (sym e) ∙ ap (λ b. k ∷ b ∷ take (length (x ∷ y ∷ ys) - 2) ys) (sym f)

module _ (f : Literal → Bool) where
  -- a pair comes whose key is new
  pub units-put-new : (p : Pair) (ps : List Pair) → member p.key (keys ps) ≡ false → sum_by (pair_units f) (put in_order ps p) ≡ sum_by (pair_units f) ps + pair_units f p
  units-put-new p ps m = ap (sum_by (pair_units f)) (put-absent in_order p ps m)
      ∙ sum_by-IsPermutation (pair_units f) (p ∷ ps) (in_order p ps) (IsPermutation-insert ps _ p) ∙ sum_by-cons (pair_units f) p ps ∙ omega arith

  -- a value w gives way to another one
  pub units-put-there : (p : Pair) (w : Literal) (ps : List Pair) → member p.key (keys ps) ≡ true → value_in p.key ps ≡ Some w
      → sum_by (pair_units f) (put in_order ps p) + unit_if (f w) ≡ sum_by (pair_units f) ps + unit_if (f p.value)
  units-put-there p w [] m e = absurd (true≢false (sym m))
  units-put-there p w (r ∷ ps) m e = on_side (same p.key r.key)
      (λ t.
      let is : Some r.value ≡ Some w = sym (value-here p.key r ps t) ∙ e in
      let one : r.value ≡ w = cc in
      omega (
        arith,
        ap (sum_by (pair_units f)) (put-here in_order p r ps t),
        sum_by-cons (pair_units f) p ps,
        sum_by-cons (pair_units f) r ps,
        ap (λ k. unit_if (f k)) (same-is p.key r.key t),
        ap (λ v. unit_if (f v)) one,
      ))
      (λ t.
      let there : member p.key (keys ps) ≡ true = sym (ap (λ b. b || member p.key (keys ps)) t) ∙ m in
      omega (
        arith,
        ap (sum_by (pair_units f)) (put-past in_order p r ps t there),
        sum_by-cons (pair_units f) r (put in_order ps p),
        sum_by-cons (pair_units f) r ps,
        units-put-there p w ps there (sym (value-past p.key r ps t) ∙ e),
      ))

  -- what is found under the key tells which
  none-there : (k : Literal) (ps : List Pair) → None ≡ value_in k ps → member k (keys ps) ≡ false
  none-there k ps e = member-value k ps ∙ ap is_some (sym e)

  one-there : (k w : Literal) (ps : List Pair) → Some w ≡ value_in k ps → member k (keys ps) ≡ true
  one-there k w ps e = member-value k ps ∙ ap is_some (sym e)

  pub new-units : (k v : Literal) (ps : List Pair) → None ≡ value_in k ps
      → sum_by (pair_units f) (put in_order ps (pair_of k v)) ≡ sum_by (pair_units f) ps + (unit_if (f k) + unit_if (f v))
  new-units k v ps e = units-put-new (pair_of k v) ps (none-there k ps e)

  pub new-key : (k : Literal) (ps : List Pair) → None ≡ value_in k ps → key_units f k ps ≡ 0
  new-key k ps e = ap (λ t. cond t (unit_if (f k)) 0) (has-member k ps ∙ none-there k ps e)

  pub there-units : (k v w : Literal) (ps : List Pair) → Some w ≡ value_in k ps
      → sum_by (pair_units f) (put in_order ps (pair_of k v)) + unit_if (f w) ≡ sum_by (pair_units f) ps + unit_if (f v)
  there-units k v w ps e = units-put-there (pair_of k v) w ps (one-there k w ps e) (sym e)

  pub there-key : (k w : Literal) (ps : List Pair) → Some w ≡ value_in k ps → key_units f k ps ≡ unit_if (f k)
  there-key k w ps e = ap (λ t. cond t (unit_if (f k)) 0) (has-member k ps ∙ one-there k w ps e)
