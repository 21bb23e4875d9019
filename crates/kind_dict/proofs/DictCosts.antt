-- What the statements on dictionaries cost, from what the calls of the collection do.
use Rattle.std.proofs.Common.{◌≡◌, ℕ, ◌+◌, ◌*◌, ◌≤◌, length, List, [], ◌∷◌, ◌++◌, Bool, Some, sym, ap, ◌∙◌, arith}
use Rattle.std.specs.List.{sum_by}
use Rattle.std.proofs.lemmas.List.Sums.{sum_by-append, sum_by-cons}
use Rattle.cow_dict.proofs.Maps.{value-here, value-past}
use Rattle.cow_model.proofs.Ascending.{on_side}
use Rattle.cow_model.proofs.ListSteps.{unit_if-le}
use Rattle.cow_model.specs.Flat.{copies}
use Rattle.cow_model.specs.Order.{same}
use Rattle.cow_model.specs.Pairs.{value_in}
use Rattle.cow_model.specs.Purse.{Purse, Moves, unit_if}
use Rattle.cow_model.specs.Sharing.{own_cost_of}
use Rattle.cow_model.specs.Units.{pair_units}
use Rattle.cow_model.specs.declared.plain.Literal.{Literal}
use Rattle.cow_model.specs.declared.value.Pair.{Pair}
use Rattle.cow_model.specs.declared.value.Plain.TheVariants.{Dict}

-- an element weighs one, so a pair weighs two
pub light : (w : ℕ) (alone : Bool) (ps : List Pair) → w ≡ 1 → copies alone ((w + w) * length ps) ≡ own_cost_of alone (Dict ps)
light w alone ps e = ap (λ n. copies alone ((n + n) * length ps)) e

module _ (f : Literal → Bool) where
  -- a pair has two units at most
  pub units-most : (ps : List Pair) → sum_by (pair_units f) ps ≤ 2 * length ps
  units-most [] = omega arith
  units-most (p ∷ ps) = omega (arith, sum_by-cons (pair_units f) p ps, unit_if-le (f p.key), unit_if-le (f p.value), units-most ps)

  -- a value's unit is one of those held
  pub value-unit : (k w : Literal) (ps : List Pair) → value_in k ps ≡ Some w → unit_if (f w) ≤ sum_by (pair_units f) ps
  value-unit k w [] e = cc
  value-unit k w (p ∷ ps) e = on_side (same k p.key)
      (λ t.
      let is : Some p.value ≡ Some w = sym (value-here k p ps t) ∙ e in
      let one : p.value ≡ w = cc in
      omega (arith, sum_by-cons (pair_units f) p ps, ap (λ v. unit_if (f v)) one))
      (λ t. omega (arith, sum_by-cons (pair_units f) p ps, value-unit k w ps (sym (value-past k p ps t) ∙ e)))

  -- the units that go are at most two a pair
  pub falls-alone : (ps : List Pair) (c : ℕ) (h h' : Purse) → Moves (sum_by (pair_units f) ps) c h h' → h.spare ≤ h'.spare + 2 * length ps
  falls-alone ps c h h' m = omega (arith, m.falls, units-most ps)

  module _ (w : ℕ) (alone : Bool) (ps : List Pair) (h h' : Purse) where
    -- a change that brings nothing in
    pub moved-alone : (u a : ℕ) → w ≡ 1 → Moves (sum_by (pair_units f) ps) (copies alone ((w + w) * length ps)) h h' → Moves (2 * (0 + sum_by (pair_units f) ps) + u) (own_cost_of alone (Dict ps) + a) h h'
    moved-alone u a e m =
        let c = light w alone ps e in
        record { falls = omega (arith, m.falls); rises = omega (arith, m.rises); copied = omega (arith, m.copied, c); kept = m.kept }

    -- one that brings copies of other pairs in
    pub moved-with : (rs : List Pair) → w ≡ 1 → Moves (sum_by (pair_units f) (ps ++ rs)) (copies alone ((w + w) * length ps) + (w + w) * length rs) h h'
        → Moves (2 * (0 + sum_by (pair_units f) ps) + sum_by (pair_units f) rs) (own_cost_of alone (Dict ps) + 2 * length rs) h h'
    moved-with rs e m =
        let c = light w alone ps e in
        let d : (w + w) * length rs ≡ 2 * length rs = ap (λ n. (n + n) * length rs) e in
        let both = sum_by-append (pair_units f) ps rs in
        record { falls = omega (arith, m.falls, both); rises = omega (arith, m.rises, both); copied = omega (arith, m.copied, c, d); kept = m.kept }

    pub falls-with : (rs : List Pair) (c : ℕ) → Moves (sum_by (pair_units f) (ps ++ rs)) c h h' → h.spare ≤ h'.spare + (2 * length ps + 2 * length rs)
    falls-with rs c m = omega (arith, m.falls, sum_by-append (pair_units f) ps rs, units-most ps, units-most rs)

    -- one that hands a value out, which is ended
    module _ (h3 : Purse) (x : ℕ) (back : h3.spare ≡ h'.spare + x) (still : h3.copied ≡ h'.copied) (held : x ≤ sum_by (pair_units f) ps) where
      pub moved-ended : (u a : ℕ) → w ≡ 1 → Moves (sum_by (pair_units f) ps) (copies alone ((w + w) * length ps)) h h' → Moves (2 * (0 + sum_by (pair_units f) ps) + u) (own_cost_of alone (Dict ps) + a) h h3
      moved-ended u a e m =
          let c = light w alone ps e in
          record { falls = omega (arith, back, m.falls); rises = omega (arith, back, held, m.rises); copied = omega (arith, still, m.copied, c); kept = omega (arith, still, m.kept) }

    -- one before which a pair was read, and behind which a value is ended
    module _ (h0 h3 : Purse) (p : Pair) (x : ℕ)
        (read : h.spare + pair_units f p ≡ h0.spare) (more : h.copied ≤ h0.copied + 2) (never : h0.copied ≤ h.copied)
        (back : h3.spare ≡ h'.spare + x) (still : h3.copied ≡ h'.copied) (held : x ≤ sum_by (pair_units f) ps) where
      pub put-moved : w ≡ 1 → Moves (sum_by (pair_units f) ps) (copies alone ((w + w) * length ps)) h h'
          → Moves (2 * sum_by (pair_units f) ps + pair_units f p) (copies alone (2 * length ps) + 2) h0 h3
      put-moved e m =
          let c : copies alone ((w + w) * length ps) ≡ copies alone (2 * length ps) = ap (λ n. copies alone ((n + n) * length ps)) e in
          record {
            falls = omega (arith, read, back, m.falls);
            rises = omega (arith, read, back, held, m.rises);
            copied = omega (arith, more, still, m.copied, c);
            kept = omega (arith, never, still, m.kept);
          }

      pub put-falls : (c : ℕ) → Moves (sum_by (pair_units f) ps) c h h' → h0.spare ≤ h3.spare + (2 * length ps + 2)
      put-falls c m = omega (arith, read, back, m.falls, units-most ps, unit_if-le (f p.key), unit_if-le (f p.value))
