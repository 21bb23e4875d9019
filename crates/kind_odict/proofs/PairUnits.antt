-- How many units the pairs hold once one is put, and which of them are a pair's.
use Rattle.std.proofs.Common.{◌≡◌, ℕ, ◌+◌, ◌≤◌, List, [], ◌∷◌, Bool, true, false, ◌||◌, Option, Some, None, slice_get, sym, ap, ◌∙◌, arith}
use Rattle.std.specs.List.{sum_by}
use Rattle.std.specs.Prelude.{is_some}
use Rattle.std.proofs.lemmas.Bool.{true≢false}
use Rattle.std.proofs.lemmas.List.Sums.{sum_by-append, sum_by-cons, sum_by_more_le}
use Rattle.std.proofs.lemmas.Option.{slice_get_within, get_or_from_slice_get}
use Rattle.cow_dict.proofs.Maps.{member-value, put-absent, put-here, value-here, value-past}
use Rattle.cow_dict.specs.Storages.{keys, pair_of}
use Rattle.cow_members.proofs.Ascents.{same-is}
use Rattle.cow_model.proofs.Ascending.{on_side}
use Rattle.cow_model.specs.Members.{member}
use Rattle.cow_model.specs.Order.{same}
use Rattle.cow_model.specs.Pairs.{last, put, value_in}
use Rattle.cow_model.specs.Purse.{unit_if}
use Rattle.cow_model.specs.Units.{pair_units}
use Rattle.cow_model.specs.declared.plain.Literal.{Literal}
use Rattle.cow_model.specs.declared.value.Pair.{Pair}
use Rattle.kind_odict.proofs.OrderedDicts.{put-step}

module _ (f : Literal → Bool) where
  -- a pair's units are among those of all
  pub unit-of-pair : (ps : List Pair) (i : ℕ) (p : Pair) → slice_get ps i ≡ Some p → pair_units f p ≤ sum_by (pair_units f) ps
  unit-of-pair ps i p e =
      let one = sum_by_more_le (pair_units f) ps i p (slice_get_within ps i p e) in
      omega (arith, rw (get_or_from_slice_get ps i p p e) at one)

  -- a pair comes whose key is new
  pub new-units : (k v : Literal) (ps : List Pair) → None ≡ value_in k ps
      → sum_by (pair_units f) (put last ps (pair_of k v)) ≡ sum_by (pair_units f) ps + (unit_if (f k) + unit_if (f v))
  new-units k v ps e =
      let p = pair_of k v in
      omega (
        arith,
        ap (sum_by (pair_units f)) (put-absent last p ps (member-value k ps ∙ ap is_some (sym e))),
        sum_by-append (pair_units f) ps (p ∷ []),
        sum_by-cons (pair_units f) p [],
      )

  -- a value w gives way to another one
  pub there-units : (k v w : Literal) (ps : List Pair) → Some w ≡ value_in k ps
      → sum_by (pair_units f) (put last ps (pair_of k v)) + unit_if (f w) ≡ sum_by (pair_units f) ps + unit_if (f v)
  there-units k v w [] e = cc
  there-units k v w (r ∷ ps) e = on_side (same k r.key)
      (λ t.
      let is : Some r.value ≡ Some w = sym (value-here k r ps t) ∙ sym e in
      let one : r.value ≡ w = cc in
      omega (
        arith,
        ap (sum_by (pair_units f)) (put-here last (pair_of k v) r ps t),
        sum_by-cons (pair_units f) (pair_of k v) ps,
        sum_by-cons (pair_units f) r ps,
        ap (λ q. unit_if (f q)) (same-is k r.key t),
        ap (λ q. unit_if (f q)) one,
      ))
      (λ t. omega (
        arith,
        ap (sum_by (pair_units f)) (put-step (pair_of k v) r ps t),
        sum_by-cons (pair_units f) r (put last ps (pair_of k v)),
        sum_by-cons (pair_units f) r ps,
        there-units k v w ps (e ∙ value-past k r ps t),
      ))
