-- Names of which no storage holds a counted item, as statements change them.
use Rattle.std.proofs.Common.{◌≡◌, ℕ, ◌+◌, ◌≤◌, ◌<◌, ◌++◌, Bool, List, [], ◌∷◌, length, map, get_or, set, Some, ap, sym, ◌∙◌, arith, subst}
use Rattle.std.specs.Prelude.{All}
use Rattle.std.specs.List.{remove}
use Rattle.std.proofs.lemmas.List.{length-set, length-append, length-map}
use Rattle.std.proofs.lemmas.List.Edits.{length-remove}
use Rattle.std.proofs.lemmas.List.Elements.{All-push, All-set, All-get_or, All-map}
use Rattle.std.proofs.Math.ListN.{get_or-map}
use Rattle.cow_model.proofs.ListSteps.{All-remove}
use Rattle.cow_model.specs.Env as env
use Rattle.cow_model.specs.Lexis.{Text}
use Rattle.cow_model.specs.Purse.{Purse, less}
use Rattle.cow_model.specs.declared.plain.Literal.{Literal}
use Rattle.cow_value.specs.Seen.{units}
use Rattle.cow_eval.specs.Entries.{SeenEntry, EntryCosts, entry_of}
use Rattle.cow_eval.specs.Envs.{IsBare, Balances}
use Rattle.cow_eval.proofs.Places.{there}

-- a name takes a value without counted items
pub bare-set : (p : Literal → Bool) (names : List SeenEntry) (at : ℕ) (new : SeenEntry) → IsBare p names → units p new.seen ≡ 0 → IsBare p (set names at new)
bare-set p names at new bare none = All-set (λ e. units p e.seen ≡ 0) names at new none bare

-- the value of one of them has none
pub bare-at : (p : Literal → Bool) (names : List SeenEntry) (at : ℕ) (e : SeenEntry) → at < length names → e ≡ get_or names at e → IsBare p names → units p e.seen ≡ 0
bare-at p names at e within is bare = subst (λ x. units p x.seen ≡ 0) (sym is) (All-get_or (λ x. units p x.seen ≡ 0) names at e within bare)

-- one name more
pub pushed : (p : Literal → Bool) (names : List SeenEntry) (e : SeenEntry) (h : Purse) → IsBare p names → units p e.seen ≡ 0 → Balances p 1 names (names ++ e ∷ []) h h
pushed p names e h bare new = record {
  bare = All-push (λ x. units p x.seen ≡ 0) names e bare new;
  sum = let longer = length-append names (e ∷ []) in omega (arith, longer);
}

-- what holds of the images holds of each by its image
pub All-unmap : {X Y : Type 0} (P : X → Type 0) (f : Y → X) (ys : List Y) → All P (map f ys) → All (λ y. P (f y)) ys
All-unmap P f ys h = λ k d lt. subst P (get_or-map f ys k d) (h k (f d) (subst (λ n. k < n) (sym (length-map ys f)) lt))

-- names whose values stay
pub values-length : (names after : List SeenEntry) → map (λ e. e.seen) after ≡ map (λ e. e.seen) names → length after ≡ length names
values-length names after same = sym (length-map after (λ e. e.seen)) ∙ (ap length same ∙ length-map names (λ e. e.seen))

pub values-bare : (p : Literal → Bool) (names after : List SeenEntry) → map (λ e. e.seen) after ≡ map (λ e. e.seen) names → IsBare p names → IsBare p after
values-bare p names after same bare = All-unmap (λ v. units p v ≡ 0) (λ e. e.seen) after (subst (λ xs. All (λ v. units p v ≡ 0) xs) (sym same) (All-map (λ v. units p v ≡ 0) (λ e. e.seen) names bare))

module _ (p : Literal → Bool) (name : Text) (names : List SeenEntry) (at : ℕ) (e : SeenEntry) (place : env.place_of name (map entry_of names) ≡ Some at) (is : e ≡ get_or names at e) (bare : IsBare p names) where
  within : at < length names
  within = subst (λ n. at < n) (length-map names entry_of) (there name names at e place is).within

  -- the value of a name
  pub found-bare : units p e.seen ≡ 0
  found-bare = bare-at p names at e within is bare

  -- a name of which the value changed
  pub changed-bare : {e' : SeenEntry} {n : ℕ} {brings : Type 0} {h h' : Purse} → EntryCosts p n brings e e' h h' → brings → Balances p 0 names (set names at e') h h'
  changed-bare {e'} spends none =
      let did = spends.bare none found-bare in
      let long = length-set names at e' in
      record { bare = bare-set p names at e' bare did.0; sum = omega (arith, long, did.1) }

  -- a name whose value a second one shares
  pub shared-bare : (e' : SeenEntry) (after : List SeenEntry) (h h' : Purse) → 1 ≤ h.spare → Balances p 1 (set names at e') after (less 1 h) h' → Balances p 0 names after h h'
  shared-bare e' after h h' one given =
      let long = length-set names at e' in
      let sum = given.sum in
      record { bare = given.bare; sum = omega (arith, long, sum, one) }

  -- a name that goes
  pub gone-bare : (h h' : Purse) → (units p e.seen ≡ 0 → h'.spare ≡ h.spare + 1) → Balances p 0 names (remove names at) h h'
  gone-bare h h' ended =
      let back = ended found-bare in
      let fewer = length-remove names at within in
      record { bare = All-remove (λ x. units p x.seen ≡ 0) names at bare; sum = omega (arith, back, fewer) }

  -- a name whose value another one takes the place of
  pub given-bare : (e' : SeenEntry) (h h' : Purse) → units p e'.seen ≡ 0 → (units p e.seen ≡ 0 → h'.spare ≡ h.spare + 1) → Balances p 1 names (set names at e') h h'
  given-bare e' h h' none ended =
      let back = ended found-bare in
      let long = length-set names at e' in
      record { bare = bare-set p names at e' bare none; sum = omega (arith, back, long) }
