-- Names as they go from one environment to another: what holds of their values still does.
use Rattle.std.proofs.Common.{◌≡◌, ℕ, ◌+◌, ◌≤◌, ◌^◌, List, map, Option, Some, None, sym, subst, refl}
use Rattle.std.proofs.lemmas.List.Elements.{All-set, All-map}
use Rattle.cow_model.specs.Env.{place_of, entry_at, entry_of, given, given_at, without, without_at, settled, settled_at, shared}
use Rattle.cow_model.specs.Lexis.{Text}
use Rattle.cow_model.specs.Plain.{stop}
use Rattle.cow_model.specs.declared.outcome.Entry.{Entry}
use Rattle.cow_model.specs.declared.value.Plain.{Plain}
use Rattle.cow_model.proofs.ListSteps.{All-push, All-remove}
use Rattle.cow_model.proofs.Steps.{Values, value-has}
use Rattle.cow_eval.specs.Entries as entries
use Rattle.cow_eval.specs.Entries.{SeenEntry}
use Rattle.cow_eval.specs.Envs.{AreNear}
use Rattle.cow_eval.proofs.BareNames.{All-unmap}

module _ (P : Plain → Type 0) where
  given-has-at : (place : Option ℕ) (e : Entry) (names : List Entry) → P e.value → Values P names → Values P (given_at place e names)
  given-has-at None e names p h = All-push (λ x. P x.value) names e h p
  given-has-at (Some i) e names p h = All-set (λ x. P x.value) names i e p h

  -- a name is given a value
  pub given-has : (e : Entry) (names : List Entry) → P e.value → Values P names → Values P (given e names)
  given-has e names p h = given-has-at (place_of e.name names) e names p h

  without-has-at : (place : Option ℕ) (names : List Entry) → Values P names → Values P (without_at place names)
  without-has-at None names h = h
  without-has-at (Some i) names h = All-remove (λ x. P x.value) names i h

  -- a name goes
  pub without-has : (name : Text) (names : List Entry) → Values P names → Values P (without name names)
  without-has name names h = without-has-at (place_of name names) names h

  settled-has-at : (place : Option ℕ) (found : Option Entry) (names : List Entry) → entry_at place names ≡ found → Values P names → Values P (settled_at place found names)
  settled-has-at None found names is h = h
  settled-has-at (Some i) None names is h = h
  settled-has-at (Some i) (Some e) names is h = All-set (λ x. P x.value) names i (shared e) (value-has P (Some i) names e is h) h

  -- a flag is turned
  pub settled-has : (name : Text) (names : List Entry) → Values P names → Values P (settled name names)
  settled-has name names h = settled-has-at (place_of name names) (entry_of name names) names refl h

-- the value ends so many places below 2^31
abbrev pub Near : ℕ → Plain → Type 0
Near m v = stop v + m ≤ 2 ^ 31

-- what is near in an environment is near in that of the definitions
pub near-of : (m : ℕ) (names : List SeenEntry) → AreNear m names → Values (Near m) (map entries.entry_of names)
near-of m names near = All-map (λ (e : Entry). Near m e.value) entries.entry_of names near

pub near-from : (m : ℕ) (names : List SeenEntry) (entries' : List Entry) → map entries.entry_of names ≡ entries' → Values (Near m) entries' → AreNear m names
near-from m names entries' is near = All-unmap (λ (e : Entry). Near m e.value) entries.entry_of names (subst (λ es. Values (Near m) es) (sym is) near)
