-- The place of a name, and the entry that stands there.
use Rattle.std.proofs.Common.{◌≡◌, ℕ, ◌+◌, ◌<◌, suc, Bool, true, false, not, cond, ltb, List, [], ◌∷◌, length, map, take, drop, get_or, set, Some, None, refl, ap, sym, ◌∙◌, arith, subst}
use Rattle.std.specs.Prelude.{position}
use Rattle.std.specs.List.{position_or_len}
use Rattle.std.specs.Str.{bytes_eq}
use Rattle.std.proofs.lemmas.Bool.{ltb-true}
use Rattle.std.proofs.lemmas.List.{length-set, map-set, length-map, map-append, take-map, drop-map}
use Rattle.std.proofs.Math.ListN.{get_or-map}
use Rattle.std.proofs.Math.Seq.{map-set_same}
use Rattle.std.specs.List.{remove}
use Rattle.std.proofs.lemmas.List.Folds.{position_or_len-set}
use Rattle.std.proofs.lemmas.Option.{slice_get-get_or}
use Rattle.std.proofs.lemmas.Slice.Eq.{bytes_eq-Decides}
use Rattle.cow_model.specs.Lexis.{Text}
use Rattle.cow_model.specs.Env as spec
use Rattle.cow_model.specs.declared.outcome.Entry.{Entry}
use Rattle.cow_value.specs.Seen.{Seen}
use Rattle.cow_eval.specs.Entries.{SeenEntry, entry_of}

-- the first place that passes in a list of images
pub place-map : {X Y : Type 0} (f : X → Y) (p : Y → Bool) (xs : List X) → position_or_len (λ x. p (f x)) xs ≡ position_or_len p (map f xs)
place-map f p [] = refl
place-map f p (x ∷ xs) = rw (place-map f p xs) refl

pub position-map : {X Y : Type 0} (f : X → Y) (p : Y → Bool) (xs : List X) → position (λ x. p (f x)) xs ≡ position p (map f xs)
position-map f p xs = rw (place-map f p xs, length-map xs f) refl

pub map-remove : {X Y : Type 0} (f : X → Y) (xs : List X) (i : ℕ) → map f (remove xs i) ≡ remove (map f xs) i
map-remove f xs i = rw (map-append f (take i xs) (drop (suc i) xs), take-map f i xs, drop-map f (suc i) xs) refl

-- what is chosen where a choice gives a value
chosen : (b : Bool) (n i : ℕ) → cond b (Some n) None ≡ Some i → (b ≡ true) × (n ≡ i)
chosen true n i e = (refl, cc)
chosen false n i e = cc

one_further : {X : Type 0} (p : X → Bool) (b : Bool) (x : X) (xs : List X) (n : ℕ) (d : X) → p x ≡ b → cond (not b) (1 + n) 0 < suc (length xs) → (n < length xs → p (get_or xs n d) ≡ true) → p (get_or (x ∷ xs) (cond (not b) (1 + n) 0) d) ≡ true
one_further p true x xs n d is h there = is
one_further p false x xs n d is h there =
    let next : 1 + n ≡ suc n = omega arith in
    rw next (there (omega arith))

-- the first place that passes does pass
pub passes_there : {X : Type 0} (p : X → Bool) (xs : List X) (d : X) → position_or_len p xs < length xs → p (get_or xs (position_or_len p xs) d) ≡ true
passes_there p [] d h = absurd (omega arith)
passes_there p (x ∷ xs) d h = one_further p (p x) x xs (position_or_len p xs) d refl h (passes_there p xs d)

-- an entry of the definitions at the place of a name
pub record StandsAt (name : Text) (names : List Entry) (at : ℕ) (entry : Entry) : Type 0 where
  pub within : at < length names
  pub name_is : entry.name ≡ name
  pub read : spec.entry_of name names ≡ Some entry

pub stands_at : (name : Text) (names : List Entry) (at : ℕ) (entry : Entry) → spec.place_of name names ≡ Some at → entry ≡ get_or names at entry → StandsAt name names at entry
stands_at name names at entry place is =
    let named = λ (e : Entry). bytes_eq e.name name in
    let first = chosen (ltb (position_or_len named names) (length names)) (position_or_len named names) at place in
    let inside : position_or_len named names < length names = ltb-true _ _ first.0 in
    let within : at < length names = subst (λ n. n < length names) first.1 inside in
    let there : bytes_eq (get_or names at entry).name name ≡ true = subst (λ n. bytes_eq (get_or names n entry).name name ≡ true) first.1 (passes_there named names entry inside) in
    let same : bytes_eq entry.name name ≡ true = subst (λ (e : Entry). bytes_eq e.name name ≡ true) (sym is) there in
    record {
      within = within;
      name_is = (bytes_eq-Decides entry.name name).0 same;
      read = rw place (slice_get-get_or names at entry within ∙ ap Some (sym is));
    }

module _ (name : Text) (names : List SeenEntry) (at : ℕ) (e : SeenEntry) (place : spec.place_of name (map entry_of names) ≡ Some at) (is : e ≡ get_or names at e) where
  -- the entry of the definitions there
  pub there : StandsAt name (map entry_of names) at (entry_of e)
  there = stands_at name (map entry_of names) at (entry_of e) place (sym (get_or-map entry_of names at e ∙ ap entry_of (sym is)))

  -- an entry of the same name in its place is given to that name
  pub put-there : (e' : SeenEntry) → e'.name ≡ e.name → map entry_of (set names at e') ≡ spec.given (entry_of e') (map entry_of names)
  put-there e' same =
      let named : e'.name ≡ name = same ∙ there.name_is in
      let put : spec.place_of e'.name (map entry_of names) ≡ Some at = ap (λ n. spec.place_of n (map entry_of names)) named ∙ place in
      map-set entry_of names at e' ∙ sym (ap (λ p. spec.given_at p (entry_of e') (map entry_of names)) put)

  -- an entry that looks the same in its place changes nothing
  pub same-there : (e' : SeenEntry) → entry_of e' ≡ entry_of e → map entry_of (set names at e') ≡ map entry_of names
  same-there e' same = map-set_same entry_of names at e' e (same ∙ ap entry_of is)

  -- an entry whose flag falls
  pub settled-there : (e' : SeenEntry) → entry_of e' ≡ spec.shared (entry_of e) → map entry_of (set names at e') ≡ spec.settled name (map entry_of names)
  settled-there e' same = rw (there.read, place, ← same) (map-set entry_of names at e')

  -- another value in its place is given to that name
  pub give-there : (v : Seen) (flag : Bool) → map entry_of (set names at (record { name = e.name; seen = v; flag = flag })) ≡ spec.given (record { name = name; value = v.value; alone = flag }) (map entry_of names)
  give-there v flag = put-there (record { name = e.name; seen = v; flag = flag }) refl ∙ ap (λ n. spec.given (record { name = n; value = v.value; alone = flag }) (map entry_of names)) there.name_is

  -- each name stands where it stood
  pub still-there : (new : Text) (e' : SeenEntry) → e'.name ≡ e.name → spec.place_of new (map entry_of (set names at e')) ≡ spec.place_of new (map entry_of names)
  still-there new e' same =
      let there-now : entry_of e ≡ get_or (map entry_of names) at (entry_of e) = sym (get_or-map entry_of names at e ∙ ap entry_of (sym is)) in
      let alike = ap (λ n. bytes_eq n new) same ∙ ap (λ (x : Entry). bytes_eq x.name new) there-now in
      rw (map-set entry_of names at e', position_or_len-set (λ (x : Entry). bytes_eq x.name new) (map entry_of names) at (entry_of e') (entry_of e) alike, length-set (map entry_of names) at (entry_of e')) refl

-- an entry with the value of another in its place: the values stay
pub values-there : (names : List SeenEntry) (at : ℕ) (e e' : SeenEntry) → e ≡ get_or names at e → e'.seen ≡ e.seen → map (λ x. x.seen) (set names at e') ≡ map (λ x. x.seen) names
values-there names at e e' is same = map-set_same (λ x. x.seen) names at e' e (same ∙ ap (λ x. x.seen) is)
