-- A change of one name's value by another's, or by itself.
use Rattle.std.proofs.Common.{◌≡◌, if◌then◌else◌, ℕ, ◌+◌, ◌<◌, ◌++◌, Bool, true, false, not, ◌&&◌, List, [], ◌∷◌, length, map, get_or, set, Some, Ok, Err, Result, refl, ap, sym, ◌∙◌, arith, subst}
use Rattle.std.specs.Prelude.{⊤, IsOk, IfOk, IsErr, OnOk, OnErr}
use Rattle.std.specs.Str.{bytes_eq}
use Rattle.std.proofs.Math.ListN.{get_or-append}
use Rattle.std.proofs.lemmas.List.{set-append_left}
use Rattle.std.proofs.lemmas.Slice.Eq.{bytes_eq-Decides}
use Rattle.cow_model.specs.Answers.{verdict, reply_of}
use Rattle.cow_model.specs.Env as env
use Rattle.cow_model.specs.Lexis.{Text}
use Rattle.cow_model.specs.Operation.{Answer}
use Rattle.cow_model.specs.Printed.{refusal}
use Rattle.cow_model.specs.Purse.{Purse}
use Rattle.cow_model.specs.Sharing.{Layer, both_cost, both_cost_of}
use Rattle.cow_model.specs.Step.{becomes, with_entry, with_found, as_changed, turned_by}
use Rattle.cow_model.specs.Turns.{turn_by_of, added_of, alone_after}
use Rattle.cow_model.specs.declared.memory.NoMemory.{NoMemory}
use Rattle.cow_model.specs.declared.outcome.Entry.{Entry}
use Rattle.cow_model.specs.declared.plain.Literal.{Literal}
use Rattle.cow_model.specs.declared.refusal.Refusal.{Refusal}
use Rattle.cow_model.specs.declared.value.Plain.{Plain}
use Rattle.cow_value.specs.Seen.{units}
use Rattle.cow_eval.specs.Entries.{SeenEntry, IsKept, Changes, EntryCosts, allowed_for, entry_of}
use Rattle.cow_eval.specs.Envs.{SeenEnv, ChangesBy, Does, IsBare, env_of}
use Rattle.cow_eval.proofs.Places.{there}
use Rattle.std.proofs.lemmas.List.{append-nil}
use Rattle.cow_eval.proofs.BareNames.{changed-bare}
use Rattle.cow_eval.proofs.Costs.{always-err, most-tried, most-kept, costs-tried, costs-kept}
use Rattle.cow_eval.proofs.Results.{always}
use Rattle.cow_eval.proofs.Steps.{with_change, changed, kept}

-- a list at the seam of its parts: what is put there stands first in the back part
pub set-seam : (xs ys : List SeenEntry) (y : SeenEntry) → set (xs ++ ys) (length xs) y ≡ xs ++ set ys 0 y
set-seam [] ys y = refl
set-seam (x ∷ xs) ys y = ap (λ l. x ∷ l) (set-seam xs ys y)

-- and what is read there comes from it
get-seam : (xs ys : List SeenEntry) (d : SeenEntry) → get_or (xs ++ ys) (length xs) d ≡ get_or ys 0 d
get-seam [] ys d = refl
get-seam (x ∷ xs) ys d = get-seam xs ys d

-- an entry that was read at the seam
pub seam-read : (xs ys before : List SeenEntry) (n : ℕ) (d : SeenEntry) → before ≡ xs ++ ys → length xs ≡ n → d ≡ get_or ys 0 d → d ≡ get_or before n d
seam-read xs ys before n d whole len is = is ∙ (sym (get-seam xs ys d) ∙ (ap (λ k. get_or (xs ++ ys) k d) len ∙ ap (λ l. get_or l n d) (sym whole)))

-- an entry that was read in the front part
pub front-read : (xs ys before : List SeenEntry) (n : ℕ) (d : SeenEntry) → before ≡ xs ++ ys → n < length xs → d ≡ get_or xs n d → d ≡ get_or before n d
front-read xs ys before n d whole h is = is ∙ (sym (get_or-append xs ys d n h) ∙ ap (λ l. get_or l n d) (sym whole))

module _ (p : Literal → Bool) (s : Layer) (at by : ℕ) (before xs ys : List SeenEntry) (e e' f : SeenEntry) (h h' : Purse) (r : Result (Result ⊤ Refusal) NoMemory) (whole : before ≡ xs ++ ys) (kept' : IsKept e')
    (does : Changes (alone_after (turn_by_of s f.seen.value) e.flag e.seen.value) ((turn_by_of s f.seen.value).run e.seen.value) e e' [] [] r)
    (costs : EntryCosts p (allowed_for (both_cost_of e.flag e.seen.value + added_of s f.seen.value) ((turn_by_of s f.seen.value).run e.seen.value)) (units p f.seen ≡ 0) e e' h h') where
  -- an entry in the front part changed by the first one of the back part
  pub by-later : length xs ≡ by → at < length xs → e ≡ get_or xs at e → f ≡ get_or ys 0 f → ChangesBy p s at by before (set xs at e' ++ ys) h h' r
  by-later len inside is is' = record {
    old = e;
    other = f;
    new = e';
    old_is = front-read xs ys before at e whole inside is;
    other_is = seam-read xs ys before by f whole len is';
    names = sym (set-append_left xs ys at e' inside) ∙ ap (λ l. set l at e') (sym whole);
    kept = kept';
    does = does;
    costs = costs;
  }

  -- the first entry of the back part changed by one of the front part
  pub by-earlier : length xs ≡ at → by < length xs → e ≡ get_or ys 0 e → f ≡ get_or xs by f → ChangesBy p s at by before (xs ++ set ys 0 e') h h' r
  by-earlier len inside is is' = record {
    old = e;
    other = f;
    new = e';
    old_is = seam-read xs ys before at e whole len is;
    other_is = front-read xs ys before by f whole inside is';
    names = sym (set-seam xs ys e') ∙ (ap (λ k. set (xs ++ ys) k e') len ∙ ap (λ l. set l at e') (sym whole));
    kept = kept';
    does = does;
    costs = costs;
  }

-- what two reads of one place give looks the same
same-entry : (names : List Entry) (name : Text) (x y : SeenEntry) → env.entry_of name names ≡ Some (entry_of x) → env.entry_of name names ≡ Some (entry_of y) → entry_of x ≡ entry_of y
same-entry names name x y one two =
    let both : Some (entry_of x) ≡ Some (entry_of y) = sym one ∙ two in
    cc

-- two reads of a name's place give one entry
pub one-entry : (names : List SeenEntry) (name : Text) (at : ℕ) (x y : SeenEntry) → env.place_of name (map entry_of names) ≡ Some at → x ≡ get_or names at x → y ≡ get_or names at y → entry_of x ≡ entry_of y
one-entry names name at x y place is is' = same-entry (map entry_of names) name x y (there name names at x place is).read (there name names at y place is').read

-- two names at one place are one name
pub apart : (names : List SeenEntry) (name other : Text) (at by : ℕ) (x y : SeenEntry) →
    env.place_of name (map entry_of names) ≡ Some at → x ≡ get_or names at x →
    env.place_of other (map entry_of names) ≡ Some by → y ≡ get_or names by y →
    bytes_eq name other ≡ false → at ≡ by → ⊥
apart names name other at by x y place is place' is' differ same =
    let one = there name names at x place is in
    let two = there other names by y place' is' in
    let places : env.place_of other (map entry_of names) ≡ env.place_of name (map entry_of names) = place' ∙ (ap Some (sym same) ∙ sym place) in
    let read : env.entry_of name (map entry_of names) ≡ Some (entry_of y) = ap (λ p. env.entry_at p (map entry_of names)) (sym places) ∙ two.read in
    let alike : entry_of x ≡ entry_of y = same-entry (map entry_of names) name x y one.read read in
    let name_is : name ≡ other = sym one.name_is ∙ (ap (λ (e : Entry). e.name) alike ∙ two.name_is) in
    let yes : bytes_eq name other ≡ true = (bytes_eq-Decides name other).1 name_is in
    cc

-- a name is itself
pub itself : (name : Text) → bytes_eq name name ≡ true
itself name = (bytes_eq-Decides name name).1 refl

-- an entry as a change by another takes it: not alone where that is itself
abbrev beside : Bool → Entry → Entry
beside b e = if b then env.shared e else e

module _ (before : SeenEnv) (name other : Text) (by : ℕ) (f : SeenEntry) (place : env.place_of other (map entry_of before.names) ≡ Some by) (is : f ≡ get_or before.names by f) (s : Layer) where
  -- the statement once the other name is found
  whole : (b : Bool) → bytes_eq name other ≡ b → turned_by (env_of before) name other s ≡
      with_change (env_of before) name (λ e. both_cost (beside b e) + added_of s f.seen.value) (λ e v. not b && alone_after (turn_by_of s f.seen.value) e.alone e.value v) (λ e. (turn_by_of s f.seen.value).run e.value)
  whole b same =
      ap (λ o. with_entry (env_of before) name (λ e. with_found (env_of before) o (λ g. becomes (env_of before) name (both_cost (as_changed name other e) + added_of s g.value) (λ v. not (bytes_eq name other) && alone_after (turn_by_of s g.value) e.alone e.value v) ((turn_by_of s g.value).run e.value)))) (there other before.names by f place is).read
      ∙ ap (λ c. with_change (env_of before) name (λ e. both_cost (beside c e) + added_of s f.seen.value) (λ e v. not c && alone_after (turn_by_of s f.seen.value) e.alone e.value v) (λ e. (turn_by_of s f.seen.value).run e.value)) same

-- nothing is printed
silent : (a : Answer) (r : Result (Result ⊤ Refusal) NoMemory) {x : Result ⊤ Refusal} → r ≡ Ok x → OnOk r ([] ≡ [] ++ reply_of a) → reply_of a ≡ []
silent a (Ok y) is said = sym said
silent a (Err y) is said = cc

-- the verdict behind an answer
verdict-done : (a : Answer) (r : Result (Result ⊤ Refusal) NoMemory) → r ≡ Ok (Ok _) → IfOk r (λ x. x ≡ verdict a) → Ok _ ≡ verdict a
verdict-done a (Ok (Ok x)) is told = told
verdict-done a (Ok (Err x)) is told = cc
verdict-done a (Err x) is told = cc

verdict-refused : (a : Answer) (r : Result (Result ⊤ Refusal) NoMemory) {why : Refusal} → r ≡ Ok (Err why) → IfOk r (λ x. x ≡ verdict a) → Err why ≡ verdict a
verdict-refused a (Ok (Ok x)) is told = cc
verdict-refused a (Ok (Err x)) {why} is told =
    let same : why ≡ x = cc in
    ap Err same ∙ told
verdict-refused a (Err x) is told = cc

-- what failed isn't told
untold : (r : Result (Result ⊤ Refusal) NoMemory) {x : NoMemory} {R : Type 0} → r ≡ Err x → (R → IsOk r) → R → false ≡ true
untold (Ok y) is free refused = cc
untold (Err y) is free refused = free refused

-- what holds where a call answered Ok
of-ok : (r : Result (Result ⊤ Refusal) NoMemory) {x : Result ⊤ Refusal} → r ≡ Ok x → (Q : Type 0) → OnOk r Q → Q
of-ok (Ok y) is Q holds = holds
of-ok (Err y) is Q holds = cc

module _ (p : Literal → Bool) (before : SeenEnv) (name other : Text) (s : Layer) (at by : ℕ) (e f e' : SeenEntry)
    (place : env.place_of name (map entry_of before.names) ≡ Some at) (is : e ≡ get_or before.names at e)
    (place' : env.place_of other (map entry_of before.names) ≡ Some by) (is' : f ≡ get_or before.names by f)
    (b : Bool) (same : bytes_eq name other ≡ b) (h h' : Purse) (r : Result (Result ⊤ Refusal) NoMemory)
    (does : Changes (λ v. not b && alone_after (turn_by_of s f.seen.value) e.flag e.seen.value v) ((turn_by_of s f.seen.value).run e.seen.value) e e' [] [] r)
    {brings : Type 0} (costs : EntryCosts p (allowed_for (both_cost (beside b (entry_of e)) + added_of s f.seen.value) ((turn_by_of s f.seen.value).run e.seen.value)) brings e e' h h')
    (carry : IsBare p before.names → brings) where
  abbrev answer : Answer
  answer = (turn_by_of s f.seen.value).run e.seen.value

  abbrev cost : Entry → ℕ
  cost x = both_cost (beside b x) + added_of s f.seen.value

  abbrev flag : Entry → Plain → Bool
  flag x v = not b && alone_after (turn_by_of s f.seen.value) x.alone x.value v

  abbrev run : Entry → Answer
  run x = (turn_by_of s f.seen.value).run x.value

  out : turned_by (env_of before) name other s ≡ with_change (env_of before) name cost flag run
  out = whole before name other by f place' is' s b same

  literal-free : EntryCosts p (allowed_for (0 + cost (entry_of e)) answer) brings e e' h h'
  literal-free =
      let none : cost (entry_of e) ≡ 0 + cost (entry_of e) = omega arith in
      subst (λ k. EntryCosts p (allowed_for k answer) brings e e' h h') none costs

  -- a change that is done
  pub by-done : r ≡ Ok (Ok _) → (allowed : ℕ) → allowed ≡ before.allowed + cost (entry_of e) → (said : Text) (kept' : Type 0) →
      Does p ⊤ 0 1 (turned_by (env_of before) name other s) kept' before (record { names = set before.names at e'; room = before.room; allowed = allowed }) said said h h' (Ok _)
  by-done ok allowed sum said kept' =
      let told = of-ok r ok _ does.entry in
      let did = changed before name e' place is cost flag run told (verdict-done answer r ok does.told) in
      record {
        env = rw sum (did.env ∙ ap (λ o. o.env) (sym out));
        text = rw (out, ← did.text, silent answer r ok does.reply) (sym (append-nil said));
        kept = _;
        most = _;
        costs = costs-tried _ answer literal-free sum;
        bare = λ names none. changed-bare p name before.names at e place is names costs (carry names);
      }

  -- a change that is refused
  pub by-refused : (why : Refusal) → r ≡ Ok (Err why) → (said said' : Text) (r' : Result ⊤ NoMemory) → OnOk r' (said' ≡ said ++ refusal why) → OnErr r' (said' ≡ said) →
      Does p ⊤ 0 1 (turned_by (env_of before) name other s) (said' ≡ said) before (record { names = set before.names at e'; room = before.room; allowed = before.allowed }) said said' h h' r'
  by-refused why err said said' r' text kept' =
      let told = of-ok r err _ does.entry in
      let verdict' = verdict-refused answer r err does.told in
      let did = kept before name e' place is cost flag run told verdict' in
      record {
        env = always _ r' (did.env ∙ ap (λ o. o.env) (sym out));
        text = rw (out, ← did.text) text;
        kept = kept';
        most = always-err _ r' (rw out (most-kept before name place is cost flag run));
        costs = costs-kept _ answer literal-free verdict' refl;
        bare = λ names none. always _ r' (changed-bare p name before.names at e place is names costs (carry names));
      }

  -- a change that ran out of memory
  pub by-failed : {x : NoMemory} → r ≡ Err x → (allowed : ℕ) → allowed ≡ before.allowed + cost (entry_of e) → (said : Text) (r' : Result ⊤ NoMemory) → IsErr r' →
      Does p ⊤ 0 1 (turned_by (env_of before) name other s) (said ≡ said) before (record { names = set before.names at e'; room = before.room; allowed = allowed }) said said h h' r'
  by-failed failed allowed sum said (Err y) is-err = record {
    env = _;
    text = _;
    kept = refl;
    most = rw out (most-tried before name place is cost flag run sum (untold r failed does.free));
    costs = costs-tried _ answer literal-free sum;
    bare = λ names none. _;
  }
  by-failed failed allowed sum said (Ok y) is-err = let wrong : false ≡ true = is-err in cc
