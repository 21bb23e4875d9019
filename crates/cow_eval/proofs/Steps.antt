-- What a statement does to the entry of a name, as the definitions say it of the environment.
use Rattle.std.specs.Prelude.{nat_lt}
use Rattle.std.proofs.Common.{◌≡◌, if◌then◌else◌, ℕ, ℤ, ◌+◌, ◌-◌, ◌<◌, ◌++◌, Bool, true, false, List, [], length, arith, ◌≤◌, Option, None, map, get_or, set, Some, Ok, Err, refl, ap, sym, ◌∙◌}
use Rattle.std.proofs.lemmas.List.{append-nil}
use Rattle.std.specs.List.{remove}
use Rattle.std.specs.Str.{bytes_eq}
use Rattle.cow_model.specs.Lexis.{Text}
use Rattle.cow_model.specs.Env as env
use Rattle.cow_model.specs.Operation.{Answer}
use Rattle.cow_model.specs.Printed.{refusal, line, plain_text}
use Rattle.cow_model.specs.Operation as operation
use Rattle.cow_model.specs.Query.{Told}
use Rattle.cow_model.specs.Step as step
use Rattle.cow_model.specs.Step.{becomes, with_entry, with_found, sliced, gives, settles, second_in, assign_in, slice_in, discard_in, told, ask, told_both, ask_both, print_in, show_in}
use Rattle.cow_model.specs.declared.outcome.Entry.{Entry}
use Rattle.cow_model.specs.declared.outcome.Environment.{Environment}
use Rattle.cow_model.specs.declared.outcome.Outcome.{Outcome}
use Rattle.cow_model.specs.declared.refusal.Refusal.{Refusal}
use Rattle.cow_model.specs.declared.refusal.Refusal.TheVariants.{Full, TextFull}
use Rattle.cow_model.specs.declared.value.Plain.{Plain}
use Rattle.std.specs.Option.{unwrap_or}
use Rattle.cow_model.specs.Answers.{refusal_in, verdict, reply_of, told_verdict, told_reply}
use Rattle.cow_eval.specs.Entries.{SeenEntry, entry_of, entry_after}
use Rattle.cow_eval.specs.Envs.{SeenEnv, env_of}
use Rattle.cow_eval.proofs.Places.{there, put-there, same-there, settled-there, map-remove}

-- a change of the value of a name, for which so many copies are allowed, and of which `alone` tells the flag
abbrev pub with_change : Environment → Text → (Entry → ℕ) → (Entry → Plain → Bool) → (Entry → Answer) → Outcome
with_change env name n alone run = with_entry env name (λ e. becomes env name (n e) (alone e) (run e))

-- why a slice isn't made where no name can be given: its own refusal comes first
abbrev pub refusal_or_full : Answer → Refusal
refusal_or_full a = unwrap_or (refusal_in a) Full

print-free : (b : Bool) (before : Environment) (text : Text) → before.allowed ≤ (if b then step.refused before TextFull else record { env = record before { room = before.room - length text }; text = text }).env.allowed
print-free true before text = omega arith
print-free false before text = omega arith

found-free : (before : Environment) (e : Option Entry) → before.allowed ≤ (with_found before e (λ x. print_in before (line (plain_text x.value)))).env.allowed
found-free before None = omega arith
found-free before (Some e) = print-free (nat_lt before.room (length (line (plain_text e.value)))) before (line (plain_text e.value))

-- `show` allows nothing
pub shows-free : (before : Environment) (name : Text) → before.allowed ≤ (show_in before name).env.allowed
shows-free before name = found-free before (env.entry_of name before.names)

-- an outcome: the environment that was left, and the text
pub record Did (after : Environment) (printed : Text) (out : Outcome) : Type 0 where
  pub env : after ≡ out.env
  pub text : printed ≡ out.text

-- the entry after a statement has the name of the one before
named-after : (alone : Plain → Bool) (e : Entry) (a : Answer) → (entry_after alone e a).name ≡ e.name
named-after alone e (Ok done) = refl
named-after alone e (Err why) = refl

-- a statement that was done
done : (before : Environment) (name : Text) (e : Entry) (n : ℕ) (alone : Plain → Bool) (a : Answer) (names : List Entry) →
    Ok _ ≡ verdict a → e.name ≡ name → names ≡ env.given (entry_after alone e a) before.names →
    Did (record { names = names; room = before.room; allowed = before.allowed + n }) (reply_of a) (becomes before name n alone a)
done before name e n alone (Ok d) names is named given = record { env = rw (given, named) refl; text = refl }
done before name e n alone (Err why) names is named given = cc

-- a statement that was refused
refused : (before : Environment) (name : Text) (n : ℕ) (alone : Plain → Bool) (a : Answer) (why : Refusal) →
    Err why ≡ verdict a → Did before (refusal why) (becomes before name n alone a)
refused before name n alone (Ok d) why is = cc
refused before name n alone (Err other) why is =
    let same : why ≡ other = cc in
    record { env = refl; text = ap refusal same }

unchanged : (alone : Plain → Bool) (e : Entry) (a : Answer) (why : Refusal) → Err why ≡ verdict a → entry_after alone e a ≡ e
unchanged alone e (Ok d) why is = cc
unchanged alone e (Err other) why is = refl

-- nothing is printed but the refusal
pub unsaid : (a : Answer) {why : Refusal} {old text : Text} → Err why ≡ verdict a → text ≡ old ++ reply_of a → text ≡ old
unsaid (Ok d) is grown = cc
unsaid (Err other) {old = old} is grown = grown ∙ append-nil old

pub unasked : (t : Told) (why : Refusal) (old text : Text) → Err why ≡ told_verdict t → text ≡ old ++ told_reply t → text ≡ old
unasked (Ok d) why old text is grown = cc
unasked (Err other) why old text is grown = grown ∙ append-nil old

-- a line that was refused
pub asked : (before : Environment) (t : Told) (why : Refusal) → Err why ≡ told_verdict t → Did before (refusal why) (told before t)
asked before (Ok d) why is = cc
asked before (Err other) why is =
    let same : why ≡ other = cc in
    record { env = refl; text = ap refusal same }

-- a slice for which there is no place: its own refusal comes first
pub unplaced : (before : Environment) (name other : Text) (a : Answer) → env.has_place name before.names ≡ false → Did before (refusal (refusal_or_full a)) (sliced before name other a)
unplaced before name other (Ok d) room = rw room (record { env = refl; text = refl })
unplaced before name other (Err why) room = record { env = refl; text = refl }

-- a second value of another name's, where there is a place for it
pub second : (before : Environment) (name other : Text) (v : Plain) → env.has_place name before.names ≡ true → Did (gives name v false (settles other before)) [] (second_in before name other v)
second before name other v place = rw place (record { env = refl; text = refl })

-- a line for which there is room
fits-print : (before : Environment) (text : Text) (left : ℕ) → left + length text ≡ before.room → print_in before text ≡ record { env = record before { room = left }; text = text }
fits-print before text left sum =
    let no : nat_lt before.room (length text) ≡ false = search (arith, sum) in
    let rest : before.room - length text ≡ left = omega (arith, sum) in
    rw (no, rest) refl

-- and one for which there is none
longer-print : (before : Environment) (text : Text) → before.room < length text → print_in before text ≡ step.refused before TextFull
longer-print before text longer =
    let yes : nat_lt before.room (length text) ≡ true = search (arith, longer) in
    rw yes refl

module _ (before : SeenEnv) (name : Text) (at : ℕ) (e : SeenEntry) (place : env.place_of name (map entry_of before.names) ≡ Some at) (is : e ≡ get_or before.names at e) where
  -- what `show` prints
  pub printed : (left : ℕ) → left + length (line (plain_text e.seen.value)) ≡ before.room →
      Did (env_of (record { names = before.names; room = left; allowed = before.allowed })) (line (plain_text e.seen.value)) (show_in (env_of before) name)
  printed left sum =
      let whole = fits-print (env_of before) (line (plain_text e.seen.value)) left sum in
      rw ((there name before.names at e place is).read, whole) (record { env = refl; text = refl })

  -- what it doesn't print
  pub unprinted : before.room < length (line (plain_text e.seen.value)) → Did (env_of before) (refusal TextFull) (show_in (env_of before) name)
  unprinted longer =
      let whole = longer-print (env_of before) (line (plain_text e.seen.value)) longer in
      rw ((there name before.names at e place is).read, whole) (record { env = refl; text = refl })

  -- a name whose flag falls
  pub settled : (e' : SeenEntry) → entry_of e' ≡ env.shared (entry_of e) → env_of (record { names = set before.names at e'; room = before.room; allowed = before.allowed }) ≡ settles name (env_of before)
  settled e' same = ap (λ names. record { names = names; room = before.room; allowed = before.allowed }) (settled-there name before.names at e place is e' same)

  -- a second value of it
  pub assigned : (new : Text) (e' : SeenEntry) (v : Plain) → entry_of e' ≡ env.shared (entry_of e) → v ≡ e.seen.value → env.has_place new (map entry_of before.names) ≡ true →
      Did (gives new v false (env_of (record { names = set before.names at e'; room = before.room; allowed = before.allowed }))) [] (assign_in (env_of before) new name)
  assigned new e' v same value room =
      let stands = there name before.names at e place is in
      let whole : assign_in (env_of before) new name ≡ second_in (env_of before) new name e.seen.value = ap (λ o. with_found (env_of before) o (λ x. second_in (env_of before) new name x.value)) stands.read in
      let did = second (env_of before) new name e.seen.value room in
      record {
        env = ap (λ x. gives new v false x) (settled e' same) ∙ (ap (λ u. gives new u false (settles name (env_of before))) value ∙ (did.env ∙ ap (λ o. o.env) (sym whole)));
        text = did.text ∙ ap (λ o. o.text) (sym whole);
      }

  -- a slice of it
  pub cut : (new : Text) (i j : ℤ) (e' : SeenEntry) (v : Plain) → entry_of e' ≡ env.shared (entry_of e) → operation.slice i j e.seen.value ≡ operation.silent v → env.has_place new (map entry_of before.names) ≡ true →
      Did (gives new v false (env_of (record { names = set before.names at e'; room = before.room; allowed = before.allowed }))) [] (slice_in (env_of before) new name i j)
  cut new i j e' v same value room =
      let stands = there name before.names at e place is in
      let whole : slice_in (env_of before) new name i j ≡ second_in (env_of before) new name v = ap (λ o. with_found (env_of before) o (λ x. sliced (env_of before) new name (operation.slice i j x.value))) stands.read ∙ ap (λ a. sliced (env_of before) new name a) value in
      let did = second (env_of before) new name v room in
      record {
        env = ap (λ x. gives new v false x) (settled e' same) ∙ (did.env ∙ ap (λ o. o.env) (sym whole));
        text = did.text ∙ ap (λ o. o.text) (sym whole);
      }

  -- a slice that is refused
  pub uncut : (new : Text) (i j : ℤ) (why : Refusal) → operation.slice i j e.seen.value ≡ Err why → Did (env_of before) (refusal why) (slice_in (env_of before) new name i j)
  uncut new i j why value =
      let stands = there name before.names at e place is in
      let whole : slice_in (env_of before) new name i j ≡ step.refused (env_of before) why = ap (λ o. with_found (env_of before) o (λ x. sliced (env_of before) new name (operation.slice i j x.value))) stands.read ∙ ap (λ a. sliced (env_of before) new name a) value in
      record { env = ap (λ o. o.env) (sym whole); text = ap (λ o. o.text) (sym whole) }

  -- a slice for which there is no place
  pub no-room : (new : Text) (i j : ℤ) → env.has_place new (map entry_of before.names) ≡ false → Did (env_of before) (refusal (refusal_or_full (operation.slice i j e.seen.value))) (slice_in (env_of before) new name i j)
  no-room new i j room =
      let stands = there name before.names at e place is in
      let whole : slice_in (env_of before) new name i j ≡ sliced (env_of before) new name (operation.slice i j e.seen.value) = ap (λ o. with_found (env_of before) o (λ x. sliced (env_of before) new name (operation.slice i j x.value))) stands.read in
      let did = unplaced (env_of before) new name (operation.slice i j e.seen.value) room in
      record { env = did.env ∙ ap (λ o. o.env) (sym whole); text = did.text ∙ ap (λ o. o.text) (sym whole) }

  -- a name that goes
  pub gone : Did (env_of (record { names = remove before.names at; room = before.room; allowed = before.allowed })) [] (discard_in (env_of before) name)
  gone =
      let stands = there name before.names at e place is in
      rw (stands.read, place) (record { env = ap (λ names. record { names = names; room = before.room; allowed = before.allowed }) (map-remove entry_of before.names at); text = refl })

  -- what a name tells, where that is refused
  pub untold : (ask-of : Plain → Told) (why : Refusal) → Err why ≡ told_verdict (ask-of e.seen.value) → Did (env_of before) (refusal why) (ask (env_of before) name ask-of)
  untold ask-of why no-told =
      let stands = there name before.names at e place is in
      rw stands.read (asked (env_of before) (ask-of e.seen.value) why no-told)

module _ (before : SeenEnv) (name : Text) {at : ℕ} {e : SeenEntry} (e' : SeenEntry) (place : env.place_of name (map entry_of before.names) ≡ Some at) (is : e ≡ get_or before.names at e)
    (n : Entry → ℕ) (alone : Entry → Plain → Bool) (run : Entry → Answer) (after : entry_of e' ≡ entry_after (alone (entry_of e)) (entry_of e) (run (entry_of e))) where
  -- a change that is done
  pub changed : Ok _ ≡ verdict (run (entry_of e)) →
      Did (env_of (record { names = set before.names at e'; room = before.room; allowed = before.allowed + n (entry_of e) })) (reply_of (run (entry_of e))) (with_change (env_of before) name n alone run)
  changed ok =
      let stands = there name before.names at e place is in
      let same : e'.name ≡ e.name = ap (λ x. x.name) after ∙ named-after (alone (entry_of e)) (entry_of e) (run (entry_of e)) in
      let given = put-there name before.names at e place is e' same in
      rw stands.read (done (env_of before) name (entry_of e) (n (entry_of e)) (alone (entry_of e)) (run (entry_of e)) (map entry_of (set before.names at e')) ok stands.name_is (given ∙ ap (λ x. env.given x (map entry_of before.names)) after))

  -- a change that is refused
  pub kept : {why : Refusal} → Err why ≡ verdict (run (entry_of e)) →
      Did (env_of (record { names = set before.names at e'; room = before.room; allowed = before.allowed })) (refusal why) (with_change (env_of before) name n alone run)
  kept {why} err =
      let stands = there name before.names at e place is in
      let same = same-there name before.names at e place is e' (after ∙ unchanged (alone (entry_of e)) (entry_of e) (run (entry_of e)) why err) in
      rw (same, stands.read) (refused (env_of before) name (n (entry_of e)) (alone (entry_of e)) (run (entry_of e)) why err)

-- what two values tell
both-told : (before : Environment) (name other : Text) (t : Told) → Ok _ ≡ told_verdict t → Did (if bytes_eq name other then settles name before else before) (told_reply t) (told_both before name other t)
both-told before name other (Ok text) is = record { env = refl; text = refl }
both-told before name other (Err why) is = cc

both-refused : (before : Environment) (name other : Text) (t : Told) (why : Refusal) → Err why ≡ told_verdict t → Did before (refusal why) (told_both before name other t)
both-refused before name other (Ok text) why is = cc
both-refused before name other (Err found) why is =
    let same : why ≡ found = cc in
    record { env = refl; text = ap refusal same }

module _ (before : SeenEnv) (name other : Text) (at by : ℕ) (e f : SeenEntry)
    (place : env.place_of name (map entry_of before.names) ≡ Some at) (is : e ≡ get_or before.names at e)
    (place' : env.place_of other (map entry_of before.names) ≡ Some by) (is' : f ≡ get_or before.names by f) (tell : Plain → Plain → Told) where
  whole-both : ask_both (env_of before) name other tell ≡ told_both (env_of before) name other (tell e.seen.value f.seen.value)
  whole-both =
      ap (λ o. with_found (env_of before) o (λ x. with_entry (env_of before) other (λ y. told_both (env_of before) name other (tell x.value y.value)))) (there name before.names at e place is).read
      ∙ ap (λ o. with_found (env_of before) o (λ y. told_both (env_of before) name other (tell e.seen.value y.value))) (there other before.names by f place' is').read

  pub told-both : Ok _ ≡ told_verdict (tell e.seen.value f.seen.value) → Did (if bytes_eq name other then settles name (env_of before) else env_of before) (told_reply (tell e.seen.value f.seen.value)) (ask_both (env_of before) name other tell)
  told-both ok =
      let did = both-told (env_of before) name other (tell e.seen.value f.seen.value) ok in
      record { env = did.env ∙ ap (λ o. o.env) (sym whole-both); text = did.text ∙ ap (λ o. o.text) (sym whole-both) }

  pub untold-both : (why : Refusal) → Err why ≡ told_verdict (tell e.seen.value f.seen.value) → Did (env_of before) (refusal why) (ask_both (env_of before) name other tell)
  untold-both why err =
      let did = both-refused (env_of before) name other (tell e.seen.value f.seen.value) why err in
      record { env = did.env ∙ ap (λ o. o.env) (sym whole-both); text = did.text ∙ ap (λ o. o.text) (sym whole-both) }
