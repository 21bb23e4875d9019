-- The flag and the cost of an entry after a change of its value, for a row of the table: no kind is named.
use Rattle.std.proofs.Common.{◌≡◌, ℕ, ◌+◌, ◌*◌, ◌≤◌, ◌⊎◌, inl, inr, Bool, true, false, not, ◌&&◌, Result, Ok, Err, refl, ap, sym, ◌∙◌, arith, subst, if◌then◌else◌}
use Rattle.std.specs.Prelude.{⊤, IsOk, IfOk, OnOk}
use Rattle.cow_model.specs.Lexis.{Text}
use Rattle.cow_model.specs.Operation.{Answer}
use Rattle.cow_model.specs.Plain.{count, is_tree, max_count, same_plain}
use Rattle.cow_model.specs.Purse.{Purse}
use Rattle.cow_model.specs.Sharing.{both_cost_of}
use Rattle.cow_model.specs.declared.memory.NoMemory.{NoMemory}
use Rattle.cow_model.specs.declared.outcome.Entry.{Entry}
use Rattle.cow_model.specs.declared.plain.Literal.{Literal}
use Rattle.cow_model.specs.declared.refusal.Refusal.{Refusal}
use Rattle.cow_model.specs.declared.value.Plain.{Plain}
use Rattle.cow_model.specs.Answers.{verdict, is_refused, value_after}
use Rattle.cow_model.specs.Flat.{need}
use Rattle.cow_model.specs.Units.{units_of, nodes_of}
use Rattle.cow_value.specs.Calls as value
use Rattle.cow_value.specs.Seen.{Seen, Brings}
use Rattle.cow_model.specs.Turns.{Turn, tells_of, TellsParts, alone_after}
use Rattle.cow_model.proofs.Costs.{both-most}
use Rattle.cow_model.proofs.Same.{same-self}
use Rattle.cow_model.proofs.Counts.{size-count, small-after}
use Rattle.cow_eval.proofs.Results.{on-err}
use Rattle.cow_eval.specs.Entries.{SeenEntry, IsKept, entry_of, entry_after, flag_after, allowed_for, EntryCosts, Changes}

-- a value that isn't as before is alone
apart : (v d : Plain) (after : Seen) → same_plain v v ≡ true → false ≡ same_plain v d → after.value ≡ d → (after.value ≡ v) ⊎ (after.alone ≡ true) → after.alone ≡ true
apart v d after self is value (inl e) =
    let one : same_plain v d ≡ same_plain v v = ap (λ x. same_plain v x) (sym value ∙ e) in
    let wrong : false ≡ true = is ∙ (one ∙ self) in
    cc
apart v d after self is value (inr a) = a

-- what was told to differ from before is alone
differs : (p s : Bool) (v d : Plain) (after : Seen) → same_plain v v ≡ true → s ≡ same_plain v d → (p && not s) ≡ true → after.value ≡ d → (p ≡ true → (after.value ≡ v) ⊎ (after.alone ≡ true)) → after.alone ≡ true
differs false s v d after self is h value changed = cc
differs true true v d after self is h value changed = cc
differs true false v d after self is h value changed = apart v d after self is value (changed refl)

-- a value whose flag was set is alone
by-told : (parts : Bool) (r : Result (Result ⊤ Refusal) NoMemory) (t : Turn) (v : Plain) (a : Answer) (after : Seen) → tells_of parts t v a → IfOk r (λ x. x ≡ verdict a) → OnOk r (after.value ≡ value_after v a) →
    (t.parts v ≡ true → (after.value ≡ v) ⊎ (after.alone ≡ true)) → flag_after parts r ≡ true → after.alone ≡ true
by-told parts (Ok (Ok x)) t v (Ok d) after told is value changed h = differs (t.parts v) (same_plain v d.value) v d.value after (same-self v) refl (sym told ∙ h) value changed
by-told parts (Ok (Ok x)) t v (Err why) after told is value changed h = cc
by-told parts (Ok (Err why)) t v a after told is value changed h = cc
by-told parts (Err x) t v a after told is value changed h = cc

-- so the flag stands for a value that is alone
pub flag-kept : (parts : Bool) (t : Turn) (before after : Seen) {said said' : Text} (r : Result (Result ⊤ Refusal) NoMemory) → TellsParts parts t before.value → value.Does t before after said said' r → flag_after parts r ≡ true → after.alone ≡ true
flag-kept parts t before after r told does h = by-told parts r t before.value (t.run before.value) after told does.told does.value does.parted h

-- the entry behind a change of a value whose flag was true
entry-alone : (t : Turn) (e : Entry) (v' : Plain) (a : Answer) → e.alone ≡ true → v' ≡ value_after e.value a → (record { name = e.name; value = v'; alone = e.alone }) ≡ entry_after (alone_after t e.alone e.value) e a
entry-alone t e v' (Ok d) is value = rw (value, is) refl
entry-alone t e v' (Err why) is value = rw value refl

pub entry-flagged : {X : Type 0} (r : Result X NoMemory) (t : Turn) (e : Entry) (v' : Plain) → e.alone ≡ true → OnOk r (v' ≡ value_after e.value (t.run e.value)) →
    OnOk r ((record { name = e.name; value = v'; alone = e.alone }) ≡ entry_after (alone_after t e.alone e.value) e (t.run e.value))
entry-flagged (Ok x) t e v' is value = entry-alone t e v' (t.run e.value) is value
entry-flagged (Err x) t e v' is value = _

-- and of one whose flag was false
entry-by : (parts : Bool) (r : Result (Result ⊤ Refusal) NoMemory) (t : Turn) (e : Entry) (v' : Plain) (a : Answer) → e.alone ≡ false → tells_of parts t e.value a → IfOk r (λ x. x ≡ verdict a) → OnOk r (v' ≡ value_after e.value a) →
    OnOk r ((record { name = e.name; value = v'; alone = flag_after parts r }) ≡ entry_after (alone_after t e.alone e.value) e a)
entry-by parts (Ok (Ok x)) t e v' (Ok d) shares told is value = rw (told, value, shares) refl
entry-by parts (Ok (Ok x)) t e v' (Err why) shares told is value = cc
entry-by parts (Ok (Err why)) t e v' (Ok d) shares told is value = cc
entry-by parts (Ok (Err why)) t e v' (Err other) shares told is value = rw value (ap (λ b. record { name = e.name; value = e.value; alone = b }) (sym shares))
entry-by parts (Err x) t e v' a shares told is value = _

pub entry-told : (parts : Bool) (r : Result (Result ⊤ Refusal) NoMemory) (t : Turn) (e : Entry) (v' : Plain) → e.alone ≡ false → TellsParts parts t e.value → IfOk r (λ x. x ≡ verdict (t.run e.value)) → OnOk r (v' ≡ value_after e.value (t.run e.value)) →
    OnOk r ((record { name = e.name; value = v'; alone = flag_after parts r }) ≡ entry_after (alone_after t e.alone e.value) e (t.run e.value))
entry-told parts r t e v' shares told is value = entry-by parts r t e v' (t.run e.value) shares told is value

module _ (t : Turn) (e : SeenEntry) (kept : IsKept e) (v' : Seen) {said said' : Text} (r : Result (Result ⊤ Refusal) NoMemory)
    (does : value.Does t e.seen v' said said' r) where
  module _ (small : count (value_after e.seen.value (t.run e.seen.value)) ≤ max_count) where
    few : count v'.value ≤ max_count
    few = small-after (said' ≡ said) r e.seen.value v'.value (t.run e.seen.value) does.value does.kept small kept.small

    -- an entry whose flag was true keeps it, and its value is alone
    pub alone-kept : IsKept (record { name = e.name; seen = v'; flag = e.flag })
    alone-kept = record { alone = λ flag. does.alone (kept.alone flag); small = few }

    -- the value of one whose flag was false is alone where the flag is set
    pub told-kept : (parts : Bool) → TellsParts parts t e.seen.value → IsKept (record { name = e.name; seen = v'; flag = flag_after parts r })
    told-kept parts told = record { alone = flag-kept parts t e.seen v' r told does; small = few }

  module _ (free : is_refused (t.run e.seen.value) ≡ true → IsOk r) where
    -- what a change makes of an entry whose flag was true
    pub alone-changes : e.flag ≡ true → Changes (alone_after t e.flag e.seen.value) (t.run e.seen.value) e (record { name = e.name; seen = v'; flag = e.flag }) said said' r
    alone-changes flag = record {
      told = does.told;
      entry = entry-flagged r t (entry_of e) v'.value flag does.value;
      reply = does.reply;
      kept = on-err _ _ r does.kept (λ same. same.1);
      free = free;
    }

    -- and of one whose flag was false
    pub told-changes : e.flag ≡ false → (parts : Bool) → TellsParts parts t e.seen.value →
        Changes (alone_after t e.flag e.seen.value) (t.run e.seen.value) e (record { name = e.name; seen = v'; flag = flag_after parts r }) said said' r
    told-changes flag parts told = record {
      told = does.told;
      entry = entry-told parts r t (entry_of e) v'.value flag told does.told does.value;
      reply = does.reply;
      kept = on-err _ _ r does.kept (λ same. same.1);
      free = free;
    }

-- a change copies no more than is allowed, and nothing where it is refused
pub copies-allowed : (a : Answer) (m n : ℕ) (A : Type 0) (h h' : Purse) → (is_refused a ≡ true → A × (h' ≡ h)) → h'.copied ≤ h.copied + (m + n) → h'.copied ≤ h.copied + allowed_for (n + m) a
copies-allowed (Ok d) m n A h h' free most = omega (arith, most)
copies-allowed (Err why) m n A h h' free most = let same = ap (λ h. h.copied) (free refl).1 in omega (arith, same)

-- the nodes of a trie of at most 65,536 keys
nodes-if : (b : Bool) (n : ℕ) → (if b then n else 0) ≤ n
nodes-if true n = omega arith
nodes-if false n = omega arith

pub nodes-most : (v : Plain) → nodes_of v ≤ need (count v)
nodes-most v = nodes-if (is_tree v) (need (count v))

-- what a change of an entry costs
pub entry-costs : (p : Literal → Bool) (b : Brings) (t : Turn) (before after : SeenEntry) (h h' : Purse) (r : Result (Result ⊤ Refusal) NoMemory) → value.Costs p b t before.seen after.seen h h' r →
    t.cost before.seen.alone before.seen.value ≤ t.cost before.flag before.seen.value → count before.seen.value ≤ max_count → b.atoms ≤ 2 * max_count → b.nodes ≤ need max_count → (units_of p before.seen.value ≡ 0 → b.units ≡ 0 → units_of p after.seen.value ≡ 0) →
    EntryCosts p (allowed_for (b.atoms + t.cost before.flag before.seen.value) (t.run before.seen.value)) (b.units ≡ 0) before after h h'
entry-costs p b t before after h h' r costs less small few nodes bare =
    let rises = costs.moved.copied in
    let most = copies-allowed (t.run before.seen.value) (t.cost before.flag before.seen.value) b.atoms (IsOk r) h h' costs.free (omega (arith, rises, less)) in
    let falls = costs.falls in
    let sizes = size-count before.seen.value in
    let more = nodes-most before.seen.value in
    record {
      copied = record { copied = omega (arith, most); kept = costs.moved.kept };
      falls = omega (arith, falls, small, few, nodes, sizes, more);
      bare = λ none zero.
          let hidden = costs.hidden in
          let down = costs.moved.falls in
          let up = costs.moved.rises in
          let plain = bare (omega (arith, zero)) none in
          (omega (arith, hidden, plain, none, zero), omega (arith, none, zero, down, up));
    }

-- the same with the cost before the atoms
pub cost-first : (m n : ℕ) (a : Answer) {p : Literal → Bool} {brings : Type 0} {e e' : SeenEntry} {h h' : Purse} → EntryCosts p (allowed_for (n + m) a) brings e e' h h' → EntryCosts p (allowed_for (m + n) a) brings e e' h h'
cost-first m n a {p} {brings} {e} {e'} {h} {h'} costs =
    let same : n + m ≡ m + n = omega arith in
    subst (λ k. EntryCosts p (allowed_for k a) brings e e' h h') same costs

-- a change by another value costs no more than two copies an element
pub both-few : (alone : Bool) (v : Plain) → count v ≤ max_count → both_cost_of alone v ≤ 2 * max_count
both-few alone v small = let most = both-most alone v in omega (arith, most, small)
