-- What a change of the value of a name allows and costs.
use Rattle.std.proofs.Common.{◌≡◌, ℕ, ◌+◌, ◌≤◌, Bool, true, false, map, get_or, Some, Ok, Err, Result, refl, arith}
use Rattle.std.specs.Prelude.{OnErr, ⊤}
use Rattle.cow_model.specs.Env as env
use Rattle.cow_model.specs.Lexis.{Text}
use Rattle.cow_model.specs.Operation.{Answer}
use Rattle.cow_model.specs.Purse.{Purse, RisesWithin}
use Rattle.cow_model.specs.Step.{becomes}
use Rattle.cow_model.specs.declared.outcome.Entry.{Entry}
use Rattle.cow_model.specs.declared.memory.NoMemory.{NoMemory}
use Rattle.cow_model.specs.declared.outcome.Environment.{Environment}
use Rattle.cow_model.specs.declared.outcome.Outcome.{Outcome}
use Rattle.cow_model.specs.declared.plain.Literal.{Literal}
use Rattle.cow_model.specs.declared.refusal.Refusal.{Refusal}
use Rattle.cow_model.specs.declared.value.Plain.{Plain}
use Rattle.cow_model.specs.Answers.{verdict, is_refused}
use Rattle.cow_eval.specs.Entries.{SeenEntry, EntryCosts, allowed_for, entry_of}
use Rattle.cow_eval.specs.Envs.{SeenEnv, Costs, Does, Reads, env_of}
use Rattle.cow_eval.proofs.BareNames.{values-bare, values-length}
use Rattle.cow_eval.proofs.Results.{always}
use Rattle.cow_eval.proofs.Places.{there}
use Rattle.cow_eval.proofs.Steps.{with_change}

-- what holds anyway holds where a call answered Err
pub always-err : {X E : Type 0} (P : Type 0) (r : Result X E) → P → OnErr r P
always-err P (Ok x) h = _
always-err P (Err x) h = h

-- a change never lowers what is allowed
allows : (before : Environment) (name : Text) (n : ℕ) (alone : Plain → Bool) (a : Answer) → before.allowed ≤ (becomes before name n alone a).env.allowed
allows before name n alone (Ok done) = omega arith
allows before name n alone (Err why) = omega arith

-- a failure isn't Ok
pub no-told : false ≡ true → ⊥
no-told told = cc

-- what isn't told isn't refused
pub unrefused : (a : Answer) → (is_refused a ≡ true → ⊥) → is_refused a ≡ false
unrefused (Ok done) untold = refl
unrefused (Err why) untold = absurd (untold refl)

-- what isn't refused allows its cost
pub becomes-allowed : (before : Environment) (name : Text) (n : ℕ) (alone : Plain → Bool) (a : Answer) → is_refused a ≡ false → (becomes before name n alone a).env.allowed ≡ before.allowed + n
becomes-allowed before name n alone (Ok done) is = refl
becomes-allowed before name n alone (Err why) is = cc

-- no more than the cost is allowed
at-most : (n : ℕ) (a : Answer) → allowed_for n a ≤ n
at-most n (Ok done) = omega arith
at-most n (Err why) = omega arith

-- nothing is allowed for a change that is refused
none-for : (n : ℕ) (a : Answer) → is_refused a ≡ true → allowed_for n a ≡ 0
none-for n (Ok done) refused = cc
none-for n (Err why) refused = refl

-- a verdict says whether the statement is refused
pub refused-by : (a : Answer) (why : Refusal) → Err why ≡ verdict a → is_refused a ≡ true
refused-by (Ok done) why is = cc
refused-by (Err other) why is = refl

module _ (before : SeenEnv) (name : Text) {at : ℕ} {e : SeenEntry} (place : env.place_of name (map entry_of before.names) ≡ Some at) (is : e ≡ get_or before.names at e)
    (n : Entry → ℕ) (alone : Entry → Plain → Bool) (run : Entry → Answer) where
  -- where memory ran out in a change that isn't refused, its cost was allowed
  pub most-tried : {allowed : ℕ} → allowed ≡ before.allowed + n (entry_of e) → (is_refused (run (entry_of e)) ≡ true → false ≡ true) →
      allowed ≤ (with_change (env_of before) name n alone run).env.allowed
  most-tried sum told = rw ((there name before.names at e place is).read, sum) (omega (arith, becomes-allowed (env_of before) name (n (entry_of e)) (alone (entry_of e)) (run (entry_of e)) (unrefused (run (entry_of e)) (λ refused. no-told (told refused)))))

  -- nothing was allowed
  pub most-kept : before.allowed ≤ (with_change (env_of before) name n alone run).env.allowed
  most-kept = rw ((there name before.names at e place is).read) (allows (env_of before) name (n (entry_of e)) (alone (entry_of e)) (run (entry_of e)))

module _ {p : Literal → Bool} {literals : ℕ} (n : ℕ) (a : Answer) {brings : Type 0} {e e' : SeenEntry} {h h' : Purse} (costs : EntryCosts p (allowed_for (literals + n) a) brings e e' h h') {before after : SeenEnv} where
  -- a change whose cost was allowed
  pub costs-tried : after.allowed ≡ before.allowed + n → Costs literals 1 before after h h'
  costs-tried sum =
      let most = at-most (literals + n) a in
      let rises = costs.copied.copied in
      let falls = costs.falls in
      record { copied = record { copied = omega (arith, most, rises, sum); kept = costs.copied.kept }; falls = omega (arith, falls) }

  -- a change that is refused makes no copy
  pub costs-refused : is_refused a ≡ true → after.allowed ≡ before.allowed → Costs literals 1 before after h h'
  costs-refused refused same =
      let none = none-for (literals + n) a refused in
      let rises = costs.copied.copied in
      let falls = costs.falls in
      record { copied = record { copied = omega (arith, none, rises, same); kept = costs.copied.kept }; falls = omega (arith, falls) }

  -- the same by its verdict
  pub costs-kept : {why : Refusal} → Err why ≡ verdict a → after.allowed ≡ before.allowed → Costs literals 1 before after h h'
  costs-kept {why} is same = costs-refused (refused-by a why is) same

module _ {p : Literal → Bool} {literals : ℕ} {out : Outcome} {before after : SeenEnv} {said said' : Text} {r : Result ⊤ NoMemory} where
  -- what brings nothing in under one condition doesn't under a stronger one
  pub brings-less : (B C : Type 0) {n : ℕ} {stays : Type 0} {h h' : Purse} → (C → B) → Does p B literals n out stays before after said said' h h' r → Does p C literals n out stays before after said said' h h' r
  brings-less B C less did = record {
    env = did.env;
    text = did.text;
    kept = did.kept;
    most = did.most;
    costs = did.costs;
    bare = λ names none. did.bare names (less none);
  }

  -- a statement that only reads
  pub reads-only : (B : Type 0) (h : Purse) → before.allowed ≤ out.env.allowed → Reads out before after said said' r → Does p B literals 1 out (said' ≡ said) before after said said' h h r
  reads-only B h less did = record {
    env = did.env;
    text = did.text;
    kept = did.kept;
    most = always-err _ r (omega (arith, less, did.allowed));
    costs = record { copied = record { copied = omega (arith, did.allowed); kept = omega arith }; falls = omega arith };
    bare = λ names none. always _ r (record {
      bare = values-bare p before.names after.names did.values names;
      sum = let same = values-length before.names after.names did.values in omega (arith, same);
    });
  }

-- copies of a statement whose literals are counted already
pub no-literals : {least most : ℕ} {h h' : Purse} → RisesWithin least (0 + most) h h' → RisesWithin least most h h'
no-literals {least} {most} {h} {h'} rises = let r = rises.copied in record { copied = omega (arith, r); kept = rises.kept }

pub with-none : {least most : ℕ} {h h' : Purse} → RisesWithin least most h h' → RisesWithin least (0 + most) h h'
with-none {least} {most} {h} {h'} rises = let r = rises.copied in record { copied = omega (arith, r); kept = rises.kept }
