-- A statement that only reads allows nothing.
use Rattle.std.proofs.Common.{◌≤◌, Bool, true, false, Option, Some, None, Ok, Err, arith, if◌then◌else◌}
use Rattle.std.specs.Str.{bytes_eq}
use Rattle.cow_model.specs.Env as env
use Rattle.cow_model.specs.Lexis.{Text}
use Rattle.cow_model.specs.Query as query
use Rattle.cow_model.specs.Query.{Told}
use Rattle.cow_model.specs.Sharing.{Layer}
use Rattle.cow_model.specs.Step.{settles, with_found, told, ask, told_both, ask_both, asking}
use Rattle.cow_model.specs.declared.outcome.Entry.{Entry}
use Rattle.cow_model.specs.declared.outcome.Environment.{Environment}
use Rattle.cow_model.specs.declared.outcome.Outcome.{Outcome}
use Rattle.cow_model.specs.declared.statement.Statement.TheOpen.{Statement-F}
use Rattle.cow_model.specs.declared.value.Plain.{Plain}

found-free : (before : Environment) (e : Option Entry) (run : Entry → Outcome) → ((e : Entry) → before.allowed ≤ (run e).env.allowed) → before.allowed ≤ (with_found before e run).env.allowed
found-free before None run free = omega arith
found-free before (Some e) run free = free e

told-free : (before : Environment) (t : Told) → before.allowed ≤ (told before t).env.allowed
told-free before (Ok text) = omega arith
told-free before (Err why) = omega arith

one-free : (b : Bool) (before : Environment) (name : Text) → before.allowed ≤ (if b then settles name before else before).allowed
one-free true before name = omega arith
one-free false before name = omega arith

both-free : (before : Environment) (name other : Text) (t : Told) → before.allowed ≤ (told_both before name other t).env.allowed
both-free before name other (Ok text) = one-free (bytes_eq name other) before name
both-free before name other (Err why) = omega arith

ask-free : (before : Environment) (name : Text) (tell : Plain → Told) → before.allowed ≤ (ask before name tell).env.allowed
ask-free before name tell = found-free before (env.entry_of name before.names) _ (λ e. told-free before (tell e.value))

ask_both-free : (before : Environment) (name other : Text) (tell : Plain → Plain → Told) → before.allowed ≤ (ask_both before name other tell).env.allowed
ask_both-free before name other tell = found-free before (env.entry_of name before.names) _ (λ e. found-free before (env.entry_of other before.names) _ (λ f. both-free before name other (tell e.value f.value)))

pub asking-free : (before : Environment) (s : Layer) → before.allowed ≤ (asking before s).env.allowed
asking-free before (Statement-F.Count l n) = ask-free before n query.count_of
asking-free before (Statement-F.Get l n x) = ask-free before n (query.get x)
asking-free before (Statement-F.At l n i) = ask-free before n (query.at i)
asking-free before (Statement-F.Has l n a) = ask-free before n (query.has a)
asking-free before (Statement-F.Place l n a) = ask-free before n (query.place a)
asking-free before (Statement-F.Peek l n side) = ask-free before n (query.peek side)
asking-free before (Statement-F.Subset l n m) = ask_both-free before n m query.subset
asking-free before (Statement-F.Disjoint l n m) = ask_both-free before n m query.disjoint
asking-free before (Statement-F.Equal l n m) = ask_both-free before n m query.equal
asking-free before s = omega arith
