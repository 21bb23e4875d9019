-- A name as it goes from one environment to another.
use Rattle.std.proofs.Common.{◌≡◌, ℕ, Bool, false, map, get_or, set, Some, ap, sym, ◌∙◌, arith, subst, ◌<◌}
use Rattle.std.specs.List.{remove}
use Rattle.std.proofs.lemmas.List.{length-set, length-map}
use Rattle.std.proofs.lemmas.List.Edits.{length-remove}
use Rattle.cow_model.proofs.ListSteps.{All-remove}
use Rattle.cow_model.specs.Env as env
use Rattle.cow_model.specs.Lexis.{Text}
use Rattle.cow_model.specs.declared.outcome.Entry.{Entry}
use Rattle.cow_model.specs.declared.outcome.Environment.{Environment}
use Rattle.cow_model.specs.declared.plain.Literal.{Literal}
use Rattle.cow_value.specs.Seen.{shared, units}
use Rattle.cow_eval.specs.Entries.{SeenEntry, entry_of}
use Rattle.cow_eval.specs.Envs.{SeenEnv, Lends, Parts}
use Rattle.cow_eval.proofs.BareNames.{bare-set, found-bare}
use Rattle.cow_eval.proofs.Places.{there, map-remove}
use Rattle.cow_eval.proofs.Steps.{settled}

module _ (p : Literal → Bool) (name : Text) (before : SeenEnv) (at : ℕ) (e : SeenEntry) (place : env.place_of name (map entry_of before.names) ≡ Some at) (is : e ≡ get_or before.names at e) where
  -- it is taken out
  pub parted : Parts p name before (record before { names = remove before.names at }) e
  parted =
      let stands = there name before.names at e place is in
      record {
        found = stands.read;
        named = stands.name_is;
        rest = rw place (ap {B = Environment} (λ names. record { names = names; room = before.room; allowed = before.allowed }) (map-remove entry_of before.names at));
        fewer = let fewer = length-remove before.names at (subst (λ n. at < n) (length-map before.names entry_of) stands.within) in omega (arith, fewer);
        bare = λ bare. (All-remove (λ x. units p x.seen ≡ 0) before.names at bare, found-bare p name before.names at e place is bare);
      }

  -- a second value of it is lent
  pub lent : (e' new : SeenEntry) → e' ≡ record e { seen = shared e.seen; flag = false } → new ≡ record { name = name; seen = shared e.seen; flag = false } → Lends p name before (record before { names = set before.names at e' }) new
  lent e' new is' is-new =
      let stands = there name before.names at e place is in
      record {
        whole = entry_of e;
        found = stands.read;
        named = stands.name_is;
        copy = ap entry_of is-new ∙ ap {B = Entry} (λ n. record { name = n; value = e.seen.value; alone = false }) (sym stands.name_is);
        rest = settled before name at e place is e' (ap entry_of is');
        as_many = length-set before.names at e';
        bare = λ bare.
            let none = found-bare p name before.names at e place is bare in
            (bare-set p before.names at e' bare (rw is' none), rw is-new none);
      }
