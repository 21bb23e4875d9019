-- What the holder has while a script runs: its copies and its units.
use Rattle.std.proofs.Common.{◌≡◌, Bool, ℕ, ◌+◌, ◌-◌, ◌*◌, ◌^◌, ◌≤◌, min, List, [], ◌∷◌, length, drop, ap, arith, ◌<◌, subst}
use Rattle.std.proofs.Math.ListN.{drop_of_length-le}
use Rattle.std.proofs.lemmas.List.{length-drop}
use Rattle.std.proofs.lemmas.List.Elements.{All-head, All-tail}
use Rattle.cow_model.specs.Atoms.{IsBareLayer, IsBareBlock}
use Rattle.cow_model.specs.Env.{start}
use Rattle.cow_model.specs.declared.plain.Literal.{Literal}
use Rattle.cow_model.specs.Purse.{Purse, RisesBy, RisesWithin, whole}
use Rattle.cow_model.specs.Run.{run_one, env_after, bound, least_layer, least_from, least}
use Rattle.cow_model.specs.declared.shape.Shape.{Shape}
use Rattle.cow_model.specs.declared.statement.Statement.{Statement, out-Statement}
use Rattle.cow_model.proofs.Within.{least_allowed, least_within_bound}
use Rattle.cow_eval.specs.Entries.{most_units}
use Rattle.cow_eval.specs.Envs.{SeenEnv, CanRun, env_of, IsBare, Balances}
use Rattle.cow_tasks.specs.Blocks.{HasParts, count_in, count_of}
use Rattle.cow_tasks.proofs.Making.{can-less}
use Rattle.cow_run.specs.Answer.{stock_units}

-- of a bare script nothing that is left is counted, and the units that are out are those of the names
pub record Settles (p : Literal → Bool) (rest : List Statement) (env : SeenEnv) (h : Purse) : Type 0 where
  pub plain : IsBareBlock p rest
  pub names : IsBare p env.names
  pub sum : h.spare + length env.names ≡ stock_units

-- how far the statements ss were run, of which `rest` is left: what was copied, and which units are out
pub record Counts (p : Literal → Bool) (shapes : List Shape) (ss rest : List Statement) (env : SeenEnv) (h : Purse) : Type 0 where
  pub most : h.copied ≤ env.allowed
  pub done : ℕ
  pub told : done + least_from (env_of env) shapes rest ≡ least ss shapes
  pub least : min done (2 ^ 64 - 1) ≤ h.copied
  pub ready : CanRun (count_in rest) env h
  pub parts : HasParts (count_in rest) h
  pub bare : IsBareBlock p ss → Settles p rest env h

-- two rises in turn
rises_on : (n m a b : ℕ) → min n (2 ^ 64 - 1) ≤ a → min (a + m) (2 ^ 64 - 1) ≤ b → min (n + m) (2 ^ 64 - 1) ≤ b
rises_on n m a b p q = omega (arith, p, q)

-- one statement more
pub counts_more : (p : Literal → Bool) (shapes : List Shape) (ss rest : List Statement) (s : Statement) (env env' : SeenEnv) (h h' : Purse) → Counts p shapes ss (s ∷ rest) env h
    → env_of env' ≡ (run_one (env_of env) shapes s).env
    → RisesWithin env.allowed env'.allowed h h'
    → h.spare ≤ h'.spare + count_of (out-Statement s) * most_units
    → RisesBy (least_layer (env_of env) (out-Statement s)) h h'
    → CanRun (count_in rest) env' h'
    → (IsBare p env.names → IsBareLayer p (out-Statement s) → Balances p 0 env.names env'.names h h')
    → Counts p shapes ss rest env' h'
counts_more p shapes ss rest s env env' h h' c is copied fell by ready bare =
    let atoms = least_layer (env_of env) (out-Statement s) in
    let told : c.done + (atoms + least_from (run_one (env_of env) shapes s).env shapes rest) ≡ least ss shapes = c.told in
    record {
      most = let within = copied.copied in omega (arith, c.most, within);
      done = c.done + atoms;
      told = omega (arith, told, ap (λ e. least_from e shapes rest) is);
      least = rises_on c.done atoms h.copied h'.copied c.least by;
      ready = ready;
      parts = let parts : 17 * (2 ^ 39 + (count_of (out-Statement s) + count_in rest) * most_units) ≤ h.spare = c.parts in omega (arith, parts, fell);
      bare = λ script.
          let settled = c.bare script in
          let balance = bare settled.names (All-head (λ x. IsBareLayer p (out-Statement x)) s rest settled.plain) in
          record { plain = All-tail (λ x. IsBareLayer p (out-Statement x)) s rest settled.plain; names = balance.bare; sum = omega (arith, settled.sum, balance.sum) };
    }

-- a statement that ran out of memory, or was not written
pub counts_err : (p : Literal → Bool) (shapes : List Shape) (ss rest : List Statement) (s : Statement) (env env' : SeenEnv) (h h' : Purse) → Counts p shapes ss (s ∷ rest) env h
    → env_after (env_of env) shapes (s ∷ rest) ≡ env_after start shapes ss
    → env'.allowed ≤ (run_one (env_of env) shapes s).env.allowed
    → RisesWithin env.allowed env'.allowed h h'
    → h'.copied ≤ bound ss shapes
counts_err p shapes ss rest s env env' h h' c ends most copied =
    let grown = least_allowed (run_one (env_of env) shapes s).env shapes rest in
    let same : (env_after (run_one (env_of env) shapes s).env shapes rest).allowed ≡ bound ss shapes = ap (λ e. e.allowed) ends in
    let within = copied.copied in
    omega (arith, c.most, most, within, grown, same)

-- every script can be run from the start
pub can_start : (ss : List Statement) (env : SeenEnv) → env.names ≡ [] → env.allowed ≡ 0 → count_in ss ≤ 2 ^ 21 → CanRun (count_in ss) env whole
can_start ss env none zero few = record {
  few = omega (arith, few);
  allowed = omega (arith, few, zero);
  near = λ k d lt. absurd (omega (arith, lt, ap length none));
  spare = omega (arith, few);
}

-- and its forks have holders for all tasks
pub parts_start : (ss : List Statement) → count_in ss ≤ 2 ^ 21 → HasParts (count_in ss) whole
parts_start ss few = omega (arith, few)

-- the next statement may be run, and those behind it
pub can_next : (s : Statement) (rest : List Statement) (env : SeenEnv) (h : Purse) → CanRun (count_in (s ∷ rest)) env h → CanRun (count_in rest + count_of (out-Statement s)) env h
can_next s rest env h ready = subst (λ n. CanRun n env h) (omega arith) ready

-- the next statement alone
pub can_one : (s : Statement) (rest : List Statement) (env : SeenEnv) (h : Purse) → CanRun (count_in (s ∷ rest)) env h → CanRun (count_of (out-Statement s)) env h
can_one s rest env h ready = can-less (count_of (out-Statement s)) (count_in (s ∷ rest)) env h (omega arith) ready

pub parts_one : (s : Statement) (rest : List Statement) (h : Purse) → HasParts (count_in (s ∷ rest)) h → HasParts (count_of (out-Statement s)) h
parts_one s rest h parts = let all : 17 * (2 ^ 39 + (count_of (out-Statement s) + count_in rest) * most_units) ≤ h.spare = parts in omega (arith, all)

-- behind the last statement nothing is left
pub nothing_left : (ss : List Statement) (i : ℕ) → length ss ≤ i → drop i ss ≡ []
nothing_left ss i = drop_of_length-le ss

-- at the end of the script no fewer copies were made than it has to make, or the number stands at its last value
pub counts_end : (p : Literal → Bool) (shapes : List Shape) (ss : List Statement) (env : SeenEnv) (h : Purse) → Counts p shapes ss [] env h → RisesBy (least ss shapes) whole h
counts_end p shapes ss env h c =
    let told : c.done + 0 ≡ least ss shapes = c.told in
    omega (arith, told, c.least)

-- it doesn't stand there, since what is allowed is a number of 64 bits, too
pub counts_exactly : (shapes : List Shape) (ss : List Statement) (allowed : ℕ) (h : Purse) → RisesBy (least ss shapes) whole h → allowed ≡ bound ss shapes → allowed ≤ 2 ^ 64 - 1 → least ss shapes ≤ h.copied
counts_exactly shapes ss allowed h by is small = omega (arith, by, least_within_bound ss shapes, is, small)
