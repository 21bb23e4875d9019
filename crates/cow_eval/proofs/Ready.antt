-- After a statement one fewer may be run.
use Rattle.std.proofs.Common.{◌≡◌, ℕ, ◌+◌, ◌*◌, ◌≤◌, ◌<◌, ◌^◌, suc, List, ap, sym, arith, subst, Result, Ok, Err}
use Rattle.std.specs.Prelude.{⊤, All, OnOk, OnErr}
use Rattle.std.proofs.lemmas.List.Elements.{All-map}
use Rattle.cow_model.proofs.Rises.{step-rises}
use Rattle.cow_model.proofs.StepBounds.{Small, Near, step-near}
use Rattle.cow_model.specs.Plain.{stop, max_count}
use Rattle.cow_model.specs.Purse.{Purse}
use Rattle.cow_model.specs.Sharing.{Layer, literals}
use Rattle.cow_model.specs.Step.{step}
use Rattle.cow_model.specs.declared.memory.NoMemory.{NoMemory}
use Rattle.cow_model.specs.declared.outcome.Entry.{Entry}
use Rattle.cow_model.specs.declared.shape.Shape.{Shape}
use Rattle.cow_eval.specs.Entries.{IsKept, entry_of, most_units}
use Rattle.cow_eval.specs.Envs.{SeenEnv, AreNear, CanRun, env_of}
use Rattle.cow_eval.proofs.BareNames.{All-unmap}
use Rattle.cow_eval.proofs.Results.{on-ok}

module _ (n : ℕ) (before after : SeenEnv) (h h' : Purse) (shapes : List Shape) (s : Layer) (kept : All IsKept before.names) (ready : CanRun (n + 1) before h) (few : literals s ≤ max_count) (falls : h.spare ≤ h'.spare + 1 * most_units) where
  pub ready-after : env_of after ≡ (step (env_of before) shapes s).env → CanRun n after h'
  ready-after is =
      let small = All-map (λ (e : Entry). Small e.value) entry_of before.names (λ k d lt. (kept k d lt).small) in
      let next : n + 1 ≡ suc n = omega arith in
      let near = subst (λ k. All (λ e. stop e.seen.value + k ≤ 2 ^ 31) before.names) next ready.near in
      let low = All-map (λ (e : Entry). Near (suc n) e.value) entry_of before.names near in
      let room = ready.few in
      let stops = step-near n (omega (arith, room)) (env_of before) shapes s few small low in
      let rises = step-rises (env_of before) shapes s few small in
      let sum = ap (λ e. e.allowed) is in
      let bound = ready.allowed in
      let spare = ready.spare in
      record {
        few = omega (arith, room);
        allowed = omega (arith, rises, sum, bound);
        near = All-unmap (λ (e : Entry). Near n e.value) entry_of after.names (subst (λ names. All (λ (e : Entry). Near n e.value) names) (sym (ap (λ e. e.names) is)) stops);
        spare = omega (arith, spare, falls);
      }

  pub ready-next : (r : Result ⊤ NoMemory) → OnOk r (env_of after ≡ (step (env_of before) shapes s).env) → OnOk r (CanRun n after h')
  ready-next r ok = on-ok _ _ r ok ready-after

-- a statement allows at most 2^22 copies more
pub rises-by : (before after : SeenEnv) (shapes : List Shape) (s : Layer) → All IsKept before.names → literals s ≤ max_count → (r : Result ⊤ NoMemory) → OnOk r (env_of after ≡ (step (env_of before) shapes s).env) → OnErr r (after.allowed ≤ (step (env_of before) shapes s).env.allowed) → after.allowed ≤ before.allowed + most_units
rises-by before after shapes s kept few (Ok x) is most =
    let small = All-map (λ (e : Entry). Small e.value) entry_of before.names (λ k d lt. (kept k d lt).small) in
    omega (arith, step-rises (env_of before) shapes s few small, ap (λ e. e.allowed) is)
rises-by before after shapes s kept few (Err x) is most =
    let small = All-map (λ (e : Entry). Small e.value) entry_of before.names (λ k d lt. (kept k d lt).small) in
    omega (arith, step-rises (env_of before) shapes s few small, most)

-- slices stop at most one place further
pub near-next : (n : ℕ) (before after : SeenEnv) (shapes : List Shape) (s : Layer) → All IsKept before.names → literals s ≤ max_count → n < 2 ^ 30 → AreNear (n + 1) before.names → (r : Result ⊤ NoMemory) → OnOk r (env_of after ≡ (step (env_of before) shapes s).env) → OnOk r (AreNear n after.names)
near-next n before after shapes s kept few low close r ok = on-ok _ _ r ok (λ is.
    let small = All-map (λ (e : Entry). Small e.value) entry_of before.names (λ k d lt. (kept k d lt).small) in
    let next : n + 1 ≡ suc n = omega arith in
    let near = subst (λ k. All (λ e. stop e.seen.value + k ≤ 2 ^ 31) before.names) next close in
    let stops = step-near n (omega (arith, low)) (env_of before) shapes s few small (All-map (λ (e : Entry). Near (suc n) e.value) entry_of before.names near) in
    All-unmap (λ (e : Entry). Near n e.value) entry_of after.names (subst (λ names. All (λ (e : Entry). Near n e.value) names) (sym (ap (λ e. e.names) is)) stops))
