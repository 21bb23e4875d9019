-- A change of a value by itself: a second handle is lent for it, and the flag is false afterwards.
use Rattle.std.proofs.Common.{◌≡◌, ◌+◌, ◌≤◌, Bool, false, [], Some, Result, Ok, Err, refl, ap, arith}
use Rattle.std.specs.Prelude.{⊤, IsOk}
use Rattle.std.proofs.lemmas.Grind.{common_steps}
use Rattle.cow_model.proofs.Bare.{turn_by-bare, after-call}
use Rattle.cow_model.proofs.Costs.{added-most}
use Rattle.cow_model.proofs.Counts.{size-count, small-after, turn_by-small}
use Rattle.cow_model.specs.Answers.{refusal_in}
use Rattle.cow_model.specs.Operation.{Answer}
use Rattle.cow_model.specs.Purse.{Purse, Moves, less, more}
use Rattle.cow_model.specs.Sharing.{Layer, both_cost_of}
use Rattle.cow_model.specs.Turns.{turn_by_of, added_of}
use Rattle.cow_model.specs.declared.memory.NoMemory.{NoMemory}
use Rattle.cow_model.specs.declared.plain.Literal.{Literal}
use Rattle.cow_model.specs.declared.refusal.Refusal.{Refusal}
use Rattle.cow_value.specs.Calls as value
use Rattle.cow_value.specs.Seen.{Seen, shared, units, given_by}
use Rattle.cow_eval.specs.Entries.{SeenEntry, IsKept, Changes, EntryCosts, allowed_for}
use Rattle.cow_eval.proofs.Flags.{copies-allowed, cost-first, nodes-most}

refused-by : (a : Answer) (e : SeenEntry) {why : Refusal} → Some why ≡ refusal_in a → Changes (λ value. false) a e e [] [] (Ok (Err why))
refused-by (Ok done) e is = cc
refused-by (Err other) e {why} is =
    let same : why ≡ other = cc in
    record { told = ap Err same; entry = refl; reply = refl; kept = _; free = grind (arith, common_steps) }

module _ (s : Layer) (e : SeenEntry) where
  -- one that is refused, as it was told before the handle is lent
  pub itself-refused : {why : Refusal} → Some why ≡ refusal_in ((turn_by_of s e.seen.value).run e.seen.value) →
      Changes (λ value. false) ((turn_by_of s e.seen.value).run e.seen.value) e e [] [] (Ok (Err why))
  itself-refused is = refused-by ((turn_by_of s e.seen.value).run e.seen.value) e is

  module _ (kept : IsKept e) (v' : Seen) (r : Result (Result ⊤ Refusal) NoMemory) (does : value.Does (turn_by_of s e.seen.value) (shared e.seen) v' [] [] r) where
    -- the entry behind it
    pub itself-kept : IsKept (record { name = e.name; seen = v'; flag = false })
    itself-kept = record {
      alone = λ wrong. cc;
      small = small-after _ r e.seen.value v'.value ((turn_by_of s e.seen.value).run e.seen.value) does.value does.kept (turn_by-small s e.seen.value e.seen.value kept.small) kept.small;
    }

    module _ (p : Literal → Bool) (h h' h'' : Purse) (costs : value.Costs p (given_by p s (shared e.seen)) (turn_by_of s e.seen.value) (shared e.seen) v' (less 1 h) h' r)
        (ended : Moves (units p (shared e.seen)) 0 (more 1 h') h'') (back : h'.spare + 1 ≤ h''.spare) (one : 1 ≤ h.spare) where
      -- what it costs
      pub itself-costs : EntryCosts p (allowed_for (both_cost_of false e.seen.value + added_of s e.seen.value) ((turn_by_of s e.seen.value).run e.seen.value)) ⊤ e
          (record { name = e.name; seen = v'; flag = false }) h h''
      itself-costs = cost-first _ _ _
          (let a = (turn_by_of s e.seen.value).run e.seen.value in
          let rises = costs.moved.copied in
          let kept' = costs.moved.kept in
          let most = copies-allowed a (both_cost_of false e.seen.value) (added_of s e.seen.value) (IsOk r) (less 1 h) h' costs.free rises in
          let last = ended.copied in
          let first = ended.kept in
          let falls = costs.falls in
          let small = kept.small in
          record {
            copied = record { copied = omega (arith, most, last); kept = omega (arith, kept', first) };
            falls = omega (arith, falls, small, back, size-count e.seen.value, nodes-most e.seen.value, added-most s e.seen.value small);
            bare = λ all zero.
                let plain = after-call p _ r e.seen.value v'.value a does.value does.kept (omega (arith, zero)) (turn_by-bare p s e.seen.value e.seen.value (omega (arith, zero)) (omega (arith, zero))) in
                let hidden = costs.hidden in
                let down = costs.moved.falls in
                let up = costs.moved.rises in
                let fell = ended.falls in
                let rose = ended.rises in
                (omega (arith, hidden, plain, zero), omega (arith, zero, down, up, fell, rose, one));
          })
