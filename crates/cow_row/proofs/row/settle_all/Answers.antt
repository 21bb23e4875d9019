use Rattle.std.proofs.Common.{◌≡◌, take, length-set, ◌∙◌, arith}
use Rattle.std.proofs.lemmas.List.{take_more_set, take_all}
use Rattle.std.proofs.lemmas.Grind.{common_steps}
use Rattle.cow_model.proofs.ListSteps.{All-push}
use Rattle.cow_row.proofs.Splices.{map-set-same}
use Rattle.cow_row.proofs.row.settle_all.Goals as goal

pub loop-i-preserved : goal.loop-i-preserved
loop-i-preserved g c =
    let v = c.loop-i.invariant in
    let xs = c.loop-i.items.items in
    let one = All-push g.T.Item.IsSettled (take c.loop-i.i xs) c.settle.new.self v.settled c.settle.ensures.settled in
    record {
      same = map-set-same g.T.Item.plain xs c.loop-i.i c.settle.new.self c.index_mut.result.now c.index_mut.ensures.value c.settle.ensures.same ∙ v.same;
      count = length-set xs c.loop-i.i c.settle.new.self ∙ v.count;
      settled = rw (take_more_set xs c.loop-i.i c.settle.new.self (grind (arith, common_steps))) one;
    }

pub returns-clause-settled : goal.returns-clause-settled
returns-clause-settled g c =
    let whole : take c.loop-i.i c.loop-i.items.items ≡ c.loop-i.items.items = take_all c.loop-i.i c.loop-i.items.items (grind (arith, common_steps)) in
    rw whole at c.loop-i.invariant.settled
