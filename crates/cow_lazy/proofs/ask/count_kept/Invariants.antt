use Rattle.std.proofs.Common.{◌≡◌, ◌+◌, ◌≤◌, length, map, drop}
use Rattle.std.specs.Prelude.{filter}
use Rattle.cow_rule.specs.Asked.{raised}
use Rattle.cow_model.specs.Lazy.{passes, integers_in}
use Rattle.cow_lazy.proofs.ask.count_kept.Given as goal

-- those that were kept and those that will be, and as it is with the answers
abbrev pub invariant-loop-x : goal.invariant-loop-x
invariant-loop-x g l =
    let rule = goal.Rule-dyn g (l.rule.vtable, l.rule.value) in
    let began = goal.Rule-dyn g (l.fn.rule.vtable, l.fn.rule.value) in
    record {
      kept : l.kept + length (filter (passes (began.shape_of l.fn.rule.value)) (map g.T.Item.plain (drop l.x-index l.items))) ≡ length (filter (passes (began.shape_of l.fn.rule.value)) (map g.T.Item.plain l.items));
      few : l.kept ≤ l.x-index;
      shape : rule.shape_of l.rule.value ≡ began.shape_of l.fn.rule.value;
      asked : raised (integers_in (map g.T.Item.plain (drop l.x-index l.items))) (rule.asked_of l.rule.value) ≡ raised (integers_in (map g.T.Item.plain l.items)) (began.asked_of l.fn.rule.value);
    }
