use Rattle.std.proofs.Common.{◌≡◌, ◌+◌, ◌≤◌, ◌++◌, length, map, drop, count_by}
use Rattle.cow_rule.specs.Asked.{raised}
use Rattle.cow_model.specs.Lazy.{view, integers_in}
use Rattle.cow_lazy.proofs.ask.take_all.Given as goal

-- the view so far, and that of the elements to come; and as it is with the answers
abbrev pub invariant-loop-x : goal.invariant-loop-x
invariant-loop-x g l =
    let rule = goal.Rule-dyn g (l.rule.vtable, l.rule.value) in
    let began = goal.Rule-dyn g (l.fn.rule.vtable, l.fn.rule.value) in
    record {
      taken : map g.T.Item.plain l.taken.items ++ view l.shape (map g.T.Item.plain (drop l.x-index l.items)) ≡ view l.shape (map g.T.Item.plain l.items);
      few : length l.taken.items ≤ l.x-index;
      units : l.h.spare + count_by g.T.Item.is_counted (map g.T.Item.plain l.taken.items) ≡ l.fn.h.spare;
      copied : l.h.copied ≡ l.fn.h.copied;
      shape : rule.shape_of l.rule.value ≡ l.shape;
      kept : began.asked_of l.fn.rule.value ≤ rule.asked_of l.rule.value;
      asked : raised (integers_in (map g.T.Item.plain (drop l.x-index l.items))) (rule.asked_of l.rule.value) ≡ raised (integers_in (map g.T.Item.plain l.items)) (began.asked_of l.fn.rule.value);
    }
