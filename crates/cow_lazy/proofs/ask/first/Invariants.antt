use Rattle.std.proofs.Common.{◌≡◌, map, drop}
use Rattle.cow_rule.specs.Asked.{raised}
use Rattle.cow_model.specs.Lazy.{view, asks}
use Rattle.cow_model.specs.declared.statement.Verb.TheVariants.{First}
use Rattle.cow_lazy.proofs.ask.first.Given as goal

-- what was asked about shows nothing
abbrev pub invariant-loop-x : goal.invariant-loop-x
invariant-loop-x g l =
    let rule = goal.Rule-dyn g (l.rule.vtable, l.rule.value) in
    let began = goal.Rule-dyn g (l.fn.rule.vtable, l.fn.rule.value) in
    record {
      rest : view l.shape (map g.T.Item.plain (drop l.x-index l.items)) ≡ view l.shape (map g.T.Item.plain l.items);
      h : l.h ≡ l.fn.h;
      shape : rule.shape_of l.rule.value ≡ l.shape;
      asked : raised (asks (map g.T.Item.plain (drop l.x-index l.items)) l.shape First) (rule.asked_of l.rule.value) ≡ raised (asks (map g.T.Item.plain l.items) l.shape First) (began.asked_of l.fn.rule.value);
    }
