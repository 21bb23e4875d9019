use Rattle.std.proofs.Common.{◌≡◌, ◌++◌, drop, map}
use Rattle.std.specs.Io.{StartsWith}
use Rattle.std.specs.List.{flat_map}
use Rattle.cow_model.specs.Printed.{behind_comma}
use Rattle.cow_print.proofs.printed.put_others.Given as goal

-- the text so far, and then the items to come
abbrev pub invariant-loop-item : goal.invariant-loop-item
invariant-loop-item g l =
    (l.text.items ++ flat_map behind_comma (map g.T.Printed.form (drop l.item-index l.items)) ≡ l.fn.text.items ++ flat_map behind_comma (map g.T.Printed.form l.items))
    × StartsWith l.text.items l.fn.text.items
