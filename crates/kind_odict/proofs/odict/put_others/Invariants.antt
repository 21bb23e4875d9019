use Rattle.std.proofs.Common.{◌≡◌, ◌++◌, drop, map}
use Rattle.std.specs.Io.{StartsWith}
use Rattle.std.specs.List.{flat_map}
use Rattle.cow_model.specs.Printed.{behind_comma, pair_text}
use Rattle.kind_odict.proofs.odict.put_others.Given as goal

-- the text so far, and then the pairs to come
abbrev pub invariant-loop-place : goal.invariant-loop-place
invariant-loop-place g l =
    (l.text.items ++ flat_map behind_comma (map pair_text (drop l.place l.d.value)) ≡ l.fn.text.items ++ flat_map behind_comma (map pair_text (drop 1 l.d.value)))
    × StartsWith l.text.items l.fn.text.items
