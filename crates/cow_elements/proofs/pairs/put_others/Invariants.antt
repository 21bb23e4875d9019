use Rattle.std.proofs.Common.{◌≡◌, ◌++◌, map, take}
use Rattle.std.specs.Io.{StartsWith}
use Rattle.std.specs.List.{flat_map}
use Rattle.cow_elements.specs.Shared.{pair_of}
use Rattle.cow_model.specs.Printed.{behind_comma, pair_text}
use Rattle.cow_elements.proofs.pairs.put_others.Given as goal

-- the pairs so far stand behind the text
abbrev pub invariant-loop-pair : goal.invariant-loop-pair
invariant-loop-pair g l =
    (l.text.items ≡ l.fn.text.items ++ flat_map behind_comma (map (λ p. pair_text (pair_of (g.T.Item.plain p.0.now) (g.T.Item.plain p.1.now))) (take l.pair-index l.pairs)))
    × StartsWith l.text.items l.fn.text.items
