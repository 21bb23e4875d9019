use Rattle.std.proofs.Common.{◌≡◌, ◌++◌, drop, map}
use Rattle.std.specs.Io.{StartsWith}
use Rattle.std.specs.List.{flat_map}
use Rattle.cow_model.specs.Printed.{atom_text, behind_comma}
use Rattle.cow_elements.proofs.listed.put_others.Given as goal

-- the text so far, and then the elements to come
abbrev pub invariant-loop-place : goal.invariant-loop-place
invariant-loop-place g l =
    (l.text.items ++ flat_map behind_comma (map atom_text (drop l.place (g.L.Listed.elements l.list))) ≡ l.fn.text.items ++ flat_map behind_comma (map atom_text (drop 1 (g.L.Listed.elements l.list))))
    × StartsWith l.text.items l.fn.text.items
