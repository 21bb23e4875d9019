use Rattle.std.proofs.Common.{◌≡◌, ◌≤◌, ◌*◌, ◌+◌, map, take, All}
use Rattle.cow_champ.specs.Node.{pair_of, BothSettled}
use Rattle.cow_champ.specs.Spending.{Spends}
use Rattle.cow_champ.proofs.rows.copy_entries.Given as goal

abbrev pub invariant-loop-e : goal.invariant-loop-e
invariant-loop-e g l =
    let plain = pair_of g.K.Item.plain g.V.Item.plain in
    (map plain l.copies.items ≡ map plain (take l.e-index l.row.items)) × All (BothSettled g.K.Item.IsSettled g.V.Item.IsSettled) l.copies.items × Spends (2 * l.e-index) ((g.K.Item.WEIGHT + g.V.Item.WEIGHT) * l.e-index) l.fn.h l.h
