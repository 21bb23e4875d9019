use Rattle.std.proofs.Common.{◌≡◌, ◌+◌, ◌-◌, ◌^◌, min, max, refl, arith}
use Rattle.cow_row.proofs.row.copy_run.Goals as goal

pub returns-clause-units : goal.returns-clause-units
returns-clause-units g c =
    let units = rw c.split.ensures.part at c.replace_with-rest.ensures.1.1.1.1.0 in
    rw (c.note.ensures, c.join.ensures.sum, c.split.ensures.rest, ← c.run.ensures) (omega (arith, units, c.requires.spare))

pub returns-clause-copied : goal.returns-clause-copied
returns-clause-copied g c =
    let n = c.args.h.now.copied in
    let none = rw c.split.ensures.part at c.replace_with-rest.ensures.1.1.1.1.1 in
    let same : max n (min (n + 0) (2 ^ 64 - 1)) ≡ n = omega arith in
    rw (c.note.ensures, c.join.ensures.sum, none, c.split.ensures.rest, same, c.WEIGHT.ensures) refl
