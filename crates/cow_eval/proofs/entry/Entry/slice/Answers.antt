use Rattle.std.proofs.Common.{arith, w64}
use Rattle.std.proofs.lemmas.Int.{to_z-of_z}
use Rattle.cow_model.proofs.Slices.{slice-bare}
use Rattle.cow_eval.proofs.entry.Entry.slice.Goals as goal

pub returns-clause-bare : goal.returns-clause-bare
returns-clause-bare g c = λ bare.
    let none = rw (← c.self.view_is) at bare in
    let said = rw (to_z-of_z w64 c.args.i c.ranges.i, to_z-of_z w64 c.args.j c.ranges.j) at c.in_ok-slice.ensures.answer in
    let cut = slice-bare g.V.Shown.counted c.args.i c.args.j (g.V.Shown.seen c.self.inside.value).value (g.V.Shown.seen c.in_ok-slice.slice).value said (omega (arith, none)) in
    let hidden = c.in_ok-slice.ensures.hidden in
    omega (arith, cut, hidden, none)
