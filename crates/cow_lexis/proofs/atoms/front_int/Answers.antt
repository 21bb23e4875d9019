use Rattle.std.proofs.Common.{◌≡◌, ◌-◌, ◌∙◌, length, take, drop, arith, rules}
use Rattle.std.proofs.lemmas.Int.{to_z-of_z}
use Rattle.std.proofs.lemmas.List.{take_all, length-drop}
use Rattle.cow_lexis.proofs.TokenIntegers.{front_int_ends, front_int_goes_on, front_no_int}
use Rattle.cow_lexis.proofs.atoms.front_int.Goals as goal

pub returns-in_err-x : goal.returns-in_err-x
returns-in_err-x c = rw c.from_residual.ensures (front_no_int c.args.line.now c.in_err-x.ensures.value)

pub returns-in_err-behind : goal.returns-in_err-behind
returns-in_err-behind c =
    let line = c.args.line.now in
    let n = c.in_ok-x.len in
    let whole : take (length line - n) (drop n line) ≡ drop n line = take_all (length line - n) (drop n line) (omega (arith, length-drop n line)) in
    rw c.from_residual-in_err-behind.ensures (front_int_goes_on line c.in_ok-x.x n _ c.in_ok-x.ensures.value whole c.in_err-behind.ensures)

pub returns : goal.returns
returns c =
    let line = c.args.line.now in
    let n = c.in_ok-x.len in
    let whole : take (length line - n) (drop n line) ≡ drop n line = take_all (length line - n) (drop n line) (omega (arith, length-drop n line)) in
    let ends = front_int_ends line c.in_ok-x.x n _ c.in_ok-x.ensures.value whole c.in_ok-behind.ensures.0 in
    (search (rules, to_z-of_z, ends.0), c.in_ok-behind.ensures.1 ∙ ends.1)
