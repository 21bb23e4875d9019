use Rattle.std.proofs.Common.{ap, sym, ◌∙◌, refl}
use Rattle.std.specs.Prelude.{Some}
use Rattle.std.specs.Option.{option_map}
use Rattle.cow_lexis.specs.Cuts.{digits_len}
use Rattle.cow_lexis.proofs.FrontIntegers.{front_long, front_some}
use Rattle.cow_lexis.proofs.integers.front_positive.Goals as goal

pub returns-in_err-number-clause-value : goal.returns-in_err-number-clause-value
returns-in_err-number-clause-value c =
    rw (c.from_residual.ensures, front_long c.args.most c.args.line.now c.requires c.in_err-number.ensures) refl

pub returns-clause-value : goal.returns-clause-value
returns-clause-value c =
    let line = c.args.line.now in
    let said = front_some c.args.most line c.in_ok-number.number c.in_ok-number.len c.in_ok-number.ensures c.if-len-eq0.false c.if-line-eq48.false c.if-number-most.false in
    ap (λ n. Some (c.in_ok-number.number, n)) c.in_ok-number.ensures.count ∙ ap (option_map (λ n. (n, digits_len line))) (sym said)
