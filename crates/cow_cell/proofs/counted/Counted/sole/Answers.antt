use Rattle.std.proofs.Common.{◌+◌, ◌≤◌, ◌^◌, IfNone, refl, arith, rules}
use Rattle.cow_cell.proofs.Turns.{found_one, found_more}
use Rattle.cow_cell.proofs.counted.Counted.sole.Goals as goal

pub returns : goal.returns
returns g c =
    let told = c.unique.ensures.told in
    let out : IfNone c.unique.result (c.h.inside.spare + 2 ≤ 2 ^ 62) = search rules in (
      refl,
      record {
        writes_back = tt;
        value = told.1;
        found = told.2;
        one = found_one _ _ c.unique.result (omega (arith, c.h.invariant.0, told.4));
        more = found_more _ _ c.unique.result out;
        purse = search rules;
      },
    )
