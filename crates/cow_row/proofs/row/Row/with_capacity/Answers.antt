use Rattle.std.proofs.Common.{◌≡◌, ◌-◌, arith, refl, []}
use Rattle.std.proofs.lemmas.List.{length-replicate}
use Rattle.cow_row.proofs.Packed.{is_packed, somes-none}
use Rattle.cow_row.proofs.row.Row.with_capacity.Goals as goal

pub invariant_of-result : goal.invariant_of-result
invariant_of-result g c = is_packed 0 [] c.args.n 0 c.in_ok-buf.buf c.in_ok-buf.ensures refl (omega (arith, c.requires))

pub returns : goal.returns
returns g c = let all : c.args.n - 0 ≡ c.args.n = omega arith in rw (c.in_ok-buf.ensures, somes-none, length-replicate, all) refl
