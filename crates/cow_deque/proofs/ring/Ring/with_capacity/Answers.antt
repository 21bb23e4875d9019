use Rattle.std.proofs.Common.{◌≡◌, length, refl, arith, ◌∙◌, []}
use Rattle.std.proofs.lemmas.List.{length-replicate}
use Rattle.cow_row.specs.Places.{packed}
use Rattle.cow_deque.specs.Rings.{turned}
use Rattle.cow_deque.proofs.Turns.{turned-none}
use Rattle.cow_deque.proofs.Rings.{is_ring}
use Rattle.cow_deque.proofs.ring.Ring.with_capacity.Goals as goal

pub invariant_of-result : goal.invariant_of-result
invariant_of-result g c =
    let e : turned 0 c.in_ok-buf.buf ≡ packed 0 [] c.args.n = turned-none c.in_ok-buf.buf ∙ c.in_ok-buf.ensures in
    let long : length c.in_ok-buf.buf ≡ c.args.n = rw (c.in_ok-buf.ensures, length-replicate) refl in
    (is_ring c.in_ok-buf.buf 0 0 c.args.n [] e refl (omega arith) (omega (arith, long, c.requires))).0

pub returns : goal.returns
returns g c =
    let e : turned 0 c.in_ok-buf.buf ≡ packed 0 [] c.args.n = turned-none c.in_ok-buf.buf ∙ c.in_ok-buf.ensures in
    let long : length c.in_ok-buf.buf ≡ c.args.n = rw (c.in_ok-buf.ensures, length-replicate) refl in
    rw ((is_ring c.in_ok-buf.buf 0 0 c.args.n [] e refl (omega arith) (omega (arith, long, c.requires))).1, long) refl
