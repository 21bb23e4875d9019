use Rattle.std.proofs.Common.{◌≡◌, ◌-◌, length, ◌≤◌, sym, ap, ◌∙◌, arith}
use Rattle.cow_row.specs.Places.{somes, packed}
use Rattle.cow_row.specs.RowView.{RowView}
use Rattle.cow_row.proofs.Packed.{is_packed, somes-packed}
use Rattle.cow_row.proofs.Gaps.{poured}
use Rattle.cow_row.proofs.Whole.{all_run, clear_past}
use Rattle.cow_row.proofs.row.Row.reserve.Goals as goal

pub drain_into-requires-clause-run : goal.drain_into-requires-clause-run
drain_into-requires-clause-run g c =
    let same = c.self-2.view_is ∙ c.to_front-2.ensures in
    let start : c.self-2.inside.front ≡ 0 = ap (λ (r : RowView g.row.T.Denot). r.front) same in
    rw start at (all_run c.self-2.inside.buf c.self-2.inside.front c.self-2.inside.len c.self-2.invariant)

pub drain_into-requires-clause-rest : goal.drain_into-requires-clause-rest
drain_into-requires-clause-rest g c = λ i low high.
    let same = c.self-2.view_is ∙ c.to_front-2.ensures in
    let start : c.self-2.inside.front ≡ 0 = ap (λ (r : RowView g.row.T.Denot). r.front) same in
    clear_past c.self-2.inside.buf c.self-2.inside.front c.self-2.inside.len c.self-2.invariant i (omega (arith, start, low)) high

pub invariant_of-self : goal.invariant_of-self
invariant_of-self g c =
    let p = c.self-2.invariant in
    let cs = c.self-2.inside.buf in
    let n = c.self-2.inside.len in
    let same = c.self-2.view_is ∙ c.to_front-2.ensures in
    let start : c.self-2.inside.front ≡ 0 = ap (λ (r : RowView g.row.T.Denot). r.front) same in
    let wide = ap (λ (r : RowView g.row.T.Denot). r.capacity) same in
    let front = ap (λ (r : RowView g.row.T.Denot). r.front) c.self.view_is in
    let room = ap (λ (r : RowView g.row.T.Denot). r.capacity) c.self.view_is in
    let short : length cs ≤ c.args.n = omega (arith, wide, start, front, room, c.self.invariant.fits, c.capacity-2.ensures) in
    let places : c.drain_into.new.other ≡ packed 0 (somes cs) (c.args.n - n) = poured cs c.drain_into.new.other c.self-2.inside.front n c.args.n p start (rw c.in_ok-wider.ensures at c.drain_into.ensures.came) short in
    rw (start, c.replace.ensures.after) (is_packed 0 (somes cs) (c.args.n - n) n c.drain_into.new.other places (sym p.count) (omega (arith, p.count, p.fits, short, c.requires)))

pub returns-clause-items : goal.returns-clause-items
returns-clause-items g c =
    let p = c.self-2.invariant in
    let cs = c.self-2.inside.buf in
    let n = c.self-2.inside.len in
    let same = c.self-2.view_is ∙ c.to_front-2.ensures in
    let start : c.self-2.inside.front ≡ 0 = ap (λ (r : RowView g.row.T.Denot). r.front) same in
    let wide = ap (λ (r : RowView g.row.T.Denot). r.capacity) same in
    let front = ap (λ (r : RowView g.row.T.Denot). r.front) c.self.view_is in
    let room = ap (λ (r : RowView g.row.T.Denot). r.capacity) c.self.view_is in
    let short : length cs ≤ c.args.n = omega (arith, wide, start, front, room, c.self.invariant.fits, c.capacity-2.ensures) in
    let places : c.drain_into.new.other ≡ packed 0 (somes cs) (c.args.n - n) = poured cs c.drain_into.new.other c.self-2.inside.front n c.args.n p start (rw c.in_ok-wider.ensures at c.drain_into.ensures.came) short in
    rw (c.replace.ensures.after, places) (somes-packed 0 (somes cs) (c.args.n - n)) ∙ ap (λ (r : RowView g.row.T.Denot). r.items) same
