use Rattle.std.proofs.Common.{◌≡◌, ℕ, ◌+◌, ◌≤◌, ◌⊎◌, inl, inr, ◌*◌, length, map, count_by, arith}
use Rattle.cow_model.specs.Purse.{Purse, Moves}
use Rattle.cow_model.specs.Flat.{copies}
use Rattle.cow_row.proofs.Runs.{append-run-plain, length-run-plain}
use Rattle.cow_array.proofs.slice.ArraySlice.append.Goals as goal

-- two steps of which one leaves the holder
one-of-two : (u v n : ℕ) (a b c : Purse) → Moves u n a b → Moves v 0 b c → v ≤ u → (b ≡ a) ⊎ (c ≡ b) → Moves u n a c
one-of-two u v n a b c m k h (inl e) = let w = rw e at k in record { falls = omega (arith, w.falls, h); rises = omega (arith, w.rises, h); copied = omega (arith, w.copied); kept = w.kept }
one-of-two u v n a b c m k h (inr e) = rw e m

pub returns-clause-items : goal.returns-clause-items
returns-clause-items g c =
    rw (← c.self.view_is)
    (append-run-plain g.T.Item.plain c.prepare_run.new.cell.value.items c.put_behind.new.row.items c.self.inside.cell.value.items c.in-Ok.from c.self.inside.from c.self.inside.count c.settle.new.self c.args.x
    (c.in-Ok.ensures.within) (rw c.only.ensures.value at c.put_behind.ensures.items) c.in-Ok.ensures.same c.settle.ensures.same)

last-stays : (a b : Purse) (m n : ℕ) (c : Purse) → (b ≡ a) ⊎ (m ≡ n) → (m ≡ n → c ≡ b) → (b ≡ a) ⊎ (c ≡ b)
last-stays a b m n c (inl e) f = inl e
last-stays a b m n c (inr e) f = inr (f e)

pub returns-clause-moved : goal.returns-clause-moved
returns-clause-moved g c =
    let xs = c.prepare_run.new.cell.value.items in
    let before = c.args.h.now in
    let between = c.prepare_run.new.h in
    let after = c.put_behind.new.h in
    let place = c.in-Ok.from + c.self.inside.count in
    let long = length-run-plain g.T.Item.plain c.self.inside.cell.value.items c.self.inside.from c.self.inside.count c.self.invariant.1 in
    let paid = rw c.only.ensures.value at c.put_behind.ensures.paid in
    let last = rw c.only.ensures.value at c.put_behind.ensures.last in
    rw (← c.self.view_is, long)
    (one-of-two (count_by g.T.Item.is_counted (map g.T.Item.plain c.self.inside.cell.value.items)) (count_by g.T.Item.is_counted (map g.T.Item.plain xs)) (copies c.self.inside.cell.alone (g.T.Item.WEIGHT * c.self.inside.count)) before between after
    c.in-Ok.ensures.moved paid c.in-Ok.ensures.units (last-stays before between (length xs) place after c.in-Ok.ensures.kept_or_renewed last))
