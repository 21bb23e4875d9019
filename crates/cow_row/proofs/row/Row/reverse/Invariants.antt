use Rattle.std.proofs.Common.{◌≡◌, ℕ, ◌+◌, ◌-◌, ◌<◌, ◌≤◌, length, get_or}
use Rattle.cow_row.proofs.row.Row.reverse.Given as goal

abbrev pub invariant-loop-i : goal.invariant-loop-i
invariant-loop-i g l =
    record {
      count : length l.self.items ≡ length l.fn.self.items;
      front : l.self.front ≡ l.fn.self.front;
      capacity : l.self.capacity ≡ l.fn.self.capacity;
      low : (k : ℕ) (d : g.row.T.Denot) → k < l.i → get_or l.self.items k d ≡ get_or l.fn.self.items (l.len - 1 - k) d;
      high : (k : ℕ) (d : g.row.T.Denot) → k < l.i → get_or l.self.items (l.len - 1 - k) d ≡ get_or l.fn.self.items k d;
      middle : (k : ℕ) (d : g.row.T.Denot) → l.i ≤ k → k + l.i < l.len → get_or l.self.items k d ≡ get_or l.fn.self.items k d;
    }
