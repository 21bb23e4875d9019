use Rattle.std.proofs.Common.{◌≡◌, ℕ, ◌+◌, ◌-◌, ◌<◌, ◌≤◌, length, get_or}
use Rattle.cow_members.specs.Members.{AreSound}
use Rattle.cow_members.proofs.order.reverse.Given as goal

abbrev pub invariant-loop-i : goal.invariant-loop-i
invariant-loop-i g l =
    record {
      sound : AreSound g.K.Item.plain g.K.Key.hash_of g.K.Item.IsSettled l.members;
      count : length l.members.keys.items ≡ length l.initial.members.keys.items;
      capacity : l.members.keys.capacity ≡ l.initial.members.keys.capacity;
      low : (k : ℕ) (d : g.row.K.Denot) → k < l.i → get_or l.members.keys.items k d ≡ get_or l.initial.members.keys.items (l.len - 1 - k) d;
      high : (k : ℕ) (d : g.row.K.Denot) → k < l.i → get_or l.members.keys.items (l.len - 1 - k) d ≡ get_or l.initial.members.keys.items k d;
      middle : (k : ℕ) (d : g.row.K.Denot) → l.i ≤ k → k + l.i < l.len → get_or l.members.keys.items k d ≡ get_or l.initial.members.keys.items k d;
    }
