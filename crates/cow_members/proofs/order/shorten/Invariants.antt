use Rattle.std.proofs.Common.{◌≡◌, ◌≤◌, length, map, take}
use Rattle.cow_members.specs.Members.{AreSound}
use Rattle.cow_row.specs.Words.{Balances}
use Rattle.cow_members.proofs.order.shorten.Given as goal

abbrev pub invariant-shorten : goal.invariant-shorten
invariant-shorten g l =
    record {
      sound : AreSound g.K.Item.plain g.K.Key.hash_of g.K.Item.IsSettled l.members;
      capacity : l.members.keys.capacity ≡ l.initial.members.keys.capacity;
      within : l.count ≤ length l.members.keys.items;
      same : map g.K.Item.plain l.members.keys.items ≡ take (length l.members.keys.items) (map g.K.Item.plain l.initial.members.keys.items);
      balance : Balances g.K.Item.plain g.K.Item.is_counted l.initial.members.keys l.members.keys l.initial.h l.h;
      never_less : l.initial.h.spare ≤ l.h.spare;
      copied : l.h.copied ≡ l.initial.h.copied;
    }

abbrev pub decreases-shorten : goal.decreases-shorten
decreases-shorten g l = length l.members.keys.items
