use Rattle.std.proofs.Common.{◌≡◌, ◌≤◌, ◌&&◌, ◌||◌, length, map, take}
use Rattle.cow_model.specs.Members.{member}
use Rattle.cow_model.specs.declared.plain.Literal.{Literal}
use Rattle.cow_members.specs.Members.{AreSound}
use Rattle.cow_row.specs.Words.{Balances}
use Rattle.cow_members.specs.Sets.{kept_by}
use Rattle.cow_members.proofs.algebra.retain.Given as goal

abbrev pub invariant-retain : goal.invariant-retain
invariant-retain g l =
    record {
      sound : AreSound g.K.Item.plain g.K.Key.hash_of g.K.Item.IsSettled l.members;
      capacity : l.members.keys.capacity ≡ l.initial.members.keys.capacity;
      within : l.i ≤ length l.members.keys.items;
      front : take l.i (map g.K.Item.plain l.members.keys.items) ≡ take l.i (map g.K.Item.plain l.initial.members.keys.items);
      same : (q : Literal) → member q (map g.K.Item.plain l.members.keys.items) ≡ (member q (map g.K.Item.plain l.initial.members.keys.items)
          && (member q (take l.i (map g.K.Item.plain l.initial.members.keys.items)) || kept_by l.keep (map g.K.Item.plain l.others.keys.items) q));
      count : length l.members.keys.items ≤ length l.initial.members.keys.items;
      balance : Balances g.K.Item.plain g.K.Item.is_counted l.initial.members.keys l.members.keys l.initial.h l.h;
      never_less : l.initial.h.spare ≤ l.h.spare;
      copied : l.h.copied ≡ l.initial.h.copied;
    }

abbrev pub decreases-retain : goal.decreases-retain
decreases-retain g l = l.i
