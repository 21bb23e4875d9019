use Rattle.std.proofs.Common.{◌≡◌, ◌+◌, ◌*◌, ◌≤◌, map, take}
use Rattle.std.specs.List.{sum_by}
use Rattle.cow_members.specs.Members.{listed as keys_of}
use Rattle.cow_model.specs.Members.{last, union}
use Rattle.cow_model.specs.Pairs.{value_in}
use Rattle.cow_model.specs.declared.plain.Literal.{Literal}
use Rattle.cow_dict.specs.Dictionaries.{Balances, merged, takes, units}
use Rattle.cow_dict.specs.Storages.{AreWhole, listed}
use Rattle.cow_dict.proofs.algebra.merge_all.Given as goal

abbrev pub invariant-loop-i : goal.invariant-loop-i
invariant-loop-i g l =
    record {
      whole : AreWhole g.K.Item.plain g.K.Key.hash_of g.K.Item.IsSettled g.V.Item.IsSettled l.pairs;
      keys : keys_of g.K.Item.plain l.pairs.members ≡ union last (keys_of g.K.Item.plain l.initial.pairs.members) (map g.K.Item.plain (take l.i l.others.members.keys.items));
      same : (q : Literal) → value_in q (listed g.K.Item.plain g.V.Item.plain l.pairs)
          ≡ merged (takes l.rule) (value_in q (take l.i (listed g.K.Item.plain g.V.Item.plain l.others))) (value_in q (listed g.K.Item.plain g.V.Item.plain l.initial.pairs));
      capacity : l.pairs.values.capacity ≡ l.initial.pairs.values.capacity;
      balance : Balances g.K.Item.is_counted g.V.Item.is_counted g.K.Item.plain g.V.Item.plain l.initial.pairs l.pairs l.initial.h l.h;
      falls : l.initial.h.spare ≤ l.h.spare + sum_by (units g.K.Item.is_counted g.V.Item.is_counted) (take l.i (listed g.K.Item.plain g.V.Item.plain l.others));
      copied : l.h.copied ≤ l.initial.h.copied + (g.K.Item.WEIGHT + g.V.Item.WEIGHT) * l.i;
      kept : l.initial.h.copied ≤ l.h.copied;
    }
