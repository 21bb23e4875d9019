use Rattle.std.proofs.Common.{◌≡◌, ◌≤◌, ◌||◌, Bool, length, take}
use Rattle.cow_members.specs.Members.{listed as keys_of}
use Rattle.cow_model.specs.Members.{member}
use Rattle.cow_model.specs.Pairs.{value_in}
use Rattle.cow_model.specs.declared.plain.Literal.{Literal}
use Rattle.cow_dict.specs.Dictionaries.{Balances, only_if}
use Rattle.cow_dict.specs.Storages.{AreWhole, listed}
use Rattle.cow_dict.proofs.algebra.retain.Given as goal

abbrev pub invariant-retain : goal.invariant-retain
invariant-retain g l =
    record {
      whole : AreWhole g.K.Item.plain g.K.Key.hash_of g.K.Item.IsSettled g.V.Item.IsSettled l.pairs;
      within : l.i ≤ length l.pairs.members.keys.items;
      front : take l.i (keys_of g.K.Item.plain l.pairs.members) ≡ take l.i (keys_of g.K.Item.plain l.initial.pairs.members);
      same : (p : Literal → Bool) → ((k : _) (b : Bool) → goal.F-post g l.keep k b → b ≡ p (g.K.Item.plain k.now)) → (q : Literal)
          → value_in q (listed g.K.Item.plain g.V.Item.plain l.pairs)
          ≡ only_if (member q (take l.i (keys_of g.K.Item.plain l.initial.pairs.members)) || p q) (value_in q (listed g.K.Item.plain g.V.Item.plain l.initial.pairs));
      count : length l.pairs.members.keys.items ≤ length l.initial.pairs.members.keys.items;
      capacity : l.pairs.values.capacity ≡ l.initial.pairs.values.capacity;
      balance : Balances g.K.Item.is_counted g.V.Item.is_counted g.K.Item.plain g.V.Item.plain l.initial.pairs l.pairs l.initial.h l.h;
      never_less : l.initial.h.spare ≤ l.h.spare;
      copied : l.h.copied ≡ l.initial.h.copied;
    }

abbrev pub decreases-retain : goal.decreases-retain
decreases-retain g l = l.i
