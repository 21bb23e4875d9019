use Rattle.std.proofs.Common.{◌≡◌, ◌≤◌, ◌*◌, ◌+◌, ◌++◌, Bool, map, take, All, vec_len, vec_capacity}
use Rattle.cow_champ.specs.Node.{hashed, seen_pair}
use Rattle.cow_champ.specs.Spending.{Spends}
use Rattle.cow_dict.specs.Dictionaries.{kept_by}
use Rattle.cow_model.specs.Canon.{count_where}
use Rattle.cow_model.specs.declared.plain.Literal.{Literal}
use Rattle.cow_model.specs.declared.value.Pair.{Pair}
use Rattle.cow_treedict.specs.Trees.{IsHashed}
use Rattle.cow_treedict.proofs.filtering.copy_kept.Given as goal

abbrev pub invariant-loop-t : goal.invariant-loop-t
invariant-loop-t g l =
    record {
      hashes : All (IsHashed g.K.Key.hash_of g.K.Item.plain) l.into.items;
      same : (p : Literal → Bool) → ((k : _) (b : Bool) → goal.F-post g l.keep k b → b ≡ p (g.K.Item.plain k.now))
          → map (hashed g.K.Item.plain g.V.Item.plain) l.into.items ≡ map (hashed g.K.Item.plain g.V.Item.plain) l.fn.into.items ++ kept_by p (map (seen_pair g.K.Item.plain g.V.Item.plain) (take l.t-index l.t-items));
      fewer : (t : Pair → Bool) → count_where t (map (hashed g.K.Item.plain g.V.Item.plain) l.into.items) ≤ count_where t (map (hashed g.K.Item.plain g.V.Item.plain) l.fn.into.items) + count_where t (map (seen_pair g.K.Item.plain g.V.Item.plain) (take l.t-index l.t-items));
      most : vec_len l.into ≤ vec_len l.fn.into + l.t-index;
      room : vec_capacity l.fn.into ≤ vec_capacity l.into;
      spent : Spends (2 * l.t-index) ((g.K.Item.WEIGHT + g.V.Item.WEIGHT) * l.t-index) l.fn.h l.h;
    }
