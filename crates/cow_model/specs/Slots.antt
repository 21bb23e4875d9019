-- What the bit maps and rows of a trie's node stand for.
use Rattle.std.specs.Prelude.{◌≡◌, ℕ, if◌then◌else◌, ◌+◌, ◌≤◌, ◌==◌, List, slice_get}
use Rattle.std.specs.Option.{option_map_or}
use Rattle.std.specs.Int.{bit_at}
use Rattle.std.proofs.Common.{zero, suc}
use Rattle.cow_model.specs.Canon.{Tree, Slot, free, entry, child}
use Rattle.cow_model.specs.declared.value.Pair.{Pair}

-- how many of the bits below a place are set
unfoldable pub rank : ℕ → ℕ → ℕ
rank n zero = 0
rank n (suc d) = rank n d + bit_at n d

-- the slot at a digit: members of `data_map` have an entry, members of `node_map` a child
unfoldable pub slot_at : ℕ → ℕ → List Pair → List Tree → ℕ → Slot
slot_at data_map node_map es cs d =
    if bit_at data_map d == 1
    then option_map_or entry (slice_get es (rank data_map d)) free
    else (if bit_at node_map d == 1 then option_map_or child (slice_get cs (rank node_map d)) free else free)

-- the rows have as many places as the maps have members, and no digit is in both
pub record Fits (data_map node_map n m : ℕ) : Type 0 where
  pub entries : rank data_map 32 ≡ n
  pub children : rank node_map 32 ≡ m
  pub apart : (d : ℕ) → bit_at data_map d + bit_at node_map d ≤ 1
