-- What contracts see of a value of any kind.
use Rattle.cow_kinds.specs.declared.value.Value.{Value}
use Rattle.cow_kinds.specs.declared.value.Value.TheVariants as variants
use Rattle.cow_value.specs.Seen.{Seen}
use Rattle.kind_array.specs.Values.{array, slice}
use Rattle.kind_deque.specs.Values.{deque}
use Rattle.kind_dict.specs.Values.{dict}
use Rattle.kind_heap.specs.Values.{heap}
use Rattle.kind_odict.specs.Values.{odict}
use Rattle.kind_oset.specs.Values.{oset}
use Rattle.kind_set.specs.Values.{set}

-- kind by kind
abbrev pub seen : {T Q : Type 0} → Value T Q → Seen
seen (variants.Array a) = array a.held
seen (variants.Slice s) = slice s.held
seen (variants.Deque q) = deque q.held
seen (variants.Set s) = set s.held
seen (variants.Dict d) = dict d.held
seen (variants.OSet s) = oset s.held
seen (variants.ODict d) = odict d.held
seen (variants.Heap s) = heap s.held
