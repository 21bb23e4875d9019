-- A handle may be shared by threads, where its value may be sent and shared.
use denote.RattleType.{RattleType}
use denote.Struct.Owning.{shape, to}
use denote.Param.Send.{IsSend, IsSync, struct_sync, sendable}
use Rattle.std_heap.proofs.Global.TheSendSync as handle
use Rattle.cow_cell.specs.declared.units.Stock.{Ghosts}
use Rattle.cow_cell.specs.contracts.counted.Counted.{the_row, the_type}
use Rattle.cow_cell.proofs.Keyless.{seen_keyless}

pub sync : (T Q : RattleType) (g : Ghosts Q.Denot) → IsSend T → IsSync T → IsSync (the_row T Q g)
sync T Q g s y = record { shared = λ d b o κ. ((struct_sync (shape (the_type T Q g)) (search sendable, (handle.the_field_sync, (record { shared = λ e b' o' κ'. search (tt) }, tt)))).shared (to (the_type T Q g) d) b o κ, seen_keyless T s y g.name d.alloc d.at d.alone d.value κ) }
