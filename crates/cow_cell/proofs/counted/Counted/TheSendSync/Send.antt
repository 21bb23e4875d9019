-- A handle may go to another thread, where its value may be sent and shared.
use denote.RattleType.{RattleType}
use denote.Struct.Struct.{exits_of}
use denote.Struct.Owning.{shape, fields, to}
use denote.Param.Send.{IsSend, IsSync, AllSend, owning_send, struct_send, sendable}
use Rattle.std_alloc.proofs.SendSync.{quiet}
use Rattle.std_heap.proofs.Global.TheSendSync as handle
use Rattle.cow_cell.specs.declared.units.Stock.{Ghosts}
use Rattle.cow_cell.specs.contracts.counted.Counted.{the_row, the_type}
use Rattle.cow_cell.proofs.Keyless.{cell_keyless}

pub send : (T Q : RattleType) (g : Ghosts Q.Denot) → IsSend T → IsSync T → IsSend (the_row T Q g)
send T Q g s y = let O = the_type T Q g in let all : AllSend (fields O) = (search sendable, (handle.the_field_send, (record { owned = λ d vs vss. (tt, tt); leaving = λ k f vs. tt }, tt))) in
    owning_send O all (λ d. cell_keyless T s y g.name d.alloc d.at d.alone d.value) (λ k. quiet (to O) (exits_of k (fields O)) ((struct_send (shape O) all).leaving k))
