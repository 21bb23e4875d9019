-- A memory may go to another thread where its values may.
use denote.RattleType.{RattleType}
use denote.Struct.Struct.{exits_of}
use denote.Struct.Owning.{shape, fields, to}
use denote.Param.Send.{IsSend, AllSend, owning_send, struct_send, sendable}
use Rattle.std_alloc.proofs.SendSync.{quiet}
use Rattle.cow_buf.specs.contracts.memory.Memory.{the_row, the_type}
use Rattle.cow_buf.proofs.Keyless.{block_keyless}

pub send : (T : RattleType) → IsSend T → IsSend (the_row T)
send T sends = let O = the_type T in let words : AllSend (fields O) = (search sendable, tt) in
    owning_send O words (λ m. block_keyless T sends m.start m.places) (λ k. quiet (to O) (exits_of k (fields O)) ((struct_send (shape O) words).leaving k))
