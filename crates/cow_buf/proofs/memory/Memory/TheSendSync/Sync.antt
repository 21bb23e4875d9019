-- A memory may be shared by threads where its values may.
use denote.RattleType.{RattleType}
use denote.Struct.Owning.{shape, to}
use denote.Param.Send.{IsSync, struct_sync, sendable}
use Rattle.cow_buf.specs.contracts.memory.Memory.{the_row, the_type}
use Rattle.cow_buf.proofs.Keyless.{block_common}

pub sync : (T : RattleType) → IsSync T → IsSync (the_row T)
sync T syncs = let O = the_type T in record { shared = λ m b at κ. ((struct_sync (shape O) (search sendable, tt)).shared (to O m) b at κ, block_common T syncs m.start m.places κ) }
