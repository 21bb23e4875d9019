-- A `&` to a memory holds what its block lends. Assumes `Logic`.
use mathlib.Core.List.{[], ◌++◌}
use base.Fml.{Incl-trans}
use contract.BorrowLft.{meet_⊑_left}
use denote.RattleType.{RattleType}
use denote.Param.Laws.{Laws}
use denote.Param.Shared.{copy_shared}
use denote.Shares.{Shares-less}
use denote.Struct.Field.{RawPtr-field}
use denote.Struct.Laws.{RawPtr-copy}
use denote.Struct.Lending.{of_Lends}
use Rattle.cow_buf.specs.contracts.memory.Memory as memory
use Rattle.cow_buf.proofs.Lending.{block_laws, block_lent}
use Rattle.cow_buf.proofs.memory.Memory.TheLaw.Statement.{statement}

pub shares : (T : RattleType) (L : Laws T) → statement T L
shares T L = of_Lends (memory.struct T) (memory.the_codes T.Denot T.coded) (memory.the_heap T) (memory.the_lent T) (λ m _. block_laws T L.shr_laws m.start m.places) (copy_shared RawPtr-field RawPtr-copy, tt) (λ M 𝓤 𝓛 m _.
    let l = (memory.the_row T).lives in block_lent T 𝓛 l (Shares-less 𝓛 T T.lives l (Incl-trans (meet_⊑_left (T.lives ++ []) _) (meet_⊑_left T.lives [])) (L.shares 𝓛)) m.start m.places)
