-- What a block owns and lends names no thread's key, where its values may cross threads.
use Rattle.std.proofs.Common.{ℕ, ◌+◌, List, [], ◌∷◌, length, Option, Some, None}
use Rattle.std.proofs.Crossing as heap
use Rattle.std.specs.Mem.{type_size}
use base.Fraction.{full_share}
use base.Shift.{Keyless}
use mir.Raw.{raw}
use mir.Syntax.{ty_array}
use denote.Memory.{lone}
use denote.RattleType.{RattleType}
use denote.RawPtr.{Ptr, block_ptr, null_ptr}
use denote.Param.Send.{IsSend, IsSync, Common, part_keyless}
use Rattle.cow_buf.specs.Block.{row_owns, block_owns, row_lends, block_lends}

module _ (R : RattleType) where
  -- places may cross where their values may be sent
  row_keyless : IsSend R → (b at : ℕ) (ps : List (Option R.Denot)) → Keyless (row_owns R b at ps)
  row_keyless sends b at [] = tt
  row_keyless sends b at (None ∷ ps) = (tt, row_keyless sends b (at + type_size R) ps)
  row_keyless sends b at (Some x ∷ ps) = (part_keyless R sends full_share x b at, row_keyless sends b (at + type_size R) ps)

  -- so may the whole block
  pub block_keyless : IsSend R → (start : Ptr) (ps : List (Option R.Denot)) → Keyless (block_owns R start ps)
  block_keyless sends null_ptr ps = tt
  block_keyless sends (block_ptr b at) ps = (tt, (row_keyless sends b at ps, λ a. heap.frees.frees a (raw (ty_array (lone R.mir) (length ps))) (block_ptr b at)))

  -- lent places may be seen by more threads where their values may be shared
  row_common : IsSync R → (b at : ℕ) (ps : List (Option R.Denot)) → Common (row_lends R b at ps)
  row_common syncs b at [] κ = tt
  row_common syncs b at (None ∷ ps) κ = (tt, row_common syncs b (at + type_size R) ps κ)
  row_common syncs b at (Some x ∷ ps) κ = (syncs.shared x b at κ, row_common syncs b (at + type_size R) ps κ)

  -- so may a lent block
  pub block_common : IsSync R → (start : Ptr) (ps : List (Option R.Denot)) → Common (block_lends R start ps)
  block_common syncs null_ptr ps κ = tt
  block_common syncs (block_ptr b at) ps κ = (tt, row_common syncs b at ps κ)
