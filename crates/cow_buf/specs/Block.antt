-- What the owner of a block owns and lends, at values of the row R.
use Rattle.std.specs.Prelude.{ℕ, ◌+◌, ◌*◌, ◌^◌, List, [], ◌∷◌, length, Option, Some, None}
use Rattle.std.specs.Mem.{type_size}
use Rattle.std.specs.Global.{Global}
use Rattle.std_heap.specs.contracts.GlobalAllocator.TheImpl.{ghosts}
use base.Fraction.{full_share}
use base.Fml.{Lft, Fml, ftrue, ffalse, fsep, fex, flt, froom}
use mir.Raw.{raw}
use mir.Syntax.{ty_array}
use denote.RattleType.{RattleType}
use denote.Memory.{lone, part_at, shared_of}
use denote.RawPtr.{Ptr, block_ptr, null_ptr}
use denote.Sharing.{nothing, said, beside}

module _ (R : RattleType) where
  -- a filled place, `at` bytes into block b, has its value, and an empty one the bytes for a value
  abbrev pub place_owns : ℕ → ℕ → Option R.Denot → Fml
  place_owns b at None = froom (raw (lone R.mir)) b at
  place_owns b at (Some x) = part_at R full_share x b at

  -- the places of a row lie side by side, the first `at` bytes into the block
  abbrev pub row_owns : ℕ → ℕ → List (Option R.Denot) → Fml
  row_owns b at [] = ftrue
  row_owns b at (p ∷ ps) = fsep (place_owns b at p) (row_owns b (at + type_size R) ps)

  -- a row takes fewer than 2 ^ 63 bytes
  abbrev pub bounded : List (Option R.Denot) → Fml
  bounded ps = flt (length ps * type_size R) (2 ^ 63)

  -- the right to free a block of n places
  abbrev pub frees : Ptr → ℕ → Fml
  frees start n = fex Global (λ heap. ghosts.dealloc_token heap (raw (ty_array (lone R.mir) n)) start)

  -- the owner of a block has its places, and the right to free it
  abbrev pub block_owns : Ptr → List (Option R.Denot) → Fml
  block_owns null_ptr ps = ffalse
  block_owns (block_ptr b at) ps = fsep (bounded ps) (fsep (row_owns b at ps) (frees (block_ptr b at) (length ps)))

  -- a filled place lends its value, and an empty one nothing
  abbrev pub place_lends : ℕ → ℕ → Option R.Denot → Lft → Fml
  place_lends b at None = nothing
  place_lends b at (Some x) = shared_of R x b at

  -- a row lends what its places lend
  abbrev pub row_lends : ℕ → ℕ → List (Option R.Denot) → Lft → Fml
  row_lends b at [] = nothing
  row_lends b at (p ∷ ps) = beside (place_lends b at p) (row_lends b (at + type_size R) ps)

  -- the owner of a block lends its row, which is bounded
  abbrev pub block_lends : Ptr → List (Option R.Denot) → Lft → Fml
  block_lends null_ptr ps = said ffalse
  block_lends (block_ptr b at) ps = beside (said (bounded ps)) (row_lends b at ps)
