-- What a stock and a handle keep names no thread's key, so they may go to another thread.
use Rattle.std.proofs.Common.{ℕ, ◌+◌, Bool, true, false, [], ◌∷◌}
use mir.Raw.{raw}
use base.Fraction.{full_share}
use base.Shift.{Keyless}
use base.Fml.{Lft, GName}
use denote.RattleType.{RattleType}
use denote.Memory.{lone}
use denote.RawPtr.{Ptr, block_ptr, null_ptr}
use denote.Param.Send.{IsSend, IsSync, part_keyless, struct_send, recorded_send, sendable}
use denote.Struct.Struct.{Struct}
use denote.Struct.Declared.{shape}
use Rattle.std.specs.Global.{Global}
use Rattle.std.proofs.Crossing as heap
use Rattle.cow_cell.specs.Stock.{none_or_some, units}
use Rattle.cow_cell.specs.Cell.{offset, value_at, body, if_alive, owns_as, shares_as, cell_owns, cell_shares}
use Rattle.cow_cell.specs.contracts.block.Block as block

-- of units, by whether there are any
none_or_some_keyless : (s : GName) (k : ℕ) (y : Bool) → Keyless (none_or_some s k y)
none_or_some_keyless s k true = λ _. tt
none_or_some_keyless s k false = λ e c. tt

-- units may cross
pub units_keyless : (s : GName) (k : ℕ) → Keyless (units s k)
units_keyless s k = none_or_some_keyless s k

-- a block may cross where its value may
block_send : (R : RattleType) → IsSend R → IsSend (block.the_row R)
block_send R s = recorded_send (Struct (shape (block.the_type R))) (block.the_row R).Denot ((block.the_type R).to) ((block.the_type R).to_one) (struct_send (shape (block.the_type R)) (search sendable, (s, tt)))

module _ (R : RattleType) (sends : IsSend R) (γ : GName) (alloc : Global) (b o : ℕ) where
  -- the value in its place may cross
  value_keyless : (x : R.Denot) → Keyless (value_at R γ alloc b o x)
  value_keyless x = part_keyless R sends full_share x b (o + offset R)

  -- the block but its count may cross
  body_keyless : (x : R.Denot) → Keyless (body R γ alloc b o x)
  body_keyless x = (value_keyless x, (heap.frees.frees alloc (raw (lone (block.the_row R).mir)) (block_ptr b o), λ t. ((tt, value_keyless t.1), part_keyless (block.the_row R) (block_send R sends) full_share (record { count = t.0; value = t.1 }) b o)))

  -- the invariant's state may cross
  alive_keyless : (x : R.Denot) (a : ℕ) (y : Bool) → Keyless (if_alive R γ alloc b o x a y)
  alive_keyless x a true = λ n. (tt, ((λ r c. tt), (units_keyless γ n, body_keyless x)))
  alive_keyless x a false = tt

  module _ (syncs : IsSync R) where
    -- an owned handle may cross, alone or not
    as_keyless : (alone : Bool) (x : R.Denot) → Keyless (owns_as R γ alloc b o alone x)
    as_keyless true x = (body_keyless x, (tt, units_keyless γ 1))
    as_keyless false x = λ a. ((λ e c. tt), (alive_keyless x a, syncs.shared x b (o + offset R) (a ∷ [])))

    -- a borrowed handle may cross, alone or not
    shares_keyless : (alone : Bool) (x : R.Denot) (κ : Lft) → Keyless (shares_as R γ alloc b o alone x κ)
    shares_keyless true x κ = syncs.shared x b (o + offset R) κ
    shares_keyless false x κ = λ a. ((λ q. tt), (alive_keyless x a, syncs.shared x b (o + offset R) (a ∷ [])))

module _ (R : RattleType) (sends : IsSend R) (syncs : IsSync R) (γ : GName) (alloc : Global) where
  -- an owned handle may cross, wherever its pointer is
  pub cell_keyless : (p : Ptr) (alone : Bool) (x : R.Denot) → Keyless (cell_owns R γ alloc p alone x)
  cell_keyless (block_ptr b o) alone x = as_keyless R sends γ alloc b o syncs alone x
  cell_keyless null_ptr alone x = tt

  -- a borrowed handle may cross, wherever its pointer is
  pub seen_keyless : (p : Ptr) (alone : Bool) (x : R.Denot) (κ : Lft) → Keyless (cell_shares R γ alloc p alone x κ)
  seen_keyless (block_ptr b o) alone x κ = shares_keyless R sends γ alloc b o syncs alone x κ
  seen_keyless null_ptr alone x κ = tt
