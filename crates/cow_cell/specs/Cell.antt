-- What a handle owns, what a borrowed handle shows, and the invariant of a block that is shared.
-- A block is a count and a value. One unit of the stock lies in it for each live handle.
-- Alone: the handle owns all of the block, outright, and may share it at any time.
-- Not alone: the value is lent for a lifetime a of the block's own. A token is one part in 2 ^ 63 of
-- a, and a handle is one token. An invariant keeps the count, the rest of a, and as many units.
-- So a handle reads by its token, and one that finds the count 1 has all of a: it ends a, takes the
-- value back, and is alone.
use Rattle.std.specs.Prelude.{ℕ, ◌+◌, Bool, true, false, [], ◌∷◌}
use mir.Raw.{raw}
use base.Fraction.{full_share}
use base.Fml.{Lft, GName, Fml, ffalse, fsep, fex, fall, fwand, flft, fdead, flent, finv}
use prog.Memory.{up, align}
use types.RcWeak.{part, rest}
use denote.RattleType.{RattleType}
use denote.Memory.{lone, part_at, shared_of}
use denote.RawPtr.{Ptr, block_ptr, null_ptr, lies_at}
use denote.Sharing.{said, beside, some, one, held, always}
use Rattle.core.specs.Sync.RawAtomic.{word}
use Rattle.std.specs.Global.{Global}
use Rattle.std_heap.specs.contracts.GlobalAllocator.TheImpl.{ghosts}
use Rattle.cow_cell.specs.contracts.block.Block.{the_row}
use Rattle.cow_cell.specs.Stock.{units}

-- where the value stands in a block, behind the eight bytes of the count
abbrev pub offset : RattleType → ℕ
offset R = up (align (lone R.mir)) 8

module _ (R : RattleType) (s : GName) (alloc : Global) (b o : ℕ) where
  -- the value x, in its place
  abbrev pub value_at : R.Denot → Fml
  value_at x = part_at R full_share x b (o + offset R)

  -- a count and a value, each in its place, make a whole block
  abbrev pub joined : ℕ × R.Denot → Fml
  joined t = fwand (fsep (word b (o + 0) t.0) (value_at t.1)) (lies_at (the_row R) full_share (block_ptr b o) (record { count = t.0; value = t.1 }))

  -- the same of every count and value
  abbrev pub joins : Fml
  joins = fall (ℕ × R.Denot) joined

  -- the right to free the block
  abbrev pub frees : Fml
  frees = ghosts.dealloc_token alloc (raw (lone (the_row R).mir)) (block_ptr b o)

  -- all of the block but the count
  abbrev pub body : R.Denot → Fml
  body x = fsep (value_at x) (fsep frees joins)

  -- the block is shared by n handles: its count is n, n parts of a are out, and n units lie in it
  abbrev pub state : R.Denot → ℕ → ℕ → Fml
  state x a n = fsep (word b (o + 0) n) (fsep (rest 63 a n) (fsep (units s n) (flent (a ∷ []) (body x))))

  -- shared, while a lasts; nothing, once a handle has ended a and taken the block
  abbrev pub if_alive : R.Denot → ℕ → Bool → Fml
  if_alive x a true = fex ℕ (state x a)
  if_alive x a false = fdead (a ∷ [])

  -- the invariant of a block that is shared
  abbrev pub Invariant : R.Denot → ℕ → Fml
  Invariant x a = fex Bool (if_alive x a)

  -- the value x, for reading
  abbrev pub shown : R.Denot → Lft → Fml
  shown x = shared_of R x b (o + offset R)

  -- a handle of a shared block: one token, the invariant, and the value for reading as long as a lasts
  abbrev pub handle : R.Denot → ℕ → Fml
  handle x a = fsep (part 63 a) (fsep (finv (Invariant x a)) (shown x (a ∷ [])))

  -- what a borrow of such a handle has: a share of its token, the invariant, and the value for reading
  abbrev pub handle_shares : R.Denot → ℕ → Lft → Fml
  handle_shares x a = beside (one (λ q. flft (a ∷ []) q)) (beside (always (Invariant x a)) (held (a ∷ []) (shown x)))

  -- alone: the whole block with its count of 1, and its one unit
  abbrev pub owns_alone : R.Denot → Fml
  owns_alone x = fsep (body x) (fsep (word b (o + 0) 1) (units s 1))

  -- not alone: a handle of a shared block, for some a
  abbrev pub owns_counted : R.Denot → Fml
  owns_counted x = fex ℕ (handle x)

  -- what a handle owns, by whether it is alone
  abbrev pub owns_as : Bool → R.Denot → Fml
  owns_as true x = owns_alone x
  owns_as false x = owns_counted x

  -- what a borrow of it has, by whether it is alone
  abbrev pub shares_as : Bool → R.Denot → Lft → Fml
  shares_as true x = shown x
  shares_as false x = some ℕ (handle_shares x)

-- what the handle with this pointer owns; a handle's pointer is never null
abbrev pub cell_owns : (R : RattleType) → GName → Global → Ptr → Bool → R.Denot → Fml
cell_owns R s alloc (block_ptr b o) alone x = owns_as R s alloc b o alone x
cell_owns R s alloc null_ptr alone x = ffalse

-- what a borrow of it has
abbrev pub cell_shares : (R : RattleType) → GName → Global → Ptr → Bool → R.Denot → Lft → Fml
cell_shares R s alloc (block_ptr b o) alone x = shares_as R s alloc b o alone x
cell_shares R s alloc null_ptr alone x = said ffalse
