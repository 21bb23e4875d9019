-- What a borrow of a block gives: a view of the values in its places. Assumes `Logic`.
use Rattle.std.proofs.Common.{ℕ, ◌+◌, List, [], ◌∷◌, length, Option, Some, None}
use Rattle.std.specs.Mem.{type_size}
use seplogic.Ra.Ura.{Ura}
use base.Fml.{Lft, ftrue, ffalse, fsep}
use types.Logic.{Logic}
use denote.RattleType.{RattleType, RowLaws}
use denote.RawPtr.{Ptr, block_ptr, null_ptr}
use denote.Shares.{Shares}
use denote.Sharing.{ShrLaws, said}
use denote.SharingLaws.{beside_shr_laws, nothing_shr_laws, said_shr_laws}
use denote.Struct.Lending.{Lends, Lends-first, Lends-both, Lends-nothing, Lends-said, Lends-false}
use Rattle.cow_buf.specs.Block.{place_owns, row_owns, bounded, frees, block_owns, place_lends, row_lends, block_lends}

module _ (R : RattleType) where
  module _ (laws : RowLaws R) where
    -- what is lent of a place may be copied, and used for less time
    place_laws : (b at : ℕ) (p : Option R.Denot) → ShrLaws (place_lends R b at p)
    place_laws b at None = nothing_shr_laws
    place_laws b at (Some x) = laws x b at

    -- so may what is lent of a row
    row_laws : (b at : ℕ) (ps : List (Option R.Denot)) → ShrLaws (row_lends R b at ps)
    row_laws b at [] = nothing_shr_laws
    row_laws b at (p ∷ ps) = beside_shr_laws (place_lends R b at p) (row_lends R b (at + type_size R) ps) (place_laws b at p) (row_laws b (at + type_size R) ps)

    -- and of a block
    pub block_laws : (start : Ptr) (ps : List (Option R.Denot)) → ShrLaws (block_lends R start ps)
    block_laws null_ptr ps = said_shr_laws ffalse tt
    block_laws (block_ptr b at) ps = beside_shr_laws (said (bounded R ps)) (row_lends R b at ps) (said_shr_laws (bounded R ps) tt) (row_laws b at ps)

  module _ {M : Type 1} {𝓤 : Ura M} (𝓛 : Logic 𝓤) (l : Lft) (shares : Shares 𝓛 R l) where
    -- a borrow of a place lends what the place holds
    place_lent : (b at : ℕ) (p : Option R.Denot) → Lends 𝓛 (place_owns R b at p) (place_lends R b at p) l
    place_lent b at None = Lends-nothing 𝓛 (place_owns R b at None) l
    place_lent b at (Some x) = λ κ ts inc alive. shares x κ ts b at inc alive

    -- a borrow of a row lends what each place holds
    row_lent : (b at : ℕ) (ps : List (Option R.Denot)) → Lends 𝓛 (row_owns R b at ps) (row_lends R b at ps) l
    row_lent b at [] = Lends-nothing 𝓛 ftrue l
    row_lent b at (p ∷ ps) = let next = at + type_size R in
        Lends-both 𝓛 (place_owns R b at p) (row_owns R b next ps) (place_lends R b at p) (row_lends R b next ps) l (place_lent b at p) (row_lent b next ps)

    -- and a borrow of a block that, too: the right to free it isn't lent
    pub block_lent : (start : Ptr) (ps : List (Option R.Denot)) → Lends 𝓛 (block_owns R start ps) (block_lends R start ps) l
    block_lent null_ptr ps = Lends-false 𝓛 (said ffalse) l
    block_lent (block_ptr b at) ps = let right = frees R (block_ptr b at) (length ps) in
        Lends-both 𝓛 (bounded R ps) (fsep (row_owns R b at ps) right) (said (bounded R ps)) (row_lends R b at ps) l (Lends-said 𝓛 (bounded R ps) tt l)
        (Lends-first 𝓛 (row_owns R b at ps) right (row_lends R b at ps) l (row_lent b at ps))
