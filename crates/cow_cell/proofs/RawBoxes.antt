-- A raw box owns what the box owns, and is the same machine value. So it is the box, under other names. Assumes `Logic`.
use Rattle.std.proofs.Common.{List}
use seplogic.Ra.Ura.{Ura}
use mir.Val.{Val}
use base.Logic.{ent, id⊢}
use types.Logic.{Logic, sem}
use denote.RattleType.{RattleType}
use Rattle.std_alloc.proofs.BoxSteps.Form as box
use Rattle.cow_cell.specs.contracts.raw_box.RawBox as raw_box

module _ (E : box.Bx) where
  -- the row of a raw box
  abbrev pub Raw : RattleType
  Raw = raw_box.the_row (box.R E) (box.P E) E.al.g

  -- the box that it is
  abbrev pub boxed : Raw.Denot → box.D E
  boxed d = record { ptr = d.at; alloc = d.alloc; value = d.value }

  module _ {M : Type 1} {𝓤 : Ura M} (𝓛 : Logic 𝓤) where
    -- a raw box is its box
    pub box_of_raw : (d : Raw.Denot) (vs : List Val) → ent 𝓤 (sem 𝓛 (Raw.own_val d vs)) (sem 𝓛 ((box.B E).own_val (boxed d) vs))
    box_of_raw d vs = id⊢ 𝓤 _

    -- and a box its raw box
    pub raw_of_box : (d : Raw.Denot) (vs : List Val) → ent 𝓤 (sem 𝓛 ((box.B E).own_val (boxed d) vs)) (sem 𝓛 (Raw.own_val d vs))
    raw_of_box d vs = id⊢ 𝓤 _
