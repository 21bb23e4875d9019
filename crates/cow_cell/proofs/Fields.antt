-- The machine values of a handle and of a raw box of its block. Assumes `Logic`.
use Rattle.std.proofs.Common.{◌≡◌, T, Bool, List, [], ◌∷◌, ◌++◌, refl, ap, ◌∙◌}
use seplogic.Ra.Ura.{Ura}
use mir.Syntax.{ty_ptr, ty_struct, tcons, tnil}
use mir.Val.{Val, vunit, vstruct, vcons, vnil, of_list, has_ty, WT}
use base.Logic.{ent, emp, never, never_e, fst∗, via}
use mir.Raw.{raw}
use base.Fml.{Lft, GName}
use contract.Monad.{fact, fact_i}
use types.Logic.{Logic, sem}
use denote.RattleType.{RattleType}
use denote.Laws.{Is}
use denote.Opens.{Opens}
use denote.Copied.{Struct-Copied}
use denote.Memory.{lone}
use denote.RawPtr.{Ptr, InBlock, block_ptr, null_ptr, ptr_val}
use denote.Shadow.{makes_shadow}
use denote.Struct.Laws.{RawPtr-copy, field_copy}
use denote.Struct.Struct.{Struct}
use denote.Struct.Owning.{shape}
use Rattle.core.specs.contracts.marker.PhantomData as marker
use Rattle.std.specs.Global.{Global}
use Rattle.std_heap.specs.contracts.Global as HP
use Rattle.std_heap.specs.contracts.GlobalAllocator.TheImpl.{ghosts}
use Rattle.std_heap.proofs.Global.TheLaws as HP'
use Rattle.std_heap.proofs.Handle.{heap_val, heap_Tells}
use Rattle.std_alloc.specs.Box.Ownership.{box_owns}
use Rattle.cow_cell.specs.declared.units.Stock.{Ghosts}
use Rattle.cow_cell.specs.Cell.{cell_owns, cell_shares}
use Rattle.cow_cell.specs.contracts.counted.Counted as hand
use Rattle.cow_cell.specs.contracts.raw_box.RawBox as raw_box

-- what the heap's handle holds
abbrev leave_val : Val
leave_val = vstruct (vcons vunit vnil)

-- the machine value of a handle of the block at p
abbrev pub hand_of : Ptr → Val
hand_of p = vstruct (vcons (ptr_val p) (vcons heap_val (vcons (vstruct vnil) vnil)))

-- the machine value of a raw box at p
abbrev pub raw_box_of : Ptr → Val
raw_box_of p = vstruct (vcons (ptr_val p) (vcons heap_val vnil))

-- the heap's handle has one machine value
pub heap_told : (d : (HP.the_field).row.Denot) (vs : List Val) → Is (HP.the_field).row d vs → vs ≡ heap_val ∷ []
heap_told d vs is = is.1.0 ∙ ap (λ (ws : List Val). vstruct (of_list (ws ++ [])) ∷ []) (is.1.1.0.1.0 ∙ ap (λ (ws : List Val). vstruct (of_list (ws ++ [])) ∷ []) is.1.1.0.1.1.0)

-- and may be read out of a shared struct
pub heap_opened : {M : Type 1} {𝓤 : Ura M} (𝓛 : Logic 𝓤) → Opens 𝓛 (HP.the_field).row
heap_opened {M} {𝓤 = 𝓤} 𝓛 = ((field_copy HP.the_type HP'.the_copy).copied M 𝓤 𝓛).opens

module _ (R Q : RattleType) (g : Ghosts Q.Denot) where
  -- the fields of a handle as words
  abbrev pub HandleFields : RattleType
  HandleFields = Struct (shape (hand.the_type R Q g))

  -- a handle has the machine value that its pointer gives
  pub hand_told : (d : HandleFields.Denot) (vs : List Val) → Is HandleFields d vs → vs ≡ hand_of d.0 ∷ []
  hand_told d vs is = let p : Ptr = d.0 in is.1.0 ∙ ap (λ (ws : List Val). vstruct (of_list (ws ++ (is.0.1.0 ++ (is.0.1.1.0 ++ [])))) ∷ []) is.1.1.0
      ∙ ap (λ (ws : List Val). vstruct (of_list (ptr_val p ∷ (ws ++ (is.0.1.1.0 ++ [])))) ∷ []) (heap_told d.1.0 is.0.1.0 is.1.1.1.0)
      ∙ ap (λ (ws : List Val). vstruct (of_list (ptr_val p ∷ heap_val ∷ (ws ++ []))) ∷ []) is.1.1.1.1.0.1.0

  -- its fields may be read through a shared borrow
  pub hand_opened : {M : Type 1} {𝓤 : Ura M} (𝓛 : Logic 𝓤) → Opens 𝓛 HandleFields
  hand_opened {M} {𝓤 = 𝓤} 𝓛 = (Struct-Copied 𝓛 (shape (hand.the_type R Q g)) (refl, (refl, (refl, tt))) (RawPtr-copy.copied M 𝓤 𝓛, ((field_copy HP.the_type HP'.the_copy).copied M 𝓤 𝓛, ((field_copy (marker.the_type Q) tt).copied M 𝓤 𝓛, tt)))).opens

  -- that machine value is a handle's
  pub hand_made : {M : Type 1} {𝓤 : Ura M} (𝓛 : Logic 𝓤) (d : HandleFields.Denot) → ent 𝓤 (emp 𝓤) (sem 𝓛 (HandleFields.own_val d (hand_of d.0 ∷ [])))
  hand_made 𝓛 d = makes_shadow 𝓛 (HandleFields.own_val d (hand_of d.0 ∷ [])) (λ vss. (tt, (tt, ((λ uss. (tt, ((λ wss. (tt, (tt, tt))), tt))), ((λ uss. (tt, tt)), tt)))))
      ((ptr_val d.0 ∷ [], (heap_val ∷ [], (vstruct vnil ∷ [], tt))), (refl, (refl, (((leave_val ∷ [], tt), (refl, (((vunit ∷ [], tt), (refl, (refl, tt))), tt))), ((tt, (refl, tt)), tt)))))

module _ (B : RattleType) where
  -- the row of a raw box of B, and its fields as words
  abbrev pub RawBox : RattleType
  RawBox = raw_box.the_row B HP.the_row ghosts

  abbrev pub RawBoxFields : RattleType
  RawBoxFields = Struct (shape (raw_box.the_type B HP.the_row ghosts))

  -- a raw box has the machine value that its pointer gives
  pub raw_box_told : (p : Ptr) (alloc : Global) (vs : List Val) → Is RawBoxFields (p, (alloc, tt)) vs → vs ≡ raw_box_of p ∷ []
  raw_box_told p alloc vs is = is.1.0 ∙ ap (λ (ws : List Val). vstruct (of_list (ws ++ (is.0.1.0 ++ []))) ∷ []) is.1.1.0
      ∙ ap (λ (ws : List Val). vstruct (of_list (ptr_val p ∷ (ws ++ []))) ∷ []) (heap_Tells alloc is.0.1.0 is.1.1.1.0)

  -- that machine value is a raw box's
  pub raw_box_made : {M : Type 1} {𝓤 : Ura M} (𝓛 : Logic 𝓤) (p : Ptr) (alloc : Global) → ent 𝓤 (emp 𝓤) (sem 𝓛 (RawBoxFields.own_val (p, (alloc, tt)) (raw_box_of p ∷ [])))
  raw_box_made 𝓛 p alloc = makes_shadow 𝓛 (RawBoxFields.own_val (p, (alloc, tt)) (raw_box_of p ∷ [])) (λ vss. (tt, (tt, ((λ uss. (tt, ((λ wss. (tt, (tt, tt))), tt))), tt))))
      ((ptr_val p ∷ [], (heap_val ∷ [], tt)), (refl, (refl, (((leave_val ∷ [], tt), (refl, (((vunit ∷ [], tt), (refl, (refl, tt))), tt))), tt))))

-- and it is well typed
pub raw_box_typed : (p : Ptr) → InBlock p → T (has_ty (ty_struct [] (tcons ty_ptr (tcons (lone HP.the_row.mir) tnil))) (raw_box_of p)) × WT (raw_box_of p)
raw_box_typed (block_ptr b o) i = (tt, (tt, (((tt, tt), tt), tt)))
raw_box_typed null_ptr i = absurd i

-- so is a handle's
pub typed : (p : Ptr) → InBlock p → T (has_ty (ty_struct [] (tcons ty_ptr (tcons (lone HP.the_row.mir) (tcons (ty_struct [] tnil) tnil)))) (hand_of p)) × WT (hand_of p)
typed (block_ptr b o) i = (tt, (tt, (((tt, tt), tt), (tt, tt))))
typed null_ptr i = absurd i

module _ {M : Type 1} {𝓤 : Ura M} (𝓛 : Logic 𝓤) (R : RattleType) (s : GName) (alloc : Global) where
  -- an owned handle points into a block
  pub owns_placed : (p : Ptr) (alone : Bool) (x : R.Denot) → ent 𝓤 (sem 𝓛 (cell_owns R s alloc p alone x)) (fact 𝓤 (InBlock p))
  owns_placed (block_ptr b o) alone x = fact_i 𝓤 (Unit {0}) _ tt
  owns_placed null_ptr alone x = never_e 𝓤 _

  -- a borrowed handle points into a block
  pub shares_placed : (p : Ptr) (alone : Bool) (x : R.Denot) (κ : Lft) → ent 𝓤 (sem 𝓛 (cell_shares R s alloc p alone x κ)) (fact 𝓤 (InBlock p))
  shares_placed (block_ptr b o) alone x κ = fact_i 𝓤 (Unit {0}) _ tt
  shares_placed null_ptr alone x κ = never_e 𝓤 _

  -- a box points into a block
  pub box_placed : (B : RattleType) (p : Ptr) (v : B.Denot) → ent 𝓤 (sem 𝓛 (box_owns (ghosts.dealloc_token alloc) B p v)) (fact 𝓤 (InBlock p))
  box_placed B (block_ptr b o) v = fact_i 𝓤 (Unit {0}) _ tt
  box_placed B null_ptr v = via 𝓤 _ (fst∗ 𝓤 (never 𝓤) (sem 𝓛 (ghosts.dealloc_token alloc (raw (lone B.mir)) null_ptr))) (never_e 𝓤 _)
