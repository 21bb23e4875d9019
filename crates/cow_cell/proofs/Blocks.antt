-- A block is its count and its value, and is made of them again. Assumes `Logic`.
use Rattle.std.proofs.Common.{◌≡◌, ℕ, zero, ◌+◌, List, [], ◌∷◌, true, refl}
use seplogic.Ra.Ura.{Ura}
use base.Fraction.{full_share}
use base.Logic.{SProp, ent, sep, wand, all, all_e, apply∗, id⊢, never, fst∗}
use base.Fml.{GName, Fml, ftrue, fsep}
use types.Logic.{Logic, sem}
use types.Kit.{‵, raw, ◌⊛◌, ◌$◌, ◌∵◌, !, qed, by, move, keep, drop, split, split3, frame, each, assume, fsplit, fsplit3, fjoin, fjoin3, use1, use2, rewrite, done}
use denote.RattleType.{RattleType, Denots}
use denote.Laws.{Lawful}
use denote.Memory.{part_of, part_at}
use denote.RawPtr.{Ptr, block_ptr, null_ptr}
use denote.Steps.{nothing}
use denote.Struct.Struct.{Struct}
use denote.Struct.Laws.{u64-laws}
use denote.Struct.Members.{Member, row_of, rows_of, parts_at}
use denote.Struct.Parts.{PartsBack, Struct-parts, shape_of}
use Rattle.core.specs.Sync.RawAtomic.{word}
use Rattle.core.proofs.cell.Borrows.{flag}
use Rattle.core.proofs.tally.Steps.{word_out, word_in}
use Rattle.std.specs.Global.{Global}
use Rattle.std_heap.specs.contracts.GlobalAllocator.TheImpl.{ghosts}
use Rattle.std_alloc.specs.Box.Ownership.{box_owns}
use Rattle.cow_cell.specs.Stock.{units}
use Rattle.cow_cell.specs.Cell.{value_at, joined, joins, body, owns_alone, cell_owns}
use Rattle.cow_cell.specs.contracts.block.Block as block

module _ (m : Member) {M : Type 1} {𝓤 : Ura M} (𝓛 : Logic 𝓤) (L : Lawful 𝓛 (row_of m)) (s : GName) (alloc : Global) where
  abbrev Pr : Type 2
  Pr = SProp 𝓤

  abbrev ◌⊢◌ : Pr → Pr → Type 1
  P ⊢ Q = ent 𝓤 P Q

  abbrev ◌∗◌ : Pr → Pr → Pr
  P ∗ Q = sep 𝓤 P Q

  abbrev ◌-∗◌ : Pr → Pr → Pr
  P -∗ Q = wand 𝓤 P Q

  abbrev ⟦◌⟧ : Fml → Pr
  ⟦ P ⟧ = sem 𝓛 P

  infix 26 ◌⊢◌
  infixr 35 ◌∗◌
  infixr 30 ◌-∗◌
  -- the row of the value, and that of the block
  abbrev R : RattleType
  R = row_of m

  abbrev B : RattleType
  B = block.the_row R

  -- the two fields of a block, and the struct of them
  abbrev ks : List Member
  ks = flag ∷ m ∷ []

  abbrev Data : RattleType
  Data = Struct (shape_of [] ks)

  -- the block of a count and a value
  abbrev pub of : ℕ → R.Denot → B.Denot
  of n x = record { count = n; value = x }

  module _ (b o : ℕ) where
    -- the value in its place, and the count in its
    abbrev At : R.Denot → Fml
    At = value_at R s alloc b o

    abbrev wd : ℕ → Fml
    wd n = part_at (row_of flag) full_share n b (o + 0)

    -- a block is the struct of its fields
    apart : (n : ℕ) (x : R.Denot) → ⟦ part_at B full_share (of n x) b o ⟧ ⊢ ⟦ part_at Data full_share (n, (x, tt)) b o ⟧
    unfolding part_of
    apart n x = id⊢ 𝓤 _

    -- and that struct is the block
    whole : (n : ℕ) (x : R.Denot) → ⟦ part_at Data full_share (n, (x, tt)) b o ⟧ ⊢ ⟦ part_at B full_share (of n x) b o ⟧
    unfolding part_of
    whole n x = id⊢ 𝓤 _

    -- the fields put back make the block, whatever they hold by then
    joins_back : PartsBack 𝓛 full_share [] ks b o ⊢ ⟦ joins R s alloc b o ⟧
    joins_back = qed 𝓛 (raw (PartsBack 𝓛 full_share [] ks b o) ∷ []) ∵ each ! (λ (t : ℕ × R.Denot). ⟦ joined R s alloc b o t ⟧) (λ t. assume ! (‵ (fsep (word b (o + 0) t.0) (At t.1))) $ fsplit ! $
        use1 𝓛 (‵ (wd t.0)) (word_in 𝓛 b (o + 0) t.0) $ nothing ! $ move ! (1 ∷ 2 ∷ 0 ∷ []) $ fjoin3 ! $ move ! (1 ∷ []) $
        use1 𝓛 (raw (⟦ parts_at full_share ks zero (t.0, (t.1, tt)) b o ⟧ -∗ ⟦ part_at Data full_share (t.0, (t.1, tt)) b o ⟧)) (all_e 𝓤 (λ (a : Denots (rows_of ks)). ⟦ parts_at full_share ks zero a b o ⟧ -∗ ⟦ part_at Data full_share a b o ⟧) (t.0, (t.1, tt))) $
        move ! (1 ∷ 0 ∷ []) $ use2 𝓛 (‵ (part_at Data full_share (t.0, (t.1, tt)) b o)) (apply∗ 𝓤 ⟦ parts_at full_share ks zero (t.0, (t.1, tt)) b o ⟧ ⟦ part_at Data full_share (t.0, (t.1, tt)) b o ⟧) $ by ! (whole t.0 t.1))

    -- a block comes apart into count and value, and can be made of others again
    pub block_out : (n : ℕ) (x : R.Denot) → ⟦ part_at B full_share (of n x) b o ⟧ ⊢ ⟦ word b (o + 0) n ⟧ ∗ ⟦ At x ⟧ ∗ ⟦ joins R s alloc b o ⟧
    block_out n x = qed 𝓛 (‵ (part_at B full_share (of n x) b o) ∷ []) ∵ use1 𝓛 (‵ (part_at Data full_share (n, (x, tt)) b o)) (apart n x) $
        use1 𝓛 ((‵ (wd n) ⊛ ‵ (At x) ⊛ ‵ ftrue) ⊛ raw (PartsBack 𝓛 full_share [] ks b o)) (Struct-parts 𝓛 full_share [] ks (u64-laws.lawful 𝓛, (L, tt)) (n, (x, tt)) b o) $ split ! $ split3 ! $
        use1 𝓛 (‵ (word b (o + 0) n)) (word_out 𝓛 b (o + 0) n) $ frame ! $ frame ! $ drop ! $ by ! joins_back

    -- a box of a block with the count 1, and a unit, are an alone handle
    alone_at : (n : ℕ) (x : R.Denot) → n ≡ 1 → ⟦ box_owns (ghosts.dealloc_token alloc) B (block_ptr b o) (of n x) ⟧ ∗ ⟦ units s 1 ⟧ ⊢ ⟦ owns_alone R s alloc b o x ⟧
    alone_at n x one = qed 𝓛 (‵ (box_owns (ghosts.dealloc_token alloc) B (block_ptr b o) (of n x)) ∷ ‵ (units s 1) ∷ []) ∵ fsplit ! $
        use1 𝓛 (‵ (word b (o + 0) n) ⊛ ‵ (At x) ⊛ ‵ (joins R s alloc b o)) (block_out n x) $ split3 ! $ rewrite ! 0 (λ (k : ℕ). ‵ (word b (o + 0) k)) one refl $
        move ! (1 ∷ 3 ∷ 2 ∷ []) $ fjoin3 ! $ fjoin3 ! $ done !

    -- what the last handle has makes the box again
    pub body_back : (n : ℕ) (x : R.Denot) → ⟦ word b (o + 0) n ⟧ ∗ ⟦ body R s alloc b o x ⟧ ⊢ ⟦ box_owns (ghosts.dealloc_token alloc) B (block_ptr b o) (of n x) ⟧
    body_back n x = qed 𝓛 (‵ (word b (o + 0) n) ∷ ‵ (body R s alloc b o x) ∷ []) ∵ move ! (1 ∷ []) $ fsplit3 ! $ move ! (3 ∷ 0 ∷ []) $ fjoin ! $ move ! (2 ∷ []) $
        use1 𝓛 (raw (⟦ fsep (word b (o + 0) n) (At x) ⟧ -∗ ⟦ part_at B full_share (of n x) b o ⟧)) (all_e 𝓤 (λ (t : ℕ × R.Denot). ⟦ joined R s alloc b o t ⟧) (n, x)) $ move ! (1 ∷ 0 ∷ []) $
        use2 𝓛 (‵ (part_at B full_share (of n x) b o)) (apply∗ 𝓤 ⟦ fsep (word b (o + 0) n) (At x) ⟧ ⟦ part_at B full_share (of n x) b o ⟧) $ fjoin ! $ done !

  -- the same wherever the pointer is
  pub alone_made : (p : Ptr) (v : B.Denot) → v.count ≡ 1 → ⟦ box_owns (ghosts.dealloc_token alloc) B p v ⟧ ∗ ⟦ units s 1 ⟧ ⊢ ⟦ cell_owns R s alloc p true v.value ⟧
  alone_made (block_ptr b o) v one = alone_at b o v.count v.value one
  alone_made null_ptr v one = qed 𝓛 (‵ (box_owns (ghosts.dealloc_token alloc) B null_ptr v) ∷ ‵ (units s 1) ∷ []) ∵ fsplit ! $ keep ! (0 ∷ []) $ by ! (base.Logic.never_e 𝓤 _)
