-- The ghost steps of a handle. Assumes `Logic`.
use Rattle.std.proofs.Common.{ℕ, ◌+◌, [], ◌∷◌, lit<, Bool, true, false}
use seplogic.Ra.Ura.{Ura}
use base.Fraction.{full_share}
use base.FractionLaws.{Counts, Counts-all}
use base.Logic.{ent, sep, id⊢, apply∗, wand}
use base.Fml.{Lft, GName, Incl, Incl-trans, Share, Fml, ffalse, fsep, fex, fbor, flft, finv}
use contract.BorrowLft.{meet_⊑_left, meet_⊑_right}
use types.Logic.{Logic, sem, lfts}
use types.Kit.{‵, raw, ◌⊛◌, later, ◌$◌, ◌∵◌, !, qed, by, move, keep, use1, use2, split, split3, join, fsplit3, fjoin, fjoin3, fpick, fpack, await, updating, now, done}
use types.Tokens.{lft_new, bor_new, bor_fracture}
use types.RcWeak.{part, rest, part_in, cut}
use denote.Sharing.{ShrLaws, some, beside, one, held, always}
use denote.SharingLaws.{contraction, some_shr_laws, beside_shr_laws, one_shr_laws, held_shr_laws, always_shr_laws, said_shr_laws}
use denote.Moves.{moves_from}
use denote.RattleType.{RattleType, RowLaws}
use denote.RawPtr.{Ptr, block_ptr, null_ptr}
use denote.Shares.{Shares}
use denote.Struct.Lending.{Lends, Lends-first, Lends-both, Lends-false}
use denote.Model.Laws.{Lends-some}
use Rattle.core.specs.Sync.RawAtomic.{word}
use Rattle.std.specs.Global.{Global}
use Rattle.cow_cell.specs.Stock.{units}
use Rattle.cow_cell.specs.Cell.{offset, value_at, joins, frees, body, state, if_alive, Invariant, shown, handle, handle_shares, owns_alone, owns_counted, owns_as, shares_as, cell_owns, cell_shares}

module _ (R : RattleType) (s : GName) (alloc : Global) where
  module _ (b o : ℕ) (x : R.Denot) where
    -- short names: the invariant, the value for reading, a handle, a borrowed handle, the block but its count
    abbrev I : ℕ → Fml
    I = Invariant R s alloc b o x

    abbrev t : Lft → Fml
    t = shown R s alloc b o x

    abbrev hd : ℕ → Fml
    hd = handle R s alloc b o x

    abbrev ln : ℕ → Lft → Fml
    ln = handle_shares R s alloc b o x

    abbrev P : Fml
    P = body R s alloc b o x

    module _ (L : RowLaws R) where
      -- what a borrow shows may be copied and used for a shorter time
      pub shown_laws : ShrLaws t
      shown_laws = L x b (o + offset R)

      -- the same of a borrowed handle that is not alone
      counted_laws : ShrLaws (some ℕ ln)
      counted_laws = some_shr_laws ℕ ln (λ a. beside_shr_laws (one (λ q. flft (a ∷ []) q)) (beside (always (I a)) (held (a ∷ []) t)) (one_shr_laws (λ q. flft (a ∷ []) q))
          (beside_shr_laws (always (I a)) (held (a ∷ []) t) (always_shr_laws (I a)) (held_shr_laws (a ∷ []) t shown_laws)))

      -- the same, alone or not
      pub as_laws : (alone : Bool) → ShrLaws (shares_as R s alloc b o alone x)
      as_laws true = shown_laws
      as_laws false = counted_laws

    module _ {M : Type 1} {𝓤 : Ura M} (𝓛 : Logic 𝓤) where
      open 𝓛 use {H, A}

      -- a borrow of the block lends the value for reading
      pub Lends-body : (l : Lft) → Shares 𝓛 R l → Lends 𝓛 P t l
      Lends-body l shares = Lends-first 𝓛 (value_at R s alloc b o x) (fsep (frees R s alloc b o) (joins R s alloc b o)) t l (λ κ ts inc sp. shares x κ ts b (o + offset R) inc sp)

      -- an alone handle becomes one that is not: a new lifetime, the value lent for it, the invariant with count 1
      pub counted : (l : Lft) → Lends 𝓛 P t l → (μ : Lft) (q : Share) → Incl μ l → ent 𝓤 (sep 𝓤 (sem 𝓛 (owns_alone R s alloc b o x)) (A.lft μ q)) (H.⇛ (sep 𝓤 (sem 𝓛 (fex ℕ hd)) (A.lft μ q)))
      counted l lends μ q inc =
          qed 𝓛 (‵ (owns_alone R s alloc b o x) ∷ ‵ (flft μ q) ∷ []) ∵ updating ! $ fsplit3 ! $ lft_new ! tt (λ a.
          use1 𝓛 (‵ (rest 63 a 1) ⊛ ‵ (part 63 a)) (cut 63 𝓛 a 0 full_share (lit< tt) (Counts-all 63)) $ split ! $ move ! (2 ∷ []) $ bor_new ! tt (a ∷ []) $
          -- [the borrow; the lender's right; the rest; the part; the word; the units; the token]
          move ! (5 ∷ 1 ∷ []) $ fjoin ! $ move ! (4 ∷ 2 ∷ 0 ∷ []) $ fjoin3 ! $ fpack ! ℕ (state R s alloc b o x a) 1 $ fpack ! Bool (if_alive R s alloc b o x a) true $
          use1 𝓛 (later (‵ (finv (I a)))) (𝓛.invs.inv_new (I a)) $ await ! tt $ move ! (2 ∷ []) $ fpick ! (λ e. fpick ! (λ one.
          -- [the part; the invariant; the borrow; the token]
          move ! (0 ∷ 3 ∷ []) $ join ! $ move ! (2 ∷ 0 ∷ []) $
          use2 𝓛 (later (‵ (t (a ∷ [])) ⊛ ‵ (flft (a ∷ []) e) ⊛ ‵ (flft μ q)))
          (lends (a ∷ []) ((a ∷ [], e) ∷ (μ, q) ∷ []) (Incl-trans (meet_⊑_right (a ∷ []) μ) inc) (meet_⊑_left (a ∷ []) μ)) $ await ! tt $ split3 ! $
          move ! (1 ∷ []) $ use1 𝓛 (‵ (part 63 a)) (part_in 63 𝓛 a e one) $ move ! (0 ∷ 3 ∷ 1 ∷ []) $ fjoin3 ! $ fpack ! ℕ hd a $ now ! $ done !)))

      -- a borrow of what can be had twice lends it
      Lends-kept : (F : Fml) → ent 𝓤 (sem 𝓛 F) (sep 𝓤 (sem 𝓛 F) (sem 𝓛 F)) → (l : Lft) → Lends 𝓛 F (λ _. F) l
      Lends-kept F twice l κ ts inc sp = let Closed = sep 𝓤 (A.bor κ F) (lfts 𝓛 ts) in qed 𝓛 (‵ (fbor κ F) ∷ raw (lfts 𝓛 ts) ∷ []) ∵ updating ! $
          use2 𝓛 (later (‵ F ⊛ raw (wand 𝓤 (sem 𝓛 F) (H.⇛ Closed)))) (𝓛.more.bor_acc_by κ ts F sp) $ await ! tt $ split ! $ use1 𝓛 (‵ F ⊛ ‵ F) twice $ split ! $ move ! (1 ∷ 2 ∷ []) $
          use2 𝓛 (later (‵ (fbor κ F) ⊛ raw (lfts 𝓛 ts))) (apply∗ 𝓤 (sem 𝓛 F) (H.⇛ Closed)) $ await ! tt $ split ! $ now ! $ keep ! (2 ∷ 1 ∷ []) $ done !

      -- what is lent may be told in other words
      Lends-then : (F : Fml) (u v : Lft → Fml) (l : Lft) → ((κ : Lft) → ent 𝓤 (sem 𝓛 (u κ)) (sem 𝓛 (v κ))) → Lends 𝓛 F u l → Lends 𝓛 F v l
      Lends-then F u v l so lends κ ts inc sp = qed 𝓛 (‵ (fbor κ F) ∷ raw (lfts 𝓛 ts) ∷ []) ∵ updating ! $
          use2 𝓛 (later (‵ (u κ) ⊛ raw (lfts 𝓛 ts))) (lends κ ts inc sp) $ await ! tt $ split ! $ use1 𝓛 (‵ (v κ)) (so κ) $ now ! $ done !

      module _ (a : ℕ) where
        -- a share of a's token, borrowed
        abbrev shared : Lft → Fml
        shared = one (λ q. flft (a ∷ []) q)

        -- a share that is a token
        abbrev some_share : Share → Fml
        some_share e = fex (Counts 63 e 1) (λ _. flft (a ∷ []) e)

        -- a borrow of a share may be had by many
        Lends-share : (e : Share) (l : Lft) → Lends 𝓛 (flft (a ∷ []) e) shared l
        Lends-share e l κ ts inc sp = qed 𝓛 (‵ (fbor κ (flft (a ∷ []) e)) ∷ raw (lfts 𝓛 ts) ∷ []) ∵ updating ! $ bor_fracture ! tt (λ r. flft (a ∷ []) r) e $ now ! $ done !

        -- which share it was need not be told
        forgets : (X : Type 0) (κ : Lft) → ent 𝓤 (sem 𝓛 (some X (λ _. shared) κ)) (sem 𝓛 (shared κ))
        forgets X κ = qed 𝓛 (‵ (some X (λ _. shared) κ) ∷ []) ∵ fpick ! (λ _. done !)

        -- a borrow of a token lends shares of it
        Lends-token : (l : Lft) → Lends 𝓛 (part 63 a) shared l
        Lends-token l = Lends-then (part 63 a) (some Share (λ _. shared)) shared l (forgets Share)
            (Lends-some 𝓛 Share some_share (λ _. shared) l (λ e. Lends-then (some_share e) (some (Counts 63 e 1) (λ _. shared)) shared l (forgets (Counts 63 e 1))
            (Lends-some 𝓛 (Counts 63 e 1) (λ _. flft (a ∷ []) e) (λ _. shared) l (λ _. Lends-share e l))))

      -- so a borrow of a handle that is not alone lends what the spec says
      pub Lends-counted : RowLaws R → (l : Lft) → Lends 𝓛 (fex ℕ hd) (some ℕ ln) l
      Lends-counted L l = Lends-some 𝓛 ℕ hd ln l (λ a. let seen : Lft → Fml = held (a ∷ []) t in
          Lends-both 𝓛 (part 63 a) (fsep (finv (I a)) (t (a ∷ []))) (shared a) (beside (always (I a)) seen) l (Lends-token a l)
          (Lends-both 𝓛 (finv (I a)) (t (a ∷ [])) (always (I a)) seen l (Lends-kept (finv (I a)) (𝓛.invs.inv_dup (I a)) l) (Lends-kept (t (a ∷ [])) (contraction 𝓛 t (shown_laws L) (a ∷ [])) l)))

      -- alone or not, a borrowed handle shows the value
      pub sees : RowLaws R → (alone : Bool) (κ : Lft) → ent 𝓤 (sem 𝓛 (shares_as R s alloc b o alone x κ)) (sem 𝓛 (t κ))
      sees L true κ = id⊢ 𝓤 _
      sees L false κ = qed 𝓛 (‵ (some ℕ ln κ) ∷ []) ∵ fpick ! (λ a. fsplit3 ! $ keep ! (0 ∷ 2 ∷ []) $ by ! (moves_from 𝓛 t (shown_laws L) κ (a ∷ []) (a ∷ []) (meet_⊑_left (a ∷ []) κ)))

      -- and lends it
      pub Lends-as : RowLaws R → (l : Lft) → Shares 𝓛 R l → (alone : Bool) → Lends 𝓛 (owns_as R s alloc b o alone x) (shares_as R s alloc b o alone x) l
      Lends-as L l shares true = Lends-first 𝓛 P (fsep (word b (o + 0) 1) (units s 1)) t l (Lends-body l shares)
      Lends-as L l shares false = Lends-counted L l

  -- the laws of a borrowed handle, wherever its pointer is
  pub cell_laws : RowLaws R → (p : Ptr) (alone : Bool) (x : R.Denot) → ShrLaws (cell_shares R s alloc p alone x)
  cell_laws L (block_ptr b o) alone x = as_laws b o x L alone
  cell_laws L null_ptr alone x = said_shr_laws ffalse tt

  -- a borrowed handle lends what the spec says, wherever its pointer is
  pub Lends-cell : {M : Type 1} {𝓤 : Ura M} (𝓛 : Logic 𝓤) → RowLaws R → (l : Lft) → Shares 𝓛 R l → (p : Ptr) (alone : Bool) (x : R.Denot) → Lends 𝓛 (cell_owns R s alloc p alone x) (cell_shares R s alloc p alone x) l
  Lends-cell 𝓛 L l shares (block_ptr b o) alone x = Lends-as b o x 𝓛 L l shares alone
  Lends-cell 𝓛 L l shares null_ptr alone x = Lends-false 𝓛 (cell_shares R s alloc null_ptr alone x) l

  -- a handle becomes one that is not alone, by whether it was alone
  settles_as : {M : Type 1} {𝓤 : Ura M} (𝓛 : Logic 𝓤) → (l : Lft) → Shares 𝓛 R l → (b o : ℕ) (alone : Bool) (x : R.Denot) (μ : Lft) (q : Share) → Incl μ l
      → ent 𝓤 (sep 𝓤 (sem 𝓛 (owns_as R s alloc b o alone x)) (𝓛.A.lft μ q)) (𝓛.H.⇛ (sep 𝓤 (sem 𝓛 (owns_counted R s alloc b o x)) (𝓛.A.lft μ q)))
  settles_as 𝓛 l shares b o true x = counted b o x 𝓛 l (Lends-body b o x 𝓛 l shares)
  settles_as 𝓛 l shares b o false x = λ μ q inc. 𝓛.laws.⇛_intro _

  -- whoever was alone may have others beside it
  pub cell_settles : {M : Type 1} {𝓤 : Ura M} (𝓛 : Logic 𝓤) → (l : Lft) → Shares 𝓛 R l → (p : Ptr) (alone : Bool) (x : R.Denot) (μ : Lft) (q : Share) → Incl μ l
      → ent 𝓤 (sep 𝓤 (sem 𝓛 (cell_owns R s alloc p alone x)) (𝓛.A.lft μ q)) (𝓛.H.⇛ (sep 𝓤 (sem 𝓛 (cell_owns R s alloc p false x)) (𝓛.A.lft μ q)))
  cell_settles 𝓛 l shares (block_ptr b o) alone x = settles_as 𝓛 l shares b o alone x
  cell_settles 𝓛 l shares null_ptr alone x = λ μ q inc. 𝓛.laws.⇛_intro _
