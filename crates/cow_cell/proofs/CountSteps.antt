-- One step on a block's count, alone or under its invariant. Assumes `Logic`.
use Rattle.std.proofs.Common.{◌≡◌, ◌≢◌, ℕ, ◌+◌, ◌-◌, ◌%◌, ◌^◌, ◌<◌, ◌≤◌, Bool, true, false, List, [], ◌∷◌, refl, sym, subst, arith}
use lib.Dec.{T}
use mathlib.Core.List.{Mem, not-mem-nil}
use native.Mathlib.Decide.{ℕ_discrete}
use seplogic.Ra.Ura.{Ura}
use base.Fraction.{full_share}
use base.Logic.{SProp, ent, sep, wand, ex, ex_i, all_i, guard, emp, upd, upd_i, never, never_e, via, id⊢}
use base.Fml.{GName, Share, Fml, ftrue, fsep, fex, fall, flft, fdead, flent, finv, fnamed}
use types.Logic.{Logic, sem}
use types.Kit.{‵, raw, ◌⊛◌, some, given, ◌$◌, ◌∵◌, !, qed, by, move, keep, split, group, frame, fsplit, fsplit3, fjoin, fjoin3, fpick, fpack, pick, learn, show, check, each, assume, suffices, use0, use1, use2, rewrite, updating, now, done}
use types.Tokens.{lent_back}
use types.RcWeak.{part, rest, part_in, takes, gives, whole, rest_some}
use denote.RattleType.{RattleType}
use denote.RawPtr.{block_ptr}
use denote.Steps.{nothing}
use Rattle.core.specs.Sync.RawAtomic.{Shift, rests, ends, enters, leaves, word, always, along, shifted, if_none, found, back, asks}
use Rattle.std.specs.Global.{Global}
use Rattle.cow_cell.specs.Stock.{units}
use Rattle.cow_cell.specs.Cell.{body, state, if_alive, Invariant, shown, handle, owns_alone, owns_counted, owns_as}
use Rattle.cow_cell.proofs.UnitSteps.{units_cut, units_glue}

-- no alone handle is one that is not alone
true_not : false ≡ true → ⊥
true_not z = subst T (sym z) tt

-- a fact as a formula
abbrev pub fact : Type 0 → Fml
fact φ = fex φ (λ _. ftrue)

module _ {M : Type 1} {𝓤 : Ura M} (𝓛 : Logic 𝓤) where
  open 𝓛 use {H, A}

  abbrev Pr : Type 2
  Pr = SProp 𝓤

  abbrev ◌⊢◌ : Pr → Pr → Type 1
  P ⊢ Q = ent 𝓤 P Q

  abbrev ◌∗◌ : Pr → Pr → Pr
  P ∗ Q = sep 𝓤 P Q

  abbrev ◌-∗◌ : Pr → Pr → Pr
  P -∗ Q = wand 𝓤 P Q

  abbrev ⟦◌⟧ : Fml → Pr
  ⟦ P ⟧ = sem 𝓛 P

  infix 26 ◌⊢◌
  infixr 35 ◌∗◌
  infixr 30 ◌-∗◌
  -- what is true may be said
  pub told : (φ : Type 0) → φ → emp 𝓤 ⊢ ⟦ fact φ ⟧
  told φ x = qed 𝓛 [] ∵ nothing ! $ fpack ! φ (λ _. ftrue) x $ done !

  -- what is there, is there if
  pub held_if : (φ : Type 0) (P : Fml) → ⟦ P ⟧ ⊢ ⟦ fall φ (λ _. P) ⟧
  held_if φ P = all_i 𝓤 (λ (_ : φ). ⟦ P ⟧) (λ _. id⊢ 𝓤 ⟦ P ⟧)

  -- what an impossible case would give, is there
  pub void_if : (φ : Type 0) (P : Fml) → (φ → ⊥) → emp 𝓤 ⊢ ⟦ fall φ (λ _. P) ⟧
  void_if φ P h = all_i 𝓤 (λ (_ : φ). ⟦ P ⟧) (λ y. absurd (h y))

  module _ (b e : ℕ) (f : ℕ → ℕ) (after : ℕ → Fml) where
    -- no invariant
    pub plain_asks : (n : ℕ) (X : Pr) → ⟦ word b e (f n) ⟧ ∗ X ⊢ ⟦ after n ⟧ → ⟦ word b e n ⟧ ∗ X ⊢ asks 𝓛 (block_ptr b e) f always after
    plain_asks n X h = let K : List (ℕ × Fml) → Pr = λ l. ex 𝓤 (found 𝓛 l b e f always after) in let T : Pr = ⟦ after n ⟧ in
        qed 𝓛 (‵ (word b e n) ∷ raw X ∷ []) ∵ suffices ! _ (ex_i 𝓤 (λ (s : Shift). along 𝓛 s K []) rests) $ suffices ! _ (upd_i 𝓤 (K [])) $ show ! (found 𝓛 [] b e f always after) n $ frame ! $
        each ! (λ (_ : always n). back 𝓛 [] b e f after n) (λ _. assume ! (‵ (word b e (f n))) $ suffices ! _ (ex_i 𝓤 (λ (s : Shift). along 𝓛 s (if_none 𝓛 T) []) rests) $ suffices ! _ (upd_i 𝓤 T) $ by ! h)

    module _ (I : Fml) where
      -- the step's state once the invariant is open: the word it finds, and what it leaves
      abbrev pub Found : ℕ → Pr
      Found j = ex 𝓤 (found 𝓛 ((j, I) ∷ []) b e f always after)

      -- what it owes to whoever called, once the word is written
      abbrev pub Left : ℕ → ℕ → Pr
      Left j n = shifted 𝓛 (if_none 𝓛 ⟦ after n ⟧) ((j, I) ∷ [])

      -- a step on the word, under the invariant
      pub inv_asks : (X : Pr) → ((j : ℕ) → ⟦ I ⟧ ∗ X ⊢ Found j) → A.inv I ∗ X ⊢ asks 𝓛 (block_ptr b e) f always after
      inv_asks X h = let K : List (ℕ × Fml) → Pr = λ l. ex 𝓤 (found 𝓛 l b e f always after) in
          qed 𝓛 (‵ (finv I) ∷ raw X ∷ []) ∵ use1 𝓛 (some (λ (j : ℕ). ‵ (fnamed j I))) (𝓛.invs.inv_named I) $ pick ! (λ j. let F : Pr = Found j in
          suffices ! _ (ex_i 𝓤 (λ (s : Shift). along 𝓛 s K []) (enters j I rests)) $ suffices ! _ (upd_i 𝓤 (guard 𝓤 (¬ Mem j []) (A.named j I ∗ (⟦ I ⟧ -∗ upd 𝓤 F)))) $
          check ! (λ m. not-mem-nil m) $ frame ! $ assume ! (‵ I) $ suffices ! _ (upd_i 𝓤 F) $ by ! (h j))

      -- the invariant is given back, and the step ends
      pub leaves_now : (j n : ℕ) → ⟦ I ⟧ ∗ ⟦ after n ⟧ ⊢ Left j n
      leaves_now j n = let T : Pr = ⟦ after n ⟧ in let L : List (ℕ × Fml) = (j, I) ∷ [] in
          qed 𝓛 (‵ I ∷ ‵ (after n) ∷ []) ∵ suffices ! _ (ex_i 𝓤 (λ (s : Shift). along 𝓛 s (if_none 𝓛 T) L) (leaves rests)) $ suffices ! _ (upd_i 𝓤 (⟦ I ⟧ ∗ upd 𝓤 T)) $ frame ! $ suffices ! _ (upd_i 𝓤 T) $ done !

      -- the same once the lifetime a has ended
      pub leaves_ended : (a j n : ℕ) (X : Pr) → A.dead (a ∷ []) ∗ X ⊢ ⟦ I ⟧ ∗ ⟦ after n ⟧ → A.lft (a ∷ []) full_share ∗ X ⊢ Left j n
      leaves_ended a j n X h = let T : Pr = ⟦ after n ⟧ in let L : List (ℕ × Fml) = (j, I) ∷ [] in let S : Pr = upd 𝓤 (⟦ I ⟧ ∗ upd 𝓤 T) in
          qed 𝓛 (‵ (flft (a ∷ []) full_share) ∷ raw X ∷ []) ∵ suffices ! _ (ex_i 𝓤 (λ (s : Shift). along 𝓛 s (if_none 𝓛 T) L) (ends a (leaves rests))) $ suffices ! _ (upd_i 𝓤 (A.lft (a ∷ []) full_share ∗ (A.dead (a ∷ []) -∗ S))) $ frame ! $
          assume ! (‵ (fdead (a ∷ []))) $ suffices ! _ (upd_i 𝓤 (⟦ I ⟧ ∗ upd 𝓤 T)) $ use2 𝓛 (‵ I ⊛ ‵ (after n)) h $ split ! $ frame ! $ suffices ! _ (upd_i 𝓤 T) $ done !

  module _ (R : RattleType) (s : GName) (alloc : Global) (b o : ℕ) (x : R.Denot) where
    -- the place of the count
    abbrev e : ℕ
    e = o + 0

    -- the count n
    abbrev wd : ℕ → Fml
    wd n = word b e n

    -- all of the block but the count
    abbrev P : Fml
    P = body R s alloc b o x

    -- the invariant of the lifetime a
    abbrev I : ℕ → Fml
    I = Invariant R s alloc b o x

    -- what the last handle has, before its lifetime's end is used
    abbrev pub got : Bool × ℕ → Fml
    got (true, a) = P
    got (false, a) = fsep (fdead (a ∷ [])) (flent (a ∷ []) P)

    -- the same of either kind of handle
    abbrev pub Got : Fml
    Got = fex (Bool × ℕ) got

    -- the last handle gets the block back, by its kind
    got_as : (y : Bool) (a : ℕ) → ⟦ got (y, a) ⟧ ⊢ H.⇛ ⟦ P ⟧
    got_as true a = 𝓛.laws.⇛_intro _
    got_as false a = qed 𝓛 (‵ (got (false, a)) ∷ []) ∵ updating ! $ fsplit ! $ lent_back ! tt $ now ! $ done !

    -- the last handle gets the block back
    pub got_back : ⟦ Got ⟧ ⊢ H.⇛ ⟦ P ⟧
    got_back = qed 𝓛 (‵ Got ∷ []) ∵ fpick ! (λ t. by ! (got_as t.0 t.1))

    module _ (a : ℕ) where
      -- count, rest, units and the lender's right are the invariant, while a lasts
      packs : (n : ℕ) → ⟦ wd n ⟧ ∗ ⟦ rest 63 a n ⟧ ∗ ⟦ units s n ⟧ ∗ ⟦ flent (a ∷ []) P ⟧ ⊢ ⟦ I a ⟧
      packs n = qed 𝓛 (‵ (wd n) ∷ ‵ (rest 63 a n) ∷ ‵ (units s n) ∷ ‵ (flent (a ∷ []) P) ∷ []) ∵ group ! 4 $ use1 𝓛 (‵ (state R s alloc b o x a n)) (id⊢ 𝓤 _) $ fpack ! ℕ (state R s alloc b o x a) n $ fpack ! Bool (if_alive R s alloc b o x a) true $ done !

      -- once a has ended, nothing is
      gone : ⟦ fdead (a ∷ []) ⟧ ⊢ ⟦ I a ⟧
      gone = qed 𝓛 (‵ (fdead (a ∷ [])) ∷ []) ∵ fpack ! Bool (if_alive R s alloc b o x a) false $ done !

      -- the invariant is open: a is alive, where a share of its token is at hand
      alive_as : (q : Share) (X Z : Pr) → ((n : ℕ) → ⟦ wd n ⟧ ∗ ⟦ rest 63 a n ⟧ ∗ ⟦ units s n ⟧ ∗ ⟦ flent (a ∷ []) P ⟧ ∗ A.lft (a ∷ []) q ∗ X ⊢ Z) → (y : Bool) → ⟦ if_alive R s alloc b o x a y ⟧ ∗ A.lft (a ∷ []) q ∗ X ⊢ Z
      alive_as q X Z h true = qed 𝓛 (‵ (if_alive R s alloc b o x a true) ∷ ‵ (flft (a ∷ []) q) ∷ raw X ∷ []) ∵ fpick ! (λ n. fsplit3 ! $ move ! (2 ∷ []) $ fsplit ! $ move ! (2 ∷ 3 ∷ 0 ∷ 1 ∷ []) $ by ! (h n))
      alive_as q X Z h false = qed 𝓛 (‵ (fdead (a ∷ [])) ∷ ‵ (flft (a ∷ []) q) ∷ raw X ∷ []) ∵ keep ! (1 ∷ 0 ∷ []) $ by ! (via 𝓤 (never 𝓤) (𝓛.lfts.lft-dead (a ∷ []) q) (never_e 𝓤 Z))

      -- the same, of the open invariant as a whole
      alive : (q : Share) (X Z : Pr) → ((n : ℕ) → ⟦ wd n ⟧ ∗ ⟦ rest 63 a n ⟧ ∗ ⟦ units s n ⟧ ∗ ⟦ flent (a ∷ []) P ⟧ ∗ A.lft (a ∷ []) q ∗ X ⊢ Z) → ⟦ I a ⟧ ∗ A.lft (a ∷ []) q ∗ X ⊢ Z
      alive q X Z h = qed 𝓛 (‵ (I a) ∷ ‵ (flft (a ∷ []) q) ∷ raw X ∷ []) ∵ fpick ! (λ y. by ! (alive_as q X Z h y))

    -- ---- share: one handle more

    module _ (a k : ℕ) (q : Share) (some_held : 0 < k) where
      -- what a retain leaves: the new token, the holder's other units, the old handle's share, and the bound
      abbrev pub after_retain : ℕ → Fml
      after_retain _ = fsep (part 63 a) (fsep (units s (k - 1)) (fsep (flft (a ∷ []) q) (fact (k < 2 ^ 62))))

      -- the word that fetch_add writes
      abbrev up : ℕ → ℕ
      up n = (n + 1) % 2 ^ 64

      -- under the open invariant: n + 1 handles, n + 1 units, and no overflow, since n + k parts fit into 2 ^ 62
      retain_found : (j n : ℕ) → ⟦ wd n ⟧ ∗ ⟦ rest 63 a n ⟧ ∗ ⟦ units s n ⟧ ∗ ⟦ flent (a ∷ []) P ⟧ ∗ A.lft (a ∷ []) q ∗ ⟦ units s k ⟧ ⊢ Found b e up after_retain (I a) j
      retain_found j n = qed 𝓛 (‵ (wd n) ∷ ‵ (rest 63 a n) ∷ ‵ (units s n) ∷ ‵ (flent (a ∷ []) P) ∷ ‵ (flft (a ∷ []) q) ∷ ‵ (units s k) ∷ []) ∵ move ! (1 ∷ []) $
          use1 𝓛 (given (0 < n) (‵ (rest 63 a n))) (rest_some 63 𝓛 a n) $ learn ! (λ self_held. move ! (2 ∷ 5 ∷ []) $
          use2 𝓛 (given (n + k ≤ 2 ^ 62) (‵ (units s (n + k)))) (units_glue 𝓛 s n k) $ learn ! (λ fits. use1 𝓛 (‵ (units s (n + 1)) ⊛ ‵ (units s (k - 1))) (units_cut 𝓛 s (n + k) (n + 1) (k - 1) (omega arith)) $ split ! $ move ! (2 ∷ []) $
          use1 𝓛 (‵ (rest 63 a (n + 1)) ⊛ ‵ (part 63 a)) (takes 63 𝓛 a n (omega arith)) $ split ! $
          -- [the rest; the part; the block's units; the holder's; the word; the lender's right; the token]
          move ! (4 ∷ []) $ show ! (found 𝓛 ((j, I a) ∷ []) b e up always after_retain) n $ frame ! $ each ! (λ (_ : always n). back 𝓛 ((j, I a) ∷ []) b e up after_retain n) (λ _. assume ! (‵ (wd (up n))) $
          let is : up n ≡ n + 1 = omega arith in rewrite ! 0 (λ (i : ℕ). ‵ (wd i)) is refl $ move ! (0 ∷ 1 ∷ 3 ∷ 5 ∷ []) $ group ! 4 $ use1 𝓛 (‵ (I a)) (packs a (n + 1)) $
          use0 𝓛 (‵ (fact (k < 2 ^ 62))) (told (k < 2 ^ 62) (omega arith)) $ move ! (4 ∷ 0 ∷ []) $ fjoin ! $ move ! (2 ∷ 3 ∷ 0 ∷ []) $ fjoin3 ! $ move ! (1 ∷ 0 ∷ []) $ by ! (leaves_now b e up after_retain (I a) j n))))

      -- a retain is one step on the word
      pub retains : A.inv (I a) ∗ (A.lft (a ∷ []) q ∗ ⟦ units s k ⟧) ⊢ asks 𝓛 (block_ptr b e) up always after_retain
      retains = inv_asks b e up after_retain (I a) (A.lft (a ∷ []) q ∗ ⟦ units s k ⟧) (λ j. alive a q ⟦ units s k ⟧ (Found b e up after_retain (I a) j) (retain_found j))

    -- ---- end and drop: one handle less

    module _ (alone : Bool) (k : ℕ) where
      -- k units at hand before: k + 1 fit; an alone handle finds 1; who finds more leaves a unit in the block
      abbrev pub Released : ℕ → Type 0
      Released n = (k + 1 ≤ 2 ^ 62) × (alone ≡ true → n ≡ 1) × (n ≢ 1 → k + 1 < 2 ^ 62)

      -- what the last handle has: the word 0, and the block
      abbrev pub Last : Fml
      Last = fsep (wd 0) Got

      -- what a release leaves: one unit more, the block where 1 was found, and what is known
      abbrev pub after_release : ℕ → Fml
      after_release n = fsep (units s (k + 1)) (fsep (fall (n ≡ 1) (λ _. Last)) (fact (Released n)))

      -- the word that fetch_sub writes
      abbrev down : ℕ → ℕ
      down n = (n + (2 ^ 64 - 1)) % 2 ^ 64

    module _ (k : ℕ) where
      -- an alone handle ends: it owns the word, so it finds 1
      alone_ends : ⟦ owns_alone R s alloc b o x ⟧ ∗ ⟦ units s k ⟧ ⊢ asks 𝓛 (block_ptr b e) (down true k) always (after_release true k)
      alone_ends = let f = down true k in qed 𝓛 (‵ (owns_alone R s alloc b o x) ∷ ‵ (units s k) ∷ []) ∵ fsplit3 ! $ move ! (3 ∷ 2 ∷ []) $
          use2 𝓛 (given (k + 1 ≤ 2 ^ 62) (‵ (units s (k + 1)))) (units_glue 𝓛 s k 1) $ learn ! (λ fits. move ! (2 ∷ 0 ∷ 1 ∷ []) $
          by ! (plain_asks b e f (after_release true k) 1 (⟦ units s (k + 1) ⟧ ∗ ⟦ P ⟧) (qed 𝓛 (‵ (wd (f 1)) ∷ ‵ (units s (k + 1)) ∷ ‵ P ∷ []) ∵ move ! (2 ∷ []) $ fpack ! (Bool × ℕ) got (true, 0) $ move ! (1 ∷ 0 ∷ []) $
          let is : f 1 ≡ 0 = omega arith in rewrite ! 0 (λ (i : ℕ). ‵ (wd i)) is refl $ fjoin ! $ use1 𝓛 (‵ (fall (1 ≡ 1) (λ _. Last true k))) (held_if (1 ≡ 1) (Last true k)) $
          use0 𝓛 (‵ (fact (Released true k 1))) (told (Released true k 1) (fits, (λ _. refl), (λ z. absurd (z refl)))) $ move ! (2 ∷ 1 ∷ 0 ∷ []) $ done !)))

      module _ (a : ℕ) where
        -- short names
        abbrev f : ℕ → ℕ
        f = down false k

        abbrev after : ℕ → Fml
        after = after_release false k

        -- a handle that finds 1 has all of a, ends it, and gets the block
        last_ends : (j : ℕ) → ⟦ wd (f 1) ⟧ ∗ ⟦ rest 63 a 1 ⟧ ∗ ⟦ units s 1 ⟧ ∗ ⟦ flent (a ∷ []) P ⟧ ∗ ⟦ part 63 a ⟧ ∗ ⟦ units s k ⟧ ⊢ Left b e f after (I a) j 1
        last_ends j = qed 𝓛 (‵ (wd (f 1)) ∷ ‵ (rest 63 a 1) ∷ ‵ (units s 1) ∷ ‵ (flent (a ∷ []) P) ∷ ‵ (part 63 a) ∷ ‵ (units s k) ∷ []) ∵ move ! (5 ∷ 2 ∷ []) $
            use2 𝓛 (given (k + 1 ≤ 2 ^ 62) (‵ (units s (k + 1)))) (units_glue 𝓛 s k 1) $ learn ! (λ fits. move ! (2 ∷ 4 ∷ []) $ use2 𝓛 (‵ (flft (a ∷ []) full_share)) (whole 63 𝓛 a) $
            by ! (leaves_ended b e f after (I a) a j 1 (⟦ units s (k + 1) ⟧ ∗ ⟦ wd (f 1) ⟧ ∗ ⟦ flent (a ∷ []) P ⟧) (qed 𝓛 (‵ (fdead (a ∷ [])) ∷ ‵ (units s (k + 1)) ∷ ‵ (wd (f 1)) ∷ ‵ (flent (a ∷ []) P) ∷ []) ∵
            use1 𝓛 (‵ (fdead (a ∷ [])) ⊛ ‵ (fdead (a ∷ []))) (𝓛.lfts.dead_dup (a ∷ [])) $ split ! $ use1 𝓛 (‵ (I a)) (gone a) $ frame ! $ move ! (0 ∷ 3 ∷ []) $ fjoin ! $ fpack ! (Bool × ℕ) got (false, a) $
            move ! (2 ∷ 0 ∷ []) $ let is : f 1 ≡ 0 = omega arith in rewrite ! 0 (λ (i : ℕ). ‵ (wd i)) is refl $ fjoin ! $ use1 𝓛 (‵ (fall (1 ≡ 1) (λ _. Last false k))) (held_if (1 ≡ 1) (Last false k)) $
            use0 𝓛 (‵ (fact (Released false k 1))) (told (Released false k 1) (fits, (λ _. refl), (λ z. absurd (z refl)))) $ move ! (2 ∷ 1 ∷ 0 ∷ []) $ done !)))

        -- a handle that finds more leaves its token and takes a unit
        one_ends : (j n : ℕ) → 1 < n → ⟦ wd (f n) ⟧ ∗ ⟦ rest 63 a n ⟧ ∗ ⟦ units s n ⟧ ∗ ⟦ flent (a ∷ []) P ⟧ ∗ ⟦ part 63 a ⟧ ∗ ⟦ units s k ⟧ ⊢ Left b e f after (I a) j n
        one_ends j n many = qed 𝓛 (‵ (wd (f n)) ∷ ‵ (rest 63 a n) ∷ ‵ (units s n) ∷ ‵ (flent (a ∷ []) P) ∷ ‵ (part 63 a) ∷ ‵ (units s k) ∷ []) ∵ move ! (2 ∷ 5 ∷ []) $
            use2 𝓛 (given (n + k ≤ 2 ^ 62) (‵ (units s (n + k)))) (units_glue 𝓛 s n k) $ learn ! (λ fits. use1 𝓛 (‵ (units s (n - 1)) ⊛ ‵ (units s (k + 1))) (units_cut 𝓛 s (n + k) (n - 1) (k + 1) (omega arith)) $ split ! $
            move ! (3 ∷ 5 ∷ []) $ use2 𝓛 (‵ (rest 63 a (n - 1))) (gives 63 𝓛 a n many) $ move ! (3 ∷ 0 ∷ 1 ∷ 4 ∷ []) $
            let is : f n ≡ n - 1 = omega arith in rewrite ! 0 (λ (i : ℕ). ‵ (wd i)) is refl $ group ! 4 $ use1 𝓛 (‵ (I a)) (packs a (n - 1)) $
            use0 𝓛 (‵ (fall (n ≡ 1) (λ _. Last false k))) (void_if (n ≡ 1) (Last false k) (λ z. omega arith)) $
            use0 𝓛 (‵ (fact (Released false k n))) (told (Released false k n) (omega arith, (λ z. absurd (true_not z)), (λ _. omega arith))) $ move ! (2 ∷ 3 ∷ 1 ∷ 0 ∷ []) $
            by ! (via 𝓤 _ (qed 𝓛 (‵ (I a) ∷ ‵ (units s (k + 1)) ∷ ‵ (fall (n ≡ 1) (λ _. Last false k)) ∷ ‵ (fact (Released false k n)) ∷ []) ∵ frame ! $ done !) (leaves_now b e f after (I a) j n)))

        -- by the word that is found
        ends_as : (j n : ℕ) → Dec (n ≡ 1) → ⟦ wd (f n) ⟧ ∗ ⟦ rest 63 a n ⟧ ∗ ⟦ units s n ⟧ ∗ ⟦ flent (a ∷ []) P ⟧ ∗ ⟦ part 63 a ⟧ ∗ ⟦ units s k ⟧ ⊢ Left b e f after (I a) j n
        ends_as j n (yes one) = subst (λ (i : ℕ). ⟦ wd (f i) ⟧ ∗ ⟦ rest 63 a i ⟧ ∗ ⟦ units s i ⟧ ∗ ⟦ flent (a ∷ []) P ⟧ ∗ ⟦ part 63 a ⟧ ∗ ⟦ units s k ⟧ ⊢ Left b e f after (I a) j i) (sym one) (last_ends j)
        ends_as j n (no many) = qed 𝓛 (‵ (wd (f n)) ∷ ‵ (rest 63 a n) ∷ ‵ (units s n) ∷ ‵ (flent (a ∷ []) P) ∷ ‵ (part 63 a) ∷ ‵ (units s k) ∷ []) ∵ move ! (1 ∷ []) $
            use1 𝓛 (given (0 < n) (‵ (rest 63 a n))) (rest_some 63 𝓛 a n) $ learn ! (λ some_held. move ! (1 ∷ 0 ∷ []) $ by ! (one_ends j n (omega arith)))

        -- under the open invariant, whatever the word is
        release_found : (j n : ℕ) → ⟦ wd n ⟧ ∗ ⟦ rest 63 a n ⟧ ∗ ⟦ units s n ⟧ ∗ ⟦ flent (a ∷ []) P ⟧ ∗ ⟦ part 63 a ⟧ ∗ ⟦ units s k ⟧ ⊢ Found b e f after (I a) j
        release_found j n = qed 𝓛 (‵ (wd n) ∷ ‵ (rest 63 a n) ∷ ‵ (units s n) ∷ ‵ (flent (a ∷ []) P) ∷ ‵ (part 63 a) ∷ ‵ (units s k) ∷ []) ∵ show ! (found 𝓛 ((j, I a) ∷ []) b e f always after) n $ frame ! $
            each ! (λ (_ : always n). back 𝓛 ((j, I a) ∷ []) b e f after n) (λ _. assume ! (‵ (wd (f n))) $ by ! (ends_as j n (ℕ_discrete n 1)))

        -- a token shows that a lasts
        parted : (j : ℕ) (X Z : Pr) → ((n : ℕ) → ⟦ wd n ⟧ ∗ ⟦ rest 63 a n ⟧ ∗ ⟦ units s n ⟧ ∗ ⟦ flent (a ∷ []) P ⟧ ∗ ⟦ part 63 a ⟧ ∗ X ⊢ Z) → ⟦ I a ⟧ ∗ ⟦ part 63 a ⟧ ∗ X ⊢ Z
        parted j X Z h = qed 𝓛 (‵ (I a) ∷ ‵ (part 63 a) ∷ raw X ∷ []) ∵ move ! (1 ∷ []) $ fpick ! (λ q. fpick ! (λ one. move ! (1 ∷ 0 ∷ []) $ by ! (alive a q X Z (λ n.
            qed 𝓛 (‵ (wd n) ∷ ‵ (rest 63 a n) ∷ ‵ (units s n) ∷ ‵ (flent (a ∷ []) P) ∷ ‵ (flft (a ∷ []) q) ∷ raw X ∷ []) ∵ move ! (4 ∷ []) $ use1 𝓛 (‵ (part 63 a)) (part_in 63 𝓛 a q one) $ move ! (1 ∷ 2 ∷ 3 ∷ 4 ∷ 0 ∷ []) $ by ! (h n)))))

        -- a handle that is not alone ends
        counted_ends : A.inv (I a) ∗ (⟦ part 63 a ⟧ ∗ ⟦ units s k ⟧) ⊢ asks 𝓛 (block_ptr b e) f always after
        counted_ends = inv_asks b e f after (I a) (⟦ part 63 a ⟧ ∗ ⟦ units s k ⟧) (λ j. parted j ⟦ units s k ⟧ (Found b e f after (I a) j) (release_found j))

      -- a release is one step on the word, alone or not
      pub releases : (alone : Bool) → ⟦ owns_as R s alloc b o alone x ⟧ ∗ ⟦ units s k ⟧ ⊢ asks 𝓛 (block_ptr b e) (λ n. (n + (2 ^ 64 - 1)) % 2 ^ 64) always (after_release alone k)
      releases true = alone_ends
      releases false = qed 𝓛 (‵ (owns_counted R s alloc b o x) ∷ ‵ (units s k) ∷ []) ∵ fpick ! (λ a. fsplit3 ! $ keep ! (1 ∷ 0 ∷ 3 ∷ []) $ by ! (counted_ends a))

      -- ---- sole: whether it is the only handle

      -- an alone handle finds 1; who finds more sees three parts of the stock; whoever asks sees two
      abbrev pub Tested : Bool → ℕ → Type 0
      Tested alone n = (alone ≡ true → n ≡ 1) × (n ≢ 1 → k + 1 < 2 ^ 62) × (k < 2 ^ 62)

      -- what the only handle has: the word 1, its unit, and the block
      abbrev pub Sole : Fml
      Sole = fsep (wd 1) (fsep (units s 1) Got)

      -- what a test leaves: the units at hand, the block where 1 was found, else the handle, and what is known
      abbrev pub after_test : Bool → ℕ → Fml
      after_test alone n = fsep (units s k) (fsep (fall (n ≡ 1) (λ _. Sole)) (fsep (fall (n ≢ 1) (λ _. owns_counted R s alloc b o x)) (fact (Tested alone n))))

      -- the word stays
      abbrev same : ℕ → ℕ
      same n = n

      -- an alone handle finds 1
      alone_sees : ⟦ owns_alone R s alloc b o x ⟧ ∗ ⟦ units s k ⟧ ⊢ asks 𝓛 (block_ptr b e) same always (after_test true)
      alone_sees = let Q : Fml = owns_counted R s alloc b o x in qed 𝓛 (‵ (owns_alone R s alloc b o x) ∷ ‵ (units s k) ∷ []) ∵ fsplit3 ! $ move ! (3 ∷ 2 ∷ []) $
          use2 𝓛 (given (k + 1 ≤ 2 ^ 62) (‵ (units s (k + 1)))) (units_glue 𝓛 s k 1) $ learn ! (λ fits. use1 𝓛 (‵ (units s k) ⊛ ‵ (units s 1)) (units_cut 𝓛 s (k + 1) k 1 refl) $ split ! $ move ! (3 ∷ 0 ∷ 1 ∷ 2 ∷ []) $
          by ! (plain_asks b e same (after_test true) 1 (⟦ units s k ⟧ ∗ ⟦ units s 1 ⟧ ∗ ⟦ P ⟧) (qed 𝓛 (‵ (wd 1) ∷ ‵ (units s k) ∷ ‵ (units s 1) ∷ ‵ P ∷ []) ∵ move ! (3 ∷ []) $ fpack ! (Bool × ℕ) got (true, 0) $ move ! (1 ∷ 3 ∷ 0 ∷ []) $ fjoin3 ! $
          use1 𝓛 (‵ (fall (1 ≡ 1) (λ _. Sole))) (held_if (1 ≡ 1) Sole) $ use0 𝓛 (‵ (fall (1 ≢ 1) (λ _. Q))) (void_if (1 ≢ 1) Q (λ z. z refl)) $
          use0 𝓛 (‵ (fact (Tested true 1))) (told (Tested true 1) ((λ _. refl), (λ z. absurd (z refl)), omega arith)) $ move ! (3 ∷ 2 ∷ 1 ∷ 0 ∷ []) $ done !)))

      module _ (a : ℕ) where
        -- the rest of the handle: the invariant, and the value for reading
        abbrev kept : Fml
        kept = fsep (finv (I a)) (shown R s alloc b o x (a ∷ []))

        -- short names
        abbrev seen : ℕ → Fml
        seen = after_test false

        abbrev Q : Fml
        Q = owns_counted R s alloc b o x

        -- a handle that finds 1 has all of a, ends it, and gets the block
        last_seen : (j : ℕ) → ⟦ wd 1 ⟧ ∗ ⟦ rest 63 a 1 ⟧ ∗ ⟦ units s 1 ⟧ ∗ ⟦ flent (a ∷ []) P ⟧ ∗ ⟦ part 63 a ⟧ ∗ (⟦ units s k ⟧ ∗ ⟦ kept ⟧) ⊢ Left b e same seen (I a) j 1
        last_seen j = qed 𝓛 (‵ (wd 1) ∷ ‵ (rest 63 a 1) ∷ ‵ (units s 1) ∷ ‵ (flent (a ∷ []) P) ∷ ‵ (part 63 a) ∷ ‵ (units s k) ∷ ‵ kept ∷ []) ∵ move ! (1 ∷ 4 ∷ []) $ use2 𝓛 (‵ (flft (a ∷ []) full_share)) (whole 63 𝓛 a) $ keep ! (2 ∷ 4 ∷ 0 ∷ 1 ∷ 3 ∷ []) $
            use2 𝓛 (given (1 + k ≤ 2 ^ 62) (‵ (units s (1 + k)))) (units_glue 𝓛 s 1 k) $ learn ! (λ fits. use1 𝓛 (‵ (units s 1) ⊛ ‵ (units s k)) (units_cut 𝓛 s (1 + k) 1 k refl) $ split ! $ move ! (2 ∷ 3 ∷ 0 ∷ 4 ∷ 1 ∷ []) $
            by ! (leaves_ended b e same seen (I a) a j 1 (⟦ wd 1 ⟧ ∗ ⟦ units s 1 ⟧ ∗ ⟦ flent (a ∷ []) P ⟧ ∗ ⟦ units s k ⟧) (qed 𝓛 (‵ (fdead (a ∷ [])) ∷ ‵ (wd 1) ∷ ‵ (units s 1) ∷ ‵ (flent (a ∷ []) P) ∷ ‵ (units s k) ∷ []) ∵
            use1 𝓛 (‵ (fdead (a ∷ [])) ⊛ ‵ (fdead (a ∷ []))) (𝓛.lfts.dead_dup (a ∷ [])) $ split ! $ use1 𝓛 (‵ (I a)) (gone a) $ frame ! $ move ! (0 ∷ 3 ∷ []) $ fjoin ! $ fpack ! (Bool × ℕ) got (false, a) $
            move ! (1 ∷ 2 ∷ 0 ∷ []) $ fjoin3 ! $ use1 𝓛 (‵ (fall (1 ≡ 1) (λ _. Sole))) (held_if (1 ≡ 1) Sole) $ use0 𝓛 (‵ (fall (1 ≢ 1) (λ _. Q))) (void_if (1 ≢ 1) Q (λ z. z refl)) $
            use0 𝓛 (‵ (fact (Tested false 1))) (told (Tested false 1) ((λ _. refl), (λ z. absurd (z refl)), omega arith)) $ move ! (3 ∷ 2 ∷ 1 ∷ 0 ∷ []) $ done !)))

        -- a handle that finds more stays as it was
        one_seen : (j n : ℕ) → 1 < n → ⟦ wd n ⟧ ∗ ⟦ rest 63 a n ⟧ ∗ ⟦ units s n ⟧ ∗ ⟦ flent (a ∷ []) P ⟧ ∗ ⟦ part 63 a ⟧ ∗ (⟦ units s k ⟧ ∗ ⟦ kept ⟧) ⊢ Left b e same seen (I a) j n
        one_seen j n many = qed 𝓛 (‵ (wd n) ∷ ‵ (rest 63 a n) ∷ ‵ (units s n) ∷ ‵ (flent (a ∷ []) P) ∷ ‵ (part 63 a) ∷ ‵ (units s k) ∷ ‵ kept ∷ []) ∵ move ! (2 ∷ 5 ∷ []) $
            use2 𝓛 (given (n + k ≤ 2 ^ 62) (‵ (units s (n + k)))) (units_glue 𝓛 s n k) $ learn ! (λ fits. use1 𝓛 (‵ (units s n) ⊛ ‵ (units s k)) (units_cut 𝓛 s (n + k) n k refl) $ split ! $
            -- [the block's units; the holder's; the word; the rest; the lender's right; the part; the rest of the handle]
            move ! (5 ∷ 6 ∷ []) $ fjoin ! $ fpack ! ℕ (handle R s alloc b o x) a $ use1 𝓛 (‵ (fall (n ≢ 1) (λ _. Q))) (held_if (n ≢ 1) Q) $ move ! (3 ∷ 4 ∷ 1 ∷ 5 ∷ []) $ group ! 4 $ use1 𝓛 (‵ (I a)) (packs a n) $
            use0 𝓛 (‵ (fall (n ≡ 1) (λ _. Sole))) (void_if (n ≡ 1) Sole (λ z. omega arith)) $
            use0 𝓛 (‵ (fact (Tested false n))) (told (Tested false n) ((λ z. absurd (true_not z)), (λ _. omega arith), omega arith)) $ move ! (2 ∷ 4 ∷ 1 ∷ 3 ∷ 0 ∷ []) $
            by ! (via 𝓤 _ (qed 𝓛 (‵ (I a) ∷ ‵ (units s k) ∷ ‵ (fall (n ≡ 1) (λ _. Sole)) ∷ ‵ (fall (n ≢ 1) (λ _. Q)) ∷ ‵ (fact (Tested false n)) ∷ []) ∵ frame ! $ done !) (leaves_now b e same seen (I a) j n)))

        -- by the word that is found
        seen_as : (j n : ℕ) → Dec (n ≡ 1) → ⟦ wd n ⟧ ∗ ⟦ rest 63 a n ⟧ ∗ ⟦ units s n ⟧ ∗ ⟦ flent (a ∷ []) P ⟧ ∗ ⟦ part 63 a ⟧ ∗ (⟦ units s k ⟧ ∗ ⟦ kept ⟧) ⊢ Left b e same seen (I a) j n
        seen_as j n (yes one) = subst (λ (i : ℕ). ⟦ wd i ⟧ ∗ ⟦ rest 63 a i ⟧ ∗ ⟦ units s i ⟧ ∗ ⟦ flent (a ∷ []) P ⟧ ∗ ⟦ part 63 a ⟧ ∗ (⟦ units s k ⟧ ∗ ⟦ kept ⟧) ⊢ Left b e same seen (I a) j i) (sym one) (last_seen j)
        seen_as j n (no many) = qed 𝓛 (‵ (wd n) ∷ ‵ (rest 63 a n) ∷ ‵ (units s n) ∷ ‵ (flent (a ∷ []) P) ∷ ‵ (part 63 a) ∷ ‵ (units s k) ∷ ‵ kept ∷ []) ∵ move ! (1 ∷ []) $
            use1 𝓛 (given (0 < n) (‵ (rest 63 a n))) (rest_some 63 𝓛 a n) $ learn ! (λ some_held. move ! (1 ∷ 0 ∷ []) $ by ! (one_seen j n (omega arith)))

        -- under the open invariant, whatever the word is
        test_found : (j n : ℕ) → ⟦ wd n ⟧ ∗ ⟦ rest 63 a n ⟧ ∗ ⟦ units s n ⟧ ∗ ⟦ flent (a ∷ []) P ⟧ ∗ ⟦ part 63 a ⟧ ∗ (⟦ units s k ⟧ ∗ ⟦ kept ⟧) ⊢ Found b e same seen (I a) j
        test_found j n = qed 𝓛 (‵ (wd n) ∷ ‵ (rest 63 a n) ∷ ‵ (units s n) ∷ ‵ (flent (a ∷ []) P) ∷ ‵ (part 63 a) ∷ ‵ (units s k) ∷ ‵ kept ∷ []) ∵ show ! (found 𝓛 ((j, I a) ∷ []) b e same always seen) n $ frame ! $
            each ! (λ (_ : always n). back 𝓛 ((j, I a) ∷ []) b e same seen n) (λ _. assume ! (‵ (wd n)) $ by ! (seen_as j n (ℕ_discrete n 1)))

        -- a handle that is not alone tests
        counted_sees : A.inv (I a) ∗ (⟦ part 63 a ⟧ ∗ (⟦ units s k ⟧ ∗ ⟦ kept ⟧)) ⊢ asks 𝓛 (block_ptr b e) same always seen
        counted_sees = inv_asks b e same seen (I a) (⟦ part 63 a ⟧ ∗ (⟦ units s k ⟧ ∗ ⟦ kept ⟧)) (λ j. parted a j (⟦ units s k ⟧ ∗ ⟦ kept ⟧) (Found b e same seen (I a) j) (test_found j))

      -- a test is one step on the word, alone or not
      pub tests : (alone : Bool) → ⟦ owns_as R s alloc b o alone x ⟧ ∗ ⟦ units s k ⟧ ⊢ asks 𝓛 (block_ptr b e) (λ n. n) always (after_test alone)
      tests true = alone_sees
      tests false = qed 𝓛 (‵ (owns_counted R s alloc b o x) ∷ ‵ (units s k) ∷ []) ∵ fpick ! (λ a. fsplit3 ! $ move ! (1 ∷ []) $ use1 𝓛 (‵ (finv (I a)) ⊛ ‵ (finv (I a))) (𝓛.invs.inv_dup (I a)) $ split ! $
          -- [the invariant; the invariant; the part; what is shown; the units]
          move ! (1 ∷ 3 ∷ []) $ fjoin ! $ move ! (1 ∷ 2 ∷ 3 ∷ 0 ∷ []) $ by ! (counted_sees a))
