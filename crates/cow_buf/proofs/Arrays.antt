-- Runs of places as the arrays that `ptr::copy` and `ptr::copy_nonoverlapping` move. Assumes `Logic`.
use Rattle.std.proofs.Common.{◌≡◌, ℕ, ◌+◌, ◌-◌, ◌*◌, ◌<◌, ◌≤◌, ◌^◌, ◌⊎◌, inl, inr, min, max, Bool, true, false, List, [], ◌∷◌, ◌++◌, map, length, take, drop, replicate, Some, None, refl, sym, ap, ◌∙◌, arith, add_comm, mul-zero}
use Rattle.std.proofs.lemmas.List.{length-map, length-replicate}
use Rattle.std.specs.List.{splice}
use Rattle.std.specs.Ptr.{IsShiftWithinBlock, memory_before_copy, memory_after_copy}
use seplogic.Ra.Ura.{Ura}
use base.Fraction.{full_share}
use base.Logic.{ent, sep, id⊢, mono_r}
use base.Fml.{Fml, fsep, froom}
use mir.Syntax.{ty_array}
use types.Logic.{Logic, sem}
use types.Kit.{‵, ◌⊛◌, given, ◌$◌, ◌∵◌, !, qed, by, move, use1, use2, use3, split, split3, join, learn, rewrite, fsplit, fjoin, done}
use denote.Array.{Array}
use denote.Index.{row}
use denote.Memory.{part_at}
use denote.RawPtr.{block_ptr}
use Rattle.core.proofs.mem.Param.{El, R, el_x, elτ}
use Rattle.core.proofs.ptr.Rows.{whole, apart, times_above, add_times}
use Rattle.core.proofs.ptr.Rows as rows
use Rattle.cow_buf.specs.Block.{row_owns}
use Rattle.cow_buf.specs.Places.{IsClear, IsClearBut, shifted}
use Rattle.cow_buf.proofs.Rows.{Place, sz, parted, glued, of_room, room_of, around, run_out, run_in}
use Rattle.cow_buf.proofs.Moves.{below_or, wide, high, run-length, gap, up-before, up-after, down-before, down-after, between, three-long, apart-up-before, apart-up-after, apart-down-before, apart-down-after}

module _ (E : El) {M : Type 1} {𝓤 : Ura M} (𝓛 : Logic 𝓤) (b : ℕ) where
  open 𝓛 use {H}

  -- the bytes of a place
  abbrev s : ℕ
  s = sz E

  -- the values, as the lemmas on rows of values take them
  abbrev rows-El : rows.El
  rows-El = record { row = E.row; laws = E.laws }

  -- a row of places of block b
  abbrev Row : ℕ → List (Place E) → Fml
  Row = row_owns (R E) b

  -- an array of n values, o bytes into block b
  abbrev Arr : ℕ → ℕ → List (el_x E) → Fml
  Arr n o xs = part_at (Array (R E) n) full_share xs b o

  -- filled places are a row of values
  to_row : (xs : List (el_x E)) (o : ℕ) → ent 𝓤 (sem 𝓛 (Row o (map Some xs))) (sem 𝓛 (row (R E) full_share xs b o))
  to_row [] o = id⊢ 𝓤 _
  to_row (x ∷ xs) o = mono_r 𝓤 (sem 𝓛 (part_at (R E) full_share x b o)) (to_row xs (o + s))

  -- and a row of values is filled places
  of_row : (xs : List (el_x E)) (o : ℕ) → ent 𝓤 (sem 𝓛 (row (R E) full_share xs b o)) (sem 𝓛 (Row o (map Some xs)))
  of_row [] o = id⊢ 𝓤 _
  of_row (x ∷ xs) o = mono_r 𝓤 (sem 𝓛 (part_at (R E) full_share x b o)) (of_row xs (o + s))

  -- filled places are an array
  pub to_array : (n o : ℕ) (xs : List (el_x E)) → length xs ≡ n → ent 𝓤 (sem 𝓛 (Row o (map Some xs))) (sem 𝓛 (Arr n o xs))
  to_array n o xs long = qed 𝓛 (‵ (Row o (map Some xs)) ∷ []) ∵ use1 𝓛 (‵ (row (R E) full_share xs b o)) (to_row xs o) $ by ! (whole rows-El 𝓛 full_share n xs b o long)

  -- and an array is filled places
  pub of_array : (n o : ℕ) (xs : List (el_x E)) → ent 𝓤 (sem 𝓛 (Arr n o xs)) (sem 𝓛 (Row o (map Some xs)))
  of_array n o xs = qed 𝓛 (‵ (Arr n o xs) ∷ []) ∵ use1 𝓛 (given (length xs ≡ n) (‵ (row (R E) full_share xs b o))) (apart rows-El 𝓛 full_share n xs b o) $ learn ! (λ _. by ! (of_row xs o))

  -- a run of values and the empty places beside it, moved by `ptr::copy`
  pub record Slide (cs : List (Place E)) (from to n o : ℕ) : Type 2 where
    pub up : Bool
    pub distance : ℕ
    pub items : List (el_x E)
    pub apart : IsShiftWithinBlock (R E) up distance n (block_ptr b (from * s + o)) (block_ptr b (to * s + o))
    pub Rest : Fml
    pub out : ent 𝓤 (sem 𝓛 (Row o cs)) (sep 𝓤 (sem 𝓛 (memory_before_copy (R E) up distance n (block_ptr b (from * s + o)) (block_ptr b (to * s + o)) items)) (sem 𝓛 Rest))
    pub back : ent 𝓤 (sep 𝓤 (sem 𝓛 (memory_after_copy (R E) up distance n (block_ptr b (from * s + o)) (block_ptr b (to * s + o)) items)) (sem 𝓛 Rest)) (sem 𝓛 (Row o (shifted from to n cs)))

  module _ (cs : List (Place E)) (from to n o : ℕ) (xs : List (el_x E)) (run : take n (drop from cs) ≡ map Some xs) (long : length xs ≡ n)
      (here : from + n ≤ length cs) (there : to + n ≤ length cs) (small : length cs * s + o < 2 ^ 63) where
    ends_below : (i : ℕ) → i ≤ length cs → i * s + o < 2 ^ 63
    ends_below i le = let p = add_times i (length cs - i) s in let q : i + (length cs - i) ≡ length cs = omega arith in let e = ap (λ k. k * s) q in omega arith

    -- to higher places: the room lies behind the run
    upward : from ≤ to → IsClearBut cs from (to + n) from n → Slide cs from to n o
    upward le clear =
        let k : ℕ = to - from in let e : to ≡ from + k = omega arith in let w : ℕ = n + k in let fits : from + w ≤ length cs = omega arith in
        let near : IsClearBut cs from (from + w) from n = λ i l h. clear i l (omega arith) in
        let src : ℕ = from * s + o in let dst : ℕ = to * s + o in
        let far : dst ≡ k * s + src = (let p = ap (λ j. j * s) e in let q = add_times from k s in omega arith) in
        record {
          up = true;
          distance = k;
          items = xs;
          apart = (ap (block_ptr b) far, (let p = ends_below (from + w) fits in let q = add_times from w s in omega arith));
          Rest = around E 𝓛 b o from w cs;
          out = qed 𝓛 (‵ (Row o cs) ∷ []) ∵ use1 𝓛 (‵ (Row src (take w (drop from cs))) ⊛ ‵ (around E 𝓛 b o from w cs)) (run_out E 𝓛 b cs o from w fits) $ split ! $
              rewrite ! 0 (λ (l : List (Place E)). ‵ (Row src l)) (up-before cs from to n xs run here there k e near) refl $
              use1 𝓛 (‵ (Row src (map Some xs)) ⊛ ‵ (Row (n * s + src) (replicate k None))) (parted E 𝓛 b (map Some xs) (replicate k None) src (n * s + src) (ap (λ j. j * s + src) (sym (length-map xs Some ∙ long)))) $ split ! $
              use1 𝓛 (‵ (Arr n src xs)) (to_array n src xs long) $ move ! (1 ∷ []) $ use1 𝓛 (‵ (froom (ty_array (elτ E) k) b (n * s + src))) (room_of E 𝓛 b k (n * s + src)) $ move ! (1 ∷ 0 ∷ []) $ fjoin ! $ done !;
          back = qed 𝓛 (‵ (fsep (Arr n dst xs) (froom (ty_array (elτ E) k) b src)) ∷ ‵ (around E 𝓛 b o from w cs) ∷ []) ∵ fsplit ! $
              use1 𝓛 (‵ (Row dst (map Some xs))) (of_array n dst xs) $ move ! (1 ∷ []) $ use1 𝓛 (‵ (Row src (replicate k None))) (of_room E 𝓛 b k src) $ move ! (0 ∷ 1 ∷ []) $
              use2 𝓛 (‵ (Row src (replicate k None ++ map Some xs))) (glued E 𝓛 b (replicate k None) (map Some xs) src dst (far ∙ ap (λ j. j * s + src) (sym (length-replicate k None)))) $
              use2 𝓛 (‵ (Row o (splice cs from (from + w) (replicate k None ++ map Some xs)))) (run_in E 𝓛 b cs o from w fits (replicate k None ++ map Some xs) (wide cs from to n xs run here there k e near)) $
              rewrite ! 0 (λ (l : List (Place E)). ‵ (Row o l)) (up-after cs from to n xs run here there k e near) refl $ done !;
        }

    -- to lower places, where a value takes bytes: the room lies before the run
    downward : to ≤ from → 0 < (from - to) * s → IsClearBut cs to (from + n) from n → Slide cs from to n o
    downward le apart clear =
        let k : ℕ = from - to in let e : from ≡ to + k = omega arith in let w : ℕ = k + n in let fits : to + w ≤ length cs = omega arith in
        let near : IsClearBut cs to (to + w) from n = λ i l h. clear i l (omega arith) in
        let src : ℕ = from * s + o in let dst : ℕ = to * s + o in
        let far : src ≡ k * s + dst = (let p = ap (λ j. j * s) e in let q = add_times to k s in omega arith) in
        record {
          up = false;
          distance = k;
          items = xs;
          apart = (ap (block_ptr b) far, (let p = ends_below (to + w) fits in let q = add_times to w s in let r = ap (λ j. j * s) (add_comm k n) in omega arith), apart);
          Rest = around E 𝓛 b o to w cs;
          out = qed 𝓛 (‵ (Row o cs) ∷ []) ∵ use1 𝓛 (‵ (Row dst (take w (drop to cs))) ⊛ ‵ (around E 𝓛 b o to w cs)) (run_out E 𝓛 b cs o to w fits) $ split ! $
              rewrite ! 0 (λ (l : List (Place E)). ‵ (Row dst l)) (down-before cs from to n xs run here there k e near) refl $
              use1 𝓛 (‵ (Row dst (replicate k None)) ⊛ ‵ (Row src (map Some xs))) (parted E 𝓛 b (replicate k None) (map Some xs) dst src (far ∙ ap (λ j. j * s + dst) (sym (length-replicate k None)))) $ split ! $
              use1 𝓛 (‵ (froom (ty_array (elτ E) k) b dst)) (room_of E 𝓛 b k dst) $ move ! (1 ∷ []) $ use1 𝓛 (‵ (Arr n src xs)) (to_array n src xs long) $ fjoin ! $ done !;
          back = qed 𝓛 (‵ (fsep (Arr n dst xs) (froom (ty_array (elτ E) k) b (n * s + dst))) ∷ ‵ (around E 𝓛 b o to w cs) ∷ []) ∵ fsplit ! $
              use1 𝓛 (‵ (Row dst (map Some xs))) (of_array n dst xs) $ move ! (1 ∷ []) $ use1 𝓛 (‵ (Row (n * s + dst) (replicate k None))) (of_room E 𝓛 b k (n * s + dst)) $ move ! (1 ∷ 0 ∷ []) $
              use2 𝓛 (‵ (Row dst (map Some xs ++ replicate k None))) (glued E 𝓛 b (map Some xs) (replicate k None) dst (n * s + dst) (ap (λ j. j * s + dst) (sym (length-map xs Some ∙ long)))) $
              use2 𝓛 (‵ (Row o (splice cs to (to + w) (map Some xs ++ replicate k None)))) (run_in E 𝓛 b cs o to w fits (map Some xs ++ replicate k None) (high cs from to n xs run here there k e near)) $
              rewrite ! 0 (λ (l : List (Place E)). ‵ (Row o l)) (down-after cs from to n xs run here there k e near) refl $ done !;
        }

    -- downward, where a value takes no bytes: the places all lie at one address
    in_place : to < from → s ≡ 0 → IsClearBut cs to (from + n) from n → Slide cs from to n o
    in_place lt none clear =
        let k : ℕ = from - to in let e : from ≡ to + k = omega arith in let w : ℕ = k + n in let fits : to + w ≤ length cs = omega arith in
        let near : IsClearBut cs to (to + w) from n = λ i l h. clear i l (omega arith) in
        let src : ℕ = from * s + o in let dst : ℕ = to * s + o in
        let zero-times : (j : ℕ) → j * s ≡ 0 = λ j. ap (λ i. j * i) none ∙ mul-zero j in
        let same : dst ≡ k * s + src = (let p = zero-times from in let q = zero-times to in let r = zero-times k in omega arith) in
        let one : src ≡ k * s + dst = (let p = zero-times from in let q = zero-times to in let r = zero-times k in omega arith) in
        let next : n * s + src ≡ dst = (let p = zero-times from in let q = zero-times to in let r = zero-times n in omega arith) in
        let last : n * s + dst ≡ src = (let p = zero-times from in let q = zero-times to in let r = zero-times n in omega arith) in
        record {
          up = true;
          distance = k;
          items = xs;
          apart = (ap (block_ptr b) same, (let p = ends_below from (omega arith) in let q = zero-times (n + k) in omega arith));
          Rest = around E 𝓛 b o to w cs;
          out = qed 𝓛 (‵ (Row o cs) ∷ []) ∵ use1 𝓛 (‵ (Row dst (take w (drop to cs))) ⊛ ‵ (around E 𝓛 b o to w cs)) (run_out E 𝓛 b cs o to w fits) $ split ! $
              rewrite ! 0 (λ (l : List (Place E)). ‵ (Row dst l)) (down-before cs from to n xs run here there k e near) refl $
              use1 𝓛 (‵ (Row dst (replicate k None)) ⊛ ‵ (Row src (map Some xs))) (parted E 𝓛 b (replicate k None) (map Some xs) dst src (one ∙ ap (λ j. j * s + dst) (sym (length-replicate k None)))) $ split ! $
              use1 𝓛 (‵ (froom (ty_array (elτ E) k) b dst)) (room_of E 𝓛 b k dst) $ rewrite ! 0 (λ (j : ℕ). ‵ (froom (ty_array (elτ E) k) b j)) (sym next) refl $
              move ! (1 ∷ []) $ use1 𝓛 (‵ (Arr n src xs)) (to_array n src xs long) $ fjoin ! $ done !;
          back = qed 𝓛 (‵ (fsep (Arr n dst xs) (froom (ty_array (elτ E) k) b src)) ∷ ‵ (around E 𝓛 b o to w cs) ∷ []) ∵ fsplit ! $
              use1 𝓛 (‵ (Row dst (map Some xs))) (of_array n dst xs) $ move ! (1 ∷ []) $ rewrite ! 0 (λ (j : ℕ). ‵ (froom (ty_array (elτ E) k) b j)) (sym last) refl $
              use1 𝓛 (‵ (Row (n * s + dst) (replicate k None))) (of_room E 𝓛 b k (n * s + dst)) $ move ! (1 ∷ 0 ∷ []) $
              use2 𝓛 (‵ (Row dst (map Some xs ++ replicate k None))) (glued E 𝓛 b (map Some xs) (replicate k None) dst (n * s + dst) (ap (λ j. j * s + dst) (sym (length-map xs Some ∙ long)))) $
              use2 𝓛 (‵ (Row o (splice cs to (to + w) (map Some xs ++ replicate k None)))) (run_in E 𝓛 b cs o to w fits (map Some xs ++ replicate k None) (high cs from to n xs run here there k e near)) $
              rewrite ! 0 (λ (l : List (Place E)). ‵ (Row o l)) (down-after cs from to n xs run here there k e near) refl $ done !;
        }

    -- whichever way the run moves
    pub slides : IsClearBut cs (min from to) (max from to + n) from n → Slide cs from to n o
    slides clear = by (below_or to from) (below_or 0 s)
      where
        by : (to < from) ⊎ (from ≤ to) → (0 < s) ⊎ (s ≤ 0) → Slide cs from to n o
        by (inl lt) (inl some) = downward (omega arith) (let p = times_above (from - to) s some in omega arith) (λ i l h. clear i (omega arith) (omega arith))
        by (inl lt) (inr none) = in_place lt (omega arith) (λ i l h. clear i (omega arith) (omega arith))
        by (inr le) q = upward le (λ i l h. clear i (omega arith) (omega arith))

  -- two runs of a row, and what lies between them
  three_out : (p m q : List (Place E)) (o o₁ o₂ : ℕ) → o₁ ≡ length p * s + o → o₂ ≡ length m * s + o₁ → ent 𝓤 (sem 𝓛 (Row o (p ++ (m ++ q)))) (sep 𝓤 (sem 𝓛 (Row o p)) (sep 𝓤 (sem 𝓛 (Row o₂ q)) (sem 𝓛 (Row o₁ m))))
  three_out p m q o o₁ o₂ e₁ e₂ = qed 𝓛 (‵ (Row o (p ++ (m ++ q))) ∷ []) ∵ use1 𝓛 (‵ (Row o p) ⊛ ‵ (Row o₁ (m ++ q))) (parted E 𝓛 b p (m ++ q) o o₁ e₁) $ split ! $ move ! (1 ∷ []) $
      use1 𝓛 (‵ (Row o₁ m) ⊛ ‵ (Row o₂ q)) (parted E 𝓛 b m q o₁ o₂ e₂) $ split ! $ move ! (1 ∷ 0 ∷ []) $ join ! $ move ! (1 ∷ 0 ∷ []) $ join ! $ done !

  -- and the three are one row again
  three_in : (p m q : List (Place E)) (o o₁ o₂ : ℕ) → o₁ ≡ length p * s + o → o₂ ≡ length m * s + o₁ → ent 𝓤 (sep 𝓤 (sem 𝓛 (Row o p)) (sep 𝓤 (sem 𝓛 (Row o₂ q)) (sem 𝓛 (Row o₁ m)))) (sem 𝓛 (Row o (p ++ (m ++ q))))
  three_in p m q o o₁ o₂ e₁ e₂ = qed 𝓛 (‵ (Row o p) ∷ ‵ (Row o₂ q) ∷ ‵ (Row o₁ m) ∷ []) ∵ move ! (2 ∷ 1 ∷ []) $
      use2 𝓛 (‵ (Row o₁ (m ++ q))) (glued E 𝓛 b m q o₁ o₂ e₂) $ move ! (1 ∷ 0 ∷ []) $ by ! (glued E 𝓛 b p (m ++ q) o o₁ e₁)

  -- a run of values and the empty places that it goes to, apart from it
  pub record Transfer (cs : List (Place E)) (from to n o : ℕ) : Type 2 where
    pub Rest : Fml
    pub items : List (el_x E)
    pub out : ent 𝓤 (sem 𝓛 (Row o cs)) (sep 𝓤 (sem 𝓛 (fsep (Arr n (from * s + o) items) (froom (ty_array (elτ E) n) b (to * s + o)))) (sem 𝓛 Rest))
    pub back : ent 𝓤 (sep 𝓤 (sem 𝓛 (fsep (Arr n (to * s + o) items) (froom (ty_array (elτ E) n) b (from * s + o)))) (sem 𝓛 Rest)) (sem 𝓛 (Row o (shifted from to n cs)))

  module _ (cs : List (Place E)) (from to n o : ℕ) (xs : List (el_x E)) (run : take n (drop from cs) ≡ map Some xs) (long : length xs ≡ n)
      (here : from + n ≤ length cs) (there : to + n ≤ length cs) (clear : IsClear cs to (to + n)) where
    -- the run has n places
    all : length (map Some xs) ≡ n
    all = length-map xs Some ∙ long

    -- as many empty places take its place
    none : length (replicate n (gap cs)) ≡ n
    none = length-replicate n (gap cs)

    -- the run that is moved lies first
    above : (m : ℕ) → to ≡ from + n + m → Transfer cs from to n o
    above m e =
        let w : ℕ = n + (m + n) in let fits : from + w ≤ length cs = omega arith in
        let gone : List (Place E) = between cs from to n xs run here there m clear from in
        let gone-long : length gone ≡ m = run-length (gap cs) cs (from + n) m (omega arith) in
        let src : ℕ = from * s + o in let dst : ℕ = to * s + o in let o₁ : ℕ = n * s + src in
        let far : dst ≡ m * s + o₁ = (let p = ap (λ j. j * s) e in let q = add_times (from + n) m s in let r = add_times from n s in omega arith) in
        record {
          items = xs;
          Rest = fsep (Row o₁ gone) (around E 𝓛 b o from w cs);
          out = qed 𝓛 (‵ (Row o cs) ∷ []) ∵ use1 𝓛 (‵ (Row src (take w (drop from cs))) ⊛ ‵ (around E 𝓛 b o from w cs)) (run_out E 𝓛 b cs o from w fits) $ split ! $
              rewrite ! 0 (λ (l : List (Place E)). ‵ (Row src l)) (apart-up-before cs from to n xs run here there m clear e) refl $
              use1 𝓛 (‵ (Row src (map Some xs)) ⊛ ‵ (Row dst (replicate n None)) ⊛ ‵ (Row o₁ gone)) (three_out (map Some xs) gone (replicate n None) src o₁ dst (ap (λ j. j * s + src) (sym all)) (far ∙ ap (λ j. j * s + o₁) (sym gone-long))) $ split3 ! $
              use1 𝓛 (‵ (Arr n src xs)) (to_array n src xs long) $ move ! (1 ∷ []) $ use1 𝓛 (‵ (froom (ty_array (elτ E) n) b dst)) (room_of E 𝓛 b n dst) $ move ! (1 ∷ 0 ∷ []) $ fjoin ! $ move ! (1 ∷ 2 ∷ []) $ fjoin ! $ move ! (1 ∷ 0 ∷ []) $ done !;
          back = qed 𝓛 (‵ (fsep (Arr n dst xs) (froom (ty_array (elτ E) n) b src)) ∷ ‵ (fsep (Row o₁ gone) (around E 𝓛 b o from w cs)) ∷ []) ∵ fsplit ! $
              use1 𝓛 (‵ (Row dst (map Some xs))) (of_array n dst xs) $ move ! (1 ∷ []) $ use1 𝓛 (‵ (Row src (replicate n None))) (of_room E 𝓛 b n src) $ move ! (2 ∷ []) $ fsplit ! $ move ! (2 ∷ 3 ∷ 0 ∷ []) $
              use3 𝓛 (‵ (Row src (replicate n None ++ (gone ++ map Some xs)))) (three_in (replicate n None) gone (map Some xs) src o₁ dst (ap (λ j. j * s + src) (sym none)) (far ∙ ap (λ j. j * s + o₁) (sym gone-long))) $
              use2 𝓛 (‵ (Row o (splice cs from (from + w) (replicate n None ++ (gone ++ map Some xs))))) (run_in E 𝓛 b cs o from w fits (replicate n None ++ (gone ++ map Some xs)) (three-long cs from to n xs run here there m clear from fits (replicate n None) (map Some xs) none all)) $
              rewrite ! 0 (λ (l : List (Place E)). ‵ (Row o l)) (apart-up-after cs from to n xs run here there m clear e) refl $ done !;
        }

    -- the places that it goes to lie first
    below : (m : ℕ) → from ≡ to + n + m → Transfer cs from to n o
    below m e =
        let w : ℕ = n + (m + n) in let fits : to + w ≤ length cs = omega arith in
        let gone : List (Place E) = between cs from to n xs run here there m clear to in
        let gone-long : length gone ≡ m = run-length (gap cs) cs (to + n) m (omega arith) in
        let src : ℕ = from * s + o in let dst : ℕ = to * s + o in let o₁ : ℕ = n * s + dst in
        let far : src ≡ m * s + o₁ = (let p = ap (λ j. j * s) e in let q = add_times (to + n) m s in let r = add_times to n s in omega arith) in
        record {
          items = xs;
          Rest = fsep (Row o₁ gone) (around E 𝓛 b o to w cs);
          out = qed 𝓛 (‵ (Row o cs) ∷ []) ∵ use1 𝓛 (‵ (Row dst (take w (drop to cs))) ⊛ ‵ (around E 𝓛 b o to w cs)) (run_out E 𝓛 b cs o to w fits) $ split ! $
              rewrite ! 0 (λ (l : List (Place E)). ‵ (Row dst l)) (apart-down-before cs from to n xs run here there m clear e) refl $
              use1 𝓛 (‵ (Row dst (replicate n None)) ⊛ ‵ (Row src (map Some xs)) ⊛ ‵ (Row o₁ gone)) (three_out (replicate n None) gone (map Some xs) dst o₁ src (ap (λ j. j * s + dst) (sym none)) (far ∙ ap (λ j. j * s + o₁) (sym gone-long))) $ split3 ! $
              use1 𝓛 (‵ (froom (ty_array (elτ E) n) b dst)) (room_of E 𝓛 b n dst) $ move ! (1 ∷ []) $ use1 𝓛 (‵ (Arr n src xs)) (to_array n src xs long) $ fjoin ! $ move ! (1 ∷ 2 ∷ []) $ fjoin ! $ move ! (1 ∷ 0 ∷ []) $ done !;
          back = qed 𝓛 (‵ (fsep (Arr n dst xs) (froom (ty_array (elτ E) n) b src)) ∷ ‵ (fsep (Row o₁ gone) (around E 𝓛 b o to w cs)) ∷ []) ∵ fsplit ! $
              use1 𝓛 (‵ (Row dst (map Some xs))) (of_array n dst xs) $ move ! (1 ∷ []) $ use1 𝓛 (‵ (Row src (replicate n None))) (of_room E 𝓛 b n src) $ move ! (2 ∷ []) $ fsplit ! $ move ! (3 ∷ 2 ∷ 0 ∷ []) $
              use3 𝓛 (‵ (Row dst (map Some xs ++ (gone ++ replicate n None)))) (three_in (map Some xs) gone (replicate n None) dst o₁ src (ap (λ j. j * s + dst) (sym all)) (far ∙ ap (λ j. j * s + o₁) (sym gone-long))) $
              use2 𝓛 (‵ (Row o (splice cs to (to + w) (map Some xs ++ (gone ++ replicate n None))))) (run_in E 𝓛 b cs o to w fits (map Some xs ++ (gone ++ replicate n None)) (three-long cs from to n xs run here there m clear to fits (map Some xs) (replicate n None) all none)) $
              rewrite ! 0 (λ (l : List (Place E)). ‵ (Row o l)) (apart-down-after cs from to n xs run here there m clear e) refl $ done !;
        }

    -- whichever of the two lies first
    pub transfers : min from to + n ≤ max from to → Transfer cs from to n o
    transfers apart = by (below_or from to)
      where
        by : (from < to) ⊎ (to ≤ from) → Transfer cs from to n o
        by (inl lt) = above (to - from - n) (omega arith)
        by (inr le) = below (from - to - n) (omega arith)
