-- The places of a ring whose items go into a longer buffer.
use Rattle.std.proofs.Common.{◌≡◌, ℕ, ◌+◌, ◌-◌, ◌<◌, ◌≤◌, ◌^◌, inl, inr, List, [], ◌++◌, length, map, take, drop, replicate, Option, Some, None, sym, ap, ◌∙◌, arith, min, length-append, length-drop, append_assoc, append-nil}
use Rattle.std.proofs.lemmas.List.{length-map, length-replicate, length-take-le, take_at, drop_at, take_all, drop_all, take-append-le, drop-append-le, take-append-drop, map-append, take-map, drop-map, drop-replicate, take-replicate, replicate-append-replicate}
use Rattle.std.proofs.Math.Seq.{drop-append-add, take-append-add}
use Rattle.std.specs.List.{splice}
use Rattle.cow_buf.specs.Places.{IsRun, blanked}
use Rattle.cow_buf.proofs.Moves.{below_or}
use Rattle.cow_row.specs.Places.{somes, packed, gapped, IsPacked}
use Rattle.cow_row.proofs.Packed.{is_packed, somes-packed, length-packed}
use Rattle.cow_row.proofs.Whole.{none-left}
use Rattle.cow_deque.specs.Rings.{IsRing}
use Rattle.cow_deque.proofs.Turns.{turned-none}
use Rattle.cow_deque.proofs.Rings.{items_of, is_ring, laid, fits-ring, small-ring}

module _ {X : Type 0} where
  length-somes : (xs : List X) → length (map (λ (x : X). Some x) xs) ≡ length xs
  length-somes xs = length-map xs (λ (x : X). Some x)

  -- items that don't go round the end are those of a row
  pub straight : (cs : List (Option X)) (h n : ℕ) → IsRing cs h n → n ≤ length cs - h → IsPacked cs h n × (somes cs ≡ items_of cs h)
  straight cs h n r l =
      let xs = items_of cs h in let us = drop h cs in let vs = take h cs in
      let a = length cs - h in let m = length cs - h - n in let k = length cs - n in
      let lu : length us ≡ a = length-drop h cs in
      let cut : a ≡ length (map Some xs) + m = omega (arith, length-somes xs, r.packed.count, l) in
      let kept : take m (replicate {A = Option X} k None) ≡ replicate m None = take-replicate m k None (omega arith) in
      let gone : drop m (replicate {A = Option X} k None) ≡ replicate h None = drop-replicate m k None ∙ ap (λ (j : ℕ). replicate j None) (omega (arith, l, r.start)) in
      let first : us ≡ map Some xs ++ replicate m None = sym (take_at us vs a lu) ∙ ap (take a) (laid cs h n r) ∙ ap (λ (j : ℕ). take j (map Some xs ++ replicate k None)) cut ∙ take-append-add (map Some xs) (replicate k None) m ∙ ap (λ (t : List (Option X)). map Some xs ++ t) kept in
      let second : vs ≡ replicate h None = sym (drop_at us vs a lu) ∙ ap (drop a) (laid cs h n r) ∙ ap (λ (j : ℕ). drop j (map Some xs ++ replicate k None)) cut ∙ drop-append-add (map Some xs) (replicate k None) m ∙ gone in
      let row : cs ≡ packed h xs m = sym (take-append-drop h cs) ∙ ap (λ (t : List (Option X)). t ++ us) second ∙ ap (λ (t : List (Option X)). replicate h None ++ t) first in
      (is_packed h xs m n cs row (sym r.packed.count) (omega (arith, r.packed.count, l, r.start, small-ring cs h n r)), ap somes row ∙ somes-packed h xs m)

  -- the others leave their empty places between them
  pub round : (cs : List (Option X)) (h n a : ℕ) → IsRing cs h n → a ≡ length cs - h → a < n → cs ≡ gapped 0 (drop a (items_of cs h)) (length cs - n) (take a (items_of cs h)) 0
  round cs h n a r ea l =
      let xs = items_of cs h in let us = drop h cs in let vs = take h cs in let k = length cs - n in
      let lu : length us ≡ a = length-drop h cs ∙ sym ea in
      let long : a ≤ length (map Some xs) = omega (arith, length-somes xs, r.packed.count, l) in
      let first : us ≡ map Some (take a xs) = sym (take_at us vs a lu) ∙ ap (take a) (laid cs h n r) ∙ take-append-le a (map Some xs) (replicate k None) long ∙ take-map Some a xs in
      let second : vs ≡ map Some (drop a xs) ++ replicate k None = sym (drop_at us vs a lu) ∙ ap (drop a) (laid cs h n r) ∙ drop-append-le a (map Some xs) (replicate k None) long ∙ ap (λ (t : List (Option X)). t ++ replicate k None) (drop-map Some a xs) in
      sym (take-append-drop h cs) ∙ ap (λ (t : List (Option X)). t ++ us) second ∙ append_assoc (map Some (drop a xs)) (replicate k None) us
      ∙ ap (λ (t : List (Option X)). map Some (drop a xs) ++ (replicate k None ++ t)) (first ∙ sym (append-nil (map Some (take a xs))))

  -- the places of a ring: the b items that went on at the beginning, empty places, the a items up to the end, empty places
  pub record Parts (cs : List (Option X)) (h a b : ℕ) (xs : List X) : Type 0 where
    pub gap : ℕ
    pub room : ℕ
    pub places : cs ≡ gapped 0 (drop a xs) gap (take a xs) room
    pub behind : length (drop a xs) ≡ b
    pub first : length (take a xs) ≡ a
    pub start : h ≡ b + gap
    pub small : length cs ≤ 2 ^ 32

  pub parts : (cs : List (Option X)) (h n a : ℕ) → IsRing cs h n → a ≡ min n (length cs - h) → Parts cs h a (n - a) (items_of cs h)
  parts cs h n a r e = elim (below_or (length cs - h) n) [
    | inl l ↦ two l (omega (arith, e, l))
    | inr l ↦ one l (omega (arith, e, l))
  ]
    where
      xs : List X
      xs = items_of cs h

      first : a ≤ n → length (take a xs) ≡ a
      first l = length-take-le a xs (omega (arith, l, r.packed.count))

      behind : length (drop a xs) ≡ n - a
      behind = length-drop a xs ∙ omega (arith, r.packed.count)

      one : n ≤ length cs - h → a ≡ n → Parts cs h a (n - a) xs
      one l ea =
          let row = straight cs h n r l in
          let all : take a xs ≡ xs = take_all a xs (omega (arith, ea, r.packed.count)) in
          let none : drop a xs ≡ [] = drop_all a xs (omega (arith, ea, r.packed.count)) in
          let m = length cs - (h + n) in
          let places : cs ≡ packed h xs m = row.0.places ∙ ap (λ (zs : List X). packed h zs m) row.1 in
          record { gap = h; room = m; places = rw (none, all) places; behind = behind; first = first (omega (arith, ea)); start = omega (arith, ea); small = small-ring cs h n r }

      two : length cs - h < n → a ≡ length cs - h → Parts cs h a (n - a) xs
      two l ea =
          record { gap = length cs - n; room = 0; places = round cs h n a r ea (omega (arith, ea, l)); behind = behind; first = first (omega (arith, ea, l)); start = omega (arith, ea, l, r.start, fits-ring cs h n r); small = small-ring cs h n r }

  module _ (cs : List (Option X)) (h a b : ℕ) (xs : List X) (p : Parts cs h a b xs) where
    abbrev pub ys : List X
    ys = drop a xs

    abbrev pub zs : List X
    zs = take a xs

    abbrev pub before : List (Option X)
    before = map Some ys ++ replicate p.gap None

    abbrev pub rest : List (Option X)
    rest = map Some zs ++ replicate p.room None

    split : cs ≡ before ++ rest
    split = p.places ∙ sym (append_assoc (map Some ys) (replicate p.gap None) rest)

    long-before : length before ≡ h
    long-before = omega (arith, length-append (map Some ys) (replicate {A = Option X} p.gap None), length-somes ys, length-replicate {A = Option X} p.gap None, p.behind, p.start)

    long-zs : length (map (λ (x : X). Some x) zs) ≡ a
    long-zs = length-somes zs ∙ p.first

    pub long : length cs ≡ h + (a + p.room)
    long = ap length split ∙ omega (arith, length-append before rest, long-before, length-append (map Some zs) (replicate {A = Option X} p.room None), long-zs, length-replicate {A = Option X} p.room None)

    front-run : take a (drop h cs) ≡ map Some zs
    front-run = ap (λ (l : List (Option X)). take a (drop h l)) split ∙ ap (take a) (drop_at before rest h long-before) ∙ take_at (map Some zs) (replicate p.room None) a long-zs

    -- the first items are a run
    pub first-run : IsRun cs h a
    first-run = (omega (arith, long), (zs, front-run))

    left-behind : drop (h + a) cs ≡ replicate p.room None
    left-behind =
        ap (drop (h + a)) split ∙ ap (λ (n : ℕ). drop (n + a) (before ++ rest)) (sym long-before)
        ∙ drop-append-add before rest a ∙ drop_at (map Some zs) (replicate p.room None) a long-zs

    -- what is left when they have gone
    pub others : blanked None h a cs ≡ packed 0 ys (p.gap + (a + p.room))
    others =
        ap (λ (l : List (Option X)). take h cs ++ (replicate a None ++ l)) left-behind
        ∙ ap (λ (l : List (Option X)). l ++ (replicate a None ++ replicate p.room None)) (ap (take h) split ∙ take_at before rest h long-before)
        ∙ ap (λ (l : List (Option X)). before ++ l) (replicate-append-replicate a p.room None)
        ∙ append_assoc (map Some ys) (replicate p.gap None) (replicate (a + p.room) None)
        ∙ ap (λ (l : List (Option X)). map Some ys ++ l) (replicate-append-replicate p.gap (a + p.room) None)

    pub others-packed : IsPacked (blanked None h a cs) 0 b × (somes (blanked None h a cs) ≡ ys)
    others-packed = (
      is_packed 0 ys (p.gap + (a + p.room)) b (blanked None h a cs) others (sym p.behind) (omega (arith, p.behind, p.start, long, p.small)),
      ap somes others ∙ somes-packed 0 ys (p.gap + (a + p.room)),
    )

    -- where they come to in a buffer that is empty
    pub came-first : (ws : List (Option X)) → ws ≡ replicate (length ws) None → a + b ≤ length ws → splice ws 0 (0 + a) (take a (drop h cs)) ≡ packed 0 zs (length ws - a)
    came-first ws e l =
        let z : 0 + a ≡ a = omega arith in
        rw z (ap (λ (l : List (Option X)). l ++ drop a ws) front-run ∙ ap (λ (l : List (Option X)). map Some zs ++ l) (ap (drop a) e ∙ drop-replicate a (length ws) None))

    -- and those behind them
    pub came-all : (vs us : List (Option X)) (w : ℕ) → vs ≡ packed 0 zs (w - a) → us ≡ blanked None h a cs → a + b ≤ w → splice vs a (a + b) (take b (drop 0 us)) ≡ packed 0 (zs ++ ys) (w - (a + b))
    came-all vs us w e f l =
        let some : take b us ≡ map Some ys = ap (take b) (f ∙ others) ∙ take_at (map Some ys) (replicate (p.gap + (a + p.room)) None) b (length-somes ys ∙ p.behind) in
        let front : take a vs ≡ map Some zs = ap (take a) e ∙ take_at (map Some zs) (replicate (w - a) None) a long-zs in
        let tail : drop (a + b) vs ≡ replicate (w - (a + b)) None = ap (drop (a + b)) e ∙ ap (λ (n : ℕ). drop (n + b) (packed 0 zs (w - a))) (sym long-zs) ∙ drop-append-add (map Some zs) (replicate (w - a) None) b ∙ drop-replicate b (w - a) None ∙ ap (λ (n : ℕ). replicate n None) (omega arith) in
        rw (some, front, tail) (sym (append_assoc (map Some zs) (map Some ys) (replicate (w - (a + b)) None)) ∙ ap (λ (l : List (Option X)). l ++ replicate (w - (a + b)) None) (sym (map-append Some zs ys)))

    -- nothing is left when all have gone
    pub left : (us vs : List (Option X)) → us ≡ blanked None h a cs → vs ≡ blanked None 0 b us → vs ≡ replicate (length vs) None
    left us vs e f =
        let row : IsPacked us 0 b = rw e others-packed.0 in
        rw f (none-left us 0 b row)

    -- the items from the first place on, in a buffer that was empty
    pub poured : (ws vs us os : List (Option X)) → ws ≡ replicate (length ws) None → a + b ≤ length ws → length ws ≤ 2 ^ 32
        → vs ≡ splice ws 0 (0 + a) (take a (drop h cs)) → us ≡ blanked None h a cs → os ≡ splice vs a (a + b) (take b (drop 0 us))
        → IsRing os 0 (a + b) × (items_of os 0 ≡ xs) × (length os ≡ length ws)
    poured ws vs us os e l s ev eu eo =
        let places : os ≡ packed 0 (zs ++ ys) (length ws - (a + b)) = eo ∙ came-all vs us (length ws) (ev ∙ came-first ws e l) eu l in
        let whole : zs ++ ys ≡ xs = take-append-drop a xs in
        let count : length xs ≡ a + b = omega (arith, ap length whole, length-append zs ys, p.first, p.behind) in
        let row : os ≡ packed 0 xs (length ws - (a + b)) = places ∙ ap (λ (l : List X). packed 0 l (length ws - (a + b))) whole in
        let long : length os ≡ length ws = omega (arith, ap length row, length-packed 0 xs (length ws - (a + b)), count, l) in
        let it = is_ring os 0 (a + b) (length ws - (a + b)) xs (turned-none os ∙ row) (sym count) (omega arith) (omega (arith, long, s)) in
        (it.0, it.1, long)
