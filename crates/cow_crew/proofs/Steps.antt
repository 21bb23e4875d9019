-- Each step keeps the rule.
use Rattle.std.proofs.lemmas.List.{length-map, append-nil}
use Rattle.std.proofs.Common.{◌≡◌, ℕ, zero, suc, ◌+◌, ◌*◌, ◌%◌, ◌^◌, ◌<◌, ◌≤◌, ◌≢◌, ◌⊎◌, inl, inr, ⊎_elim, List, [], ◌∷◌, ◌++◌, length, set, slice_index, slice_set, sym, refl, ap, subst, ◌∙◌, arith}
use mathlib.Core.Option.{some, none, some-injective, some-ne-none}
use native.Mathlib.Decide.{dec_lt, dec_le, ℕ_discrete}
use lib.ListN.{get_elem?}
use Rattle.atomic_table.specs.Table.{State, Me, step, Act, takes, gives, chain, put_back, rest, carried_after, homes_after, Valid, Allows, Splits, Joins, opening, Final, Seen}
use Rattle.atomic_table.proofs.Lists.{at_set, at_snoc, set_here, set_else, at_longer, at_map}
use Rattle.cow_crew.specs.declared.place.Place.{Place}
use Rattle.cow_crew.specs.declared.rule.View.{View}
use Rattle.cow_crew.specs.Rule.{total, times, ends, last, last_of, next_after, EndsPast, IsWaiting, IsDone, IsReady, IsOut, IsViewOf, IsKept, opened, drawn_by, left, right, both, spent, HasDrawn}
use Rattle.cow_crew.proofs.Counts.{total_set, total_snoc, total_less, one_le, two_le, times-append, ends-append, last-append, last_times, last_ends}

pub last_both : (xs ys : List ℕ) → ((ys ≡ []) × (last (xs ++ ys) ≡ last xs)) ⊎ ((last (xs ++ ys) ≡ last ys) × ((x : ℕ) × (last ys ≡ some x)))
last_both xs [] = inl (refl, ap last (append-nil xs))
last_both xs (y ∷ ys) = inr (last-append xs y ys, (last_of y ys, refl))

pub some_within : {A : Type 0} (l : List A) (i : ℕ) (a : A) → get_elem? l i ≡ some a → i < length l
some_within [] i a e = absurd (some-ne-none a (sym e))
some_within (x ∷ xs) zero a e = omega arith
some_within (x ∷ xs) (suc i) a e = let h = some_within xs i a e in omega (arith, h)

pub some_at : {A : Type 0} (l : List A) (i : ℕ) → i < length l → (a : A) × (get_elem? l i ≡ some a)
some_at [] i h = absurd (omega arith)
some_at (x ∷ xs) zero h = (x, refl)
some_at (x ∷ xs) (suc i) h = some_at xs i (omega arith)

length-put : {A : Type 0} (l : List A) (i : ℕ) (a : A) → length (set l i a) ≡ length l
length-put [] i a = refl
length-put (x ∷ xs) zero a = refl
length-put (x ∷ xs) (suc i) a = ap suc (length-put xs i a)

module _ {J X : Type 0} (R : J → X → Type 0) (jobs : List J) where
  -- after the slot was given back, what lies at i
  abbrev Back : List (mathlib.Core.Option.Option (Place J X)) → Me (Place J X) (View J) → ℕ → J → Type 0
  Back hs m i j = ((last m.0.numbers ≡ some i) × ((y : Place J X) × (get_elem? (put_back hs m.1) i ≡ some (some y)) × IsDone R j y))
      ⊎ ((last m.0.numbers ≢ some i) × (get_elem? (put_back hs m.1) i ≡ get_elem? hs i))

  back : (hs : List (mathlib.Core.Option.Option (Place J X))) (v : View J) (c : List (ℕ × Place J X)) → v.jobs ≡ jobs → length hs ≡ length jobs → IsReady R (v, c) → (i : ℕ) (j : J) → get_elem? jobs i ≡ some j → Back hs (v, c) i j
  back hs v c is wide (inl (none_yet, empty)) i j at =
      inr ((λ e. some-ne-none i (sym e ∙ ap last none_yet)), ap (λ (d : List (ℕ × Place J X)). get_elem? (put_back hs d) i) empty)
  back hs v c is wide (inr (k, y, j', lst, has, at', did)) i j at =
      elim (ℕ_discrete k i) [
        | yes e ↦
            let here : get_elem? (set hs k (some y)) k ≡ some (some y) = set_here hs k (some y) (let h = some_within v.jobs k j' at' in let w : length v.jobs ≡ length jobs = ap length is in omega (arith, h, w, wide)) in
            let one : j' ≡ j = some-injective j' j (sym at' ∙ ap (λ (l : List J). get_elem? l k) is ∙ ap (get_elem? jobs) e ∙ at) in
            let P : ℕ → Type 0 = λ z. get_elem? (set hs k (some y)) z ≡ some (some y) in
            let D : J → Type 0 = λ z. IsDone R z y in
            inl (lst ∙ ap some e, (y, ap (λ (d : List (ℕ × Place J X)). get_elem? (put_back hs d) i) has ∙ subst P e here, subst D one did))
        | no n ↦
            inr ((λ e. n (some-injective k i (sym lst ∙ e))), ap (λ (d : List (ℕ × Place J X)). get_elem? (put_back hs d) i) has ∙ set_else hs k i (some y) (λ e. n (sym e)))
      ]

  not_ended : (v : View J) (c : List (ℕ × Place J X)) → v.jobs ≡ jobs → IsReady R (v, c) → ¬ (EndsPast (length jobs) v.numbers)
  not_ended v c is (inl (none_yet, empty)) (i, e, h) = some-ne-none i (sym e ∙ ap last none_yet)
  not_ended v c is (inr (k, y, j', lst, has, at', did)) (i, e, h) =
      let q : k ≡ i = some-injective k i (sym lst ∙ e) in let low = some_within v.jobs k j' at' in let w : length v.jobs ≡ length jobs = ap length is in omega (arith, q, low, w, h)

  -- the last number of a view was drawn
  was_drawn : (s : State (Place J X) (View J)) (k : IsKept R jobs s) (port i : ℕ) (u : View J) → get_elem? s.views port ≡ some u → last u.numbers ≡ some i → i < k.drawn
  was_drawn s k port i u at e =
      let a = one_le (λ v. times i v.numbers) s.views port u at in let b = last_times u.numbers i e in let t = k.once i in omega (arith, a, b, t)

  rises : (s : State (Place J X) (View J)) (k : IsKept R jobs s) (port : ℕ) (u : View J) (xs : List ℕ) → u.numbers ≡ xs → get_elem? s.views port ≡ some u → next_after xs ≤ k.drawn
  rises s k port u [] e at = omega arith
  rises s k port u (x ∷ xs) e at = let low : last_of x xs < k.drawn = was_drawn s k port (last_of x xs) u at (ap last e) in omega (arith, low)

  -- and it stands in no other view
  is_alone : (s : State (Place J X) (View J)) (k : IsKept R jobs s) (port id i : ℕ) (u v : View J) → port ≢ id → get_elem? s.views port ≡ some u → get_elem? s.views id ≡ some v
      → last u.numbers ≡ some i → last v.numbers ≢ some i
  is_alone s k port id i u v n a b e d =
      let t = two_le (λ w. times i w.numbers) s.views port id u v n a b in let x = last_times u.numbers i e in let y = last_times v.numbers i d in let o = k.once i in omega (arith, t, x, y, o)

  length_back : (hs : List (mathlib.Core.Option.Option (Place J X))) (c : List (ℕ × Place J X)) → length (put_back hs c) ≡ length hs
  length_back hs [] = refl
  length_back hs (x ∷ xs) = length-put hs x.0 (some x.1)

  rest_back : (v : View J) (c : List (ℕ × Place J X)) → IsReady R (v, c) → rest c ≡ []
  rest_back v c (inl (none_yet, empty)) = ap rest empty
  rest_back v c (inr (k, y, j, lst, has, at, did)) = ap rest has

  carried_back : (v : View J) (c : List (ℕ × Place J X)) → IsReady R (v, c) → (w : ℕ) (y : Place J X) → (w, y) ∷ rest c ≡ (w, y) ∷ []
  carried_back v c ready w y = ap (λ (l : List (ℕ × Place J X)). (w, y) ∷ l) (rest_back v c ready)

  module _ (s : State (Place J X) (View J)) (k : IsKept R jobs s) (id : ℕ) (v : View J) (c : List (ℕ × Place J X)) (seated : get_elem? s.views id ≡ some v) (some_part : 0 < v.parts) (is : v.jobs ≡ jobs)
      (ready : IsReady R (v, c)) where
    few : k.drawn < 2 * length jobs + 1
    few =
        let mine = (k.each_view id v seated).may_draw some_part (not_ended v c is ready) in
        let t = total_less (λ u. ends (length jobs) u.numbers) (λ u. u.parts) s.views (λ i u at. (k.each_view i u at).room) id v seated mine in
        let p = k.parts in let e = k.ended in omega (arith, t, p, e)

    next_view : IsViewOf jobs (drawn_by v k.drawn)
    next_view =
        let n : ℕ = length jobs in
        let mine = (k.each_view id v seated).may_draw some_part (not_ended v c is ready) in
        let sum : ends n (v.numbers ++ k.drawn ∷ []) ≡ ends n v.numbers + ends n (k.drawn ∷ []) = ends-append n v.numbers (k.drawn ∷ []) in
        let last_is : last (v.numbers ++ k.drawn ∷ []) ≡ some k.drawn = last-append v.numbers k.drawn [] in
        record {
          jobs_are = λ p. is;
          idle = λ z. absurd (omega (arith, z, some_part));
          room = omega (arith, sum, mine);
          may_draw = λ p open_. elim (dec_le n k.drawn) [
            | yes h ↦ absurd (open_ (k.drawn, last_is, h))
            | no h ↦ omega (arith, sum, mine, h)
          ];
        }

    module _ (H' : List (mathlib.Core.Option.Option (Place J X))) (long : length H' ≡ length jobs)
        (same_at : (i : ℕ) (j : J) → get_elem? jobs i ≡ some j → i ≢ k.drawn → get_elem? H' i ≡ get_elem? (put_back s.homes c) i)
        (gone : k.drawn < length jobs → get_elem? H' k.drawn ≡ some none) (w' : ℕ) (one_more : w' ≡ k.drawn + 1) where
      back_in : (i : ℕ) (j : J) → get_elem? jobs i ≡ some j → Back s.homes (v, c) i j
      back_in = back s.homes v c is k.wide ready

      kept_out : (i : ℕ) → i < length jobs → IsOut (set s.views id (drawn_by v k.drawn)) i → get_elem? H' i ≡ some none
      kept_out i lt (port, u, at, e) =
          let some_job = some_at jobs i lt in
          let last_is : last (v.numbers ++ k.drawn ∷ []) ≡ some k.drawn = last-append v.numbers k.drawn [] in
          ⊎_elim
          (λ t.
          let L : View J → Type 0 = λ z. last z.numbers ≡ some i in
          let mine : last (v.numbers ++ k.drawn ∷ []) ≡ some i = subst L (sym t.1) e in
          let q : k.drawn ≡ i = some-injective k.drawn i (sym last_is ∙ mine) in
          let G : ℕ → Type 0 = λ z. get_elem? H' z ≡ some none in
          subst G q (gone (omega (arith, q, lt))))
          (λ t.
          let low = was_drawn s k port i u t.1 e in
          let other : last v.numbers ≢ some i = is_alone s k port id i u v t.0 t.1 seated e in
          let there : get_elem? H' i ≡ get_elem? (put_back s.homes c) i = same_at i some_job.0 some_job.1 (λ z. omega (arith, z, low)) in
          ⊎_elim
          (λ b. absurd (other b.0))
          (λ b. there ∙ b.1 ∙ k.out i lt (port, u, t.1, e))
          (back_in i some_job.0 some_job.1))
          (at_set s.views id port (drawn_by v k.drawn) u at)

      kept_done : (i : ℕ) (j : J) → get_elem? jobs i ≡ some j → i < k.drawn + 1
          → IsOut (set s.views id (drawn_by v k.drawn)) i ⊎ ((y : Place J X) × (get_elem? H' i ≡ some (some y)) × IsDone R j y)
      kept_done i j at lt = elim (ℕ_discrete i k.drawn) [
        | yes q ↦
            inl (id, drawn_by v k.drawn, set_here s.views id (drawn_by v k.drawn) (some_within s.views id v seated), last-append v.numbers k.drawn [] ∙ ap some (sym q))
        | no n ↦
            let there : get_elem? H' i ≡ get_elem? (put_back s.homes c) i = same_at i j at n in
            elim (back_in i j at) [
              | inl b ↦ inr (b.1.0, there ∙ b.1.1, b.1.2)
              | inr b ↦ elim (k.done i j at (omega (arith, lt, n))) [
                | inl o ↦ elim (ℕ_discrete o.0 id) [
                  | yes z ↦
                      let G : ℕ → Type 0 = λ p. get_elem? s.views p ≡ some o.1 in
                      let u_is : v ≡ o.1 = some-injective v o.1 (sym seated ∙ subst G z o.2) in
                      absurd (b.0 (ap (λ (u : View J). last u.numbers) u_is ∙ o.3))
                  | no z ↦ inl (o.0, o.1, set_else s.views id o.0 (drawn_by v k.drawn) z ∙ o.2, o.3)
                ]
                | inr d ↦ inr (d.0, there ∙ b.1 ∙ d.1, d.2)
              ]
            ]
      ]

      kept_waits : (i : ℕ) (j : J) → get_elem? jobs i ≡ some j → k.drawn + 1 ≤ i → (y : Place J X) × (get_elem? H' i ≡ some (some y)) × IsWaiting j y
      kept_waits i j at le =
          let old = k.waits i j at (omega (arith, le)) in
          let there : get_elem? H' i ≡ get_elem? (put_back s.homes c) i = same_at i j at (λ z. omega (arith, z, le)) in
          ⊎_elim
          (λ b. let low = was_drawn s k id i v seated b.0 in absurd (omega (arith, low, le)))
          (λ b. (old.0, there ∙ b.1 ∙ old.1, old.2))
          (back_in i j at)

      kept_draw : IsKept R jobs record { words = w' ∷ []; homes = H'; views = set s.views id (drawn_by v k.drawn) }
      kept_draw =
          let n : ℕ = length jobs in
          record {
            drawn = k.drawn + 1;
            word = ap (λ x. x ∷ []) one_more;
            wide = long;
            parts = let t = total_set (λ u. u.parts) s.views id v (drawn_by v k.drawn) seated in let p = k.parts in omega (arith, t, p);
            once = λ x.
                let t = total_set (λ u. times x u.numbers) s.views id v (drawn_by v k.drawn) seated in
                let a : times x (v.numbers ++ k.drawn ∷ []) ≡ times x v.numbers + times x (k.drawn ∷ []) = times-append x v.numbers (k.drawn ∷ []) in
                let p = k.once x in omega (arith, t, a, p);
            ended =
                let t = total_set (λ u. ends n u.numbers) s.views id v (drawn_by v k.drawn) seated in
                let a : ends n (v.numbers ++ k.drawn ∷ []) ≡ ends n v.numbers + ends n (k.drawn ∷ []) = ends-append n v.numbers (k.drawn ∷ []) in
                let p = k.ended in omega (arith, t, a, p);
            each_view = λ port u at.
                ⊎_elim
                (λ t. let K : View J → Type 0 = λ z. IsViewOf jobs z in subst K t.1 next_view)
                (λ t. k.each_view port u t.1)
                (at_set s.views id port (drawn_by v k.drawn) u at);
            waits = kept_waits;
            out = kept_out;
            done = kept_done;
          }

  -- a fetch_add by a seat that may draw
  pub draws : (slots id : ℕ) (v : View J) (c : List (ℕ × Place J X)) → 0 < v.parts → v.jobs ≡ jobs → length jobs < 2 ^ 32 → IsReady R (v, c)
      → Allows (IsKept R jobs) slots id (v, c) 0 (λ n. (n + 1) % 2 ^ 64) (HasDrawn (step slots 0 1 0 none) (v, c))
  draws slots id v c some_part is small ready s k len seated bound =
      let S : Type 0 = Place J X in
      let w : ℕ = k.drawn in
      let n : ℕ = length jobs in
      let H : List (mathlib.Core.Option.Option S) = put_back s.homes c in
      let D : List ℕ → Type 0 = λ ws. (u : View J) × (a : Act S) × Valid s.homes c a
      × IsKept R jobs record { words = slice_set ws 0 ((slice_index ws 0 + 1) % 2 ^ 64); homes = homes_after s.homes c a; views = slice_set s.views id u }
      × HasDrawn (step slots 0 1 0 none) (v, c) (slice_index ws 0) (u, carried_after c a) in
      let few_ = few s k id v c seated some_part is ready in
      let one_more : (w + 1) % 2 ^ 64 ≡ w + 1 = omega (arith, few_, small) in
      let long : length H ≡ n = length_back s.homes c ∙ k.wide in
      let v_long : length v.jobs ≡ n = ap length is in
      subst D (sym k.word) (elim (dec_lt w n) [
        | yes lt ↦
            let j = some_at jobs w lt in
            let y = k.waits w j.0 j.1 (omega arith) in
            let there : get_elem? H w ≡ some (some y.0) = elim (back s.homes v c is k.wide ready w j.0 j.1) [
              | inl b ↦ let low = was_drawn s k id w v seated b.0 in absurd (omega (arith, low))
              | inr b ↦ b.1 ∙ y.1
            ] in (
              drawn_by v w,
              chain gives (takes w y.0),
              (tt, there),
              kept_draw s k id v c seated some_part is ready (set H w none) (length-put H w none ∙ long) (λ i z at ne. set_else H w i none ne) (λ l. set_here H w none (omega (arith, lt, long))) ((w + 1) % 2 ^ 64) one_more,
              (refl, (λ l. (y.0, j.0, ap (λ (l : List J). get_elem? l w) is ∙ j.1, carried_back v c ready w y.0, y.2)), (λ le. absurd (omega (arith, le, lt, v_long))), rises s k id v v.numbers refl seated),
            )
        | no ge ↦ (
          drawn_by v w,
          gives,
          tt,
          kept_draw s k id v c seated some_part is ready H long (λ i z at ne. refl) (λ l. absurd (omega (arith, l, ge))) ((w + 1) % 2 ^ 64) one_more,
          (refl, (λ l. absurd (omega (arith, l, ge, v_long))), (λ le. rest_back v c ready), rises s k id v v.numbers refl seated),
        )
      ])

  -- a change of views alone
  kept_views : (s : State (Place J X) (View J)) (k : IsKept R jobs s) (views : List (View J)) → total (λ v. v.parts) views ≡ total (λ v. v.parts) s.views
      → ((x : ℕ) → total (λ v. times x v.numbers) views ≡ total (λ v. times x v.numbers) s.views) → total (λ v. ends (length jobs) v.numbers) views ≡ total (λ v. ends (length jobs) v.numbers) s.views
      → ((port : ℕ) (v : View J) → get_elem? views port ≡ some v → IsViewOf jobs v) → ((i : ℕ) → i < length jobs → IsOut views i → IsOut s.views i) → ((i : ℕ) → i < length jobs → IsOut s.views i → IsOut views i)
      → IsKept R jobs record { words = s.words; homes = s.homes; views = views }
  kept_views s k views p t e each less_ more_ = record {
    drawn = k.drawn;
    word = k.word;
    wide = k.wide;
    parts = p ∙ k.parts;
    once = λ x. t x ∙ k.once x;
    ended = e ∙ k.ended;
    each_view = each;
    waits = k.waits;
    out = λ i lt o. k.out i lt (less_ i lt o);
    done = λ i j at lt. elim (k.done i j at lt) [ inl o ↦ inl (more_ i (some_within jobs i j at) o) | inr d ↦ inr d ];
  }

  no_last : {i : ℕ} (xs : List ℕ) → xs ≡ [] → last xs ≡ some i → ⊥
  no_last {i} xs none_yet e = some-ne-none i (sym e ∙ ap last none_yet)

  -- a seat without numbers gives a part to a new one
  pub splits : (id : ℕ) (v : View J) → v.jobs ≡ jobs → v.numbers ≡ [] → 2 ≤ v.parts → Splits (IsKept R jobs) id v (left v) (right v)
  splits id v is idle two s k seated =
      let n : ℕ = length jobs in
      let v' : View J = left v in
      let w : View J = right v in
      let m : List (View J) = set s.views id v' in
      kept_views s k (m ++ w ∷ [])
      (let a = total_set (λ u. u.parts) s.views id v v' seated in let b = total_snoc (λ u. u.parts) m w in omega (arith, a, b, two))
      (λ x. let a = total_set (λ u. times x u.numbers) s.views id v v' seated in let b = total_snoc (λ u. times x u.numbers) m w in omega (arith, a, b))
      (let a = total_set (λ u. ends n u.numbers) s.views id v v' seated in let b = total_snoc (λ u. ends n u.numbers) m w in omega (arith, a, b))
      (λ port u at.
      let K : View J → Type 0 = λ z. IsViewOf jobs z in
      let none_ends : ends n v.numbers ≡ 0 = ap (ends n) idle in
      elim (at_snoc m w u port at) [
        | inl at' ↦ elim (at_set s.views id port v' u at') [
          | inl t ↦ subst K t.1 (record { jobs_are = λ p. is; idle = λ z. idle; room = omega (arith, none_ends); may_draw = λ p o. omega (arith, none_ends, p) })
          | inr t ↦ k.each_view port u t.1
        ]
        | inr q ↦ subst K q (record { jobs_are = λ p. is; idle = λ z. refl; room = omega arith; may_draw = λ p o. omega arith })
      ])
      (λ i lt o. elim (at_snoc m w o.1 o.0 o.2) [
        | inl at' ↦ elim (at_set s.views id o.0 v' o.1 at') [
          | inl t ↦ absurd (no_last v.numbers idle (ap (λ (z : View J). last z.numbers) t.1 ∙ o.3))
          | inr t ↦ (o.0, o.1, t.1, o.3)
        ]
        | inr q ↦ absurd (no_last [] refl (ap (λ (z : View J). last z.numbers) q ∙ o.3))
      ])
      (λ i lt o. elim (ℕ_discrete o.0 id) [
        | yes z ↦
            let G : ℕ → Type 0 = λ p. get_elem? s.views p ≡ some o.1 in
            let u_is : v ≡ o.1 = some-injective v o.1 (sym seated ∙ subst G z o.2) in
            absurd (no_last v.numbers idle (ap (λ (z : View J). last z.numbers) u_is ∙ o.3))
        | no z ↦ (o.0, o.1, at_longer m (w ∷ []) o.0 o.1 (set_else s.views id o.0 v' z ∙ o.2), o.3)
      ])

  pub joins : (id other : ℕ) (v w : View J) → v.jobs ≡ jobs → 0 < v.parts → EndsPast (length jobs) w.numbers → Joins (IsKept R jobs) id v other w (both v w) spent
  joins id other v w is some_part over s k seated apart there =
      let n : ℕ = length jobs in
      let v' : View J = both v w in
      let m : List (View J) = set s.views id v' in
      let was : get_elem? s.views other ≡ some w = sym (set_else s.views id other v' apart) ∙ there in
      let V = k.each_view id v seated in
      let W = k.each_view other w was in
      let sum : ends n (w.numbers ++ v.numbers) ≡ ends n w.numbers + ends n v.numbers = ends-append n w.numbers v.numbers in
      kept_views s k (set m other spent)
      (let a = total_set (λ u. u.parts) s.views id v v' seated in let b = total_set (λ u. u.parts) m other w spent there in omega (arith, a, b))
      (λ x. let a = total_set (λ u. times x u.numbers) s.views id v v' seated in let b = total_set (λ u. times x u.numbers) m other w spent there in
      let c : times x (w.numbers ++ v.numbers) ≡ times x w.numbers + times x v.numbers = times-append x w.numbers v.numbers in omega (arith, a, b, c))
      (let a = total_set (λ u. ends n u.numbers) s.views id v v' seated in let b = total_set (λ u. ends n u.numbers) m other w spent there in omega (arith, a, b, sum))
      (λ port u at.
      let K : View J → Type 0 = λ z. IsViewOf jobs z in
      elim (at_set m other port spent u at) [
        | inl t ↦ subst K t.1 (record { jobs_are = λ p. absurd (omega (arith, p)); idle = λ z. refl; room = omega arith; may_draw = λ p o. absurd (omega (arith, p)) })
        | inr t ↦ elim (at_set s.views id port v' u t.1) [
          | inl q ↦ subst K q.1 (record {
            jobs_are = λ p. is;
            idle = λ z. absurd (omega (arith, z, some_part));
            room = let a = V.room in let b = W.room in omega (arith, a, b, sum);
            may_draw = λ p o. elim (last_both w.numbers v.numbers) [
              | inl b ↦ absurd (o (over.0, b.1 ∙ over.1, over.2))
              | inr b ↦ let a = V.may_draw some_part (λ e. o (e.0, b.0 ∙ e.1, e.2)) in let c = W.room in omega (arith, a, c, sum)
            ];
          })
          | inr q ↦ k.each_view port u q.1
        ]
      ])
      (λ i lt o. elim (at_set m other o.0 spent o.1 o.2) [
        | inl t ↦ absurd (no_last [] refl (ap (λ (z : View J). last z.numbers) t.1 ∙ o.3))
        | inr t ↦ elim (at_set s.views id o.0 v' o.1 t.1) [
          | inl q ↦
              let mine : last (w.numbers ++ v.numbers) ≡ some i = ap (λ (z : View J). last z.numbers) q.1 ∙ o.3 in
              elim (last_both w.numbers v.numbers) [
                | inl b ↦ let same_ : over.0 ≡ i = some-injective over.0 i (sym over.1 ∙ sym b.1 ∙ mine) in let h = over.2 in absurd (omega (arith, same_, h, lt))
                | inr b ↦ (id, v, seated, sym b.0 ∙ mine)
              ]
          | inr q ↦ (o.0, o.1, q.1, o.3)
        ]
      ])
      (λ i lt o. elim (ℕ_discrete o.0 other) [
        | yes z ↦
            let G : ℕ → Type 0 = λ p. get_elem? s.views p ≡ some o.1 in
            let u_is : w ≡ o.1 = some-injective w o.1 (sym was ∙ subst G z o.2) in
            let mine : last w.numbers ≡ some i = ap (λ (z : View J). last z.numbers) u_is ∙ o.3 in
            let same_ : over.0 ≡ i = some-injective over.0 i (sym over.1 ∙ mine) in let h = over.2 in absurd (omega (arith, same_, h, lt))
        | no z ↦ elim (ℕ_discrete o.0 id) [
          | yes q ↦
              let G : ℕ → Type 0 = λ p. get_elem? s.views p ≡ some o.1 in
              let u_is : v ≡ o.1 = some-injective v o.1 (sym seated ∙ subst G q o.2) in
              let mine : last v.numbers ≡ some i = ap (λ (z : View J). last z.numbers) u_is ∙ o.3 in
              elim (last_both w.numbers v.numbers) [
                | inl b ↦ absurd (no_last v.numbers b.0 mine)
                | inr b ↦ (id, v', set_else m other id spent (λ e. apart (sym e)) ∙ set_here s.views id v' (some_within s.views id v seated), b.0 ∙ mine)
              ]
          | no q ↦ (o.0, o.1, set_else m other o.0 spent z ∙ set_else s.views id o.0 v' q ∙ o.2, o.3)
        ]
      ])

  -- the table at the start
  pub begins : (places : List (Place J X)) → 0 < length jobs → length places ≡ length jobs → ((i : ℕ) (j : J) → get_elem? jobs i ≡ some j → (y : Place J X) × (get_elem? places i ≡ some y) × IsWaiting j y)
      → IsKept R jobs (opening (0 ∷ []) places (opened jobs))
  begins places some_job long each = record {
    drawn = 0;
    word = refl;
    wide = length-map places some ∙ long;
    parts = omega arith;
    once = λ x. omega arith;
    ended = omega arith;
    each_view = λ port u at. elim (at_snoc [] (opened jobs) u port at) [
      | inl no_view ↦ absurd (some-ne-none u (sym no_view))
      | inr q ↦ let K : View J → Type 0 = λ z. IsViewOf jobs z in subst K q (record { jobs_are = λ p. refl; idle = λ z. refl; room = omega arith; may_draw = λ p o. omega arith })
    ];
    waits = λ i j at le. let y = each i j at in (y.0, at_map some places i y.0 y.1, y.2);
    out = λ i lt o. elim (at_snoc [] (opened jobs) o.1 o.0 o.2) [
      | inl no_view ↦ absurd (some-ne-none o.1 (sym no_view))
      | inr q ↦ absurd (no_last [] refl (ap (λ (z : View J). last z.numbers) q ∙ o.3))
    ];
    done = λ i j at lt. absurd (omega (arith, lt));
  }

  -- the table at the end, with all parts in one view whose last number is an end
  pub ends_done : (id : ℕ) (v : View J) (ws : List ℕ) (xs : List (Place J X)) → v.parts ≡ length jobs + 1 → EndsPast (length jobs) v.numbers → Final (Seen (IsKept R jobs) id v) ws xs
      → (i : ℕ) (j : J) → get_elem? jobs i ≡ some j → (y : Place J X) × (get_elem? xs i ≡ some y) × IsDone R j y
  ends_done id v ws xs all over final i j at =
      let s = final.0 in
      let k : IsKept R jobs s = final.1.0 in
      let seated : get_elem? s.views id ≡ some v = final.1.1 in
      let n : ℕ = length jobs in
      let lt : i < n = some_within jobs i j at in
      let past_end : n < k.drawn = let a = last_ends n v.numbers over in let b = one_le (λ u. ends n u.numbers) s.views id v seated in let e = k.ended in omega (arith, a, b, e) in
      elim (k.done i j at (omega (arith, lt, past_end))) [
        | inl o ↦ elim (ℕ_discrete o.0 id) [
          | yes q ↦
              let G : ℕ → Type 0 = λ p. get_elem? s.views p ≡ some o.1 in
              let u_is : v ≡ o.1 = some-injective v o.1 (sym seated ∙ subst G q o.2) in
              let mine : last v.numbers ≡ some i = ap (λ (z : View J). last z.numbers) u_is ∙ o.3 in
              let same_ : over.0 ≡ i = some-injective over.0 i (sym over.1 ∙ mine) in let h = over.2 in absurd (omega (arith, same_, h, lt))
          | no q ↦
              let t = two_le (λ u. u.parts) s.views o.0 id o.1 v q o.2 seated in let p = k.parts in
              let none_ : o.1.parts ≡ 0 = omega (arith, t, p, all) in
              absurd (no_last o.1.numbers ((k.each_view o.0 o.1 o.2).idle none_) o.3)
        ]
        | inr d ↦ (d.0, final.4 i d.0 d.1, d.2)
      ]
