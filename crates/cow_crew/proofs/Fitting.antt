-- What a pass carries, before and after each step.
use Rattle.std.proofs.Common.{◌≡◌, ℕ, ◌<◌, ◌⊎◌, inl, inr, true, false, true≢false, List, [], ◌∷◌, length, Option, Some, None, refl, sym, ap, subst, ◌∙◌, arith}
use mathlib.Core.Option.{some, none, some-injective, some-ne-none}
use mathlib.Core.Option as maybe
use native.Mathlib.Decide.{dec_lt}
use lib.ListN.{get_elem?}
use Rattle.atomic_table.specs.Table.{Me, Step}
use Rattle.cow_crew.specs.declared.place.Place.{Place}
use Rattle.cow_crew.specs.declared.rule.View.{View}
use Rattle.cow_crew.specs.Rule.{last, EndsPast, IsWaiting, IsDone, IsReady, viewed, both, HasDrawn}
use Rattle.std.proofs.lemmas.Option.{same_Some}
use Rattle.cow_crew.specs.Passes.{Fits, as_std, served_of, is_done}
use Rattle.cow_crew.specs.Places.{CarriesJob}
use Rattle.std.specs.Option.{option_or}
use Rattle.cow_crew.proofs.Counts.{last-append}
use Rattle.cow_crew.proofs.Steps.{some_at, some_within, last_both}

stays : (l : maybe.Option ℕ) (found other : Option ℕ) → as_std l ≡ found → (x : ℕ) × (l ≡ some x) → found ≡ option_or found other
stays l found other e h =
    let is : Some h.0 ≡ found = ap as_std (sym h.1) ∙ e in
    let P : Option ℕ → Type 0 = λ z. z ≡ option_or z other in subst P is refl

module _ {J X : Type 0} (R : J → X → Type 0) where
  served_ready : (m : Me (Place J X) (View J)) (found : Option ℕ) (l : maybe.Option ℕ) → last m.0.numbers ≡ l → Fits R m found → served_of m.1 ≡ true → IsReady R m
  served_ready m found none e f t = absurd (true≢false (sym t ∙ ap served_of (f.idle (λ h. some-ne-none h.0 (sym h.1 ∙ e)))))
  served_ready m found (some i) e f t = elim (dec_lt i (length m.0.jobs)) [
    | yes lt ↦
        let j = some_at m.0.jobs i lt in
        let h = f.holds i j.0 e j.1 in
        elim h.2 [
          | inl w ↦ absurd (true≢false (sym t ∙ ap served_of h.1 ∙ ap is_done w.1))
          | inr d ↦ inr (i, h.0, j.0, e, h.1, j.1, d)
        ]
    | no ge ↦ absurd (true≢false (sym t ∙ ap served_of (f.idle (λ h. let q : h.0 ≡ i = some-injective h.0 i (sym h.1 ∙ e) in let l = h.2 in ge (omega (arith, q, l))))))
  ]

  -- a seat whose last number was served, or that has none, may draw
  pub ready : (m : Me (Place J X) (View J)) (found : Option ℕ) → Fits R m found → (m.0.numbers ≡ []) ⊎ (served_of m.1 ≡ true) → IsReady R m
  ready m found f (inl none_yet) = inl (none_yet, f.idle (λ h. some-ne-none h.0 (sym h.1 ∙ ap last none_yet)))
  ready m found f (inr served) = served_ready m found (last m.0.numbers) refl f served

  pub fits_drew : (st : Step (Place J X)) (m m' : Me (Place J X) (View J)) (r : ℕ) → 0 < m.0.parts → HasDrawn st m r m' → Fits R m' (Some r)
  fits_drew st m m' r some_part d =
      let last_is : last m'.0.numbers ≡ some r = ap (λ (v : View J). last v.numbers) d.0 ∙ last-append m.0.numbers r [] in
      let jobs_are : m'.0.jobs ≡ m.0.jobs = ap (λ (v : View J). v.jobs) d.0 in
      let parts_are : m'.0.parts ≡ m.0.parts = ap (λ (v : View J). v.parts) d.0 in
      let long : length m'.0.jobs ≡ length m.0.jobs = ap length jobs_are in
      record {
        some_part = omega (arith, parts_are, some_part);
        last_is = ap as_std last_is;
        holds = λ i j e at.
            let q : r ≡ i = some-injective r i (sym last_is ∙ e) in
            let low = some_within m'.0.jobs i j at in
            let h = d.1 (omega (arith, q, low, long)) in
            let one : h.1 ≡ j = some-injective h.1 j (sym h.2 ∙ ap (get_elem? m.0.jobs) q ∙ ap (λ (l : List J). get_elem? l i) (sym jobs_are) ∙ at) in
            let W : J → Type 0 = λ z. IsWaiting z h.0 in
            (h.0, h.3 ∙ ap (λ (z : ℕ). (z, h.0) ∷ []) q, inl (subst W one h.4));
        idle = λ no_job. elim (dec_lt r (length m'.0.jobs)) [
          | yes lt ↦ absurd (no_job (r, last_is, lt))
          | no ge ↦ d.2 (omega (arith, ge, long))
        ];
      }

  pub fits_parts : (m : Me (Place J X) (View J)) (found : Option ℕ) (k : ℕ) → 0 < k → Fits R m found → Fits R (viewed m.0.jobs m.0.numbers k, m.1) found
  fits_parts m found k some_part f = record { some_part = some_part; last_is = f.last_is; holds = f.holds; idle = f.idle }

  pub fits_new : (js : List J) (k : ℕ) → 0 < k → Fits R (viewed js [] k, []) None
  fits_new js k some_part = record { some_part = some_part; last_is = refl; holds = λ i j e at. absurd (some-ne-none i (sym e)); idle = λ h. refl }

  pub fits_joined : (m : Me (Place J X) (View J)) (w : View J) (found other : Option ℕ) → Fits R m found → as_std (last w.numbers) ≡ other → EndsPast (length m.0.jobs) w.numbers → Fits R (both m.0 w, m.1) (option_or found other)
  fits_joined m w found other f g over =
      let n : ℕ = length m.0.jobs in
      record {
        some_part = let p = f.some_part in omega (arith, p);
        last_is = elim (last_both w.numbers m.0.numbers) [
          | inl b ↦ ap as_std b.1 ∙ g ∙ ap (λ (z : Option ℕ). option_or z other) (ap (λ (l : List ℕ). as_std (last l)) (sym b.0) ∙ f.last_is)
          | inr b ↦ ap as_std b.0 ∙ f.last_is ∙ stays (last m.0.numbers) found other f.last_is b.1
        ];
        holds = λ i j e at. elim (last_both w.numbers m.0.numbers) [
          | inl b ↦
              let q : over.0 ≡ i = some-injective over.0 i (sym over.1 ∙ sym b.1 ∙ e) in let h = over.2 in let l = some_within m.0.jobs i j at in absurd (omega (arith, q, h, l))
          | inr b ↦ f.holds i j (sym b.0 ∙ e) at
        ];
        idle = λ no_job. f.idle (λ h. elim (last_both w.numbers m.0.numbers) [
          | inl b ↦ some-ne-none h.0 (sym h.1 ∙ ap last b.0)
          | inr b ↦ no_job (h.0, b.0 ∙ h.1, h.2)
        ]);
      }

  -- a seat whose last number is past the jobs carries nothing
  pub ended_idle : (m : Me (Place J X) (View J)) (found : Option ℕ) → Fits R m found → EndsPast (length m.0.jobs) m.0.numbers → m.1 ≡ []
  ended_idle m found f over = f.idle (λ h. let q : over.0 ≡ h.0 = some-injective over.0 h.0 (sym over.1 ∙ h.1) in let a = over.2 in let b = h.2 in omega (arith, q, a, b))

  -- a seat whose last number is a job's, and was not served, carries the job
  pub fresh_job : (m : Me (Place J X) (View J)) (found : Option ℕ) (i : ℕ) → Fits R m found → found ≡ Some i → (h : (k : ℕ) × (last m.0.numbers ≡ some k) × (k < length m.0.jobs)) → served_of m.1 ≡ false
      → (last m.0.numbers ≡ some i) × ((j : J) × (get_elem? m.0.jobs i ≡ some j) × CarriesJob m i j)
  fresh_job m found i f is h fresh =
      let q : h.0 ≡ i = same_Some h.0 i (ap as_std (sym h.1) ∙ f.last_is ∙ is) in
      let last_is : last m.0.numbers ≡ some i = h.1 ∙ ap some q in
      let lt = h.2 in
      let j = some_at m.0.jobs i (omega (arith, q, lt)) in
      let c = f.holds i j.0 last_is j.1 in
      elim c.2 [
        | inl w ↦ (last_is, (j.0, j.1, (c.0, c.1, w)))
        | inr d ↦ absurd (true≢false (sym (ap served_of c.1 ∙ ap is_done d.1.1) ∙ fresh))
      ]

  pub fits_done : (m m' : Me (Place J X) (View J)) (found : Option ℕ) (i : ℕ) (j : J) (y : Place J X) → Fits R m found → last m.0.numbers ≡ some i → get_elem? m.0.jobs i ≡ some j → m'.0 ≡ m.0 → m'.1 ≡ (i, y) ∷ []
      → IsDone R j y → Fits R m' found
  fits_done m m' found i j y f last_is at same carries did =
      let jobs_are : m'.0.jobs ≡ m.0.jobs = ap (λ (v : View J). v.jobs) same in
      let numbers_are : last m'.0.numbers ≡ last m.0.numbers = ap (λ (v : View J). last v.numbers) same in
      let parts_are : m'.0.parts ≡ m.0.parts = ap (λ (v : View J). v.parts) same in
      let long : length m'.0.jobs ≡ length m.0.jobs = ap length jobs_are in
      record {
        some_part = let p = f.some_part in omega (arith, p, parts_are);
        last_is = ap as_std numbers_are ∙ f.last_is;
        holds = λ k j' e at'.
            let q : i ≡ k = some-injective i k (sym last_is ∙ sym numbers_are ∙ e) in
            let one : j ≡ j' = some-injective j j' (sym at ∙ ap (get_elem? m.0.jobs) q ∙ ap (λ (l : List J). get_elem? l k) (sym jobs_are) ∙ at') in
            let D : J → Type 0 = λ z. IsDone R z y in
            (y, carries ∙ ap (λ (z : ℕ). (z, y) ∷ []) q, inr (subst D one did));
        idle = λ no_job. absurd (no_job (i, numbers_are ∙ last_is, (let l = some_within m.0.jobs i j at in omega (arith, l, long))));
      }
