-- A hole in the ring moves on until no pair has to be moved into it.
use Rattle.std.proofs.Common.{◌≡◌, ◌≢◌, ℕ, ◌+◌, ◌-◌, ◌%◌, ◌<◌, ◌≤◌, Option, Some, None, sym, ap, subst, ◌∙◌, arith, inl, inr}
use Rattle.std.proofs.lemmas.Bool.{cases_eq}
use native.Mathlib.Decide.{dec_lt}
use Rattle.cow_table.specs.Pairs.{Pair}
use Rattle.cow_table.specs.Ring.{IsNext, distance}
use Rattle.cow_table.proofs.Distances.{distance_self, distance_next, distance-below, same_place, beyond, onward}
use Rattle.cow_table.proofs.Probes.{Passed, passed-step, passed-more, passed-falls}
use Rattle.cow_table.proofs.Places.{Reached, Nearby, Some-same}

-- the cells are read by f: the hole is empty, each pair is reached but for the hole, the pairs that the hole cuts off stand from `at` on, and another place is free
pub record Shifting (n : ℕ) (f : ℕ → Option Pair) (start hole at : ℕ) : Type 0 where
  pub in_start : start < n
  pub in_hole : hole < n
  pub clear : f hole ≡ None
  pub reached : (i j : ℕ) (e : Pair) → i < n → j < n → f i ≡ Some e → distance n (e.hash % n) j < distance n (e.hash % n) i → j ≢ hole → f j ≢ None
  pub ahead : (i : ℕ) (e : Pair) → i < n → f i ≡ Some e → distance n (e.hash % n) hole < distance n (e.hash % n) i → distance n hole at ≤ distance n hole i
  pub behind : distance n start hole < distance n start at
  pub stop : ℕ
  pub stop_in : stop < n
  pub stop_apart : stop ≢ hole
  pub stop_free : f stop ≡ None
  pub passed : Passed (λ (j : ℕ). j ≢ hole → f j ≢ None) n start at

module _ (n : ℕ) (big : 2 ≤ n) where
  home_in : (e : Pair) → e.hash % n < n
  home_in e = omega arith

  one-step : (a b : ℕ) → a < n → IsNext n a b → (distance n a b ≡ 1) × (b < n)
  one-step a b p s = let d = distance_next n a p a b p s in elim d.1 [
    | inl w ↦ absurd (omega (arith, w.1, distance_self n a p))
    | inr w ↦ (omega (arith, w, distance_self n a p), d.0)
  ]

  -- a place is emptied
  pub shift-start : (f g : ℕ → Option Pair) (start at stop : ℕ) (e : Pair) → start < n → f start ≡ Some e → g start ≡ None → ((j : ℕ) → j ≢ start → g j ≡ f j)
      → Reached n f → stop < n → f stop ≡ None → IsNext n start at → Shifting n g start start at
  shift-start f g start at stop e p filled clear else r q free follows =
      let one = one-step start at p follows in
      let zero_here = distance_self n start p in
      let apart : stop ≢ start = λ z. let u = ap f z in cc in
      record {
        in_start = p;
        in_hole = p;
        clear = clear;
        reached = λ i j x a b s d ne z. elim (cases_eq i start) [
          | inl w ↦ let u = ap g w in cc
          | inr w ↦ r i j x a b (sym (else i w) ∙ s) d (sym (else j ne) ∙ z)
        ];
        ahead = λ i x a s d. elim (cases_eq i start) [
          | inl w ↦ absurd (let u = ap g w in cc)
          | inr w ↦ elim (dec_lt (distance n start i) 1) [
            | yes v ↦ absurd (w (same_place n start p i start a p (omega (arith, zero_here))))
            | no v ↦ omega (arith, one.0)
          ]
        ];
        behind = omega (arith, one.0, zero_here);
        stop = stop;
        stop_in = q;
        stop_apart = apart;
        stop_free = else stop apart ∙ free;
        passed = record {
          within = one.1;
          before = λ j a b ne. absurd (ne (same_place n start p j start a p (omega (arith, one.0, zero_here))));
        };
      }

  module _ (f : ℕ → Option Pair) (start hole at next : ℕ) (s : Shifting n f start hole at) (e : Pair) (filled : f at ≡ Some e) (follows : IsNext n at next) where
    here : f at ≢ None
    here z = cc

    stops : ((j : ℕ) → j < n → j ≢ hole → f j ≢ None) → ⊥
    stops every = every s.stop s.stop_in s.stop_apart s.stop_free

    step : (distance n start next ≡ distance n start at + 1) × (next < n)
    step = passed-step _ n start s.in_start at next s.passed (λ _. here) follows stops

    pub shift-falls : n - distance n start next < n - distance n start at
    shift-falls = passed-falls _ n start s.in_start at next s.passed (λ _. here) follows stops

    more : Passed (λ (j : ℕ). j ≢ hole → f j ≢ None) n start next
    more = passed-more _ n start s.in_start at next s.passed (λ _. here) follows stops

    -- the pair stays, since its home lies after the hole
    pub shift-stays : distance n (e.hash % n) at ≤ distance n (e.hash % n) hole → Shifting n f start hole next
    shift-stays kept = record {
      in_start = s.in_start;
      in_hole = s.in_hole;
      clear = s.clear;
      reached = s.reached;
      ahead = λ i x a b d. elim (cases_eq i at) [
        | inl w ↦ absurd (
            let v : Some x ≡ Some e = sym b ∙ ap f w ∙ filled in
            let u : distance n (e.hash % n) hole < distance n (e.hash % n) at = subst (λ y. distance n (e.hash % n) hole < distance n (e.hash % n) y) w (subst (λ (y : Pair). distance n (y.hash % n) hole < distance n (y.hash % n) i) (Some-same x e v) d) in
            omega arith)
        | inr w ↦
            let least = s.ahead i x a b d in
            let other : distance n hole at ≢ distance n hole i = λ z. w (same_place n hole s.in_hole i at a s.passed.within (sym z)) in
            elim (distance_next n hole s.in_hole at next s.passed.within follows).1 [
              | inl v ↦ omega (arith, distance-below n hole s.in_hole i a, v.1)
              | inr v ↦ omega (arith, v)
            ]
      ];
      behind = omega (arith, s.behind, step.0);
      stop = s.stop;
      stop_in = s.stop_in;
      stop_apart = s.stop_apart;
      stop_free = s.stop_free;
      passed = more;
    }

    -- the pair moves into the hole, and its place is the hole
    pub shift-moves : (g : ℕ → Option Pair) → g hole ≡ Some e → g at ≡ None → ((j : ℕ) → j ≢ hole → j ≢ at → g j ≡ f j)
        → distance n (e.hash % n) hole < distance n (e.hash % n) at → Shifting n g start at next
    shift-moves g put gone else moved =
        let one = one-step at next s.passed.within follows in
        let zero_at = distance_self n at s.passed.within in
        let apart : s.stop ≢ at = λ z. let u = ap f z in let v = s.stop_free in cc in
        record {
          in_start = s.in_start;
          in_hole = s.passed.within;
          clear = gone;
          reached = λ i j x a b c d ne z. elim (cases_eq j hole) [
            | inl w ↦ let u = ap g w in cc
            | inr w ↦
                let free : f j ≡ None = sym (else j w ne) ∙ z in
                elim (cases_eq i hole) [
                  | inl v ↦
                      let k = Some-same x e (sym c ∙ ap g v ∙ put) in
                      let near : distance n (e.hash % n) j < distance n (e.hash % n) hole = subst (λ y. distance n (e.hash % n) j < distance n (e.hash % n) y) v (subst (λ (y : Pair). distance n (y.hash % n) j < distance n (y.hash % n) i) k d) in
                      s.reached at j e s.passed.within b filled (omega arith) w free
                  | inr v ↦ elim (cases_eq i at) [
                    | inl u ↦ let t = ap g u in cc
                    | inr u ↦ s.reached i j x a b (sym (else i v u) ∙ c) d w free
                  ]
                ]
          ];
          ahead = λ i x a b d. elim (cases_eq i at) [
            | inl w ↦ absurd (let u = ap g w in cc)
            | inr w ↦ elim (dec_lt (distance n at i) 1) [
              | yes v ↦ absurd (w (same_place n at s.passed.within i at a s.passed.within (omega (arith, zero_at))))
              | no v ↦ omega (arith, one.0)
            ]
          ];
          behind = omega (arith, step.0);
          stop = s.stop;
          stop_in = s.stop_in;
          stop_apart = apart;
          stop_free = else s.stop s.stop_apart apart ∙ s.stop_free;
          passed = record {
            within = step.1;
            before = λ j a b ne z. elim (cases_eq j hole) [
              | inl w ↦ let u = ap g w in cc
              | inr w ↦ more.before j a b w (sym (else j w ne) ∙ z)
            ];
          };
        }

  -- at a free place the hole cuts nothing off
  pub shift-ends : (f : ℕ → Option Pair) (start hole at : ℕ) → Shifting n f start hole at → f at ≡ None → Reached n f
  shift-ends f start hole at s free i j e p q filled d z = elim (cases_eq j hole) [
    | inr w ↦ s.reached i j e p q filled d w z
    | inl w ↦
        let cut : distance n (e.hash % n) hole < distance n (e.hash % n) i = subst (λ y. distance n (e.hash % n) y < distance n (e.hash % n) i) w d in
        let least = s.ahead i e p filled cut in
        let other : distance n hole at ≢ distance n hole i = λ v. let u = ap f (same_place n hole s.in_hole i at p s.passed.within (sym v)) in cc in
        let far = beyond n (e.hash % n) hole (home_in e) s.in_hole i at p s.passed.within cut (omega arith) in
        let apart : at ≢ hole = λ v. let b = s.behind in let u = ap (λ y. distance n start y) v in omega arith in
        s.reached i at e p s.passed.within filled far apart free
  ]

  -- where no pair stands so far from its home as `at` from the hole, the hole cuts nothing off
  pub shift-ends-far : (f : ℕ → Option Pair) (start hole at reach : ℕ) → Shifting n f start hole at → Nearby reach n f → reach < distance n hole at → Reached n f
  shift-ends-far f start hole at reach s near far i j e p q filled d z = elim (cases_eq j hole) [
    | inr w ↦ s.reached i j e p q filled d w z
    | inl w ↦
        let cut : distance n (e.hash % n) hole < distance n (e.hash % n) i = subst (λ y. distance n (e.hash % n) y < distance n (e.hash % n) i) w d in
        omega (arith, s.ahead i e p filled cut, onward n (e.hash % n) hole (home_in e) s.in_hole i p cut, near i e p filled)
  ]
