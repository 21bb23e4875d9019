-- What a draw tells its caller, and lists of passes.
use Rattle.std.proofs.Common.{◌≡◌, ℕ, ◌+◌, ◌-◌, ◌<◌, ◌≤◌, true, false, true≢false, List, [], ◌∷◌, ◌++◌, length, All, IfSome, sum_by, Option, Some, None, MatchOption, refl, sym, ap, subst, ◌∙◌, arith}
use Rattle.std.specs.Option.{is_some, option_to_list}
use Rattle.std.proofs.lemmas.List.Elements.{All-pop}
use Rattle.std.proofs.lemmas.List.Sums.{sum_by_push}
use mathlib.Core.Option.{some, some-ne-none}
use Rattle.cow_crew.specs.Passes.{Progress, joined_by, HasJob, HasEnded, Draws}
use Rattle.cow_crew.specs.Rule.{last, last_of, next_after}
use Rattle.cow_crew.proofs.Counts.{last-append}

next_last : (z : ℕ) (xs : List ℕ) (r : ℕ) → last_of z (xs ++ r ∷ []) ≡ r
next_last z [] r = refl
next_last z (x ∷ xs) r = next_last x xs r

next_snoc : (xs : List ℕ) (r : ℕ) → next_after (xs ++ r ∷ []) ≡ r + 1
next_snoc [] r = refl
next_snoc (x ∷ xs) r = ap (λ z. z + 1) (next_last x xs r)

found_below : (o : Option ℕ) (r n : ℕ) → is_some o ≡ true → MatchOption o (n ≤ r) (λ x. (x ≡ r) × (r < n)) → r < n
found_below None r n e h = absurd (true≢false (sym e))
found_below (Some x) r n e h = h.1

found_past : (o : Option ℕ) (r n : ℕ) → is_some o ≡ false → MatchOption o (n ≤ r) (λ x. (x ≡ r) × (r < n)) → n ≤ r
found_past None r n e h = h
found_past (Some x) r n e h = absurd (true≢false e)

module _ {J : Type 0} (p q : Progress J) (o : Option ℕ) (d : Draws p q o) where
  last_found : last q.numbers ≡ some d.number
  last_found = ap (λ (t : Progress J). last t.numbers) d.gains ∙ last-append p.numbers d.number []

  -- a draw that answers Some has found a job
  pub has_job : is_some o ≡ true → HasJob q
  has_job some_ =
      let lt = found_below o d.number (length p.jobs) some_ d.told in
      let long : length q.jobs ≡ length p.jobs = ap (λ (t : Progress J). length t.jobs) d.gains in
      (d.number, last_found, omega (arith, lt, long))

  -- a draw that answers None has ended
  pub has_ended : is_some o ≡ false → HasEnded q
  has_ended none_ =
      let le = found_past o d.number (length p.jobs) none_ d.told in
      let long : length q.jobs ≡ length p.jobs = ap (λ (t : Progress J). length t.jobs) d.gains in
      (d.number, last_found, omega (arith, le, long))

  -- a draw that answers Some leaves fewer numbers below n
  pub draws_on : (n : ℕ) → length p.jobs ≡ n → is_some o ≡ true → n - next_after q.numbers < n - next_after p.numbers
  draws_on n long some_ =
      let lt = found_below o d.number (length p.jobs) some_ d.told in
      let later = d.later in
      let next : next_after q.numbers ≡ d.number + 1 = ap (λ (t : Progress J). next_after t.numbers) d.gains ∙ next_snoc p.numbers d.number in
      omega (arith, lt, later, next, long)

-- what holds of all elements holds of the last one, which was taken out, and of the others
pub pop_all : {X : Type 0} (P : X → Type 0) (old new : List X) (o : Option X) (y : X) → old ≡ new ++ option_to_list o → o ≡ Some y → All P old → All P new × P y
pop_all {X} P old new o y e is h =
    let both = All-pop P old new o e h in
    let Q : Option X → Type 0 = λ z. IfSome z P in
    (both.0, subst Q is both.1)

-- a sum over all elements is that over the others and the last one, which was taken out
pub pop_sum : {X : Type 0} (f : X → ℕ) (old new : List X) (o : Option X) (y : X) → old ≡ new ++ option_to_list o → o ≡ Some y → sum_by f old ≡ sum_by f new + f y
pop_sum {X} f old new o y e is = ap (sum_by f) (e ∙ ap (λ (z : Option X). new ++ option_to_list z) is) ∙ sum_by_push f new y

last_stays : (xs ys : List ℕ) (i : ℕ) → last ys ≡ some i → last (xs ++ ys) ≡ some i
last_stays xs [] i e = absurd (some-ne-none i (sym e))
last_stays xs (y ∷ ys) i e = last-append xs y ys ∙ e

-- a pass that has ended has ended once another one has joined it
pub joined_ended : {J : Type 0} (p q r : Progress J) → r ≡ joined_by q p → HasEnded p → HasEnded r
joined_ended {J} p q r e over =
    let long : length r.jobs ≡ length p.jobs = ap (λ (t : Progress J). length t.jobs) e in
    let le = over.2 in
    (over.0, ap (λ (t : Progress J). last t.numbers) e ∙ last_stays q.numbers p.numbers over.0 over.1, omega (arith, le, long))
