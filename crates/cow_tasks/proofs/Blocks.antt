-- Statements in turn: what they print, allow and copy.
use Rattle.std.proofs.Common.{◌≡◌, ℕ, ◌+◌, ◌-◌, ◌^◌, ◌≤◌, ◌<◌, ◌++◌, Bool, true, false, ◌||◌, List, [], ◌∷◌, length, drop, get_or, ap, sym, ◌∙◌, arith, subst, refl, append_assoc}
use Rattle.std.specs.Prelude.{min}
use Rattle.std.specs.List.{All}
use Rattle.std.specs.Io.{StartsWith}
use Rattle.std.proofs.lemmas.List.{at_drop_more, length-take, take-append-le, append-nil}
use Rattle.std.proofs.lemmas.List.Elements.{All-get_or}
use Rattle.cow_model.specs.Fronts.{GrowsWithin}
use Rattle.cow_model.specs.Lexis.{Text}
use Rattle.cow_model.specs.Sharing.{Layer}
use Rattle.cow_model.specs.Purse.{Purse, RisesWithin}
use Rattle.cow_model.specs.Run.{run_one, env_after, text_from, least_layer, least_from}
use Rattle.cow_model.specs.declared.outcome.Environment.{Environment}
use Rattle.cow_model.specs.declared.outcome.Outcome.{Outcome}
use Rattle.cow_model.specs.declared.plain.Literal.{Literal}
use Rattle.cow_model.specs.declared.shape.Shape.{Shape}
use Rattle.cow_model.specs.declared.statement.Statement.{Statement, out-Statement}
use Rattle.cow_model.specs.declared.statement.Statement.TheOpen.{Statement-F}
use Rattle.cow_model.proofs.Within.{least_allowed}
use Rattle.cow_views.specs.Asks.{asks_layer, asks_from, raised_by}
use Rattle.cow_eval.specs.Entries.{SeenEntry}
use Rattle.cow_eval.specs.Envs.{Balances}
use Rattle.cow_eval.proofs.Asking.{raised-none}
use Rattle.cow_tasks.specs.Blocks.{count_in, count_of, has_fork, is_fork, stays_of}
use Rattle.cow_tasks.proofs.Growth.{grows_within}

-- statements in turn never lower what is allowed
pub block-rises : (env : Environment) (shapes : List Shape) (ss : List Statement) → env.allowed ≤ (env_after env shapes ss).allowed
block-rises env shapes ss = omega (arith, least_allowed env shapes ss)

-- the limits of what was copied add up
pub rises-on : (a b c : ℕ) (h h' h'' : Purse) → RisesWithin a b h h' → RisesWithin b c h' h'' → RisesWithin a c h h''
rises-on a b c h h' h'' one two =
    let first = one.copied in
    let second = two.copied in
    let kept = one.kept in
    let kept-on = two.kept in
    record { copied = omega (arith, first, second); kept = omega (arith, kept, kept-on) }

-- names balance over two steps
pub balances-on : (p : Literal → Bool) (a b c : List SeenEntry) (h h' h'' : Purse) → Balances p 0 a b h h' → Balances p 0 b c h' h'' → Balances p 0 a c h h''
balances-on p a b c h h' h'' one two =
    let first = one.sum in
    let second = two.sum in
    record { bare = two.bare; sum = omega (arith, first, second) }

-- a text that grows still starts as it did
pub starts-on : (old new more : Text) → StartsWith new old → StartsWith (new ++ more) old
starts-on old new more kept =
    let cut = length-take (length old) new in
    let same = ap length kept in
    let shorter : length old ≤ length new = omega (arith, cut, same) in
    take-append-le (length old) new more shorter ∙ kept

-- the least copies of a statement and of those to come
pub least-on : (n rest copied copied' : ℕ) → min (copied + n) (2 ^ 64 - 1) ≤ copied' → min (copied + (n + rest)) (2 ^ 64 - 1) ≤ min (copied' + rest) (2 ^ 64 - 1)
least-on n rest copied copied' made = omega (arith, made)

-- a text that grew by a front of what one statement prints grew by a front of what all print
pub grows-in : (old now new one rest all whole : Text) → StartsWith now old → GrowsWithin now new one → one ++ rest ≡ all → now ++ all ≡ old ++ whole → GrowsWithin old new whole
grows-in old now new one rest all whole kept g next complete =
    let left = g.front.0 in
    let still : StartsWith new old = subst (λ t. StartsWith t old) (sym g.grown) (starts-on old now g.added kept) in
    grows_within old new (left ++ rest) whole still
    (sym (append_assoc new left rest)
    ∙ (ap (λ t. (t ++ left) ++ rest) g.grown
    ∙ (ap (λ t. t ++ rest) (append_assoc now g.added left ∙ ap (λ t. now ++ t) g.front.1)
    ∙ (append_assoc now one rest ∙ (ap (λ t. now ++ t) next ∙ complete)))))

-- what a statement leaves after want of memory is a front of what it prints
pub stays-grows : (s : Layer) (out : Outcome) (said said' : Text) → stays_of s out said said' → GrowsWithin said said' out.text
stays-grows (Statement-F.Fork l tasks) out said said' g = g
stays-grows s out said said' same = record { added = []; front = (out.text, refl); grown = same ∙ sym (append-nil said) }

-- where no statement is left no rule is asked any more
pub asked-end : (env : Environment) (shapes : List Shape) (rest : List Statement) → rest ≡ [] → (asked whole : List ℕ) → raised_by (λ k. asks_from env shapes k rest) asked ≡ whole → asked ≡ whole
asked-end env shapes rest none asked whole told =
    sym (raised-none (λ k. asks_from env shapes k []) (λ k. refl) asked) ∙ (ap (λ r. raised_by (λ k. asks_from env shapes k r) asked) (sym none) ∙ told)

pub or-left : (a b : Bool) → a ≡ true → (a || b) ≡ true
or-left a b e = rw e refl

pub or-right : (a b : Bool) → b ≡ true → (a || b) ≡ true
or-right true b e = refl
or-right false b e = e

module _ (before : Environment) (shapes : List Shape) (block : List Statement) (i : ℕ) (s : Statement) (within : i < length block) (is : s ≡ get_or block i s) where
  at-next : {X : Type 0} (f : List Statement → X) → f (s ∷ drop (i + 1) block) ≡ f (drop i block)
  at-next f = ap (λ x. f (x ∷ drop (i + 1) block)) is ∙ sym (at_drop_more f block i s within)

  pub env-next : env_after (run_one before shapes s).env shapes (drop (i + 1) block) ≡ env_after before shapes (drop i block)
  env-next = at-next (env_after before shapes)

  pub text-next : (run_one before shapes s).text ++ text_from (run_one before shapes s).env shapes (drop (i + 1) block) ≡ text_from before shapes (drop i block)
  text-next = at-next (text_from before shapes)

  pub least-next : least_layer before (out-Statement s) + least_from (run_one before shapes s).env shapes (drop (i + 1) block) ≡ least_from before shapes (drop i block)
  least-next = at-next (least_from before shapes)

  -- how often rules have been asked once the others are done
  pub asks-next : (asked : List ℕ) → raised_by (λ k. asks_layer before shapes k (out-Statement s) + asks_from (run_one before shapes s).env shapes k (drop (i + 1) block)) asked ≡ raised_by (λ k. asks_from before shapes k (drop i block)) asked
  asks-next asked = at-next (λ ss. raised_by (λ k. asks_from before shapes k ss) asked)

  -- what holds of all statements holds of this one
  pub of-this : (P : Statement → Type 0) → All P block → P s
  of-this P all = subst P (sym is) (All-get_or P block i s within all)

  -- what is allowed after this statement is allowed after all
  pub most-next : (run_one before shapes s).env.allowed ≤ (env_after before shapes (drop i block)).allowed
  most-next = let rises = block-rises (run_one before shapes s).env shapes (drop (i + 1) block) in let next = ap (λ e. e.allowed) env-next in omega (arith, rises, next)

  -- how many statements are left
  pub count-next : count_of (out-Statement s) + count_in (drop (i + 1) block) ≡ count_in (drop i block)
  count-next = at-next count_in

  -- whether a fork is left
  pub fork-next : (is_fork (out-Statement s) || has_fork (drop (i + 1) block)) ≡ has_fork (drop i block)
  fork-next = at-next has_fork
