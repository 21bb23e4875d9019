-- A key goes from a canonical shape: the set that is left.
use Rattle.std.proofs.Common.{◌≡◌, ℕ, ◌+◌, length, map, List, [], ◌∷◌, true, false, not, cond, filter, Option, Some, None, refl, sym, ap, ◌∙◌, arith}
use Rattle.std.specs.Prelude.{is_some}
use Rattle.std.proofs.lemmas.Bool.{true≢false}
use Rattle.cow_model.proofs.Ascending.{on_side}
use Rattle.cow_model.proofs.CanonOrder.{eq_means}
use Rattle.cow_model.proofs.CanonSlots.{length-canon}
use Rattle.cow_model.specs.Canon.{is_one, IsDistinct, without, get, canon, pairs, Tree}
use Rattle.cow_model.specs.Members.{member, ascending}
use Rattle.cow_model.specs.Order.{same}
use Rattle.cow_model.specs.declared.plain.Literal.{Literal}
use Rattle.cow_model.specs.declared.value.Pair.{Pair}
use Rattle.cow_members.proofs.Ascents.{or-false}
use Rattle.cow_members.specs.Sets.{found, without as without_member}
use Rattle.cow_trim.proofs.Leavings.{length-gone}
use Rattle.cow_trim.proofs.Removals.{IsDistinct-without}
use Rattle.cow_treeset.specs.TreeSets.{set_of}
use Rattle.cow_treeset.proofs.Combining.{filtered}
use Rattle.cow_treeset.proofs.Tries.{distinct-keys, get-member, set-canon}

pub no-value : (o : Option Literal) → is_some o ≡ false → o ≡ None
no-value None e = refl
no-value (Some x) e = absurd (true≢false e)

-- the keys of pairs but one
abbrev others : Literal → List Pair → List Literal
others k ps = filter (λ a. not (member a (k ∷ []))) (map (λ p. p.key) ps)

keys-left : (k : Literal) (ps : List Pair) → map (λ p. p.key) (without k ps) ≡ others k ps
unfolding without is_one
keys-left k [] = refl
keys-left k (p ∷ ps) = on_side (same p.key k)
    (λ e. ap (λ b. map (λ q. q.key) (cond (not b) (p ∷ without k ps) (without k ps))) e ∙ keys-left k ps
    ∙ sym (ap (λ b. cond (not b) (p.key ∷ others k ps) (others k ps)) (or-false (same p.key k) ∙ e)))
    (λ e. ap (λ b. map (λ q. q.key) (cond (not b) (p ∷ without k ps) (without k ps))) e ∙ ap (λ l. p.key ∷ l) (keys-left k ps)
    ∙ sym (ap (λ b. cond (not b) (p.key ∷ others k ps) (others k ps)) (or-false (same p.key k) ∙ e)))

module _ (hash_of : Literal → ℕ) (level : ℕ) (k : Literal) (ps : List Pair) (d : IsDistinct ps) where
  -- the set without the key
  pub set-gone : set_of (pairs (canon hash_of (without k ps) level)) ≡ without_member k (set_of ps)
  set-gone =
      set-canon hash_of level (without k ps) (IsDistinct-without k ps d) ∙ ap ascending (keys-left k ps)
      ∙ filtered (λ a. not (member a (k ∷ []))) (map (λ p. p.key) ps) (set_of ps) refl (distinct-keys ps d)

  -- one pair fewer, where the key was there
  pub size-gone : is_some (get k ps) ≡ true → (s : Tree) → s ≡ canon hash_of (without k ps) level → length (pairs s) + 1 ≡ length ps
  size-gone n s f =
      let m = ap (λ t. length (pairs t)) f in
      omega (arith, m, length-canon hash_of (without k ps) level, length-gone k ps d n)

-- ---- what the call answers
pub none-found : (k : Literal) (ps : List Pair) (v : List Literal) → set_of ps ≡ v → None ≡ get k ps → None ≡ found k v
none-found k ps v e none = sym (ap (λ b. cond b (Some k) None) (sym (get-member k ps ∙ ap (member k) e) ∙ sym (ap is_some none)))

pub one-found : (k x : Literal) (ps : List Pair) (v : List Literal) → set_of ps ≡ v → is_some (get k ps) ≡ true → is_one x k ≡ true → Some x ≡ found k v
one-found k x ps v e there one = ap Some (eq_means x k one) ∙ sym (ap (λ b. cond b (Some k) None) (sym (get-member k ps ∙ ap (member k) e) ∙ there))
