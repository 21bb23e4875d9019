-- What is reached by a search from its home, when one place is filled.
use Rattle.std.proofs.Common.{◌≡◌, ◌≢◌, ℕ, ◌%◌, ◌<◌, ◌≤◌, List, length, get_or, set, Option, Some, None, sym, ap, subst, ◌∙◌, arith, inl, inr}
use Rattle.std.proofs.lemmas.List.{length-set, get_or-set_same, get_or-set_other}
use Rattle.std.proofs.lemmas.Bool.{cases_eq}
use Rattle.cow_table.specs.Pairs.{Pair, hash_at, Gains}
use Rattle.cow_table.specs.Ring.{pairs_of, IsRing, IsNear, StaysNear, distance}
use Rattle.cow_table.proofs.Cells.{lookup-fill, count-fill, apart-fill}

-- the cells are read by f: no free one lies between the home of a pair and its place
abbrev pub Reached : ℕ → (ℕ → Option Pair) → Type 0
Reached n f = (i j : ℕ) (e : Pair) → i < n → j < n → f i ≡ Some e → distance n (e.hash % n) j < distance n (e.hash % n) i → f j ≢ None

pub Some-same : (a b : Pair) → Some a ≡ Some b → a ≡ b
Some-same a b e = cc

pub Reached-fill : (n : ℕ) (f g : ℕ → Option Pair) (at : ℕ) (e : Pair) → g at ≡ Some e → ((j : ℕ) → j ≢ at → g j ≡ f j)
    → ((j : ℕ) → j < n → distance n (e.hash % n) j < distance n (e.hash % n) at → f j ≢ None) → Reached n f → Reached n g
Reached-fill n f g at e here else passed r i j x p q s d z = elim (cases_eq j at) [
  | inl b ↦ let u = ap g b in cc
  | inr b ↦ elim (cases_eq i at) [
    | inl a ↦
        let u = ap g a in
        let v : Some x ≡ Some e = sym s ∙ u ∙ here in
        let w = Some-same x e v in
        passed j q (subst (λ y. distance n (e.hash % n) j < distance n (e.hash % n) y) a (subst (λ (y : Pair). distance n (y.hash % n) j < distance n (y.hash % n) i) w d)) (sym (else j b) ∙ z)
    | inr a ↦ r i j x p q (sym (else i a) ∙ s) d (sym (else j b) ∙ z)
  ]
]

pub ring-fill : (cs : List (Option Pair)) (at : ℕ) (e : Pair) → IsRing cs → at < length cs → get_or cs at None ≡ None → hash_at (pairs_of cs) e.position ≡ None
    → ((j : ℕ) → j < length cs → distance (length cs) (e.hash % length cs) j < distance (length cs) (e.hash % length cs) at → get_or cs j None ≢ None) → IsRing (set cs at (Some e))
ring-fill cs at e r l free absent passed = record {
  size = rw (length-set cs at (Some e)) r.size;
  placed = record {
    reached = subst (λ n. Reached n (λ j. get_or (set cs at (Some e)) j None)) (sym (length-set cs at (Some e)))
        (Reached-fill (length cs) (λ j. get_or cs j None) (λ j. get_or (set cs at (Some e)) j None) at e (get_or-set_same cs at (Some e) None l) (λ j d. get_or-set_other cs at j (Some e) None d) passed r.placed.reached);
  };
  apart = apart-fill cs at e l free absent r.apart;
}

pub gains-fill : (cs : List (Option Pair)) (at : ℕ) (e : Pair) → at < length cs → get_or cs at None ≡ None → hash_at (pairs_of cs) e.position ≡ None → Gains e (pairs_of cs) (pairs_of (set cs at (Some e)))
gains-fill cs at e l free absent = record { lookup = λ q. lookup-fill cs at e q l free absent; count = count-fill cs at e l free }

-- the cells are read by f: each pair stands at most `reach` places after its home
abbrev pub Nearby : ℕ → (n : ℕ) → (ℕ → Option Pair) → Type 0
Nearby reach n f = (i : ℕ) (e : Pair) → i < n → f i ≡ Some e → distance n (e.hash % n) i ≤ reach

pub Nearby-fill : (reach n : ℕ) (f g : ℕ → Option Pair) (at : ℕ) (e : Pair) → g at ≡ Some e → ((j : ℕ) → j ≢ at → g j ≡ f j) → distance n (e.hash % n) at ≤ reach → Nearby reach n f → Nearby reach n g
Nearby-fill reach n f g at e here else close r i x p s = elim (cases_eq i at) [
  | inl a ↦
      let v : Some x ≡ Some e = sym s ∙ ap g a ∙ here in
      subst (λ y. distance n (x.hash % n) y ≤ reach) (sym a) (subst (λ (y : Pair). distance n (y.hash % n) at ≤ reach) (sym (Some-same x e v)) close)
  | inr a ↦ r i x p (sym (else i a) ∙ s)
]

pub near-fill : (cs : List (Option Pair)) (at : ℕ) (e : Pair) → at < length cs → StaysNear (distance (length cs) (e.hash % length cs) at) cs (set cs at (Some e))
near-fill cs at e l reach far r = record {
  near = subst (λ n. Nearby reach n (λ j. get_or (set cs at (Some e)) j None)) (sym (length-set cs at (Some e)))
      (Nearby-fill reach (length cs) (λ j. get_or cs j None) (λ j. get_or (set cs at (Some e)) j None) at e (get_or-set_same cs at (Some e) None l) (λ j d. get_or-set_other cs at j (Some e) None d) far r.near);
}

-- a pair less
pub near-empty : (cs : List (Option Pair)) (at reach : ℕ) → at < length cs → IsNear reach cs → IsNear reach (set cs at None)
near-empty cs at reach l r = record {
  near = subst (λ n. Nearby reach n (λ j. get_or (set cs at None) j None)) (sym (length-set cs at None))
      (λ i x p s. elim (cases_eq i at) [
        | inl a ↦ absurd (let u = ap (λ j. get_or (set cs at None) j None) a in let v = get_or-set_same cs at None None l in cc)
        | inr a ↦ r.near i x p (sym (get_or-set_other cs at i None None a) ∙ s)
      ]);
}

pub near-wider : (reach wide : ℕ) (cs : List (Option Pair)) → reach ≤ wide → IsNear reach cs → IsNear wide cs
near-wider reach wide cs l r = record { near = λ i e p s. omega (arith, r.near i e p s) }
