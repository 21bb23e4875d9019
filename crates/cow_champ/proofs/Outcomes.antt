-- Facts on one variant.
use Rattle.std.specs.Prelude.{Result, Ok, Err}
use Rattle.std.proofs.Common.{◌≡◌, false, true}
use Rattle.std.specs.Result.{OnOk, OnErr, is_err, is_ok}

module _ {T E : Type 0} {P Q : Type 0} (r : Result T E) where
  pub OnOk_map : (P → Q) → OnOk r P → OnOk r Q
  OnOk_map f h = (elim r as (λ x. OnOk x P → OnOk x Q) [ Ok v ↦ f | Err e ↦ λ _. tt ]) h

  pub OnErr_map : (P → Q) → OnErr r P → OnErr r Q
  OnErr_map f h = (elim r as (λ x. OnErr x P → OnErr x Q) [ Ok v ↦ λ _. tt | Err e ↦ f ]) h

  pub by_outcome : {G : Type 0} → (P → G) → (Q → G) → OnOk r P → OnErr r Q → G
  by_outcome {G} f k h e = (elim r as (λ x. OnOk x P → OnErr x Q → G) [ Ok v ↦ λ h e. f h | Err v ↦ λ h e. k e ]) h e

pub when_ok : {T E : Type 0} {P : Type 0} (r : Result T E) → is_err r ≡ false → OnOk r P → P
when_ok {P = P} r h k = (elim r as (λ x. is_err x ≡ false → OnOk x P → P) [ Ok v ↦ λ h k. k | Err e ↦ λ h k. absurd (cc) ]) h k

pub use_ok : {T E : Type 0} {P : Type 0} (r : Result T E) → is_ok r ≡ true → OnOk r P → P
use_ok {P = P} r h k = (elim r as (λ x. is_ok x ≡ true → OnOk x P → P) [ Ok v ↦ λ h k. k | Err e ↦ λ h k. absurd (cc) ]) h k

-- a call that answers Ok only after an Ok
pub after_ok : {T E U F : Type 0} {A B P R : Type 0} (r : Result T E) (s : Result U F) → OnOk r (is_ok s ≡ true) → OnOk s R → OnOk r A → OnOk r B → (R → A → B → P) → OnOk r P
after_ok {A = A} {B = B} {P = P} {R = R} r s i h a b f =
    (elim r as (λ x. OnOk x (is_ok s ≡ true) → OnOk x A → OnOk x B → OnOk x P) [
      | Ok v ↦ λ i a b. f (use_ok s i h) a b
      | Err e ↦ λ i a b. tt
    ]) i a b

pub when_err : {T E : Type 0} {P : Type 0} (r : Result T E) → is_err r ≡ true → OnErr r P → P
when_err {P = P} r h k = (elim r as (λ x. is_err x ≡ true → OnErr x P → P) [ Ok v ↦ λ h k. absurd (cc) | Err e ↦ λ h k. k ]) h k
