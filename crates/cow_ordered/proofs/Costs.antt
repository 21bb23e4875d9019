-- What the steps of a change of an ordered set cost the holder together.
use Rattle.std.proofs.Common.{◌≡◌, ℕ, ◌+◌, ◌*◌, ◌≤◌, length, map, List, ◌++◌, Bool, cond, count_by, ap, arith}
use Rattle.std.proofs.lemmas.List.{length-map}
use Rattle.std.proofs.lemmas.List.Sums.{sum_by-append}
use Rattle.cow_model.specs.Flat.{copies}
use Rattle.cow_model.specs.Purse.{Purse, Moves}
use Rattle.cow_model.specs.declared.plain.Literal.{Literal}

module _ {K : Type 0} (plain : K → Literal) (p : Literal → Bool) where
  -- the storage is made alone, then copies of others come in, and items may end
  pub paid-with : (w : ℕ) (alone : Bool) (xs ys : List K) (h k l : Purse) → Moves (count_by p (map plain xs)) (copies alone (w * length xs)) h k → k.spare ≤ h.spare
      → k.spare ≤ l.spare + count_by p (map plain ys) → l.spare ≤ k.spare + count_by p (map plain xs) + count_by p (map plain ys)
      → l.copied ≤ k.copied + w * length ys → k.copied ≤ l.copied
      → Moves (count_by p (map plain xs ++ map plain ys)) (copies alone (w * length (map plain xs)) + w * length (map plain ys)) h l
  paid-with w alone xs ys h k l a down falls rises copied kept =
      let units = sum_by-append (λ y. cond (p y) 1 0) (map plain xs) (map plain ys) in
      let made = ap (λ n. copies alone (w * n)) (length-map xs plain) in
      let brought = ap (λ n. w * n) (length-map ys plain) in
      record {
        falls = omega (arith, a.falls, falls, units);
        rises = omega (arith, down, rises, units);
        copied = omega (arith, a.copied, copied, made, brought);
        kept = omega (arith, a.kept, kept);
      }

  -- the storage is made alone, then some of its items end
  pub paid-out : (w : ℕ) (alone : Bool) (xs zs : List K) (h k l : Purse) → Moves (count_by p (map plain xs)) (copies alone (w * length xs)) h k → k.spare ≤ h.spare
      → l.spare + count_by p (map plain zs) ≡ k.spare + count_by p (map plain xs) → k.spare ≤ l.spare → l.copied ≡ k.copied
      → Moves (count_by p (map plain xs)) (copies alone (w * length (map plain xs))) h l
  paid-out w alone xs zs h k l a down balance up copied =
      let made = ap (λ n. copies alone (w * n)) (length-map xs plain) in
      record {
        falls = omega (arith, a.falls, up);
        rises = omega (arith, down, balance);
        copied = omega (arith, a.copied, copied, made);
        kept = omega (arith, a.kept, copied);
      }
