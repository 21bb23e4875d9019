-- What the steps of a change cost the holder together.
use Rattle.std.proofs.Common.{◌≡◌, ℕ, ◌+◌, ◌*◌, ◌≤◌, length, map, List, ◌++◌, Bool, cond, count_by, ap, ◌∙◌, arith}
use Rattle.std.proofs.lemmas.List.{length-map}
use Rattle.std.proofs.lemmas.List.Sums.{sum_by-append}
use Rattle.cow_model.specs.Flat.{copies}
use Rattle.cow_model.specs.Members.{ascending}
use Rattle.cow_model.specs.Purse.{Purse, Moves}
use Rattle.cow_model.specs.declared.plain.Literal.{Literal}
use Rattle.cow_members.proofs.Ascents.{length-ascending, count_by-ascending}

-- two steps
pub moves-on : (u n v m : ℕ) (h k l : Purse) → Moves u n h k → Moves v m k l → Moves (u + v) (n + m) h l
moves-on u n v m h k l a b = record {
  falls = omega (arith, a.falls, b.falls);
  rises = omega (arith, a.rises, b.rises);
  copied = omega (arith, a.copied, b.copied);
  kept = omega (arith, a.kept, b.kept);
}

module _ {K : Type 0} (plain : K → Literal) (p : Literal → Bool) where
  count-set : (xs : List K) → length (ascending (map plain xs)) ≡ length xs
  count-set xs = length-ascending (map plain xs) ∙ length-map xs plain

  -- the storage is made alone, then copies of others come in
  pub paid-with : (w : ℕ) (alone : Bool) (xs ys : List K) (h k l : Purse) → Moves (count_by p (map plain xs)) (copies alone (w * length xs)) h k → Moves (count_by p (map plain ys)) (w * length ys) k l
      → Moves (count_by p (ascending (map plain xs) ++ ascending (map plain ys))) (copies alone (w * length (ascending (map plain xs))) + w * length (ascending (map plain ys))) h l
  paid-with w alone xs ys h k l a b =
      let units = sum_by-append (λ y. cond (p y) 1 0) (ascending (map plain xs)) (ascending (map plain ys)) in
      let mine = count_by-ascending p (map plain xs) in
      let theirs = count_by-ascending p (map plain ys) in
      let made = ap (λ n. copies alone (w * n)) (count-set xs) in
      let brought = ap (λ n. w * n) (count-set ys) in
      record {
        falls = omega (arith, a.falls, b.falls, units, mine, theirs);
        rises = omega (arith, a.rises, b.rises, units, mine, theirs);
        copied = omega (arith, a.copied, b.copied, made, brought);
        kept = omega (arith, a.kept, b.kept);
      }

  -- the storage is made alone, then some of its items end
  pub paid-out : (w : ℕ) (alone : Bool) (xs zs : List K) (h k l : Purse) → Moves (count_by p (map plain xs)) (copies alone (w * length xs)) h k → k.spare ≤ h.spare
      → l.spare + count_by p (map plain zs) ≡ k.spare + count_by p (map plain xs) → k.spare ≤ l.spare → l.copied ≡ k.copied
      → Moves (count_by p (ascending (map plain xs))) (copies alone (w * length (ascending (map plain xs)))) h l
  paid-out w alone xs zs h k l a down balance up copied =
      let mine = count_by-ascending p (map plain xs) in
      let made = ap (λ n. copies alone (w * n)) (count-set xs) in
      record {
        falls = omega (arith, a.falls, up, mine);
        rises = omega (arith, down, balance, mine);
        copied = omega (arith, a.copied, copied, made);
        kept = omega (arith, a.kept, copied);
      }
