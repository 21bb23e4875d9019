use Rattle.std.proofs.Common.{◌≡◌, ◌+◌, List, ◌∷◌, map, cond, count_by, Bool, arith}
use Rattle.std.proofs.lemmas.List.Sums.{sum_by-cons}
use Rattle.cow_model.specs.Purse.{unit_if}
use Rattle.cow_deque.proofs.storage.end_items.Goals as goal

units-first : {A B : Type 0} (f : A → B) (p : B → Bool) (xs ys : List A) (x : A) → xs ≡ x ∷ ys → count_by p (map f xs) ≡ unit_if (p (f x)) + count_by p (map f ys)
units-first f p xs ys x s = rw s (sum_by-cons (λ y. cond (p y) 1 0) (f x) (map f ys))

pub loop-x-preserved : goal.loop-x-preserved
loop-x-preserved g c =
    let v = c.loop-x.invariant in
    let units = units-first g.T.Item.plain g.T.Item.is_counted c.loop-x.ring.items c.pop_front.new.self.items c.in-Some.x c.in-Some.ensures.value in
    record {
      spare = rw c.end.ensures (omega (arith, units, v.spare));
      copied = rw c.end.ensures v.copied;
    }
