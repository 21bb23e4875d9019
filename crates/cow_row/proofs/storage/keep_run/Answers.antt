use Rattle.std.proofs.Common.{◌≡◌, ℕ, ◌+◌, List, [], ◌∷◌, ◌++◌, length, length-append, map, take, drop, cond, count_by, Bool, sym, ap, ◌∙◌, arith}
use Rattle.std.proofs.lemmas.List.{map-append, take-append-le, take_all, take-take, drop-drop, drop-take}
use Rattle.std.proofs.lemmas.List.Sums.{sum_by-cons}
use Rattle.cow_model.specs.Purse.{unit_if}
use Rattle.cow_model.proofs.ListSteps.{count_by_push}
use Rattle.cow_row.proofs.storage.keep_run.Goals as goal

-- the first items of a list, once the last of them has gone
fewer : {A : Type 0} (all xs ys : List A) (x : A) → xs ≡ take (length xs) all → xs ≡ ys ++ x ∷ [] → ys ≡ take (length ys) all
fewer all xs ys x e s =
    let long : length xs ≡ length ys + 1 = rw s (length-append ys (x ∷ [])) in
    let front : take (length ys) xs ≡ ys = rw (s, take-append-le (length ys) ys (x ∷ []) (omega arith)) (take_all (length ys) ys (omega arith)) in
    sym front ∙ ap (take (length ys)) e ∙ take-take (length ys) (length xs) all (omega (arith, long))

-- the rest of a list, once the first of it has gone
rest : {A : Type 0} (all xs ys : List A) (x : A) (i : ℕ) → xs ≡ drop i all → xs ≡ x ∷ ys → ys ≡ drop (i + 1) all
rest all xs ys x i e s = ap (drop 1) (sym s ∙ e) ∙ drop-drop 1 i all

units-push : {A B : Type 0} (f : A → B) (p : B → Bool) (xs ys : List A) (x : A) → xs ≡ ys ++ x ∷ [] → count_by p (map f xs) ≡ count_by p (map f ys) + unit_if (p (f x))
units-push f p xs ys x s = rw (s, map-append) (count_by_push p (map f ys) (f x))

units-first : {A B : Type 0} (f : A → B) (p : B → Bool) (xs ys : List A) (x : A) → xs ≡ x ∷ ys → count_by p (map f xs) ≡ unit_if (p (f x)) + count_by p (map f ys)
units-first f p xs ys x s = rw s (sum_by-cons (λ y. cond (p y) 1 0) (f x) (map f ys))

pub loop-row-preserved : goal.loop-row-preserved
loop-row-preserved g c =
    let v = c.loop-row.invariant in
    let units = units-push g.T.Item.plain g.T.Item.is_counted c.loop-row.row.items c.pop.new.self.items c.in-Some.x c.in-Some.ensures.value in
    let all : length c.loop-row.row.items ≡ length c.pop.new.self.items + 1 = rw c.in-Some.ensures.value (length-append c.pop.new.self.items (c.in-Some.x ∷ [])) in
    record {
      items = fewer c.args.row.now.items c.loop-row.row.items c.pop.new.self.items c.in-Some.x v.items c.in-Some.ensures.value;
      within = omega (arith, all, c.len.ensures.value);
      front = c.in-Some.ensures.front ∙ v.front;
      capacity = c.in-Some.ensures.capacity ∙ v.capacity;
      spare = rw c.end.ensures (omega (arith, units, v.spare));
      copied = rw c.end.ensures v.copied;
    }

pub loop-i-preserved : goal.loop-i-preserved
loop-i-preserved g c =
    let v = c.loop-i.invariant in
    let s = c.in-Some-pop_front.ensures in
    let units = units-first g.T.Item.plain g.T.Item.is_counted c.loop-i.row.items c.pop_front.new.self.items c.in-Some-pop_front.x s.value in
    record {
      items = rest (take (c.args.start + c.args.count) c.args.row.now.items) c.loop-i.row.items c.pop_front.new.self.items c.in-Some-pop_front.x c.loop-i._i v.items s.value;
      within = v.within;
      front = omega (arith, s.front, v.front);
      capacity = omega (arith, s.capacity, v.capacity);
      spare = rw c.end-in-Some-pop_front.ensures (omega (arith, units, v.spare));
      copied = rw c.end-in-Some-pop_front.ensures v.copied;
    }

pub returns-clause-items : goal.returns-clause-items
returns-clause-items g c = let done : c.loop-i._i ≡ c.args.start = omega arith in rw c.to_front.ensures (c.loop-i.invariant.items ∙ rw done (drop-take c.args.start c.args.count c.args.row.now.items))
