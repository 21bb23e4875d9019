use Rattle.std.proofs.Common.{◌≡◌, ℕ, ◌+◌, ◌-◌, ◌<◌, ◌≤◌, ◌/◌, List, length, get_or, reverse, sym, ap, ◌∙◌, arith, subst}
use Rattle.std.proofs.lemmas.List.{same_lists, length-reverse, get_or-reverse}
use Rattle.cow_members.specs.Members.{MembersView}
use Rattle.cow_members.proofs.order.reverse.Goals as goal

-- a list whose halves have changed places from both ends is the reversed one
halves : {X : Type 0} (xs ys : List X) (n h : ℕ) → length ys ≡ n → length xs ≡ n → h ≡ n / 2
    → ((k : ℕ) (d : X) → k < h → get_or ys k d ≡ get_or xs (n - 1 - k) d)
    → ((k : ℕ) (d : X) → k < h → get_or ys (n - 1 - k) d ≡ get_or xs k d)
    → ((k : ℕ) (d : X) → h ≤ k → k + h < n → get_or ys k d ≡ get_or xs k d)
    → (k : ℕ) (d : X) → k < n → get_or ys k d ≡ get_or xs (n - 1 - k) d
halves xs ys n h ly lx eh low high middle k d lt = grind arith

pub returns-clause-items : goal.returns-clause-items
returns-clause-items g c =
    let v = c.loop-i.invariant in
    let n = c.len-len.result in
    let xs = c.args.members.now.keys.items in
    let ys = c.loop-i.members.keys.items in
    let count : n ≡ length xs = c.len-len.ensures.value ∙ ap (λ (m : MembersView g.row.K.Denot). length m.keys.items) c.members.view_is in
    let long : length ys ≡ length (reverse xs) = v.count ∙ sym (length-reverse xs) in
    let each = λ (k : ℕ) (d : g.row.K.Denot) (lt : k < n). halves xs ys n c.loop-i.i (omega (arith, v.count)) (omega arith) (omega arith) v.low v.high v.middle k d lt in
    let there = λ (k : ℕ) (d : g.row.K.Denot) (lt : k < n). subst (λ (m : ℕ). get_or xs (m - 1 - k) d ≡ get_or (reverse xs) k d) (sym count) (sym (get_or-reverse xs k d (omega (arith, lt, count)))) in
    same_lists ys (reverse xs) long (λ k d lt. each k d (omega (arith, lt, v.count, count)) ∙ there k d (omega (arith, lt, v.count, count)))
