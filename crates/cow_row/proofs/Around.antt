-- What a row shows, and what it costs, whose items stay before and behind a run that others take the place of.
use Rattle.std.proofs.Common.{◌≡◌, ℕ, zero, suc, ◌+◌, ◌-◌, ◌*◌, ◌≤◌, List, [], ◌++◌, length, map, take, drop, Bool, true, false, cond, count_by, refl, sym, ◌∙◌, arith, append_assoc, slice_range}
use Rattle.std.proofs.lemmas.Grind.{common_steps}
use Rattle.std.proofs.lemmas.List.{append-nil, take-map, drop-map, take_all, drop_all, length-map, length-take-le, length-drop, map-append, drop-drop}
use Rattle.std.proofs.lemmas.List.Sums.{sum_by-append, sum_by-take-drop}
use Rattle.std.proofs.Math.Nat.{mul-le-mul_left}
use Rattle.std.specs.List.{splice}
use Rattle.cow_model.specs.Flat.{copies}
use Rattle.cow_model.specs.Purse.{Purse, Moves, less, more, noted}
use Rattle.cow_model.specs.declared.plain.Literal.{Literal}
use Rattle.cow_row.specs.Trades.{Trades}
use Rattle.cow_row.specs.Words.{run_of}

-- copies of the items before a run, then others, then copies of the items behind it
pub shown-around : {A B : Type 0} (f : A → B) (xs ts bs cs zs : List A) (i n k : ℕ) → i + n + k ≡ length xs
    → map f ts ≡ [] ++ map f (run_of 0 i xs) → map f bs ≡ splice (map f ts) i (i + 0) (map f zs) → map f cs ≡ map f bs ++ map f (run_of (i + n) k xs)
    → map f cs ≡ splice (map f xs) i (i + n) (map f zs)
shown-around f xs ts bs cs zs i n k h first second third =
    let ys = take i (map f xs) in
    let head : map f ts ≡ ys = first ∙ sym (take-map f i xs) in
    let long : length ys ≡ i = length-take-le i (map f xs) (omega (arith, h, length-map xs f)) in
    let middle : map f bs ≡ ys ++ map f zs = second ∙ rw (head, take_all i ys (omega (arith, long)), drop_all (i + 0) ys (omega (arith, long)), append-nil) refl in
    let rest : take k (drop (i + n) xs) ≡ drop (i + n) xs = take_all k (drop (i + n) xs) (omega (arith, h, length-drop (i + n) xs)) in
    rw (third, middle, rest, ← drop-map f (i + n) xs, append_assoc) refl

-- as many of a list pass before and behind a run as in both together
pub units-around : {A B : Type 0} (f : A → B) (p : B → Bool) (xs : List A) (i j : ℕ)
    → count_by p (map f (splice xs i j [])) ≡ count_by p (map f (take i xs)) + count_by p (map f (drop j xs))
units-around f p xs i j = rw (map-append, sum_by-append (λ y. cond (p y) 1 0) (map f (take i xs)) (map f (drop j xs))) refl

-- of a list, those in a run and those around it
pub units-apart : {A : Type 0} (p : A → Bool) (xs : List A) (i j : ℕ) → i ≤ j → count_by p (splice xs i j []) + count_by p (slice_range xs i j) ≡ count_by p xs
units-apart {A} p xs i j h =
    let f : A → ℕ = λ y. cond (p y) 1 0 in
    let e : i + (j - i) ≡ j = omega arith in
    let behind : drop (j - i) (drop i xs) ≡ drop j xs = rw (drop-drop (j - i) i xs, e) refl in
    let inner = rw behind at (sum_by-take-drop f (drop i xs) (j - i)) in
    omega (arith, sum_by-append f (take i xs) (drop j xs), sum_by-take-drop f xs i, inner)

-- two counts of copies, one after the other
pub noted-twice : (w i k n : ℕ) (a b c : Purse) → i + k ≡ n → b.copied ≡ (noted (w * i) a).copied → c.copied ≡ (noted (w * k) b).copied → c.copied ≤ a.copied + w * n
noted-twice w i k n a b c e first second =
    let sum : w * i + w * k ≡ w * n = rw (← e) (grind (arith, common_steps)) in
    omega (arith, first, second, sum)

less-weight : (w m n : ℕ) (alone : Bool) → m ≤ n → copies alone (w * m) ≤ copies alone (w * n)
less-weight w m n true h = omega arith
less-weight w m n false h = mul-le-mul_left w h

-- what such a change costs is within what a change of all items may
pub trades-within : (p : Literal → Bool) (w : ℕ) (alone : Bool) (i j : ℕ) (v : List Literal) (h h' : Purse) → i ≤ j → Trades p w alone i j v h h' → Moves (count_by p v) (copies alone (w * length v)) h h'
trades-within p w alone i j v h h' e t =
    let apart = units-apart p v i j e in
    record {
      falls = omega (arith, apart, t.falls);
      rises = omega (arith, apart, t.rises);
      copied = omega (arith, t.copied, less-weight w (length v - (j - i)) (length v) alone (omega arith));
      kept = t.kept;
    }

-- a new storage with copies of the items that stay, in the place of one that ends
pub trades-renewed : {A : Type 0} (f : A → Literal) (p : Literal → Bool) (w : ℕ) (xs : List A) (i n : ℕ) (h a b h' : Purse)
    → i + n ≤ length xs → 1 ≤ h.spare → a ≡ less 1 h → b.spare + count_by p (map f (splice xs i (i + n) [])) ≡ a.spare → b.copied ≤ a.copied + w * (length xs - n) → a.copied ≤ b.copied
    → Moves (count_by p (map f xs)) 0 (more 1 b) h' → b.spare + 1 ≤ h'.spare
    → Trades p w false i (i + n) (map f xs) h h'
trades-renewed f p w xs i n h a b h' within one taken spent counted kept ended back =
    let stay : map f (splice xs i (i + n) []) ≡ splice (map f xs) i (i + n) [] = rw (map-append, take-map, drop-map) refl in
    let spends = rw (stay, taken) at spent in
    let all = rw taken at counted in
    let more-than = rw taken at kept in
    let apart = units-apart p (map f xs) i (i + n) (omega arith) in
    let e : length (map f xs) - (i + n - i) ≡ length xs - n = omega (arith, length-map xs f) in
    record {
      falls = omega (arith, spends, back, one);
      rises = omega (arith, spends, apart, ended.rises, one);
      copied = rw e (omega (arith, all, ended.copied));
      kept = omega (arith, more-than, ended.kept);
    }

-- the items of a run end where they stand
pub trades-in-place : {A : Type 0} (f : A → Literal) (p : Literal → Bool) (w : ℕ) (alone : Bool) (xs : List A) (i n : ℕ) (h h' : Purse)
    → h' ≡ more (count_by p (map f (run_of i n xs))) h → Trades p w alone i (i + n) (map f xs) h h'
trades-in-place f p w alone xs i n h h' paid =
    let e : i + n - i ≡ n = omega arith in
    let gone : slice_range (map f xs) i (i + n) ≡ map f (run_of i n xs) = rw (e, drop-map, take-map) refl in
    rw paid (record {
      falls = omega arith;
      rises = rw gone (omega arith);
      copied = omega arith;
      kept = omega arith;
    })

-- an item of a weight of at most 1 counts one copy at most
pub copies-light : (w n : ℕ) (alone : Bool) → w ≤ 1 → copies alone (w * n) ≤ copies alone n
copies-light w n true h = omega arith
copies-light zero n false h = omega arith
copies-light (suc zero) n false h = omega arith
copies-light (suc (suc w)) n false h = absurd (omega arith)
