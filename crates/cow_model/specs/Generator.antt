-- The generator of scripts: the same script for the same seed and number of rounds.
use Rattle.std.specs.Prelude.{ℕ, zero, suc, ◌+◌, ◌*◌, ◌/◌, ◌%◌, ◌^◌, List, [], ◌∷◌, ◌++◌, codes, slice_get, Option, Some, None}
use Rattle.std.specs.List.{flat_map}
use Rattle.std.specs.Fmt.{decimal}
use Rattle.cow_model.specs.Lexis.{Text}
use Rattle.cow_model.specs.Printed.{line}

-- the next state
abbrev pub next : ℕ → ℕ
next x = (6364136223846793005 * x + 1442695040888963407) % 2 ^ 64

-- the number below n that a state draws
abbrev pub drawn : ℕ → ℕ → ℕ
drawn x n = x / 2 ^ 33 % n

-- the lines of a round, by its first draw
abbrev pub forms : List (Text → Text)
forms =
    (λ v. codes "append a " ++ v)
    ∷ (λ v. codes "append q " ++ v)
    ∷ (λ v. codes "insert s " ++ v)
    ∷ (λ v. codes "put d " ++ v ++ codes " " ++ v)
    ∷ (λ v. codes "insert t " ++ v)
    ∷ (λ v. codes "put m " ++ v ++ codes " " ++ v)
    ∷ (λ v. codes "remove t " ++ v)
    ∷ (λ v. codes "remove s " ++ v)
    ∷ (λ v. codes "let b = a")
    ∷ (λ v. codes "pop q first")
    ∷ []

-- a form with its number
abbrev pub written : Option (Text → Text) → ℕ → Text
written None v = []
written (Some form) v = form (decimal v)

-- the line of a round that begins behind state x
abbrev pub round : ℕ → Text
round x = written (slice_get forms (drawn (next x) 10)) (drawn (next (next x)) 1000)

-- the lines of n rounds behind state x
abbrev pub rounds : ℕ → ℕ → List Text
rounds zero x = []
rounds (suc n) x = round x ∷ rounds n (next (next x))

-- the lines before the rounds: one value of each kind that they use
unfoldable pub opening : List Text
opening = codes "let a = array" ∷ codes "let q = deque" ∷ codes "let s = set" ∷ codes "let d = dict" ∷ codes "let t = tset" ∷ codes "let m = tdict" ∷ []

-- the lines behind the rounds: a fork of two tasks, and what the names stand for
unfoldable pub closing : List Text
closing =
    codes "fork" ∷ codes "task copy a t" ∷ codes "append a -1" ∷ codes "insert t -1" ∷ codes "give a as b" ∷ codes "end"
    ∷ codes "task copy m take t" ∷ codes "put m -1 1" ∷ codes "remove t 0" ∷ codes "give t as t" ∷ codes "end" ∷ codes "end"
    ∷ codes "show a" ∷ codes "show b" ∷ codes "show q" ∷ codes "show s" ∷ codes "show d" ∷ codes "show t" ∷ codes "show m" ∷ []

-- the script of a seed and a number of rounds
abbrev pub generated : ℕ → ℕ → Text
generated seed n = flat_map line (opening ++ rounds n seed ++ closing)
