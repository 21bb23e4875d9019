-- Lazy views of an array through a rule, and how many integers of it they ask.
use Rattle.std.specs.Prelude.{ℕ, ℤ, ◌+◌, ◌%◌, pos, negsuc, ◌+ℤ◌, neg_ℤ, nat_abs, int_lt, nat_lt, ◌==◌, Bool, true, false, ◌^◌, ◌-◌, List, [], ◌∷◌, map, filter, count_by, if◌then◌else◌}
use Rattle.cow_model.specs.declared.plain.Literal.{Literal}
use Rattle.cow_model.specs.declared.plain.Literal.TheVariants.{Int, Text}
use Rattle.cow_model.specs.declared.shape.Shape.{Shape}
use Rattle.cow_model.specs.declared.shape.Shape.TheVariants.{Add, Negate, Even, Below}
use Rattle.cow_model.specs.declared.statement.Verb.{Verb}
use Rattle.cow_model.specs.declared.statement.Verb.TheVariants.{First, Show, Count}

-- an integer within 64 bits: the nearest end where it lies beyond
abbrev pub clamped : ℤ → ℤ
clamped (pos n) = if nat_lt n (2 ^ 63) then pos n else pos (2 ^ 63 - 1)
clamped (negsuc n) = if nat_lt n (2 ^ 63) then negsuc n else negsuc (2 ^ 63 - 1)

-- what a rule makes of an integer
abbrev pub value_by : Shape → ℤ → ℤ
value_by (Add k) x = clamped (x +ℤ k)
value_by Negate x = clamped (neg_ℤ x)
value_by Even x = x
value_by (Below k) x = x

-- whether a rule keeps an integer
abbrev pub keeps : Shape → ℤ → Bool
keeps (Add k) x = true
keeps Negate x = true
keeps Even x = nat_abs x % 2 == 0
keeps (Below k) x = int_lt x k

-- an atom through a rule that maps
abbrev pub mapped : Shape → Literal → Literal
mapped shape (Int x) = Int (value_by shape x)
mapped shape (Text bytes) = Text bytes

-- whether a rule that filters keeps an atom: no text
abbrev pub passes : Shape → Literal → Bool
passes shape (Int x) = keeps shape x
passes shape (Text bytes) = false

-- the atoms of a view
abbrev pub view : Shape → List Literal → List Literal
view (Add k) items = map (mapped (Add k)) items
view Negate items = map (mapped Negate) items
view Even items = filter (passes Even) items
view (Below k) items = filter (passes (Below k)) items

-- whether an atom is an integer
abbrev pub is_integer : Literal → Bool
is_integer (Int x) = true
is_integer (Text bytes) = false

-- how many integers there are
abbrev pub integers_in : List Literal → ℕ
integers_in items = count_by is_integer items

-- the integers up to and with the first that is kept
abbrev pub asked_until : Shape → List Literal → ℕ
asked_until shape [] = 0
asked_until shape (Text bytes ∷ items) = asked_until shape items
asked_until shape (Int x ∷ items) = if keeps shape x then 1 else 1 + asked_until shape items

-- what the first atom asks of a rule that maps: itself, where it is an integer
abbrev pub asked_first : List Literal → ℕ
asked_first [] = 0
asked_first (a ∷ items) = integers_in (a ∷ [])

-- how many integers a rule is asked about
abbrev pub asks : List Literal → Shape → Verb → ℕ
asks items (Add k) First = asked_first items
asks items Negate First = asked_first items
asks items shape First = asked_until shape items
asks items shape Show = integers_in items
asks items (Add k) Count = 0
asks items Negate Count = 0
asks items shape Count = integers_in items
