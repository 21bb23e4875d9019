-- The words in which contracts speak of a key that goes.
use Rattle.std.specs.Prelude.{ℕ, Bool, not, ◌&&◌, ◌==◌, Option, Some, None, is_some}
use Rattle.cow_model.specs.Canon.{Tree, pairs, canon, without}
use Rattle.cow_model.specs.declared.plain.Literal.{Literal}
use Rattle.cow_model.specs.declared.value.Pair.{Pair}
use Rattle.cow_champ.specs.Words.{size, held}
use Rattle.cow_trim.specs.declared.trim.Cut.{Cut}
use Rattle.cow_trim.specs.declared.trim.Cut.TheVariants.{Absent, Gone, One}

-- the plain pair of a key and a value
abbrev pub plain_pair : {K V : Type 0} → (K → Literal) → (V → Literal) → K × V → Pair
plain_pair plain worth t = record { key = plain t.0; value = worth t.1 }

-- the pair that went, if one did
abbrev pub gone_of : {K V : Type 0} → Cut K V → Option (K × V)
gone_of Absent = None
gone_of (Gone gone) = Some gone
gone_of (One gone left) = Some gone

-- the pair that was left over for the parent, if one was
abbrev pub left_of : {K V : Type 0} → Cut K V → Option (K × V)
left_of Absent = None
left_of (Gone gone) = None
left_of (One gone left) = Some left

-- whether a node of this level has no pair but one when the key goes, and its parent takes that pair
abbrev pub gives_up : ℕ → Literal → Tree → Bool
gives_up level k s = is_some (held k s) && (not (level == 0) && size s == 2)

-- the canonical shape of its pairs after a key went
abbrev pub without_key : (Literal → ℕ) → ℕ → Literal → Tree → Tree
without_key hash_of level k s = canon hash_of (without k (pairs s)) level
