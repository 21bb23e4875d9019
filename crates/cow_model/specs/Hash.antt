-- The hash of 32 bits of a plain atom. Texts take FNV-1a, after Fowler, Noll and Vo.
use Rattle.std.specs.Prelude.{ℕ, ◌*◌, ◌/◌, ◌%◌, ◌^◌, ℤ, List, fold, bit_xor}
use Rattle.std.specs.Int.{cast_unsigned, w64}
use Rattle.cow_model.specs.declared.plain.Literal.{Literal}
use Rattle.cow_model.specs.declared.plain.Literal.TheVariants.{Int, Text}

-- the low half of the two's complement of 64 bits, exclusive or the high half
abbrev pub int_hash : ℤ → ℕ
int_hash x = bit_xor (cast_unsigned w64 x % 2 ^ 32) (cast_unsigned w64 x / 2 ^ 32 % 2 ^ 32)

-- FNV-1a takes in one byte more
abbrev pub fnv_step : ℕ → ℕ → ℕ
fnv_step hash byte = bit_xor hash byte * 16777619 % 2 ^ 32

-- FNV-1a of 32 bits
abbrev pub fnv : List ℕ → ℕ
fnv bytes = fold fnv_step 2166136261 bytes

-- the hash of an atom of this plain value
abbrev pub literal_hash : Literal → ℕ
literal_hash (Int x) = int_hash x
literal_hash (Text bytes) = fnv bytes
