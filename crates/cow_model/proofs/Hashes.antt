-- Every hash of a plain atom fits 32 bits.
use Rattle.std.proofs.Common.{◌≡◌, ℕ, suc, ◌+◌, ◌*◌, ◌/◌, ◌%◌, ◌^◌, ◌<◌, ℤ, List, [], ◌∷◌, fold, refl, arith}
use Rattle.std.specs.Prelude.{bit_xor}
use Rattle.std.specs.Int.{cast_unsigned, w64}
use Rattle.std.proofs.lemmas.Nat.{xor_of_32, mod_below, pow_pos}
use Rattle.cow_model.specs.Hash.{int_hash, fnv_step, fnv, literal_hash}
use Rattle.cow_model.specs.declared.plain.Literal.{Literal}
use Rattle.cow_model.specs.declared.plain.Literal.TheVariants.{Int, Text}

-- what is left over of 32 bits
low : (n : ℕ) → n % 2 ^ 32 < 2 ^ 32
low n = mod_below n (2 ^ 32) (pow_pos 32)

int_fits : (x : ℤ) → int_hash x < 2 ^ 32
int_fits x = xor_of_32 (cast_unsigned w64 x % 2 ^ 32) (cast_unsigned w64 x / 2 ^ 32 % 2 ^ 32)
    (low (cast_unsigned w64 x)) (low (cast_unsigned w64 x / 2 ^ 32))

fold_fits : (hash : ℕ) (bytes : List ℕ) → hash < 2 ^ 32 → fold fnv_step hash bytes < 2 ^ 32
fold_fits hash [] h = h
fold_fits hash (byte ∷ bytes) h = fold_fits (fnv_step hash byte) bytes (low (bit_xor hash byte * 16777619))

pub fnv_fits : (bytes : List ℕ) → fnv bytes < 2 ^ 32
fnv_fits bytes = fold_fits 2166136261 bytes (omega arith)

pub literal_fits : (a : Literal) → literal_hash a < 2 ^ 32
literal_fits (Int x) = int_fits x
literal_fits (Text bytes) = fnv_fits bytes
