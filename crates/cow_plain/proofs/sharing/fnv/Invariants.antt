use Rattle.std.proofs.Common.{◌≡◌, take}
use Rattle.cow_model.specs.Hash.{fnv}
use Rattle.cow_plain.proofs.sharing.fnv.Given as goal

-- the hash of the bytes taken in so far
abbrev pub invariant-loop-byte : goal.invariant-loop-byte
invariant-loop-byte l = record { hash : l.hash ≡ fnv (take l.byte-index l.bytes) }
