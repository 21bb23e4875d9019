-- What the devices in memory have left, and what they keep at a call.
use Rattle.std.specs.Prelude.{◌≡◌, ℕ, List, drop, Option, Some}
use Rattle.cow_port.specs.Causes.{one_more}
use Rattle.cow_port.specs.declared.memory.MemorySource.{MemorySource}
use Rattle.cow_port.specs.declared.memory.MemorySink.{MemorySink}

-- what is left of bytes of which so many were read
abbrev pub rest_of : List ℕ → ℕ → Option (List ℕ)
rest_of bytes at = Some (drop at bytes)

-- a source keeps its bytes and what it was told, and counts the call
pub record KeepsSource (before after : MemorySource) : Type 0 where
  pub bytes : after.bytes ≡ before.bytes
  pub most : after.most ≡ before.most
  pub failing : after.failing ≡ before.failing
  pub calls : after.calls ≡ one_more before.calls

-- a sink keeps what it was told, and counts the call
pub record KeepsSink (before after : MemorySink) : Type 0 where
  pub most : after.most ≡ before.most
  pub failing : after.failing ≡ before.failing
  pub calls : after.calls ≡ one_more before.calls
