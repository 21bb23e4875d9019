-- Numbers of buckets, and a ring without pairs.
use Rattle.std.proofs.Common.{ℕ, suc, ◌-◌, ◌*◌, ◌^◌, ◌<◌, ◌≤◌, refl, arith}
use native.Mathlib.Decide.{dec_lt}
use lib.Pow.{pow_mono}
use Rattle.cow_table.specs.Ring.{limit, IsSize}
use Rattle.cow_table.proofs.Distances.{size_bounds}

pub record Growing (count size : ℕ) : Type 0 where
  pub size_is : IsSize size
  pub wider : count ≤ size

pub size-8 : IsSize 8
size-8 = record { power = 3; low = omega arith; high = omega arith; is = refl }

-- a size that holds too few is below the greatest
pub grow-more : (count size wanted : ℕ) → Growing count size → limit size < wanted → wanted ≤ 3 * 2 ^ 30 → Growing count (size * 2) × (2 ^ 32 - size * 2 < 2 ^ 32 - size) × (size * 2 ≤ 2 ^ 32)
grow-more count size wanted g few most = elim (dec_lt g.size_is.power 32) [
  | yes p ↦
      let s : IsSize (size * 2) = record { power = suc g.size_is.power; low = omega (arith, g.size_is.low); high = p; is = omega (arith, g.size_is.is) } in
      let b = size_bounds (size * 2) s in
      let a = size_bounds size g.size_is in
      (record { size_is = s; wider = omega (arith, g.wider) }, omega arith, b.1)
  | no p ↦ absurd (
      let full : 2 ^ 32 ≤ 2 ^ g.size_is.power = pow_mono {i = 32} {j = g.size_is.power} (omega arith) in
      omega (arith, g.size_is.is))
]

-- buckets hold fewer pairs than they are
pub limit-below : (n : ℕ) → 8 ≤ n → limit n < n
limit-below n h = omega (arith, h)
