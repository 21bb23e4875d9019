use Rattle.std.proofs.Common.{◌≡◌, ◌∙◌, sym, w32, inl, inr, ◌^◌, ◌<◌, arith}
use Rattle.std.proofs.lemmas.Bool.{cases_lt}
use Rattle.std.proofs.lemmas.Nat.Bits.{bit_at_clear_same, bit_at_clear_other, bit_at_above, bit_at_and}
use Rattle.std.specs.Int.{bit_at}
use Rattle.cow_champ.proofs.bits.without_member.Goals as goal

pub returns-clause-same : goal.returns-clause-same
returns-clause-same c = bit_at_clear_same w32 c.args.map c.args.d c.requires

pub returns-clause-others : goal.returns-clause-others
returns-clause-others c = λ e ne. elim (cases_lt e 32) [
  | inl l ↦ bit_at_clear_other w32 c.args.map c.args.d c.requires e l ne
  | inr l ↦ (let z : bit_at c.args.map e ≡ 0 = bit_at_above c.args.map 32 e c.ranges.map.fits l in bit_at_and c.args.map _ e ∙ rw z (omega arith))
]
