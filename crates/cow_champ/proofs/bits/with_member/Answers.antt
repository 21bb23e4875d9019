use Rattle.std.proofs.Common.{w32, lit<}
use Rattle.std.proofs.lemmas.Nat.Bits.{bit_at_set_same, bit_at_set_other}
use Rattle.cow_champ.proofs.bits.with_member.Goals as goal

pub returns-clause-same : goal.returns-clause-same
returns-clause-same c = bit_at_set_same w32 c.args.map c.args.d c.requires

pub returns-clause-others : goal.returns-clause-others
returns-clause-others c = λ e ne. bit_at_set_other w32 c.args.map c.args.d c.requires e ne
