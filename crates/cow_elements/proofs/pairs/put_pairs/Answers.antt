use Rattle.std.proofs.Common.{arith}
use Rattle.std.proofs.lemmas.Grind.{common_steps}
use Rattle.cow_elements.proofs.Printing.{shows-pairs}
use Rattle.cow_elements.specs.Shared.{pair_of}
use Rattle.cow_elements.proofs.pairs.put_pairs.Goals as goal

pub returns-in_ok-extend_from_slice-in-len1-up-2-clause-ok : goal.returns-in_ok-extend_from_slice-in-len1-up-2-clause-ok
returns-in_ok-extend_from_slice-in-len1-up-2-clause-ok g c =
    let plain = g.T.Item.plain in
    grind (arith, common_steps, shows-pairs (λ p. pair_of (plain p.0.now) (plain p.1.now)) c.args.pairs.now c.first-item.result c.in-len1-up.len_at_least c.first-item.is)
