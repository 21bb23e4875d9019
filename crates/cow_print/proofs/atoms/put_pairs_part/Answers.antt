use Rattle.std.proofs.Common.{◌<◌, length, rules}
use Rattle.cow_print.specs.Shown.{pair_of}
use Rattle.cow_print.proofs.Fronts.{pairs_are}
use Rattle.cow_print.proofs.atoms.put_pairs_part.Goals as goal

pub returns-clause-ok : goal.returns-clause-ok
returns-clause-ok g c =
    let some : 0 < length c.args.pairs.now = search rules in
    rw (← pairs_are pair_of c.args.pairs.now some) c.put_items.ensures.ok
