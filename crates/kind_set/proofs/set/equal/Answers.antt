use Rattle.cow_elements.proofs.Equals.{tells-same}
use Rattle.kind_set.proofs.set.equal.Goals as goal

pub returns-clause-ok : goal.returns-clause-ok
returns-clause-ok g c =
    let same = tells-same c.equals.result c.args.s.now.value c.args.other.now.value c.equals.ensures in
    rw (← same) c.put_truth.ensures.ok
