use Rattle.kind_dict.proofs.Dicts.{tells-pairs}
use Rattle.kind_odict.proofs.odict.equal.Goals as goal

pub returns-clause-ok : goal.returns-clause-ok
returns-clause-ok g c =
    let same = tells-pairs c.equals.result c.args.d.now.value c.args.other.now.value c.equals.ensures in
    rw (← same) c.put_truth.ensures.ok
