use Rattle.std.proofs.Common.{◌∙◌}
use Rattle.cow_members.proofs.Ascents.{apart-alike}
use Rattle.cow_treeset.proofs.set.TreeSet.is_disjoint.Goals as goal

pub returns-then-self-other : goal.returns-then-self-other
returns-then-self-other g c = c.all_stay.ensures.value

pub returns-else-self-other : goal.returns-else-self-other
returns-else-self-other g c = c.all_stay-else-self-other.ensures.value ∙ apart-alike c.args.other.now.value c.args.self.now.value
