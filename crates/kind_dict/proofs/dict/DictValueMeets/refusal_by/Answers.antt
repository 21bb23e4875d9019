use Rattle.std.proofs.Common.{arith}
use Rattle.std.proofs.lemmas.Grind.{common_steps}
use Rattle.kind_dict.proofs.Dicts.{length_within}
use Rattle.kind_dict.proofs.dict.DictValueMeets.refusal_by.Goals as goal

pub returns-in-Some-as_kind : goal.returns-in-Some-as_kind
returns-in-Some-as_kind g c =
    let few = length_within c.args.self.now.held.value c.in-Some-as_kind._members.now.held.value in
    grind (arith, common_steps, few)
