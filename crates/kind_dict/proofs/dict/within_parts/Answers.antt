use Rattle.std.proofs.Common.{not, ap, rules}
use Rattle.cow_model.specs.Members.{member}
use Rattle.kind_dict.proofs.Dicts.{parts-within}
use Rattle.kind_dict.proofs.dict.within_parts.Goals as goal

pub returns : goal.returns
returns g c =
    let members = c.args.members.now.value in
    parts-within _ c.args.d.now.value members (ap not (c.all_keys.ensures (λ k. member k members) (λ k b post. search rules)))
