use Rattle.std.proofs.Common.{not, ap}
use Rattle.kind_dict.proofs.Dicts.{parts-take}
use Rattle.kind_dict.proofs.dict.take_parts.Goals as goal

pub returns : goal.returns
returns g c =
    let both = c.includes.ensures.distinct in
    parts-take _ c.args.d.now.value c.args.other.now.value both.0 both.1 (ap not c.includes.ensures.value)
