use Rattle.std.proofs.Common.{◌≡◌, map, subst, IfOk}
use Rattle.std.specs.List.{zip}
use Rattle.std.proofs.lemmas.Iterator.{YieldsList-from_slice, YieldsList-from_zip}
use Rattle.std.proofs.lemmas.Iterator.Consumers.{map_from_collect}
use Rattle.cow_dict.proofs.dictionary.references.Goals as goal

pub returns-in-Ok : goal.returns-in-Ok
returns-in-Ok g c =
    subst (λ r. IfOk r (λ v. map (λ p. (p.0.now, p.1.now)) v.items ≡ zip c.args.first.now c.args.second.now)) c.in-Ok.is
    (map_from_collect {v = λ p. (p.0.now, p.1.now)} _ c.collect.ensures.ran (YieldsList-from_zip (YieldsList-from_slice c.args.first.now cc) (YieldsList-from_slice c.args.second.now cc)))
