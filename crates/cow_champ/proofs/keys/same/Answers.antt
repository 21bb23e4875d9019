use Rattle.cow_model.proofs.CanonOrder.{same_is}
use Rattle.cow_champ.proofs.keys.same.Goals as goal

pub returns : goal.returns
returns g c = same_is c.same.result (g.K.Item.plain c.args.a.now) (g.K.Item.plain c.args.b.now) c.same.ensures
