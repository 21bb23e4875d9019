use Rattle.cow_model.proofs.CanonOrder.{same_is}
use Rattle.cow_champ.proofs.keys.is_sought.Goals as goal

pub returns : goal.returns
returns g c = same_is c.stands_for.result (g.K.Item.plain c.args.key.now) (g.E.Equivalent.sought c.args.sought.now) c.stands_for.ensures
