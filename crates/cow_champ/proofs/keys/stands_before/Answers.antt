use Rattle.std.proofs.Common.{◌≡◌, ◌∙◌, ap}
use Rattle.std.specs.Ordering.{is_lt}
use Rattle.cow_model.proofs.CanonOrder.{lt_is}
use Rattle.cow_champ.proofs.keys.stands_before.Goals as goal

pub returns : goal.returns
returns g c = c.is_lt.ensures ∙ ap is_lt c.order.ensures ∙ lt_is (g.K.Item.plain c.args.a.now) (g.K.Item.plain c.args.b.now)
