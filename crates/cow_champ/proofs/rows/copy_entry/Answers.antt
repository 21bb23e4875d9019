use Rattle.cow_champ.proofs.Spendings.{spends_copy, spends_after}
use Rattle.cow_champ.proofs.rows.copy_entry.Goals as goal

pub returns-clause-spent : goal.returns-clause-spent
returns-clause-spent g c = spends_after 1 g.K.Item.WEIGHT 1 g.V.Item.WEIGHT _ _ _ (spends_copy _ _ _ _ c.copy.ensures.paid) (spends_copy _ _ _ _ c.copy-2.ensures.paid)
