use Rattle.kind_oset.proofs.OrderedSets.{adds-last}
use Rattle.kind_oset.proofs.oset.add_last.Goals as goal

pub returns-clause-adds : goal.returns-clause-adds
returns-clause-adds g c =
    adds-last g.T.Item.is_counted c.count.result c.args.atom.now c.args.s.now c.add_telling.new.s c.args.h.now c.add_telling.new.h c.add_telling.result c.count.ensures.value c.add_telling.ensures.adds
