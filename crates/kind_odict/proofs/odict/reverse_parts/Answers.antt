use Rattle.kind_odict.proofs.OrderedDicts.{parts-reverse, shown-apart, shown-count}
use Rattle.kind_odict.proofs.odict.reverse_parts.Goals as goal

pub returns : goal.returns
returns g c =
    let ps = c.args.d.now.value in
    let ks = c.as_slices.result.0.now in
    parts-reverse _ ps (shown-count g.T.Item.plain ks _ ps c.as_slices.ensures.value) (shown-apart ps c.as_slices.ensures.distinct)
