use Rattle.std.proofs.Common.{◌+◌, ◌++◌, map, append-nil, sym, ap, ◌∙◌, arith}
use Rattle.cow_model.specs.Canon.{count_where}
use Rattle.cow_champ.specs.Node.{hashed}
use Rattle.cow_dict.specs.Storages.{pair_of}
use Rattle.cow_treedict.proofs.Filters.{kept-one, kept-none, count-push}
use Rattle.cow_treedict.proofs.filtering.push_kept.Goals as goal

pub returns-then-keep-clause-same : goal.returns-then-keep-clause-same
returns-then-keep-clause-same g c = λ p h.
    let r = pair_of (g.K.Item.plain c.args.k.now) (g.V.Item.plain c.args.v.now) in
    c.push_copy.ensures.same ∙ ap (λ l. map (hashed g.K.Item.plain g.V.Item.plain) c.args.into.now.items ++ l) (sym (kept-one p r (sym (h _ _ c.keep.ensures) ∙ c.if-keep.true)))

pub returns-then-keep-clause-fewer : goal.returns-then-keep-clause-fewer
returns-then-keep-clause-fewer g c = λ t.
    let r = pair_of (g.K.Item.plain c.args.k.now) (g.V.Item.plain c.args.v.now) in
    let n = ap (count_where t) c.push_copy.ensures.same ∙ count-push t (map (hashed g.K.Item.plain g.V.Item.plain) c.args.into.now.items) r in
    omega (arith, n)

pub returns-else-keep-clause-same : goal.returns-else-keep-clause-same
returns-else-keep-clause-same g c = λ p h.
    let r = pair_of (g.K.Item.plain c.args.k.now) (g.V.Item.plain c.args.v.now) in
    let xs = map (hashed g.K.Item.plain g.V.Item.plain) c.args.into.now.items in
    sym (append-nil xs) ∙ ap (λ l. xs ++ l) (sym (kept-none p r (sym (h _ _ c.keep.ensures) ∙ c.if-keep.false)))

pub returns-else-keep-clause-fewer : goal.returns-else-keep-clause-fewer
returns-else-keep-clause-fewer g c = λ t. omega arith
