use Rattle.std.proofs.Common.{map, set, ap, ◌∙◌}
use Rattle.std.proofs.lemmas.List.{map-set}
use Rattle.cow_row.specs.RowView.{RowView}
use Rattle.cow_dict.specs.Storages.{PairsView}
use Rattle.cow_dict.proofs.pairs.replace.Goals as goal

pub returns-clause-same : goal.returns-clause-same
returns-clause-same g c =
    let worth = g.V.Item.plain in
    let ys = c.pairs.inside.values.items in
    ap (λ (r : RowView g.row.V.Denot). map worth r.items) c.replace.ensures.row
    ∙ map-set worth ys c.args.i c.settle.new.self
    ∙ ap (λ w. set (map worth ys) c.args.i w) c.settle.ensures.same
    ∙ ap (λ (s : PairsView g.row.K.Denot g.row.V.Denot). set (map worth s.values.items) c.args.i (worth c.args.v)) c.pairs.view_is
