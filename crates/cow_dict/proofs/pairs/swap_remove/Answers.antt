use Rattle.std.proofs.Common.{List, sym, ap, ◌∙◌}
use Rattle.std.specs.List.{swap_remove}
use Rattle.std.proofs.lemmas.Option.{slice_get_within}
use Rattle.cow_members.proofs.Lookups.{taken-other}
use Rattle.cow_row.specs.RowView.{RowView}
use Rattle.cow_dict.proofs.pairs.swap_remove.Goals as goal

pub returns-clause-rest : goal.returns-clause-rest
returns-clause-rest g c =
    let rest = c.pop.new.self.items in
    ap (λ (r : RowView g.row.T.Denot). r.items) c.replace.ensures.row
    ∙ sym (ap (λ (l : List g.row.T.Denot). swap_remove l c.args.i c.replace.result) c.in-Some.ensures.value
    ∙ taken-other rest c.in-Some.x c.replace.result c.args.i (slice_get_within rest c.args.i c.replace.result c.replace.ensures.value))
