use Rattle.std.proofs.Common.{◌<◌, length, get_or, ap, arith}
use Rattle.cow_model.specs.declared.statement.Statement.{out-Statement}
use Rattle.cow_eval.proofs.Apart.{by-earlier}
use Rattle.cow_eval.proofs.both.change_by_earlier.Goals as goal

pub returns : goal.returns
returns g c =
    let cut = c.split_at_mut-front in
    let inside : c.args.by < length cut.result.0.now = omega (arith, cut.ensures.front_len, c.requires.order) in
    let e = get_or cut.result.1.now 0 c.index-back-0.result in
    let f = get_or cut.result.0.now c.args.by c.index-front-by.result in
    let is = ap (λ x. get_or cut.result.1.now 0 x) c.index-back-0.is in
    let is' = ap (λ x. get_or cut.result.0.now c.args.by x) c.index-front-by.is in
    by-earlier g.V.Shown.counted (out-Statement c.args.statement.now) c.args.at c.args.by c.args.names.now cut.result.0.now cut.result.1.now e c.change_by.new.self f c.args.h.now c.change_by.new.h c.change_by.result cut.ensures.value c.change_by.ensures.kept c.change_by.ensures.does c.change_by.ensures.costs cut.ensures.front_len inside is is'
