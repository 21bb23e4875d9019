use borrow.Author.Tests.{eqb-true, eq-eqb}
use Rattle.std.proofs.Common.{refl, sym, ◌∙◌}
use Rattle.std.specs.Prelude.{◌==◌}
use Rattle.kind_dict.proofs.Dicts.{parts-keep}
use Rattle.kind_dict.proofs.dict.keep_parts.Goals as goal

pub returns : goal.returns
returns g c =
    let n = c.lacking.result in
    let is = c.lacking.ensures.value in
    parts-keep _ (n == 0) c.args.d.now.value c.args.other.now.value c.lacking.ensures.distinct.1 (λ t. sym is ∙ eqb-true n 0 t, λ e. eq-eqb n 0 (is ∙ e)) refl
