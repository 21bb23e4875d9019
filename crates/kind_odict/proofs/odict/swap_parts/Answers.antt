use borrow.Author.Tests.{eqb-true, eq-eqb}
use Rattle.std.proofs.Common.{◌≡◌, ◌<◌, length, not, Some, None, refl, ap, ◌∙◌, arith}
use Rattle.std.proofs.lemmas.Grind.{common_steps}
use Rattle.std.specs.Prelude.{◌==◌}
use Rattle.cow_model.specs.Operation.{index}
use Rattle.kind_odict.proofs.OrderedDicts.{none-first, none-second, parts-swap, shown-apart, shown-count}
use Rattle.kind_odict.proofs.odict.swap_parts.Goals as goal

pub returns-in-Some-Some : goal.returns-in-Some-Some
returns-in-Some-Some g c =
    let ps = c.args.d.now.value in
    let m = c.in-Some-Some.first in
    let n = c.in-Some-Some.second in
    let ks = c.as_slices.result.0.now in
    let long : length ks ≡ length ps = shown-count g.T.Item.plain ks _ ps c.as_slices.ensures.value in
    let first : Some m ≡ index 0 (length ks) c.args.i = grind (arith, common_steps, c.in-Some-Some.ensures.place) in
    let second : Some n ≡ index 0 (length ks) c.args.j = grind (arith, common_steps, c.in-Some-Some.ensures'.place) in
    let below : m < length ks = c.in-Some-Some.ensures.within in
    let under : n < length ks = c.in-Some-Some.ensures'.within in
    parts-swap (not (m == n)) (m == n) c.args.i c.args.j ps m n (shown-apart ps c.as_slices.ensures.distinct) (first ∙ ap (λ l. index 0 l c.args.i) long) (second ∙ ap (λ l. index 0 l c.args.j) long)
    (omega (arith, long, below)) (omega (arith, long, under)) (eqb-true m n, eq-eqb m n) refl

pub returns-in_default : goal.returns-in_default
returns-in_default g c =
    let ps = c.args.d.now.value in
    let ks = c.as_slices.result.0.now in
    let long : length ks ≡ length ps = shown-count g.T.Item.plain ks _ ps c.as_slices.ensures.value in
    let none : None ≡ index 0 (length ks) c.args.j = grind (arith, common_steps, c.in_default.is-1, c.index-2.ensures.place) in
    none-second _ c.args.i c.args.j ps (none ∙ ap (λ l. index 0 l c.args.j) long)

pub returns-in_default-2 : goal.returns-in_default-2
returns-in_default-2 g c =
    let ps = c.args.d.now.value in
    let ks = c.as_slices.result.0.now in
    let long : length ks ≡ length ps = shown-count g.T.Item.plain ks _ ps c.as_slices.ensures.value in
    let none : None ≡ index 0 (length ks) c.args.i = grind (arith, common_steps, c.in_default.is-0, c.index.ensures.place) in
    none-first _ c.args.i c.args.j ps (none ∙ ap (λ l. index 0 l c.args.i) long)
