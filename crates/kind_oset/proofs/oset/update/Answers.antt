use Rattle.std.proofs.Common.{◌≡◌, cond, true, sym, ap, ◌∙◌, arith}
use Rattle.std.proofs.lemmas.Bool.{true≢false}
use Rattle.std.proofs.lemmas.Grind.{common_steps}
use Rattle.cow_model.specs.Members.{last, member, place_in}
use Rattle.kind_oset.proofs.OrderedSets.{element-of, not-new, nowhere}
use Rattle.kind_oset.proofs.oset.update.Goals as goal

pub unreachable-requires : goal.unreachable-requires
unreachable-requires g c =
    let a = c.args.atom.now in
    let v = c.args.s.now.value in
    let there : member a v ≡ true = not-new (member a v) (sym c.if-branch.false ∙ c.in_ok-add_last.ensures.adds.told) in
    let same : c.add_last.new.s.value ≡ v = c.in_ok-add_last.ensures.adds.value.value ∙ ap (λ t. cond t v (last a v)) there in
    let gone = c.in-None.ensures ∙ ap (λ z. place_in z c.add_last.new.s.value) c.by.ensures ∙ ap (λ l. place_in a l) same in
    true≢false (sym there ∙ nowhere a v gone)

pub returns-clause-does : goal.returns-clause-does
returns-clause-does g c =
    let a = c.args.atom.now in
    let v = c.args.s.now.value in
    let there : member a v ≡ true = not-new (member a v) (sym c.if-branch.false ∙ c.in_ok-add_last.ensures.adds.told) in
    let same : c.add_last.new.s.value ≡ v = c.in_ok-add_last.ensures.adds.value.value ∙ ap (λ t. cond t v (last a v)) there in
    let here = c.in-Some.ensures ∙ ap (λ z. place_in z c.add_last.new.s.value) c.by.ensures ∙ ap (λ l. place_in a l) same in
    let text = element-of a v c.in-Some.place here in
    record {
      told = grind (arith, common_steps, there);
      value = grind (arith, common_steps, there, same);
      reply = grind (arith, common_steps, there, same, text);
      kept = grind (arith, common_steps);
      alone = grind (arith, common_steps);
      parted = grind (arith, common_steps, same);
    }
