use Rattle.std.proofs.Common.{◌≡◌, ◌+◌, ◌-◌, ◌*◌, ◌≤◌, ◌∷◌, List, All, suc, length, fold, take, drop, sym, ap, ◌∙◌, subst, arith}
use Rattle.cow_dict.specs.Storages.{pair_of}
use Rattle.cow_model.specs.Flat.{need}
use Rattle.cow_model.specs.Literals.{FitsText}
use Rattle.cow_model.specs.Pairs.{last, paired, put}
use Rattle.cow_model.specs.declared.plain.Literal.{Literal}
use Rattle.kind_dict.proofs.DictCosts.{units-most}
use Rattle.kind_odict.proofs.OrderedDicts.{length-put-most}
use Rattle.kind_dict.proofs.PairUnits.{two-first}
use Rattle.kind_odict.proofs.odict.make_all.Goals as goal

pub make_one-requires-clause-spare : goal.make_one-requires-clause-spare
make_one-requires-clause-spare g c =
    let d = c.loop-rest.d.value in
    let there = c.loop-rest.invariant in
    let enough : need (length d) + 2 ≤ c.loop-rest.h.spare =
    omega (arith, c.requires.spare, there.spare, there.few, units-most g.T.Item.is_counted d, c.in-len2-up.len_at_least) in
    enough

pub loop-rest-preserved : goal.loop-rest-preserved
loop-rest-preserved g c =
    let xs = c.loop-rest.rest.now in
    let k = c.key-item.result in
    let v = c.value-item.result in
    let d = c.loop-rest.d.value in
    let rest = take (length xs - 2) (drop 2 xs) in
    let there = c.loop-rest.invariant in
    let done = c.in_ok-make_one.ensures in
    let whole : xs ≡ k ∷ v ∷ rest = two-first xs k v c.in-len2-up.len_at_least c.key-item.is c.value-item.is in
    let fit : All FitsText (k ∷ v ∷ rest) = subst (λ (l : List Literal). All FitsText l) whole there.texts in
    record {
      value = ap (λ ps. fold (put last) ps (paired rest)) done.ok ∙ sym (ap (λ (l : List Literal). fold (put last) d (paired l)) whole) ∙ there.value;
      texts = λ i o l. fit (suc (suc i)) o (omega (arith, l));
      few = omega (arith, ap length whole, ap length done.ok, length-put-most (pair_of k v) d, there.few);
      alone = done.alone;
      spare = done.units ∙ there.spare;
      copied = done.copied ∙ there.copied;
    }
