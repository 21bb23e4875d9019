use Rattle.std.proofs.Common.{◌*◌, List, length, inl, inr, refl, sym, ap, ◌∙◌}
use Rattle.std.proofs.lemmas.Bool.{true≢false}
use Rattle.cow_champ.proofs.Spendings.{spends_any}
use Rattle.cow_members.specs.Sets.{kept_by}
use Rattle.cow_model.specs.Flat.{Flat}
use Rattle.cow_model.specs.declared.plain.Literal.{Literal}
use Rattle.cow_treeset.proofs.Combining.{all-stay, spends-then, spends-less}
use Rattle.cow_treeset.proofs.set.TreeSet.retain.Goals as goal

pub returns-then-all_stay-clause-ok : goal.returns-then-all_stay-clause-ok
returns-then-all_stay-clause-ok g c = record {
  value = all-stay (kept_by c.args.keep c.args.other.now.value) c.args.self.now.value (sym c.all_stay.ensures.value ∙ c.if-all_stay.true);
  handle = inl refl;
}

pub returns-then-all_stay-clause-spent : goal.returns-then-all_stay-clause-spent
returns-then-all_stay-clause-spent g c = spends_any _ _ c.args.h.now

pub returns-in_err-kept-clause-there : goal.returns-in_err-kept-clause-there
returns-in_err-kept-clause-there g c all = absurd (true≢false (sym all ∙ sym c.all_stay.ensures.value ∙ c.if-all_stay.false))

pub returns-in_err-kept-clause-spent : goal.returns-in_err-kept-clause-spent
returns-in_err-kept-clause-spent g c = spends-less (length c.args.self.now.value) (length c.args.other.now.value) (g.K.Item.WEIGHT * length c.args.self.now.value) c.args.h.now c.kept.new.h c.kept.ensures.spent

pub returns-clause-ok : goal.returns-clause-ok
returns-clause-ok g c = record {
  value = ap (λ (f : Flat (List Literal)). f.value) c.becomes.ensures.value ∙ c.in_ok-kept.ensures.ok.value;
  handle = inr (ap (λ (f : Flat (List Literal)). f.alone) c.becomes.ensures.value ∙ c.in_ok-kept.ensures.ok.alone);
}

pub returns-clause-there : goal.returns-clause-there
returns-clause-there g c all = absurd (true≢false (sym all ∙ sym c.all_stay.ensures.value ∙ c.if-all_stay.false))

pub returns-clause-spent : goal.returns-clause-spent
returns-clause-spent g c =
    let n = length c.args.self.now.value in
    let m = length c.args.other.now.value in
    spends-then _ _ c.args.h.now c.kept.new.h c.becomes.new.h (spends-less n m (g.K.Item.WEIGHT * n) c.args.h.now c.kept.new.h c.kept.ensures.spent) c.becomes.ensures.spare c.becomes.ensures.copied
