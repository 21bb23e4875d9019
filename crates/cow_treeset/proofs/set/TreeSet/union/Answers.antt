use Rattle.std.proofs.Common.{List, inl, inr, refl, sym, ap, ◌∙◌}
use Rattle.std.proofs.lemmas.Bool.{true≢false}
use Rattle.cow_champ.proofs.Spendings.{spends_any}
use Rattle.cow_model.specs.Flat.{Flat}
use Rattle.cow_model.specs.declared.plain.Literal.{Literal}
use Rattle.cow_treeset.proofs.Combining.{union-there, spends-then}
use Rattle.cow_treeset.proofs.set.TreeSet.union.Goals as goal

pub returns-then-all_stay-clause-ok : goal.returns-then-all_stay-clause-ok
returns-then-all_stay-clause-ok g c = record {
  value = union-there c.args.self.now.value c.args.other.now.value c.all_stay.ensures.distinct.1 (sym c.all_stay.ensures.value ∙ c.if-all_stay.true);
  handle = inl refl;
}

pub returns-then-all_stay-clause-spent : goal.returns-then-all_stay-clause-spent
returns-then-all_stay-clause-spent g c = spends_any _ _ c.args.h.now

pub returns-in_err-joined-clause-there : goal.returns-in_err-joined-clause-there
returns-in_err-joined-clause-there g c all = absurd (true≢false (sym all ∙ sym c.all_stay.ensures.value ∙ c.if-all_stay.false))

pub returns-clause-ok : goal.returns-clause-ok
returns-clause-ok g c = record {
  value = ap (λ (f : Flat (List Literal)). f.value) c.becomes.ensures.value ∙ c.in_ok-joined.ensures.ok.value;
  handle = inr (ap (λ (f : Flat (List Literal)). f.alone) c.becomes.ensures.value ∙ c.in_ok-joined.ensures.ok.alone);
}

pub returns-clause-there : goal.returns-clause-there
returns-clause-there g c all = absurd (true≢false (sym all ∙ sym c.all_stay.ensures.value ∙ c.if-all_stay.false))

pub returns-clause-spent : goal.returns-clause-spent
returns-clause-spent g c = spends-then _ _ c.args.h.now c.joined.new.h c.becomes.new.h c.joined.ensures.spent c.becomes.ensures.spare c.becomes.ensures.copied
