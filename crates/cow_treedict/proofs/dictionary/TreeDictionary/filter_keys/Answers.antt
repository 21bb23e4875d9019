use Rattle.std.proofs.Common.{List, inl, inr, refl, sym, ap, ◌∙◌}
use Rattle.std.proofs.lemmas.Bool.{true≢false}
use Rattle.cow_champ.proofs.Spendings.{spends_any}
use Rattle.cow_model.specs.Flat.{Flat}
use Rattle.cow_model.specs.declared.value.Pair.{Pair}
use Rattle.cow_dict.proofs.Questions.{all-kept}
use Rattle.cow_treedict.proofs.Filters.{spends-then}
use Rattle.cow_treedict.proofs.dictionary.TreeDictionary.filter_keys.Goals as goal

pub returns-then-all_stay-clause-ok : goal.returns-then-all_stay-clause-ok
returns-then-all_stay-clause-ok g c = λ p h. record { value = all-kept p c.args.self.now.value (sym (c.all_stay.ensures p h) ∙ c.if-all_stay.true); handle = inl refl }

pub returns-then-all_stay-clause-spent : goal.returns-then-all_stay-clause-spent
returns-then-all_stay-clause-spent g c = spends_any _ _ c.args.h.now

pub returns-in_err-kept-clause-there : goal.returns-in_err-kept-clause-there
returns-in_err-kept-clause-there g c = λ p h all. absurd (true≢false (sym (c.all_stay.ensures p h ∙ all) ∙ c.if-all_stay.false))

pub returns-clause-ok : goal.returns-clause-ok
returns-clause-ok g c = λ p h.
    let made = c.in_ok-kept.ensures.ok p h in
    record {
      value = ap (λ (f : Flat (List Pair)). f.value) c.replace-old.ensures.after ∙ made.value;
      handle = inr (ap (λ (f : Flat (List Pair)). f.alone) c.replace-old.ensures.after ∙ made.alone);
    }

pub returns-clause-there : goal.returns-clause-there
returns-clause-there g c = λ p h all. absurd (true≢false (sym (c.all_stay.ensures p h ∙ all) ∙ c.if-all_stay.false))

pub returns-clause-spent : goal.returns-clause-spent
returns-clause-spent g c = spends-then _ _ c.args.h.now c.kept.new.h c.end.new.h c.kept.ensures.spent c.end.ensures.spare c.end.ensures.copied
