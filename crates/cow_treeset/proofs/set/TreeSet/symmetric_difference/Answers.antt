use Rattle.std.proofs.Common.{List, inl, inr, refl, sym, ap, ◌∙◌}
use Rattle.std.proofs.lemmas.Bool.{true≢false}
use Rattle.cow_champ.proofs.Spendings.{spends_any}
use Rattle.cow_model.specs.Flat.{Flat}
use Rattle.cow_model.specs.Members.{in_order, symdiff}
use Rattle.cow_model.specs.declared.plain.Literal.{Literal}
use Rattle.cow_treeset.proofs.Combining.{symdiff-none, spends-then}
use Rattle.cow_treeset.proofs.set.TreeSet.symmetric_difference.Goals as goal

pub returns-then-is_empty-clause-ok : goal.returns-then-is_empty-clause-ok
returns-then-is_empty-clause-ok g c = record {
  value = symdiff-none c.args.self.now.value ∙ ap (symdiff in_order c.args.self.now.value) (sym (c.is_empty.ensures.0 c.if-is_empty.true));
  handle = inl refl;
}

pub returns-then-is_empty-clause-spent : goal.returns-then-is_empty-clause-spent
returns-then-is_empty-clause-spent g c = spends_any _ _ c.args.h.now

pub returns-in_err-toggled-clause-absent : goal.returns-in_err-toggled-clause-absent
returns-in_err-toggled-clause-absent g c none = absurd (true≢false (sym (c.is_empty.ensures.1 none) ∙ c.if-is_empty.false))

pub returns-clause-ok : goal.returns-clause-ok
returns-clause-ok g c = record {
  value = ap (λ (f : Flat (List Literal)). f.value) c.becomes.ensures.value ∙ c.in_ok-toggled.ensures.ok.value;
  handle = inr (ap (λ (f : Flat (List Literal)). f.alone) c.becomes.ensures.value ∙ c.in_ok-toggled.ensures.ok.alone);
}

pub returns-clause-absent : goal.returns-clause-absent
returns-clause-absent g c none = absurd (true≢false (sym (c.is_empty.ensures.1 none) ∙ c.if-is_empty.false))

pub returns-clause-spent : goal.returns-clause-spent
returns-clause-spent g c = spends-then _ _ c.args.h.now c.toggled.new.h c.becomes.new.h c.toggled.ensures.spent c.becomes.ensures.spare c.becomes.ensures.copied
