use Rattle.std.proofs.Common.{◌++◌, ap, sym, ◌∙◌}
use Rattle.cow_print.proofs.Escapes.{escapes_more, no_escape}
use Rattle.cow_print.proofs.Fronts.{front_of_front, front_of_more}
use Rattle.cow_print.proofs.atoms.put_escaped.Goals as goal

pub loop-run-preserved : goal.loop-run-preserved
loop-run-preserved c =
    let text = c.loop-run.text.items in
    let mid = c.extend_from_slice.new.self.items in
    let after = c.extend_from_slice-in-Some.new.self.items in
    let first = c.in_ok-extend_from_slice.ensures.items in
    let then = c.in_ok-extend_from_slice-2.ensures.items in (
      rw (then, first) (escapes_more text c.loop-run.rest.now _ c.in-Some.run'.now c.in-Some.byte c.in-Some.after.now c.loop-run.invariant.0 c.in-Some.ensures),
      front_of_front after mid c.args.text.now.items (front_of_front mid text c.args.text.now.items c.loop-run.invariant.1 (front_of_more mid text _ first)) (front_of_more after mid _ then),
    )

pub returns-clause-ok : goal.returns-clause-ok
returns-clause-ok c =
    c.in_ok-extend_from_slice-3.ensures.items ∙ (ap (λ t. c.loop-run.text.items ++ t) (sym (no_escape c.loop-run.rest.now c.in_default.ensures)) ∙ c.loop-run.invariant.0)
