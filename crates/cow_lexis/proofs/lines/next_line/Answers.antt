use Rattle.std.proofs.Common.{◌<◌, length, ap, ◌∙◌, rules}
use Rattle.cow_lexis.specs.Cuts.{with_empty}
use Rattle.cow_lexis.proofs.LineTexts.{lines_of_cut, skipped_all}
use Rattle.cow_lexis.proofs.lines.next_line.Goals as goal

pub returns-then-is_empty-clause-line : goal.returns-then-is_empty-clause-line
returns-then-is_empty-clause-line c =
    skipped_all c.args.text.now c.skip_newlines-empty.result.1.now c.skip_newlines-empty.result.0 c.skip_newlines-empty.ensures.lines (search rules)

pub returns-clause-line : goal.returns-clause-line
returns-clause-line c =
    let rest = c.skip_newlines-empty.result.1.now in
    let some : 0 < length rest = search rules in
    c.skip_newlines-empty.ensures.lines ∙ ap (with_empty c.skip_newlines-empty.result.0) (rw (c.cut.ensures.before, c.cut.ensures.after) (lines_of_cut rest some))
