use Rattle.std.proofs.Common.{◌<◌, ◌∙◌, length, sym, rules}
use Rattle.std.proofs.lemmas.Result.{err_from_is_err_and}
use Rattle.cow_lexis.proofs.TokenTexts.{ahead_atom, ahead_fails, ahead_none}
use Rattle.cow_lexis.proofs.tokens.Tokens.next_other.Goals as goal

pub returns-then-is_empty : goal.returns-then-is_empty
returns-then-is_empty c = ahead_none c.args.self.now c.without_spaces-line.result.now (sym c.self.view_is ∙ sym c.without_spaces-line.ensures.tokens) (search rules)

pub returns-in_err-atom : goal.returns-in_err-atom
returns-in_err-atom c =
    let p = err_from_is_err_and c.from_residual.result c.from_residual.ensures.1 in
    let line = c.without_spaces-line.result.now in
    let some : 0 < length line = search rules in
    rw (p.1, p.2) (ahead_fails c.args.self.now line c.in_err-atom.field-0.0 (sym c.self.view_is ∙ sym c.without_spaces-line.ensures.tokens) some (c.without_spaces-line.ensures.begins some) c.in_err-atom.ensures)

pub returns : goal.returns
returns c =
    let line = c.without_spaces-line.result.now in
    let some : 0 < length line = search rules in
    ahead_atom c.args.self.now line c.in_ok-atom.after.now c.in_ok-atom.atom (sym c.self.view_is ∙ sym c.without_spaces-line.ensures.tokens) some (c.without_spaces-line.ensures.begins some) c.in_ok-atom.ensures.0 c.in_ok-atom.ensures.1
