use Rattle.std.proofs.Common.{◌≡◌, ◌<◌, ◌∙◌, length, sym, rules}
use Rattle.cow_model.specs.declared.plain.Literal.TheVariants as literal
use Rattle.cow_lexis.proofs.TokenTexts.{ahead_atom}
use Rattle.cow_lexis.proofs.tokens.Tokens.next_plain_text.Goals as goal

pub returns : goal.returns
returns c =
    let line = c.without_spaces-line.result.now in
    let some : 0 < length line = search rules in
    ahead_atom c.args.self.now line c.in_ok-content.after.now (literal.Text c.in_ok-content.content.now) (sym c.self.view_is ∙ sym c.without_spaces-line.ensures.tokens) some (c.without_spaces-line.ensures.begins some) c.in_ok-content.ensures.0 c.in_ok-content.ensures.1
