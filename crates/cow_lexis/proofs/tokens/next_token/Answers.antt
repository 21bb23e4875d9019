use Rattle.std.proofs.Common.{◌<◌, ◌∙◌, sym, length, rules}
use Rattle.cow_lexis.proofs.TokenTexts.{no_token, some_token}
use Rattle.cow_lexis.proofs.tokens.next_token.Goals as goal

pub returns-then-is_empty : goal.returns-then-is_empty
returns-then-is_empty c = sym c.without_spaces-line.ensures.tokens ∙ no_token c.without_spaces-line.result.now (search rules)

pub returns : goal.returns
returns c =
    let some : 0 < length c.without_spaces-line.result.now = search rules in
    sym c.without_spaces-line.ensures.tokens ∙ rw (c.cut.ensures.before, c.cut.ensures.after) (some_token c.without_spaces-line.result.now some (c.without_spaces-line.ensures.begins some))
