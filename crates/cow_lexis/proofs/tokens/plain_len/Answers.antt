use Rattle.cow_lexis.proofs.TokenTexts.{plain_at, plain_none}
use Rattle.cow_lexis.proofs.tokens.plain_len.Goals as goal

pub returns-in-Some : goal.returns-in-Some
returns-in-Some c = plain_at c.args.line.now c.in-Some.at c.in-Some.ensures

pub returns-in-None : goal.returns-in-None
returns-in-None c = plain_none c.args.line.now c.in-None.ensures
