use Rattle.std.proofs.Common.{◌≡◌, ◌<◌, ◌∙◌, length, sym, w64, rules}
use Rattle.std.proofs.lemmas.Int.{to_z-of_z}
use Rattle.cow_model.specs.declared.plain.Literal.TheVariants as literal
use Rattle.cow_lexis.proofs.TokenIntegers.{int_token}
use Rattle.cow_lexis.proofs.TokenTexts.{ahead_atom}
use Rattle.cow_lexis.proofs.tokens.Tokens.next_integer.Goals as goal

pub returns : goal.returns
returns c =
    let line = c.without_spaces-line.result.now in
    let some : 0 < length line = search rules in
    let atom = int_token line c.in_ok-x.x (λ _. c.if-line-eq34.false) c.in_ok-x.ensures.0 in
    let said = ahead_atom c.args.self.now line c.in_ok-x.after.now (literal.Int c.in_ok-x.x) (sym c.self.view_is ∙ sym c.without_spaces-line.ensures.tokens) some (c.without_spaces-line.ensures.begins some) atom c.in_ok-x.ensures.1 in
    search (rules, to_z-of_z, said)
