use Rattle.std.proofs.Common.{◌≡◌, ◌≤◌, ◌∷◌, ◌∙◌, length, sym, ap, arith}
use Rattle.cow_model.specs.Atom.{atom_of}
use Rattle.cow_lexis.specs.Cuts.{behind_token, first_token}
use Rattle.cow_lexis.proofs.FirstPlaces.{begins_with}
use Rattle.cow_lexis.proofs.FrontTexts.{front_closed, short_text, text_ends}
use Rattle.cow_lexis.proofs.atoms.front_plain_text.Goals as goal

pub returns : goal.returns
returns c =
    let text = c.in_ok-text.text.now in
    let content = c.in_ok-content.content.now in
    let rest = c.in_ok-content.rest.now in
    let quoted = c.in_ok-text.ensures in
    let whole = begins_with c.args.line.now text 34 quoted.0 quoted.1 quoted.2 in
    let closed = front_closed text content c.in_ok-content.byte rest c.in_ok-content.ensures c.if-byte-ne34.false in
    let said = text_ends text content rest closed c.in_ok-behind.ensures.0 in
    let short : length content ≤ 255 = omega (arith, c.if-content-gt-MAX_TEXT.false) in (
      ap (λ l. atom_of (first_token l)) whole ∙ (said.0 ∙ short_text content short),
      c.in_ok-behind.ensures.1 ∙ (sym said.1 ∙ ap behind_token (sym whole)),
    )
