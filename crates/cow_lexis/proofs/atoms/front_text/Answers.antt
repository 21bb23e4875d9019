use Rattle.std.proofs.Common.{◌≡◌, ◌≤◌, ◌<◌, length, ◌∙◌, arith, rules, sym}
use Rattle.cow_lexis.proofs.FrontTexts.{long_text, no_text, short_text, text_ends, text_goes_on}
use Rattle.cow_lexis.proofs.atoms.front_text.Goals as goal

pub returns-in_default : goal.returns-in_default
returns-in_default c = no_text c.args.text.now (rw c.in_default.is at c.in_ok-rest.ensures)

pub returns-in_default-behind : goal.returns-in_default-behind
returns-in_default-behind c =
    text_goes_on c.args.text.now _ c.in-Some.rest.now (rw c.in-Some.is at c.in_ok-rest.ensures) c.in_default-behind.ensures

pub returns-then-quantity-gt-MAX_TEXT : goal.returns-then-quantity-gt-MAX_TEXT
returns-then-quantity-gt-MAX_TEXT c =
    let content = c.front_content.new.content.items in
    let said = text_ends c.args.text.now content c.in-Some.rest.now (rw c.in-Some.is at c.in_ok-rest.ensures) c.in-Some-behind.ensures.0 in
    let count : c.len-quantity.result ≡ length content = search rules in
    rw count (said.0 ∙ long_text content (omega (arith, count, c.if-quantity-gt-MAX_TEXT.true)))

pub returns : goal.returns
returns c =
    let content = c.front_content.new.content.items in
    let said = text_ends c.args.text.now content c.in-Some.rest.now (rw c.in-Some.is at c.in_ok-rest.ensures) c.in-Some-behind.ensures.0 in
    let count : c.len-quantity.result ≡ length content = search rules in
    let same : c.deref.result.now ≡ content = search rules in
    (rw (c.in_ok-bytes.ensures.value, same) (said.0 ∙ short_text content (omega (arith, count, c.if-quantity-gt-MAX_TEXT.false))), c.in-Some-behind.ensures.1 ∙ sym said.1)
