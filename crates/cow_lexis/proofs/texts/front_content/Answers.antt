use Rattle.std.proofs.Common.{◌≡◌, ◌∙◌, ap, sym, true}
use Rattle.cow_lexis.specs.Cuts.{and_front, front_of}
use Rattle.cow_lexis.proofs.FrontTexts.{front_bare, front_closed, front_slash}
use Rattle.cow_lexis.proofs.texts.front_content.Goals as goal

pub returns-in_default : goal.returns-in_default
returns-in_default c = front_bare c.args.text.now c.in_default.ensures

pub returns-then-byte-eq34 : goal.returns-then-byte-eq34
returns-then-byte-eq34 c =
    rw (c.in_ok-extend_from_slice.ensures.items, c.clear.ensures.items) (front_closed c.args.text.now c.in-Some.run'.now c.in-Some.byte c.in-Some.after.now c.in-Some.ensures c.if-byte-eq34.true)

pub returns-in-Some-2 : goal.returns-in-Some-2
returns-in-Some-2 c =
    let said = rw (c.in-Some-2.is, c.in_ok-extend_from_slice.ensures.items, c.clear.ensures.items) at c.in_ok-behind.ensures in
    front_slash c.args.text.now c.in-Some.run'.now c.in-Some.byte c.in-Some.after.now c.in-Some.ensures c.if-byte-eq34.false ∙ said

pub returns-in-None : goal.returns-in-None
returns-in-None c =
    let said = rw c.in-None.is at c.in_ok-behind.ensures in
    let slash = front_slash c.args.text.now c.in-Some.run'.now c.in-Some.byte c.in-Some.after.now c.in-Some.ensures c.if-byte-eq34.false in
    slash ∙ ap (and_front c.in-Some.run'.now) said
