use Rattle.std.proofs.Common.{◌≡◌, ◌∷◌, ◌∙◌, ap, true, length, length-append, arith}
use Rattle.cow_lexis.specs.Cuts.{front_of}
use Rattle.cow_lexis.proofs.FrontTexts.{escaped_bad, escaped_closed, escaped_more, escaped_open, escaped_start, none_before}
use Rattle.cow_lexis.proofs.texts.read_escaped.Goals as goal

pub returns-in_default-next_escape : goal.returns-in_default-next_escape
returns-in_default-next_escape c =
    none_before c.args.content.now.items (front_of true c.args.text.now) (escaped_open _ c.loop-escaped.content.items c.loop-escaped.rest.now c.in-Some.escaped c.in-Some.more.now c.loop-escaped.invariant c.in-Some.ensures.front c.in_default-next_escape.ensures)

pub returns-then-byte-eq34 : goal.returns-then-byte-eq34
returns-then-byte-eq34 c =
    rw (c.in_ok-extend_from_slice.ensures.items, c.in_ok-push.ensures.items) (escaped_closed _ c.loop-escaped.content.items c.loop-escaped.rest.now c.in-Some.escaped c.in-Some.more.now c.in-Some-next_escape.run'.now c.in-Some-next_escape.byte c.in-Some-next_escape.after.now c.loop-escaped.invariant c.in-Some.ensures.front c.in-Some-next_escape.ensures c.if-byte-eq34.true)

pub loop-escaped-preserved : goal.loop-escaped-preserved
loop-escaped-preserved c =
    rw (c.in_ok-extend_from_slice.ensures.items, c.in_ok-push.ensures.items) (escaped_more _ c.loop-escaped.content.items c.loop-escaped.rest.now c.in-Some.escaped c.in-Some.more.now c.in-Some-next_escape.run'.now c.in-Some-next_escape.byte c.in-Some-next_escape.after.now c.loop-escaped.invariant c.in-Some.ensures.front c.in-Some-next_escape.ensures c.if-byte-eq34.false)

pub loop-escaped-smaller : goal.loop-escaped-smaller
loop-escaped-smaller c =
    omega (arith, ap (λ l. length l) c.in-Some-next_escape.ensures.parts, length-append c.in-Some-next_escape.run'.now (c.in-Some-next_escape.byte ∷ c.in-Some-next_escape.after.now), c.in-Some.ensures.shorter)

pub returns : goal.returns
returns c = none_before c.args.content.now.items (front_of true c.args.text.now) (escaped_bad _ c.loop-escaped.content.items c.loop-escaped.rest.now c.loop-escaped.invariant c.in_default.ensures.front)
