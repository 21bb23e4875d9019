use Rattle.std.proofs.Common.{sym, ◌∙◌, ap}
use Rattle.std.specs.Prelude.{Ok}
use Rattle.std.proofs.lemmas.Result.{err_from_is_err_and}
use Rattle.cow_script.proofs.CaptureLists.{captures_same, captures_more, captures_stop, captures_done, captures_short}
use Rattle.cow_script.proofs.lists.all_captures.Goals as goal

pub returns-in_err-next : goal.returns-in_err-next
returns-in_err-next c =
    let p = err_from_is_err_and c.from_residual.result c.from_residual.ensures.1 in
    rw (p.1, p.2) (captures_stop c.loop-token.captures.items c.loop-token.due c.loop-token.tokens c.in-Some.token.now c.next.new.self c.args.tokens.now c.in_err-next.field-0.0 c.loop-token.invariant c.in-Some.ensures c.in_err-next.ensures)

pub loop-token-preserved-in_ok-push : goal.loop-token-preserved-in_ok-push
loop-token-preserved-in_ok-push c =
    rw c.in_ok-push.ensures.items (captures_more c.loop-token.captures.items c.loop-token.due c.in_ok-next.next c.loop-token.tokens c.in-Some.token.now c.next.new.self c.args.tokens.now c.in-Some-found.capture c.loop-token.invariant c.in-Some.ensures (c.in_ok-next.ensures ∙ ap (λ o. Ok (c.in_ok-next.next, o)) c.in-Some-found.is))

pub loop-token-preserved : goal.loop-token-preserved
loop-token-preserved c =
    captures_same c.loop-token.captures.items c.loop-token.due c.in_ok-next.next c.loop-token.tokens c.in-Some.token.now c.next.new.self c.args.tokens.now c.loop-token.invariant c.in-Some.ensures (c.in_ok-next.ensures ∙ ap (λ o. Ok (c.in_ok-next.next, o)) c.in_default-found.is)

pub returns-in_err-captures_end : goal.returns-in_err-captures_end
returns-in_err-captures_end c =
    let p = err_from_is_err_and c.from_residual-in_err-captures_end.result c.from_residual-in_err-captures_end.ensures.1 in
    rw (p.1, p.2) (captures_short c.loop-token.captures.items c.loop-token.due c.loop-token.tokens c.args.tokens.now c.in_err-captures_end.field-0.0 c.loop-token.invariant c.in_default.ensures.0 (sym c.in_err-captures_end.ensures))

pub returns : goal.returns
returns c =
    rw (c.from_vec.ensures, c.in_default.ensures.1) (captures_done c.loop-token.captures.items c.loop-token.due c.loop-token.tokens c.args.tokens.now c.loop-token.invariant c.in_default.ensures.0 (sym c.in_ok-captures_end.ensures))
