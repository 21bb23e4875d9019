use Rattle.std.proofs.Common.{◌||◌, sym, ap, ◌∙◌, arith}
use borrow.Author.Tests.{le-leb}
use Rattle.cow_members.specs.Members.{listed}
use Rattle.cow_members.specs.Sets.{kept_by}
use Rattle.cow_members.proofs.order.stays_at.Goals as goal

pub returns-then-end-i : goal.returns-then-end-i
returns-then-end-i g c k e =
    let first = le-leb c.args.end c.args.i (omega arith) in
    first ∙ sym (ap (λ t. t || kept_by c.args.keep (listed g.K.Item.plain c.args.others.now) (g.K.Item.plain k)) first)
