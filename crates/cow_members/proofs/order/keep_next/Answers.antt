use Rattle.std.proofs.Common.{◌+◌, ◌||◌, leb, sym, ap, ◌∙◌, arith, List, count_by, map, take, slice_get}
use Rattle.cow_members.specs.Members.{listed}
use Rattle.cow_members.specs.Sets.{kept_by}
use Rattle.cow_members.proofs.Orders.{gathers, leaves, rest-swap, there, units-swap}
use Rattle.cow_members.proofs.order.keep_next.Goals as goal

pub returns-then-stays_at-clause-front : goal.returns-then-stays_at-clause-front
returns-then-stays_at-clause-front g c k e =
    let xs = c.args.members.now.keys.items in
    let stays = leb c.args.end c.args.i || kept_by c.args.keep (listed g.K.Item.plain c.args.others.now) (g.K.Item.plain k) in
    ap (λ (l : List g.row.K.Denot). take (c.args.kept + 1) (map g.K.Item.plain l)) c.swap.ensures.items
    ∙ gathers g.K.Item.plain xs c.args.kept c.args.i k e stays c.requires.order (sym (c.stays_at.ensures k e) ∙ c.if-stays_at.true)

pub returns-then-stays_at-clause-rest : goal.returns-then-stays_at-clause-rest
returns-then-stays_at-clause-rest g c q l =
    let xs = c.args.members.now.keys.items in
    let it = there xs c.args.i c.requires.within in
    ap (λ (r : List g.row.K.Denot). slice_get r q) c.swap.ensures.items ∙ rest-swap xs c.args.kept c.args.i q it.0 c.requires.order l it.1

pub returns-then-stays_at-clause-units : goal.returns-then-stays_at-clause-units
returns-then-stays_at-clause-units g c =
    let p = g.K.Item.is_counted in
    ap (λ (l : List g.row.K.Denot). count_by p (map g.K.Item.plain l)) c.swap.ensures.items
    ∙ units-swap g.K.Item.plain p c.args.members.now.keys.items c.args.kept c.args.i (omega (arith, c.requires.order, c.requires.within)) c.requires.within

pub returns-clause-front : goal.returns-clause-front
returns-clause-front g c k e =
    let stays = leb c.args.end c.args.i || kept_by c.args.keep (listed g.K.Item.plain c.args.others.now) (g.K.Item.plain k) in
    leaves g.K.Item.plain c.args.members.now.keys.items c.args.kept c.args.i k e stays (sym (c.stays_at.ensures k e) ∙ c.if-stays_at.false)
