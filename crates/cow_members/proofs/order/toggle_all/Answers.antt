use Rattle.std.proofs.Common.{not, count_by, ap, ◌∙◌, arith, length}
use Rattle.std.proofs.lemmas.List.{length-map}
use Rattle.cow_model.specs.Members.{member}
use Rattle.cow_members.specs.Members.{listed}
use Rattle.cow_members.specs.Orders.{staying}
use Rattle.cow_members.proofs.Listed.{distinct-by, toggled, union-units}
use Rattle.cow_members.proofs.order.toggle_all.Goals as goal

pub gather-kept-requires-clause-small : goal.gather-kept-requires-clause-small
gather-kept-requires-clause-small g c = omega (arith, c.requires.small, ap length c.add_missing.ensures.same, length-map c.add_missing.new.members.keys.items g.K.Item.plain)

pub returns-clause-same : goal.returns-clause-same
returns-clause-same g c =
    let old = listed g.K.Item.plain c.args.members.now in
    let ys = listed g.K.Item.plain c.args.others.now in
    c.shorten.ensures.same ∙ c.gather-kept.ensures.front ∙ ap (staying (λ a. not (member a ys)) c.len-end.result) c.add_missing.ensures.same
    ∙ toggled old ys c.len-end.result (distinct-by ys c.requires.others.apart) (omega (arith, c.len-end.ensures.value, length-map c.args.members.now.keys.items g.K.Item.plain))

pub returns-clause-count : goal.returns-clause-count
returns-clause-count g c =
    omega (arith, c.requires.small, c.shorten.ensures.count, c.gather-kept.ensures.within, c.gather-kept.ensures.count, ap length c.add_missing.ensures.same, length-map c.add_missing.new.members.keys.items g.K.Item.plain)

pub returns-clause-falls : goal.returns-clause-falls
returns-clause-falls g c = omega (arith, c.add_missing.ensures.moved.falls, c.shorten.ensures.never_less)

pub returns-clause-rises : goal.returns-clause-rises
returns-clause-rises g c =
    let old = listed g.K.Item.plain c.args.members.now in
    let ys = listed g.K.Item.plain c.args.others.now in
    let p = g.K.Item.is_counted in
    omega (
      arith,
      c.add_missing.ensures.no_gain,
      c.shorten.ensures.balance,
      c.gather-kept.ensures.units,
      ap (λ l. count_by p l) c.add_missing.ensures.same,
      union-units p old ys (distinct-by ys c.requires.others.apart),
    )

pub returns-clause-copied : goal.returns-clause-copied
returns-clause-copied g c = omega (arith, c.add_missing.ensures.moved.copied, c.shorten.ensures.copied)

pub returns-clause-kept : goal.returns-clause-kept
returns-clause-kept g c = omega (arith, c.add_missing.ensures.moved.kept, c.shorten.ensures.copied)
