use Rattle.std.proofs.Common.{◌-◌, length, sym, ◌∙◌, arith}
use Rattle.cow_table.specs.Ring.{cells}
use Rattle.cow_table.proofs.Probes.{length-cells, cell-at}
use Rattle.cow_table.proofs.Refills.{greater, refill-free, refill-absent, refill-step, refill-start}
use Rattle.cow_table.proofs.ring.refill.Goals as goal

pub refill-init : goal.refill-init
refill-init c = refill-start (cells c.args.from.now) (cells c.args.to.now) _ (length c.args.to.now) (sym (length-cells c.args.from.now)) (length-cells c.args.to.now) c.requires.to c.requires.empty

pub take_over-requires-clause-free : goal.take_over-requires-clause-free
take_over-requires-clause-free c = refill-free (cells c.args.from.now) (cells c.refill.to) (length c.args.to.now) c.refill.i c.refill.reach c.refill.invariant c.requires.from.apart c.requires.room

pub take_over-requires-clause-absent : goal.take_over-requires-clause-absent
take_over-requires-clause-absent c e was = refill-absent (cells c.args.from.now) (cells c.refill.to) (length c.args.to.now) c.refill.i c.refill.reach c.refill.invariant c.requires.from.apart c.requires.room (c.refill.i - 1) e (omega (arith, c.refill-test.true))
    (cell-at c.args.from.now (c.refill.i - 1) (record { hash = 0; position = 0 }) (omega (arith, c.refill.invariant.within, length-cells c.args.from.now, c.refill-test.true)) ∙ was)

pub refill-preserved : goal.refill-preserved
refill-preserved c = refill-step (cells c.args.from.now) (cells c.refill.to) (length c.args.to.now) c.refill.i c.refill.reach c.refill.invariant c.requires.from.apart c.requires.room (c.refill.i - 1) c.take_over.result _ (cells c.take_over.new.to) _ (omega (arith, c.refill-test.true))
    (cell-at c.args.from.now (c.refill.i - 1) (record { hash = 0; position = 0 }) (omega (arith, c.refill.invariant.within, length-cells c.args.from.now, c.refill-test.true)))
    (length-cells c.take_over.new.to ∙ c.take_over.auto.to ∙ sym (length-cells c.refill.to) ∙ c.refill.invariant.long) c.take_over.ensures.ring c.take_over.ensures.pairs c.take_over.ensures.near (omega (arith, c.max-reach.ensures, (greater c.refill.reach c.take_over.result).1)) (omega (arith, c.max-reach.ensures, (greater c.refill.reach c.take_over.result).0))
