use Rattle.std.proofs.Common.{◌≡◌, ◌+◌, ◌-◌, ◌*◌, length, take, drop, arith}
use Rattle.std.proofs.lemmas.List.{take_all, length-drop}
use Rattle.cow_model.specs.Purse.{noted}
use Rattle.std.proofs.lemmas.Grind.{common_steps}
use Rattle.cow_row.proofs.Around.{shown-around, units-around, noted-twice}
use Rattle.cow_row.proofs.storage.copy_around.Goals as goal

pub returns-clause-same : goal.returns-clause-same
returns-clause-same g c =
    let xs = c.args.from.now.items in
    let first = rw c.requires.empty at c.copy_run.ensures.same in
    record {
      shown = shown-around g.T.Item.plain xs c.copy_run.new.to.items c.replace_run.new.row.items c.copy_run-2.new.to.items c.args.items.items c.args.start c.args.count (c.len.result - (c.args.start + c.args.count)) (omega (arith, c.len.ensures.value, c.requires.within)) first c.replace_run.ensures.same.shown c.copy_run-2.ensures.same;
      count = grind (arith, common_steps);
    }

pub returns-clause-spends : goal.returns-clause-spends
returns-clause-spends g c =
    let xs = c.args.from.now.items in
    let j = c.args.start + c.args.count in
    let rest : take (c.len.result - j) (drop j xs) ≡ drop j xs = take_all (c.len.result - j) (drop j xs) (omega (arith, length-drop j xs, c.len.ensures.value)) in
    let behind = rw (rest, c.replace_run.ensures.paid) at c.copy_run-2.ensures.units in
    rw (units-around g.T.Item.plain g.T.Item.is_counted xs c.args.start j) (omega (arith, behind, c.copy_run.ensures.units))

pub returns-clause-copied : goal.returns-clause-copied
returns-clause-copied g c =
    let k = c.len.result - (c.args.start + c.args.count) in
    let first : c.replace_run.new.h.copied ≡ (noted (g.T.Item.WEIGHT * c.args.start) c.args.h.now).copied = rw c.replace_run.ensures.paid c.copy_run.ensures.copied in
    noted-twice g.T.Item.WEIGHT c.args.start k (length c.args.from.now.items - c.args.count) c.args.h.now c.replace_run.new.h c.copy_run-2.new.h (omega (arith, c.len.ensures.value, c.requires.within)) first c.copy_run-2.ensures.copied
