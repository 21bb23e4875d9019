use Rattle.std.proofs.Common.{length, arith}
use Rattle.std.proofs.lemmas.Grind.{common_steps}
use Rattle.cow_array.proofs.Costs.{trades-within, copies-light}
use Rattle.kind_array.proofs.array.splice.Goals as goal

pub returns-in-Err-clause-paid : goal.returns-in-Err-clause-paid
returns-in-Err-clause-paid g c =
    let within = trades-within g.T.Item.is_counted g.T.Item.WEIGHT c.args.a.now.alone c.in-Some.from c.in-Some.to c.args.a.now.value c.read_all.new.h c.replace.new.h (grind (arith, common_steps)) c.replace.ensures.paid in
    record {
      free = grind (arith, common_steps);
      hidden = grind (arith, common_steps);
      moved = record {
        falls = grind (arith, common_steps, within);
        rises = grind (arith, common_steps, within);
        copied = grind (arith, common_steps, within);
        kept = grind (arith, common_steps, within);
      };
      falls = grind (arith, common_steps, within);
    }

pub returns-in-Ok-clause-does : goal.returns-in-Ok-clause-does
returns-in-Ok-clause-does g c = record {
  told = grind (arith, common_steps);
  value = grind (arith, common_steps);
  reply = grind (arith, common_steps);
  kept = grind (arith, common_steps);
  alone = grind (arith, common_steps);
  parted = grind (arith, common_steps);
}

pub returns-in-Ok-clause-paid : goal.returns-in-Ok-clause-paid
returns-in-Ok-clause-paid g c =
    let within = trades-within g.T.Item.is_counted g.T.Item.WEIGHT c.args.a.now.alone c.in-Some.from c.in-Some.to c.args.a.now.value c.read_all.new.h c.replace.new.h (grind (arith, common_steps)) c.replace.ensures.paid in
    let few = copies-light g.T.Item.WEIGHT (length c.args.a.now.value) c.args.a.now.alone (grind (arith, common_steps)) in
    let copied = rw c.in_ok-items.ensures.spent at within.copied in
    record {
      free = grind (arith, common_steps);
      hidden = grind (arith, common_steps);
      moved = record {
        falls = grind (arith, common_steps, within);
        rises = grind (arith, common_steps, within);
        copied = omega (arith, copied, few);
        kept = grind (arith, common_steps, within);
      };
      falls = grind (arith, common_steps, within);
    }
