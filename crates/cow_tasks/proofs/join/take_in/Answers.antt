use Rattle.std.proofs.Common.{refl}
use Rattle.cow_eval.proofs.Costs.{always-err}
use Rattle.cow_tasks.proofs.Joining.{grows-not, grows-whole}
use Rattle.cow_tasks.proofs.join.take_in.Goals as goal

pub returns-in_err-joined-clause-err : goal.returns-in_err-joined-clause-err
returns-in_err-joined-clause-err g c = always-err _ c.from_residual.result (grows-not c.args.text.now.items c.args.text.now.items c.args.said.now refl)

pub returns-in_err-extend_from_slice-clause-err : goal.returns-in_err-extend_from_slice-clause-err
returns-in_err-extend_from_slice-clause-err g c = always-err _ c.from_residual-in_err-extend_from_slice.result (grows-not c.args.text.now.items c.extend_from_slice.new.self.items c.args.said.now c.in_err-extend_from_slice.ensures.items)

pub returns-in_err-outcome-clause-err : goal.returns-in_err-outcome-clause-err
returns-in_err-outcome-clause-err g c = always-err _ c.from_residual-in_err-outcome.result (grows-whole c.args.text.now.items c.extend_from_slice.new.self.items c.args.said.now c.in_ok-extend_from_slice.ensures.items)
