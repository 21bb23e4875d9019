use Rattle.std.proofs.Common.{arith}
use Rattle.cow_model.proofs.CanonCosts.{rank-bound}
use Rattle.cow_trim.proofs.branch.BranchTrim.is_small.Goals as goal

pub overflow_add-result : goal.overflow_add-result
overflow_add-result g c =
    omega (arith, rank-bound c.args.self.now.data 32, rank-bound c.args.self.now.nodes 32, c.requires.whole.0.entries, c.requires.whole.0.children, c.len.ensures, c.len-2.ensures, c.args.self.now.entries.ok.0, c.args.self.now.children.ok.0)
