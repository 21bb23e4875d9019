use Rattle.std.proofs.Common.{◌≢◌, arith}
use Rattle.cow_members.proofs.Orders.{one-first, one-second, two-second, two-free, exchanges-by}
use Rattle.cow_members.proofs.order.exchange.Goals as goal

pub rename-requires-2-clause-there : goal.rename-requires-2-clause-there
rename-requires-2-clause-there c =
    let i = c.args.i in
    let j = c.args.j in
    let free = c.args.free in
    let fi : i ≢ free = λ e. omega (arith, e, c.requires.first_below) in
    let fj : j ≢ free = λ e. omega (arith, e, c.requires.second_below) in
    one-second i c.args.first j c.args.second free c.args.table.now.pairs c.rename.new.self.pairs c.requires.apart fi fj c.rename.ensures.pairs c.requires.second

pub rename-requires-2-clause-absent : goal.rename-requires-2-clause-absent
rename-requires-2-clause-absent c =
    let i = c.args.i in
    let j = c.args.j in
    let free = c.args.free in
    let fi : i ≢ free = λ e. omega (arith, e, c.requires.first_below) in
    let fj : j ≢ free = λ e. omega (arith, e, c.requires.second_below) in
    one-first i c.args.first j c.args.second free c.args.table.now.pairs c.rename.new.self.pairs c.requires.apart fi fj c.rename.ensures.pairs

pub rename-requires-3-clause-there : goal.rename-requires-3-clause-there
rename-requires-3-clause-there c =
    let i = c.args.i in
    let j = c.args.j in
    let free = c.args.free in
    let fi : i ≢ free = λ e. omega (arith, e, c.requires.first_below) in
    let fj : j ≢ free = λ e. omega (arith, e, c.requires.second_below) in
    two-free i c.args.first j c.args.second free c.args.table.now.pairs c.rename.new.self.pairs c.requires.apart fi fj c.rename.ensures.pairs c.rename-2.new.self.pairs c.rename-2.ensures.pairs

pub rename-requires-3-clause-absent : goal.rename-requires-3-clause-absent
rename-requires-3-clause-absent c =
    let i = c.args.i in
    let j = c.args.j in
    let free = c.args.free in
    let fi : i ≢ free = λ e. omega (arith, e, c.requires.first_below) in
    let fj : j ≢ free = λ e. omega (arith, e, c.requires.second_below) in
    two-second i c.args.first j c.args.second free c.args.table.now.pairs c.rename.new.self.pairs c.requires.apart fi fj c.rename.ensures.pairs c.rename-2.new.self.pairs c.rename-2.ensures.pairs

pub returns-clause-pairs : goal.returns-clause-pairs
returns-clause-pairs c =
    let i = c.args.i in
    let j = c.args.j in
    let free = c.args.free in
    let fi : i ≢ free = λ e. omega (arith, e, c.requires.first_below) in
    let fj : j ≢ free = λ e. omega (arith, e, c.requires.second_below) in
    exchanges-by i c.args.first j c.args.second free c.args.table.now.pairs c.rename.new.self.pairs c.requires.apart fi fj c.rename.ensures.pairs c.rename-2.new.self.pairs c.rename-2.ensures.pairs
    c.rename-3.new.self.pairs c.requires.free c.rename-3.ensures.pairs
