use Rattle.std.proofs.Common.{length, refl, arith}
use Rattle.std.specs.Prelude.{nat_eq}
use Rattle.std.proofs.lemmas.Bool.Decides.{Decides-at, Decides-eqb}
use Rattle.std.proofs.lemmas.Grind.{common_steps}
use Rattle.cow_elements.proofs.Alike.{extend-same}
use Rattle.kind_array.proofs.array.ArrayValueMeets.parts_by.Goals as goal

pub returns : goal.returns
returns g c =
    let others = c.in-Some.other.now.held.value in
    let empty = Decides-at (nat_eq c.count.result 0) (nat_eq (length others) 0) (rw c.count.ensures.value refl) (Decides-eqb (length others) 0) in
    let same = extend-same (nat_eq c.count.result 0) c.args.self.now.held.value others empty in
    grind (arith, common_steps, same)
