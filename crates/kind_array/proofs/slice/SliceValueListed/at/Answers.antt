use Rattle.std.proofs.Common.{arith}
use Rattle.std.proofs.lemmas.Grind.{common_steps}
use Rattle.std.proofs.lemmas.Option.{slice_get_past}
use Rattle.kind_array.proofs.slice.SliceValueListed.at.Goals as goal

pub returns-else-place-stop : goal.returns-else-place-stop
returns-else-place-stop g c =
    let past = slice_get_past c.args.self.now.held.value.items c.args.place (grind (arith, common_steps)) in
    grind (arith, common_steps, past)
