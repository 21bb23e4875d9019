use Rattle.std.proofs.Common.{◌+◌, ◌-◌, length, drop, arith}
use Rattle.std.proofs.lemmas.List.{take_all, length-drop}
use Rattle.cow_lexis.proofs.FirstPlaces.{cut_at_escape, no_escape}
use Rattle.cow_lexis.proofs.places.next_escape.Goals as goal

pub returns-in-Some : goal.returns-in-Some
returns-in-Some c =
    let text = c.args.text.now in
    let behind = c.in-Some.at + 1 in
    cut_at_escape text c.in-Some.at _ c.in-Some.ensures (take_all (length text - behind) (drop behind text) (omega (arith, length-drop behind text)))

pub returns-in-None : goal.returns-in-None
returns-in-None c = no_escape c.args.text.now c.in-None.ensures
