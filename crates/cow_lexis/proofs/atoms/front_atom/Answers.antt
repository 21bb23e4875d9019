use Rattle.std.proofs.Common.{rules}
use Rattle.std.proofs.lemmas.Int.{to_z-of_z}
use Rattle.cow_lexis.proofs.TokenIntegers.{int_token, other_token}
use Rattle.cow_lexis.proofs.atoms.front_atom.Goals as goal

pub returns-in-Some-front_int : goal.returns-in-Some-front_int
returns-in-Some-front_int c =
    (search (rules, to_z-of_z, int_token c.args.line.now c.in-Some-front_int.x c.in_default.ensures c.in-Some-front_int.ensures.0), c.in-Some-front_int.ensures.1)

pub returns-in-None : goal.returns-in-None
returns-in-None c = other_token c.args.line.now c.in_default.ensures c.in-None.ensures
