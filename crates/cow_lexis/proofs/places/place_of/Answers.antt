use Rattle.cow_lexis.proofs.FirstPlaces.{position_is}
use Rattle.cow_lexis.proofs.places.place_of.Goals as goal

pub returns : goal.returns
returns c = position_is c.args.byte c.args.text.now c.memchr.result c.memchr.ensures
