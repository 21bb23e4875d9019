use Rattle.cow_model.specs.Name.{is_reserved}
use Rattle.cow_lexis.proofs.names.is_reserved.Goals as goal

pub returns : goal.returns
unfolding is_reserved
returns c = c.is_among.ensures
