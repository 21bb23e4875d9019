use Rattle.cow_model.proofs.CanonRanks.{ones-mask}
use Rattle.cow_champ.proofs.bits.place.Goals as goal

pub returns : goal.returns
returns c = ones-mask c.args.map c.args.d c.requires
