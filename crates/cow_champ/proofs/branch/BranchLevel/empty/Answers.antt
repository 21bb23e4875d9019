use Rattle.std.proofs.Common.{◌≡◌, ◌<◌, arith, All}
use Rattle.cow_model.proofs.CanonTwins.{canon_none}
use Rattle.cow_champ.proofs.Adds.{Fits_none, slot_nothing}
use Rattle.cow_champ.proofs.branch.BranchLevel.empty.Goals as goal

pub returns-clause-whole : goal.returns-clause-whole
returns-clause-whole g c = rw (c.new.ensures.items, c.new-2.ensures.items) (Fits_none, (λ i d l. absurd (omega (arith, l))), (λ i d l. absurd (omega (arith, l))))

pub returns-clause-shape : goal.returns-clause-shape
returns-clause-shape g c = rw (c.new.ensures.items, c.new-2.ensures.items) (canon_none g.K.Key.hash_of _ _ _ c.requires.stacked.1 (g.met.C.Level.at_most c.requires.stacked.0) slot_nothing)
