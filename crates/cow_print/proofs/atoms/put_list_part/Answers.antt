use Rattle.cow_print.specs.Shown.{plain_of}
use Rattle.cow_print.proofs.Fronts.{list_is}
use Rattle.cow_print.proofs.atoms.put_list_part.Goals as goal

pub returns-clause-ok : goal.returns-clause-ok
returns-clause-ok g c = rw (← list_is plain_of c.args.items.now) c.put_items.ensures.ok
