use Rattle.std.proofs.Common.{◌∙◌}
use Rattle.std.specs.Str.{bytes_eq}
use Rattle.cow_eval.specs.Entries.{entry_of}
use Rattle.cow_eval.proofs.Places.{position-map}
use Rattle.cow_eval.proofs.names.find.Goals as goal

pub returns : goal.returns
returns g c = c.locate.ensures ∙ position-map entry_of (λ e. bytes_eq e.name c.args.name.now) c.args.names.now
