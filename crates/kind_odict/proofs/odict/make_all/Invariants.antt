use Rattle.std.proofs.Common.{◌≡◌, ◌≤◌, ◌+◌, [], All, fold, length, true}
use Rattle.std.specs.List.{sum_by}
use Rattle.cow_model.specs.Literals.{FitsText}
use Rattle.cow_model.specs.Pairs.{last, paired, put}
use Rattle.cow_model.specs.Units.{pair_units}
use Rattle.kind_odict.proofs.odict.make_all.Given as goal

-- the pairs of the literals to come, put into the dictionary so far, are those of all; nothing is counted
abbrev pub invariant-loop-rest : goal.invariant-loop-rest
invariant-loop-rest g l =
    record {
      value : fold (put last) l.d.value (paired l.rest) ≡ fold (put last) [] (paired l.fn.literals);
      texts : All FitsText l.rest;
      few : length l.d.value + length l.rest ≤ length l.fn.literals;
      alone : l.d.alone ≡ true;
      spare : l.h.spare + sum_by (pair_units g.T.Item.is_counted) l.d.value ≡ l.fn.h.spare;
      copied : l.h.copied ≡ l.fn.h.copied;
    }

abbrev pub decreases-loop-rest : goal.decreases-loop-rest
decreases-loop-rest g l = length l.rest
