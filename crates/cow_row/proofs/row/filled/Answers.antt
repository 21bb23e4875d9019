use Rattle.std.proofs.Common.{◌≡◌, ℕ, ◌+◌, ◌<◌, ◌++◌, ◌∷◌, [], length, map, Some, sym, ap, ◌∙◌, arith}
use Rattle.std.specs.List.{splice}
use Rattle.std.proofs.lemmas.List.{map-append, length-map, length_push}
use Rattle.std.proofs.lemmas.Iterator.Adapters.{YieldsList-from_vec}
use Rattle.std.proofs.lemmas.Iterator.Consumers.{YieldsList-turn}
use Rattle.cow_row.proofs.Splices.{splice-more}
use Rattle.cow_row.proofs.row.filled.Goals as goal

pub loop-x-preserved : goal.loop-x-preserved
loop-x-preserved g c =
    let v = c.loop-x.invariant in
    let cs = c.args.buf in
    let from = c.args.run.0 in
    let put = c.loop-x.yielded in
    let turn = YieldsList-turn (YieldsList-from_vec {s = c.into_iter-x-iterator.result} c.args.run.1.items (cc) (omega arith)) put c.loop-x.x-iterator c.loop-x.yielded_by c.next.result c.next.new.self c.in-Some.x c.in-Some.is c.next.ensures.steps in
    let within : from + length put < length cs = omega (arith, turn.0, c.requires.within) in
    let more = splice-more cs (map Some put) from (length put) (Some c.in-Some.x) (sym (length-map put Some)) within in
    let next : from + length put + 1 ≡ from + (length put + 1) = omega arith in
    record {
      place = rw length_push (omega (arith, v.place));
      places = rw (c.put.ensures, v.places, v.place, map-append, length_push) (more ∙ ap (λ (k : ℕ). splice cs from k (map Some put ++ Some c.in-Some.x ∷ [])) next);
    }
