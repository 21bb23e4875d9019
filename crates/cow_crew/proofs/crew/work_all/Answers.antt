use Rattle.std.proofs.Common.{rules, arith, ◌≡◌, sym, subst, ◌∙◌}
use Rattle.std.proofs.lemmas.Grind.{common_steps}
use Rattle.std.proofs.lemmas.Option.{slice_get_within, get_or_from_slice_get}
use Rattle.cow_crew.specs.Passes.{Progress, Works}
use denote.Exit.{no}
use denote.Param.Send.{param_send, arg_send, sendable}
use Rattle.cow_crew.proofs.Crossing.{pass_send, board_sync}
use Rattle.cow_crew.proofs.crew.work_all.Goals as goal

pub map_vec-requires-send-J : goal.map_vec-requires-send-J
map_vec-requires-send-J g c κs within = param_send _ _ (arg_send _ no _ (pass_send _ _ g.J.Job c.type_bounds.send-J c.type_bounds.send-J-Out))

pub map_vec-requires-send-X : goal.map_vec-requires-send-X
map_vec-requires-send-X g c κs within = param_send _ _ (arg_send _ no _ (pass_send _ _ g.J.Job c.type_bounds.send-J c.type_bounds.send-J-Out))

pub map_vec-requires-sync-F : goal.map_vec-requires-sync-F
map_vec-requires-sync-F g c κs within = search (sendable, board_sync) depth 12

pub returns : goal.returns
returns g c =
    let b = c.args.board.now in
    let js = c.args.passes.items in
    let xs = c.in_ok-done.done.items in
    record {
      len = (first_of (search rules, grind (arith, common_steps)));
      each = λ i j x at out.
          let h = (c.in_ok-done.ensures.each i x (slice_get_within js i j at)).1 in
          let job : h.job ≡ j = sym (h.job_is j) ∙ get_or_from_slice_get js i j j at in
          let S : Progress g.row.J.Denot → Type 0 = λ z. Works b h.job z in
          let T : Progress g.row.J.Denot → Type 0 = λ z. Works b z x in
          subst T job (subst S (get_or_from_slice_get xs i x x out) h.call.met);
    }
