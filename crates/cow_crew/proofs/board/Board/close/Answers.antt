use Rattle.std.proofs.Common.{◌≡◌, ◌+◌, List, length, sym, ap, subst, ◌∙◌}
use Rattle.core.specs.Mem.Slots.{slots_items, slots_counts}
use Rattle.cow_crew.specs.Order.{InOrder}
use Rattle.cow_crew.specs.Rule.{EndsPast}
use Rattle.cow_crew.specs.Passes.{HasEnded}
use Rattle.cow_crew.proofs.Steps.{ends_done}
use Rattle.cow_crew.proofs.Ending.{all_done, outs_in_order}
use Rattle.cow_crew.proofs.board.Board.close.Goals as goal

pub results-requires-clause-done : goal.results-requires-clause-done
results-requires-clause-done g c =
    let R = g.J.Job.gives in
    let jobs : List g.row.J.Denot = c.self.inside.table.shared.key.value.items in
    let seat = c.pass.inside.seat in
    let mine = ap (λ d. d.jobs) c.self.view_is in
    let all : seat.me.0.parts ≡ length jobs + 1 = ap (λ t. t.parts) c.pass.view_is ∙ c.requires.parts ∙ ap (λ (l : List g.row.J.Denot). length l + 1) (sym mine) in
    let E : List g.row.J.Denot → Type 0 = λ js. EndsPast (length js) seat.me.0.numbers in
    let over = subst E (ap (λ t. t.jobs) c.pass.view_is ∙ c.requires.of.1 ∙ sym mine) (subst HasEnded (sym c.pass.view_is) c.requires.over) in
    let xs = slots_items c.close_with.result.slots in
    let long : length xs ≡ length jobs = sym (slots_counts c.close_with.result.slots).0 ∙ c.close_with.ensures.counts.1 ∙ c.self.invariant.1 in
    all_done R jobs xs long (ends_done R jobs seat.id seat.me.0 _ xs all over c.close_with.ensures.values.2)

pub returns : goal.returns
returns g c =
    let R = g.J.Job.gives in
    let jobs : List g.row.J.Denot = c.self.inside.table.shared.key.value.items in
    let seat = c.pass.inside.seat in
    let mine = ap (λ d. d.jobs) c.self.view_is in
    let all : seat.me.0.parts ≡ length jobs + 1 = ap (λ t. t.parts) c.pass.view_is ∙ c.requires.parts ∙ ap (λ (l : List g.row.J.Denot). length l + 1) (sym mine) in
    let E : List g.row.J.Denot → Type 0 = λ js. EndsPast (length js) seat.me.0.numbers in
    let over = subst E (ap (λ t. t.jobs) c.pass.view_is ∙ c.requires.of.1 ∙ sym mine) (subst HasEnded (sym c.pass.view_is) c.requires.over) in
    let xs = slots_items c.close_with.result.slots in
    let long : length xs ≡ length jobs = sym (slots_counts c.close_with.result.slots).0 ∙ c.close_with.ensures.counts.1 ∙ c.self.invariant.1 in
    let I : List g.row.J.Denot → Type 0 = λ js. InOrder R js c.results.result.items in
    subst I mine (outs_in_order R jobs xs long (ends_done R jobs seat.id seat.me.0 _ xs all over c.close_with.ensures.values.2) c.results.result.items c.results.ensures)
