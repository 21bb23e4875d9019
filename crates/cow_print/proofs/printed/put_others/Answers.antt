use Rattle.std.specs.Prelude.{codes}
use Rattle.std.specs.Io.{StartsWith}
use Rattle.cow_print.proofs.Fronts.{front_of_front, front_of_more}
use Rattle.cow_print.proofs.printed.put_others.Goals as goal

pub returns-in_err-put-clause-front : goal.returns-in_err-put-clause-front
returns-in_err-put-clause-front g c =
    let comma : StartsWith c.extend_from_slice.new.self.items c.loop-item.text.items = front_of_more c.extend_from_slice.new.self.items c.loop-item.text.items (codes ", ") c.in_ok-extend_from_slice.ensures.items in
    let before = front_of_front c.extend_from_slice.new.self.items c.loop-item.text.items c.args.text.now.items c.loop-item.invariant.1 comma in
    front_of_front c.put.new.text.items c.extend_from_slice.new.self.items c.args.text.now.items before c.in_err-put.ensures.front
