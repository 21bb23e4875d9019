use Rattle.std.proofs.Common.{◌≡◌, length, rules, sym, w64}
use Rattle.std.proofs.lemmas.Int.{to_z-of_z}
use Rattle.std.proofs.lemmas.Result.{err_from_is_err_and}
use Rattle.cow_model.specs.declared.plain.Literal.TheVariants as literal
use Rattle.cow_script.proofs.AtomLists.{atoms_at, atoms_done, atoms_full, atoms_more, atoms_stop}
use Rattle.cow_script.proofs.lists.all_atoms.Goals as goal

pub returns-in_err-one_more_atom : goal.returns-in_err-one_more_atom
returns-in_err-one_more_atom c =
    let n : c.len.result ≡ length c.loop-x.atoms.items = search rules in
    let p = err_from_is_err_and c.from_residual.result c.from_residual.ensures.1 in
    let said = rw c.in-Some.is at c.next_integer.ensures in
    rw (p.1, p.2) (atoms_full c.loop-x.atoms.items c.len.result c.loop-x.tokens c.next_integer.new.self c.args.tokens.now (literal.Int c.in-Some.x) c.in_err-one_more_atom.field-0.0 c.loop-x.invariant said n c.in_err-one_more_atom.ensures)

pub loop-x-preserved-in-Some : goal.loop-x-preserved-in-Some
loop-x-preserved-in-Some c =
    let n : c.len.result ≡ length c.loop-x.atoms.items = search rules in
    let said = rw c.in-Some.is at c.next_integer.ensures in
    let more = atoms_more c.loop-x.atoms.items c.len.result c.loop-x.tokens c.next_integer.new.self c.args.tokens.now (literal.Int c.in-Some.x) c.loop-x.invariant said n c.in_ok-one_more_atom.ensures in
    search (rules, to_z-of_z, c.in_ok-push.ensures.items, more)

pub returns-in_err-atom : goal.returns-in_err-atom
returns-in_err-atom c =
    let so_far = atoms_at c.loop-x.atoms.items c.loop-x.tokens c.next_integer.new.self c.args.tokens.now c.loop-x.invariant (sym (rw c.in_default.is at c.next_integer.ensures)) in
    let p = err_from_is_err_and c.from_residual-in_err-atom.result c.from_residual-in_err-atom.ensures.1 in
    rw (p.1, p.2) (atoms_stop c.loop-x.atoms.items c.next_integer.new.self c.args.tokens.now c.in_err-atom.field-0.0 so_far c.in_err-atom.ensures)

pub returns-in_default-2 : goal.returns-in_default-2
returns-in_default-2 c =
    let so_far = atoms_at c.loop-x.atoms.items c.loop-x.tokens c.next_integer.new.self c.args.tokens.now c.loop-x.invariant (sym (rw c.in_default.is at c.next_integer.ensures)) in
    let said = rw c.in_default-2.is at c.in_ok-atom.ensures in
    rw c.from_vec.ensures (atoms_done c.loop-x.atoms.items c.next_integer.new.self c.next_atom.new.self c.args.tokens.now so_far said)

pub returns-in_err-one_more_atom-2 : goal.returns-in_err-one_more_atom-2
returns-in_err-one_more_atom-2 c =
    let so_far = atoms_at c.loop-x.atoms.items c.loop-x.tokens c.next_integer.new.self c.args.tokens.now c.loop-x.invariant (sym (rw c.in_default.is at c.next_integer.ensures)) in
    let n : c.len-in-loop-x.result ≡ length c.loop-x.atoms.items = search rules in
    let p = err_from_is_err_and c.from_residual-in_err-one_more_atom-2.result c.from_residual-in_err-one_more_atom-2.ensures.1 in
    let said = rw c.in-Some-2.is at c.in_ok-atom.ensures in
    rw (p.1, p.2) (atoms_full c.loop-x.atoms.items c.len-in-loop-x.result c.next_integer.new.self c.next_atom.new.self c.args.tokens.now c.in-Some-2.atom c.in_err-one_more_atom-2.field-0.0 so_far said n c.in_err-one_more_atom-2.ensures)

pub loop-x-preserved : goal.loop-x-preserved
loop-x-preserved c =
    let so_far = atoms_at c.loop-x.atoms.items c.loop-x.tokens c.next_integer.new.self c.args.tokens.now c.loop-x.invariant (sym (rw c.in_default.is at c.next_integer.ensures)) in
    let n : c.len-in-loop-x.result ≡ length c.loop-x.atoms.items = search rules in
    let said = rw c.in-Some-2.is at c.in_ok-atom.ensures in
    rw c.in_ok-push-2.ensures.items (atoms_more c.loop-x.atoms.items c.len-in-loop-x.result c.next_integer.new.self c.next_atom.new.self c.args.tokens.now c.in-Some-2.atom so_far said n c.in_ok-one_more_atom-2.ensures)
