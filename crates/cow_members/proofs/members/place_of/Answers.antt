use Rattle.std.proofs.Common.{map, sym, ap, subst, ◌∙◌}
use Rattle.cow_model.specs.Members.{member}
use Rattle.cow_members.specs.Members.{MembersView, IsIndexed}
use Rattle.cow_members.proofs.Sets.{found-member, lacks-member, some-both, none-by}
use Rattle.cow_members.proofs.members.place_of.Goals as goal

pub returns-clause-there : goal.returns-clause-there
returns-clause-there g c =
    let v = c.members.view_is in
    let a = g.E.Equivalent.sought c.args.key.now in
    let indexed = subst (λ (m : MembersView g.row.K.Denot). IsIndexed (λ (k : g.row.K.Denot). g.K.Key.hash_of (g.K.Item.plain k)) m) (sym v) c.requires.sound.indexed in
    some-both c.find.result (λ p found there.
    sym (ap (λ (m : MembersView g.row.K.Denot). member a (map g.K.Item.plain m.keys.items)) v)
    ∙ found-member g.K.Item.plain g.K.Key.hash_of (record { keys = c.members.inside.keys; table = c.members.inside.table }) c.buf.result.now indexed c.buf.ensures a p c.args.hash found there)
    c.find.ensures.found c.find.ensures.there

pub returns-clause-absent : goal.returns-clause-absent
returns-clause-absent g c =
    let v = c.members.view_is in
    let a = g.E.Equivalent.sought c.args.key.now in
    let indexed = subst (λ (m : MembersView g.row.K.Denot). IsIndexed (λ (k : g.row.K.Denot). g.K.Key.hash_of (g.K.Item.plain k)) m) (sym v) c.requires.sound.indexed in
    none-by c.find.result (λ lacks.
    sym (ap (λ (m : MembersView g.row.K.Denot). member a (map g.K.Item.plain m.keys.items)) v)
    ∙ lacks-member g.K.Item.plain g.K.Key.hash_of (record { keys = c.members.inside.keys; table = c.members.inside.table }) c.buf.result.now indexed c.buf.ensures a lacks)
    c.find.ensures.absent
