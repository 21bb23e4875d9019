-- A pass may go to another thread, and a board may be shared.
use denote.RattleType.{RattleType}
use denote.Param.Send.{IsSend, IsSync, sendable, view_send, view_sync}
use denote.Param.SendFields.{declared_send, declared_sync, as_row_send, as_row_sync}
use denote.Struct.Field.{row_field}
use Rattle.core.proofs.snapshot.Sent.{snapshot_send}
use Rattle.atomic_table.proofs.shared.Seat.TheSendSync as seat
use Rattle.atomic_table.proofs.shared.Shared.TheSendSync as shared
use Rattle.atomic_table.proofs.send_lease.SendLease.TheSendSync as lease
use Rattle.std.proofs.alloc.Global.TheSendSync as heap
use Rattle.std.proofs.Crossing.{frees}
use Rattle.cow_crew.specs.declared.job.Job.{Ghosts}
use Rattle.core.specs.contracts.option.Option as option
use Rattle.core.specs.contracts.snapshot.Snapshot as snapshot
use Rattle.std.specs.contracts.vec.Vec as vec
use Rattle.std.specs.contracts.alloc.Global as global
use Rattle.std.specs.contracts.impls.GlobalAllocator.TheImpl as galloc
use Rattle.atomic_table.specs.contracts.owned.Table as table
use Rattle.cow_crew.specs.contracts.rule.BoardRule as draws
use Rattle.cow_crew.specs.contracts.rule.BoardRuleTableRulePlaceOutViewSnapshotVec.TheImpl as law
use Rattle.cow_crew.specs.contracts.rule.View as view
use Rattle.cow_crew.specs.contracts.place.Held as held
use Rattle.cow_crew.specs.contracts.place.Place as place
use Rattle.cow_crew.specs.contracts.pass.Pass.{the_row}
use Rattle.cow_crew.specs.contracts.pass.Pass.TheInside as inside
use Rattle.cow_crew.specs.contracts.board.Board as board
use Rattle.cow_crew.specs.contracts.board.Board.TheInside as board_inside

held_send : (A B : RattleType) → IsSend A → IsSend B → IsSend (held.the_row A B)
held_send A B a b = search sendable depth 8

place_send : (A B : RattleType) → IsSend A → IsSend B → IsSend (place.the_row A B)
place_send A B a b = declared_send (place.the_type A B) (snapshot_send A, (held_send A B a b, tt))

number_send : IsSend (option.the_row denote.Builtin.u64)
number_send = search sendable depth 8

inside_send : (A B : RattleType) (g : Ghosts A.Denot B.Denot) → IsSend A → IsSend B → IsSend (inside.the_row A B g)
inside_send A B g a b = declared_send (inside.the_type A B g) (seat.the_send (place.the_row A B) (view.the_row A) (place_send A B a b), (number_send, tt))

pub pass_send : (A B : RattleType) (g : Ghosts A.Denot B.Denot) → IsSend A → IsSend B → IsSend (the_row A B g)
pass_send A B g a b = view_send _ _ _ _ _ (inside_send A B g a b)

table_sync : (A B : RattleType) (g : Ghosts A.Denot B.Denot) → IsSend A → IsSend B
    → IsSync (table.the_row (place.the_row A B) (view.the_row A) (snapshot.the_row (vec.the_row A global.the_row galloc.ghosts)) (draws.the_row A) global.the_row (law.ghosts A B g law.no_dict law.no_dict law.no_dict) galloc.ghosts)
table_sync A B g a b =
    declared_sync (table.the_type (place.the_row A B) (view.the_row A) (snapshot.the_row (vec.the_row A global.the_row galloc.ghosts)) (draws.the_row A) global.the_row (law.ghosts A B g law.no_dict law.no_dict law.no_dict) galloc.ghosts)
    (search (shared.the_sync, place_send) depth 4, (search sendable, (search sendable, (search (lease.the_sync, heap.the_send, frees) depth 4, (search (lease.the_sync, heap.the_send, frees) depth 4, (as_row_sync (row_field global.the_row) heap.the_sync, tt))))))

table_send : (A B : RattleType) (g : Ghosts A.Denot B.Denot) → IsSend A → IsSend B
    → IsSend (table.the_row (place.the_row A B) (view.the_row A) (snapshot.the_row (vec.the_row A global.the_row galloc.ghosts)) (draws.the_row A) global.the_row (law.ghosts A B g law.no_dict law.no_dict law.no_dict) galloc.ghosts)
table_send A B g a b =
    declared_send (table.the_type (place.the_row A B) (view.the_row A) (snapshot.the_row (vec.the_row A global.the_row galloc.ghosts)) (draws.the_row A) global.the_row (law.ghosts A B g law.no_dict law.no_dict law.no_dict) galloc.ghosts)
    (search (shared.the_send, place_send) depth 4, (search sendable, (search sendable, (search (lease.the_send, heap.the_send, frees) depth 4, (search (lease.the_send, heap.the_send, frees) depth 4, (as_row_send (row_field global.the_row) heap.the_send, tt))))))

board_inside_send : (A B : RattleType) (g : Ghosts A.Denot B.Denot) → IsSend A → IsSend B → IsSend (board_inside.the_row A B g)
board_inside_send A B g a b = declared_send (board_inside.the_type A B g) (table_send A B g a b, (heap.the_send, tt))

pub board_send : (A B : RattleType) (g : Ghosts A.Denot B.Denot) → IsSend A → IsSend B → IsSend (board.the_row A B g)
board_send A B g a b = view_send _ _ _ _ _ (board_inside_send A B g a b)

inside_sync : (A B : RattleType) (g : Ghosts A.Denot B.Denot) → IsSend A → IsSend B → IsSync (board_inside.the_row A B g)
inside_sync A B g a b = declared_sync (board_inside.the_type A B g) (table_sync A B g a b, (heap.the_sync, tt))

pub board_sync : (A B : RattleType) (g : Ghosts A.Denot B.Denot) → IsSend A → IsSend B → IsSync (board.the_row A B g)
board_sync A B g a b = view_sync _ _ _ _ _ (inside_sync A B g a b)
