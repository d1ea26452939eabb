use Rattle.std.proofs.Common.{ℕ, List, [], ◌∷◌, codes}
use denote.RattleType.{RattleType}
use denote.Param.Send.{IsSend, IsSync, arg_send, param_send, sendable}
use denote.Param.SendFields.{declared_send, declared_sync, as_row_send}
use denote.Param.{param}
use denote.Struct.Field.{mut_ref_field, shr_ref_field, row_field}
use denote.Exit.{no}
use denote.Struct.Tuple.{TupleAt, type_at}
use Rattle.std.proofs.Crossing.{crosses}
use Rattle.std.specs.contracts.alloc.Global as global
use Rattle.pm_engine.proofs.Crossing.{answer_row, authority_ghosts, authority_send, change_ghosts, change_send, desk_sync, no_dict, request_send, rules_row, schema_sync, seat_send}
use Rattle.pm_engine.specs.contracts.Authority as authority
use Rattle.pm_engine.specs.contracts.DocChange as change
use Rattle.pm_engine.specs.contracts.Document as document
use Rattle.pm_engine.specs.contracts.Reason as reason
use Rattle.pm_engine.specs.contracts.Request as request
use Rattle.tests_engine.specs.contracts.desk.Room as Room
use Rattle.tests_engine.specs.contracts.desk.Writer as Writer
use Rattle.tests_engine.proofs.desk.write_both.Goals as goal
use Rattle.tests_engine.proofs.desk.write_both.Lts.{arg-0-1}

-- a writer may go to another thread, and threads may share a room
writer_send : IsSend Writer.the_row
writer_send = declared_send Writer.the_type (seat_send _ rules_row _ answer_row _ authority_send request_send, (change_send, tt))

room_sync : IsSync Room.the_row
room_sync = declared_sync Room.the_type (desk_sync (authority.the_row change.the_row rules_row document.the_row reason.the_row) rules_row (request.the_row change.the_row) answer_row (authority_ghosts change.the_row rules_row document.the_row reason.the_row change_ghosts no_dict no_dict no_dict no_dict no_dict) authority_send request_send schema_sync, tt)

global_sync : IsSync global.the_row
global_sync = search (sendable, crosses) depth 20

-- the name of the closure's type
abbrev name : List ℕ
name = codes "tests_engine::desk::fn::write_both::join_mut+arg2+Self"

-- what the closure captures may go to another thread: a writer that it alone has, and what threads share
pub join_mut-requires-send-F : goal.join_mut-requires-send-F
join_mut-requires-send-F c κs = λ κs' inside.
    let sync : IsSync (param 0 c.row.R) = κs.type_bounds.sync-R in
    let writer : IsSend (mut_ref_field record { mir = mir.Syntax.named 8; lft = κs'.1.1.1.1.1.1.1.1.0 } Writer.the_row (tt {0})).row = search (writer_send, sendable) depth 20 in
    let alloc : IsSend (shr_ref_field record { mir = mir.Syntax.named 9; lft = κs'.1.1.1.1.1.1.1.1.1.0 } global.the_row (tt {0})).row = search (global_sync, sendable) depth 20 in
    let rt : IsSend (shr_ref_field record { mir = mir.Syntax.named 10; lft = κs'.1.1.1.1.1.1.1.1.1.1.0 } (param 0 c.row.R) (tt {0})).row = search (sync, sendable) depth 20 in
    let room : IsSend (shr_ref_field record { mir = mir.Syntax.named 11; lft = κs'.1.1.1.1.1.1.1.1.1.1.1.0 } Room.the_row (tt {0})).row = search (room_sync, sendable) depth 20 in
    let captures : List RattleType = ((mut_ref_field record { mir = mir.Syntax.named 8; lft = κs'.1.1.1.1.1.1.1.1.0 } Writer.the_row (tt {0})).row
    ∷ (shr_ref_field record { mir = mir.Syntax.named 9; lft = κs'.1.1.1.1.1.1.1.1.1.0 } global.the_row (tt {0})).row
    ∷ (shr_ref_field record { mir = mir.Syntax.named 10; lft = κs'.1.1.1.1.1.1.1.1.1.1.0 } (param 0 c.row.R) (tt {0})).row
    ∷ (shr_ref_field record { mir = mir.Syntax.named 11; lft = κs'.1.1.1.1.1.1.1.1.1.1.1.0 } Room.the_row (tt {0})).row ∷ []) in
    let s : IsSend (TupleAt name captures) = declared_send (type_at name captures) (as_row_send (row_field (mut_ref_field record { mir = mir.Syntax.named 8; lft = κs'.1.1.1.1.1.1.1.1.0 } Writer.the_row (tt {0})).row) writer, (as_row_send (row_field (shr_ref_field record { mir = mir.Syntax.named 9; lft = κs'.1.1.1.1.1.1.1.1.1.0 } global.the_row (tt {0})).row) alloc, (as_row_send (row_field (shr_ref_field record { mir = mir.Syntax.named 10; lft = κs'.1.1.1.1.1.1.1.1.1.1.0 } (param 0 c.row.R) (tt {0})).row) rt, (as_row_send (row_field (shr_ref_field record { mir = mir.Syntax.named 11; lft = κs'.1.1.1.1.1.1.1.1.1.1.1.0 } Room.the_row (tt {0})).row) room, tt)))) in
    param_send 1 (arg-0-1 c.row.R c.R.laws c.R.Threads-dict c.R.Wait-dict κs') (arg_send _ no (TupleAt name captures) s)
