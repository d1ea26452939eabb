-- What `search` needs to see that a seat of a desk over documents may go to another thread, and that threads may share
-- the desk: the premises of `seat_send` and `desk_sync`.
use denote.Param.Send.{IsSend}
use denote.RattleType.{RattleType}
use Rattle.pm_apply.proofs.Crossing.{document_send}
use Rattle.pm_authority.proofs.machine.Request.TheSendSync as Requests
use Rattle.pm_authority.proofs.authority.Authority.TheSendSync as Authorities
use Rattle.pm_authority.specs.contracts.authority.Authority as authority
use Rattle.pm_authority.specs.contracts.machine.Request as request
use Rattle.pm_apply.specs.contracts.change.DocChange as change
use Rattle.pm_node.specs.contracts.document.Document as document
use Rattle.pm_meaning.specs.contracts.reason.Reason as reason
use Rattle.pm_schema.specs.contracts.schema.Schema as schema
use Rattle.pm_authority.specs.contracts.message.Answer as answer
pub use Rattle.pm_apply.proofs.Crossing.{change_send, schema_sync}
pub use Rattle.pm_apply.specs.contracts.change.DocChangeChange.TheImpl.{ghosts as change_ghosts}
pub use Rattle.pm_authority.specs.contracts.machine.AuthorityMachine.TheImpl.{ghosts as authority_ghosts, no_dict as no_dict}
pub use Rattle.pm_desk.proofs.desk.Desk.TheSendSync.{the_sync as desk_sync}
pub use Rattle.pm_desk.proofs.desk.Seat.TheSendSync.{the_send as seat_send}

abbrev pub rules_row : RattleType
rules_row = schema.the_row

abbrev pub answer_row : RattleType
answer_row = answer.the_row change.the_row schema.the_row document.the_row reason.the_row

pub authority_send : IsSend (authority.the_row change.the_row schema.the_row document.the_row reason.the_row)
authority_send = search (Authorities.the_send, change_send, document_send) depth 20

pub request_send : IsSend (request.the_row change.the_row)
request_send = search (Requests.the_send, change_send) depth 20

-- for `search`
pub ruleset desk_crosses = (authority_send, request_send, schema_sync)
