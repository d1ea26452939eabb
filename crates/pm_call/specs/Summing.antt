-- The summary of a session that was made from a number.
use Rattle.std.specs.Prelude.{ℕ, ◌-◌, ◌^◌, min, List, length}
use Rattle.std.specs.List.{sum_by}
use Rattle.pm_tokens.specs.Tokens.{Doc}
use Rattle.pm_schema.specs.declared.schema.Schema.{Schema}
use Rattle.pm_meaning.specs.Steps.{Step}
use Rattle.pm_meaning.specs.declared.reason.Reason.{Reason}
use Rattle.pm_session.specs.declared.member.Member.{Member as AnyMember}
use Rattle.pm_session.specs.declared.member.Member.TheVariants.{Editor, Raw}
use Rattle.pm_gen.specs.declared.asking.Asked.{Asked}
use Rattle.pm_gen.specs.Summary.{summary_text}
use Rattle.pm_script.specs.declared.session.Session.{Session}
use Rattle.pm_call.specs.Playing.{Room, room_settled}

abbrev pub Member : Type 0
Member = AnyMember Step Schema Doc Reason

-- how many steps a member dropped
abbrev pub dropped_by : Member → ℕ
dropped_by (Editor client) = length client.dropped
dropped_by (Raw name serial) = 0

-- how many steps the members dropped together; the count stands still at 2^64 - 1
abbrev pub dropped_in : List Member → ℕ
dropped_in members = min (sum_by dropped_by members) (2 ^ 64 - 1)

-- the summary of this room: the log's length, the dropped steps, and the size of the document in tokens
abbrev pub summary_in : Asked → Room → List ℕ
summary_in asked room = summary_text asked.clients asked.rounds asked.number (length room.authority.log) (dropped_in room.members) (length room.authority.doc.tokens)

-- the summary of the session, whose lines are played in file order, once its editors have settled
abbrev pub summary_of : Asked → Session → List ℕ
summary_of asked s = summary_in asked (room_settled s)
