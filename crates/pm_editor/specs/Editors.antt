-- An editor that answers lines: what a line is answered, and what the editor is then.
use Rattle.std.specs.Prelude.{◌≡◌, ℕ, zero, suc, ◌+◌, ◌-◌, ◌==◌, nat_le, nat_lt, Bool, ◌&&◌, true, false, List, [], ◌∷◌, ◌++◌, length, take, drop, codes, decimal, Option, Some, None, Result, Ok, Err, if◌then◌else◌}
use Rattle.serde_json.specs.Written.{compact_text}
use Rattle.pm_tokens.specs.Tokens.{Doc as Document}
use Rattle.pm_schema.specs.declared.schema.Schema.{Schema}
use Rattle.pm_docjson.specs.Writing.{doc_written}
use Rattle.pm_map.specs.declared.side.Side.{Side}
use Rattle.pm_meaning.specs.Steps.{Step}
use Rattle.pm_meaning.specs.declared.reason.Reason.{Reason}
use Rattle.pm_change.specs.Changes.{fold}
use Rattle.pm_change.specs.declared.no_step.NoStep.{NoStep}
use Rattle.pm_change.specs.declared.no_step.NoStep.TheVariants.{Range}
use Rattle.pm_apply.specs.Changes.{meaning}
use Rattle.pm_history.specs.Turns.{event_for}
use Rattle.pm_history.specs.declared.turn.Turn.{Turn}
use Rattle.pm_authority.specs.declared.running.Refusal.{Refusal}
use Rattle.pm_authority.specs.declared.message.Answer.TheVariants as answer
use Rattle.pm_authority.specs.Runs.{run, changes_of}
use Rattle.pm_client.specs.Clients.{edited, turned_if, cursor_set, confirmed_first, carried, taken}
use Rattle.pm_client.specs.Kins.{Stands}
use Rattle.pm_remote.specs.Bare.{IsBare}
use Rattle.pm_remote.specs.Hearings.{others, heard}
use Rattle.pm_making.specs.Making.{makes}
use Rattle.pm_head.specs.declared.code.Code.{Code}
use Rattle.pm_head.specs.declared.code.Code.TheVariants.{OpNotAllowed}
use Rattle.pm_talk.specs.Texts.{fault_text, refused_text}
use Rattle.pm_editor.specs.declared.editor.Editor.{Editor}
use Rattle.pm_editor.specs.declared.editor.TheConstants.{MAX_CURSORS}
use Rattle.pm_told.specs.declared.preview.TheConstants.{OTHER}
use Rattle.pm_asked.specs.declared.asked.Edit.{Edit}
use Rattle.pm_asked.specs.declared.asked.Asked.{Asked}
use Rattle.pm_asked.specs.declared.asked.Asked.TheVariants as asked
use Rattle.pm_asked.specs.declared.given.Given.{Given}
use Rattle.pm_asked.specs.declared.given.Given.TheVariants.{Accepted, Entries, Kept}
use Rattle.pm_asked.specs.Asked.{asked_line}
use Rattle.pm_told.specs.Texts.{none_text, no_event_text, unmade_text, cursor_text, ask_text, stale_text, gap_text, kept_text, confirmed_text, numbers_text, made_text, can_text, turned_text, submission_text}
use Rattle.pm_told.specs.Showing.{DocClient, positions_of, serials_on, own_text, brought_text}

-- The client stands to some log and keeps no message and no answer, its name is 0, and so many serials were drawn.
pub record IsEditor (e : Editor) : Type 0 where
  pub stands : Stands meaning e.schema e.client
  pub bare : IsBare e.client
  pub name : e.client.name ≡ 0
  pub serials : e.serials ≡ e.client.serials

-- the editor with this client
abbrev pub with_client : Editor → DocClient → Editor
with_client e c = record { schema = e.schema; client = c; id = e.id; serials = e.serials }

-- the same with the serials that it has drawn
abbrev pub moved : Editor → DocClient → Editor
moved e c = record { schema = e.schema; client = c; id = e.id; serials = c.serials }

-- the pending steps that this client has more
abbrev pub added : DocClient → DocClient → List Step
added c next = changes_of (drop (length c.pending) next.pending)

-- ---- edits

-- the steps of an edit were made, or one of them does not apply
abbrev pub made_answer : Editor → List Step → Result DocClient (Refusal Reason) → List ℕ × Editor
made_answer e steps (Ok next) = (made_text e.schema.spec (e.client.serials + 1) steps, moved e next)
made_answer e steps (Err refusal) = (unmade_text refusal.reason, e)

abbrev pub edit_answer : Editor → Option ℕ → Result (List Step) NoStep → List ℕ × Editor
edit_answer e event (Ok steps) = made_answer e steps (edited meaning e.schema e.client steps event)
edit_answer e event (Err reason) = (none_text reason, e)

abbrev pub edited_by : Editor → Edit → List ℕ × Editor
edited_by e edit = edit_answer e edit.event (makes e.schema e.client.doc edit.op)

-- what it would be answered
abbrev pub tried_text : Editor → List Step → Result DocClient (Refusal Reason) → List ℕ
tried_text e steps (Ok next) = can_text e.schema.spec steps
tried_text e steps (Err refusal) = unmade_text refusal.reason

abbrev pub could_text : Editor → Option ℕ → Result (List Step) NoStep → List ℕ
could_text e event (Ok steps) = tried_text e steps (edited meaning e.schema e.client steps event)
could_text e event (Err reason) = none_text reason

abbrev pub can_answer : Editor → Edit → List ℕ
can_answer e edit = could_text e edit.event (makes e.schema e.client.doc edit.op)

-- ---- undo and redo

-- an event was undone or redone, or there is none
abbrev pub turn_answer : Editor → Option (ℕ × DocClient) → List ℕ × Editor
turn_answer e None = (no_event_text, e)
turn_answer e (Some p) =
    let steps = added e.client p.1 in
    (turned_text e.schema.spec (serials_on (e.client.serials + 1) (length steps)) steps, moved e p.1)

abbrev pub turned_by : Editor → Turn → List ℕ × Editor
turned_by e turn = turn_answer e (turned_if meaning e.schema e.client turn (event_for turn e.client.history))

-- ---- cursors

abbrev pub cursor_answer : Editor → ℕ → Side → List ℕ × Editor
cursor_answer e p side =
    if nat_le MAX_CURSORS (length e.client.cursors) then (fault_text OpNotAllowed, e)
    else (if nat_lt (meaning.size e.client.doc) p then (none_text Range, e)
    else (cursor_text (length e.client.cursors) p, with_client e (cursor_set e.client p side)))

-- ---- what an authority answered

-- so many steps stand in the log from this place on
abbrev pub accepted_answer : Editor → ℕ → ℕ → List ℕ × Editor
accepted_answer e count from =
    if nat_le (from + count) e.client.version then (stale_text e.client.version, e)
    else (if (from == e.client.version) && nat_le count (length e.client.pending)
    then (confirmed_text count (from + count), with_client e (confirmed_first meaning e.schema e.client count).1)
    else (gap_text e.client.version, e))

-- how many of these are true at the front, at most so many
abbrev pub front : List Bool → ℕ → ℕ
front [] most = 0
front (false ∷ bs) most = 0
front (true ∷ bs) zero = 0
front (true ∷ bs) (suc most) = suc (front bs most)

-- Past the version stand the first `own` pending steps, which lead to the document `middle`, and these of others, which lead to
-- `end`, or the first of which that does not apply is this. So many entries before the version were skipped.
abbrev pub run_answer : Editor → ℕ → ℕ → List Step → ℕ → Document → Result Document (Refusal Reason) → List ℕ × Editor
run_answer e skipped own foreign version middle (Err refusal) = (refused_text (skipped + own + refusal.index) refusal.reason, e)
run_answer e skipped own foreign version middle (Ok end) =
    let c = e.client in
    let r = carried meaning e.schema c own (others c OTHER own foreign) end in (
      brought_text e.schema c own middle foreign r version,
      with_client e (taken meaning e.schema c (answer.Entries c.version (heard c OTHER own foreign))).1,
    )

-- pending steps always lead to a document
abbrev pub middle_answer : Editor → ℕ → ℕ → List Step → ℕ → Option Document → List ℕ × Editor
middle_answer e skipped own foreign version None = (stale_text e.client.version, e)
middle_answer e skipped own foreign version (Some middle) =
    run_answer e skipped own foreign version middle (run meaning e.schema middle 0 (others e.client OTHER own foreign))

-- past the version stand the first `own` pending steps and then these of others
abbrev pub past_answer : Editor → ℕ → ℕ → List Step → ℕ → List ℕ × Editor
past_answer e skipped own [] version =
    (own_text e.schema.spec e.client own version, with_client e (confirmed_first meaning e.schema e.client own).1)
past_answer e skipped own (c ∷ cs) version =
    middle_answer e skipped own (c ∷ cs) version (fold meaning e.schema e.client.base (changes_of (take own e.client.pending)))

-- These entries end at this version. Those before the client's version are skipped. Own ones at the front, at most as many as are
-- pending, are the first pending steps, and all after them others'.
abbrev pub entries_answer : Editor → List Bool → List Step → ℕ → List ℕ × Editor
entries_answer e own steps version =
    if nat_le version e.client.version then (stale_text e.client.version, e)
    else (if nat_lt e.client.version (version - length steps) then (gap_text e.client.version, e)
    else (let skipped = e.client.version - (version - length steps) in
    let n = front (drop skipped own) (length e.client.pending) in
    past_answer e skipped n (drop (skipped + n) steps) version))

abbrev pub given_answer : Editor → Given → List ℕ × Editor
given_answer e (Accepted count from) = accepted_answer e count from
given_answer e (Entries own steps version) = entries_answer e own steps version
given_answer e Kept = (kept_text (length e.client.pending), e)

-- ---- the document, and how the client stands

abbrev pub doc_text : Editor → List ℕ
doc_text e =
    codes "{\"doc\":" ++ (compact_text (doc_written e.schema.spec e.client.doc)
    ++ (codes ",\"version\":" ++ (decimal e.client.version ++ codes "}\n")))

abbrev pub state_text : Editor → List ℕ
state_text e =
    codes "{\"clientID\":" ++ (e.id ++ (codes ",\"cursors\":" ++ (numbers_text (positions_of e.client.cursors)
    ++ (codes ",\"pending\":" ++ (decimal (length e.client.pending) ++ (codes ",\"redo\":" ++ (decimal (length e.client.history.redo)
    ++ (codes ",\"size\":" ++ (decimal (meaning.size e.client.doc) ++ (codes ",\"undo\":" ++ (decimal (length e.client.history.undo)
    ++ (codes ",\"version\":" ++ (decimal e.client.version ++ codes "}\n")))))))))))))

-- ---- lines

-- what a line that asks this is answered, or one with this fault, and what the editor is then; a fault changes nothing
abbrev pub answer_to : Editor → Result Asked Code → List ℕ × Editor
answer_to e (Ok (asked.Edit edit)) = edited_by e edit
answer_to e (Ok (asked.Can edit)) = (can_answer e edit, e)
answer_to e (Ok (asked.Turn turn)) = turned_by e turn
answer_to e (Ok (asked.Cursor p side)) = cursor_answer e p side
answer_to e (Ok asked.Compose) = (submission_text e.schema.spec e.id (changes_of e.client.pending) e.client.version, e)
answer_to e (Ok asked.Ask) = (ask_text e.client.version, e)
answer_to e (Ok (asked.Take given)) = given_answer e given
answer_to e (Ok asked.Doc) = (doc_text e, e)
answer_to e (Ok asked.State) = (state_text e, e)
answer_to e (Err code) = (fault_text code, e)

abbrev pub answered : Editor → List ℕ → List ℕ × Editor
answered e line = answer_to e (asked_line e.schema.spec e.id line)
