-- What a client's calls make of it. Each is a function of the client's state.
use Rattle.std.specs.Prelude.{ℕ, ◌+◌, ◌-◌, ◌≡◌, ◌<◌, ◌==◌, nat_le, if◌then◌else◌, true, List, [], ◌∷◌, ◌++◌, length, take, drop, slice_get, Option, Some, None, Result, Ok, Err}
use Rattle.pm_change.specs.Changes.{Meaning, fold}
use Rattle.pm_map.specs.declared.side.Side.{Side}
use Rattle.pm_map.specs.declared.step_map.Span.{Span}
use Rattle.pm_history.specs.declared.item.Item.{Item}
use Rattle.pm_history.specs.declared.branch.Event.{Event}
use Rattle.pm_history.specs.declared.branches.Branches.{Branches}
use Rattle.pm_history.specs.declared.branches.MadeBy.TheVariants.{Edit}
use Rattle.pm_history.specs.declared.turn.Turn.{Turn}
use Rattle.pm_history.specs.declared.turn.Turn.TheVariants.{Undo, Redo, UndoEvent}
use Rattle.pm_history.specs.declared.undoing.Undone.{Undone}
use Rattle.pm_history.specs.Histories.{event_of, names_in, new_history, noted_all, last_items, rebased as rebased_last}
use Rattle.pm_history.specs.Turns.{event_for, undone}
use Rattle.pm_history.specs.Tied.{all_tied}
use Rattle.pm_history.specs.Trims.{trimmed}
use Rattle.pm_history.specs.Timelines.{items_from}
use Rattle.pm_history.specs.Undos.{undo_event}
use Rattle.pm_authority.specs.declared.named.Named.{Named}
use Rattle.pm_authority.specs.declared.running.Refusal.{Refusal}
use Rattle.pm_authority.specs.declared.message.Message.{Message}
use Rattle.pm_authority.specs.declared.message.Message.TheVariants.{Submit, Ask}
use Rattle.pm_authority.specs.declared.message.Answer.{Answer}
use Rattle.pm_authority.specs.declared.message.Answer.TheVariants.{Accepted, WrongVersion, StepRefused, Entries}
use Rattle.pm_authority.specs.Runs.{run, changes_of}
use Rattle.pm_client.specs.declared.client.Client.{Client}
use Rattle.pm_client.specs.declared.failing.EditError.{EditError}
use Rattle.pm_client.specs.declared.failing.EditError.TheVariants.{Refused as RefusedAt, NoMemory}
use Rattle.pm_client.specs.declared.failing.CursorError.{CursorError}
use Rattle.pm_client.specs.declared.failing.CursorError.TheVariants.{Range, NoMemory as NoCursorMemory}
use Rattle.pm_client.specs.declared.taken.MessageKind.{MessageKind}
use Rattle.pm_client.specs.declared.taken.MessageKind.TheVariants.{Submit as ToSubmit, Ask as ToAsk}
use Rattle.pm_client.specs.declared.taken.Taken.{Taken}
use Rattle.pm_client.specs.declared.taken.Taken.TheVariants.{Confirmed, Rebased, Stale, Refused}
use Rattle.pm_client.specs.Rebases.{Rebasing, maps_of, ranges_of, start, rebased}
use Rattle.pm_client.specs.Cursors.{cursor, moved_over}
use Rattle.pm_client.specs.Timelines.{edit_steps}
use Rattle.pm_client.specs.Serials.{merged}

-- the steps under names of this client, with serials from this one on
abbrev pub named : {C : Type 0} → ℕ → ℕ → List C → List (Named C)
named client serial [] = []
named client serial (c ∷ cs) = record { name = record { client = client; serial = serial }; change = c } ∷ named client (serial + 1) cs

-- how many steps at the front are this client's
abbrev pub own_run : {C : Type 0} → ℕ → List (Named C) → ℕ
own_run client [] = 0
own_run client (n ∷ ns) = if n.name.client == client then own_run client ns + 1 else 0

-- In the history foreign steps with these ranges and the items of the steps kept stand in place of the last ones, or of all
-- where fewer are left. Each step kept undoes what it did before. What no undo looks at is dropped.
abbrev pub carried_history : {C : Type 0} → Branches C → ℕ → List (List Span) → List (Item C) → Branches C
carried_history h gone foreign kept = trimmed (rebased_last h gone foreign (all_tied (last_items gone h.items) kept))

module _ {Rules Doc Reason C : Type 0} where
  -- a client of this name at version 0, with this document and nothing pending
  abbrev pub new_client : ℕ → Doc → Client C Rules Doc Reason
  new_client name doc = record {
    name = name;
    version = 0;
    base = doc;
    doc = doc;
    pending = [];
    messages = [];
    answers = [];
    serials = 0;
    dropped = [];
    cursors = [];
    history = new_history;
  }

  -- A client of this name that comes at this version, where the log gives this document: nothing is pending, and it has drawn no
  -- serial, composed no message and kept nothing.
  abbrev pub entered_client : ℕ → ℕ → Doc → Client C Rules Doc Reason
  entered_client name version doc = record (new_client name doc) { version = version }

  -- the message of this kind: all pending steps at the client's version, or a request for what is past it
  abbrev pub message_of : Client C Rules Doc Reason → MessageKind → Message C
  message_of c ToSubmit = Submit c.version c.pending
  message_of c ToAsk = Ask c.version

  -- a message was composed
  abbrev pub composed : Client C Rules Doc Reason → MessageKind → Client C Rules Doc Reason
  composed c kind = record c { messages = c.messages ++ message_of c kind ∷ [] }

  -- an answer was kept
  abbrev pub kept : Client C Rules Doc Reason → Answer C Rules Doc Reason → Client C Rules Doc Reason
  kept c answer = record c { answers = c.answers ++ answer ∷ [] }

  -- the messages and the answers were dropped
  abbrev pub forgotten : Client C Rules Doc Reason → Client C Rules Doc Reason
  forgotten c = record c { messages = []; answers = [] }

  -- one cursor more was set
  abbrev pub cursor_set : Client C Rules Doc Reason → ℕ → Side → Client C Rules Doc Reason
  cursor_set c p side = record c { cursors = c.cursors ++ cursor p side ∷ [] }

  -- the message of this number, counted from 1
  abbrev pub message_at : Client C Rules Doc Reason → ℕ → Option (Message C)
  message_at c j = slice_get c.messages (j - 1)

  -- the answer of this number, counted from 1
  abbrev pub answer_at : Client C Rules Doc Reason → ℕ → Option (Answer C Rules Doc Reason)
  answer_at c i = slice_get c.answers (i - 1)

  -- the first k pending steps are confirmed, and give this base
  abbrev pub confirmed : Client C Rules Doc Reason → ℕ → Doc → Client C Rules Doc Reason
  confirmed c k base = record c { version = c.version + k; base = base; pending = drop k c.pending }

  -- What is told and what the client is with this document. Without a document nothing is done; steps that stand in a log
  -- always give one.
  abbrev pub given : Client C Rules Doc Reason → Option Doc → (Doc → Taken × Client C Rules Doc Reason) → Taken × Client C Rules Doc Reason
  given c None next = (Stale, c)
  given c (Some base) next = next base

-- the error of a cursor that is set at this position of a document of this size: it passes the size, or memory ran out
abbrev pub IsCursorRefusal : ℕ → ℕ → CursorError → Type 0
IsCursorRefusal size p Range = size < p
IsCursorRefusal size p NoCursorMemory = Unit {0}

module _ {Rules Doc Reason C : Type 0} (m : Meaning Rules Doc Reason C) where
  -- Own steps of these changes, which lead to this document, are pending under the next serials. Each cursor goes over their
  -- maps, and this is the history with them.
  abbrev pub gone_on : Client C Rules Doc Reason → List C → Doc → Branches C → Client C Rules Doc Reason
  gone_on c cs doc history =
      let new = named c.name (c.serials + 1) cs in
      record c {
        doc = doc;
        pending = c.pending ++ new;
        serials = c.serials + length cs;
        cursors = moved_over (maps_of m new) c.cursors;
        history = history;
      }

  -- The client once an event of this number was undone, or redone, by what was made. The steps made are an event of the other
  -- branch, which has the same number.
  abbrev pub turned : Client C Rules Doc Reason → Turn → Option ℕ → Undone Doc C → Client C Rules Doc Reason
  turned c turn number w = gone_on c w.made w.doc (undone turn c.history (event_of number (names_in w.items)) w.items)

module _ {Rules Doc Reason C : Type 0} (m : Meaning Rules Doc Reason C) (rules : Rules) where
  -- What steps get that were tried on the client's document: one is refused, or they are made, as steps of an edit with this
  -- event number.
  abbrev pub tried : Client C Rules Doc Reason → List C → Option ℕ → Result Doc (Refusal Reason) → Result (Client C Rules Doc Reason) (Refusal Reason)
  tried c cs event (Ok doc) =
      Ok (gone_on m c cs doc (trimmed (noted_all c.history (items_from m rules c.doc (edit_steps (named c.name (c.serials + 1) cs))) (Edit event true))))
  tried c cs event (Err e) = Err e

  -- The client once these steps were made, one after another, or the first of them that does not apply to the document
  -- that the ones before it give.
  abbrev pub edited : Client C Rules Doc Reason → List C → Option ℕ → Result (Client C Rules Doc Reason) (Refusal Reason)
  edited c cs event = tried c cs event (run m rules c.doc 0 (named c.name (c.serials + 1) cs))

  -- How many steps undoing this event makes, and the client after it.
  abbrev pub event_turned : Client C Rules Doc Reason → Turn → Event → ℕ × Client C Rules Doc Reason
  event_turned c turn e =
      let w = undo_event m rules c.name e.names c.history.items c.doc (c.serials + 1) in
      (length w.made, turned m c turn e.number w)

  -- the same of the event that is taken, unless there is none
  abbrev pub turned_if : Client C Rules Doc Reason → Turn → Option Event → Option (ℕ × Client C Rules Doc Reason)
  turned_if c turn None = None
  turned_if c turn (Some e) = Some (event_turned c turn e)

  -- The last event is undone.
  abbrev pub undone_last : Client C Rules Doc Reason → Option (ℕ × Client C Rules Doc Reason)
  undone_last c = turned_if c Undo (event_for Undo c.history)

  -- The last event that was undone is redone.
  abbrev pub redone_last : Client C Rules Doc Reason → Option (ℕ × Client C Rules Doc Reason)
  redone_last c = turned_if c Redo (event_for Redo c.history)

  -- The last event to undo that has this number is undone.
  abbrev pub undone_event : Client C Rules Doc Reason → ℕ → Option (ℕ × Client C Rules Doc Reason)
  undone_event c k = turned_if c (UndoEvent k) (event_for (UndoEvent k) c.history)

  -- an edit's error is the refusal, or running out of memory
  abbrev pub IsRefusal : Result (Client C Rules Doc Reason) (Refusal Reason) → EditError Reason → Type 0
  IsRefusal r (RefusedAt index reason) = r ≡ Err (record { index = index; reason = reason })
  IsRefusal r NoMemory = Unit {0}

  -- the first k pending steps are in the log, and nothing else past the version
  abbrev pub confirmed_first : Client C Rules Doc Reason → ℕ → Taken × Client C Rules Doc Reason
  confirmed_first c k = given c (fold m rules c.base (changes_of (take k c.pending))) (λ base. (Confirmed k, confirmed c k base))

  -- The pending steps after the first `own`, carried over others' steps that lead to this base.
  abbrev pub carried : Client C Rules Doc Reason → ℕ → List (Named C) → Doc → Rebasing C Rules Doc Reason
  carried c own foreign base = rebased m rules (start m base (maps_of m foreign)) (drop own c.pending)

  -- The log goes on by so many own steps, which are the first pending ones, and these foreign ones, which give this base, and
  -- over which the later pending steps were carried so. The serials lost are among those dropped, each cursor goes over the
  -- whole mapping, and the foreign steps and the steps kept stand in the history for the later pending ones.
  abbrev pub brought : Client C Rules Doc Reason → ℕ → List (Named C) → Doc → Rebasing C Rules Doc Reason → Client C Rules Doc Reason
  brought c own foreign base r = record c {
    version = c.version + (own + length foreign);
    base = base;
    doc = r.doc;
    pending = r.kept;
    dropped = merged c.dropped r.dropped;
    cursors = moved_over r.maps c.cursors;
    history = carried_history c.history (length c.pending - own) (ranges_of m foreign) r.items;
  }

  -- These entries past the version have so many own ones at the front, which are the first pending steps, and others after
  -- them. The later pending steps are carried over the others.
  abbrev pub others_taken : Client C Rules Doc Reason → List (Named C) → ℕ → Taken × Client C Rules Doc Reason
  others_taken c rest own =
      given c (fold m rules c.base (changes_of rest))
      (λ base.
      let r = carried c own (drop own rest) base in
      (Rebased own (length rest - own) (length r.dropped), brought c own (drop own rest) base r))

  -- These entries past the version have so many own ones at the front. Where there are no others, these are confirmed.
  abbrev pub rest_taken : Client C Rules Doc Reason → List (Named C) → ℕ → Taken × Client C Rules Doc Reason
  rest_taken c rest own = if own == length rest then confirmed_first c own else others_taken c rest own

  -- What taking an answer tells, and the client after it. An answer that holds nothing past the version is stale.
  abbrev pub taken : Client C Rules Doc Reason → Answer C Rules Doc Reason → Taken × Client C Rules Doc Reason
  taken c (Accepted from count) = if nat_le (from + count) c.version then (Stale, c) else confirmed_first c count
  taken c (WrongVersion size) = (Refused, c)
  taken c (StepRefused index reason) = (Refused, c)
  taken c (Entries since entries) =
      if nat_le (since + length entries) c.version
      then (Stale, c)
      else (let rest = drop (c.version - since) entries in rest_taken c rest (own_run c.name rest))

  -- an answer that was never kept holds nothing
  abbrev pub taken_if : Client C Rules Doc Reason → Option (Answer C Rules Doc Reason) → Taken × Client C Rules Doc Reason
  taken_if c None = (Stale, c)
  taken_if c (Some answer) = taken c answer

  -- what taking the answer of this number tells, and the client after it
  abbrev pub taken_at : Client C Rules Doc Reason → ℕ → Taken × Client C Rules Doc Reason
  taken_at c i = taken_if c (answer_at c i)
