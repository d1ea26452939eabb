-- A session whose clients have threads of their own: the order in which its lines count as played, and its report.
use Rattle.std.specs.Prelude.{◌≡◌, ℕ, List, [], ◌∷◌, ◌++◌, length, map, codes, decimal}
use Rattle.std.specs.List.Sorted.{IsPermutation, IsNonDecreasingBy}
use Rattle.pm_schema.specs.declared.schema.Schema.{Schema}
use Rattle.pm_meaning.specs.Steps.{Step}
use Rattle.pm_apply.specs.Changes.{meaning}
use Rattle.pm_head.specs.declared.clients.ClientEntry.{ClientEntry}
use Rattle.pm_ops.specs.declared.op.Op.{Op}
use Rattle.pm_session.specs.declared.line.Line.{Line}
use Rattle.pm_session.specs.Sessions.{settled}
use Rattle.pm_workers.specs.Merges.{ClientLine, numbers, merged, IsOrder}
use Rattle.pm_workers.specs.Threads.{by_client, callers, in_order}
use Rattle.pm_script.specs.declared.session.Session.{Session}
use Rattle.pm_report.specs.Words.{line}
use Rattle.pm_report.specs.declared.outcomes.Numbered.{Numbered}
use Rattle.pm_report.specs.Outcomes.{with_numbers}
use Rattle.pm_report.specs.Report.{report}
use Rattle.pm_call.specs.Playing.{Room, LineOutcome, playing}
use Rattle.pm_call.specs.Sounds.{RoomsSound}

-- each client's lines: their places in the file, from 0, each with whether the line presents a message
abbrev pub clients_lines : Session → List (List ClientLine)
clients_lines s = by_client 0 (length s.head.clients) s.lines

-- the session with its lines in this order, which lists their places in the file
abbrev pub reordered : Session → List ℕ → Session
reordered s order = record { head = s.head; lines = in_order s.lines order }

-- the numbers of these lines in the file, a blank before each
abbrev pub number_words : List (Line Op Step) → List ℕ
number_words [] = []
number_words (l ∷ lines) = (32 ∷ decimal l.number) ++ number_words lines

-- the line `order`
abbrev pub order_line : List (Line Op Step) → List ℕ
order_line lines = line (codes "order" ++ number_words lines)

-- the outcomes of these lines with their numbers, as a report tells them: in increasing order of the numbers
pub record InFileOrder (lines : List (Line Op Step)) (outcomes : List LineOutcome) (told : List Numbered) : Type 0 where
  pub all : IsPermutation (with_numbers lines outcomes) told
  pub increasing : IsNonDecreasingBy (λ o. o.number) told

-- the text of lines that were played in this order, with these outcomes and this room after the last: the line `order`, and
-- the report
pub record IsTold (clients : List ClientEntry) (schema : Schema) (lines : List (Line Op Step)) (outcomes : List LineOutcome) (room : Room) (text : List ℕ) : Type 0 where
  pub told : List Numbered
  pub in_order : InFileOrder lines outcomes told
  pub written : text ≡ order_line lines ++ report schema.spec clients told room (settled meaning schema room)

-- The text is that of the session in an order of its lines.
-- `once`: each line stands in the order once, and each client's lines stand in their order.
-- `merges`: the order is what the calls of its own presenting lines make of the clients' lines. For each call the lines of
-- the call's client that are not listed yet, up to and with the one that made the call; in the end the others.
-- `sound`: the rooms of the session in that order are sound.
-- `told`: the text is what the session comes to in that order.
pub record IsRun (s : Session) (text : List ℕ) : Type 0 where
  pub order : List ℕ
  pub once : IsOrder (map numbers (clients_lines s)) order
  pub merges : order ≡ merged (callers (in_order s.lines order)) (clients_lines s)
  pub sound : RoomsSound (reordered s order)
  pub told : IsTold s.head.clients s.head.schema (in_order s.lines order) (playing (reordered s order)).0 (playing (reordered s order)).1 text
