-- The report of a session: what became of each line, how the editors stood, the log, and how all stands in the end.
use Rattle.std.specs.Prelude.{ℕ, ◌+◌, List, [], ◌∷◌, ◌++◌, length, map, codes, decimal, option_map, slice_get, unwrap_or}
use Rattle.serde_json.specs.Written.{compact_text}
use Rattle.pm_tokens.specs.Tokens.{Doc}
use Rattle.pm_schema.specs.declared.schema.Schema.{Schema}
use Rattle.pm_schema.specs.declared.spec.SchemaSpec.{SchemaSpec}
use Rattle.pm_docjson.specs.Writing.{doc_written}
use Rattle.pm_meaning.specs.Steps.{Step}
use Rattle.pm_meaning.specs.declared.reason.Reason.{Reason}
use Rattle.pm_stepjson.specs.Writing.{step_written}
use Rattle.pm_head.specs.declared.clients.ClientEntry.{ClientEntry}
use Rattle.pm_authority.specs.declared.named.Named.{Named}
use Rattle.pm_client.specs.declared.client.Client.{Client}
use Rattle.pm_client.specs.declared.cursors.Cursor.{Cursor}
use Rattle.pm_session.specs.declared.member.Member.{Member}
use Rattle.pm_session.specs.declared.member.Member.TheVariants.{Editor, Raw}
use Rattle.pm_session.specs.Events.{State}
use Rattle.pm_report.specs.Words.{◌&◌, line, list_text}
use Rattle.pm_report.specs.declared.outcomes.Numbered.{Numbered}
use Rattle.pm_report.specs.Outcomes.{outcome_lines}

abbrev pub serial_of : Named Step → ℕ
serial_of step = step.name.serial

-- a cursor's position
abbrev pub place_of : Cursor → ℕ
place_of cursor = cursor.pos

-- the name of client i
abbrev pub name_at : List ClientEntry → ℕ → List ℕ
name_at entries i = unwrap_or (option_map (λ e. e.name) (slice_get entries i)) []

-- name, version, dropped serials and cursors' positions
abbrev pub settled_line : List ℕ → Client Step Schema Doc Reason → List ℕ
settled_line name c = line (codes "settled" & name & decimal c.version & list_text c.dropped & list_text (map place_of c.cursors))

-- an editor's line; a raw client has none
abbrev pub settled_member : List ℕ → Member Step Schema Doc Reason → List ℕ
settled_member name (Editor c) = settled_line name c
settled_member name (Raw number serial) = []

-- what an editor's line says before its document
abbrev pub standing_words : List ℕ → Client Step Schema Doc Reason → List ℕ
standing_words name c = codes "client" & name & decimal c.version & list_text (map serial_of c.pending) & list_text c.dropped & list_text (map place_of c.cursors)

abbrev pub settled_lines : List ClientEntry → ℕ → List (Member Step Schema Doc Reason) → List ℕ
settled_lines entries i [] = []
settled_lines entries i (m ∷ members) = settled_member (name_at entries i) m ++ settled_lines entries (i + 1) members

module _ (s : SchemaSpec) where
  abbrev pub doc_text : Doc → List ℕ
  doc_text doc = compact_text (doc_written s doc)

  abbrev pub step_text : Step → List ℕ
  step_text step = compact_text (step_written s step)

  -- name, version, pending serials, dropped serials, cursors' positions and document
  abbrev pub client_line : List ℕ → Client Step Schema Doc Reason → List ℕ
  client_line name c = line (standing_words name c & doc_text c.doc)

  -- an editor's line; a raw client has none
  abbrev pub member_line : List ℕ → Member Step Schema Doc Reason → List ℕ
  member_line name (Editor c) = client_line name c
  member_line name (Raw number serial) = []

  -- a line for each editor, in order from client i on
  abbrev pub client_lines : List ClientEntry → ℕ → List (Member Step Schema Doc Reason) → List ℕ
  client_lines entries i [] = []
  client_lines entries i (m ∷ members) = member_line (name_at entries i) m ++ client_lines entries (i + 1) members

  -- each entry of the log, counted from 1, with the name of the client that made it
  abbrev pub entry_lines : List ClientEntry → ℕ → List (Named Step) → List ℕ
  entry_lines entries i [] = []
  entry_lines entries i (n ∷ log) = line (decimal i & name_at entries n.name.client & decimal n.name.serial & step_text n.change) ++ entry_lines entries (i + 1) log

  -- the outcomes, the editors before they settle, the log after that, the editors again, and the authority's document
  abbrev pub report : List ClientEntry → List Numbered → State Step Schema Doc Reason → State Step Schema Doc Reason → List ℕ
  report entries outcomes before after =
      outcome_lines outcomes
      ++ client_lines entries 0 before.members
      ++ line (codes "log" & decimal (length after.authority.log))
      ++ entry_lines entries 1 after.authority.log
      ++ settled_lines entries 0 after.members
      ++ line (codes "final" & doc_text after.authority.doc)
