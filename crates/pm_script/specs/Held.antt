-- What a session that is read holds, where every client is there from the first line on, and where clients may come late.
use Rattle.std.specs.Prelude.{◌≤◌, ◌<◌, [], length}
use Rattle.pm_tokens.specs.Faults.{Valid}
use Rattle.pm_schema.specs.Documents.{documents_of}
use Rattle.pm_head.specs.Clients.{raw_flags}
use Rattle.pm_session.specs.Suits.{AllSuit}
use Rattle.pm_versions.specs.Suiting.{AllSuitLate}
use Rattle.pm_script.specs.declared.session.Session.{Session}

-- Its first document is valid. It has from 1 to 32 clients. Each op line names one of them, and it is a `forge` exactly where
-- that client is raw. The message or the answer that it names was composed or got on an earlier line.
pub record Holds (s : Session) : Type 0 where
  pub valid : Valid (documents_of s.head.schema.spec) s.head.doc
  pub some : 0 < length s.head.clients
  pub few : length s.head.clients ≤ 32
  pub suit : AllSuit (raw_flags s.head.clients) [] s.lines

-- The same where clients may come late, but that a line may also enter. Then it is an editor's, and that client's first one.
pub record HoldsLate (s : Session) : Type 0 where
  pub valid : Valid (documents_of s.head.schema.spec) s.head.doc
  pub some : 0 < length s.head.clients
  pub few : length s.head.clients ≤ 32
  pub suit : AllSuitLate (raw_flags s.head.clients) [] s.lines
