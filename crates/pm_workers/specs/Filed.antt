-- What has to be known of a session's lines once they are handed out.
use Rattle.std.specs.Prelude.{◌≡◌, ℕ, List, map}
use Rattle.pm_session.specs.declared.line.Line.{Line}
use Rattle.pm_workers.specs.declared.file.File.{File}
use Rattle.pm_workers.specs.Threads.{by_client}

-- the client of each line, and of each of the first n clients the places of its lines with whether each presents a message
pub record IsFileOf {Op C : Type 0} (n : ℕ) (lines : List (Line Op C)) (file : File) : Type 0 where
  pub clients : file.clients.items ≡ map (λ line. line.client) lines
  pub places : map (λ l. l.items) file.places.items ≡ by_client 0 n lines
