-- A node that was looked for at a position.
use Rattle.std.specs.Prelude.{◌≡◌, ℕ, Option, Some, None}
use Rattle.pm_tokens.specs.Tokens.{Doc}
use Rattle.pm_node.specs.Documents.{doc_of}
use Rattle.pm_edit.specs.declared.nodes.Found.{Found}
use Rattle.pm_edit.specs.Nodes.{node_at, behind}

-- this node begins there, and ends there
pub record IsFound (d : Doc) (pos : ℕ) (found : Found) : Type 0 where
  pub node : node_at d pos ≡ Some (doc_of found.node.now)
  pub end : found.end ≡ behind pos (doc_of found.node.now)

-- it was found, or there is none
abbrev pub Finds : Doc → ℕ → Option Found → Type 0
Finds d pos None = node_at d pos ≡ None
Finds d pos (Some found) = IsFound d pos found
