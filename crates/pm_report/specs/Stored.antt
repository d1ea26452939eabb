-- What the law of the log says.
use Rattle.std.specs.Prelude.{All}
use Rattle.pm_apply.specs.Changes.{meaning}
use Rattle.pm_tokens.specs.Tokens.{Doc}
use Rattle.pm_schema.specs.declared.schema.Schema.{Schema}
use Rattle.pm_meaning.specs.Steps.{Step}
use Rattle.pm_meaning.specs.declared.reason.Reason.{Reason}
use Rattle.pm_authority.specs.declared.authority.Authority.{Authority}
use Rattle.pm_authority.specs.Kept.{IsKept}
use Rattle.pm_stepjson.specs.Writable.{IsStorable}

-- Each step of the log can be stored, in each authority that keeps what authorities keep: good documents, and a log that leads
-- from the first one to the other.
abbrev pub LogIsStorable : Schema → Type 0
LogIsStorable s = (a : Authority Step Schema Doc Reason) → IsKept meaning s a → All (λ n. IsStorable s.spec n.change) a.log
