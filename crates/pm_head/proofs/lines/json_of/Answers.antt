use Rattle.std.proofs.lemmas.Bool.{false≢true}
use Rattle.serde_json.specs.View.{view}
use Rattle.std.proofs.Common.{sym}
use Rattle.pm_head.proofs.Split.{json_of-some, json_of-none}
use Rattle.pm_head.proofs.lines.json_of.Goals as goal

pub returns-in-Ok : goal.returns-in-Ok
returns-in-Ok c = sym (json_of-some c.args.text.now (view c.in-Ok.value) c.in-Ok.ensures.ok.0 c.in-Ok.ensures.ok.1)

pub returns-else-is_memory : goal.returns-else-is_memory
returns-else-is_memory c = sym (json_of-none c.args.text.now (c.in-Err.ensures.err (λ is. false≢true (c.if-is_memory.ensures.1 is))))
