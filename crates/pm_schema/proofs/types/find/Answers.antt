use Rattle.std.proofs.Common.{◌∙◌, sym}
use Rattle.std.specs.Str.{bytes_eq}
use Rattle.pm_schema.specs.declared.spec.NodeSpec.{NodeSpec}
use Rattle.pm_schema.proofs.Places.{position-map}
use Rattle.pm_schema.proofs.types.find.Goals as goal

pub returns-clause-place : goal.returns-clause-place
returns-clause-place c = c.first_named.ensures.place ∙ sym (position-map (λ n. bytes_eq c.args.name.now n) (λ (n : NodeSpec). n.name) c.args.nodes.now)
