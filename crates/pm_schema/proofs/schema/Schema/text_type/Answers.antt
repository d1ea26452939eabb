use Rattle.std.proofs.Common.{◌∙◌, ap, sym, List, ℕ}
use Rattle.std.specs.Prelude.{codes}
use Rattle.pm_schema.specs.Names.{place_of}
use Rattle.pm_schema.proofs.Plain.{plain-attrs}
use Rattle.pm_schema.proofs.schema.Schema.text_type.Goals as goal

pub returns-clause-plain : goal.returns-clause-plain
returns-clause-plain c =
    let self = c.args.self.now in
    plain-attrs self.spec self.text self.text_plain (sym (ap (λ (ns : List (List ℕ)). place_of (codes "text") ns) self.nodes_named) ∙ self.text_named)
