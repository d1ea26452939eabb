use Rattle.std.proofs.Common.{◌∙◌, ap, List, ℕ}
use Rattle.pm_schema.specs.Names.{place_of}
use Rattle.pm_schema.specs.Types.{names_of_marks}
use Rattle.pm_schema.proofs.Differ.{mark-found}
use Rattle.pm_schema.proofs.schema.Schema.mark_name.Goals as goal

pub returns-clause-found : goal.returns-clause-found
returns-clause-found c =
    ap (λ (n : List ℕ). place_of n (names_of_marks c.args.self.now.spec)) c.name_of_mark.ensures ∙ mark-found c.args.self.now.spec c.args.mark c.requires c.args.self.now.names_differ
