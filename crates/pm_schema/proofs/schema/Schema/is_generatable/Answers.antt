use Rattle.std.proofs.Common.{◌≡◌, false, List, Bool, slice_index_or, ap, sym, ◌∙◌}
use Rattle.pm_schema.proofs.Rounds.{filled-has}
use Rattle.pm_schema.proofs.schema.Schema.is_generatable.Goals as goal

pub returns-clause-exactly : goal.returns-clause-exactly
returns-clause-exactly c built =
    let k = c.args.kind in
    let g = built.generatable in
    let same : c.as_slice.result.now ≡ c.args.self.now.generatable = c.as_slice.ensures in (
      λ e. g.filled k (ap (λ (t : List Bool). slice_index_or t k false) (sym same) ∙ e),
      λ f. ap (λ (t : List Bool). slice_index_or t k false) same ∙ filled-has c.args.self.now.spec.nodes c.args.self.now.generatable g.closed k f,
    )
