use Rattle.std.proofs.Common.{◌≡◌, ◌∙◌, ℕ, List, string_bytes, ap, subst, length}
use Rattle.std.specs.Prelude.{IfOk}
use Rattle.pm_authority.specs.declared.named.Named.{Named}
use Rattle.pm_client.specs.declared.cursors.Cursor.{Cursor}
use Rattle.pm_meaning.specs.Steps.{Step}
use Rattle.pm_told.specs.Showing.{positions_of}
use Rattle.pm_told.specs.Previews.{back_views, views_by}
use Rattle.pm_told.proofs.Tellings.{told-same}
use Rattle.pm_told.proofs.foreign.brought_text.Goals as goal

pub returns : goal.returns
returns c =
    let p = c.args.preview.now in
    let seen = c.in_ok-shown.ensures ∙ ap (λ (l : List (Named Step)). back_views c.args.later.now c.args.foreign.now l p.back) c.as_slice-kept.ensures in
    subst (λ (l : List ℕ). IfOk c.taken_text.result (λ s. string_bytes s ≡ l))
    (told-same c.args.schema.now.spec c.args.confirmed c.args.version (views_by c.in_ok-shown.shown) (back_views c.args.later.now c.args.foreign.now p.kept p.back)
    (positions_of c.as_slice-cursors.result.now) (positions_of p.cursors) c.as_slice-dropped.result.now p.dropped (length c.args.foreign.now)
    seen (ap (λ (l : List Cursor). positions_of l) c.as_slice-cursors.ensures) c.as_slice-dropped.ensures)
    c.taken_text.ensures
