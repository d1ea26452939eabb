use Rattle.std.proofs.Common.{◌≡◌, List, [], string_bytes, subst}
use Rattle.std.specs.Prelude.{IfOk, Some}
use Rattle.pm_told.specs.Showing.{View, positions_of, taken_text}
use Rattle.pm_told.proofs.foreign.own_text.Goals as goal

pub returns : goal.returns
returns c =
    subst (λ (v : View). IfOk c.taken_text.result (λ s. string_bytes s ≡ taken_text c.args.schema.now.spec (Some v) c.args.confirmed (positions_of c.args.cursors.now) [] 0 c.args.version))
    c.nothing.ensures c.taken_text.ensures
