use Rattle.std.proofs.Common.{◌∙◌, sym, ap}
use Rattle.pm_history.specs.Remembers.{live_names}
use Rattle.pm_history.specs.Trims.{live_after}
use Rattle.pm_history.proofs.Settled.{edit_names}
use Rattle.pm_history.proofs.branches.Branches.note_edit.Goals as goal

pub trim-requires-clause-names : goal.trim-requires-clause-names
trim-requires-clause-names g c =
    c.as_slice-4.ensures ∙ c.in_ok-names.ensures ∙ ap (live_after c.args.self.now) c.as_slice-2.ensures
    ∙ edit_names c.args.self.now c.args.event c.args.first c.args.items ∙ ap live_names (sym c.in_ok-put_all.ensures.ok)
