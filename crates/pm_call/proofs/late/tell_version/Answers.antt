use Rattle.std.proofs.Common.{◌≡◌, ap, ◌∙◌}
use Rattle.pm_tokens.specs.Tokens.{Doc}
use Rattle.pm_schema.specs.declared.schema.Schema.{Schema}
use Rattle.pm_meaning.specs.Steps.{Step}
use Rattle.pm_meaning.specs.declared.reason.Reason.{Reason}
use Rattle.pm_apply.specs.Changes.{meaning}
use Rattle.pm_session.specs.Events.{state_of}
use Rattle.pm_session.specs.Sessions.{settled}
use Rattle.pm_versions.specs.declared.versions.Versions.{Versions}
use Rattle.pm_call.specs.LatePlaying.{late_playing}
use Rattle.pm_call.proofs.LateReports.{late-suits, version-told}
use Rattle.pm_call.proofs.late.tell_version.Goals as goal

pub play_all-requires-clause-suit : goal.play_all-requires-clause-suit
play_all-requires-clause-suit c = rw (c.in_ok-late.ensures.opens, c.as_slice-lines.ensures) (late-suits c.args.session.now c.requires)

pub returns : goal.returns
returns c =
    let s = c.args.session.now in
    let l = c.settle.new.self in
    let played : state_of c.play_all.new.self.room ≡ (late_playing s).1 = rw (c.in_ok-late.ensures.opens, c.as_slice-lines.ensures) at c.in_ok-outcomes.ensures.room in
    let told = c.versions.result.now in
    let first = ap (λ (v : Versions Step Schema Doc Reason). v.first) c.versions.ensures ∙ c.settle.ensures.kept.first in
    let log = ap (λ (v : Versions Step Schema Doc Reason). v.log) c.versions.ensures ∙ c.in_ok-settle.ensures.reached in
    version-told s c.requires.valid (late-suits s c.requires) (state_of l.room) told.first told.log c.args.n c.version_text.result
    (c.in_ok-settle.ensures.settles ∙ ap (settled meaning s.head.schema) played) first log c.version_text.ensures
