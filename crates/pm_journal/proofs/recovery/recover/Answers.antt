use Rattle.std.proofs.Common.{sym, subst, ◌∙◌}
use Rattle.std.proofs.lemmas.Result.{IfErr-weaker}
use Rattle.pm_journal.specs.Lines.{IsAtRest}
use Rattle.pm_journal.proofs.recovery.recover.Goals as goal

pub returns-clause-broken : goal.returns-clause-broken
returns-clause-broken g c =
    IfErr-weaker c.parse.result _ _ (λ e h is clean lines some rests. h is lines some (subst (IsAtRest lines) (sym (c.deref.ensures.value ∙ c.in_ok-bytes.ensures.bytes clean)) rests)) c.parse.ensures.broken
