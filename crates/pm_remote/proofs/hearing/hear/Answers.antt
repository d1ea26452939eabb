use Rattle.std.proofs.Common.{◌≡◌, ◌+◌, take, ap, ◌∙◌, subst, refl}
use Rattle.std.proofs.lemmas.List.{take_rest}
use Rattle.pm_authority.specs.Runs.{AllApply}
use Rattle.pm_authority.proofs.RunFolds.{run-fold}
use Rattle.pm_client.specs.Clients.{named}
use Rattle.pm_client.proofs.Keeps.{base-good}
use Rattle.pm_remote.specs.Hearings.{others}
use Rattle.pm_remote.proofs.Applying.{two-apply}
use Rattle.pm_remote.proofs.Confirmings.{own-apply}
use Rattle.pm_remote.proofs.Receivings.{middle-good, later-lead}
use Rattle.pm_remote.proofs.hearing.hear.Goals as goal

pub apply_own-requires-clause-good : goal.apply_own-requires-clause-good
apply_own-requires-clause-good g c =
    let s = c.requires.stands in
    rw c.base.ensures (base-good g.C.Change.means c.args.rules.now s.first s.log c.args.client.now s.kin g.met.C.Change.laws)

pub apply_own-requires-clause-applies : goal.apply_own-requires-clause-applies
apply_own-requires-clause-applies g c =
    rw (c.base.ensures, c.pending.ensures) (own-apply g.C.Change.means c.args.rules.now c.args.client.now c.args.own c.requires.stands.kin.doc_is)

pub apply_all-requires : goal.apply_all-requires
apply_all-requires g c =
    let at = rw (c.base.ensures, c.pending.ensures) at c.in_ok-middle.ensures in
    middle-good g.C.Change.means c.args.rules.now g.met.C.Change.laws c.args.client.now c.requires.stands c.args.own c.in_ok-middle.middle at

pub take_back-requires-clause-good : goal.take_back-requires-clause-good
take_back-requires-clause-good g c =
    let at = rw (c.base.ensures, c.pending.ensures) at c.in_ok-middle.ensures in
    middle-good g.C.Change.means c.args.rules.now g.met.C.Change.laws c.args.client.now c.requires.stands c.args.own c.in_ok-middle.middle at

pub take_back-requires-clause-leads : goal.take_back-requires-clause-leads
take_back-requires-clause-leads g c =
    let at = rw (c.base.ensures, c.pending.ensures) at c.in_ok-middle.ensures in
    rw (take_rest c.pending-2.result.now c.args.own, c.pending-2.ensures, c.doc.ensures)
    (later-lead g.C.Change.means c.args.rules.now g.met.C.Change.laws c.args.client.now c.requires.stands c.args.own c.in_ok-middle.middle at)

pub returns-clause-news : goal.returns-clause-news
returns-clause-news g c =
    let m = g.C.Change.means in
    let rules = c.args.rules.now in
    let client = c.args.client.now in
    let own = c.args.own in
    let middle = c.in_ok-middle.middle in
    let at = rw (c.base.ensures, c.pending.ensures) at c.in_ok-middle.ensures in
    let items = c.args.foreign.items in
    let passed : c.in_ok-passed.passed ≡ client.version + own = c.in_ok-passed.ensures.sum ∙ ap (λ v. v + own) c.version.ensures in
    let are : c.in_ok-others.others ≡ others client c.args.other own items = c.in_ok-others.ensures ∙ ap (λ n. named c.args.other (n + 1) items) passed in
    let ran = run-fold m rules middle c.in-Ok.end 0 c.as_slice.result.now c.in-Ok.ensures in
    let on : AllApply m rules middle (others client c.args.other own items) c.in-Ok.end =
    subst (λ l. AllApply m rules middle l c.in-Ok.end) (c.as_slice.ensures ∙ are) ran in
    record {
      entries_are = rw (c.in_ok-append.ensures.ok, c.in_ok-entries.ensures, are, c.pending.ensures) refl;
      middle = middle;
      middle_is = at;
      leads = two-apply m rules client.base middle c.in-Ok.end (take own client.pending) (others client c.args.other own items) at on;
      back_is = rw (take_rest c.pending-2.result.now own, c.pending-2.ensures, c.doc.ensures) at c.in_ok-back.ensures;
    }
