use Rattle.std.proofs.Common.{rules, ◌≡◌, take, length, ap, subst, ◌∙◌}
use Rattle.pm_authority.specs.Runs.{AllApply}
use Rattle.pm_session.specs.declared.member.Member.TheVariants.{Editor}
use Rattle.pm_session.specs.Events.{state_of, placed}
use Rattle.pm_versions.specs.Late.{entered}
use Rattle.pm_versions.proofs.Entrances.{entered-is}
use Rattle.pm_versions.proofs.Lates.{entered-late}
use Rattle.pm_versions.proofs.late.LateRoom.enter.Goals as goal

pub returns-clause-kept : goal.returns-clause-kept
returns-clause-kept g c =
    let m = g.C.Change.means in
    let rules_now = c.args.rules.now in
    let l = c.args.self.now in
    let s = state_of l.room in
    let i = c.args.client in
    let a = s.authority in
    let doc = c.in_ok-doc.doc in
    let n = length c.log.result.now in
    let idle = c.requires.idle in
    let log : c.log.result.now ≡ a.log = search rules in
    let long : n ≡ length a.log = ap length log in
    let gives : AllApply m rules_now a.first (take n a.log) doc =
    subst (λ f. AllApply m rules_now f (take n a.log) doc) c.requires.kept.first (subst (λ k. AllApply m rules_now l.versions.first (take n k) doc) c.requires.reached c.in_ok-doc.ensures) in
    let is : state_of c.replace_member.new.self ≡ (entered s i).1 =
    c.replace_member.ensures ∙ ap (λ y. placed s i a (Editor y)) c.in_ok-member.ensures.entered
    ∙ ap (λ p. p.1) (entered-is m rules_now s i idle.0 n doc c.requires.kept.sound.authority idle.1 long gives) in
    entered-late m rules_now l c.replace_member.new.self i c.requires.kept idle is
