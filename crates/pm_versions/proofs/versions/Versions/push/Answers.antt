use Rattle.std.proofs.Common.{◌≡◌, ◌∷◌, ◌++◌, [], sym, ap, subst, ◌∙◌}
use Rattle.pm_versions.specs.Checkpoints.{IsVersions}
use Rattle.pm_versions.proofs.Parts.{pushed-kept}
use Rattle.pm_versions.proofs.versions.Versions.push.Goals as goal

pub returns-clause-kept : goal.returns-clause-kept
returns-clause-kept g c =
    let m = g.C.Change.means in
    let rules_now = c.args.rules.now in
    let v = c.args.self.now in
    let x = c.args.step.now in
    let log : c.push.new.self ≡ v.log ++ x ∷ [] = c.in_ok-push.ensures.ok ∙ ap (λ y. v.log ++ y ∷ []) c.in_ok-copied.ensures in
    subst (λ w. IsVersions m rules_now (record w { doc = c.in_ok-doc.doc })) (sym c.in_default.ensures.marked)
    (rw (log, c.in_ok-doc.ensures) (pushed-kept m rules_now v c.requires.kept x c.args.after.now c.requires.gives))
