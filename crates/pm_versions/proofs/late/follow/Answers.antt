use Rattle.std.proofs.Common.{rules, ◌≡◌, ◌+◌, ◌∷◌, ◌++◌, [], take, drop, sym, ap, subst, ◌∙◌, append_assoc}
use Rattle.std.proofs.lemmas.List.{drop_more, take_more, take-append-drop}
use Rattle.pm_authority.specs.Runs.{AllApply}
use Rattle.pm_versions.proofs.Parts.{applied-good, applies-first, same-ok}
use Rattle.pm_versions.proofs.late.follow.Goals as goal

pub applied-requires-clause-good : goal.applied-requires-clause-good
applied-requires-clause-good g c =
    let v = c.loop-step.versions in
    let kept = c.loop-step.invariant.kept in
    rw c.doc.ensures (applied-good g.C.Change.means c.args.rules.now g.met.C.Change.laws v.first v.doc v.log kept.first_good kept.folded)

pub applied-requires-clause-applies : goal.applied-requires-clause-applies
applied-requires-clause-applies g c =
    let m = g.C.Change.means in
    let rules_now = c.args.rules.now in
    let i = c.loop-step.step-index in
    let steps = c.args.steps.now in
    let v = c.loop-step.versions in
    let rest : drop i steps ≡ c.step-item.result ∷ drop (i + 1) steps = search (rules, drop_more) in
    let end = c.loop-step.invariant.applies.0 in
    let f = applies-first m rules_now v.doc end c.step-item.result (drop (i + 1) steps) (subst (λ l. AllApply m rules_now v.doc l end) rest c.loop-step.invariant.applies.1) in
    rw c.doc.ensures (f.0, f.1)

pub returns-in_err-after-clause-front : goal.returns-in_err-after-clause-front
returns-in_err-after-clause-front g c =
    let i = c.loop-step.step-index in
    (take i c.args.steps.now, drop i c.args.steps.now, take-append-drop i c.args.steps.now, c.loop-step.invariant.log)

pub returns-in_err-push-clause-front : goal.returns-in_err-push-clause-front
returns-in_err-push-clause-front g c =
    let i = c.loop-step.step-index in
    (take i c.args.steps.now, drop i c.args.steps.now, take-append-drop i c.args.steps.now, ap (λ v. v.log) c.in_err-push.ensures.err ∙ c.loop-step.invariant.log)

pub returns-clause-front : goal.returns-clause-front
returns-clause-front g c =
    let i = c.loop-step.step-index in
    (take i c.args.steps.now, drop i c.args.steps.now, take-append-drop i c.args.steps.now, c.loop-step.invariant.log)

pub loop-step-preserved : goal.loop-step-preserved
loop-step-preserved g c =
    let m = g.C.Change.means in
    let rules_now = c.args.rules.now in
    let i = c.loop-step.step-index in
    let steps = c.args.steps.now in
    let x = c.step-item.result in
    let v = c.loop-step.versions in
    let rest : drop i steps ≡ x ∷ drop (i + 1) steps = search (rules, drop_more) in
    let front : take (i + 1) steps ≡ take i steps ++ x ∷ [] = search (rules, take_more) in
    let end = c.loop-step.invariant.applies.0 in
    let f = applies-first m rules_now v.doc end x (drop (i + 1) steps) (subst (λ l. AllApply m rules_now v.doc l end) rest c.loop-step.invariant.applies.1) in
    let made = ap (λ d. m.outcome rules_now x.change d) (sym c.doc.ensures) ∙ c.in_ok-after.ensures in
    let next : c.push.new.self.doc ≡ f.0 = c.in_ok-push.ensures.doc ∙ same-ok _ c.in_ok-after.after f.0 made f.1 in
    record {
      kept = c.in_ok-push.ensures.kept;
      first = c.in_ok-push.ensures.first ∙ c.loop-step.invariant.first;
      applies = (end, subst (λ d. AllApply m rules_now d (drop (i + 1) steps) end) (sym next) f.2);
      log = c.in_ok-push.ensures.log ∙ ap (λ l. l ++ x ∷ []) c.loop-step.invariant.log ∙ append_assoc c.args.versions.now.log (take i steps) (x ∷ [])
          ∙ ap (λ l. c.args.versions.now.log ++ l) (sym front);
    }
