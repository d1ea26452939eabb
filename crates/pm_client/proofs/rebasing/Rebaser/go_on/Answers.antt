use Rattle.std.proofs.Common.{ap, ◌∙◌}
use Rattle.pm_map.specs.Moves.{inverted_ranges}
use Rattle.pm_client.proofs.RebaseLaws.{mirrors}
use Rattle.pm_client.proofs.Rebasers.{back-small, may-carry, carried-as, is-lost, is-refused, is-held, goes-lost, goes-held, told-reason, on-ok-then}
use Rattle.pm_client.proofs.rebasing.Rebaser.go_on.Goals as goal

pub carry-requires : goal.carry-requires
carry-requires g c =
    let r = c.requires in
    may-carry g.C.Change.means c.args.rules.now g.met.C.Change.laws r.0 r.1 c.args.step.now c.args.self.now r.2.0 r.2.1

pub lose-requires : goal.lose-requires
lose-requires g c =
    let may = c.requires.2.0 in
    record {
      small = rw (c.inverted-back.ensures, c.step_map.ensures)
          (back-small g.C.Change.means c.args.rules.now g.met.C.Change.laws c.requires.0 may.applies.0 c.args.step.now may.old_good may.applies.1);
    }

pub hold-requires-clause-small : goal.hold-requires-clause-small
hold-requires-clause-small g c =
    let may = c.requires.2.0 in
    rw (c.inverted-back.ensures, c.step_map.ensures)
    (back-small g.C.Change.means c.args.rules.now g.met.C.Change.laws c.requires.0 may.applies.0 c.args.step.now may.old_good may.applies.1)

pub lose-requires-in-Err-Reason : goal.lose-requires-in-Err-Reason
lose-requires-in-Err-Reason g c =
    let may = c.requires.2.0 in
    record {
      small = rw (c.inverted-back.ensures, c.step_map.ensures)
          (back-small g.C.Change.means c.args.rules.now g.met.C.Change.laws c.requires.0 may.applies.0 c.args.step.now may.old_good may.applies.1);
    }

pub hold-requires-clause-mirrors : goal.hold-requires-clause-mirrors
hold-requires-clause-mirrors g c =
    let m = g.C.Change.means in
    let r = c.requires in
    let some =
    carried-as m c.args.rules.now g.met.C.Change.laws r.0 r.1 c.args.step.now c.args.self.now c.in_ok-change.field-0 r.2.0 r.2.1 c.in_ok-change.ensures ∙ c.in-Some.is in
    rw (c.inverted-back.ensures, c.step_map.ensures) (mirrors m c.args.rules.now g.met.C.Change.laws r.1 c.args.step.now c.in-Some.change some)

pub returns-in-None : goal.returns-in-None
returns-in-None g c =
    let m = g.C.Change.means in
    let rules = c.args.rules.now in
    let laws = g.met.C.Change.laws in
    on-ok-then c.lose.result
    (λ lose.
    goes-lost m rules laws c.args.self.now c.lose.new.self c.args.step.now c.inverted-back.result (c.inverted-back.ensures ∙ ap inverted_ranges c.step_map.ensures) lose
    (λ before so may at.
    is-lost m rules laws so c.args.step.now (carried-as m rules laws before so c.args.step.now c.args.self.now c.in_ok-change.field-0 may at c.in_ok-change.ensures ∙ c.in-None.is)))
    c.lose.ensures

pub returns-in-Err-Reason : goal.returns-in-Err-Reason
returns-in-Err-Reason g c =
    let m = g.C.Change.means in
    let rules = c.args.rules.now in
    let laws = g.met.C.Change.laws in
    on-ok-then c.lose-in-Err-Reason.result
    (λ lose.
    goes-lost m rules laws c.args.self.now c.lose-in-Err-Reason.new.self c.args.step.now c.inverted-back.result (c.inverted-back.ensures ∙ ap inverted_ranges c.step_map.ensures) lose
    (λ before so may at.
    is-refused m rules laws so c.args.step.now c.in-Some.change c.args.self.now c.in-Err-Reason.field-0-0 (m.size before) at
    (carried-as m rules laws before so c.args.step.now c.args.self.now c.in_ok-change.field-0 may at c.in_ok-change.ensures ∙ c.in-Some.is)
    (told-reason (m.outcome rules c.in-Some.change c.args.self.now.doc) c.in-Err-Reason.field-0 c.in-Err-Reason.field-0-0 c.in-Err-Reason.field-0-is c.in-Err-Reason.ensures)))
    c.lose-in-Err-Reason.ensures

pub returns-in-Ok : goal.returns-in-Ok
returns-in-Ok g c =
    let m = g.C.Change.means in
    let rules = c.args.rules.now in
    let laws = g.met.C.Change.laws in
    on-ok-then c.hold.result
    (λ hold.
    goes-held m rules laws c.args.self.now c.hold.new.self c.args.step.now c.inverted-back.result c.in-Some.change c.in-Ok.doc
    (c.inverted-back.ensures ∙ ap inverted_ranges c.step_map.ensures) hold
    (λ before so may at.
    is-held m rules laws so c.args.step.now c.in-Some.change c.in-Ok.doc c.args.self.now (m.size before) at
    (carried-as m rules laws before so c.args.step.now c.args.self.now c.in_ok-change.field-0 may at c.in_ok-change.ensures ∙ c.in-Some.is) c.in-Ok.ensures))
    c.hold.ensures
