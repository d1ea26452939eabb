use Rattle.std.proofs.Common.{◌∙◌, ap, drop, rules, ◌+◌, ◌++◌}
use Rattle.std.proofs.lemmas.List.{drop_more}
use Rattle.pm_session.specs.Sessions.{new_members}
use Rattle.pm_session.proofs.Opening.{new-next, all-new}
use Rattle.pm_workers.proofs.opening.new_members.Goals as goal

pub loop-is_raw-preserved : goal.loop-is_raw-preserved
loop-is_raw-preserved g c =
    let k = c.loop-is_raw.is_raw-index in
    let raw = c.args.raw.now in
    record {
      counted = search rules;
      members = ap (λ l. l ++ new_members c.args.doc.now (k + 1) (drop (k + 1) raw)) c.in_ok-push.ensures.items
          ∙ new-next c.args.doc.now c.loop-is_raw.members.items k raw _ _ c.in_ok-new_member.field-0 c.in_ok-new_member.ensures (search rules) (search (rules, drop_more))
          ∙ c.loop-is_raw.invariant.members;
    }

pub returns : goal.returns
returns g c = all-new c.args.doc.now c.loop-is_raw.members.items c.loop-is_raw.is_raw-index c.args.raw.now (search rules) c.loop-is_raw.invariant.members
