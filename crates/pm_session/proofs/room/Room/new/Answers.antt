use Rattle.std.proofs.Common.{◌∙◌, ap, drop, rules, ◌+◌, ◌++◌}
use Rattle.std.proofs.lemmas.List.{drop_more}
use Rattle.pm_session.specs.Sessions.{new_members}
use Rattle.pm_session.proofs.Opening.{new-next, all-new, opened-is, opened-sound}
use Rattle.pm_session.proofs.room.Room.new.Goals as goal

pub loop-is_raw-preserved : goal.loop-is_raw-preserved
loop-is_raw-preserved g c =
    let k = c.loop-is_raw.is_raw-index in
    let raw = c.args.raw.now in
    record {
      counted = search rules;
      members = ap (λ l. l ++ new_members c.args.doc (k + 1) (drop (k + 1) raw)) c.in_ok-push.ensures.items
          ∙ new-next c.args.doc c.loop-is_raw.members.items k raw _ _ c.in_ok-new_member.field-0 c.in_ok-new_member.ensures (search rules) (search (rules, drop_more))
          ∙ c.loop-is_raw.invariant.members;
    }

pub returns-clause-opens : goal.returns-clause-opens
returns-clause-opens g c =
    let members = all-new c.args.doc c.loop-is_raw.members.items c.loop-is_raw.is_raw-index c.args.raw.now (search rules) c.loop-is_raw.invariant.members in
    opened-is c.args.doc c.in_ok-new.field-0 c.loop-is_raw.members.items c.args.raw.now members c.in_ok-new.ensures.first c.in_ok-new.ensures.doc c.in_ok-new.ensures.log

pub returns-clause-sound : goal.returns-clause-sound
returns-clause-sound g c =
    let members = all-new c.args.doc c.loop-is_raw.members.items c.loop-is_raw.is_raw-index c.args.raw.now (search rules) c.loop-is_raw.invariant.members in
    let is = opened-is c.args.doc c.in_ok-new.field-0 c.loop-is_raw.members.items c.args.raw.now members c.in_ok-new.ensures.first c.in_ok-new.ensures.doc c.in_ok-new.ensures.log in
    rw is (opened-sound c.args.doc g.C.Change.means c.args.rules.now c.args.raw.now c.requires.good)
