use Rattle.std.proofs.Common.{◌<◌, ◌++◌, All, length, sym, ap, ap₂, ◌∙◌, subst, arith}
use Rattle.pm_session.specs.Sessions.{new_members}
use Rattle.pm_workers.specs.Filed.{IsFileOf}
use Rattle.pm_workers.specs.Seatings.{seats_for}
use Rattle.pm_workers.proofs.Readying.{new-count, clients-within}
use Rattle.pm_workers.proofs.Unused.{seats-count}
use Rattle.pm_rooms.specs.Opened.{stands_of}
use Rattle.pm_rooms.proofs.opening.open_one.Goals as goal

pub file_of-requires : goal.file_of-requires
file_of-requires g c =
    let room = c.args.room in
    subst (λ l. All (λ line. line.client < c.len.result) l) (sym c.as_slice.ensures.value)
    (subst (λ n. All (λ line. line.client < n) room.lines.items) (sym (c.len.ensures ∙ room.raw.ok.0)) (clients-within _ _ _ _ room.doc room.raw.items room.lines.items c.requires.can.suit))

pub stand_up-requires-clause-few : goal.stand_up-requires-clause-few
stand_up-requires-clause-few g c =
    let s = c.in_ok-desk.field-0 in
    let long = s.members.ok.0 ∙ ap length c.in_ok-desk.ensures.seated.members_are ∙ new-count _ _ _ _ c.args.room.doc c.as_slice-2.result.now ∙ ap length c.as_slice-2.ensures.value in
    omega (arith, long, c.requires.can.few)

pub stand_up-requires-clause-each : goal.stand_up-requires-clause-each
stand_up-requires-clause-each g c =
    let s = c.in_ok-desk.field-0 in
    s.seats.ok.0 ∙ ap length c.in_ok-desk.ensures.seated.seats_are ∙ seats-count _ s.desk (length c.as_slice-2.result.now)
    ∙ sym (s.members.ok.0 ∙ ap length c.in_ok-desk.ensures.seated.members_are ∙ new-count _ _ _ _ c.args.room.doc c.as_slice-2.result.now)

pub returns : goal.returns
returns g c =
    let room = c.args.room in
    let s = c.in_ok-desk.field-0 in
    let n = c.len-number.result in
    let seated = c.in_ok-desk.ensures.seated in
    record {
      d = s.desk;
      file = c.in_ok-file.file;
      desk_is = record { rules = c.in_ok-desk.ensures.rules; opening = seated.opening };
      file_is = subst (λ k. IsFileOf k room.lines.items c.in_ok-file.file) (c.len.ensures ∙ room.raw.ok.0) (subst (λ l. IsFileOf c.len.result l c.in_ok-file.file) c.as_slice.ensures.value c.in_ok-file.ensures);
      desks = c.in_ok-push.ensures.items;
      files = c.in_ok-push-2.ensures.items;
      stands = c.in_ok-stand_up.ensures ∙ ap₂ (λ a b. c.args.all.now.stands.items ++ stands_of n 0 a b) (seated.members_are ∙ ap (new_members room.doc 0) c.as_slice-2.ensures.value) (seated.seats_are ∙ ap (λ l. seats_for s.desk (length l)) c.as_slice-2.ensures.value)
          ∙ ap (λ k. c.args.all.now.stands.items ++ stands_of k 0 (new_members room.doc 0 room.raw.items) (seats_for s.desk (length room.raw.items))) (c.len-number.ensures ∙ c.args.all.now.desks.ok.0);
      people = c.in_ok-push-3.ensures.items;
      lines = c.in_ok-push-4.ensures.items;
    }
