use Rattle.std.proofs.Common.{◌≡◌, ◌<◌, ◌^◌, All, length, map, vec_len, sym, ap, ◌∙◌, subst}
use Rattle.pm_workers.proofs.MergeLaws.{length-map}
use Rattle.pm_rooms.specs.Handed.{Matched}
use Rattle.pm_workers.specs.Threads.{dealt}
use Rattle.pm_rooms.specs.Opened.{all_stands, IsRoomFile}
use Rattle.pm_rooms.specs.People.{IsPersonReady}
use Rattle.pm_rooms.specs.Played.{AllPeopleWorked, HallPlayed, StandPlayed}
use Rattle.pm_rooms.proofs.Wholes.{people-ready, all-can-part, turns-within, all-dealt}
use Rattle.pm_rooms.proofs.threaded.play_rooms_on_threads.Goals as goal

pub interleave-requires : goal.interleave-requires
interleave-requires g c =
    let o = c.in_ok-desks.field-0 in
    subst (λ n. n < 2 ^ 32) (sym (o.lines.ok.0 ∙ ap length c.in_ok-desks.ensures.lines ∙ length-map (λ room. room.lines) c.args.rooms.items ∙ sym c.args.rooms.ok.0)) c.requires.few

pub play_all_people-requires-after_bounds : goal.play_all_people-requires-after_bounds
play_all_people-requires-after_bounds g c κs within =
    let m = g.C.Change.means in
    let rooms = c.args.rooms.items in
    let o = c.in_ok-desks.field-0 in
    let opened = c.in_ok-desks.ensures in
    let lines = c.in_ok-lines.lines.items in
    let there : All (λ line. line.room < length o.lines.items) lines = subst (λ n. All (λ line. line.room < n) lines) o.lines.ok.0 c.in_ok-lines.ensures.there in
    let crowd = c.in_ok-people.field-0 in
    let people = map (λ l. l.items) c.as_slice.result.now in
    let shared = c.in_ok-people.ensures in
    subst (λ l. All (λ p. IsPersonReady m l p) crowd.people.items) (sym c.as_slice-2.ensures.value) (people-ready m rooms c.requires.can o opened lines c.in_ok-lines.ensures.rooms there crowd people shared)

pub part_all-requires : goal.part_all-requires
part_all-requires g c =
    let m = g.C.Change.means in
    let rooms = c.args.rooms.items in
    let o = c.in_ok-desks.field-0 in
    let opened = c.in_ok-desks.ensures in
    let lines = c.in_ok-lines.lines.items in
    let there : All (λ line. line.room < length o.lines.items) lines = subst (λ n. All (λ line. line.room < n) lines) o.lines.ok.0 c.in_ok-lines.ensures.there in
    let crowd = c.in_ok-people.field-0 in
    let people = map (λ l. l.items) c.as_slice.result.now in
    let shared = c.in_ok-people.ensures in
    let makes = g.K.Maker.makes c.args.crew.now.maker.now in
    let new = c.play_all_people.new.people.items in
    let did : AllPeopleWorked m o.desks.items makes crowd.people.items new = subst (λ l. AllPeopleWorked m l makes crowd.people.items new) c.as_slice-2.ensures.value c.in_ok-play_all_people.ensures in
    all-can-part m rooms c.requires.can o opened lines c.in_ok-lines.ensures.rooms there crowd people shared makes new did.count did.finished did.worked

pub deal-requires : goal.deal-requires
deal-requires g c =
    let m = g.C.Change.means in
    let rooms = c.args.rooms.items in
    let o = c.in_ok-desks.field-0 in
    let opened = c.in_ok-desks.ensures in
    let lines = c.in_ok-lines.lines.items in
    let there : All (λ line. line.room < length o.lines.items) lines = subst (λ n. All (λ line. line.room < n) lines) o.lines.ok.0 c.in_ok-lines.ensures.there in
    let crowd = c.in_ok-people.field-0 in
    let people = map (λ l. l.items) c.as_slice.result.now in
    let shared = c.in_ok-people.ensures in
    let makes = g.K.Maker.makes c.args.crew.now.maker.now in
    let new = c.play_all_people.new.people.items in
    let did : AllPeopleWorked m o.desks.items makes crowd.people.items new = subst (λ l. AllPeopleWorked m l makes crowd.people.items new) c.as_slice-2.ensures.value c.in_ok-play_all_people.ensures in
    let w = c.in_ok-workers.workers in
    subst (λ l. All (λ turn. turn < vec_len w) l) (sym c.as_slice-3.ensures.value)
    (subst (λ n. All (λ turn. turn < n) crowd.turns.items) (length-map (λ l. l.items) w.items ∙ sym w.ok.0) (turns-within m rooms c.requires.can o opened lines c.in_ok-lines.ensures.rooms there crowd people shared makes new did.count did.finished did.worked c.in_ok-workers.workers.items c.in_ok-workers.ensures))

pub close_all-requires : goal.close_all-requires
close_all-requires g c =
    let m = g.C.Change.means in
    let rooms = c.args.rooms.items in
    let o = c.in_ok-desks.field-0 in
    let opened = c.in_ok-desks.ensures in
    let lines = c.in_ok-lines.lines.items in
    let there : All (λ line. line.room < length o.lines.items) lines = subst (λ n. All (λ line. line.room < n) lines) o.lines.ok.0 c.in_ok-lines.ensures.there in
    let crowd = c.in_ok-people.field-0 in
    let people = map (λ l. l.items) c.as_slice.result.now in
    let shared = c.in_ok-people.ensures in
    let makes = g.K.Maker.makes c.args.crew.now.maker.now in
    let new = c.play_all_people.new.people.items in
    let did : AllPeopleWorked m o.desks.items makes crowd.people.items new = subst (λ l. AllPeopleWorked m l makes crowd.people.items new) c.as_slice-2.ensures.value c.in_ok-play_all_people.ensures in
    let parted = c.in_ok-workers.workers.items in
    let back = c.in_ok-workers-2.workers.items in
    let is : dealt crowd.turns.items (map (λ l. l.items) parted) ≡ back = sym (c.in_ok-workers-2.ensures ∙ ap (λ t. dealt t (map (λ l. l.items) parted)) c.as_slice-3.ensures.value) in
    let p : HallPlayed m o.desks.items c.as_slice-4.result.now back = record {
      makes = makes;
      rooms = rooms;
      can = c.requires.can;
      desks_are = opened.desks;
      filed = subst (λ l. Matched (λ room file. IsRoomFile room file) rooms l) (sym c.as_slice-4.ensures.value) opened.filed;
      played = subst (λ l. Matched (λ x v. StandPlayed m makes rooms o.desks.items x v) (all_stands 0 rooms o.desks.items) l) is
          (all-dealt m rooms c.requires.can o opened lines c.in_ok-lines.ensures.rooms there crowd people shared makes new did.count did.finished did.worked parted c.in_ok-workers.ensures);
    } in
    p

pub returns : goal.returns
returns g c =
    let m = g.C.Change.means in
    let rooms = c.args.rooms.items in
    let o = c.in_ok-desks.field-0 in
    let opened = c.in_ok-desks.ensures in
    let lines = c.in_ok-lines.lines.items in
    let there : All (λ line. line.room < length o.lines.items) lines = subst (λ n. All (λ line. line.room < n) lines) o.lines.ok.0 c.in_ok-lines.ensures.there in
    let crowd = c.in_ok-people.field-0 in
    let people = map (λ l. l.items) c.as_slice.result.now in
    let shared = c.in_ok-people.ensures in
    let makes = g.K.Maker.makes c.args.crew.now.maker.now in
    let new = c.play_all_people.new.people.items in
    let did : AllPeopleWorked m o.desks.items makes crowd.people.items new = subst (λ l. AllPeopleWorked m l makes crowd.people.items new) c.as_slice-2.ensures.value c.in_ok-play_all_people.ensures in
    let parted = c.in_ok-workers.workers.items in
    let back = c.in_ok-workers-2.workers.items in
    let is : dealt crowd.turns.items (map (λ l. l.items) parted) ≡ back = sym (c.in_ok-workers-2.ensures ∙ ap (λ t. dealt t (map (λ l. l.items) parted)) c.as_slice-3.ensures.value) in
    let p : HallPlayed m o.desks.items c.as_slice-4.result.now back = record {
      makes = makes;
      rooms = rooms;
      can = c.requires.can;
      desks_are = opened.desks;
      filed = subst (λ l. Matched (λ room file. IsRoomFile room file) rooms l) (sym c.as_slice-4.ensures.value) opened.filed;
      played = subst (λ l. Matched (λ x v. StandPlayed m makes rooms o.desks.items x v) (all_stands 0 rooms o.desks.items) l) is
          (all-dealt m rooms c.requires.can o opened lines c.in_ok-lines.ensures.rooms there crowd people shared makes new did.count did.finished did.worked parted c.in_ok-workers.ensures);
    } in
    c.close_all.ensures p
