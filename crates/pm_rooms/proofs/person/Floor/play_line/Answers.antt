use Rattle.std.proofs.Common.{rules, ◌<◌, length, slice_index_or, refl, sym, subst}
use Rattle.std.proofs.lemmas.Option.{slice_get_within}
use Rattle.pm_client.proofs.Takings.{get-index, index-get}
use Rattle.pm_session.specs.Sounds.{MemberStands}
use Rattle.pm_session.specs.Suits.{SuitsMember}
use Rattle.pm_workers.specs.Seats.{authority_after, Serves}
use Rattle.pm_rooms.specs.Stands.{IsPlayedBy}
use Rattle.pm_rooms.proofs.person.Floor.play_line.Goals as goal

pub bounds-stands-at : goal.bounds-stands-at
bounds-stands-at g c = slice_get_within c.args.stands.now c.stand_of-at.result c.stand_of-at.ensures.0 c.stand_of-at.ensures.1

pub offset_bounds-stands-at : goal.offset_bounds-stands-at
offset_bounds-stands-at g c =
    let within : c.stand_of-at.result < length c.args.stands.now = slice_get_within c.args.stands.now c.stand_of-at.result c.stand_of-at.ensures.0 c.stand_of-at.ensures.1 in
    search rules

pub play_at-requires-clause-serves : goal.play_at-requires-clause-serves
play_at-requires-clause-serves g c =
    let desks = c.args.self.now.desks.now in
    let line = c.args.line.now in
    let d = slice_index_or desks line.room c.index-self-line.result in
    let by = c.stand_of-at.ensures in
    let ready = c.requires.ready c.stand_of-at.result by.0 d by.1 (index-get desks line.room c.index-self-line.result c.requires.desk) by.2 in
    let read = (get-index c.args.stands.now c.stand_of-at.result by.0 by.1).1 c.index-stands-at.result in
    subst (λ v. Serves g.C.Change.means d v.seat d.opening.rules line.line.client) (sym read) ready.0

pub play_at-requires-clause-suits : goal.play_at-requires-clause-suits
play_at-requires-clause-suits g c =
    let desks = c.args.self.now.desks.now in
    let line = c.args.line.now in
    let d = slice_index_or desks line.room c.index-self-line.result in
    let by = c.stand_of-at.ensures in
    let ready = c.requires.ready c.stand_of-at.result by.0 d by.1 (index-get desks line.room c.index-self-line.result c.requires.desk) by.2 in
    let read = (get-index c.args.stands.now c.stand_of-at.result by.0 by.1).1 c.index-stands-at.result in
    subst (λ v. SuitsMember v.member line.line) (sym read) ready.1

pub play_at-requires-clause-stands : goal.play_at-requires-clause-stands
play_at-requires-clause-stands g c =
    let m = g.C.Change.means in
    let desks = c.args.self.now.desks.now in
    let line = c.args.line.now in
    let d = slice_index_or desks line.room c.index-self-line.result in
    let by = c.stand_of-at.ensures in
    let ready = c.requires.ready c.stand_of-at.result by.0 d by.1 (index-get desks line.room c.index-self-line.result c.requires.desk) by.2 in
    let read = (get-index c.args.stands.now c.stand_of-at.result by.0 by.1).1 c.index-stands-at.result in
    subst (λ v. MemberStands m d.opening.rules d.opening.machine.first (authority_after m d v.seat.seen).log v.member) (sym read) ready.2

pub returns : goal.returns
returns g c =
    let stands = c.args.stands.now in
    let desks = c.args.self.now.desks.now in
    let line = c.args.line.now in
    let at = c.stand_of-at.result in
    let by = c.stand_of-at.ensures in
    let own = slice_index_or stands at c.index-stands-at.result in
    let read = get-index stands at by.0 by.1 in
    let did = c.play_at.ensures in
    record {
      place = at;
      x = own;
      y = c.play_at.new.stand;
      d = slice_index_or desks line.room c.index-self-line.result;
      at = index-get stands at c.index-stands-at.result read.0;
      by = subst (λ v. IsPlayedBy v line) (sym (read.1 c.index-stands-at.result)) by.2;
      desk = index-get desks line.room c.index-self-line.result c.requires.desk;
      new_is = refl;
      room = did.room;
      client = did.client;
      seat = did.seat;
      serves = did.serves;
      stands_on = did.stands;
      acts = did.acts;
    }
