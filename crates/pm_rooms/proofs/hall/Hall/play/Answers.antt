use Rattle.std.proofs.Common.{rules, ◌≡◌, ◌<◌, length, sym, ◌∙◌, subst}
use Rattle.std.proofs.lemmas.Result.{on_ok_weaker, on_err_weaker, IfOk-weaker}
use Rattle.pm_session.specs.Events.{state_of, played}
use Rattle.pm_session.specs.Left.{LeftByLine}
use Rattle.pm_session.specs.Restoring.{Restores}
use Rattle.pm_session.specs.Standing.{CursorsStay}
use Rattle.pm_session.specs.Suits.{SuitsRoom}
use Rattle.pm_rooms.specs.Halls.{hall_of, OfRoom}
use Rattle.pm_rooms.proofs.HallRooms.{some-same, has-room, room-within, rules-within, put_back, put-room, put-sound, put-others}
use Rattle.pm_rooms.proofs.hall.Hall.play.Goals as goal

pub index-rules-requires : goal.index-rules-requires
index-rules-requires g c =
    let hall = c.args.self.now in
    let r = c.args.line.now.room in
    let within : r < length hall.rules.items = rules-within g.C.Change.means hall r c.requires.sound (room-within hall r c.requires.suits.room c.requires.suits.at) in
    search rules

pub index_mut-room-requires : goal.index_mut-room-requires
index_mut-room-requires g c =
    let hall = c.args.self.now in
    let within : c.args.line.now.room < length hall.rooms.items = room-within hall c.args.line.now.room c.requires.suits.room c.requires.suits.at in
    search rules

pub play-requires-clause-sound : goal.play-requires-clause-sound
play-requires-clause-sound g c =
    let m = g.C.Change.means in
    let hall = c.args.self.now in
    let line = c.args.line.now in
    let r = line.room in
    let rules = c.index-rules.result.now in
    let room = c.index_mut-room.result.now in
    let within = room-within hall r c.requires.suits.room c.requires.suits.at in
    let has = has-room hall r rules room (rules-within m hall r c.requires.sound within) within c.index-rules.ensures c.index_mut-room.ensures.value in
    c.requires.sound.sound r rules (state_of room) has

pub play-requires-clause-suits : goal.play-requires-clause-suits
play-requires-clause-suits g c =
    let m = g.C.Change.means in
    let hall = c.args.self.now in
    let line = c.args.line.now in
    let r = line.room in
    let rules = c.index-rules.result.now in
    let room = c.index_mut-room.result.now in
    let within = room-within hall r c.requires.suits.room c.requires.suits.at in
    let has = has-room hall r rules room (rules-within m hall r c.requires.sound within) within c.index-rules.ensures c.index_mut-room.ensures.value in
    let suits = c.requires.suits in
    subst (λ s. SuitsRoom s line.line) (some-same suits.room (state_of room) (sym suits.at ∙ has.room_at)) suits.suits

pub returns-clause-others : goal.returns-clause-others
returns-clause-others g c = put-others c.args.self.now c.args.line.now.room c.play.new.self

pub returns-clause-plays : goal.returns-clause-plays
returns-clause-plays g c =
    let m = g.C.Change.means in
    let hall = c.args.self.now in
    let line = c.args.line.now in
    let r = line.room in
    let rules = c.index-rules.result.now in
    let room = c.index_mut-room.result.now in
    let within = room-within hall r c.requires.suits.room c.requires.suits.at in
    let has = has-room hall r rules room (rules-within m hall r c.requires.sound within) within c.index-rules.ensures c.index_mut-room.ensures.value in
    let new = c.play.new.self in
    let makes = g.K.Maker.makes c.args.maker.now in
    let after = put_back hall r rules room new has in
    IfOk-weaker c.play.result (λ o. (o, state_of new) ≡ played m rules (makes rules) (state_of room) line.line)
    (λ o. OfRoom r (hall_of hall) after (λ rules s t. (o, t) ≡ played m rules (makes rules) s line.line))
    (λ o p. put-room hall r rules room new has (λ rules s t. (o, t) ≡ played m rules (makes rules) s line.line) p) c.play.ensures.plays

pub returns-clause-left : goal.returns-clause-left
returns-clause-left g c =
    let m = g.C.Change.means in
    let hall = c.args.self.now in
    let line = c.args.line.now in
    let r = line.room in
    let rules = c.index-rules.result.now in
    let room = c.index_mut-room.result.now in
    let within = room-within hall r c.requires.suits.room c.requires.suits.at in
    let has = has-room hall r rules room (rules-within m hall r c.requires.sound within) within c.index-rules.ensures c.index_mut-room.ensures.value in
    on_err_weaker c.play.result (put-room hall r rules room c.play.new.self has (λ rules s t. LeftByLine m rules s line.line t)) c.play.ensures.left

pub returns-clause-sound : goal.returns-clause-sound
returns-clause-sound g c =
    let m = g.C.Change.means in
    let hall = c.args.self.now in
    let line = c.args.line.now in
    let r = line.room in
    let rules = c.index-rules.result.now in
    let room = c.index_mut-room.result.now in
    let within = room-within hall r c.requires.suits.room c.requires.suits.at in
    let has = has-room hall r rules room (rules-within m hall r c.requires.sound within) within c.index-rules.ensures c.index_mut-room.ensures.value in
    put-sound hall r rules room c.play.new.self has m c.requires.sound c.play.ensures.sound

pub returns-clause-cursors : goal.returns-clause-cursors
returns-clause-cursors g c =
    let m = g.C.Change.means in
    let hall = c.args.self.now in
    let line = c.args.line.now in
    let r = line.room in
    let rules = c.index-rules.result.now in
    let room = c.index_mut-room.result.now in
    let within = room-within hall r c.requires.suits.room c.requires.suits.at in
    let has = has-room hall r rules room (rules-within m hall r c.requires.sound within) within c.index-rules.ensures c.index_mut-room.ensures.value in
    put-room hall r rules room c.play.new.self has (λ rules s t. CursorsStay m s t) c.play.ensures.cursors

pub returns-clause-restores : goal.returns-clause-restores
returns-clause-restores g c =
    let m = g.C.Change.means in
    let hall = c.args.self.now in
    let line = c.args.line.now in
    let r = line.room in
    let rules = c.index-rules.result.now in
    let room = c.index_mut-room.result.now in
    let within = room-within hall r c.requires.suits.room c.requires.suits.at in
    let has = has-room hall r rules room (rules-within m hall r c.requires.sound within) within c.index-rules.ensures c.index_mut-room.ensures.value in
    on_ok_weaker c.play.result (put-room hall r rules room c.play.new.self has (λ rules s t. Restores m rules s line.line t)) c.play.ensures.restores
