use Rattle.std.proofs.Common.{rules, ◌≡◌, ◌<◌, ◌≤◌, length, refl, sym, subst, arith}
use Rattle.pm_session.specs.Events.{state_of}
use Rattle.pm_session.specs.Left.{LeftBySettle}
use Rattle.pm_session.specs.Sessions.{settled}
use Rattle.pm_session.proofs.Lefts.{left-err}
use Rattle.pm_workers.proofs.MergeLaws.{length-map}
use Rattle.pm_rooms.specs.Halls.{hall_of}
use Rattle.pm_rooms.proofs.HallRooms.{has-room, rules-within, put-room, put-sound, put_back, put-others, stay-on}
use Rattle.pm_rooms.proofs.HallSettling.{none-settled, all-stay, first-more, later-kept, left-settling, settled-all, caught-all}
use Rattle.pm_rooms.proofs.hall.Hall.settle.Goals as goal

pub loop-r-init : goal.loop-r-init
loop-r-init g c =
    let h = hall_of c.args.self.now in
    record {
      stay = record { rules = refl; count = refl };
      first = none-settled g.C.Change.means h;
      later = all-stay g.C.Change.means h;
      sound = c.requires;
    }

pub index-rules-requires : goal.index-rules-requires
index-rules-requires g c =
    let i = c.loop-r.invariant in
    let hall = c.loop-r.self in
    let within : c.loop-r.r < length hall.rooms.items = omega (arith, i.stay.count, length-map state_of hall.rooms.items, length-map state_of c.args.self.now.rooms.items) in
    let there : c.loop-r.r < length hall.rules.items = rules-within g.C.Change.means hall c.loop-r.r i.sound within in
    search rules

pub index_mut-room-requires : goal.index_mut-room-requires
index_mut-room-requires g c =
    let i = c.loop-r.invariant in
    omega (arith, i.stay.count, length-map state_of c.loop-r.self.rooms.items, length-map state_of c.args.self.now.rooms.items)

pub settle-requires : goal.settle-requires
settle-requires g c =
    let m = g.C.Change.means in
    let i = c.loop-r.invariant in
    let hall = c.loop-r.self in
    let r = c.loop-r.r in
    let h0 = hall_of c.args.self.now in
    let h = hall_of hall in
    let rules_r = c.index-rules.result.now in
    let room = c.index_mut-room.result.now in
    let within : r < length hall.rooms.items = omega (arith, i.stay.count, length-map state_of hall.rooms.items, length-map state_of c.args.self.now.rooms.items) in
    let has = has-room hall r rules_r room (rules-within m hall r i.sound within) within c.index-rules.ensures c.index_mut-room.ensures.value in
    i.sound.sound r rules_r (state_of room) has

pub loop-r-preserved : goal.loop-r-preserved
loop-r-preserved g c =
    let m = g.C.Change.means in
    let i = c.loop-r.invariant in
    let hall = c.loop-r.self in
    let r = c.loop-r.r in
    let h0 = hall_of c.args.self.now in
    let h = hall_of hall in
    let rules_r = c.index-rules.result.now in
    let room = c.index_mut-room.result.now in
    let within : r < length hall.rooms.items = omega (arith, i.stay.count, length-map state_of hall.rooms.items, length-map state_of c.args.self.now.rooms.items) in
    let has = has-room hall r rules_r room (rules-within m hall r i.sound within) within c.index-rules.ensures c.index_mut-room.ensures.value in
    let new = c.settle.new.self in
    let next = put_back hall r rules_r room new has in
    let others = put-others hall r new in
    let so = put-room hall r rules_r room new has (λ rules s t. t ≡ settled m rules s) c.in_ok-settle.ensures.settles in
    record {
      stay = stay-on h0 h next i.stay others.stay;
      first = first-more m h0 h next r i.first i.later others so;
      later = later-kept m h0 h next r i.first i.later others;
      sound = put-sound hall r rules_r room new has m i.sound c.settle.ensures.sound;
    }

pub returns-in_err-settle-clause-stay : goal.returns-in_err-settle-clause-stay
returns-in_err-settle-clause-stay g c =
    let m = g.C.Change.means in
    let i = c.loop-r.invariant in
    let hall = c.loop-r.self in
    let r = c.loop-r.r in
    let h0 = hall_of c.args.self.now in
    let h = hall_of hall in
    let rules_r = c.index-rules.result.now in
    let room = c.index_mut-room.result.now in
    let within : r < length hall.rooms.items = omega (arith, i.stay.count, length-map state_of hall.rooms.items, length-map state_of c.args.self.now.rooms.items) in
    let has = has-room hall r rules_r room (rules-within m hall r i.sound within) within c.index-rules.ensures c.index_mut-room.ensures.value in
    let new = c.settle.new.self in
    stay-on h0 h (put_back hall r rules_r room new has) i.stay (put-others hall r new).stay

pub returns-in_err-settle-clause-sound : goal.returns-in_err-settle-clause-sound
returns-in_err-settle-clause-sound g c =
    let m = g.C.Change.means in
    let i = c.loop-r.invariant in
    let hall = c.loop-r.self in
    let r = c.loop-r.r in
    let h0 = hall_of c.args.self.now in
    let h = hall_of hall in
    let rules_r = c.index-rules.result.now in
    let room = c.index_mut-room.result.now in
    let within : r < length hall.rooms.items = omega (arith, i.stay.count, length-map state_of hall.rooms.items, length-map state_of c.args.self.now.rooms.items) in
    let has = has-room hall r rules_r room (rules-within m hall r i.sound within) within c.index-rules.ensures c.index_mut-room.ensures.value in
    put-sound hall r rules_r room c.settle.new.self has m i.sound c.settle.ensures.sound

pub returns-in_err-settle-clause-left : goal.returns-in_err-settle-clause-left
returns-in_err-settle-clause-left g c =
    let m = g.C.Change.means in
    let i = c.loop-r.invariant in
    let hall = c.loop-r.self in
    let r = c.loop-r.r in
    let h0 = hall_of c.args.self.now in
    let h = hall_of hall in
    let rules_r = c.index-rules.result.now in
    let room = c.index_mut-room.result.now in
    let within : r < length hall.rooms.items = omega (arith, i.stay.count, length-map state_of hall.rooms.items, length-map state_of c.args.self.now.rooms.items) in
    let has = has-room hall r rules_r room (rules-within m hall r i.sound within) within c.index-rules.ensures c.index_mut-room.ensures.value in
    let new = c.settle.new.self in
    let next = put_back hall r rules_r room new has in
    let left = put-room hall r rules_r room new has (λ rules s t. LeftBySettle m rules s t) c.in_err-settle.ensures.left in
    left-err c.from_residual.result
    (left-settling m h0 h next r i.first i.later (put-others hall r new) i.stay (subst (λ n. r < n) (sym (length-map state_of hall.rooms.items)) within) left)

pub returns-clause-settles : goal.returns-clause-settles
returns-clause-settles g c =
    let i = c.loop-r.invariant in
    let all : length (hall_of c.loop-r.self).rooms ≤ c.loop-r.r = omega (arith, i.stay.count, length-map state_of c.args.self.now.rooms.items) in
    settled-all g.C.Change.means (hall_of c.args.self.now) (hall_of c.loop-r.self) c.loop-r.r i.stay all i.first

pub returns-clause-caught_up : goal.returns-clause-caught_up
returns-clause-caught_up g c =
    let m = g.C.Change.means in
    let i = c.loop-r.invariant in
    let h = hall_of c.args.self.now in
    let k = hall_of c.loop-r.self in
    let all : length k.rooms ≤ c.loop-r.r = omega (arith, i.stay.count, length-map state_of c.args.self.now.rooms.items) in
    caught-all m g.met.C.Change.laws h k c.requires (settled-all m h k c.loop-r.r i.stay all i.first)
