use Rattle.std.proofs.Common.{◌≡◌, Some, slice_get, ◌∙◌, ap, sym}
use Rattle.pm_client.proofs.Takings.{index-get}
use Rattle.pm_session.specs.Events.{state_of}
use Rattle.pm_session.proofs.RoomActs.{exchange-is, exchange-left, exchange-sound, exchange-held}
use Rattle.pm_session.proofs.room.Room.exchange.Goals as goal

pub exchange_at-requires-clause-stands : goal.exchange_at-requires-clause-stands
exchange_at-requires-clause-stands g c =
    let read = c.index_mut-member.result.now in
    let at : slice_get c.args.self.now.members.items c.args.member ≡ Some read = index-get c.args.self.now.members.items c.args.member _ c.requires.within ∙ ap Some (sym c.index_mut-member.ensures.value) in
    (c.requires.sound.stand c.args.member read at).1

pub returns-clause-exchanges : goal.returns-clause-exchanges
returns-clause-exchanges g c =
    let m = g.C.Change.means in
    let s = state_of c.args.self.now in
    let read = c.index_mut-member.result.now in
    let at : slice_get c.args.self.now.members.items c.args.member ≡ Some read = index-get c.args.self.now.members.items c.args.member _ c.requires.within ∙ ap Some (sym c.index_mut-member.ensures.value) in
    exchange-is m c.args.rules.now s c.args.kind c.args.member read at c.exchange_at.result c.exchange_at.new.authority c.exchange_at.new.member c.exchange_at.ensures.exchanges

pub returns-clause-left : goal.returns-clause-left
returns-clause-left g c =
    let m = g.C.Change.means in
    let s = state_of c.args.self.now in
    let read = c.index_mut-member.result.now in
    let at : slice_get c.args.self.now.members.items c.args.member ≡ Some read = index-get c.args.self.now.members.items c.args.member _ c.requires.within ∙ ap Some (sym c.index_mut-member.ensures.value) in
    exchange-left m c.args.rules.now s c.args.kind c.args.member read at c.exchange_at.result c.exchange_at.new.authority c.exchange_at.new.member c.exchange_at.ensures.left

pub returns-clause-sound : goal.returns-clause-sound
returns-clause-sound g c =
    let m = g.C.Change.means in
    let s = state_of c.args.self.now in
    let read = c.index_mut-member.result.now in
    let at : slice_get c.args.self.now.members.items c.args.member ≡ Some read = index-get c.args.self.now.members.items c.args.member _ c.requires.within ∙ ap Some (sym c.index_mut-member.ensures.value) in
    exchange-sound m c.args.rules.now s c.args.kind c.args.member read at g.met.C.Change.laws c.requires.sound c.exchange_at.result c.exchange_at.new.authority c.exchange_at.new.member
    c.exchange_at.ensures.exchanges c.exchange_at.ensures.left

pub returns-clause-names : goal.returns-clause-names
returns-clause-names g c =
    let m = g.C.Change.means in
    let s = state_of c.args.self.now in
    let read = c.index_mut-member.result.now in
    let at : slice_get c.args.self.now.members.items c.args.member ≡ Some read = index-get c.args.self.now.members.items c.args.member _ c.requires.within ∙ ap Some (sym c.index_mut-member.ensures.value) in
    (exchange-sound m c.args.rules.now s c.args.kind c.args.member read at g.met.C.Change.laws c.requires.sound c.exchange_at.result c.exchange_at.new.authority c.exchange_at.new.member
    c.exchange_at.ensures.exchanges c.exchange_at.ensures.left).names

pub returns-clause-holds : goal.returns-clause-holds
returns-clause-holds g c =
    let m = g.C.Change.means in
    let s = state_of c.args.self.now in
    let read = c.index_mut-member.result.now in
    let at : slice_get c.args.self.now.members.items c.args.member ≡ Some read = index-get c.args.self.now.members.items c.args.member _ c.requires.within ∙ ap Some (sym c.index_mut-member.ensures.value) in
    exchange-held m c.args.rules.now s c.args.kind c.args.member read at g.met.C.Change.laws c.requires.sound c.exchange_at.result c.exchange_at.new.authority c.exchange_at.new.member
    c.exchange_at.ensures.exchanges
