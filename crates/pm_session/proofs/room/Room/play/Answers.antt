use Rattle.std.proofs.Common.{◌∙◌}
use Rattle.pm_client.proofs.Takings.{get-index}
use Rattle.pm_session.specs.Events.{state_of}
use Rattle.pm_session.proofs.RoomActs.{member-suits, member-there, played-is, line-left, line-sound, line-stays, line-restores}
use Rattle.pm_session.proofs.room.Room.play.Goals as goal

pub act_at-requires-clause-suits : goal.act_at-requires-clause-suits
act_at-requires-clause-suits g c =
    let suits = c.requires.suits in
    let read = c.index_mut-member.ensures.value ∙ (get-index c.args.self.now.members.items c.args.line.now.client suits.member suits.at).1 _ in
    member-suits g.C.Change.means c.args.rules.now (state_of c.args.self.now) c.requires.sound c.args.line.now suits c.index_mut-member.result.now read

pub act_at-requires-clause-stands : goal.act_at-requires-clause-stands
act_at-requires-clause-stands g c =
    let suits = c.requires.suits in
    let read = c.index_mut-member.ensures.value ∙ (get-index c.args.self.now.members.items c.args.line.now.client suits.member suits.at).1 _ in
    member-there g.C.Change.means c.args.rules.now (state_of c.args.self.now) c.requires.sound c.args.line.now.client suits.member suits.at c.index_mut-member.result.now read

pub returns-clause-plays : goal.returns-clause-plays
returns-clause-plays g c =
    let suits = c.requires.suits in
    let read = c.index_mut-member.ensures.value ∙ (get-index c.args.self.now.members.items c.args.line.now.client suits.member suits.at).1 _ in
    played-is g.C.Change.means c.args.rules.now (g.K.Maker.makes c.args.maker.now c.args.rules.now) (state_of c.args.self.now) c.args.line.now suits.member suits.at
    c.index_mut-member.result.now read c.act_at.result c.act_at.new.authority c.act_at.new.member c.act_at.ensures.acts

pub returns-clause-left : goal.returns-clause-left
returns-clause-left g c =
    let suits = c.requires.suits in
    let read = c.index_mut-member.ensures.value ∙ (get-index c.args.self.now.members.items c.args.line.now.client suits.member suits.at).1 _ in
    line-left g.C.Change.means c.args.rules.now (state_of c.args.self.now) c.args.line.now suits.member suits.at
    c.index_mut-member.result.now read c.act_at.result c.act_at.new.authority c.act_at.new.member c.act_at.ensures.left

pub returns-clause-sound : goal.returns-clause-sound
returns-clause-sound g c =
    let suits = c.requires.suits in
    let read = c.index_mut-member.ensures.value ∙ (get-index c.args.self.now.members.items c.args.line.now.client suits.member suits.at).1 _ in
    line-sound g.C.Change.means c.args.rules.now g.met.C.Change.laws (g.K.Maker.makes c.args.maker.now c.args.rules.now) (state_of c.args.self.now) c.requires.sound c.args.line.now suits
    c.index_mut-member.result.now read c.act_at.result c.act_at.new.authority c.act_at.new.member c.act_at.ensures.acts c.act_at.ensures.left

pub returns-clause-names : goal.returns-clause-names
returns-clause-names g c =
    let suits = c.requires.suits in
    let read = c.index_mut-member.ensures.value ∙ (get-index c.args.self.now.members.items c.args.line.now.client suits.member suits.at).1 _ in
    (line-sound g.C.Change.means c.args.rules.now g.met.C.Change.laws (g.K.Maker.makes c.args.maker.now c.args.rules.now) (state_of c.args.self.now) c.requires.sound c.args.line.now suits
    c.index_mut-member.result.now read c.act_at.result c.act_at.new.authority c.act_at.new.member c.act_at.ensures.acts c.act_at.ensures.left).names

pub returns-clause-cursors : goal.returns-clause-cursors
returns-clause-cursors g c =
    let suits = c.requires.suits in
    let read = c.index_mut-member.ensures.value ∙ (get-index c.args.self.now.members.items c.args.line.now.client suits.member suits.at).1 _ in
    line-stays g.C.Change.means c.args.rules.now g.met.C.Change.laws (g.K.Maker.makes c.args.maker.now c.args.rules.now) (state_of c.args.self.now) c.requires.sound c.args.line.now suits
    c.index_mut-member.result.now read c.act_at.result c.act_at.new.authority c.act_at.new.member c.act_at.ensures.acts c.act_at.ensures.left

pub returns-clause-restores : goal.returns-clause-restores
returns-clause-restores g c =
    let suits = c.requires.suits in
    let read = c.index_mut-member.ensures.value ∙ (get-index c.args.self.now.members.items c.args.line.now.client suits.member suits.at).1 _ in
    line-restores g.C.Change.means c.args.rules.now g.met.C.Change.laws (g.K.Maker.makes c.args.maker.now c.args.rules.now) (state_of c.args.self.now) c.args.line.now suits.member suits.at
    c.index_mut-member.result.now read c.act_at.result c.act_at.new.authority c.act_at.new.member c.act_at.ensures.acts
