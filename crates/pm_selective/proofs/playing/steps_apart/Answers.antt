use Rattle.std.proofs.Common.{◌≡◌, ◌∙◌, ap, sym, subst}
use Rattle.std.specs.Prelude.{slice_get, slice_index_or, Some}
use Rattle.pm_client.proofs.Takings.{get-index, index-get}
use Rattle.pm_session.specs.declared.line.Act.TheVariants.{UndoEvent}
use Rattle.pm_session.specs.declared.member.Member.TheVariants.{Editor, Raw}
use Rattle.pm_session.specs.Events.{state_of}
use Rattle.pm_selective.specs.Standing.{HasTimeline}
use Rattle.pm_selective.proofs.Playings.{kin-timeline, raw-member, if-found}
use Rattle.pm_selective.proofs.playing.steps_apart.Goals as goal

pub count_apart-requires : goal.count_apart-requires
count_apart-requires g c =
    let xs = c.args.room.now.members.items in
    let k = c.args.line.now.client in
    let suits = c.requires.suits in
    let client = c.in-Editor.client in
    let read : slice_index_or xs k c.index-members-line.result ≡ Editor client = cc (c.index-members-line.is, c.in-Editor.is, c.members.ensures) in
    let there = index-get xs k c.index-members-line.result (get-index xs k suits.member suits.at).0 ∙ ap Some read in
    let kin = (c.requires.sound.stand k (Editor client) there).1.kin in
    subst HasTimeline (sym c.history.ensures) (kin-timeline c.args.schema.now c.args.room.now.authority.first c.args.room.now.authority.log client kin)

pub returns-in-Editor-clause-found : goal.returns-in-Editor-clause-found
returns-in-Editor-clause-found g c =
    let xs = c.args.room.now.members.items in
    let k = c.args.line.now.client in
    let suits = c.requires.suits in
    let client = c.in-Editor.client in
    let read : slice_index_or xs k c.index-members-line.result ≡ Editor client = cc (c.index-members-line.is, c.in-Editor.is, c.members.ensures) in
    let there = index-get xs k c.index-members-line.result (get-index xs k suits.member suits.at).0 ∙ ap Some read in
    let act : c.args.line.now.act ≡ UndoEvent c.in-UndoEvent.event = cc (c.in-UndoEvent.is) in
    if-found c.args.schema.now (state_of c.args.room.now) c.args.line.now c.count_apart.result c.history.result.now c.in-UndoEvent.event client c.history.ensures c.requires.sound act there
    c.count_apart.ensures

pub returns-in-Raw-clause-found : goal.returns-in-Raw-clause-found
returns-in-Raw-clause-found g c =
    let xs = c.args.room.now.members.items in
    let k = c.args.line.now.client in
    let suits = c.requires.suits in
    let read : slice_index_or xs k c.index-members-line.result ≡ Raw c.in-Raw.name c.in-Raw.serial = cc (c.index-members-line.is, c.in-Raw.is, c.members.ensures) in
    let there = index-get xs k c.index-members-line.result (get-index xs k suits.member suits.at).0 ∙ ap Some read in
    raw-member c.args.schema.now (state_of c.args.room.now) c.args.line.now c.in-Raw.name c.in-Raw.serial there
