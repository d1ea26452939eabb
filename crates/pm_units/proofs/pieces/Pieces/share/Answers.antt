use Rattle.std.proofs.Common.{ap, sym, ◌∙◌, subst, arith}
use Rattle.pm_sized.specs.Parts.{part}
use Rattle.pm_units.specs.Pieces.{pieces_in, spelled, EachMeasured}
use Rattle.pm_units.proofs.TextLaws.{spelled-append, measured-append, measured-part, measured-total}
use Rattle.pm_units.proofs.pieces.Pieces.share.Goals as goal

pub append-requires-clause-room : goal.append-requires-clause-room
append-requires-clause-room c =
    let vs = pieces_in c.args.self.now in
    let ws = part c.args.from c.args.to (pieces_in c.args.source.now) in
    omega (arith, c.requires.room, measured-total vs c.requires.pieces.measured, measured-total ws (measured-part c.args.from c.args.to (pieces_in c.args.source.now) c.requires.source.measured))

pub returns-clause-pieces : goal.returns-clause-pieces
returns-clause-pieces c =
    let vs = pieces_in c.args.self.now in
    let ws = part c.args.from c.args.to (pieces_in c.args.source.now) in
    record {
      laid = c.in_ok-append.ensures.laid;
      measured = subst EachMeasured (sym c.in_ok-append.ensures.ok) (measured-append vs ws c.requires.pieces.measured (measured-part c.args.from c.args.to (pieces_in c.args.source.now) c.requires.source.measured));
    }

pub returns-clause-text : goal.returns-clause-text
returns-clause-text c = ap spelled c.in_ok-append.ensures.ok ∙ spelled-append (pieces_in c.args.self.now) (part c.args.from c.args.to (pieces_in c.args.source.now))
