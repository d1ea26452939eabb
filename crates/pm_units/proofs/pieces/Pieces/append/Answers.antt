use Rattle.std.proofs.Common.{◌≡◌, length, ap, subst, arith, length-append}
use Rattle.std.specs.Prelude.{OnOk}
use Rattle.pm_sized.specs.Parts.{part}
use Rattle.pm_units.specs.Pieces.{pieces_in, text_in, spelled}
use Rattle.pm_units.proofs.TextLaws.{}
use Rattle.pm_units.proofs.pieces.Pieces.append.Goals as goal

pub share-requires-clause-room : goal.share-requires-clause-room
share-requires-clause-room c =
    let ws = pieces_in c.args.source.now in
    omega (arith, c.requires.room, ap length c.in_ok-next.ensures.text, length-append (text_in c.merge_first.new.self) (spelled (part c.in_ok-next.next c.args.to ws)), length-append (text_in c.args.self.now) (spelled (part c.args.from c.args.to ws)))

pub returns-clause-text : goal.returns-clause-text
returns-clause-text c = subst (λ us. OnOk c.share.result (text_in c.share.new.self ≡ us)) c.in_ok-next.ensures.text c.share.ensures.text
