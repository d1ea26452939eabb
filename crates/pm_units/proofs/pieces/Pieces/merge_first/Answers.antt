use Rattle.std.proofs.Common.{◌≡◌, ◌+◌, ◌<◌, ◌++◌, length, ap, sym, ◌∙◌, arith, append_assoc, length-append}
use Rattle.pm_sized.specs.Parts.{part}
use Rattle.pm_units.specs.Pieces.{piece_units, pieces_in, text_in, spelled}
use Rattle.pm_units.proofs.TextLaws.{measured-at, joined-is, apart-is, part-first}
use Rattle.pm_units.proofs.pieces.Pieces.merge_first.Goals as goal

pub merge-requires-clause-some : goal.merge-requires-clause-some
merge-requires-clause-some c =
    let ws = pieces_in c.args.source.now in
    let p = c.piece.result.now in
    let lt : c.args.from < c.args.to = omega (arith, c.requires.order, c.if-from-to.false) in
    let first = part-first c.args.from c.args.to ws p lt c.requires.within c.piece.ensures in
    (measured-at ws c.args.from p c.requires.source.measured (omega (arith, lt, c.requires.within)) c.piece.ensures).0

pub merge-requires-clause-most : goal.merge-requires-clause-most
merge-requires-clause-most c =
    let ws = pieces_in c.args.source.now in
    let p = c.piece.result.now in
    let lt : c.args.from < c.args.to = omega (arith, c.requires.order, c.if-from-to.false) in
    let first = part-first c.args.from c.args.to ws p lt c.requires.within c.piece.ensures in
    (measured-at ws c.args.from p c.requires.source.measured (omega (arith, lt, c.requires.within)) c.piece.ensures).1

pub merge-requires-clause-room : goal.merge-requires-clause-room
merge-requires-clause-room c =
    let ws = pieces_in c.args.source.now in
    let p = c.piece.result.now in
    let lt : c.args.from < c.args.to = omega (arith, c.requires.order, c.if-from-to.false) in
    let first = part-first c.args.from c.args.to ws p lt c.requires.within c.piece.ensures in
    omega (arith, c.requires.room, ap length first, length-append (piece_units p) (spelled (part (c.args.from + 1) c.args.to ws)))

pub returns-then-branch-clause-text : goal.returns-then-branch-clause-text
returns-then-branch-clause-text c =
    let ws = pieces_in c.args.source.now in
    let p = c.piece.result.now in
    let lt : c.args.from < c.args.to = omega (arith, c.requires.order, c.if-from-to.false) in
    let first = part-first c.args.from c.args.to ws p lt c.requires.within c.piece.ensures in
    let both : text_in c.merge.new.self ≡ text_in c.args.self.now ++ piece_units c.piece.result.now = joined-is c.in_ok-merge.field-0 (text_in c.args.self.now ++ piece_units c.piece.result.now) (text_in c.args.self.now) (text_in c.merge.new.self) c.in_ok-merge.ensures.text c.if-branch.true in
    let old = text_in c.args.self.now in
    let rest = spelled (part (c.args.from + 1) c.args.to ws) in
    ap (λ us. us ++ rest) both ∙ (append_assoc old (piece_units p) rest ∙ ap (λ us. old ++ us) (sym first))

pub returns-clause-text : goal.returns-clause-text
returns-clause-text c =
    let same : text_in c.merge.new.self ≡ text_in c.args.self.now = apart-is c.in_ok-merge.field-0 (text_in c.args.self.now ++ piece_units c.piece.result.now) (text_in c.args.self.now) (text_in c.merge.new.self) c.in_ok-merge.ensures.text c.if-branch.false in
    ap (λ us. us ++ spelled (part c.args.from c.args.to (pieces_in c.args.source.now))) same
