use Rattle.std.proofs.Common.{◌≡◌, ◌++◌, length, ap, ◌∙◌, arith}
use Rattle.std.specs.Arc.{arc_value}
use Rattle.pm_sized.specs.Parts.{values_of}
use Rattle.pm_units.specs.Pieces.{piece_units, pieces_in, text_in}
use Rattle.pm_units.proofs.TextLaws.{measured-total, pushed-text, pushed-measured, joined-is, apart-is}
use Rattle.pm_units.proofs.pieces.Pieces.push.Goals as goal

pub push-requires-clause-room : goal.push-requires-clause-room
push-requires-clause-room c =
    let same : text_in c.merge.new.self ≡ text_in c.args.self.now = apart-is c.in_ok-merge.field-0 (text_in c.args.self.now ++ piece_units c.args.piece) (text_in c.args.self.now) (text_in c.merge.new.self) c.in_ok-merge.ensures.text c.if-branch.false in
    omega (arith, measured-total (pieces_in c.merge.new.self) c.in_ok-merge.ensures.pieces.measured, ap length same, c.requires.room, c.len-count.ensures)

pub returns-then-branch-clause-text : goal.returns-then-branch-clause-text
returns-then-branch-clause-text c =
    let both : text_in c.merge.new.self ≡ text_in c.args.self.now ++ piece_units c.args.piece = joined-is c.in_ok-merge.field-0 (text_in c.args.self.now ++ piece_units c.args.piece) (text_in c.args.self.now) (text_in c.merge.new.self) c.in_ok-merge.ensures.text c.if-branch.true in
    both

pub returns-clause-pieces : goal.returns-clause-pieces
returns-clause-pieces c =
    record {
      laid = c.in_ok-push.ensures.laid;
      measured = pushed-measured (pieces_in c.merge.new.self) (values_of c.push.new.self) (arc_value c.in_ok-shared.shared) c.args.piece c.len-count.result c.in_ok-push.ensures.ok c.in_ok-shared.ensures.ok c.in_ok-merge.ensures.pieces.measured c.len-count.ensures (omega (arith, c.len-count.ensures, c.requires.some)) (omega (arith, c.len-count.ensures, c.requires.most));
    }

pub returns-clause-text : goal.returns-clause-text
returns-clause-text c =
    let same : text_in c.merge.new.self ≡ text_in c.args.self.now = apart-is c.in_ok-merge.field-0 (text_in c.args.self.now ++ piece_units c.args.piece) (text_in c.args.self.now) (text_in c.merge.new.self) c.in_ok-merge.ensures.text c.if-branch.false in
    pushed-text (pieces_in c.merge.new.self) (values_of c.push.new.self) (arc_value c.in_ok-shared.shared) c.args.piece c.len-count.result c.in_ok-push.ensures.ok c.in_ok-shared.ensures.ok ∙ ap (λ us. us ++ piece_units c.args.piece) same
