use Rattle.std.proofs.Common.{◌≡◌, ◌+◌, ◌-◌, ◌<◌, ◌≤◌, length, get_or, ap, sym, ◌∙◌, subst, arith, length-append}
use Rattle.std.specs.Arc.{arc_value}
use Rattle.pm_sized.specs.Parts.{values_of}
use Rattle.pm_units.specs.Pieces.{piece_units, pieces_in}
use Rattle.pm_units.proofs.TextLaws.{measured-at, merged-text, merged-measured, merged-room}
use Rattle.pm_units.proofs.pieces.Pieces.merge.Goals as goal

pub piece-last-requires-clause-within : goal.piece-last-requires-clause-within
piece-last-requires-clause-within c = omega (arith, c.count-count.ensures, c.if-count-eq0.false)

pub overflow_add-len : goal.overflow_add-len
overflow_add-len c =
    let vs = pieces_in c.args.self.now in
    let p = c.piece-last.result.now in
    let at : p ≡ (get_or vs (length vs - 1) (p, 0)).0 = subst (λ n. p ≡ (get_or vs (n - 1) (p, 0)).0) c.count-count.ensures c.piece-last.ensures in
    let some : 0 < length vs = omega (arith, c.count-count.ensures, c.if-count-eq0.false) in
    omega (arith, c.len.ensures, c.len-2.ensures, (measured-at vs (length vs - 1) p c.requires.pieces.measured (omega arith) at).1, c.requires.most)

pub set_last-requires-clause-some : goal.set_last-requires-clause-some
set_last-requires-clause-some c = omega (arith, c.count-count.ensures, c.if-count-eq0.false)

pub set_last-requires-clause-counts : goal.set_last-requires-clause-counts
set_last-requires-clause-counts c = omega (arith, c.len-units.ensures, ap length c.in_ok-joined.ensures, length-append (piece_units c.piece-last.result.now) (piece_units c.args.piece.now), c.requires.some)

pub set_last-requires-clause-room : goal.set_last-requires-clause-room
set_last-requires-clause-room c =
    let vs = pieces_in c.args.self.now in
    let p = c.piece-last.result.now in
    let at : p ≡ (get_or vs (length vs - 1) (p, 0)).0 = subst (λ n. p ≡ (get_or vs (n - 1) (p, 0)).0) c.count-count.ensures c.piece-last.ensures in
    let some : 0 < length vs = omega (arith, c.count-count.ensures, c.if-count-eq0.false) in
    let fits : length (piece_units p) + length (piece_units c.args.piece.now) ≤ 1024 = omega (arith, c.if-len-gt-PIECE.false, c.len.ensures, c.len-2.ensures) in
    let n : c.len-units.result ≡ length (piece_units p) + length (piece_units c.args.piece.now) = c.len-units.ensures ∙ (ap length c.in_ok-joined.ensures ∙ length-append (piece_units p) (piece_units c.args.piece.now)) in
    merged-room vs p (piece_units c.args.piece.now) c.len-units.result 4294967296 some at c.requires.pieces.measured n c.requires.room

pub returns-clause-pieces : goal.returns-clause-pieces
returns-clause-pieces c =
    let vs = pieces_in c.args.self.now in
    let p = c.piece-last.result.now in
    let at : p ≡ (get_or vs (length vs - 1) (p, 0)).0 = subst (λ n. p ≡ (get_or vs (n - 1) (p, 0)).0) c.count-count.ensures c.piece-last.ensures in
    let some : 0 < length vs = omega (arith, c.count-count.ensures, c.if-count-eq0.false) in
    let fits : length (piece_units p) + length (piece_units c.args.piece.now) ≤ 1024 = omega (arith, c.if-len-gt-PIECE.false, c.len.ensures, c.len-2.ensures) in
    let n : c.len-units.result ≡ length (piece_units p) + length (piece_units c.args.piece.now) = c.len-units.ensures ∙ (ap length c.in_ok-joined.ensures ∙ length-append (piece_units p) (piece_units c.args.piece.now)) in
    let is = ap (λ x. length (piece_units x)) (sym c.in_ok-shared.ensures.ok) in
    record {
      laid = c.in_ok-set_last.ensures.laid;
      measured = merged-measured vs (values_of c.set_last.new.self) (arc_value c.in_ok-shared.shared) c.len-units.result c.in_ok-set_last.ensures.ok c.requires.pieces.measured (c.len-units.ensures ∙ is) (omega (arith, n, c.requires.some)) (omega (arith, n, fits));
    }

pub returns-clause-text : goal.returns-clause-text
returns-clause-text c =
    let vs = pieces_in c.args.self.now in
    let p = c.piece-last.result.now in
    let at : p ≡ (get_or vs (length vs - 1) (p, 0)).0 = subst (λ n. p ≡ (get_or vs (n - 1) (p, 0)).0) c.count-count.ensures c.piece-last.ensures in
    let some : 0 < length vs = omega (arith, c.count-count.ensures, c.if-count-eq0.false) in
    merged-text vs (values_of c.set_last.new.self) p (arc_value c.in_ok-shared.shared) (piece_units c.args.piece.now) c.len-units.result some at (ap piece_units c.in_ok-shared.ensures.ok ∙ c.in_ok-joined.ensures) c.in_ok-set_last.ensures.ok
