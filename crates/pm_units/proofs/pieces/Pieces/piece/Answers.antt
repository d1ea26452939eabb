use Rattle.std.proofs.Common.{◌≡◌, get_or, sym, subst, arith}
use Rattle.pm_sized.specs.Pairs.{pairs_of}
use Rattle.pm_units.specs.Pieces.{pieces_in}
use Rattle.pm_units.proofs.TextLaws.{values-length, value-at}
use Rattle.pm_units.proofs.pieces.Pieces.piece.Goals as goal

pub item-requires-clause-within : goal.item-requires-clause-within
item-requires-clause-within c = omega (arith, c.requires.within, values-length (pairs_of c.args.self.now.chunks))

pub returns : goal.returns
returns c = subst (λ x. x ≡ (get_or (pieces_in c.args.self.now) c.args.i (x, 0)).0) (sym c.deref.ensures) (value-at (pairs_of c.args.self.now.chunks) c.args.i c.item.result.now c.item.ensures)
