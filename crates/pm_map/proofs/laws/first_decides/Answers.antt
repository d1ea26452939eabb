use Rattle.std.proofs.Common.{arith, ap, ◌+◌, ◌≡◌, ◌∙◌, ℕ, refl}
use Rattle.pm_map.specs.Moves.{is_before, kept_at}
use Rattle.pm_map.proofs.Firsts.{decides, shifts}
use Rattle.pm_map.proofs.laws.first_decides.Goals as goal

pub returns : goal.returns
returns c = λ p side. (
  λ i r h. (decides c.args.map.now i 0 0 0 0 p r (is_before side) c.ordered.ensures (omega arith) h).is ∙ rw (zero-plus i) refl,
  λ h. shifts c.args.map.now 0 0 0 0 p (is_before side) c.ordered.ensures (omega arith) (omega arith) h ∙ ap kept_at (omega arith),
)
  where
    zero-plus : (i : ℕ) → 0 + i ≡ i
    zero-plus i = omega arith
