-- Types of equal content share what is known of their automaton.
use Rattle.std.specs.Prelude.{List, Bool}
use Rattle.pm_auto.specs.declared.expr.Expr.{Expr}
use Rattle.pm_auto.specs.declared.error.AutoError.TheVariants.{Mixed, TooWide}
use Rattle.pm_auto.specs.Built.{Is_fault}

-- nothing refuses the expression an automaton
pub record HasNoFault (e : Expr) (inline : List Bool) : Type 0 where
  pub pure : Is_fault e inline Mixed → ⊥
  pub narrow : Is_fault e inline TooWide → ⊥
