-- The expansion of an expression: each repetition is written out.
use Rattle.std.specs.Prelude.{ℕ, zero, suc, ◌+◌, ◌-◌, max, List, [], ◌∷◌, Option, Some, None}
use Rattle.pm_auto.specs.Core as core
use Rattle.pm_auto.specs.Core.{Core, Never, Alt, Cat, Loop}
use Rattle.pm_auto.specs.declared.expr.Expr.{Expr, Empty, One, Choice', Seq', Plus', Star', Opt', Range', Row_of-Expr, end_of-Expr, more_of-Expr}

-- one of these, or none
abbrev pub optional : Core → Core
optional e = Alt core.Empty e

-- these after what comes before
abbrev pub in_turn : Core → List Core → Core
in_turn e [] = e
in_turn e (d ∷ ds) = in_turn (Cat e d) ds

-- what comes before, or one of these
abbrev pub one_of : Core → List Core → Core
one_of e [] = e
one_of e (d ∷ ds) = one_of (Alt e d) ds

-- n copies after what comes before
abbrev pub and_copies : Core → ℕ → Core → Core
and_copies e zero d = e
and_copies e (suc n) d = and_copies (Cat e d) n d

-- n copies, and then any number where no highest number is given, or as many that may be left out as there are more up to it
abbrev pub range : Core → ℕ → Option ℕ → Core
range e n None = Cat (and_copies core.Empty n e) (optional (Loop e))
range e n (Some m) = and_copies (and_copies core.Empty n e) (m - n) (optional e)

-- how many copies a repetition is written out as
abbrev pub written : ℕ → Option ℕ → ℕ
written n None = n + 1
written n (Some m) = max n m

abbrev mutual
  -- the expression with each repetition written out
  pub expand : Expr → Core
  expand Empty = core.Empty
  expand (One t) = core.One t
  expand (Choice' n es) = one_of Never (expand_all es)
  expand (Seq' n es) = in_turn core.Empty (expand_all es)
  expand (Plus' p e) = Loop (expand e)
  expand (Star' p e) = optional (Loop (expand e))
  expand (Opt' p e) = optional (expand e)
  expand (Range' p e n m) = range (expand e) n m

  -- that of each part
  pub expand_all : {m : _} → Row_of-Expr m → List Core
  expand_all end_of-Expr = []
  expand_all (more_of-Expr e es) = expand e ∷ expand_all es
