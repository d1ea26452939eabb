-- What an expression says, apart from the memory that holds it.
use Rattle.std.specs.Prelude.{ℕ, List, [], ◌∷◌, Option}
use Rattle.pm_auto.specs.declared.expr.Expr.{Expr, Empty, One, Choice', Seq', Plus', Star', Opt', Range', Row_of-Expr, end_of-Expr, more_of-Expr}

mutual
  pub data Tree : Type 0 where
    empty : Tree
    one : (kind : ℕ) → Tree
    choice : (parts : Trees) → Tree
    seq : (parts : Trees) → Tree
    plus : (part : Tree) → Tree
    star : (part : Tree) → Tree
    opt : (part : Tree) → Tree
    range : (part : Tree) (low : ℕ) (high : Option ℕ) → Tree

  pub data Trees : Type 0 where
    none : Trees
    more : (part : Tree) (parts : Trees) → Trees

abbrev mutual
  -- what the expression says
  pub tree : Expr → Tree
  tree Empty = empty
  tree (One t) = one t
  tree (Choice' n es) = choice (trees es)
  tree (Seq' n es) = seq (trees es)
  tree (Plus' p e) = plus (tree e)
  tree (Star' p e) = star (tree e)
  tree (Opt' p e) = opt (tree e)
  tree (Range' p e n m) = range (tree e) n m

  -- what each part says
  pub trees : {m : _} → Row_of-Expr m → Trees
  trees end_of-Expr = none
  trees (more_of-Expr e es) = more (tree e) (trees es)

-- the parts of a list
abbrev pub gathered : List Tree → Trees
gathered [] = none
gathered (t ∷ ts) = more t (gathered ts)
