-- What the parts of an expression say.
use Rattle.std.proofs.Common.{◌≡◌, ℕ, ◌+◌, ◌<◌, List, [], ◌∷◌, ◌++◌, map, take, length, get_or, refl, ap, sym, ◌∙◌}
use Rattle.std.proofs.lemmas.List.{map_more, map-append}
use Rattle.pm_auto.specs.declared.expr.Expr.{Expr, Empty, One, Choice', Seq', Plus', Star', Opt', Range', Row_of-Expr, end_of-Expr, more_of-Expr, items-the_row-Expr}
use Rattle.pm_auto.specs.Tree.{Tree, Trees, empty, one, choice, seq, plus, star, opt, range as repeated, none, more, tree, trees, gathered}
use Rattle.pm_auto.specs.Core as core
use Rattle.pm_auto.specs.Core.{Core, Never, Loop}
use Rattle.pm_auto.specs.Expand.{optional, in_turn, one_of, range, expand, expand_all}

pub trees-items : (n : _) (es : Row_of-Expr n) → trees es ≡ gathered (map tree (items-the_row-Expr n es))
trees-items n end_of-Expr = refl
trees-items n (more_of-Expr e es) = ap (λ z. more (tree e) z) (trees-items _ es)

-- a copy of one part more
pub one-more : (new old : List Expr) (x y : Expr) (i : ℕ) (xs : List Expr) → new ≡ old ++ x ∷ [] → map tree old ≡ map tree (take i xs) → tree x ≡ tree y → i < length xs → y ≡ get_or xs i y → map tree new ≡ map tree (take (i + 1) xs)
one-more new old x y i xs grown before same within is =
    ap (map tree) grown
    ∙ map-append tree old (x ∷ [])
    ∙ ap (λ z. z ++ tree x ∷ []) before
    ∙ ap (λ z. map tree (take i xs) ++ z ∷ []) (same ∙ ap tree is)
    ∙ sym (map_more tree xs i y within)

-- the expansion of what an expression says
abbrev mutual
  spread : Tree → Core
  spread empty = core.Empty
  spread (one t) = core.One t
  spread (choice es) = one_of Never (spread_all es)
  spread (seq es) = in_turn core.Empty (spread_all es)
  spread (plus e) = Loop (spread e)
  spread (star e) = optional (Loop (spread e))
  spread (opt e) = optional (spread e)
  spread (repeated e n m) = range (spread e) n m

  spread_all : Trees → List Core
  spread_all none = []
  spread_all (more e es) = spread e ∷ spread_all es

mutual
  expand-tree : (e : Expr) → expand e ≡ spread (tree e)
  expand-tree Empty = refl
  expand-tree (One t) = refl
  expand-tree (Choice' n es) = ap (one_of Never) (expand-trees _ es)
  expand-tree (Seq' n es) = ap (in_turn core.Empty) (expand-trees _ es)
  expand-tree (Plus' p e) = ap Loop (expand-tree e)
  expand-tree (Star' p e) = ap (λ c. optional (Loop c)) (expand-tree e)
  expand-tree (Opt' p e) = ap optional (expand-tree e)
  expand-tree (Range' p e n m) = ap (λ c. range c n m) (expand-tree e)

  expand-trees : (n : _) (es : Row_of-Expr n) → expand_all es ≡ spread_all (trees es)
  expand-trees n end_of-Expr = refl
  expand-trees n (more_of-Expr e es) = ap (λ c. c ∷ expand_all es) (expand-tree e) ∙ ap (λ cs. spread (tree e) ∷ cs) (expand-trees _ es)

-- expressions that say the same have one expansion
pub same-expand : (d e : Expr) → tree d ≡ tree e → expand d ≡ expand e
same-expand d e h = expand-tree d ∙ ap spread h ∙ sym (expand-tree e)
