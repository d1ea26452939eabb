-- What says an expression whose parts memory can hold is said by one.
use Rattle.std.proofs.Common.{◌≡◌, ◌<◌, ◌^◌, suc, List, [], ◌∷◌, length, refl, ap, arith, Box, Vec, Global}
use mathlib.Core.Former.{this, list_count, none_left}
use denote.RawPtr.{null_ptr}
use Rattle.pm_auto.specs.declared.expr.Expr.{Expr, Empty, One, Choice', Seq', Plus', Star', Opt', Range', Row_of-Expr, end_of-Expr, more_of-Expr}
use Rattle.pm_auto.specs.Tree.{Tree, Trees, empty, one, choice, seq, plus, star, opt, range, none, more, tree, trees}
use Rattle.pm_laws.proofs.Narrow.{parts, IsNarrow, AreNarrow}

abbrev box : Box (Unit {0}) Global
box = record { ptr = null_ptr; alloc = record { memory = record { seal = tt } }; value = tt }

abbrev shape : (us : List (Unit {0})) → length us < 2 ^ 63 → Vec (Unit {0}) Global
shape us l = record { ptr = null_ptr; len = length us; cap = length us; alloc = record { memory = record { seal = tt } }; items = us; ok = (refl, omega arith); small = l }

-- expressions side by side that say these
record RowOf (ts : Trees) : Type 0 where
  shapes : List (Unit {0})
  long : length shapes ≡ parts ts
  row : Row_of-Expr (list_count (this {0}) shapes none_left)
  says : trees row ≡ ts

abbrev ExprOf : Tree → Type 0
ExprOf t = (e : Expr) × (tree e ≡ t)

choice-of : (ts : Trees) → parts ts < 2 ^ 63 → RowOf ts → ExprOf (choice ts)
choice-of ts l r = (Choice' (shape r.shapes (omega (arith, l, r.long))) r.row, ap choice r.says)

seq-of : (ts : Trees) → parts ts < 2 ^ 63 → RowOf ts → ExprOf (seq ts)
seq-of ts l r = (Seq' (shape r.shapes (omega (arith, l, r.long))) r.row, ap seq r.says)

mutual
  pub expr-there : (t : Tree) → IsNarrow t → (e : Expr) × (tree e ≡ t)
  expr-there empty h = (Empty, refl)
  expr-there (one k) h = (One k, refl)
  expr-there (choice ts) h = choice-of ts h.0 (row-there ts h.1)
  expr-there (seq ts) h = seq-of ts h.0 (row-there ts h.1)
  expr-there (plus t) h = let e = expr-there t h in (Plus' box e.0, ap plus e.1)
  expr-there (star t) h = let e = expr-there t h in (Star' box e.0, ap star e.1)
  expr-there (opt t) h = let e = expr-there t h in (Opt' box e.0, ap opt e.1)
  expr-there (range t n m) h = let e = expr-there t h in (Range' box e.0 n m, ap (λ x. range x n m) e.1)

  row-there : (ts : Trees) → AreNarrow ts → RowOf ts
  row-there none h = record { shapes = []; long = refl; row = end_of-Expr; says = refl }
  row-there (more t ts) h =
      let e = expr-there t h.0 in
      let r = row-there ts h.1 in
      record { shapes = tt ∷ r.shapes; long = ap suc r.long; row = more_of-Expr e.0 r.row; says = λ i. more (e.1 i) (r.says i) }
