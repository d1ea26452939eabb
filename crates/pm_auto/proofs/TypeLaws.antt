-- The types that occur in several expressions.
use Rattle.std.proofs.Common.{◌≡◌, ℕ, ◌+◌, ◌<◌, List, [], ◌∷◌, ◌++◌, length, drop, get_or, Bool, true, false, ◌||◌, refl, ap, ◌∙◌}
use Rattle.pm_auto.specs.declared.expr.Expr.{Expr, Row_of-Expr, end_of-Expr, more_of-Expr, items-the_row-Expr}
use Rattle.pm_auto.specs.Types.{types, types_of_all, types_of_list, one_is, same}
use Rattle.pm_auto.proofs.Orders.{drop-at}

pub types-items : (n : _) (es : Row_of-Expr n) → types_of_all es ≡ types_of_list (items-the_row-Expr n es)
types-items n end_of-Expr = refl
types-items n (more_of-Expr e es) = ap (λ z. types e ++ z) (types-items _ es)

one-append : (inline : List Bool) (b : Bool) (xs ys : List ℕ) → one_is inline b (xs ++ ys) ≡ one_is inline b xs || one_is inline b ys
one-append inline b [] ys = refl
one-append inline b (x ∷ xs) ys = rw (one-append inline b xs ys) (or-assoc (same (get_or inline x false) b) (one_is inline b xs) (one_is inline b ys))
  where
    or-assoc : (a b c : Bool) → a || (b || c) ≡ (a || b) || c
    or-assoc true b c = refl
    or-assoc false b c = refl

-- the types of one item and of those after it
module _ (xs : List Expr) (i : ℕ) (x : Expr) (l : i < length xs) (is : x ≡ get_or xs i x) where
  here : types_of_list (drop i xs) ≡ types x ++ types_of_list (drop (i + 1) xs)
  here = ap types_of_list (drop-at xs i x l is)

  pub one-item : (inline : List Bool) (b : Bool) → one_is inline b (types_of_list (drop i xs)) ≡ one_is inline b (types x) || one_is inline b (types_of_list (drop (i + 1) xs))
  one-item inline b = ap (one_is inline b) here ∙ one-append inline b (types x) (types_of_list (drop (i + 1) xs))
