-- The expansion without the parts that no list passes.
use Rattle.std.specs.Prelude.{Bool, true, false, ◌&&◌, ◌||◌, cond}
use Rattle.pm_auto.specs.declared.expr.Expr.{Expr}
use Rattle.pm_auto.specs.Core.{Core, Never, Empty, One, Alt, Cat, Loop}
use Rattle.pm_auto.specs.Expand.{expand}

-- some list is in the language
abbrev pub has_list : Core → Bool
has_list Never = false
has_list Empty = true
has_list (One k) = true
has_list (Alt a b) = has_list a || has_list b
has_list (Cat a b) = has_list a && has_list b
has_list (Loop a) = has_list a

-- the expression without what stands before or after a part that has no list
abbrev pub trim : Core → Core
trim Never = Never
trim Empty = Empty
trim (One k) = One k
trim (Alt a b) = Alt (trim a) (trim b)
trim (Cat a b) = cond (has_list a && has_list b) (Cat (trim a) (trim b)) Never
trim (Loop a) = Loop (trim a)

-- The expression with each repetition written out, and then without what stands before or after a part that has no list.
-- The occurrences of types in it are the places of the expression.
abbrev pub trimmed : Expr → Core
trimmed e = trim (expand e)
