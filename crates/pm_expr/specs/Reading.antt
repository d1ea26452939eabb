-- The expression of a text, or its first fault.
use Rattle.std.specs.Prelude.{◌≡◌, ℕ, nat_le, List, [], ◌∷◌, ◌++◌, length, reverse, Bool, ◌&&◌, if◌then◌else◌, Option, Some, None, Result, Ok, Err, ◌⊎◌}
use Rattle.pm_auto.specs.Tree as tree
use Rattle.pm_auto.specs.Tree.{Tree}
use Rattle.pm_expr.specs.declared.error.ExprError.{ExprError}
use Rattle.pm_expr.specs.declared.error.ExprError.TheVariants.{Syntax, UnknownName, Range, NoMemory}
use Rattle.pm_expr.specs.Tokens.{Token, name, brace, end_brace, number, comma, place, tokens, number_of}
use Rattle.pm_expr.specs.Names.{Named, stands_for}
use Rattle.pm_expr.specs.Grammar.{Choice}
use Rattle.pm_expr.specs.Levels.{levels_of, depth_flaw}

-- the tokens are this expression; no tokens are the empty one
abbrev pub Whole : List Named → List Token → Tree → Type 0
Whole types ts e = ((ts ≡ []) × (e ≡ tree.empty)) ⊎ Choice types ts e

-- further tokens can make an expression of these
pub record Stands (types : List Named) (ts : List Token) : Type 0 where
  pub further : List Token
  pub says : Tree
  pub whole : Choice types (ts ++ further) says

-- the numbers of {n}, {n,} or {n,m} are at most 64, and the second is no less than the first
abbrev pub fit : ℕ → Option ℕ → Bool
fit n None = nat_le n 64
fit n (Some m) = nat_le n m && nat_le m 64

-- a fault of numbers, told at the brace that opens
abbrev pub unless_fit : (at : ℕ) → ℕ → Option ℕ → Option ExprError
unless_fit at n m = if fit n m then None else Some (Range at)

abbrev pub unless_known : (at : ℕ) → Option Tree → Option ExprError
unless_known at None = Some (UnknownName at)
unless_known at (Some e) = None

-- A closing brace completes the numbers that stand before it. The tokens come latest first.
abbrev pub bounds_flaw : List Token → Option ExprError
bounds_flaw (number _ n ∷ brace at ∷ _) = unless_fit at (number_of n) (Some (number_of n))
bounds_flaw (comma _ ∷ number _ n ∷ brace at ∷ _) = unless_fit at (number_of n) None
bounds_flaw (number _ m ∷ comma _ ∷ number _ n ∷ brace at ∷ _) = unless_fit at (number_of n) (Some (number_of m))
bounds_flaw _ = None

-- the fault of a token that can stand where it does, after these (latest first): a name that stands for nothing, or a
-- closing brace after numbers that do not fit
abbrev pub flaw : List Named → List Token → Token → Option ExprError
flaw types seen (name at word) = unless_known at (stands_for types word)
flaw types seen (end_brace at) = bounds_flaw seen
flaw types seen _ = None

-- the fault is the answer, or where there is none the reading goes on
abbrev pub Unless : Option ExprError → Result Tree ExprError → Type 0 → Type 0
Unless (Some f) r onward = r ≡ Err f
Unless None r onward = onward

-- The tokens are read from the left. The first one that can't stand after those before it is a fault of syntax; before
-- that, the first one with a flaw gives its fault, or the first one by which an item gets too deep. At the end the tokens are
-- an expression, or that is the fault.
-- A fault of numbers is found at the closing brace and told at the opening one. Nothing between them can have a flaw, so
-- the fault that is found first is also the one that stands first in the text.
abbrev pub Reading : List Named → (size : ℕ) (seen left : List Token) → Result Tree ExprError → Type 0
Reading types size seen [] (Ok e) = Whole types seen e
Reading types size seen [] (Err f) = ((e : Tree) → ¬ Whole types seen e) × (f ≡ Syntax size)
Reading types size seen (t ∷ left) r =
    ((¬ Stands types (seen ++ t ∷ [])) × (r ≡ Err (Syntax (place t))))
    ⊎ (Stands types (seen ++ t ∷ []) × Unless (flaw types (reverse seen) t) r (Unless (depth_flaw (levels_of seen) t) r (Reading types size (seen ++ t ∷ []) left r)))

-- what the text of a content expression says: an expression, or its first fault
abbrev pub Reads : List Named → (text : List ℕ) → Result Tree ExprError → Type 0
Reads types text r = Reading types (length text) [] (tokens text) r

-- an answer is the reading; running out of memory may come with any
abbrev pub Is : {X : Type 0} → (X → Tree) → Result X ExprError → Result Tree ExprError → Type 0
Is view (Ok x) r = r ≡ Ok (view x)
Is view (Err NoMemory) r = Unit {0}
Is view (Err f) r = r ≡ Err f
