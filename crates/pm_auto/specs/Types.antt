-- The types that occur in an expression.
use Rattle.std.specs.Prelude.{◌≡◌, ℕ, List, [], ◌∷◌, ◌++◌, Bool, true, false, ◌||◌, slice_index_or}
use Rattle.pm_auto.specs.declared.expr.Expr.{Expr, Empty, One, Choice', Seq', Plus', Star', Opt', Range', Row_of-Expr, end_of-Expr, more_of-Expr}

abbrev mutual
  -- the types that occur, from the left
  pub types : Expr → List ℕ
  types Empty = []
  types (One t) = t ∷ []
  types (Choice' n es) = types_of_all es
  types (Seq' n es) = types_of_all es
  types (Plus' p e) = types e
  types (Star' p e) = types e
  types (Opt' p e) = types e
  types (Range' p e n m) = types e

  -- those of all parts
  pub types_of_all : {m : _} → Row_of-Expr m → List ℕ
  types_of_all end_of-Expr = []
  types_of_all (more_of-Expr e es) = types e ++ types_of_all es

-- the types of several expressions
abbrev pub types_of_list : List Expr → List ℕ
types_of_list [] = []
types_of_list (e ∷ es) = types e ++ types_of_list es

-- the two are equal
abbrev pub same : Bool → Bool → Bool
same true b = b
same false true = false
same false false = true

-- one of the types has this entry in the table
abbrev pub one_is : List Bool → Bool → List ℕ → Bool
one_is inline b [] = false
one_is inline b (t ∷ ts) = same (slice_index_or inline t false) b || one_is inline b ts

-- an inline and a block type occur
abbrev pub Is_mixed : Expr → List Bool → Type 0
Is_mixed e inline = (one_is inline true (types e) ≡ true) × (one_is inline false (types e) ≡ true)
