-- How the tokens are read: with a stack of the brackets that are open.
use Rattle.std.specs.Prelude.{ℕ, List, [], ◌∷◌, ◌++◌, length, Option, Some, None, Result, Ok, Err}
use Rattle.pm_auto.specs.Tree as tree
use Rattle.pm_auto.specs.Tree.{Tree}
use Rattle.pm_expr.specs.declared.error.ExprError.{ExprError}
use Rattle.pm_expr.specs.declared.error.ExprError.TheVariants.{Syntax}
use Rattle.pm_expr.specs.Tokens.{Token, name, bracket, end_bracket, bar, plus, star, query, brace, end_brace, number, comma, place, number_of, tokens}
use Rattle.pm_expr.specs.Names.{Named, joined, stands_for}
use Rattle.pm_expr.specs.Grammar.{said}
use Rattle.pm_expr.specs.Levels.{Levels, no_levels, counted, depth_flaw}
use Rattle.pm_expr.specs.Reading.{unless_fit, unless_known}

-- what was read of a choice when a bracket opened in it: its complete sequences, and the items of the one that goes on
pub record Frame : Type 0 where
  pub done : List Tree
  pub items : List Tree

-- where in braces the reader is: outside, or after the opening brace at `at`, after n, after the comma, after m
pub data Point : Type 0 where
  outside : Point
  opened : (at : ℕ) → Point
  low : (at n : ℕ) → Point
  parted : (at n : ℕ) → Point
  high : (at n m : ℕ) → Point

-- The brackets that are open, innermost first; of the innermost choice the complete sequences, the items before the
-- last one, and the last item, to which a suffix applies.
pub record State : Type 0 where
  pub over : List Frame
  pub done : List Tree
  pub items : List Tree
  pub last : Option Tree
  pub point : Point

abbrev pub state : List Frame → List Tree → List Tree → Option Tree → Point → State
state over done items last point = record { over = over; done = done; items = items; last = last; point = point }

abbrev pub frame : List Tree → List Tree → Frame
frame done items = record { done = done; items = items }

-- the items with the last one among them
abbrev pub settled : List Tree → Option Tree → List Tree
settled items None = items
settled items (Some e) = items ++ e ∷ []

abbrev pub sequence_of : List Tree → Tree → Tree
sequence_of items e = joined tree.seq (items ++ e ∷ [])

abbrev pub choice_of : List Tree → List Tree → Tree → Tree
choice_of done items e = joined tree.choice (done ++ sequence_of items e ∷ [])

-- the innermost bracket closes after an item
abbrev pub closed : List Frame → List Tree → List Tree → Option Tree → Option State
closed over done items None = None
closed [] done items (Some e) = None
closed (f ∷ fs) done items (Some e) = Some (state fs f.done f.items (Some (choice_of done items e)) outside)

-- what comes of the last item, if there is one
abbrev pub with_last : Option Tree → (Tree → State) → Option State
with_last None f = None
with_last (Some e) f = Some (f e)

-- outside of braces, where an item may come or has just come
abbrev pub after_token : List Named → List Frame → List Tree → List Tree → Option Tree → Token → Option State
after_token types over done items last (name at word) = Some (state over done (settled items last) (Some (said types word)) outside)
after_token types over done items last (bracket at) = Some (state (frame done (settled items last) ∷ over) [] [] None outside)
after_token types over done items last (end_bracket at) = closed over done items last
after_token types over done items last (bar at) = with_last last (λ e. state over (done ++ sequence_of items e ∷ []) [] None outside)
after_token types over done items last (plus at) = with_last last (λ e. state over done items (Some (tree.plus e)) outside)
after_token types over done items last (star at) = with_last last (λ e. state over done items (Some (tree.star e)) outside)
after_token types over done items last (query at) = with_last last (λ e. state over done items (Some (tree.opt e)) outside)
after_token types over done items last (brace at) = with_last last (λ e. state over done items (Some e) (opened at))
after_token types over done items last t = None

-- how often the last item comes
abbrev pub repeated : State → ℕ → Option ℕ → State
repeated s n m = state s.over s.done s.items (again s.last) outside
  where
    again : Option Tree → Option Tree
    again None = None
    again (Some e) = Some (tree.range e n m)

abbrev pub in_braces : State → Point → State
in_braces s p = state s.over s.done s.items s.last p

-- the state after a token, if the token can stand there
abbrev pub after_point : List Named → State → Point → Token → Option State
after_point types s outside t = after_token types s.over s.done s.items s.last t
after_point types s (opened at) (number b n) = Some (in_braces s (low at (number_of n)))
after_point types s (low at n) (comma b) = Some (in_braces s (parted at n))
after_point types s (low at n) (end_brace b) = Some (repeated s n (Some n))
after_point types s (parted at n) (number b m) = Some (in_braces s (high at n (number_of m)))
after_point types s (parted at n) (end_brace b) = Some (repeated s n None)
after_point types s (high at n m) (end_brace b) = Some (repeated s n (Some m))
after_point types s p t = None

abbrev pub after : List Named → State → Token → Option State
after types s t = after_point types s s.point t

-- the fault of a token that can stand
abbrev pub flaw_at : List Named → Point → Token → Option ExprError
flaw_at types outside (name at word) = unless_known at (stands_for types word)
flaw_at types (low at n) (end_brace b) = unless_fit at n (Some n)
flaw_at types (parted at n) (end_brace b) = unless_fit at n None
flaw_at types (high at n m) (end_brace b) = unless_fit at n (Some m)
flaw_at types p t = None

-- the state, or the fault
abbrev pub checked : Option ExprError → State → Result State ExprError
checked None s = Ok s
checked (Some f) s = Err f

abbrev pub stepped : (at : ℕ) → Option ExprError → Option State → Result State ExprError
stepped at f None = Err (Syntax at)
stepped at f (Some s) = checked f s

-- the state after a token, or its fault
abbrev pub step : List Named → State → Token → Result State ExprError
step types s t = stepped (place t) (flaw_at types s.point t) (after types s t)

abbrev pub start : State
start = state [] [] [] None outside

-- what the tokens say, of a text of this size
abbrev pub said_at_end : (size : ℕ) → Point → List Frame → Option Tree → (done items : List Tree) → Result Tree ExprError
said_at_end size outside [] (Some e) done items = Ok (choice_of done items e)
said_at_end size outside [] None [] [] = Ok tree.empty
said_at_end size p over last done items = Err (Syntax size)

abbrev pub finished : ℕ → State → Result Tree ExprError
finished size s = said_at_end size s.point s.over s.last s.done s.items

-- go on, or stay with the fault
infixl 10 ◌>>=◌
abbrev pub ◌>>=◌ : {A B : Type 0} → Result A ExprError → (A → Result B ExprError) → Result B ExprError
(Ok x) >>= f = f x
(Err e) >>= f = Err e

-- the answer, unless there is a fault before it
abbrev pub unless_fault : Option ExprError → Result Tree ExprError → Result Tree ExprError
unless_fault None r = r
unless_fault (Some f) r = Err f

-- the expression of the tokens that are left, or the first fault among them
abbrev pub outcome : List Named → (size : ℕ) → List Token → Levels → State → Result Tree ExprError
outcome types size [] l s = finished size s
outcome types size (t ∷ ts) l s = step types s t >>= (λ z. unless_fault (depth_flaw l t) (outcome types size ts (counted l t) z))

-- what a text says, read with the stack: it is the reading of the text by the grammar
abbrev pub expr_of : List Named → (text : List ℕ) → Result Tree ExprError
expr_of types text = outcome types (length text) (tokens text) no_levels start
