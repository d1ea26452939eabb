-- No reading of a content expression is want of memory.
use Rattle.std.proofs.Common.{ℕ, List, [], ◌∷◌, length, Bool, true, false}
use Rattle.std.specs.Prelude.{nat_le, Option, Some, None, Result, Ok, Err, if◌then◌else◌}
use Rattle.pm_auto.specs.Tree.{Tree}
use Rattle.pm_expr.specs.declared.error.ExprError.{ExprError}
use Rattle.pm_expr.specs.declared.error.ExprError.TheVariants as expr
use Rattle.pm_expr.specs.Tokens.{Token, name, bracket, end_bracket, bar, plus, star, query, brace, end_brace, number, comma, stray, place, tokens}
use Rattle.pm_expr.specs.Names.{Named, stands_for}
use Rattle.pm_expr.specs.Levels.{Levels, no_levels, counted, max_levels, depth_flaw, unless_shallow}
use Rattle.pm_expr.specs.Reading.{fit, unless_fit, unless_known}
use Rattle.pm_expr.specs.Reader.{Frame, State, Point, outside, opened, low, parted, high, start, after, flaw_at, stepped, step, said_at_end, ◌>>=◌, unless_fault, outcome, expr_of}
use Rattle.pm_laws.specs.Memory.{Reads}

-- a fault of the expression itself
abbrev pub IsOfExpr : ExprError → Type 0
IsOfExpr (expr.Syntax at) = Unit {0}
IsOfExpr (expr.UnknownName at) = Unit {0}
IsOfExpr (expr.Range at) = Unit {0}
IsOfExpr (expr.Deep at) = Unit {0}
IsOfExpr expr.NoMemory = ⊥

-- there is no fault, or it is so
abbrev Flaws : Option ExprError → Type 0
Flaws None = Unit {0}
Flaws (Some f) = IsOfExpr f

fit-flaws : (at n : ℕ) (m : Option ℕ) → Flaws (unless_fit at n m)
fit-flaws at n m = by-test (fit n m)
  where
    by-test : (b : Bool) → Flaws (if b then None else Some (expr.Range at))
    by-test true = tt
    by-test false = tt

known-flaws : (at : ℕ) (e : Option Tree) → Flaws (unless_known at e)
known-flaws at None = tt
known-flaws at (Some e) = tt

shallow-flaws : (at : ℕ) (n : Option ℕ) → Flaws (unless_shallow at n)
shallow-flaws at None = tt
shallow-flaws at (Some n) = by-test (nat_le n max_levels)
  where
    by-test : (b : Bool) → Flaws (if b then None else Some (expr.Deep at))
    by-test true = tt
    by-test false = tt

at-flaws : (types : List Named) (p : Point) (t : Token) → Flaws (flaw_at types p t)
at-flaws types outside (name at w) = known-flaws at (stands_for types w)
at-flaws types outside (bracket at) = tt
at-flaws types outside (end_bracket at) = tt
at-flaws types outside (bar at) = tt
at-flaws types outside (plus at) = tt
at-flaws types outside (star at) = tt
at-flaws types outside (query at) = tt
at-flaws types outside (brace at) = tt
at-flaws types outside (end_brace at) = tt
at-flaws types outside (number at w) = tt
at-flaws types outside (comma at) = tt
at-flaws types outside (stray at) = tt
at-flaws types (opened a) t = tt
at-flaws types (low a n) (name at w) = tt
at-flaws types (low a n) (bracket at) = tt
at-flaws types (low a n) (end_bracket at) = tt
at-flaws types (low a n) (bar at) = tt
at-flaws types (low a n) (plus at) = tt
at-flaws types (low a n) (star at) = tt
at-flaws types (low a n) (query at) = tt
at-flaws types (low a n) (brace at) = tt
at-flaws types (low a n) (end_brace at) = fit-flaws a n (Some n)
at-flaws types (low a n) (number at w) = tt
at-flaws types (low a n) (comma at) = tt
at-flaws types (low a n) (stray at) = tt
at-flaws types (parted a n) (name at w) = tt
at-flaws types (parted a n) (bracket at) = tt
at-flaws types (parted a n) (end_bracket at) = tt
at-flaws types (parted a n) (bar at) = tt
at-flaws types (parted a n) (plus at) = tt
at-flaws types (parted a n) (star at) = tt
at-flaws types (parted a n) (query at) = tt
at-flaws types (parted a n) (brace at) = tt
at-flaws types (parted a n) (end_brace at) = fit-flaws a n None
at-flaws types (parted a n) (number at w) = tt
at-flaws types (parted a n) (comma at) = tt
at-flaws types (parted a n) (stray at) = tt
at-flaws types (high a n m) (name at w) = tt
at-flaws types (high a n m) (bracket at) = tt
at-flaws types (high a n m) (end_bracket at) = tt
at-flaws types (high a n m) (bar at) = tt
at-flaws types (high a n m) (plus at) = tt
at-flaws types (high a n m) (star at) = tt
at-flaws types (high a n m) (query at) = tt
at-flaws types (high a n m) (brace at) = tt
at-flaws types (high a n m) (end_brace at) = fit-flaws a n (Some m)
at-flaws types (high a n m) (number at w) = tt
at-flaws types (high a n m) (comma at) = tt
at-flaws types (high a n m) (stray at) = tt

stepped-reads : (at : ℕ) (f : Option ExprError) (z : Option State) → Flaws f → Reads IsOfExpr (stepped at f z)
stepped-reads at f None h = tt
stepped-reads at None (Some s) h = tt
stepped-reads at (Some f) (Some s) h = h

fault-reads : (f : Option ExprError) (r : Result Tree ExprError) → Flaws f → Reads IsOfExpr r → Reads IsOfExpr (unless_fault f r)
fault-reads None r h k = k
fault-reads (Some f) r h k = h

end-reads : (size : ℕ) (p : Point) (over : List Frame) (last : Option Tree) (done items : List Tree) → Reads IsOfExpr (said_at_end size p over last done items)
end-reads size outside [] (Some e) done items = tt
end-reads size outside [] None [] [] = tt
end-reads size outside [] None [] (i ∷ rest) = tt
end-reads size outside [] None (d ∷ rest) items = tt
end-reads size outside (o ∷ os) last done items = tt
end-reads size (opened a) over last done items = tt
end-reads size (low a n) over last done items = tt
end-reads size (parted a n) over last done items = tt
end-reads size (high a n m) over last done items = tt

outcome-reads : (types : List Named) (size : ℕ) (ts : List Token) (l : Levels) (s : State) → Reads IsOfExpr (outcome types size ts l s)
outcome-reads types size [] l s = end-reads size s.point s.over s.last s.done s.items
outcome-reads types size (t ∷ ts) l s =
    go (step types s t) (stepped-reads (place t) (flaw_at types s.point t) (after types s t) (at-flaws types s.point t)) (λ z. outcome-reads types size ts (counted l t) z)
  where
    go : (r : Result State ExprError) → Reads IsOfExpr r → ((z : State) → Reads IsOfExpr (outcome types size ts (counted l t) z))
        → Reads IsOfExpr (r >>= (λ z. unless_fault (depth_flaw l t) (outcome types size ts (counted l t) z)))
    go (Ok z) h rest = fault-reads (depth_flaw l t) (outcome types size ts (counted l t) z) (shallow-flaws (place t) (counted l t).last) (rest z)
    go (Err e) h rest = h

pub expr-reads : (types : List Named) (text : List ℕ) → Reads IsOfExpr (expr_of types text)
expr-reads types text = outcome-reads types (length text) (tokens text) no_levels start
