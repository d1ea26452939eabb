-- The reader of the code, as the definitions see it.
use Rattle.std.specs.Prelude.{◌≡◌, List, [], map, reverse, drop, Some, None, option_map, Result, Ok, Err}
use Rattle.pm_auto.specs.Tree.{tree}
use Rattle.pm_expr.specs.declared.error.ExprError.{ExprError}
use Rattle.pm_expr.specs.declared.error.ExprError.TheVariants.{NoMemory}
use Rattle.pm_expr.specs.declared.tokens.Token.{Token as Read}
use Rattle.pm_expr.specs.declared.tokens.Token.TheVariants as code
use Rattle.pm_expr.specs.declared.tokens.Tokens.{Tokens}
use Rattle.pm_expr.specs.declared.reader.Point.{Point as Where}
use Rattle.pm_expr.specs.declared.reader.Point.TheVariants as at
use Rattle.pm_expr.specs.declared.reader.Open.{Open}
use Rattle.pm_expr.specs.declared.reader.Reader.{Reader}
use Rattle.pm_expr.specs.declared.levels.Levels.{Levels as Counter}
use Rattle.pm_expr.specs.Tokens.{Token, name, bracket, end_bracket, bar, plus, star, query, brace, end_brace, number, comma, stray, tokens_from}
use Rattle.pm_expr.specs.Levels.{Levels, levels, counted, depth_flaw, IsShallow}
use Rattle.pm_expr.specs.Reader.{State, state, Frame, frame, Point, outside, opened, low, parted, high}

abbrev pub token_of : Read → Token
token_of (code.Name at w) = name at w.now
token_of (code.Bracket at) = bracket at
token_of (code.EndBracket at) = end_bracket at
token_of (code.Bar at) = bar at
token_of (code.Plus at) = plus at
token_of (code.Star at) = star at
token_of (code.Query at) = query at
token_of (code.Brace at) = brace at
token_of (code.EndBrace at) = end_brace at
token_of (code.Number at w) = number at w.now
token_of (code.Comma at) = comma at
token_of (code.Stray at) = stray at

-- the tokens that are left
abbrev pub left_of : Tokens → List Token
left_of t = tokens_from t.inside t.at [] (drop t.at t.text.now)

abbrev pub point_of : Where → Point
point_of at.Outside = outside
point_of (at.Opened a) = opened a
point_of (at.Low a n) = low a n
point_of (at.Parted a n) = parted a n
point_of (at.High a n m) = high a n m

abbrev pub frame_of : Open → Frame
frame_of f = frame (map tree f.done.items) (map tree f.items.items)

abbrev pub state_of : Reader → State
state_of r = state (reverse (map frame_of r.over.items)) (map tree r.done.items) (map tree r.items.items) (option_map tree r.last) (point_of r.point)

-- the answer of a step that leads to this state; running out of memory may come with any
abbrev pub Steps : {X : Type 0} → Result X ExprError → State → Result State ExprError → Type 0
Steps (Ok x) s r = r ≡ Ok s
Steps (Err NoMemory) s r = Unit {0}
Steps (Err f) s r = r ≡ Err f

-- the levels that were counted
abbrev pub levels_in : Counter → Levels
levels_in l = levels (reverse l.over.items) l.before l.last

-- the answer of counting a token; running out of memory may come with any
abbrev pub Counts : {X : Type 0} → Result X ExprError → Levels → Levels → Token → Type 0
Counts (Ok x) new old t = (new ≡ counted old t) × (depth_flaw old t ≡ None) × IsShallow new.last
Counts (Err NoMemory) new old t = Unit {0}
Counts (Err f) new old t = depth_flaw old t ≡ Some f
