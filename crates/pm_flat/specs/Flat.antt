-- What a step on a document of one paragraph means. The document is seen as the list of the paragraph's units.
use Rattle.std.specs.Prelude.{ℕ, ◌+◌, ◌-◌, ◌≤◌, ◌==◌, ◌&&◌, ◌||◌, Bool, true, false, nat_lt, nat_le, not, if◌then◌else◌, List, [], ◌∷◌, ◌++◌, length, take, drop, Option, Some, None, Result, Ok, Err}
use Rattle.pm_map.specs.declared.side.Side.TheVariants.{Before, After}
use Rattle.pm_map.specs.declared.step_map.Span.{Span}
use Rattle.pm_map.specs.declared.step_map.Moved.{Moved}
use Rattle.pm_map.specs.declared.mapping.Mirrored.{Mirrored}
use Rattle.pm_map.specs.Through.{through}
use Rattle.pm_change.specs.Changes.{Meaning}
use Rattle.pm_flat.specs.declared.flat.Replace.{Replace}
use Rattle.pm_flat.specs.declared.flat.Reason.{Reason}
use Rattle.pm_flat.specs.declared.flat.Reason.TheVariants.{Range, Depth, Large, Content}

-- the greatest content size, in tokens
abbrev pub max_size : ℕ
max_size = 500000

-- the content size: the paragraph's opening, its units and its close
abbrev pub size : List ℕ → ℕ
size doc = length doc + 2

-- a position is inside the paragraph from 1 to one before the size
abbrev pub is_inside : ℕ → ℕ → Bool
is_inside size p = nat_le 1 p && nat_lt p size

abbrev pub same : Bool → Bool → Bool
same true b = b
same false b = not b

-- the document with the text in place of what stands between the positions
abbrev pub spliced : Replace → List ℕ → List ℕ
spliced step doc = take (step.from - 1) doc ++ step.text ++ drop (step.to - 1) doc

-- nothing is taken out and nothing put in
abbrev pub is_empty : Replace → Bool
is_empty step = (step.from == step.to) && (length step.text == 0)

-- the next document, or the first reason in the order Range, Depth, Large, Content
abbrev pub outcome : Replace → List ℕ → Result (List ℕ) Reason
outcome step doc =
    if nat_lt step.to step.from || nat_lt (size doc) step.to then Err Range
    else (if not (same (is_inside (size doc) step.from) (is_inside (size doc) step.to)) then Err Depth
    else (if nat_lt max_size (size doc - (step.to - step.from) + length step.text) then Err Large
    else (if is_inside (size doc) step.from then Ok (spliced step doc)
    else (if is_empty step then Ok doc else Err (Content 0)))))

-- the step that puts back what a step takes out of a document
abbrev pub back_step : Replace → List ℕ → Replace
back_step step doc = record { from = step.from; to = step.from + length step.text; text = take (step.to - step.from) (drop (step.from - 1) doc) }

-- what a step puts in place of what it takes out, where it stands
abbrev pub range_of : Replace → Span
range_of step = record { start = step.from; old_size = step.to - step.from; new_size = length step.text }

-- the second position, raised to the first
abbrev pub raised : ℕ → ℕ → ℕ
raised from to = if nat_lt to from then from else to

-- A step between two moved positions. It is lost where both went across what was taken out.
abbrev pub between : Replace → Moved → Moved → Option Replace
between step from to =
    if from.across && to.across then None else Some (record { from = from.pos; to = raised from.pos to.pos; text = step.text })

-- A step over maps: its first position goes by `After` and its second by `Before`.
abbrev pub carried : Replace → List Mirrored → Option Replace
carried step maps = between step (through maps step.from After) (through maps step.to Before)

-- a step between two positions of a document of this size, which puts in no more than a document may hold
abbrev pub is_within : Replace → ℕ → Type 0
is_within step n = (step.from ≤ step.to) × (step.to ≤ n) × (length step.text ≤ max_size)

-- A document is good within the greatest size. What undoes a step always applies right after it.
abbrev pub meaning : Meaning (Unit {0}) (List ℕ) Reason Replace
meaning = record {
  is_good = λ rules doc. size doc ≤ max_size;
  is_loose = λ rules. Unit {0};
  outcome = λ rules step doc. outcome step doc;
  inverse = λ rules step doc. back_step step doc ∷ [];
  step_map = λ step. range_of step ∷ [];
  carry = carried;
  size = size;
  is_within = is_within;
}
