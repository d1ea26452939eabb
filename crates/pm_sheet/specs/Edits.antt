-- A list of numbers, and its two edits.
use Rattle.std.specs.Prelude.{ℕ, ◌+◌, ◌≤◌, ◌<◌, ◌^◌, ◌&&◌, Bool, true, false, if◌then◌else◌, nat_lt, List, [], ◌∷◌, length, slice_get, remove, insert, Option, Some, None, Result, Ok, Err}
use Rattle.pm_map.specs.declared.side.Side.TheVariants.{After}
use Rattle.pm_map.specs.declared.step_map.Span.{Span}
use Rattle.pm_map.specs.declared.step_map.Moved.{Moved}
use Rattle.pm_map.specs.declared.mapping.Mirrored.{Mirrored}
use Rattle.pm_map.specs.Through.{through}
use Rattle.pm_change.specs.Changes.{Meaning}
use Rattle.pm_change.specs.Failing.{Answers}
use Rattle.pm_change.specs.declared.failed.Failed.{Failed}
use Rattle.pm_sheet.specs.declared.Rules.{Rules}
use Rattle.pm_sheet.specs.declared.Edit.{Edit}
use Rattle.pm_sheet.specs.declared.Edit.TheVariants.{Insert, Delete}
use Rattle.pm_sheet.specs.declared.Reason.{Reason}
use Rattle.pm_sheet.specs.declared.Reason.TheVariants.{Range, Large}

abbrev pub Sheet : Type 0
Sheet = List ℕ

-- not larger than the rules allow, and these no larger than maps carry
abbrev pub is_good : Rules → Sheet → Type 0
is_good rules doc = (length doc ≤ rules.limit) × (length doc < 2 ^ 32)

abbrev pub without : Bool → Sheet → ℕ → Result Sheet Reason
without true doc at = Ok (remove doc at)
without false doc at = Err Range

abbrev pub placed : Bool → Bool → Sheet → ℕ → ℕ → Result Sheet Reason
placed true room doc at value = Err Range
placed false false doc at value = Err Large
placed false true doc at value = Ok (insert doc at value)

abbrev pub has_room : Rules → Sheet → Bool
has_room rules doc = nat_lt (length doc) rules.limit && nat_lt (length doc + 1) (2 ^ 32)

abbrev pub outcome : Rules → Edit → Sheet → Result Sheet Reason
outcome rules (Insert at value) doc = placed (nat_lt (length doc) at) (has_room rules doc) doc at value
outcome rules (Delete at) doc = without (nat_lt at (length doc)) doc at

abbrev pub back_in : ℕ → Option ℕ → List Edit
back_in at None = []
back_in at (Some value) = Insert at value ∷ []

abbrev pub inverse : Rules → Edit → Sheet → List Edit
inverse rules (Insert at value) doc = Delete at ∷ []
inverse rules (Delete at) doc = back_in at (slice_get doc at)

abbrev pub ranges : Edit → List Span
ranges (Insert at value) = record { start = at; old_size = 0; new_size = 1 } ∷ []
ranges (Delete at) = record { start = at; old_size = 1; new_size = 0 } ∷ []

abbrev pub kept_delete : Moved → Option Edit
kept_delete m = if m.deleted then None else Some (Delete m.pos)

abbrev pub carried : Edit → List Mirrored → Option Edit
carried (Insert at value) ms = Some (Insert (through ms at After).pos value)
carried (Delete at) ms = kept_delete (through ms at After)

abbrev pub is_within : Edit → ℕ → Type 0
is_within (Insert at value) n = at ≤ n
is_within (Delete at) n = at < n

abbrev pub meaning : Meaning Rules Sheet Reason Edit
meaning = record {
  is_good = is_good;
  is_loose = λ rules. Unit {0};
  outcome = outcome;
  inverse = inverse;
  step_map = ranges;
  carry = carried;
  size = λ doc. length doc;
  is_within = is_within;
}

-- this sheet, or running out of memory
abbrev pub PutOr : Sheet → Result Sheet (Failed Reason) → Type 0
PutOr doc r = Answers (Ok doc) r
