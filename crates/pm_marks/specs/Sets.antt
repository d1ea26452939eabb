-- Sets of marks, as lists: adding a mark, taking one out, and which lists are sets.
use Rattle.std.specs.Prelude.{◌≡◌, ℕ, ◌==◌, nat_lt, Bool, true, false, not, ◌&&◌, if◌then◌else◌, List, [], ◌∷◌, length}
use Rattle.std.specs.Option.{unwrap_or}
use Rattle.std.specs.List.{list_any, filter, insert, position}
use Rattle.pm_marks.specs.Rules.{excludes}
use Rattle.pm_marks.specs.declared.mark.Mark.{Mark}

module _ {A : Type 0} (equal : A → A → Bool) where
  -- two marks are the same: they have one type and equal attributes
  abbrev pub same_mark : Mark A → Mark A → Bool
  same_mark m n = (m.kind == n.kind) && equal m.attrs n.attrs

  -- two lists have the same marks in the same order
  abbrev pub same_marks : List (Mark A) → List (Mark A) → Bool
  same_marks [] [] = true
  same_marks (m ∷ ms) (n ∷ ns) = same_mark m n && same_marks ms ns
  same_marks _ _ = false

  -- the same mark is in the set
  abbrev pub has : List (Mark A) → Mark A → Bool
  has set mark = list_any (λ m. same_mark m mark) set

  -- the set without that mark
  abbrev pub removed : List (Mark A) → Mark A → List (Mark A)
  removed set mark = filter (λ m. not (same_mark m mark)) set

module _ {A : Type 0} (table : List (List Bool)) where
  -- a mark of the set excludes the new one, which does not exclude it
  abbrev pub keeps_out : List (Mark A) → Mark A → Bool
  keeps_out set mark = list_any (λ m. excludes table m.kind mark.kind && not (excludes table mark.kind m.kind)) set

  -- the marks that the new one does not exclude
  abbrev pub kept : List (Mark A) → Mark A → List (Mark A)
  kept set mark = filter (λ m. not (excludes table mark.kind m.kind)) set

module _ {A : Type 0} where
  -- the place of the first mark of higher rank than the new one, or the end: a mark's rank is the number of its type
  abbrev pub rank_place : List (Mark A) → Mark A → ℕ
  rank_place marks mark = unwrap_or (position (λ m. nat_lt mark.kind m.kind) marks) (length marks)

  -- the marks with the new one at that place
  abbrev pub placed : List (Mark A) → Mark A → List (Mark A)
  placed marks mark = insert marks (rank_place marks mark) mark

module _ {A : Type 0} (equal : A → A → Bool) (table : List (List Bool)) where
  -- Adding a mark. Where the same mark is there, the set stays. Else, where a mark that the new one does not exclude
  -- excludes the new one, the set stays. Else the marks that the new one excludes go, and it is put at its rank.
  unfoldable pub added : List (Mark A) → Mark A → List (Mark A)
  added set mark =
      if has equal set mark
      then set
      else (if keeps_out table set mark then set else placed (kept table set mark) mark)

  -- the set after adding these marks in order
  abbrev pub all_added : List (Mark A) → List (Mark A) → List (Mark A)
  all_added set [] = set
  all_added set (m ∷ ms) = all_added (added set m) ms

  -- a list of marks is a set where adding them in order to the empty set gives it back
  abbrev pub IsSet : List (Mark A) → Type 0
  IsSet marks = all_added [] marks ≡ marks
