use Rattle.std.proofs.Common.{◌≡◌, ◌<◌, ◌≤◌, ◌||◌, ℕ, false, get_or}
use Rattle.pm_schema.specs.Types.{no_mark}
use Rattle.pm_schema.specs.MarkTexts.{means}
use Rattle.pm_schema.proofs.mark_texts.mark_word.Given as goal

-- the places before i are done, and the rest is as it was
abbrev pub invariant-loop-i : goal.invariant-loop-i
invariant-loop-i l =
    ((j : ℕ) → j < l.i → get_or l.row j false ≡ (get_or l.initial.row j false || means l.marks l.word (get_or l.marks j no_mark)))
    × ((j : ℕ) → l.i ≤ j → get_or l.row j false ≡ get_or l.initial.row j false)
