use Rattle.std.proofs.Common.{◌≡◌, ◌<◌, ℕ, false, length, get_or, map, take}
use Rattle.std.specs.List.{list_any}
use Rattle.pm_schema.specs.Types.{no_mark}
use Rattle.pm_schema.specs.MarkTexts.{means}
use Rattle.pm_schema.proofs.mark_texts.named.Given as goal

abbrev pub invariant-loop-word : goal.invariant-loop-word
invariant-loop-word l =
    (length l.row.items ≡ length l.marks)
    × ((i : ℕ) → i < length l.marks → get_or l.row.items i false ≡ list_any (λ w. means l.marks w (get_or l.marks i no_mark)) (map (λ x. x.now) (take l.word-index l.word-items)))
