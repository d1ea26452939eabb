use Rattle.std.proofs.Common.{◌≡◌, ◌++◌, map, drop}
use Rattle.std.specs.Prelude.{not, ◌==◌, length}
use Rattle.std.specs.List.{filter}
use Rattle.pm_schema.specs.MarkTexts.{words}
use Rattle.pm_schema.proofs.mark_texts.words.Given as goal

abbrev pub invariant-loop-piece : goal.invariant-loop-piece
invariant-loop-piece l = words l.text ≡ map (λ x. x.now) l.words.items ++ filter (λ w. not (length w == 0)) (map (λ x. x.now) (drop l.piece-index l.piece-items))
