use Rattle.std.proofs.Common.{◌≡◌, map, drop}
use Rattle.std.specs.List.{list_all}
use Rattle.pm_schema.specs.MarkTexts.{is_known, all_known}
use Rattle.pm_schema.proofs.mark_texts.all_known.Given as goal

abbrev pub invariant-loop-word : goal.invariant-loop-word
invariant-loop-word l = all_known l.marks l.text ≡ list_all (is_known l.marks) (map (λ x. x.now) (drop l.word-index l.word-items))
