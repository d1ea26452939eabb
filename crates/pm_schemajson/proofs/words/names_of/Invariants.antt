use Rattle.std.proofs.Common.{◌≡◌, ◌++◌, map, drop}
use Rattle.std.specs.List.{list_all}
use Rattle.pm_schemajson.specs.Words.{is_name}
use Rattle.pm_schemajson.proofs.words.names_of.Given as goal

abbrev pub invariant-loop-word : goal.invariant-loop-word
invariant-loop-word l = record {
  all : list_all is_name (map (λ x. x.now) l.words) ≡ list_all is_name (map (λ x. x.now) (drop l.word-index l.words));
  are : map (λ x. x.now) l.words ≡ l.names ++ map (λ x. x.now) (drop l.word-index l.words);
}
