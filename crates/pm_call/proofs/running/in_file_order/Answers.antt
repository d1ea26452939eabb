use Rattle.std.proofs.Common.{rules}
use Rattle.std.proofs.lemmas.List.Sorted.{IsNonDecreasingBy-from_sort_by_key}
use Rattle.pm_report.specs.declared.outcomes.Numbered.{Numbered}
use Rattle.pm_call.proofs.running.in_file_order.Goals as goal

pub returns : goal.returns
returns c = record {
  all = rw c.in_ok-told.ensures at c.in_ok-sort_by_key.ensures.permutation;
  increasing = IsNonDecreasingBy-from_sort_by_key (λ (o : Numbered). o.number) _ c.in_ok-sort_by_key.ensures.sorted (λ a r q k. search rules);
}
