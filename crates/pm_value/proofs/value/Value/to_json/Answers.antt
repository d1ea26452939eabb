use Rattle.std.proofs.Common.{◌≡◌, ◌≤◌}
use Rattle.std.specs.Prelude.{Ok}
use Rattle.serde_json.specs.View.{view}
use Rattle.pm_value.specs.Plain.{depth}
use Rattle.pm_value.specs.Views.{plain}
use Rattle.pm_value.specs.Reading.{value_of}
use Rattle.pm_value.specs.Writing.{written}
use Rattle.pm_value.specs.Kept.{IsKept}
use Rattle.pm_value.proofs.Again.{value-again}
use Rattle.pm_value.proofs.Keeping.{both-then}
use Rattle.pm_value.proofs.value.Value.to_json.Goals as goal

pub returns-clause-again : goal.returns-clause-again
returns-clause-again c =
    let p = plain c.args.self.now in
    both-then (λ j. view j ≡ written p) (λ _. IsKept p) (λ j. depth p ≤ 4 → value_of (view j) ≡ Ok p) c.json_of.result
    (λ j is kept. λ low. rw is (value-again p 4 kept low)) c.json_of.ensures.written c.json_of.ensures.kept
