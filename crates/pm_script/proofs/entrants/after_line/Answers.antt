use Rattle.std.proofs.Common.{rules, ◌≡◌, ap, ◌∙◌, Some, None}
use Rattle.std.specs.Prelude.{option_and_then}
use Rattle.serde_json.specs.View.{view}
use Rattle.pm_head.specs.Lines.{json_of}
use Rattle.pm_script.specs.Entrants.{entrant_of}
use Rattle.pm_script.proofs.Entering.{by-nobody}
use Rattle.pm_script.proofs.entrants.after_line.Goals as goal

pub returns-in_default : goal.returns-in_default
returns-in_default c =
    let none : json_of c.args.line.now ≡ None = search rules in
    by-nobody c.args.line.now c.args.clients.now c.args.entered.items (search rules) (ap (option_and_then entrant_of) none)

pub returns-in_default-entrant_of : goal.returns-in_default-entrant_of
returns-in_default-entrant_of c =
    let some : json_of c.args.line.now ≡ Some (view c.in-Some.json) = search rules in
    let none : entrant_of (view c.in-Some.json) ≡ None = search rules in
    by-nobody c.args.line.now c.args.clients.now c.args.entered.items (search rules) (ap (option_and_then entrant_of) some ∙ none)
