use Rattle.std.proofs.Common.{rules, ◌≡◌, true, false, length, ap, sym, ◌∙◌}
use Rattle.std.specs.List.{list_all}
use Rattle.pm_head.specs.Lines.{lines_of}
use Rattle.pm_head.proofs.Missing.{no_lines}
use Rattle.pm_script.proofs.Entering.{all_by, at-first, first-long, all-have, one-has-not, one-line, length-after}
use Rattle.pm_script.proofs.entrants.all_enter.Goals as goal

pub loop-rest-init : goal.loop-rest-init
loop-rest-init c =
    let clients = c.args.clients.now in
    let as_many : length c.in_ok-entered.entered.items ≡ length c.args.clients.now = ap length c.in_ok-entered.ensures ∙ first-long clients in
    record {
      long = search rules;
      found = ap (λ es. all_by clients es (lines_of c.args.input.now)) c.in_ok-entered.ensures ∙ at-first clients (lines_of c.args.input.now);
    }

pub loop-rest-preserved : goal.loop-rest-preserved
loop-rest-preserved c =
    let clients = c.args.clients.now in
    let had = c.loop-rest.entered.items in
    let line = c.in-Some.line.now in
    let after = lines_of c.in-Some.after.now in
    let as_many : length c.loop-rest.entered.items ≡ length c.args.clients.now = search rules in
    let as_many_after : length c.in_ok-entered-2.entered.items ≡ length c.args.clients.now = ap length c.in_ok-entered-2.ensures ∙ length-after line clients had as_many in
    record {
      long = search rules;
      found = ap (λ es. all_by clients es after) c.in_ok-entered-2.ensures ∙ one-line line clients had after ∙ sym (ap (all_by clients had) c.in-Some.ensures.lines) ∙ c.loop-rest.invariant.found;
    }

pub returns-in_default : goal.returns-in_default
returns-in_default c =
    let clients = c.args.clients.now in
    let had = c.loop-rest.entered.items in
    let as_many : length c.loop-rest.entered.items ≡ length c.args.clients.now = search rules in
    let not_all : list_all (λ f. f) c.loop-rest.entered.items ≡ false = search rules in
    let none = no_lines c.loop-rest.rest.now c.in_default.ensures.lines in
    sym (one-has-not clients had as_many not_all) ∙ sym (ap (all_by clients had) none) ∙ c.loop-rest.invariant.found

pub returns : goal.returns
returns c =
    let all : list_all (λ f. f) c.loop-rest.entered.items ≡ true = search rules in
    sym (all-have c.args.clients.now c.loop-rest.entered.items (lines_of c.loop-rest.rest.now) all) ∙ c.loop-rest.invariant.found
