use Rattle.std.proofs.Common.{List, ℕ, length, sym, subst, ap, ◌∙◌}
use Rattle.pm_journal.specs.Lines.{records, IsAtRest}
use Rattle.pm_journal.specs.Journal.{texts}
use Rattle.pm_journal.proofs.Lines.{at_rest_recorded}
use Rattle.pm_journal.proofs.journal.Journal.resume.Goals as goal

pub returns-clause-open : goal.returns-clause-open
returns-clause-open g c = record {
  ready = record {
    usable = c.requires.usable;
    settled = λ clean.
        let found = c.requires.found clean in
        let now = g.D.Disk.seen c.args.disk in
        let same = sym (at_rest_recorded (texts c.args.found.now) now found.at_rest) in
        record {
          file = subst (λ (ls : List (List ℕ)). IsAtRest ls now) same found.at_rest;
          end = found.end ∙ ap (λ (ls : List (List ℕ)). length (records ls)) same;
          durable = c.requires.durable clean;
        };
  };
  some = λ clean none.
      let found = c.requires.found clean in
      found.some (sym (at_rest_recorded (texts c.args.found.now) (g.D.Disk.seen c.args.disk) found.at_rest) ∙ none);
}
