use Rattle.std.proofs.Common.{◌≡◌, ap, subst, sym, rules, ◌∙◌}
use Rattle.pm_journal.specs.Lines.{HoldsLines, lines_of}
use Rattle.pm_journal.proofs.Lines.{holds_line, lines_of_line}
use Rattle.pm_journal.proofs.group.Group.of.Goals as goal

pub returns-clause-holds : goal.returns-clause-holds
returns-clause-holds c =
    let line = c.args.line.now in
    let copied : c.in_ok-to_vec.field-0.items ≡ line = search rules in
    subst HoldsLines (sym copied) (holds_line line c.requires)

pub returns-clause-lines : goal.returns-clause-lines
returns-clause-lines c =
    let line = c.args.line.now in
    let copied : c.in_ok-to_vec.field-0.items ≡ line = search rules in
    ap lines_of copied ∙ lines_of_line line c.requires
