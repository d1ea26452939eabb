use Rattle.std.proofs.Common.{◌≡◌, ◌++◌, ◌∷◌, [], ap, subst, sym, rules, ◌∙◌}
use Rattle.pm_journal.specs.Lines.{HoldsLines, lines_of}
use Rattle.pm_journal.proofs.Lines.{holds_more, lines_of_more}
use Rattle.pm_journal.proofs.group.Group.with.Goals as goal

pub returns-clause-holds : goal.returns-clause-holds
returns-clause-holds c =
    let old = c.args.self.now.text.items in
    let line = c.args.line.now in
    let whole : c.extend_from_slice-2.new.self.items ≡ (old ++ 10 ∷ 32 ∷ []) ++ line = search rules in
    subst HoldsLines (sym whole) (holds_more old line c.requires.holds c.requires.line)

pub returns-clause-lines : goal.returns-clause-lines
returns-clause-lines c =
    let old = c.args.self.now.text.items in
    let line = c.args.line.now in
    let whole : c.extend_from_slice-2.new.self.items ≡ (old ++ 10 ∷ 32 ∷ []) ++ line = search rules in
    ap lines_of whole ∙ lines_of_more old line c.requires.holds c.requires.line
