use Rattle.std.proofs.Common.{◌≡◌, ◌++◌, List, ℕ, IsTrue, subst}
use Rattle.std.specs.Prelude.{OnOk}
use Rattle.pm_journal.specs.Lines.{recorded, IsBeforeOrAfter}
use Rattle.pm_journal.proofs.Lines.{holds_line, lines_of_line}
use Rattle.pm_journal.proofs.journal.Journal.append.Goals as goal

pub add-requires-clause-lines : goal.add-requires-clause-lines
add-requires-clause-lines g c = holds_line c.args.line.now c.requires.line

pub returns-clause-added : goal.returns-clause-added
returns-clause-added g c =
    let disk = c.add.new.self.disk in
    let old = recorded (g.D.Disk.seen c.args.self.now.disk) in
    subst (λ (ls : List (List ℕ)). OnOk c.add.result (IsTrue (g.D.Disk.is_clean disk) → recorded (g.D.Disk.seen disk) ≡ old ++ ls)) (lines_of_line c.args.line.now c.requires.line) c.add.ensures.added

pub returns-clause-crash : goal.returns-clause-crash
returns-clause-crash g c =
    let disk = c.add.new.self.disk in
    let old = recorded (g.D.Disk.seen c.args.self.now.disk) in
    subst (λ (ls : List (List ℕ)). IsTrue (g.D.Disk.is_clean disk) → (d : List ℕ) → g.D.Disk.may_leave disk d → IsBeforeOrAfter old ls d) (lines_of_line c.args.line.now c.requires.line) c.add.ensures.crash
