use Rattle.std.proofs.Common.{◌≡◌, true, Some, List, ℕ, refl, sym, ◌∙◌, ap, subst, rules}
use Rattle.pm_journal.specs.Lines.{recorded, lines_of, HoldsLines, IsBeforeOrAfter}
use Rattle.pm_kept.specs.Kept.{held_lines, AreHeld, CouldNotKeep}
use Rattle.pm_kept.proofs.Files.{could_not}
use Rattle.pm_kept.proofs.kept.Kept.put_held.Goals as goal

pub returns-clause-puts : goal.returns-clause-puts
returns-clause-puts g c =
    let seen = g.D.Disk.seen in
    let may_leave = g.D.Disk.may_leave in
    let is_clean = g.D.Disk.is_clean in
    let is_usable = g.D.Disk.is_usable in
    let faults = g.D.Disk.faults in
    let was = c.args.self.now in
    let group = c.in-Some.group in
    let disk = c.keep.new.self.disk in
    let same : was.held ≡ Some group = search rules in
    let lines : lines_of group.text.items ≡ held_lines was.held = sym (ap held_lines same) in
    let holds : HoldsLines group.text.items = subst AreHeld same c.requires.held in
    let opens : g.S.Keepable.means.is_begun was.service ≡ true = sym c.is_begun.ensures ∙ search rules in
    record {
      down = refl;
      opens = opens;
      cause = subst (λ (ls : List (List ℕ)). CouldNotKeep may_leave is_clean (faults was.journal.disk) (faults disk) disk (recorded (seen was.journal.disk)) ls) lines
          (could_not seen may_leave is_clean is_usable _ (faults was.journal.disk) (faults disk) was.journal disk group c.in-Err.ensures.faults c.requires.file holds c.keep.ensures.clean);
      clean = c.keep.ensures.clean;
      crash = λ clean d left. subst (λ (ls : List (List ℕ)). IsBeforeOrAfter (recorded (seen was.journal.disk)) ls d) lines (c.keep.ensures.crash clean d left);
    }
