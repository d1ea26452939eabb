use Rattle.std.proofs.Common.{◌≡◌, IsTrue, List, ℕ, [], ◌++◌, inl, inr, ⊎_elim, length, ◌∙◌, sym, ap, subst, rules}
use Rattle.std.proofs.lemmas.Result.{on_ok_weaker}
use Rattle.sqlite_disk.specs.Disk.{Torn, Only}
use Rattle.pm_journal.specs.Lines.{recorded, records, IsAtRest, lines_of}
use Rattle.pm_journal.proofs.Lines.{at_rest_recorded}
use Rattle.pm_journal.proofs.Crash.{new_file, new_at_rest, none_behind}
use Rattle.pm_journal.proofs.journal.Journal.begin.Goals as goal

pub returns-in_err-write_at-clause-crash : goal.returns-in_err-write_at-clause-crash
returns-in_err-write_at-clause-crash g c clean d left =
    let blank = c.requires.blank in
    let was_clean = c.write_at.ensures.clean clean in
    let from = c.write_at.ensures.crash d left in
    inl (new_file d (subst (λ (f : List ℕ). Torn 0 1 f d) (blank.durable was_clean from.0 from.1) from.2))

pub returns-in_err-sync-clause-crash : goal.returns-in_err-sync-clause-crash
returns-in_err-sync-clause-crash g c clean d left =
    let blank = c.requires.blank in
    let was_clean = c.write_at.ensures.clean (c.sync.ensures.clean clean) in
    let from = c.write_at.ensures.crash d (c.sync.ensures.crash d left) in
    inl (new_file d (subst (λ (f : List ℕ). Torn 0 1 f d) (blank.durable was_clean from.0 from.1) from.2))

pub add-requires-clause-ready : goal.add-requires-clause-ready
add-requires-clause-ready g c = record {
  usable = c.sync.ensures.usable ∙ search rules;
  settled = λ clean.
      let was_clean = c.write_at.ensures.clean (c.sync.ensures.clean clean) in
      let blank = c.requires.blank in
      let now = g.D.Disk.seen c.sync.new.self in
      let torn = subst (λ (f : List ℕ). Torn 0 1 f (g.D.Disk.seen c.write_at.new.self)) (blank.empty was_clean) c.write_at.ensures.others in
      let rests = subst (IsAtRest []) (sym c.sync.ensures.seen) (new_at_rest (g.D.Disk.seen c.write_at.new.self) torn c.in_ok-write_at.ensures.written) in
      let none = at_rest_recorded [] now rests in
      record {
        file = subst (λ (ls : List (List ℕ)). IsAtRest ls now) (sym none) rests;
        end = blank.end ∙ sym (ap (λ (ls : List (List ℕ)). length (records ls)) none);
        durable = subst (λ (f : List ℕ). Only f (g.D.Disk.may_leave c.sync.new.self)) (sym c.sync.ensures.seen) c.in_ok-sync.ensures.durable;
      };
}

pub returns-clause-added : goal.returns-clause-added
returns-clause-added g c =
    let old = g.D.Disk.seen c.sync.new.self in
    let new = g.D.Disk.seen c.add.new.self.disk in
    let same = ap lines_of c.deref.ensures.value in
    let step : (IsTrue (g.D.Disk.is_clean c.add.new.self.disk) → recorded new ≡ recorded old ++ lines_of c.deref.result.now) → IsTrue (g.D.Disk.is_clean c.add.new.self.disk) → recorded new ≡ lines_of c.args.group.now.text.items =
    λ h clean. h clean ∙ ap (λ (ls : List (List ℕ)). ls ++ lines_of c.deref.result.now) (none_behind g.D.Disk.seen g.D.Disk.may_leave g.D.Disk.is_clean g.D.Disk.is_usable c.args.self.now (g.D.Disk.seen c.write_at.new.self) old c.requires.blank (c.write_at.ensures.clean (c.sync.ensures.clean (c.add.ensures.clean clean))) c.write_at.ensures.others c.in_ok-write_at.ensures.written c.sync.ensures.seen) ∙ same in
    on_ok_weaker c.add.result step c.add.ensures.added

pub returns-clause-crash : goal.returns-clause-crash
returns-clause-crash g c clean d left =
    let old = g.D.Disk.seen c.sync.new.self in
    let same = ap lines_of c.deref.ensures.value in
    let none = none_behind g.D.Disk.seen g.D.Disk.may_leave g.D.Disk.is_clean g.D.Disk.is_usable c.args.self.now (g.D.Disk.seen c.write_at.new.self) old c.requires.blank (c.write_at.ensures.clean (c.sync.ensures.clean (c.add.ensures.clean clean))) c.write_at.ensures.others c.in_ok-write_at.ensures.written c.sync.ensures.seen in
    ⊎_elim (λ before. inl (before ∙ none)) (λ after. inr (after ∙ ap (λ (ls : List (List ℕ)). ls ++ lines_of c.deref.result.now) none ∙ same)) (c.add.ensures.crash clean d left)
