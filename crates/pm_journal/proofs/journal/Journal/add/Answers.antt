use Rattle.std.proofs.Common.{◌++◌, List, ℕ, inl, length, sym, ◌∙◌, ap, subst, arith, rules}
use Rattle.sqlite_disk.specs.Disk.{Torn, Only}
use Rattle.pm_journal.specs.Lines.{recorded, records, IsAtRest, lines_of}
use Rattle.pm_journal.proofs.Lines.{at_rest_recorded, length-records_more, some_lines}
use Rattle.pm_journal.proofs.Crash.{only_behind, behind_write, behind_recorded, staged, gate_crash, opened}
use Rattle.pm_journal.proofs.journal.Journal.add.Goals as goal

pub returns-in_err-write_at-clause-crash : goal.returns-in_err-write_at-clause-crash
returns-in_err-write_at-clause-crash g c clean d left =
    let s = c.requires.ready.settled (c.write_at.ensures.clean clean) in
    let first = g.D.Disk.seen c.args.self.now.disk in
    let lines = recorded first in
    let text = c.args.text.now in
    let end = c.args.self.now.end in
    let at_start = only_behind lines text first end s.file c.requires.lines s.end (g.D.Disk.may_leave c.args.self.now.disk) s.durable in
    let one = behind_write lines text first end s.file c.requires.lines s.end c.in_ok-room.room.behind (length text) (g.D.Disk.may_leave c.args.self.now.disk) (g.D.Disk.may_leave c.write_at.new.self) (omega (arith, c.in_ok-room.ensures.ok.0)) at_start c.write_at.ensures.crash in
    inl (behind_recorded lines text first end s.file c.requires.lines s.end d (one d left))

pub returns-in_err-write_at-2-clause-crash : goal.returns-in_err-write_at-2-clause-crash
returns-in_err-write_at-2-clause-crash g c clean d left =
    let s = c.requires.ready.settled (c.write_at.ensures.clean (c.write_at-2.ensures.clean clean)) in
    let first = g.D.Disk.seen c.args.self.now.disk in
    let lines = recorded first in
    let text = c.args.text.now in
    let end = c.args.self.now.end in
    let at_start = only_behind lines text first end s.file c.requires.lines s.end (g.D.Disk.may_leave c.args.self.now.disk) s.durable in
    let one = behind_write lines text first end s.file c.requires.lines s.end c.in_ok-room.room.behind (length text) (g.D.Disk.may_leave c.args.self.now.disk) (g.D.Disk.may_leave c.write_at.new.self) (omega (arith, c.in_ok-room.ensures.ok.0)) at_start c.write_at.ensures.crash in
    let two = behind_write lines text first end s.file c.requires.lines s.end c.in_ok-room.room.after 2 (g.D.Disk.may_leave c.write_at.new.self) (g.D.Disk.may_leave c.write_at-2.new.self) (omega (arith, c.in_ok-room.ensures.ok.1)) one c.write_at-2.ensures.crash in
    inl (behind_recorded lines text first end s.file c.requires.lines s.end d (two d left))

pub returns-in_err-sync-clause-crash : goal.returns-in_err-sync-clause-crash
returns-in_err-sync-clause-crash g c clean d left =
    let s = c.requires.ready.settled (c.write_at.ensures.clean (c.write_at-2.ensures.clean (c.sync.ensures.clean clean))) in
    let first = g.D.Disk.seen c.args.self.now.disk in
    let lines = recorded first in
    let text = c.args.text.now in
    let end = c.args.self.now.end in
    let at_start = only_behind lines text first end s.file c.requires.lines s.end (g.D.Disk.may_leave c.args.self.now.disk) s.durable in
    let one = behind_write lines text first end s.file c.requires.lines s.end c.in_ok-room.room.behind (length text) (g.D.Disk.may_leave c.args.self.now.disk) (g.D.Disk.may_leave c.write_at.new.self) (omega (arith, c.in_ok-room.ensures.ok.0)) at_start c.write_at.ensures.crash in
    let two = behind_write lines text first end s.file c.requires.lines s.end c.in_ok-room.room.after 2 (g.D.Disk.may_leave c.write_at.new.self) (g.D.Disk.may_leave c.write_at-2.new.self) (omega (arith, c.in_ok-room.ensures.ok.1)) one c.write_at-2.ensures.crash in
    inl (behind_recorded lines text first end s.file c.requires.lines s.end d (two d (c.sync.ensures.crash d left)))

pub returns-in_err-write_at-3-clause-crash : goal.returns-in_err-write_at-3-clause-crash
returns-in_err-write_at-3-clause-crash g c clean d left =
    let s = c.requires.ready.settled (c.write_at.ensures.clean (c.write_at-2.ensures.clean (c.sync.ensures.clean (c.write_at-3.ensures.clean clean)))) in
    let first = g.D.Disk.seen c.args.self.now.disk in
    let lines = recorded first in
    let text = c.args.text.now in
    let end = c.args.self.now.end in
    let there = staged lines text first end s.file c.requires.lines s.end c.in_ok-room.room.behind c.in_ok-room.room.after (g.D.Disk.seen c.write_at.new.self) (g.D.Disk.seen c.write_at-2.new.self) c.in_ok-room.ensures.ok.0 c.in_ok-room.ensures.ok.1 c.write_at.ensures.others c.in_ok-write_at.ensures.written c.write_at-2.ensures.others c.in_ok-write_at-2.ensures.written in
    let gate = gate_crash lines text first end s.file c.requires.lines s.end (g.D.Disk.seen c.write_at-2.new.self) (g.D.Disk.may_leave c.sync.new.self) (g.D.Disk.may_leave c.write_at-3.new.self) there c.in_ok-sync.ensures.durable c.write_at-3.ensures.crash in
    gate d left

pub returns-in_err-sync-2-clause-crash : goal.returns-in_err-sync-2-clause-crash
returns-in_err-sync-2-clause-crash g c clean d left =
    let s = c.requires.ready.settled (c.write_at.ensures.clean (c.write_at-2.ensures.clean (c.sync.ensures.clean (c.write_at-3.ensures.clean (c.sync-2.ensures.clean clean))))) in
    let first = g.D.Disk.seen c.args.self.now.disk in
    let lines = recorded first in
    let text = c.args.text.now in
    let end = c.args.self.now.end in
    let there = staged lines text first end s.file c.requires.lines s.end c.in_ok-room.room.behind c.in_ok-room.room.after (g.D.Disk.seen c.write_at.new.self) (g.D.Disk.seen c.write_at-2.new.self) c.in_ok-room.ensures.ok.0 c.in_ok-room.ensures.ok.1 c.write_at.ensures.others c.in_ok-write_at.ensures.written c.write_at-2.ensures.others c.in_ok-write_at-2.ensures.written in
    let gate = gate_crash lines text first end s.file c.requires.lines s.end (g.D.Disk.seen c.write_at-2.new.self) (g.D.Disk.may_leave c.sync.new.self) (g.D.Disk.may_leave c.write_at-3.new.self) there c.in_ok-sync.ensures.durable c.write_at-3.ensures.crash in
    gate d (c.sync-2.ensures.crash d left)

pub returns-clause-crash : goal.returns-clause-crash
returns-clause-crash g c clean d left =
    let s = c.requires.ready.settled (c.write_at.ensures.clean (c.write_at-2.ensures.clean (c.sync.ensures.clean (c.write_at-3.ensures.clean (c.sync-2.ensures.clean clean))))) in
    let first = g.D.Disk.seen c.args.self.now.disk in
    let lines = recorded first in
    let text = c.args.text.now in
    let end = c.args.self.now.end in
    let there = staged lines text first end s.file c.requires.lines s.end c.in_ok-room.room.behind c.in_ok-room.room.after (g.D.Disk.seen c.write_at.new.self) (g.D.Disk.seen c.write_at-2.new.self) c.in_ok-room.ensures.ok.0 c.in_ok-room.ensures.ok.1 c.write_at.ensures.others c.in_ok-write_at.ensures.written c.write_at-2.ensures.others c.in_ok-write_at-2.ensures.written in
    let gate = gate_crash lines text first end s.file c.requires.lines s.end (g.D.Disk.seen c.write_at-2.new.self) (g.D.Disk.may_leave c.sync.new.self) (g.D.Disk.may_leave c.write_at-3.new.self) there c.in_ok-sync.ensures.durable c.write_at-3.ensures.crash in
    gate d (c.sync-2.ensures.crash d left)

pub returns-clause-added : goal.returns-clause-added
returns-clause-added g c clean =
    let s = c.requires.ready.settled (c.write_at.ensures.clean (c.write_at-2.ensures.clean (c.sync.ensures.clean (c.write_at-3.ensures.clean (c.sync-2.ensures.clean clean))))) in
    let first = g.D.Disk.seen c.args.self.now.disk in
    let lines = recorded first in
    let text = c.args.text.now in
    let end = c.args.self.now.end in
    let there = staged lines text first end s.file c.requires.lines s.end c.in_ok-room.room.behind c.in_ok-room.room.after (g.D.Disk.seen c.write_at.new.self) (g.D.Disk.seen c.write_at-2.new.self) c.in_ok-room.ensures.ok.0 c.in_ok-room.ensures.ok.1 c.write_at.ensures.others c.in_ok-write_at.ensures.written c.write_at-2.ensures.others c.in_ok-write_at-2.ensures.written in
    let torn = subst (λ (f : List ℕ). Torn end 1 f (g.D.Disk.seen c.write_at-3.new.self)) c.sync.ensures.seen c.write_at-3.ensures.others in
    let rests = opened lines text first end s.file c.requires.lines s.end (g.D.Disk.seen c.write_at-3.new.self) (g.D.Disk.seen c.write_at-2.new.self) there torn c.in_ok-write_at-3.ensures.written in
    let same = c.sync-2.ensures.seen in
    let now = subst (λ (f : List ℕ). IsAtRest (lines ++ lines_of text) f) (sym same) rests in
    let stands = at_rest_recorded (lines ++ lines_of text) (g.D.Disk.seen c.sync-2.new.self) now in
    stands

pub returns-clause-open : goal.returns-clause-open
returns-clause-open g c = record {
  ready = record {
    usable = c.sync-2.ensures.usable ∙ search rules;
    settled = λ clean.
        let s = c.requires.ready.settled (c.write_at.ensures.clean (c.write_at-2.ensures.clean (c.sync.ensures.clean (c.write_at-3.ensures.clean (c.sync-2.ensures.clean clean))))) in
        let first = g.D.Disk.seen c.args.self.now.disk in
        let lines = recorded first in
        let text = c.args.text.now in
        let end = c.args.self.now.end in
        let there = staged lines text first end s.file c.requires.lines s.end c.in_ok-room.room.behind c.in_ok-room.room.after (g.D.Disk.seen c.write_at.new.self) (g.D.Disk.seen c.write_at-2.new.self) c.in_ok-room.ensures.ok.0 c.in_ok-room.ensures.ok.1 c.write_at.ensures.others c.in_ok-write_at.ensures.written c.write_at-2.ensures.others c.in_ok-write_at-2.ensures.written in
        let torn = subst (λ (f : List ℕ). Torn end 1 f (g.D.Disk.seen c.write_at-3.new.self)) c.sync.ensures.seen c.write_at-3.ensures.others in
        let rests = opened lines text first end s.file c.requires.lines s.end (g.D.Disk.seen c.write_at-3.new.self) (g.D.Disk.seen c.write_at-2.new.self) there torn c.in_ok-write_at-3.ensures.written in
        let same = c.sync-2.ensures.seen in
        let now = subst (λ (f : List ℕ). IsAtRest (lines ++ lines_of text) f) (sym same) rests in
        let stands = at_rest_recorded (lines ++ lines_of text) (g.D.Disk.seen c.sync-2.new.self) now in
        record {
          file = subst (λ (ls : List (List ℕ)). IsAtRest ls (g.D.Disk.seen c.sync-2.new.self)) (sym stands) now;
          end = omega (arith, c.in_ok-room.ensures.ok.2, s.end, length-records_more lines text c.requires.lines, ap (λ (ls : List (List ℕ)). length (records ls)) stands);
          durable = subst (λ (f : List ℕ). Only f (g.D.Disk.may_leave c.sync-2.new.self)) (sym same) c.in_ok-sync-2.ensures.durable;
        };
  };
  some = λ clean none. some_lines (recorded (g.D.Disk.seen c.args.self.now.disk)) c.args.text.now c.requires.lines (sym (returns-clause-added g c clean) ∙ none);
}
