use Rattle.pm_kept.proofs.Files.{good_leaves}
use Rattle.pm_kept.proofs.Runs.{kept_line, line_served, last_over, last_said, end_said}
use Rattle.pm_kept.proofs.serving.serve_group.Goals as goal

pub answer_all-requires-clause-line : goal.answer_all-requires-clause-line
answer_all-requires-clause-line g c = let came = c.in-Line.ensures.reads in kept_line c.next.new.self.line came.whole came.kept came.one

pub answer_all-requires-in-Last-clause-line : goal.answer_all-requires-in-Last-clause-line
answer_all-requires-in-Last-clause-line g c = let came = c.in-Last.ensures.reads.0 in kept_line c.next.new.self.line came.whole came.kept came.one

pub returns-in-Line-clause-served : goal.returns-in-Line-clause-served
returns-in-Line-clause-served g c =
    let left = g.R.Source.left c.args.source.now in
    let rest = g.R.Source.left c.next.new.source in
    let before = c.args.lines.now.unread in
    let there = c.next.new.self.unread in
    let line = c.next.new.self.line in
    let old = g.W.Sink.written c.args.sink.now in
    let k = c.args.kept.now in
    line_served g.S.Keepable.means g.D.Disk.seen g.D.Disk.may_leave g.D.Disk.is_clean g.D.Disk.faults c.answer_all.result k c.answer_all.new.kept left rest before line there c.answer_all.new.lines.unread old (g.W.Sink.written c.answer_all.new.sink)
    c.in-Line.ensures.reads c.answer_all.ensures.answers

pub returns-in-More-clause-served : goal.returns-in-More-clause-served
returns-in-More-clause-served g c =
    let left = g.R.Source.left c.args.source.now in
    let rest = g.R.Source.left c.next.new.source in
    let before = c.args.lines.now.unread in
    let there = c.next.new.self.unread in
    let line = c.next.new.self.line in
    let old = g.W.Sink.written c.args.sink.now in
    let k = c.args.kept.now in
    let came = c.in-Last.ensures.reads in
    let t = c.answer_all-in-Last.new.kept in
    last_said g.S.Keepable.means g.D.Disk.seen g.D.Disk.may_leave g.D.Disk.is_clean g.D.Disk.faults c.say_last.result k t left rest before line there c.answer_all-in-Last.new.lines.unread old (g.W.Sink.written c.answer_all-in-Last.new.sink)
    (g.W.Sink.written c.say_last.new.sink) came.0 came.1 c.in-More.ensures.answers c.say_last.ensures.says

pub returns-in-Over-clause-served : goal.returns-in-Over-clause-served
returns-in-Over-clause-served g c =
    let left = g.R.Source.left c.args.source.now in
    let rest = g.R.Source.left c.next.new.source in
    let before = c.args.lines.now.unread in
    let there = c.next.new.self.unread in
    let line = c.next.new.self.line in
    let old = g.W.Sink.written c.args.sink.now in
    let k = c.args.kept.now in
    let came = c.in-Last.ensures.reads in
    last_over g.S.Keepable.means g.D.Disk.seen g.D.Disk.may_leave g.D.Disk.is_clean g.D.Disk.faults c.in-Over.served k c.answer_all-in-Last.new.kept left rest before line there c.answer_all-in-Last.new.lines.unread old (g.W.Sink.written c.answer_all-in-Last.new.sink)
    came.0 came.1 c.in-Over.ensures.answers

pub returns-in-End-clause-served : goal.returns-in-End-clause-served
returns-in-End-clause-served g c =
    let left = g.R.Source.left c.args.source.now in
    let rest = g.R.Source.left c.next.new.source in
    let before = c.args.lines.now.unread in
    let there = c.next.new.self.unread in
    let line = c.next.new.self.line in
    let old = g.W.Sink.written c.args.sink.now in
    let k = c.args.kept.now in
    let came = c.in-End.ensures.reads in
    end_said g.S.Keepable.means g.D.Disk.seen g.D.Disk.may_leave g.D.Disk.is_clean g.D.Disk.faults c.say_last-in-End.result k left rest before line there old (g.W.Sink.written c.say_last-in-End.new.sink) came.0 came.1
    (good_leaves g.S.Keepable.means g.D.Disk.seen g.D.Disk.may_leave g.D.Disk.is_clean g.D.Disk.is_usable k c.requires.up c.requires.good) c.say_last-in-End.ensures.says
