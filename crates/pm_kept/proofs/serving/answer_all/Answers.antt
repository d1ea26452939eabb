use Rattle.std.proofs.Common.{◌≡◌, inl, true, false, refl, rules}
use Rattle.pm_kept.specs.Said.{said}
use Rattle.pm_kept.proofs.Files.{all_in_file, all_or_none}
use Rattle.pm_kept.proofs.Runs.{fault_said}
use Rattle.pm_kept.proofs.serving.answer_all.Goals as goal

pub returns-then-not-put_held-clause-answers : goal.returns-then-not-put_held-clause-answers
returns-then-not-put_held-clause-answers g c =
    let m = g.S.Keepable.means in
    let laws = g.met.S.Keepable.laws in
    let seen = g.D.Disk.seen in
    let may_leave = g.D.Disk.may_leave in
    let is_clean = g.D.Disk.is_clean in
    let is_usable = g.D.Disk.is_usable in
    let faults = g.D.Disk.faults in
    let k = c.args.kept.now in
    let t = c.put_held.new.self in
    let heard = c.hear_all-more in
    let line = c.args.lines.now.line in
    let before = c.args.lines.now.unread in
    let after = heard.new.lines.unread in
    let out = said heard.new.answers in
    let failed : c.put_held.result ≡ false = search rules in
    let lost = all_or_none m laws seen may_leave is_clean is_usable faults k t heard.new.service heard.new.held line before after out heard.result c.put_held.result c.requires.good c.requires.up
    heard.ensures.held heard.ensures.good heard.ensures.hears c.put_held.ensures.service failed c.put_held.ensures.puts in
    fault_said m seen may_leave is_clean faults c.say_fault.result k t line before after (g.W.Sink.written c.args.sink.now) (g.W.Sink.written c.say_fault.new.sink) lost.0 c.say_fault.ensures.says

pub returns-then-not-put_held-clause-good : goal.returns-then-not-put_held-clause-good
returns-then-not-put_held-clause-good g c =
    let m = g.S.Keepable.means in
    let laws = g.met.S.Keepable.laws in
    let seen = g.D.Disk.seen in
    let may_leave = g.D.Disk.may_leave in
    let is_clean = g.D.Disk.is_clean in
    let is_usable = g.D.Disk.is_usable in
    let faults = g.D.Disk.faults in
    let k = c.args.kept.now in
    let t = c.put_held.new.self in
    let heard = c.hear_all-more in
    let line = c.args.lines.now.line in
    let before = c.args.lines.now.unread in
    let after = heard.new.lines.unread in
    let out = said heard.new.answers in
    let failed : c.put_held.result ≡ false = search rules in
    let lost = all_or_none m laws seen may_leave is_clean is_usable faults k t heard.new.service heard.new.held line before after out heard.result c.put_held.result c.requires.good c.requires.up
    heard.ensures.held heard.ensures.good heard.ensures.hears c.put_held.ensures.service failed c.put_held.ensures.puts in
    lost.1

pub returns-then-more-clause-answers : goal.returns-then-more-clause-answers
returns-then-more-clause-answers g c =
    let m = g.S.Keepable.means in
    let laws = g.met.S.Keepable.laws in
    let seen = g.D.Disk.seen in
    let may_leave = g.D.Disk.may_leave in
    let is_clean = g.D.Disk.is_clean in
    let is_usable = g.D.Disk.is_usable in
    let faults = g.D.Disk.faults in
    let k = c.args.kept.now in
    let t = c.put_held.new.self in
    let heard = c.hear_all-more in
    let line = c.args.lines.now.line in
    let before = c.args.lines.now.unread in
    let after = heard.new.lines.unread in
    let out = said heard.new.answers in
    let done : c.put_held.result ≡ true = search rules in
    let goes : heard.result ≡ true = search rules in
    let all = all_in_file m laws seen may_leave is_clean is_usable faults k t heard.new.service heard.new.held line before after out heard.result true c.put_held.result c.requires.good c.requires.up
    heard.ensures.held heard.ensures.good heard.ensures.hears goes c.put_held.ensures.service done c.put_held.ensures.puts in
    (out, all.0, c.in-Ok.ensures.all)

pub returns-then-more-clause-good : goal.returns-then-more-clause-good
returns-then-more-clause-good g c =
    let m = g.S.Keepable.means in
    let laws = g.met.S.Keepable.laws in
    let seen = g.D.Disk.seen in
    let may_leave = g.D.Disk.may_leave in
    let is_clean = g.D.Disk.is_clean in
    let is_usable = g.D.Disk.is_usable in
    let faults = g.D.Disk.faults in
    let k = c.args.kept.now in
    let t = c.put_held.new.self in
    let heard = c.hear_all-more in
    let line = c.args.lines.now.line in
    let before = c.args.lines.now.unread in
    let after = heard.new.lines.unread in
    let out = said heard.new.answers in
    let done : c.put_held.result ≡ true = search rules in
    let goes : heard.result ≡ true = search rules in
    let all = all_in_file m laws seen may_leave is_clean is_usable faults k t heard.new.service heard.new.held line before after out heard.result true c.put_held.result c.requires.good c.requires.up
    heard.ensures.held heard.ensures.good heard.ensures.hears goes c.put_held.ensures.service done c.put_held.ensures.puts in
    all.1

pub returns-in-Ok-clause-answers : goal.returns-in-Ok-clause-answers
returns-in-Ok-clause-answers g c =
    let m = g.S.Keepable.means in
    let laws = g.met.S.Keepable.laws in
    let seen = g.D.Disk.seen in
    let may_leave = g.D.Disk.may_leave in
    let is_clean = g.D.Disk.is_clean in
    let is_usable = g.D.Disk.is_usable in
    let faults = g.D.Disk.faults in
    let k = c.args.kept.now in
    let t = c.put_held.new.self in
    let heard = c.hear_all-more in
    let line = c.args.lines.now.line in
    let before = c.args.lines.now.unread in
    let after = heard.new.lines.unread in
    let out = said heard.new.answers in
    let done : c.put_held.result ≡ true = search rules in
    let goes : heard.result ≡ false = search rules in
    let all = all_in_file m laws seen may_leave is_clean is_usable faults k t heard.new.service heard.new.held line before after out heard.result false c.put_held.result c.requires.good c.requires.up
    heard.ensures.held heard.ensures.good heard.ensures.hears goes c.put_held.ensures.service done c.put_held.ensures.puts in
    inl (out, all.0, c.in-Ok.ensures.all)

pub returns-in-Ok-clause-good : goal.returns-in-Ok-clause-good
returns-in-Ok-clause-good g c =
    let m = g.S.Keepable.means in
    let laws = g.met.S.Keepable.laws in
    let seen = g.D.Disk.seen in
    let may_leave = g.D.Disk.may_leave in
    let is_clean = g.D.Disk.is_clean in
    let is_usable = g.D.Disk.is_usable in
    let faults = g.D.Disk.faults in
    let k = c.args.kept.now in
    let t = c.put_held.new.self in
    let heard = c.hear_all-more in
    let line = c.args.lines.now.line in
    let before = c.args.lines.now.unread in
    let after = heard.new.lines.unread in
    let out = said heard.new.answers in
    let done : c.put_held.result ≡ true = search rules in
    let goes : heard.result ≡ false = search rules in
    let all = all_in_file m laws seen may_leave is_clean is_usable faults k t heard.new.service heard.new.held line before after out heard.result false c.put_held.result c.requires.good c.requires.up
    heard.ensures.held heard.ensures.good heard.ensures.hears goes c.put_held.ensures.service done c.put_held.ensures.puts in
    all.1

pub returns-clause-answers : goal.returns-clause-answers
returns-clause-answers g c =
    let m = g.S.Keepable.means in
    let laws = g.met.S.Keepable.laws in
    let seen = g.D.Disk.seen in
    let may_leave = g.D.Disk.may_leave in
    let is_clean = g.D.Disk.is_clean in
    let is_usable = g.D.Disk.is_usable in
    let faults = g.D.Disk.faults in
    let k = c.args.kept.now in
    let t = c.put_held.new.self in
    let heard = c.hear_all-more in
    let line = c.args.lines.now.line in
    let before = c.args.lines.now.unread in
    let after = heard.new.lines.unread in
    let out = said heard.new.answers in
    let done : c.put_held.result ≡ true = search rules in
    let goes : heard.result ≡ heard.result = refl in
    let all = all_in_file m laws seen may_leave is_clean is_usable faults k t heard.new.service heard.new.held line before after out heard.result heard.result c.put_held.result c.requires.good c.requires.up
    heard.ensures.held heard.ensures.good heard.ensures.hears goes c.put_held.ensures.service done c.put_held.ensures.puts in
    inl (out, heard.result, all.0, c.in-Err.ensures.front)

pub returns-clause-good : goal.returns-clause-good
returns-clause-good g c =
    let m = g.S.Keepable.means in
    let laws = g.met.S.Keepable.laws in
    let seen = g.D.Disk.seen in
    let may_leave = g.D.Disk.may_leave in
    let is_clean = g.D.Disk.is_clean in
    let is_usable = g.D.Disk.is_usable in
    let faults = g.D.Disk.faults in
    let k = c.args.kept.now in
    let t = c.put_held.new.self in
    let heard = c.hear_all-more in
    let line = c.args.lines.now.line in
    let before = c.args.lines.now.unread in
    let after = heard.new.lines.unread in
    let out = said heard.new.answers in
    let done : c.put_held.result ≡ true = search rules in
    let goes : heard.result ≡ heard.result = refl in
    let all = all_in_file m laws seen may_leave is_clean is_usable faults k t heard.new.service heard.new.held line before after out heard.result heard.result c.put_held.result c.requires.good c.requires.up
    heard.ensures.held heard.ensures.good heard.ensures.hears goes c.put_held.ensures.service done c.put_held.ensures.puts in
    all.1
