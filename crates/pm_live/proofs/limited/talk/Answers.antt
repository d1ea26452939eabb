use Rattle.std.proofs.Common.{◌≡◌, ◌∙◌, ℕ, Bool, List, [], ap, subst}
use Rattle.pm_serve.specs.Serves.{Serves}
use Rattle.pm_talk.specs.declared.limited.Limited.{Limited}
use Rattle.pm_talk.specs.Texts.{no_memory}
use Rattle.pm_talk.specs.Limited.{RepliesWithin, last_within}
use Rattle.pm_live.specs.Calls.{status_of}
use Rattle.pm_live.proofs.Ends.{faults-at}
use Rattle.pm_live.proofs.limited.talk.Goals as goal

pub returns-clause-talked : goal.returns-clause-talked
returns-clause-talked g c =
    let end = c.serve-served.new.service in
    let served = c.serve-served.result in
    let old = g.R.Source.left c.args.source.now in
    let new = g.R.Source.left c.serve-served.new.source in
    let from = g.W.Sink.written c.args.sink.now in
    let to = g.W.Sink.written c.serve-served.new.sink in
    let unread = c.serve-served.new.lines.unread in
    record {
      served = served;
      end = end;
      unread = unread;
      serves = subst (λ (first : Limited). Serves RepliesWithin last_within no_memory served first end old new [] unread from to) c.new-limited.ensures
          (subst (λ (before : List ℕ). Serves RepliesWithin last_within no_memory served c.new-limited.result end old new before unread from to) c.requires
          c.serve-served.ensures.serves);
      good = c.serve-served.ensures.good;
      says = c.status_of.ensures ∙ ap (λ (b : Bool). status_of served b) c.is_open.ensures;
    }

pub returns-clause-faults : goal.returns-clause-faults
returns-clause-faults g c =
    faults-at c.serve-served.result c.is_open.result c.status_of.result (g.R.Source.faults c.args.source.now) (g.R.Source.faults c.serve-served.new.source)
    (g.W.Sink.faults c.args.sink.now) (g.W.Sink.faults c.serve-served.new.sink) c.status_of.ensures c.serve-served.ensures.faults
