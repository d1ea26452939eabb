use Rattle.std.proofs.Common.{ℕ, true, List, [], subst}
use Rattle.pm_serve.specs.Serves.{Serves}
use Rattle.pm_talk.specs.Texts.{no_memory}
use Rattle.pm_house.specs.declared.limited.LimitedHouse.{LimitedHouse}
use Rattle.pm_house.specs.Limits.{ServingWithin, last_within}
use Rattle.pm_live.proofs.Ends.{faults-at}
use Rattle.pm_live.proofs.limited_many.keep.Goals as goal

pub returns-clause-housed : goal.returns-clause-housed
returns-clause-housed g c =
    let end = c.serve-served.new.service in
    let served = c.serve-served.result in
    let old = g.R.Source.left c.args.source.now in
    let new = g.R.Source.left c.serve-served.new.source in
    let from = g.W.Sink.written c.args.sink.now in
    let to = g.W.Sink.written c.serve-served.new.sink in
    let unread = c.serve-served.new.lines.unread in
    record {
      served = served;
      end = end;
      unread = unread;
      serves = subst (λ (first : LimitedHouse). Serves ServingWithin last_within no_memory served first end old new [] unread from to) c.new-house.ensures.empty
          (subst (λ (before : List ℕ). Serves ServingWithin last_within no_memory served c.new-house.result end old new before unread from to) c.requires
          c.serve-served.ensures.serves);
      good = c.serve-served.ensures.good;
      says = c.status_of.ensures;
    }

pub returns-clause-faults : goal.returns-clause-faults
returns-clause-faults g c =
    faults-at c.serve-served.result true c.status_of.result (g.R.Source.faults c.args.source.now) (g.R.Source.faults c.serve-served.new.source)
    (g.W.Sink.faults c.args.sink.now) (g.W.Sink.faults c.serve-served.new.sink) c.status_of.ensures c.serve-served.ensures.faults
