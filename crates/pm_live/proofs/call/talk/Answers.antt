use Rattle.std.proofs.Common.{◌≡◌, ◌∙◌, ℕ, Bool, List, [], ap, subst}
use Rattle.std.specs.Prelude.{Option}
use Rattle.pm_serve.specs.Serves.{Serves}
use Rattle.pm_talk.specs.declared.talk.Talk.TheVariants.{AwaitsSchema}
use Rattle.pm_talk.specs.Texts.{no_memory}
use Rattle.pm_talk.specs.Talk.{Replies, last_text}
use Rattle.pm_live.specs.Calls.{status_of}
use Rattle.pm_live.proofs.Ends.{faults-at}
use Rattle.pm_live.proofs.call.talk.Goals as goal

pub returns-clause-talked : goal.returns-clause-talked
returns-clause-talked g c =
    let end = c.serve-served.new.service in
    let served = c.serve-served.result in
    record {
      served = served;
      end = end;
      unread = c.serve-served.new.lines.unread;
      serves = subst (λ (before : List ℕ). Serves Replies last_text no_memory served AwaitsSchema end (g.R.Source.left c.args.source.now) (g.R.Source.left c.serve-served.new.source) before
          c.serve-served.new.lines.unread (g.W.Sink.written c.args.sink.now) (g.W.Sink.written c.serve-served.new.sink)) c.requires c.serve-served.ensures.serves;
      good = c.serve-served.ensures.good;
      says = c.status_of.ensures ∙ ap (λ (b : Bool). status_of served b) c.is_open.ensures;
    }

pub returns-clause-faults : goal.returns-clause-faults
returns-clause-faults g c =
    faults-at c.serve-served.result c.is_open.result c.status_of.result (g.R.Source.faults c.args.source.now) (g.R.Source.faults c.serve-served.new.source)
    (g.W.Sink.faults c.args.sink.now) (g.W.Sink.faults c.serve-served.new.sink) c.status_of.ensures c.serve-served.ensures.faults
