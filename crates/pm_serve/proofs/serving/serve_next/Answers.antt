use Rattle.std.proofs.Common.{inl, inr, refl}
use Rattle.pm_serve.proofs.Steps.{said-behind, said-alone, none-added}
use Rattle.pm_serve.proofs.serving.serve_next.Goals as goal

pub returns-in-More-answer-clause-steps : goal.returns-in-More-answer-clause-steps
returns-in-More-answer-clause-steps g c =
    let came = c.in-Last.ensures.reads in
    let wrote = c.in-More-answer.ensures.writes in
    said-behind g.S.Service.replies g.S.Service.last g.S.Service.no_memory c.say_last.result c.args.service.now c.answer-in-Last.new.service (g.R.Source.left c.args.source.now) (g.R.Source.left c.next.new.source) c.args.lines.now.unread c.next.new.self.unread c.next.new.self.line wrote.0 (g.W.Sink.written c.args.sink.now) (g.W.Sink.written c.answer-in-Last.new.sink) (g.W.Sink.written c.say_last.new.sink)
    came.0 came.1 wrote.1 wrote.2 c.say_last.ensures.says

pub returns-in-Closed-answer-clause-steps : goal.returns-in-Closed-answer-clause-steps
returns-in-Closed-answer-clause-steps g c =
    let wrote = c.in-Closed-answer.ensures.writes in
    record { line = c.next.new.self.line; came = inr c.in-Last.ensures.reads.0; text = wrote.0; tells = wrote.1; added = wrote.2 }

pub returns-in-Fault-answer-clause-steps : goal.returns-in-Fault-answer-clause-steps
returns-in-Fault-answer-clause-steps g c =
    let wrote = c.in-Fault-answer.ensures.writes in
    record { line = c.next.new.self.line; came = inr c.in-Last.ensures.reads.0; out = wrote.0; is = inl (wrote.1, wrote.2); front = wrote.3 }

pub returns-in-End-clause-steps : goal.returns-in-End-clause-steps
returns-in-End-clause-steps g c =
    let came = c.in-End.ensures.reads in
    said-alone g.S.Service.replies g.S.Service.last g.S.Service.no_memory c.say_last-in-End.result c.args.service.now (g.R.Source.left c.args.source.now) (g.R.Source.left c.next.new.source) c.args.lines.now.unread c.next.new.self.unread c.next.new.self.line (g.W.Sink.written c.args.sink.now) (g.W.Sink.written c.say_last-in-End.new.sink)
    came.0 came.1 c.say_last-in-End.ensures.says

pub returns-in-Spent-clause-steps : goal.returns-in-Spent-clause-steps
returns-in-Spent-clause-steps g c =
    let came = c.in-Spent.ensures.reads in
    record { taken = came.taken; took = came.took; same = refl; none = none-added (g.W.Sink.written c.args.sink.now); many = inr came.is_long }
