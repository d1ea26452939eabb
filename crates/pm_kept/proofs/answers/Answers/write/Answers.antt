use Rattle.std.proofs.Common.{◌≡◌, ◌++◌, List, ℕ, OnErr, ◌∙◌, ap, subst}
use Rattle.pm_serve.specs.Serves.{FrontWritten}
use Rattle.pm_kept.specs.Said.{said}
use Rattle.pm_kept.proofs.Said.{front_said}
use Rattle.pm_kept.proofs.answers.Answers.write.Goals as goal

pub returns-in-Ok-clause-front : goal.returns-in-Ok-clause-front
returns-in-Ok-clause-front g c =
    let old = g.W.Sink.written c.args.sink.now in
    let mean = g.W.Sink.written c.write_all.new.sink in
    let new = g.W.Sink.written c.write_all-in-Ok.new.sink in
    let text = c.deref.result.now in
    let last = c.bytes.result.now in
    let same : text ++ last ≡ said c.args.self.now = ap (λ (t : List ℕ). t ++ last) c.deref.ensures.value ∙ ap (λ (l : List ℕ). c.args.self.now.text.items ++ l) c.bytes.ensures in
    subst (λ (t : List ℕ). OnErr c.write_all-in-Ok.result (FrontWritten t old new)) same
    (front_said c.write_all-in-Ok.result old mean new text last c.in-Ok.ensures.all c.write_all-in-Ok.ensures.front)
