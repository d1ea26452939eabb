use Rattle.std.proofs.Common.{◌≡◌, ◌<◌, [], ◌∷◌, ◌++◌, arith, ap, sym, subst, ◌∙◌}
use Rattle.std.proofs.lemmas.Result.{on_ok_weaker}
use Rattle.pm_authors.specs.Runs.{spelled, AreMaximal}
use Rattle.pm_authors.proofs.Grouping.{IsGrown, grown-same, grown-more, grown-first, room-in, one-author}
use Rattle.pm_authors.proofs.adding.add.Goals as goal
use Rattle.pm_authors.proofs.adding.add.Goals.{in-Some+then-same_author, in-Some+else-same_author+in_ok-push, in_default}

pub overflow_add-run : goal.overflow_add-run
overflow_add-run c =
    let room = room-in c.args.runs.now c.pop.new.self c.in-Some.last c.args.count c.in-Some.ensures c.requires in
    omega (arith, room)

pub returns : goal.returns
returns c =
    let old = c.args.runs.now in
    let a = c.args.author in
    let n = c.args.count in
    let end = c.match-pop.runs ++ c.match-pop.run ∷ [] in
    let some : 0 < n = omega (arith, c.if-count-eq0.false) in
    let grown : IsGrown old c.match-pop.runs c.match-pop.run a n =
    elim c.match-pop.branch [
      | in-Some+then-same_author w ↦
          rw (w.runs-is, w.run-is) (grown-same old _ w.in-Some.last a n some w.in-Some.ensures (one-author _ _ (sym w.same_author.ensures ∙ w.if-same_author.true)))
      | in-Some+else-same_author+in_ok-push w ↦
          rw (w.runs-is, w.run-is) (grown-more old _ _ w.in-Some.last a n some w.in-Some.ensures w.in_ok-push.ensures.ok (sym w.same_author.ensures ∙ w.if-same_author.false))
      | in_default w ↦ rw (w.runs-is, w.run-is) (grown-first old _ a n some w.in_default.ensures)
    ] in
    record {
      tokens = on_ok_weaker c.push-2.result (λ (e : c.push-2.new.self ≡ end). ap spelled e ∙ grown.tokens) c.push-2.ensures.ok;
      maximal = λ m. on_ok_weaker c.push-2.result (λ (e : c.push-2.new.self ≡ end). subst AreMaximal (sym e) (grown.maximal m)) c.push-2.ensures.ok;
    }
