use Rattle.std.proofs.Common.{◌≡◌, ◌++◌, true, Bool, List, ℕ, sym, ◌∙◌, ap, subst, rules}
use Rattle.pm_serve.specs.Reads.{WasWaiting}
use Rattle.pm_journal.specs.Lines.{IsLine}
use Rattle.pm_kept.specs.Runs.{Told, HearsAll}
use Rattle.pm_kept.specs.Said.{said}
use Rattle.pm_kept.proofs.Heard.{first_heard, further_heard}
use Rattle.pm_kept.proofs.Runs.{kept_line}
use Rattle.pm_kept.proofs.hearing.hear_all.Goals as goal

pub loop-more-init : goal.loop-more-init
loop-more-init g c =
    let m = g.S.Keepable.means in
    let was = c.args.service.now in
    let now = c.hear-more.new.service in
    let told = c.hear-more.ensures.told in
    record {
      hears = first_heard m was now c.args.lines.now.line c.args.lines.now.unread c.args.held.now c.hear-more.new.held (said c.hear-more.new.answers) told.0 told.1 c.hear-more.result
          (subst (λ (l : List ℕ). Told m was l told.0 c.hear-more.result now told.1) c.bytes.ensures told.2) (told.3 ∙ ap (λ (s : List ℕ). s ++ told.0) c.requires.none) told.4;
      good = c.hear-more.ensures.good;
      held = c.hear-more.ensures.held;
    }

pub hear-more-requires-in-loop-more-clause-line : goal.hear-more-requires-in-loop-more-clause-line
hear-more-requires-in-loop-more-clause-line g c =
    let line = c.take_further.new.lines.line in
    let w : WasWaiting c.loop-more.lines.unread c.take_further.new.lines.unread line = c.if-take_further.ensures.takes in
    subst IsLine (sym c.bytes-in-loop-more.ensures) (kept_line line w.whole w.kept w.one)

pub loop-more-preserved : goal.loop-more-preserved
loop-more-preserved g c =
    let m = g.S.Keepable.means in
    let was = c.args.service.now in
    let mid = c.loop-more.service in
    let next = c.hear-more-in-loop-more.new.service in
    let line = c.take_further.new.lines.line in
    let first = c.args.lines.now.line in
    let before = c.args.lines.now.unread in
    let there = c.loop-more.lines.unread in
    let after = c.take_further.new.lines.unread in
    let told = c.hear-more-in-loop-more.ensures.told in
    let more = c.hear-more-in-loop-more.result in
    let w : WasWaiting there after line = c.if-take_further.ensures.takes in
    let goes : c.loop-more.more ≡ true = search rules in
    let so_far : HearsAll m was mid first before there c.args.held.now c.loop-more.held (said c.loop-more.answers) true =
    subst (λ (b : Bool). HearsAll m was mid first before there c.args.held.now c.loop-more.held (said c.loop-more.answers) b) goes c.loop-more.invariant.hears in
    record {
      hears = further_heard m was mid next first before there after line c.args.held.now c.loop-more.held c.hear-more-in-loop-more.new.held
          (said c.loop-more.answers) (said c.hear-more-in-loop-more.new.answers) told.0 told.1 more so_far w
          (subst (λ (l : List ℕ). Told m mid l told.0 more next told.1) c.bytes-in-loop-more.ensures told.2)
          (told.3 ∙ ap (λ (s : List ℕ). s ++ told.0) c.take_further.ensures.said) told.4;
      good = c.hear-more-in-loop-more.ensures.good;
      held = c.hear-more-in-loop-more.ensures.held;
    }
