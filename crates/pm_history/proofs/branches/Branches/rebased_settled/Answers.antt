use Rattle.std.proofs.Common.{◌≡◌, ◌<◌, ◌++◌, ◌∙◌, sym, ap, subst, map, length, arith}
use Rattle.pm_history.specs.Drops.{replaced}
use Rattle.pm_history.specs.Remembers.{names_of, live_names}
use Rattle.pm_history.specs.Trims.{thinned, trimmed, IsTrimmed}
use Rattle.pm_history.proofs.Settled.{rebase_settled, trimmed_settled}
use Rattle.pm_history.proofs.branches.Branches.rebased_settled.Goals as goal

pub settle-requires : goal.settle-requires
settle-requires g c =
    let h = c.args.self.now in
    let kept = c.args.kept.items in
    let some : 0 < length h.items = omega (arith, c.requires.within.0, c.requires.within.1) in
    let thin : c.thin_kept-thinned.result.items ≡ map (thinned (live_names h)) kept =
    c.thin_kept-thinned.ensures ∙ ap (λ us. map (thinned (names_of us ++ names_of c.redo_events.result.now)) kept) c.undo_events.ensures
    ∙ ap (λ rs. map (thinned (names_of h.undo ++ names_of rs)) kept) c.redo_events.ensures in
    let is : c.replace.new.self ≡ trimmed (replaced h c.args.at c.args.foreign.items kept) =
    c.in_ok-replace.ensures.ok ∙ ap (λ ks. replaced h c.args.at c.args.foreign.items ks) thin
    ∙ rebase_settled h c.args.at c.args.foreign.items kept c.requires.trimmed c.requires.within.0 some in
    subst IsTrimmed (sym is) (trimmed_settled (replaced h c.args.at c.args.foreign.items kept))

pub returns-clause-ok : goal.returns-clause-ok
returns-clause-ok g c =
    let h = c.args.self.now in
    let kept = c.args.kept.items in
    let some : 0 < length h.items = omega (arith, c.requires.within.0, c.requires.within.1) in
    let thin : c.thin_kept-thinned.result.items ≡ map (thinned (live_names h)) kept =
    c.thin_kept-thinned.ensures ∙ ap (λ us. map (thinned (names_of us ++ names_of c.redo_events.result.now)) kept) c.undo_events.ensures
    ∙ ap (λ rs. map (thinned (names_of h.undo ++ names_of rs)) kept) c.redo_events.ensures in
    c.settle.ensures ∙ c.in_ok-replace.ensures.ok ∙ ap (λ ks. replaced h c.args.at c.args.foreign.items ks) thin
    ∙ rebase_settled h c.args.at c.args.foreign.items kept c.requires.trimmed c.requires.within.0 some
