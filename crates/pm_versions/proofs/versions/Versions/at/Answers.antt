use Rattle.std.proofs.Common.{◌≤◌, ◌/◌, length, take, Some, arith, sym, ap, ◌∙◌}
use Rattle.pm_versions.proofs.Parts.{applied-good, checkpoint-good, rest-applies, rest-gives}
use Rattle.pm_versions.proofs.versions.Versions.at.Goals as goal

pub advance-requires-clause-good : goal.advance-requires-clause-good
advance-requires-clause-good g c =
    let at = c.checkpoint.ensures ∙ ap Some (sym c.in_ok-begin.ensures) in
    checkpoint-good g.C.Change.means c.args.rules.now g.met.C.Change.laws c.args.self.now c.requires (c.args.n / 64) c.in_ok-begin.begin at

pub advance-requires-clause-applies : goal.advance-requires-clause-applies
advance-requires-clause-applies g c =
    let at = c.checkpoint.ensures ∙ ap Some (sym c.in_ok-begin.ensures) in
    let short : c.args.n ≤ length c.args.self.now.log = omega arith in
    rw c.as_slice.ensures (rest-applies g.C.Change.means c.args.rules.now c.args.self.now c.requires c.args.n short c.in_ok-begin.begin at)

pub returns-clause-gives : goal.returns-clause-gives
returns-clause-gives g c =
    let at = c.checkpoint.ensures ∙ ap Some (sym c.in_ok-begin.ensures) in
    let short : c.args.n ≤ length c.args.self.now.log = omega arith in
    rest-gives g.C.Change.means c.args.rules.now c.args.self.now c.requires c.args.n short c.in_ok-begin.begin at c.in_ok-advance.field-0
    (rw c.as_slice.ensures at c.in_ok-advance.ensures.gives)

pub returns-clause-good : goal.returns-clause-good
returns-clause-good g c =
    applied-good g.C.Change.means c.args.rules.now g.met.C.Change.laws c.args.self.now.first c.in_ok-advance.field-0 (take c.args.n c.args.self.now.log)
    c.requires.first_good (returns-clause-gives g c)
