use Rattle.std.proofs.Common.{◌∙◌, sym, subst}
use Rattle.pm_history.specs.Histories.{noted}
use Rattle.pm_history.specs.Trims.{IsTrimmed}
use Rattle.pm_history.proofs.Settled.{as_trimmed, note_settled, note_none, is-none, is-some}
use Rattle.pm_history.proofs.branches.Branches.note_settled.Goals as goal

pub returns-then-is_empty-clause-ok : goal.returns-then-is_empty-clause-ok
returns-then-is_empty-clause-ok g c =
    sym (note_none c.args.self.now c.args.map (sym c.items.ensures ∙ is-none c.items.result.now (sym c.is_empty.ensures ∙ c.if-is_empty.true)))

pub settle-requires : goal.settle-requires
settle-requires g c =
    let some = is-some c.args.self.now.items c.items.result.now c.items.ensures (sym c.is_empty.ensures ∙ c.if-is_empty.false) in
    subst IsTrimmed (sym c.in_ok-put_foreign.ensures.ok) (note_settled c.args.self.now c.args.map c.requires some)

pub returns-clause-ok : goal.returns-clause-ok
returns-clause-ok g c =
    let some = is-some c.args.self.now.items c.items.result.now c.items.ensures (sym c.is_empty.ensures ∙ c.if-is_empty.false) in
    c.settle.ensures ∙ c.in_ok-put_foreign.ensures.ok ∙ as_trimmed (noted c.args.self.now c.args.map) (note_settled c.args.self.now c.args.map c.requires some)
