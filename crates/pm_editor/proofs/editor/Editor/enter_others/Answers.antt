use Rattle.std.proofs.Common.{rules, ◌≡◌, ◌∙◌, ◌<◌, ◌++◌, ℕ, List, length, ap, sym}
use Rattle.std.proofs.lemmas.List.{take_rest}
use Rattle.pm_meaning.specs.Steps.{Step}
use Rattle.pm_editor.specs.declared.editor.Editor.{Editor}
use Rattle.pm_editor.proofs.Views.{may-show}
use Rattle.pm_editor.proofs.Answerings.{taken-is, after-is, not-refused, refusal-index}
use Rattle.pm_editor.proofs.editor.Editor.enter_others.Goals as goal

pub overflow_add-skipped-in-Err-Refused : goal.overflow_add-skipped-in-Err-Refused
overflow_add-skipped-in-Err-Refused c =
    let within : c.in-Err-Refused.index < length c.args.foreign.now =
    refusal-index c.args.self.now c.args.own c.args.foreign.now c.in-Err-Refused.field-0 c.in-Err-Refused.index c.in-Err-Refused.reason
    c.in-Err-Refused.field-0-is c.in-Err-Refused.ensures.refused in
    search (rules, within)

pub brought_text-requires-clause-back : goal.brought_text-requires-clause-back
brought_text-requires-clause-back c =
    let e = c.args.self.now in
    rw (take_rest c.pending.result.now c.args.own, c.pending.ensures)
    (may-show e.schema e.client c.args.own c.args.foreign.now c.in-Ok.seen c.in-Ok.ensures.preview c.requires.good.stands)

pub returns-in-Ok-receive-clause-text : goal.returns-in-Ok-receive-clause-text
returns-in-Ok-receive-clause-text c =
    (rw (take_rest c.pending.result.now c.args.own, c.pending.ensures) at c.in_ok-text.ensures)
    ∙ ap (λ (a : List ℕ × Editor). a.0)
    (sym (taken-is c.args.self.now c.args.skipped c.args.own c.args.end c.args.foreign.now c.in-Ok.seen c.in-Ok.ensures.preview c.requires.some))

pub returns-in-Ok-receive-clause-after : goal.returns-in-Ok-receive-clause-after
returns-in-Ok-receive-clause-after c =
    let copies_are : c.push_copies.new.changes.items ≡ c.args.foreign.now =
    c.in_ok-push_copies.ensures ∙ ap (λ (l : List Step). l ++ c.args.foreign.now) c.new-copies.ensures.items in
    after-is c.args.self.now c.args.skipped c.args.own c.args.end c.args.foreign.now c.in-Ok.seen c.in-Ok.ensures.preview c.requires.some
    c.push_copies.new.changes.items copies_are _ c.receive.new.client c.in-Ok-receive.ensures.takes

pub unreachable-requires : goal.unreachable-requires
unreachable-requires c =
    let copies_are : c.push_copies.new.changes.items ≡ c.args.foreign.now =
    c.in_ok-push_copies.ensures ∙ ap (λ (l : List Step). l ++ c.args.foreign.now) c.new-copies.ensures.items in
    not-refused c.args.self.now c.args.skipped c.args.own c.args.end c.args.foreign.now c.in-Ok.seen c.in-Ok.ensures.preview
    c.push_copies.new.changes.items copies_are c.in-Err-Refused-receive.field-0 c.in-Err-Refused-receive.field-0-0 c.in-Err-Refused-receive.field-0-1
    c.in-Err-Refused-receive.field-0-is c.in-Err-Refused-receive.ensures.refused
