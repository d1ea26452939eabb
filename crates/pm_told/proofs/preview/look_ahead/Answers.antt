use Rattle.std.proofs.Common.{◌≡◌, ◌∙◌, ◌++◌, List, ap, subst}
use Rattle.pm_apply.specs.Changes.{meaning}
use Rattle.pm_meaning.specs.Steps.{Step}
use Rattle.pm_remote.specs.Heard.{IsNews}
use Rattle.pm_told.specs.declared.preview.TheConstants.{OTHER}
use Rattle.pm_told.proofs.Lookings.{may-carry, may-move, looked}
use Rattle.pm_told.proofs.preview.look_ahead.Goals as goal

pub rebase_over-requires : goal.rebase_over-requires
rebase_over-requires c =
    let news = c.in_ok-entries.field-0 in
    let copies_are : c.push_copies.new.changes.items ≡ c.args.foreign.now =
    c.in_ok-push_copies.ensures ∙ ap (λ (l : List Step). l ++ c.args.foreign.now) c.new-copies.ensures.items in
    let is = subst (λ (l : List Step). IsNews meaning c.args.schema.now c.args.client.now OTHER c.args.own l news) copies_are c.in_ok-entries.ensures.news in
    may-carry c.args.schema.now c.args.client.now c.requires.stands c.args.own c.args.foreign.now news is c.requires.within
    c.as_slice.result.now c.pending.result.now c.as_slice.ensures c.pending.ensures

pub move_all-requires : goal.move_all-requires
move_all-requires c =
    let news = c.in_ok-entries.field-0 in
    let copies_are : c.push_copies.new.changes.items ≡ c.args.foreign.now =
    c.in_ok-push_copies.ensures ∙ ap (λ (l : List Step). l ++ c.args.foreign.now) c.new-copies.ensures.items in
    let is = subst (λ (l : List Step). IsNews meaning c.args.schema.now c.args.client.now OTHER c.args.own l news) copies_are c.in_ok-entries.ensures.news in
    may-move c.args.schema.now c.args.client.now c.requires.stands c.args.own c.args.foreign.now news is c.requires.within
    c.as_slice.result.now c.pending.result.now c.as_slice.ensures c.pending.ensures
    c.in_ok-rebasing.rebasing c.in_ok-rebasing.ensures c.cursors.result.now c.cursors.ensures

pub returns-clause-preview : goal.returns-clause-preview
returns-clause-preview c =
    let news = c.in_ok-entries.field-0 in
    let copies_are : c.push_copies.new.changes.items ≡ c.args.foreign.now =
    c.in_ok-push_copies.ensures ∙ ap (λ (l : List Step). l ++ c.args.foreign.now) c.new-copies.ensures.items in
    let is = subst (λ (l : List Step). IsNews meaning c.args.schema.now c.args.client.now OTHER c.args.own l news) copies_are c.in_ok-entries.ensures.news in
    looked c.args.schema.now c.args.client.now c.requires.stands c.args.own c.args.foreign.now news is c.requires.within
    c.as_slice.result.now c.pending.result.now c.as_slice.ensures c.pending.ensures
    c.in_ok-rebasing.rebasing c.in_ok-rebasing.ensures c.cursors.result.now c.in_ok-cursors.cursors c.cursors.ensures c.in_ok-cursors.ensures
