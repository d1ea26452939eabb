use Rattle.std.proofs.Common.{◌≡◌, ◌∙◌, ◌+◌, ◌-◌, ◌≤◌, ◌<◌, ℕ, Bool, List, [], length, take, drop, IfOk, OnOk, string_bytes, ap, sym, subst, arith}
use Rattle.std.proofs.lemmas.List.{take_rest, drop_all}
use Rattle.pm_meaning.specs.Steps.{Step}
use Rattle.pm_authority.specs.declared.named.Named.{Named}
use Rattle.pm_editor.specs.declared.editor.Editor.{Editor}
use Rattle.pm_editor.specs.Editors.{entries_answer, past_answer, front}
use Rattle.pm_editor.proofs.Answerings.{entries-are}
use Rattle.pm_editor.proofs.editor.Editor.enter.Goals as goal

pub returns-then-place-count-clause-text : goal.returns-then-place-count-clause-text
returns-then-place-count-clause-text c =
    let e = c.args.self.now in
    let v : c.version-version.result ≡ e.client.version = c.version-version.ensures in
    let since : c.begins-since.result ≡ c.args.end - length c.args.steps.now = c.begins-since.ensures in
    let skipped : ℕ = c.version-version.result - c.begins-since.result in
    let skipped_is : skipped ≡ e.client.version - (c.args.end - length c.args.steps.now) = ap (λ (n : ℕ). n - c.begins-since.result) v ∙ ap (λ (n : ℕ). e.client.version - n) since in
    let own_is : c.front-own.result ≡ front (drop skipped c.args.owners.now) (length e.client.pending) =
    c.front-own.ensures.front ∙ ap (λ (l : List Bool). front l (length c.pending.result.now)) c.owners_from-unseen.ensures
    ∙ ap (λ (l : List (Named Step)). front (drop skipped c.args.owners.now) (length l)) c.pending.ensures in
    let past : e.client.version < c.args.end = omega (arith, v, c.if-end-version.false) in
    let begins : c.args.end - length c.args.steps.now ≤ e.client.version = omega (arith, v, since, c.if-since-version.false) in
    let place : ℕ = skipped + c.front-own.result in
    let is : entries_answer e c.args.owners.now c.args.steps.now c.args.end
    ≡ past_answer e skipped c.front-own.result (take (length c.args.steps.now - place) (drop place c.args.steps.now)) c.args.end =
    entries-are e c.args.owners.now c.args.steps.now c.args.end skipped c.front-own.result (take (length c.args.steps.now - place) (drop place c.args.steps.now))
    past begins skipped_is own_is (take_rest c.args.steps.now place) in
    subst (λ (a : List ℕ × Editor). IfOk c.enter_others.result (λ (s : _). string_bytes s ≡ a.0)) (sym is) c.enter_others.ensures.text

pub returns-then-place-count-clause-after : goal.returns-then-place-count-clause-after
returns-then-place-count-clause-after c =
    let e = c.args.self.now in
    let v : c.version-version.result ≡ e.client.version = c.version-version.ensures in
    let since : c.begins-since.result ≡ c.args.end - length c.args.steps.now = c.begins-since.ensures in
    let skipped : ℕ = c.version-version.result - c.begins-since.result in
    let skipped_is : skipped ≡ e.client.version - (c.args.end - length c.args.steps.now) = ap (λ (n : ℕ). n - c.begins-since.result) v ∙ ap (λ (n : ℕ). e.client.version - n) since in
    let own_is : c.front-own.result ≡ front (drop skipped c.args.owners.now) (length e.client.pending) =
    c.front-own.ensures.front ∙ ap (λ (l : List Bool). front l (length c.pending.result.now)) c.owners_from-unseen.ensures
    ∙ ap (λ (l : List (Named Step)). front (drop skipped c.args.owners.now) (length l)) c.pending.ensures in
    let past : e.client.version < c.args.end = omega (arith, v, c.if-end-version.false) in
    let begins : c.args.end - length c.args.steps.now ≤ e.client.version = omega (arith, v, since, c.if-since-version.false) in
    let place : ℕ = skipped + c.front-own.result in
    let is : entries_answer e c.args.owners.now c.args.steps.now c.args.end
    ≡ past_answer e skipped c.front-own.result (take (length c.args.steps.now - place) (drop place c.args.steps.now)) c.args.end =
    entries-are e c.args.owners.now c.args.steps.now c.args.end skipped c.front-own.result (take (length c.args.steps.now - place) (drop place c.args.steps.now))
    past begins skipped_is own_is (take_rest c.args.steps.now place) in
    subst (λ (a : List ℕ × Editor). OnOk c.enter_others.result (c.enter_others.new.self ≡ a.1)) (sym is) c.enter_others.ensures.after

pub returns-else-place-count-clause-text : goal.returns-else-place-count-clause-text
returns-else-place-count-clause-text c =
    let e = c.args.self.now in
    let v : c.version-version.result ≡ e.client.version = c.version-version.ensures in
    let since : c.begins-since.result ≡ c.args.end - length c.args.steps.now = c.begins-since.ensures in
    let skipped : ℕ = c.version-version.result - c.begins-since.result in
    let skipped_is : skipped ≡ e.client.version - (c.args.end - length c.args.steps.now) = ap (λ (n : ℕ). n - c.begins-since.result) v ∙ ap (λ (n : ℕ). e.client.version - n) since in
    let own_is : c.front-own.result ≡ front (drop skipped c.args.owners.now) (length e.client.pending) =
    c.front-own.ensures.front ∙ ap (λ (l : List Bool). front l (length c.pending.result.now)) c.owners_from-unseen.ensures
    ∙ ap (λ (l : List (Named Step)). front (drop skipped c.args.owners.now) (length l)) c.pending.ensures in
    let past : e.client.version < c.args.end = omega (arith, v, c.if-end-version.false) in
    let begins : c.args.end - length c.args.steps.now ≤ e.client.version = omega (arith, v, since, c.if-since-version.false) in
    let place : ℕ = skipped + c.front-own.result in
    let is : entries_answer e c.args.owners.now c.args.steps.now c.args.end ≡ past_answer e 0 c.front-own.result [] c.args.end =
    entries-are e c.args.owners.now c.args.steps.now c.args.end skipped c.front-own.result [] past begins skipped_is own_is
    (sym (drop_all place c.args.steps.now c.if-place-count.false)) in
    subst (λ (a : List ℕ × Editor). IfOk c.enter_own.result (λ (s : _). string_bytes s ≡ a.0)) (sym is) c.enter_own.ensures.text

pub returns-else-place-count-clause-after : goal.returns-else-place-count-clause-after
returns-else-place-count-clause-after c =
    let e = c.args.self.now in
    let v : c.version-version.result ≡ e.client.version = c.version-version.ensures in
    let since : c.begins-since.result ≡ c.args.end - length c.args.steps.now = c.begins-since.ensures in
    let skipped : ℕ = c.version-version.result - c.begins-since.result in
    let skipped_is : skipped ≡ e.client.version - (c.args.end - length c.args.steps.now) = ap (λ (n : ℕ). n - c.begins-since.result) v ∙ ap (λ (n : ℕ). e.client.version - n) since in
    let own_is : c.front-own.result ≡ front (drop skipped c.args.owners.now) (length e.client.pending) =
    c.front-own.ensures.front ∙ ap (λ (l : List Bool). front l (length c.pending.result.now)) c.owners_from-unseen.ensures
    ∙ ap (λ (l : List (Named Step)). front (drop skipped c.args.owners.now) (length l)) c.pending.ensures in
    let past : e.client.version < c.args.end = omega (arith, v, c.if-end-version.false) in
    let begins : c.args.end - length c.args.steps.now ≤ e.client.version = omega (arith, v, since, c.if-since-version.false) in
    let place : ℕ = skipped + c.front-own.result in
    let is : entries_answer e c.args.owners.now c.args.steps.now c.args.end ≡ past_answer e 0 c.front-own.result [] c.args.end =
    entries-are e c.args.owners.now c.args.steps.now c.args.end skipped c.front-own.result [] past begins skipped_is own_is
    (sym (drop_all place c.args.steps.now c.if-place-count.false)) in
    subst (λ (a : List ℕ × Editor). OnOk c.enter_own.result (c.enter_own.new.self ≡ a.1)) (sym is) c.enter_own.ensures.after
