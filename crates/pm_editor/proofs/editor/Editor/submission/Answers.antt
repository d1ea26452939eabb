use Rattle.std.specs.Prelude.{codes, decimal, ◌++◌, List, ℕ}
use Rattle.std.proofs.Common.{◌∙◌, ap, string_bytes}
use Rattle.pm_meaning.specs.Steps.{Step}
use Rattle.pm_authority.specs.declared.named.Named.{Named}
use Rattle.pm_authority.specs.Runs.{changes_of}
use Rattle.pm_told.specs.Texts.{changes_text}
use Rattle.pm_editor.proofs.Joinings.{begun, five-joined}
use Rattle.pm_editor.proofs.editor.Editor.submission.Goals as goal

pub returns : goal.returns
returns c =
    let e = c.args.self.now in
    let steps = c.deref.ensures.value ∙ c.in_ok-steps.ensures ∙ ap (λ (l : List (Named Step)). changes_of l) c.pending.ensures in
    five-joined _ _ _ _ _ (codes "{\"message\":{\"clientID\":") e.id (codes ",\"op\":\"submit\",\"steps\":") (changes_text e.schema.spec (changes_of e.client.pending))
    (codes ",\"version\":" ++ (decimal e.client.version ++ codes "}}\n"))
    (begun _ _ (codes "{\"message\":{\"clientID\":") c.new-text.ensures.bytes c.in_ok-push_str.ensures.bytes)
    (c.in_ok-push_str-2.ensures.bytes ∙ ap (λ (l : List ℕ). string_bytes c.push_str.new.self ++ l) c.as_str.ensures)
    c.in_ok-push_str-3.ensures.bytes
    (c.in_ok-push_changes.ensures ∙ ap (λ (l : List Step). string_bytes c.push_str-3.new.self ++ changes_text e.schema.spec l) steps)
    (c.in_ok-write.ensures.bytes ∙ ap (λ (n : ℕ). string_bytes c.push_changes.new.text ++ (codes ",\"version\":" ++ (decimal n ++ codes "}}\n"))) c.version-version.ensures)
