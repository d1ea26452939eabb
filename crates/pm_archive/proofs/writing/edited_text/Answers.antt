use Rattle.std.proofs.Common.{◌≡◌, ◌∙◌, ◌++◌, List, ℕ, length, ap, string_bytes}
use Rattle.std.specs.Prelude.{codes}
use Rattle.pm_told.specs.Texts.{changes_text}
use Rattle.pm_archive.proofs.Edited.{accepted, told-steps}
use Rattle.pm_archive.proofs.writing.edited_text.Goals as goal

pub returns : goal.returns
returns c =
    let count : ℕ = length c.args.steps.now in
    let steps : List ℕ = changes_text c.args.schema.now.spec c.args.steps.now in
    let first : string_bytes c.push_accepted.new.text ≡ accepted count c.args.version =
    c.in_ok-push_accepted.ensures ∙ ap (λ (xs : List ℕ). xs ++ accepted count c.args.version) c.new-text.ensures.bytes in
    let key : string_bytes c.push_str.new.self ≡ string_bytes c.push_accepted.new.text ++ codes ",\"steps\":" = c.in_ok-push_str.ensures.bytes in
    let told : string_bytes c.push_changes.new.text ≡ string_bytes c.push_str.new.self ++ steps = c.in_ok-push_changes.ensures in
    let end : string_bytes c.push_str-2.new.self ≡ string_bytes c.push_changes.new.text ++ codes "}\n" = c.in_ok-push_str-2.ensures.bytes in
    told-steps count c.args.version steps (string_bytes c.push_accepted.new.text) (string_bytes c.push_str.new.self) (string_bytes c.push_changes.new.text)
    (string_bytes c.push_str-2.new.self) first key told end
