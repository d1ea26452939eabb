-- What a view is shown where entries of the log are taken.
use Rattle.std.specs.Prelude.{◌≡◌, ◌⊎◌, ℕ, Bool, List, Option, Some, IfSome}
use Rattle.pm_meaning.specs.Steps.{Step}
use Rattle.pm_change.specs.Changes.{fold}
use Rattle.pm_apply.specs.Changes.{meaning}
use Rattle.pm_told.specs.Showing.{View, taken_text}
use Rattle.pm_editor.specs.declared.editor.Editor.{Editor}
use Rattle.pm_editor.specs.Editors.{IsEditor, entries_answer}

-- The text shows steps, which lead a view from the document before to the one after. Or it shows none, but under loose rules never.
abbrev pub Shows : Editor → List ℕ × Editor → Type 0
Shows e answer =
    (view : Option View) × (confirmed foreign version : ℕ) × (cursors dropped : List ℕ)
    × (answer.0 ≡ taken_text e.schema.spec view confirmed cursors dropped foreign version)
    × IfSome view (λ v. fold meaning e.schema e.client.doc v.steps ≡ Some answer.1.client.doc)
    × (meaning.is_loose e.schema → (v : View) × (view ≡ Some v))

-- Entries change nothing, or their text shows a view what leads it on.
abbrev pub ViewsFollow : Type 0
ViewsFollow =
    (e : Editor) (own : List Bool) (steps : List Step) (version : ℕ) → IsEditor e
    → (let answer = entries_answer e own steps version in (answer.1 ≡ e) ⊎ Shows e answer)
