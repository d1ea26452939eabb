-- The text that tells what was taken, by equal parts.
use Rattle.std.specs.Prelude.{◌≡◌, ℕ, List, ◌++◌, Option}
use Rattle.std.proofs.Common.{ap, ◌∙◌, append_assoc}
use Rattle.pm_schema.specs.declared.spec.SchemaSpec.{SchemaSpec}
use Rattle.pm_told.specs.Showing.{View, taken_text}

pub told-same : (s : SchemaSpec) (confirmed version : ℕ) (view seen : Option View) (cursors places dropped lost : List ℕ) (foreign : ℕ)
    → view ≡ seen → cursors ≡ places → dropped ≡ lost
    → taken_text s view confirmed cursors dropped foreign version ≡ taken_text s seen confirmed places lost foreign version
told-same s confirmed version view seen cursors places dropped lost foreign e f g =
    ap (λ (v : Option View). taken_text s v confirmed cursors dropped foreign version) e
    ∙ ap (λ (l : List ℕ). taken_text s seen confirmed l dropped foreign version) f
    ∙ ap (λ (l : List ℕ). taken_text s seen confirmed places l foreign version) g

-- a text that is written part after part, the first three of which are themselves of several
pub taken-joined : (t₁ t₂ t₃ t₄ t₅ a x b c d p q r s u v w y e : List ℕ) → x ≡ b → t₁ ≡ a ++ (x ++ (c ++ d)) → t₂ ≡ t₁ ++ (p ++ (q ++ (r ++ s)))
    → t₃ ≡ t₂ ++ (u ++ (v ++ w)) → t₄ ≡ t₃ ++ y → t₅ ≡ t₄ ++ e
    → t₅ ≡ a ++ (b ++ (c ++ (d ++ (p ++ (q ++ (r ++ (s ++ (u ++ (v ++ (w ++ (y ++ e)))))))))))
taken-joined t₁ t₂ t₃ t₄ t₅ a x b c d p q r s u v w y e h h₁ h₂ h₃ h₄ h₅ = rw (h₅, h₄, h₃, h₂, h₁, h) (simp append_assoc)
