-- Texts that are written part after part.
use Rattle.std.specs.Prelude.{◌≡◌, List, ℕ, [], ◌++◌, refl}
use Rattle.std.proofs.Common.{append_assoc}

-- the first part of a new text
pub begun : (t₀ t₁ a : List ℕ) → t₀ ≡ [] → t₁ ≡ t₀ ++ a → t₁ ≡ a
begun t₀ t₁ a e f = rw (f, e) refl

-- four parts, and a fifth after them
pub two-joined : (t₀ t₁ t₂ a b c d e : List ℕ) → t₁ ≡ t₀ ++ (a ++ (b ++ (c ++ d))) → t₂ ≡ t₁ ++ e → t₂ ≡ t₀ ++ (a ++ (b ++ (c ++ (d ++ e))))
two-joined t₀ t₁ t₂ a b c d e h₁ h₂ = rw (h₂, h₁) (simp append_assoc)

pub five-joined : (t₁ t₂ t₃ t₄ t₅ a b c d e : List ℕ) → t₁ ≡ a → t₂ ≡ t₁ ++ b → t₃ ≡ t₂ ++ c → t₄ ≡ t₃ ++ d → t₅ ≡ t₄ ++ e
    → t₅ ≡ a ++ (b ++ (c ++ (d ++ e)))
five-joined t₁ t₂ t₃ t₄ t₅ a b c d e h₁ h₂ h₃ h₄ h₅ = rw (h₅, h₄, h₃, h₂, h₁) (simp append_assoc)

-- the fifth part is itself of four
pub state-joined : (t₁ t₂ t₃ t₄ t₅ t₆ a b c d p q r s e : List ℕ) → t₁ ≡ a → t₂ ≡ t₁ ++ b → t₃ ≡ t₂ ++ c → t₄ ≡ t₃ ++ d → t₅ ≡ t₄ ++ (p ++ (q ++ (r ++ s)))
    → t₆ ≡ t₅ ++ e → t₆ ≡ a ++ (b ++ (c ++ (d ++ (p ++ (q ++ (r ++ (s ++ e)))))))
state-joined t₁ t₂ t₃ t₄ t₅ t₆ a b c d p q r s e h₁ h₂ h₃ h₄ h₅ h₆ = rw (h₆, h₅, h₄, h₃, h₂, h₁) (simp append_assoc)
