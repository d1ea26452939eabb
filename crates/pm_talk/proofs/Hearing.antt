-- The answers to lines, as `serve` tells them, are those of the lines for which there was memory.
use Rattle.std.proofs.Common.{◌≡◌, ◌∙◌, ◌++◌, inl, inr, ℕ, Bool, true, false, List, [], ◌∷◌, map, take, refl, ap, subst}
use Rattle.pm_serve.specs.Serves.{kept, Answers}
use Rattle.pm_talk.specs.declared.live.Live.{Live}
use Rattle.pm_talk.specs.Texts.{no_memory}
use Rattle.pm_talk.specs.Live.{answered}
use Rattle.pm_talk.specs.declared.talk.Talk.{Talk}
use Rattle.pm_talk.specs.declared.talk.Talk.TheVariants.{Open}
use Rattle.pm_talk.specs.Talk.{Replies, last_text}
use Rattle.pm_talk.specs.Lines.{Line, answers, after, AllTalks}
use Rattle.pm_talk.proofs.Answering.{folded, valid}
use Rattle.pm_talk.proofs.Fronts.{kept-answered}

-- what is told of lines, and no more
record Heard (live : Live) (lines : List (List ℕ)) (out : List ℕ) (end : Talk) : Type 0 where
  heard : List Line
  are : map (λ l. l.bytes) heard ≡ lines
  written : out ≡ answers live heard
  stands : end ≡ Open (after live heard)

abbrev heard_line : List ℕ → Bool → Line
heard_line bytes b = record { bytes = bytes; heard = b }

first-heard : (live : Live) (line : List ℕ) (lines : List (List ℕ)) (text rest out : List ℕ) (end : Talk)
    → text ≡ (answered live line).0 → out ≡ text ++ rest → Heard (answered live line).1 lines rest end → Heard live (line ∷ lines) out end
first-heard live line lines text rest out end t o h = record {
  heard = heard_line line true ∷ h.heard;
  are = ap (λ ls. line ∷ ls) h.are;
  written = o ∙ (ap (λ x. x ++ rest) t ∙ ap (λ x. (answered live line).0 ++ x) h.written);
  stands = h.stands;
}

first-unheard : (live : Live) (line : List ℕ) (lines : List (List ℕ)) (text rest out : List ℕ) (end : Talk)
    → text ≡ no_memory → out ≡ text ++ rest → Heard live lines rest end → Heard live (line ∷ lines) out end
first-unheard live line lines text rest out end t o h = record {
  heard = heard_line line false ∷ h.heard;
  are = ap (λ ls. line ∷ ls) h.are;
  written = o ∙ (ap (λ x. x ++ rest) t ∙ ap (λ x. no_memory ++ x) h.written);
  stands = h.stands;
}

all-heard : (live : Live) (lines : List (List ℕ)) (out : List ℕ) (end : Talk) → Answers Replies last_text no_memory (Open live) lines out end → Heard live lines out end
all-heard live [] out end a = record { heard = []; are = refl; written = a.0; stands = a.1 }
all-heard live (line ∷ lines) out end a =
    let rest = a.2 in
    elim a.3 [
      | inl told ↦ let same = kept-answered live line in first-heard live line lines a.0 rest out end (told.0 ∙ ap (λ given. given.0) same) a.4
          (all-heard (answered live line).1 lines rest end
          (subst (λ (m : Talk). Answers Replies last_text no_memory m lines rest end) (told.2 ∙ ap (λ given. Open given.1) same) a.5))
      | inr lost ↦ first-unheard live line lines a.0 rest out end lost.0 a.4
          (all-heard live lines rest end (subst (λ (m : Talk). Answers Replies last_text no_memory m lines rest end) lost.2 a.5))
    ]

pub all-talks : AllTalks
all-talks live lines out end kept_first a =
    let h = all-heard live lines out end a in
    record {
      heard = h.heard;
      are = h.are;
      written = h.written;
      stands = h.stands;
      folded = folded live h.heard;
      valid = λ k. valid live (take k h.heard) kept_first;
    }
