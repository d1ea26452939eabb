-- Words and a document that are put after a text make a line.
use Rattle.std.proofs.Common.{◌≡◌, ℕ, List, [], ◌∷◌, ◌++◌, ap, sym, ◌∙◌, append_assoc}
use Rattle.std.specs.Prelude.{codes, Result, Ok, Err, OnOk}
use Rattle.pm_report.specs.Words.{◌&◌, line}

pub line-after : {E : Type 0} (r : Result (Unit {0}) E) (old words doc mid new : List ℕ) → mid ≡ old ++ words
    → OnOk r (new ≡ mid ++ (codes " " ++ (doc ++ codes "\n"))) → OnOk r (new ≡ old ++ line (words & doc))
line-after (Ok u) old words doc mid new e h =
    h
    ∙ (ap (λ z. z ++ (32 ∷ (doc ++ (10 ∷ [])))) e
    ∙ (append_assoc old words (32 ∷ (doc ++ (10 ∷ []))) ∙ ap (λ z. old ++ z) (sym (append_assoc words (32 ∷ doc) (10 ∷ [])))))
line-after (Err x) old words doc mid new e h = tt
