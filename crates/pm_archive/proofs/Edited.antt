-- What comes of an edit.
use Rattle.std.proofs.Common.{◌≡◌, ◌∙◌, ◌≤◌, ◌++◌, ℕ, Bool, List, ap, sym, append_assoc, Ok}
use Rattle.std.specs.Prelude.{codes, decimal, nat_lt, if◌then◌else◌}
use Rattle.std.proofs.lemmas.Bool.{le-ltb}
use Rattle.pm_meaning.specs.Steps.{Step}
use Rattle.pm_talk.specs.Texts.{version_text}
use Rattle.pm_archive.specs.declared.archive.Archive.{Archive}
use Rattle.pm_archive.specs.declared.reverting.TheConstants.{MAX_VERSION}
use Rattle.pm_archive.specs.Archives.{version_of}
use Rattle.pm_archive.specs.Answers.{submitted, made, edited}

-- the definition, by whether no client can submit
abbrev pub by_last : Archive → List ℕ → List Step → Bool → List ℕ × Archive
by_last a id steps last = if last then (version_text (version_of a), a) else made a steps (submitted a (version_of a) id steps)

-- where a client can submit
pub edited-is : (a : Archive) (id : List ℕ) (steps : List Step) → version_of a ≤ MAX_VERSION
    → edited a id (Ok steps) ≡ made a steps (submitted a (version_of a) id steps)
edited-is a id steps small = ap (by_last a id steps) (le-ltb MAX_VERSION (version_of a) small)

-- ---- its text

-- how many steps were accepted, and from which version on
abbrev pub accepted : ℕ → ℕ → List ℕ
accepted count version = codes "{\"accepted\":{\"count\":" ++ (decimal count ++ (codes ",\"from\":" ++ (decimal version ++ codes "}")))

accepted-then : (count version : ℕ) (more : List ℕ)
    → accepted count version ++ more
    ≡ codes "{\"accepted\":{\"count\":" ++ (decimal count ++ (codes ",\"from\":" ++ (decimal version ++ (codes "}" ++ more))))
accepted-then count version more =
    ap (λ (xs : List ℕ). codes "{\"accepted\":{\"count\":" ++ xs)
    (append_assoc (decimal count) (codes ",\"from\":" ++ (decimal version ++ codes "}")) more
    ∙ ap (λ (xs : List ℕ). decimal count ++ (codes ",\"from\":" ++ xs)) (append_assoc (decimal version) (codes "}") more))

-- so with the steps, which are written behind it piece by piece
pub told-steps : (count version : ℕ) (steps : List ℕ) (t u v w : List ℕ)
    → t ≡ accepted count version → u ≡ t ++ codes ",\"steps\":" → v ≡ u ++ steps → w ≡ v ++ codes "}\n"
    → w ≡ codes "{\"accepted\":{\"count\":" ++ (decimal count ++ (codes ",\"from\":" ++ (decimal version ++ (codes "},\"steps\":" ++ (steps ++ codes "}\n")))))
told-steps count version steps t u v w a b c e =
    let front : List ℕ = accepted count version in
    let key : List ℕ = codes ",\"steps\":" in
    e
    ∙ (ap (λ (xs : List ℕ). xs ++ codes "}\n") (c ∙ ap (λ (xs : List ℕ). xs ++ steps) (b ∙ ap (λ (xs : List ℕ). xs ++ key) a))
    ∙ (append_assoc (front ++ key) steps (codes "}\n")
    ∙ (append_assoc front key (steps ++ codes "}\n")
    ∙ accepted-then count version (key ++ (steps ++ codes "}\n")))))
