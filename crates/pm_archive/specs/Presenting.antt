-- For private clauses: what a submission is told.
use Rattle.std.specs.Prelude.{◌≡◌, ℕ, string_bytes}
use Rattle.pm_talk.specs.Live.{LiveAnswer, is_accepted}
use Rattle.pm_archive.specs.declared.presenting.Told.{Told}
use Rattle.pm_archive.specs.Answers.{answer_text}

-- the text and whether it was accepted, by the authority's answer
abbrev pub Tells : Told → ℕ → LiveAnswer → Type 0
Tells t from given = (string_bytes t.text ≡ answer_text from given) × (t.accepted ≡ is_accepted given)
