-- For private clauses: what a submission is told.
use Rattle.std.specs.Prelude.{◌≡◌, string_bytes}
use Rattle.pm_talk.specs.declared.presenting.Told.{Told}
use Rattle.pm_talk.specs.Live.{LiveAnswer, answer_text, is_accepted}

-- the text and whether it was accepted, by the authority's answer
abbrev pub Tells : Told → LiveAnswer → Type 0
Tells t given = (string_bytes t.text ≡ answer_text given) × (t.accepted ≡ is_accepted given)
