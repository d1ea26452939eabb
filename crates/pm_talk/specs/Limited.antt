-- A talk whose submissions have a limit of work.
use Rattle.std.specs.Prelude.{◌≡◌, ℕ, nat_lt, Bool, true, false, List, ◌++◌, codes, decimal, Option, Some, None, Result, Ok, Err, if◌then◌else◌}
use Rattle.pm_head.specs.declared.code.Code.{Code}
use Rattle.pm_talk.specs.declared.asked.Asked.{Asked}
use Rattle.pm_talk.specs.declared.asked.Asked.TheVariants.{Submit, Since, Doc}
use Rattle.pm_talk.specs.declared.live.Live.{Live}
use Rattle.pm_talk.specs.declared.limited.Limited.{Limited}
use Rattle.pm_talk.specs.declared.talk.Talk.{Talk}
use Rattle.pm_talk.specs.declared.talk.Talk.TheVariants.{AwaitsSchema, AwaitsDocument, Open}
use Rattle.pm_talk.specs.Asked.{asked_line}
use Rattle.pm_talk.specs.Live.{answer}
use Rattle.pm_talk.specs.Talk.{Replies, IsGood, last_text as talk_last_text}
use Rattle.pm_talk.specs.Work.{works}

-- a submission is more work than the limit, which this tells
abbrev pub limit_text : ℕ → List ℕ
limit_text limit = codes "{\"limit\":" ++ (decimal limit ++ codes "}\n")

-- whether a line is a submission whose steps are more work together than the limit
abbrev pub is_over : ℕ → Result Asked Code → Bool
is_over limit (Ok (Submit version id steps)) = nat_lt limit (works steps)
is_over limit (Ok (Since version most)) = false
is_over limit (Ok Doc) = false
is_over limit (Err code) = false

-- A submission that is over is told the limit, and changes nothing. Any other line is answered as without a limit (`answered`).
abbrev pub answer_within : ℕ → Live → Result Asked Code → List ℕ × Live
answer_within limit live asked = if is_over limit asked then (limit_text limit, live) else answer live asked

abbrev pub answered_within : ℕ → Live → List ℕ → List ℕ × Live
answered_within limit live line = answer_within limit live (asked_line live.schema.spec line)

-- What a line is answered, whether further lines are, and where the talk stands then. Lines 1 and 2 are no submissions.
abbrev pub RepliesBelow : Option ℕ → Talk → List ℕ → List ℕ → Bool → Talk → Type 0
RepliesBelow None talk line text more next = Replies talk line text more next
RepliesBelow (Some limit) AwaitsSchema line text more next = Replies AwaitsSchema line text more next
RepliesBelow (Some limit) (AwaitsDocument s) line text more next = Replies (AwaitsDocument s) line text more next
RepliesBelow (Some limit) (Open live) line text more next =
    (text ≡ (answered_within limit live line).0) × (more ≡ true) × (next ≡ Open (answered_within limit live line).1)

-- so of a talk with its limit, which stays
abbrev pub RepliesWithin : Limited → List ℕ → List ℕ → Bool → Limited → Type 0
RepliesWithin t line text more next = RepliesBelow t.limit t.talk line text more next.talk × (next.limit ≡ t.limit)

abbrev pub IsGoodWithin : Limited → Type 0
IsGoodWithin t = IsGood t.talk

abbrev pub last_within : Limited → List ℕ
last_within t = talk_last_text t.talk
