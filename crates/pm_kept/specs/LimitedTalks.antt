-- A talk with a limit of work whose lines are kept.
use Rattle.std.specs.Prelude.{◌≡◌, ◌≢◌, ◌⊎◌, ℕ, Bool, true, false, List, Option, Some, None, if◌then◌else◌}
use Rattle.std.proofs.Common.{inl, inr, refl, ap, sym, ◌∙◌}
use Rattle.std.proofs.lemmas.Bool.{false≢true}
use Rattle.pm_talk.specs.declared.limited.Limited.{Limited}
use Rattle.pm_talk.specs.declared.live.Live.{Live}
use Rattle.pm_talk.specs.declared.talk.Talk.{Talk}
use Rattle.pm_talk.specs.declared.talk.Talk.TheVariants.{AwaitsSchema, AwaitsDocument, Open}
use Rattle.pm_talk.specs.Asked.{asked_line}
use Rattle.pm_talk.specs.Live.{answered}
use Rattle.pm_talk.specs.Talk.{Replies, is_open}
use Rattle.pm_talk.specs.Limited.{is_over, limit_text, RepliesBelow, RepliesWithin, IsGoodWithin, last_within}
use Rattle.pm_kept.specs.Means.{Meaning, Laws, unlimited}
use Rattle.pm_kept.specs.Talks.{resumed_text, talk_laws}

-- It begins with line 1, without a limit. What is resumed, and whether it has begun, are the talk's.
abbrev pub limited_meaning : Meaning Limited
limited_meaning =
    record {
      good = IsGoodWithin;
      replies = RepliesWithin;
      last = last_within;
      resumed = λ t. resumed_text t.talk;
      start = record { talk = AwaitsSchema; limit = None };
      is_begun = λ t. is_open t.talk;
      limited = λ limit t. record { talk = t.talk; limit = limit };
    }

-- ---- its laws

-- a talk and its limit are all that there is
pub same_limited : (a b : Limited) → a.talk ≡ b.talk → a.limit ≡ b.limit → a ≡ b
same_limited a b talk limit = λ i. record { talk = talk i; limit = limit i }

by_test : (over : Bool) (limit : ℕ) (live : Live) (line text : List ℕ) (more : Bool) (next : Talk)
    → text ≡ (if over then (limit_text limit, live) else answered live line).0 → more ≡ true → next ≡ Open (if over then (limit_text limit, live) else answered live line).1
    → Replies (Open live) line text more next ⊎ ((more ≡ true) × (next ≡ Open live))
by_test true limit live line text more next told goes is = inr (goes, is)
by_test false limit live line text more next told goes is = inl (told, goes, is)

-- A line is answered as without a limit, or changes nothing.
pub as_without : (limit : Option ℕ) (was : Talk) (line text : List ℕ) (more : Bool) (next : Talk) → RepliesBelow limit was line text more next
    → Replies was line text more next ⊎ ((more ≡ true) × (next ≡ was))
as_without None was line text more next replies = inl replies
as_without (Some limit) AwaitsSchema line text more next replies = inl replies
as_without (Some limit) (AwaitsDocument s) line text more next replies = inl replies
as_without (Some limit) (Open live) line text more next replies =
    by_test (is_over limit (asked_line live.schema.spec line)) limit live line text more next replies.0 replies.1 replies.2

closes : (was : Limited) (line text : List ℕ) (next : Limited) → RepliesWithin was line text false next → next ≡ was
closes was line text next replies = so (as_without was.limit was.talk line text false next.talk replies.0)
  where
    so : Replies was.talk line text false next.talk ⊎ ((false ≡ true) × (next.talk ≡ was.talk)) → next ≡ was
    so (inl told) = same_limited next was (talk_laws.closes was.talk line text next.talk told) replies.1
    so (inr none) = absurd (false≢true none.0)

stays_begun : (was : Limited) (line text : List ℕ) (more : Bool) (next : Limited) → RepliesWithin was line text more next → is_open was.talk ≡ true → is_open next.talk ≡ true
stays_begun was line text more next replies begun = so (as_without was.limit was.talk line text more next.talk replies.0)
  where
    so : Replies was.talk line text more next.talk ⊎ ((more ≡ true) × (next.talk ≡ was.talk)) → is_open next.talk ≡ true
    so (inl told) = talk_laws.stays_begun was.talk line text more next.talk told begun
    so (inr none) = ap is_open none.1 ∙ begun

stays_limited : (limit : Option ℕ) (was : Limited) (line text : List ℕ) (more : Bool) (next : Limited) → RepliesWithin was line text more next
    → limited_meaning.limited limit was ≡ was → limited_meaning.limited limit next ≡ next
stays_limited limit was line text more next replies is =
    same_limited (limited_meaning.limited limit next) next refl (ap (λ (t : Limited). t.limit) is ∙ sym replies.1)

accepts : (was : Limited) (line text : List ℕ) (more : Bool) (next : Limited) → RepliesWithin was line text more next → next ≢ was
    → RepliesWithin (unlimited limited_meaning was) line text more (unlimited limited_meaning next)
    × (unlimited limited_meaning next ≢ unlimited limited_meaning was)
accepts was line text more next replies other =
    (so (as_without was.limit was.talk line text more next.talk replies.0), λ e. other (same_limited next was (ap (λ (t : Limited). t.talk) e) replies.1))
  where
    so : Replies was.talk line text more next.talk ⊎ ((more ≡ true) × (next.talk ≡ was.talk))
        → RepliesWithin (unlimited limited_meaning was) line text more (unlimited limited_meaning next)
    so (inl told) = (told, refl)
    so (inr none) = absurd (other (same_limited next was none.1 replies.1))

pub limited_laws : Laws limited_meaning
limited_laws =
    record {
      closes = closes;
      stays_begun = stays_begun;
      stays_limited = stays_limited;
      accepts = accepts;
      starts = refl;
      relimits = λ limit t. refl;
      still_begun = λ limit t. refl;
    }
