-- A house of many documents, with a limit of work or none, whose lines are kept.
use Rattle.std.specs.Prelude.{◌≡◌, ◌≢◌, ◌⊎◌, ℕ, Bool, true, false, List, length, Option, Some, None, Result, Ok, Err, MatchBool}
use Rattle.std.proofs.Common.{inl, inr, refl, ap, sym, ◌∙◌}
use Rattle.std.proofs.lemmas.Bool.{false≢true}
use Rattle.serde_json.specs.Data.{Data}
use Rattle.pm_head.specs.declared.code.Code.{Code}
use Rattle.pm_head.specs.Lines.{json_line}
use Rattle.pm_talk.specs.Limited.{limit_text}
use Rattle.pm_order.specs.Words.{word_in}
use Rattle.pm_house.specs.declared.house.House.{House}
use Rattle.pm_house.specs.declared.limited.LimitedHouse.{LimitedHouse}
use Rattle.pm_house.specs.Houses.{empty}
use Rattle.pm_house.specs.Texts.{statistics_text}
use Rattle.pm_house.specs.Limits.{is_over_by, LineBelow, RepliesBelow, ServingWithin, IsGoodWithin, last_within}
use Rattle.pm_house.specs.Replies.{Says, OfValue, OfLine, Replies}
use Rattle.pm_kept.specs.Means.{Meaning, Laws, unlimited}

-- what is said where the lines of a file are taken up: how many documents, entries, schemas and tokens there are
abbrev pub resumed_text : House → List ℕ
resumed_text h = statistics_text (length h.schemas) h.documents

-- It is empty before its first line, without a limit, and each line that it accepts is in the file.
abbrev pub house_meaning : Meaning LimitedHouse
house_meaning =
    record {
      good = IsGoodWithin;
      replies = ServingWithin;
      last = last_within;
      resumed = λ t. resumed_text t.house;
      start = record { house = empty; limit = None };
      is_begun = λ _. true;
      limited = λ limit t. record { house = t.house; limit = limit };
    }

-- ---- its laws

-- a house and its limit are all that there is
pub same_limited : (a b : LimitedHouse) → a.house ≡ b.house → a.limit ≡ b.limit → a ≡ b
same_limited a b house limit = λ i. record { house = house i; limit = limit i }

by_test : (over : Bool) (limit : ℕ) (h : House) (d : Data) (text : List ℕ) (next : House) → MatchBool over (Says (limit_text limit) h text next) (OfValue h d text next)
    → OfValue h d text next ⊎ (next ≡ h)
by_test true limit h d text next told = inr told.1
by_test false limit h d text next told = inl told

by_line : (limit : ℕ) (h : House) (r : Result Data Code) (text : List ℕ) (next : House) → LineBelow limit h r text next → OfLine h r text next ⊎ (next ≡ h)
by_line limit h (Ok d) text next told = by_test (is_over_by limit h d (word_in d)) limit h d text next told
by_line limit h (Err code) text next told = inl told

-- A line is answered as without a limit, or changes nothing.
pub as_without : (limit : Option ℕ) (h : House) (line text : List ℕ) (next : House) → RepliesBelow limit h line text next → Replies h line text next ⊎ (next ≡ h)
as_without None h line text next told = inl told
as_without (Some limit) h line text next told = by_line limit h (json_line line) text next told

-- further lines are answered always
closes : (was : LimitedHouse) (line text : List ℕ) (next : LimitedHouse) → ServingWithin was line text false next → next ≡ was
closes was line text next replies = absurd (false≢true replies.1)

stays_limited : (limit : Option ℕ) (was : LimitedHouse) (line text : List ℕ) (more : Bool) (next : LimitedHouse) → ServingWithin was line text more next
    → house_meaning.limited limit was ≡ was → house_meaning.limited limit next ≡ next
stays_limited limit was line text more next replies is =
    same_limited (house_meaning.limited limit next) next refl (ap (λ (t : LimitedHouse). t.limit) is ∙ sym replies.2)

accepts : (was : LimitedHouse) (line text : List ℕ) (more : Bool) (next : LimitedHouse) → ServingWithin was line text more next → next ≢ was
    → ServingWithin (unlimited house_meaning was) line text more (unlimited house_meaning next)
    × (unlimited house_meaning next ≢ unlimited house_meaning was)
accepts was line text more next replies other =
    (so (as_without was.limit was.house line text next.house replies.0), λ e. other (same_limited next was (ap (λ (t : LimitedHouse). t.house) e) replies.2))
  where
    so : Replies was.house line text next.house ⊎ (next.house ≡ was.house)
        → ServingWithin (unlimited house_meaning was) line text more (unlimited house_meaning next)
    so (inl told) = (told, replies.1, refl)
    so (inr same) = absurd (other (same_limited next was same replies.2))

pub house_laws : Laws house_meaning
house_laws =
    record {
      closes = closes;
      stays_begun = λ was line text more next replies begun. refl;
      stays_limited = stays_limited;
      accepts = accepts;
      starts = refl;
      relimits = λ limit t. refl;
      still_begun = λ limit t. refl;
    }
