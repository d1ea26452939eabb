-- Whether a line changed a talk.
use Rattle.std.proofs.Common.{◌≡◌, inl, inr, ℕ, Bool, true, false, List, length, refl, sym, ◌∙◌, ap, subst, arith, Result, Ok, Err}
use Rattle.std.specs.Prelude.{◌≢◌, ◌⊎◌, MatchBool, not, ◌&&◌, ◌==◌, Option, None, Some}
use Rattle.std.proofs.lemmas.Bool.{true≢false, not-false}
use Rattle.std.proofs.lemmas.Bool.Decides.{nat_tests}
use Rattle.pm_tokens.specs.Tokens.{Doc as Document}
use Rattle.pm_schema.specs.declared.schema.Schema.{Schema}
use Rattle.pm_head.specs.declared.code.Code.{Code}
use Rattle.pm_talk.specs.declared.limited.Limited.{Limited}
use Rattle.pm_talk.specs.declared.live.Live.{Live}
use Rattle.pm_talk.specs.declared.talk.Talk.{Talk}
use Rattle.pm_talk.specs.declared.talk.Talk.TheVariants.{AwaitsSchema, AwaitsDocument, Open}
use Rattle.pm_talk.specs.Live.{answered}
use Rattle.pm_talk.specs.Talk.{Replies, AfterSchema, AfterDocument, opened}
use Rattle.pm_talk.specs.Limited.{RepliesBelow, RepliesWithin}
use Rattle.pm_kept.specs.Sizes.{is_same_size, changes}
use Rattle.pm_kept.specs.Talks.{talk_laws}
use Rattle.pm_kept.specs.LimitedTalks.{same_limited, as_without}
use Rattle.pm_kept.proofs.Unchanged.{same_live}

-- ---- a line after which the sizes are the same changed nothing

unchanged : (live : Live) (line text : List ℕ) (more : Bool) (next : Talk) → Replies (Open live) line text more next → changes (Open live) next ≡ false → next ≡ Open live
unchanged live line text more next replies same =
    let at = subst (λ (t : Talk). changes (Open live) t ≡ false) replies.2 same in
    replies.2 ∙ ap Open (same_live live line (not-false (is_same_size live (answered live line).1) at))

pub same_talk : (was next : Talk) (line text : List ℕ) (more : Bool) → Replies was line text more next → changes was next ≡ false → next ≡ was
same_talk AwaitsSchema next line text more replies same = absurd (true≢false same)
same_talk (AwaitsDocument s) next line text more replies same = absurd (true≢false same)
same_talk (Open live) next line text more replies same = unchanged live line text more next replies same

-- ---- any other changed something

schema_is_new : (s : Schema) → AwaitsDocument s ≡ AwaitsSchema → ⊥
schema_is_new s e = absurd (cc)

document_is_new : (s : Schema) (live : Live) → Open live ≡ AwaitsDocument s → ⊥
document_is_new s live e = absurd (cc)

other_schema : (text : List ℕ) (next : Talk) (r : Result Schema Code) → AfterSchema r text true next → next ≢ AwaitsSchema
other_schema text next (Ok s) told same = schema_is_new s (sym told.2 ∙ same)
other_schema text next (Err code) told same = absurd (true≢false told.1)

other_document : (s : Schema) (text : List ℕ) (next : Talk) (r : Result Document Code) → AfterDocument s r text true next → next ≢ AwaitsDocument s
other_document s text next (Ok doc) told same = document_is_new s (opened s doc) (sym told.3 ∙ same)
other_document s text next (Err code) told same = absurd (true≢false told.1)

own_size : (a b : ℕ) → not ((a == a) && (b == b)) ≡ false
own_size a b = grind (arith, nat_tests)

pub other_talk : (was next : Talk) (line text : List ℕ) → Replies was line text true next → changes was next ≡ true → next ≢ was
other_talk AwaitsSchema next line text replies other = other_schema text next replies.0 replies.2
other_talk (AwaitsDocument s) next line text replies other = other_document s text next replies.0 replies.2
other_talk (Open live) next line text replies other = λ same.
    true≢false (sym (subst (λ (t : Talk). changes (Open live) t ≡ true) same other) ∙ own_size (length live.authority.log) (length live.ids))

pub sizes_differ : (was next : Talk) (line text : List ℕ) (more : Bool) → Replies was line text more next → next ≢ was → changes was next ≡ true
sizes_differ was next line text more replies other = by_changes (changes was next) refl
  where
    by_changes : (b : Bool) → changes was next ≡ b → changes was next ≡ true
    by_changes true e = e
    by_changes false e = absurd (other (same_talk was next line text more replies e))

-- ---- so whether it did is told by the sizes

by_test : (was next : Talk) (line text : List ℕ) (b : Bool) → Replies was line text true next → changes was next ≡ b → MatchBool b (next ≢ was) (next ≡ was)
by_test was next line text true replies e = other_talk was next line text replies e
by_test was next line text false replies e = same_talk was next line text true replies e

by_more : (was next : Talk) (line text : List ℕ) (more : Bool) → Replies was line text more next → MatchBool (more && changes was next) (next ≢ was) (next ≡ was)
by_more was next line text true replies = by_test was next line text (changes was next) replies refl
by_more was next line text false replies = talk_laws.closes was line text next replies

pub talk_changed : (was next : Talk) (line text : List ℕ) (more b : Bool) → Replies was line text more next → b ≡ (more && changes was next) → MatchBool b (next ≢ was) (next ≡ was)
talk_changed was next line text more b replies is =
    subst (λ (x : Bool). MatchBool x (next ≢ was) (next ≡ was)) (sym is) (by_more was next line text more replies)

-- ---- so it is within a limit of work

-- a submission that is over the limit leaves the sizes as they were
open_changed : (live : Live) (next : Talk) (line text : List ℕ) (more b : Bool) → Replies (Open live) line text more next ⊎ ((more ≡ true) × (next ≡ Open live))
    → b ≡ (more && changes (Open live) next) → MatchBool b (next ≢ Open live) (next ≡ Open live)
open_changed live next line text more b (inl told) is = talk_changed (Open live) next line text more b told is
open_changed live next line text more b (inr none) is =
    let own : changes (Open live) (Open live) ≡ false = own_size (length live.authority.log) (length live.ids) in
    let same : changes (Open live) next ≡ false = ap (changes (Open live)) none.1 ∙ own in
    let unchanged_is : b ≡ false = is ∙ ap (λ (x : Bool). x && changes (Open live) next) none.0 ∙ same in
    subst (λ (x : Bool). MatchBool x (next ≢ Open live) (next ≡ Open live)) (sym unchanged_is) none.1

below_changed : (limit : Option ℕ) (was next : Talk) (line text : List ℕ) (more b : Bool) → RepliesBelow limit was line text more next → b ≡ (more && changes was next)
    → MatchBool b (next ≢ was) (next ≡ was)
below_changed None was next line text more b replies is = talk_changed was next line text more b replies is
below_changed (Some limit) AwaitsSchema next line text more b replies is = talk_changed AwaitsSchema next line text more b replies is
below_changed (Some limit) (AwaitsDocument s) next line text more b replies is = talk_changed (AwaitsDocument s) next line text more b replies is
below_changed (Some limit) (Open live) next line text more b replies is =
    open_changed live next line text more b (as_without (Some limit) (Open live) line text more next replies) is

-- the limit stays
with_limit : (b : Bool) (was next : Limited) → next.limit ≡ was.limit → MatchBool b (next.talk ≢ was.talk) (next.talk ≡ was.talk) → MatchBool b (next ≢ was) (next ≡ was)
with_limit true was next limit other = λ e. other (ap (λ (t : Limited). t.talk) e)
with_limit false was next limit same = same_limited next was same limit

pub limited_changed : (was next : Limited) (line text : List ℕ) (more b : Bool) → RepliesWithin was line text more next → b ≡ (more && changes was.talk next.talk)
    → MatchBool b (next ≢ was) (next ≡ was)
limited_changed was next line text more b replies is =
    with_limit b was next replies.1 (below_changed was.limit was.talk next.talk line text more b replies.0 is)
