-- Authorities that stand alike do so after each line.
use Rattle.std.proofs.Common.{◌≡◌, ℕ, ◌+◌, Bool, true, false, List, subst}
use Rattle.std.specs.Prelude.{Result, Ok, Err, if◌then◌else◌}
use Rattle.pm_change.specs.Changes.{Meaning}
use Rattle.pm_tokens.specs.Tokens.{Doc as Document}
use Rattle.pm_tokens.specs.Schemas as documents
use Rattle.pm_schema.specs.declared.schema.Schema.{Schema}
use Rattle.pm_schemajson.proofs.SameDocuments.{documents-alike}
use Rattle.pm_meaning.specs.Steps.{Step}
use Rattle.pm_meaning.specs.declared.reason.Reason.{Reason}
use Rattle.pm_meaning.specs.Meanings.{meaning_by}
use Rattle.pm_apply.specs.Changes.{meaning}
use Rattle.pm_authority.specs.declared.message.Message.TheVariants as message
use Rattle.pm_authority.specs.Presents.{presented}
use Rattle.pm_head.specs.declared.code.Code.{Code}
use Rattle.pm_head.specs.declared.code.Code.TheVariants.{BadClients}
use Rattle.pm_talk.specs.declared.asked.Asked.{Asked}
use Rattle.pm_talk.specs.declared.asked.Asked.TheVariants.{Submit, Since, Doc}
use Rattle.pm_talk.specs.declared.live.Live.{Live}
use Rattle.pm_talk.specs.Ids.{number_of, has_room, with_id}
use Rattle.pm_talk.specs.Texts.{fault_text}
use Rattle.pm_talk.specs.Asked.{asked_line}
use Rattle.pm_talk.specs.Live.{LiveAuthority, LiveAnswer, named, message_of, is_accepted, told, submitted, answer, answered}
use Rattle.pm_kept.specs.Alike.{AlikeLives}
use Rattle.pm_kept.proofs.AlikeAsked.{asked-alike}

-- what changes mean to documents of this schema, whatever the rules
abbrev by : documents.Schema → Meaning Schema Document Reason Step
by d = meaning_by (λ rules. d)

-- of two answers, the authorities after them
abbrev AlikeAfter : List ℕ × Live → List ℕ × Live → Type 0
AlikeAfter x y = AlikeLives x.1 y.1

-- whichever is taken by equal tests
either-live : (b c : Bool) → b ≡ c → (x y z w : Live) → AlikeLives x z → AlikeLives y w → AlikeLives (if b then x else y) (if c then z else w)
either-live true true e x y z w h k = h
either-live false false e x y z w h k = k
either-live true false e x y z w h k = absurd (cc)
either-live false true e x y z w h k = absurd (cc)

either-answer : (b c : Bool) → b ≡ c → (x y z w : List ℕ × Live) → AlikeAfter x z → AlikeAfter y w → AlikeAfter (if b then x else y) (if c then z else w)
either-answer true true e x y z w h k = h
either-answer false false e x y z w h k = k
either-answer true false e x y z w h k = absurd (cc)
either-answer false true e x y z w h k = absurd (cc)

module _ (live other : Live) (h : AlikeLives live other) where
  -- what the authority answers to a submission
  pub given-alike : (version : ℕ) (id : List ℕ) (steps : List Step)
      → presented meaning live.schema live.authority (message_of live version id steps) ≡ presented meaning other.schema other.authority (message_of other version id steps)
  given-alike version id steps =
      λ i. presented (by (documents-alike live.schema.spec other.schema.spec h.schemas.types i)) live.schema (h.authority i)
      (message.Submit version (named (number_of (h.ids i) id) (version + 1) steps))

  told-alike : (id : List ℕ) (x y : LiveAnswer × LiveAuthority) → x ≡ y → AlikeAfter (told live id x) (told other id y)
  told-alike id x y e =
      either-live (is_accepted x.0) (is_accepted y.0) (λ i. is_accepted (e i).0)
      (record { schema = live.schema; authority = x.1; ids = with_id live.ids id }) live
      (record { schema = other.schema; authority = y.1; ids = with_id other.ids id }) other
      (record { schemas = h.schemas; authority = λ i. (e i).1; ids = λ i. with_id (h.ids i) id }) h

  submitted-alike : (version : ℕ) (id : List ℕ) (steps : List Step) → AlikeAfter (submitted live version id steps) (submitted other version id steps)
  submitted-alike version id steps =
      let x = presented meaning live.schema live.authority (message_of live version id steps) in
      let y = presented meaning other.schema other.authority (message_of other version id steps) in
      either-answer (has_room live.ids id) (has_room other.ids id) (λ i. has_room (h.ids i) id)
      (told live id x) (fault_text BadClients, live) (told other id y) (fault_text BadClients, other)
      (told-alike id x y (given-alike version id steps)) h

  answer-alike : (asked : Result Asked Code) → AlikeAfter (answer live asked) (answer other asked)
  answer-alike (Ok (Submit version id steps)) = submitted-alike version id steps
  answer-alike (Ok (Since version most)) = h
  answer-alike (Ok Doc) = h
  answer-alike (Err code) = h

  pub answered-alike : (line : List ℕ) → AlikeLives (answered live line).1 (answered other line).1
  answered-alike line =
      subst (λ (asked : Result Asked Code). AlikeAfter (answer live (asked_line live.schema.spec line)) (answer other asked))
      (asked-alike live.schema.spec other.schema.spec h.schemas.types line)
      (answer-alike (asked_line live.schema.spec line))
