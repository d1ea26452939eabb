-- What lines do to an authority: the messages in them are presented to it, and nothing else changes it.
use Rattle.std.proofs.Common.{◌≡◌, ◌∙◌, ◌+◌, ◌++◌, ℕ, Bool, true, false, List, [], ◌∷◌, length, refl, ap, sym, subst, append-nil, Result, Ok, Err}
use Rattle.std.specs.Prelude.{◌==◌, if◌then◌else◌}
use Rattle.pm_tokens.specs.Tokens.{Doc as Document}
use Rattle.pm_schema.specs.declared.schema.Schema.{Schema}
use Rattle.pm_meaning.specs.Steps.{Step}
use Rattle.pm_meaning.specs.declared.reason.Reason.{Reason}
use Rattle.pm_apply.specs.Changes.{meaning}
use Rattle.pm_apply.specs.Laws.{laws}
use Rattle.pm_head.specs.declared.code.Code.{Code}
use Rattle.pm_head.specs.declared.code.Code.TheVariants.{BadClients}
use Rattle.pm_authority.specs.declared.named.Named.{Named}
use Rattle.pm_authority.specs.declared.running.Refusal.{Refusal}
use Rattle.pm_authority.specs.declared.message.Message.{Message}
use Rattle.pm_authority.specs.declared.message.Message.TheVariants as message
use Rattle.pm_authority.specs.declared.message.Answer.TheVariants.{WrongVersion}
use Rattle.pm_authority.specs.Runs.{run}
use Rattle.pm_authority.specs.Presents.{tried, presented}
use Rattle.pm_authority.specs.Kept.{IsKept}
use Rattle.pm_authority.proofs.RunFolds.{kept-append}
use Rattle.pm_talk.specs.declared.asked.Asked.{Asked}
use Rattle.pm_talk.specs.declared.asked.Asked.TheVariants.{Submit, Since, Doc}
use Rattle.pm_talk.specs.declared.live.Live.{Live}
use Rattle.pm_talk.specs.Ids.{has_room, with_id}
use Rattle.pm_talk.specs.Texts.{fault_text, no_memory}
use Rattle.pm_talk.specs.Asked.{asked_line}
use Rattle.pm_talk.specs.Live.{LiveAuthority, LiveAnswer, message_of, some_steps, is_accepted, told, answer, answered}
use Rattle.pm_talk.specs.Lines.{Line, after_line, after, message_in, messages, presents}

-- ---- one message

-- an authority that is kept stays so
pub presented-kept : (s : Schema) (a : LiveAuthority) (m : Message Step) → IsKept meaning s a → IsKept meaning s (presented meaning s a m).1
presented-kept s a (message.Submit version steps) kept = from (version == length a.log)
  where
    ran : (r : Result Document (Refusal Reason)) → run meaning s a.doc 0 steps ≡ r → IsKept meaning s (tried meaning s a steps r).1
    ran (Ok d) e = kept-append meaning s laws a d steps kept e
    ran (Err x) e = kept

    from : (b : Bool) → IsKept meaning s (if b then tried meaning s a steps (run meaning s a.doc 0 steps) else (WrongVersion (length a.log), a)).1
    from true = ran (run meaning s a.doc 0 steps) refl
    from false = kept
presented-kept s a (message.Ask version) kept = kept

-- where no step was accepted, nothing changes
pub unaccepted : (s : Schema) (a : LiveAuthority) (m : Message Step) → is_accepted (presented meaning s a m).0 ≡ false → (presented meaning s a m).1 ≡ a
unaccepted s a (message.Submit version steps) e = from (version == length a.log) e
  where
    none : (d : Document) (xs : List (Named Step)) → run meaning s a.doc 0 xs ≡ Ok d → some_steps (length xs) ≡ false → record { first = a.first; doc = d; log = a.log ++ xs } ≡ a
    none d [] q e =
        let same : a.doc ≡ d = cc in
        ap (λ x. record { first = a.first; doc = x; log = a.log ++ [] }) (sym same) ∙ ap (λ xs. record { first = a.first; doc = a.doc; log = xs }) (append-nil a.log)
    none d (x ∷ xs) q e = absurd (cc)

    ran : (r : Result Document (Refusal Reason)) → run meaning s a.doc 0 steps ≡ r → is_accepted (tried meaning s a steps r).0 ≡ false → (tried meaning s a steps r).1 ≡ a
    ran (Ok d) q e = none d steps q e
    ran (Err x) q e = refl

    chosen : Bool → LiveAnswer × LiveAuthority
    chosen b = if b then tried meaning s a steps (run meaning s a.doc 0 steps) else (WrongVersion (length a.log), a)

    from : (b : Bool) → is_accepted (chosen b).0 ≡ false → (chosen b).1 ≡ a
    from true e = ran (run meaning s a.doc 0 steps) refl e
    from false e = refl
unaccepted s a (message.Ask version) e = refl

-- ---- one line

told-authority : (live : Live) (id : List ℕ) (m : Message Step) → (b : Bool) → is_accepted (presented meaning live.schema live.authority m).0 ≡ b
    → (if b then record { schema = live.schema; authority = (presented meaning live.schema live.authority m).1; ids = with_id live.ids id } else live).authority
    ≡ (presented meaning live.schema live.authority m).1
told-authority live id m true e = refl
told-authority live id m false e = sym (unaccepted live.schema live.authority m e)

told-schema : (live : Live) (id : List ℕ) (a : LiveAuthority) (b : Bool)
    → (if b then record { schema = live.schema; authority = a; ids = with_id live.ids id } else live).schema ≡ live.schema
told-schema live id a true = refl
told-schema live id a false = refl

submitted-authority : (live : Live) (version : ℕ) (id : List ℕ) (steps : List Step) (b : Bool)
    → (if b then told live id (presented meaning live.schema live.authority (message_of live version id steps)) else (fault_text BadClients, live)).1.authority
    ≡ presents live.schema live.authority (if b then message_of live version id steps ∷ [] else [])
submitted-authority live version id steps true =
    let m = message_of live version id steps in
    told-authority live id m (is_accepted (presented meaning live.schema live.authority m).0) refl
submitted-authority live version id steps false = refl

submitted-schema : (live : Live) (version : ℕ) (id : List ℕ) (steps : List Step) (b : Bool)
    → (if b then told live id (presented meaning live.schema live.authority (message_of live version id steps)) else (fault_text BadClients, live)).1.schema ≡ live.schema
submitted-schema live version id steps true =
    let given = presented meaning live.schema live.authority (message_of live version id steps) in
    told-schema live id given.1 (is_accepted given.0)
submitted-schema live version id steps false = refl

answer-authority : (live : Live) (r : Result Asked Code) → (answer live r).1.authority ≡ presents live.schema live.authority (message_in live r)
answer-authority live (Ok (Submit version id steps)) = submitted-authority live version id steps (has_room live.ids id)
answer-authority live (Ok (Since version most)) = refl
answer-authority live (Ok Doc) = refl
answer-authority live (Err code) = refl

answer-schema : (live : Live) (r : Result Asked Code) → (answer live r).1.schema ≡ live.schema
answer-schema live (Ok (Submit version id steps)) = submitted-schema live version id steps (has_room live.ids id)
answer-schema live (Ok (Since version most)) = refl
answer-schema live (Ok Doc) = refl
answer-schema live (Err code) = refl

-- what the line is answered changes neither the schema nor, but for its message, the authority
line-authority : (live : Live) (line : Line)
    → (after_line live line).1.authority ≡ presents live.schema live.authority (if line.heard then message_in live (asked_line live.schema.spec line.bytes) else [])
line-authority live line = from line.heard
  where
    from : (b : Bool) → (if b then answered live line.bytes else (no_memory, live)).1.authority
        ≡ presents live.schema live.authority (if b then message_in live (asked_line live.schema.spec line.bytes) else [])
    from true = answer-authority live (asked_line live.schema.spec line.bytes)
    from false = refl

line-schema : (live : Live) (line : Line) → (after_line live line).1.schema ≡ live.schema
line-schema live line = from line.heard
  where
    from : (b : Bool) → (if b then answered live line.bytes else (no_memory, live)).1.schema ≡ live.schema
    from true = answer-schema live (asked_line live.schema.spec line.bytes)
    from false = refl

-- ---- all lines

presents-append : (s : Schema) (a : LiveAuthority) (ms more : List (Message Step)) → presents s a (ms ++ more) ≡ presents s (presents s a ms) more
presents-append s a [] more = refl
presents-append s a (m ∷ ms) more = presents-append s (presented meaning s a m).1 ms more

pub presents-kept : (s : Schema) (a : LiveAuthority) (ms : List (Message Step)) → IsKept meaning s a → IsKept meaning s (presents s a ms)
presents-kept s a [] kept = kept
presents-kept s a (m ∷ ms) kept = presents-kept s (presented meaning s a m).1 ms (presented-kept s a m kept)

-- after the lines the authority is the one after the messages in them
pub folded : (live : Live) (lines : List Line) → (after live lines).authority ≡ presents live.schema live.authority (messages live lines)
folded live [] = refl
folded live (line ∷ lines) =
    let next = (after_line live line).1 in
    let own = if line.heard then message_in live (asked_line live.schema.spec line.bytes) else [] in
    folded next lines
    ∙ (ap (λ s. presents s next.authority (messages next lines)) (line-schema live line)
    ∙ (ap (λ a. presents live.schema a (messages next lines)) (line-authority live line)
    ∙ sym (presents-append live.schema live.authority own (messages next lines))))

-- after each number of lines all is valid
pub valid : (live : Live) (lines : List Line) → IsKept meaning live.schema live.authority → IsKept meaning live.schema (after live lines).authority
valid live lines kept =
    subst (IsKept meaning live.schema) (sym (folded live lines)) (presents-kept live.schema live.authority (messages live lines) kept)
