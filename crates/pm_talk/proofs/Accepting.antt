-- When a submission is accepted.
use Rattle.std.proofs.Common.{◌≡◌, ◌∙◌, ◌+◌, ℕ, suc, Bool, true, false, List, [], ◌∷◌, length, get_or, refl, ap, sym, subst, arith, Result, Ok, Err}
use Rattle.std.specs.Prelude.{Option, None, Some, if◌then◌else◌}
use Rattle.pm_tokens.specs.Tokens.{Doc as Document}
use Rattle.pm_schema.specs.declared.schema.Schema.{Schema}
use Rattle.pm_meaning.specs.Steps.{Step}
use Rattle.pm_apply.specs.Changes.{meaning}
use Rattle.pm_head.specs.declared.code.Code.{Code}
use Rattle.pm_head.specs.declared.code.Code.TheVariants.{BadClients}
use Rattle.pm_authority.specs.declared.named.Named.{Named}
use Rattle.pm_authority.specs.declared.message.Message.TheVariants as message
use Rattle.pm_authority.specs.declared.message.Answer.TheVariants.{Accepted, WrongVersion, StepRefused, Entries}
use Rattle.pm_authority.specs.Runs.{AllApply}
use Rattle.pm_authority.specs.Presents.{presented}
use Rattle.pm_authority.specs.Causes.{IsAnswer}
use Rattle.pm_authority.proofs.Presented.{present-causes}
use Rattle.pm_talk.specs.declared.asked.Asked.{Asked}
use Rattle.pm_talk.specs.declared.asked.Asked.TheVariants.{Submit, Since, Doc}
use Rattle.pm_talk.specs.declared.live.Live.{Live}
use Rattle.pm_talk.specs.Ids.{number_of, has_room}
use Rattle.pm_talk.specs.Texts.{fault_text, accepted_text, version_text, refused_words, fault_place, reason_number}
use Rattle.pm_talk.specs.Asked.{asked_line}
use Rattle.pm_talk.specs.Live.{LiveAuthority, LiveAnswer, named, message_of, answer_text, told, answer, answered}
use Rattle.pm_talk.specs.Lines.{IsAccepted, AcceptsExactly, fault_in, FaultsChangeNothing}

pub length-named : (client serial : ℕ) (steps : List Step) → length (named client serial steps) ≡ length steps
length-named client serial [] = refl
length-named client serial (step ∷ steps) = ap suc (length-named client (serial + 1) steps)

v-is-not-a : ◌≡◌ {A = ℕ} 118 97 → ⊥
v-is-not-a e = omega (arith, e)

r-is-not-a : ◌≡◌ {A = ℕ} 114 97 → ⊥
r-is-not-a e = omega (arith, e)

-- the other answers' texts begin otherwise
version-differs : (n from count : ℕ) → version_text n ≡ accepted_text from count → ⊥
version-differs n from count h = v-is-not-a (ap (λ xs. get_or xs 2 0) h)

refused-differs : (at : Option ℕ) (index number from count : ℕ) → refused_words at index number ≡ accepted_text from count → ⊥
refused-differs None index number from count h = r-is-not-a (ap (λ xs. get_or xs 2 0) h)
refused-differs (Some at) index number from count h = r-is-not-a (ap (λ xs. get_or xs 2 0) h)

f-is-not-a : ◌≡◌ {A = ℕ} 102 97 → ⊥
f-is-not-a e = omega (arith, e)

fault-differs : (code : Code) (from count : ℕ) → fault_text code ≡ accepted_text from count → ⊥
fault-differs code from count h = f-is-not-a (ap (λ xs. get_or xs 2 0) h)

no-room-is-room : (b : Bool) → b ≡ false → b ≡ true → ⊥
no-room-is-room b f t = absurd (cc)

some-same : (a b : Code) → Some a ≡ Some b → a ≡ b
some-same a b e = cc

abbrev Applies : Schema → LiveAuthority → ℕ → List (Named Step) → Type 0
Applies s a version steps = (version ≡ length a.log) × ((end : Document) × AllApply meaning s a.doc steps end)

-- the answer that says so has its cause
accepted-applies : (s : Schema) (a : LiveAuthority) (version : ℕ) (steps : List (Named Step)) (from count : ℕ) (given : LiveAnswer)
    → IsAnswer meaning s a (message.Submit version steps) given → answer_text given ≡ accepted_text from count → Applies s a version steps
accepted-applies s a version steps from count (Accepted f c) h t = (h.0, h.1.0)
accepted-applies s a version steps from count (WrongVersion size) h t = absurd (version-differs size from count t)
accepted-applies s a version steps from count (StepRefused index reason) h t = absurd (refused-differs (fault_place reason) index (reason_number reason) from count t)
accepted-applies s a version steps from count (Entries since entries) h t = absurd h

pub answer-is : (s : Schema) (a : LiveAuthority) (version : ℕ) (steps : List (Named Step)) → IsAnswer meaning s a (message.Submit version steps) (presented meaning s a (message.Submit version steps)).0
answer-is s a version steps =
    let given = (presented meaning s a (message.Submit version steps)).0 in
    (present-causes meaning s (Ok given) a (message.Submit version steps) refl given).0 refl

applies-accepted : (s : Schema) (a : LiveAuthority) (version : ℕ) (steps : List (Named Step)) → Applies s a version steps
    → (presented meaning s a (message.Submit version steps)).0 ≡ Accepted version (length steps)
applies-accepted s a version steps h =
    let given = (presented meaning s a (message.Submit version steps)).0 in
    (present-causes meaning s (Ok given) a (message.Submit version steps) refl (Accepted version (length steps))).1 (h.0, (h.1, (h.0, refl)))

-- where there is room
room-text : (live : Live) (line : List ℕ) (version : ℕ) (id : List ℕ) (steps : List Step) → asked_line live.schema.spec line ≡ Ok (Submit version id steps)
    → has_room live.ids id ≡ true → (answered live line).0 ≡ answer_text (presented meaning live.schema live.authority (message_of live version id steps)).0
room-text live line version id steps asks room =
    let given = presented meaning live.schema live.authority (message_of live version id steps) in
    ap (λ r. (answer live r).0) asks ∙ ap (λ b. (if b then told live id given else (fault_text BadClients, live)).0) room

-- where there is none
no-room : (live : Live) (line : List ℕ) (version : ℕ) (id : List ℕ) (steps : List Step) → asked_line live.schema.spec line ≡ Ok (Submit version id steps)
    → has_room live.ids id ≡ false → answered live line ≡ (fault_text BadClients, live)
no-room live line version id steps asks room =
    let given = presented meaning live.schema live.authority (message_of live version id steps) in
    ap (answer live) asks ∙ ap (λ b. if b then told live id given else (fault_text BadClients, live)) room

pub accepts : AcceptsExactly
accepts live line version id steps asks = from (has_room live.ids id) refl
  where
    all : List (Named Step)
    all = named (number_of live.ids id) (version + 1) steps

    given : LiveAnswer
    given = (presented meaning live.schema live.authority (message.Submit version all)).0

    from : (b : Bool) → has_room live.ids id ≡ b → IsAccepted live line version id steps
    from true room =
        let is = room-text live line version id steps asks room in (
          λ text. (let p = accepted-applies live.schema live.authority version all version (length steps) given (answer-is live.schema live.authority version all) (sym is ∙ text) in (room, p.0, p.1)),
          λ h. is ∙ (ap answer_text (applies-accepted live.schema live.authority version all (h.1, h.2))
              ∙ ap (accepted_text version) (length-named (number_of live.ids id) (version + 1) steps)),
        )
    from false room = (
      λ text. absurd (fault-differs BadClients version (length steps) (sym (ap (λ a. a.0) (no-room live line version id steps asks room)) ∙ text)),
      λ h. absurd (no-room-is-room (has_room live.ids id) room h.0),
    )

pub faults-change-nothing : FaultsChangeNothing
faults-change-nothing live line code faulty = from (asked_line live.schema.spec line) refl faulty
  where
    from : (r : Result Asked Code) → asked_line live.schema.spec line ≡ r → fault_in live.ids r ≡ Some code → answered live line ≡ (fault_text code, live)
    from (Ok (Submit version id steps)) asks is = by-room (has_room live.ids id) refl is
      where
        by-room : (b : Bool) → has_room live.ids id ≡ b → (if b then None else Some BadClients) ≡ Some code → answered live line ≡ (fault_text code, live)
        by-room true room is = absurd (cc)
        by-room false room is =
            no-room live line version id steps asks room ∙ ap (λ (c : Code). (fault_text c, live)) (some-same BadClients code is)
    from (Ok (Since version most)) asks is = absurd (cc)
    from (Ok Doc) asks is = absurd (cc)
    from (Err own) asks is = ap (answer live) asks ∙ ap (λ (c : Code). (fault_text c, live)) (some-same own code is)
