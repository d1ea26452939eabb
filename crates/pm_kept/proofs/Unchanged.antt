-- A line after which the log is as long as before, and there are as many IDs, changed nothing.
use Rattle.std.proofs.Common.{◌≡◌, ℕ, ◌+◌, Bool, true, false, List, [], ◌∷◌, ◌++◌, length, refl, arith, Result, Ok, Err, length-append}
use Rattle.std.specs.Prelude.{if◌then◌else◌, ◌==◌}
use Rattle.std.proofs.lemmas.Bool.{and_parts}
use Rattle.std.proofs.lemmas.Bool.Decides.{nat_tests}
use Rattle.pm_tokens.specs.Tokens.{Doc as Document}
use Rattle.pm_meaning.specs.Steps.{Step}
use Rattle.pm_meaning.specs.declared.reason.Reason.{Reason}
use Rattle.pm_apply.specs.Changes.{meaning}
use Rattle.pm_head.specs.declared.code.Code.{Code}
use Rattle.pm_head.specs.declared.code.Code.TheVariants.{BadClients}
use Rattle.pm_authority.specs.declared.named.Named.{Named}
use Rattle.pm_authority.specs.declared.message.Answer.TheVariants.{WrongVersion}
use Rattle.pm_authority.specs.declared.running.Refusal.{Refusal}
use Rattle.pm_authority.specs.Runs.{run}
use Rattle.pm_authority.specs.Presents.{presented, tried}
use Rattle.pm_talk.specs.declared.asked.Asked.{Asked}
use Rattle.pm_talk.specs.declared.asked.Asked.TheVariants.{Submit, Since, Doc}
use Rattle.pm_talk.specs.declared.live.Live.{Live}
use Rattle.pm_talk.specs.Ids.{has_room, number_of}
use Rattle.pm_talk.specs.Texts.{fault_text}
use Rattle.pm_talk.specs.Asked.{asked_line}
use Rattle.pm_talk.specs.Live.{named, message_of, told, answer, answered}
use Rattle.pm_kept.specs.Sizes.{is_same_size}

-- what has a live's size is that live
abbrev Same : Live → Live → Type 0
Same live next = is_same_size live next ≡ true → next ≡ live

equal : (a b : ℕ) → (a == b) ≡ true → a ≡ b
equal a b h = grind (arith, nat_tests)

some_more : (log : List (Named Step)) (step : Named Step) (steps : List (Named Step)) → length (log ++ step ∷ steps) ≡ length log → ⊥
some_more log step steps h = omega (arith, h, length-append log (step ∷ steps))

same_tried : (live : Live) (id : List ℕ) (steps : List (Named Step)) (r : Result Document (Refusal Reason)) → Same live (told live id (tried meaning live.schema live.authority steps r)).1
same_tried live id [] (Ok doc) size = refl
same_tried live id (step ∷ steps) (Ok doc) size = absurd (some_more live.authority.log step steps (equal _ _ (and_parts _ _ size).0))
same_tried live id steps (Err e) size = refl

-- a submission, by whether its version is the log's length
same_version : (live : Live) (id : List ℕ) (steps : List (Named Step)) (b : Bool)
    → Same live (told live id (if b then tried meaning live.schema live.authority steps (run meaning live.schema live.authority.doc 0 steps) else (WrongVersion (length live.authority.log), live.authority))).1
same_version live id steps true = same_tried live id steps (run meaning live.schema live.authority.doc 0 steps)
same_version live id steps false = λ size. refl

-- and by whether there is room for its ID
same_room : (live : Live) (b : Bool) (t : List ℕ × Live) → Same live t.1 → Same live (if b then t else (fault_text BadClients, live)).1
same_room live true t h = h
same_room live false t h = λ size. refl

same_answer : (live : Live) (asked : Result Asked Code) → Same live (answer live asked).1
same_answer live (Ok (Submit version id steps)) =
    same_room live (has_room live.ids id) (told live id (presented meaning live.schema live.authority (message_of live version id steps)))
    (same_version live id (named (number_of live.ids id) (version + 1) steps) (version == length live.authority.log))
same_answer live (Ok (Since version most)) = λ size. refl
same_answer live (Ok Doc) = λ size. refl
same_answer live (Err code) = λ size. refl

pub same_live : (live : Live) (line : List ℕ) → is_same_size live (answered live line).1 ≡ true → (answered live line).1 ≡ live
same_live live line = same_answer live (asked_line live.schema.spec line)
