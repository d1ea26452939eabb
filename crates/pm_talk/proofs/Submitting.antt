-- A submission by a client whose ID has a number, and by one whose ID gets the next.
use Rattle.std.proofs.Common.{◌≡◌, ◌∙◌, ◌+◌, ◌<◌, ◌++◌, arith, ℕ, Bool, true, false, List, [], ◌∷◌, length, take, refl, ap, sym}
use Rattle.std.specs.Prelude.{◌||◌, Option, None, Some, is_some, unwrap_or, nat_lt, if◌then◌else◌}
use Rattle.std.proofs.Math.Seq.{take-append_seam}
use Rattle.pm_schema.specs.Names.{place_of}
use Rattle.pm_meaning.specs.Steps.{Step}
use Rattle.pm_apply.specs.Changes.{meaning}
use Rattle.pm_head.specs.declared.code.Code.TheVariants.{BadClients}
use Rattle.pm_authority.specs.declared.message.Message.TheVariants as message
use Rattle.pm_authority.specs.Presents.{presented}
use Rattle.pm_talk.specs.declared.live.Live.{Live}
use Rattle.pm_talk.specs.declared.ids.TheConstants.{MAX_IDS}
use Rattle.pm_talk.specs.Texts.{fault_text}
use Rattle.pm_talk.specs.Live.{LiveAuthority, LiveAnswer, named, answer_text, is_accepted, submitted}
use Rattle.pm_talk.proofs.Answering.{unaccepted}

-- what the authority answers to these steps of the client with this number, and what it is then
abbrev pub gives : Live → ℕ → ℕ → List Step → LiveAnswer × LiveAuthority
gives live number version steps = presented meaning live.schema live.authority (message.Submit version (named number (version + 1) steps))

abbrev pub standing : Live → LiveAuthority → List (List ℕ) → Live
standing live a ids = record { schema = live.schema; authority = a; ids = ids }

-- the definition, by the place of the ID
abbrev by_place : Live → ℕ → List ℕ → List Step → Option ℕ → List ℕ × Live
by_place live version id steps place =
    let given = gives live (unwrap_or place (length live.ids)) version steps in
    if is_some place || nat_lt (length live.ids) MAX_IDS
    then (
      answer_text given.0,
      if is_accepted given.0 then standing live given.1 (if is_some place then live.ids else live.ids ++ id ∷ []) else live,
    )
    else (fault_text BadClients, live)

-- an answer that changes nothing leaves the authority that stands there
kept-standing : (live : Live) (number version : ℕ) (steps : List Step) (ids more : List (List ℕ)) → ids ≡ live.ids → (b : Bool)
    → is_accepted (gives live number version steps).0 ≡ b
    → standing live (gives live number version steps).1 (if b then more else ids)
    ≡ (if b then standing live (gives live number version steps).1 more else live)
kept-standing live number version steps ids more e true h = refl
kept-standing live number version steps ids more e false h =
    let m = message.Submit version (named number (version + 1) steps) in
    ap (λ a. standing live a ids) (unaccepted live.schema live.authority m h) ∙ ap (λ x. standing live live.authority x) e

-- a client whose ID has this number
pub known-text : (live : Live) (version : ℕ) (id : List ℕ) (steps : List Step) (number : ℕ) (text : List ℕ)
    → place_of id live.ids ≡ Some number → text ≡ answer_text (gives live number version steps).0 → text ≡ (submitted live version id steps).0
known-text live version id steps number text place t = t ∙ ap (λ p. (by_place live version id steps p).0) (sym place)

-- a client whose ID is not there yet, where there is room
first-is : (live : Live) (version : ℕ) (id : List ℕ) (steps : List Step) → place_of id live.ids ≡ None → nat_lt (length live.ids) MAX_IDS ≡ true
    → let given = gives live (length live.ids) version steps in
    submitted live version id steps ≡ (answer_text given.0, if is_accepted given.0 then standing live given.1 (live.ids ++ id ∷ []) else live)
first-is live version id steps place room =
    let given = gives live (length live.ids) version steps in
    ap (λ p. by_place live version id steps p) place
    ∙ ap (λ b. if b
    then (answer_text given.0, if is_accepted given.0 then standing live given.1 (live.ids ++ id ∷ []) else live)
    else (fault_text BadClients, live)) room

pub first-text : (live : Live) (version : ℕ) (id : List ℕ) (steps : List Step) (text : List ℕ)
    → place_of id live.ids ≡ None → nat_lt (length live.ids) MAX_IDS ≡ true → text ≡ answer_text (gives live (length live.ids) version steps).0
    → text ≡ (submitted live version id steps).0
first-text live version id steps text place room t = t ∙ sym (ap (λ x. x.0) (first-is live version id steps place room))

pub first-after : (live : Live) (version : ℕ) (id : List ℕ) (steps : List Step) (a : LiveAuthority) (accepted : Bool) (ids : List (List ℕ))
    → place_of id live.ids ≡ None → nat_lt (length live.ids) MAX_IDS ≡ true → a ≡ (gives live (length live.ids) version steps).1
    → accepted ≡ is_accepted (gives live (length live.ids) version steps).0
    → ids ≡ (if accepted then live.ids ++ id ∷ [] else live.ids)
    → standing live a ids ≡ (submitted live version id steps).1
first-after live version id steps a accepted ids place room h k e =
    let given = gives live (length live.ids) version steps in
    ap (λ x. standing live x ids) h
    ∙ (ap (λ x. standing live given.1 x) (e ∙ ap (λ b. if b then live.ids ++ id ∷ [] else live.ids) k)
    ∙ (kept-standing live (length live.ids) version steps live.ids (live.ids ++ id ∷ []) refl (is_accepted given.0) refl
    ∙ sym (ap (λ x. x.1) (first-is live version id steps place room))))

-- the same, by the number of the IDs
pub room-lt : (ids : List (List ℕ)) → length ids < MAX_IDS → nat_lt (length ids) MAX_IDS ≡ true
room-lt ids h = grind arith

-- the ID that was added is dropped again where it isn't kept
pub first-ids : (ids : List (List ℕ)) (id : List ℕ) (count : ℕ) (kept : Bool) (added now : List (List ℕ)) → count ≡ length ids → added ≡ ids ++ id ∷ []
    → now ≡ (if kept then added else take count added) → now ≡ (if kept then ids ++ id ∷ [] else ids)
first-ids ids id count true added now n a h = h ∙ a
first-ids ids id count false added now n a h =
    h ∙ (ap (λ k. take k added) n ∙ (ap (λ xs. take (length ids) xs) a ∙ take-append_seam ids (id ∷ [])))
