-- A submission by a client whose ID has a number, and by one whose ID gets the next.
use Rattle.std.proofs.Common.{◌≡◌, ◌∙◌, ◌+◌, ◌<◌, ◌++◌, arith, ℕ, Bool, true, false, List, [], ◌∷◌, length, refl, ap, sym}
use Rattle.std.specs.Prelude.{◌||◌, Option, None, Some, is_some, unwrap_or, nat_lt, if◌then◌else◌}
use Rattle.pm_schema.specs.Names.{place_of}
use Rattle.pm_meaning.specs.Steps.{Step}
use Rattle.pm_head.specs.declared.code.Code.TheVariants.{BadClients}
use Rattle.pm_archive.specs.declared.presenting.TheConstants.{MAX_IDS}
use Rattle.pm_talk.specs.Texts.{fault_text}
use Rattle.pm_talk.specs.Live.{LiveAuthority, LiveAnswer, named, is_accepted}
use Rattle.pm_archive.specs.declared.archive.Archive.{Archive}
use Rattle.pm_archive.specs.Archives.{authority_of, with_authority}
use Rattle.pm_archive.specs.Answers.{presented_at, answer_text, submitted}
use Rattle.pm_archive.proofs.Names.{unaccepted}

-- what is answered to these steps of the client with this number, and what stands then
abbrev pub gives : Archive → ℕ → ℕ → List Step → LiveAnswer × LiveAuthority
gives a number version steps = presented_at a version (named number (version + 1) steps)

-- the definition, by the place of the ID
abbrev by_place : Archive → ℕ → List ℕ → List Step → Option ℕ → List ℕ × Archive
by_place a version id steps place =
    let given = gives a (unwrap_or place (length a.ids)) version steps in
    if is_some place || nat_lt (length a.ids) MAX_IDS
    then (
      answer_text a.from given.0,
      if is_accepted given.0 then with_authority a given.1 (if is_some place then a.ids else a.ids ++ id ∷ []) else a,
    )
    else (fault_text BadClients, a)

-- an answer that changes nothing leaves what stood there
kept-standing : (a : Archive) (number version : ℕ) (steps : List Step) (ids more : List (List ℕ)) → ids ≡ a.ids → (b : Bool)
    → is_accepted (gives a number version steps).0 ≡ b
    → with_authority a (gives a number version steps).1 (if b then more else ids)
    ≡ (if b then with_authority a (gives a number version steps).1 more else a)
kept-standing a number version steps ids more e true h = refl
kept-standing a number version steps ids more e false h =
    ap (λ x. with_authority a x ids) (unaccepted a version (named number (version + 1) steps) h) ∙ ap (λ x. with_authority a (authority_of a) x) e

-- ---- a client whose ID has this number

pub known-text : (a : Archive) (version : ℕ) (id : List ℕ) (steps : List Step) (number : ℕ) (text : List ℕ)
    → place_of id a.ids ≡ Some number → text ≡ answer_text a.from (gives a number version steps).0 → text ≡ (submitted a version id steps).0
known-text a version id steps number text place t = t ∙ ap (λ p. (by_place a version id steps p).0) (sym place)

pub known-after : (a : Archive) (version : ℕ) (id : List ℕ) (steps : List Step) (number : ℕ) (next : Archive)
    → place_of id a.ids ≡ Some number → next ≡ with_authority a (gives a number version steps).1 a.ids → next ≡ (submitted a version id steps).1
known-after a version id steps number next place h =
    h ∙ (same (is_accepted (gives a number version steps).0) refl ∙ ap (λ p. (by_place a version id steps p).1) (sym place))
  where
    same : (b : Bool) → is_accepted (gives a number version steps).0 ≡ b
        → with_authority a (gives a number version steps).1 a.ids
        ≡ (if is_accepted (gives a number version steps).0 then with_authority a (gives a number version steps).1 a.ids else a)
    same true e = sym (ap (λ c. if c then with_authority a (gives a number version steps).1 a.ids else a) e)
    same false e =
        kept-standing a number version steps a.ids a.ids refl false e
        ∙ sym (ap (λ c. if c then with_authority a (gives a number version steps).1 a.ids else a) e)

-- ---- a client whose ID is not there yet, where there is room

first-is : (a : Archive) (version : ℕ) (id : List ℕ) (steps : List Step) → place_of id a.ids ≡ None → nat_lt (length a.ids) MAX_IDS ≡ true
    → let given = gives a (length a.ids) version steps in
    submitted a version id steps ≡ (answer_text a.from given.0, if is_accepted given.0 then with_authority a given.1 (a.ids ++ id ∷ []) else a)
first-is a version id steps place room =
    let given = gives a (length a.ids) version steps in
    ap (λ p. by_place a version id steps p) place
    ∙ ap (λ b. if b
    then (answer_text a.from given.0, if is_accepted given.0 then with_authority a given.1 (a.ids ++ id ∷ []) else a)
    else (fault_text BadClients, a)) room

pub first-text : (a : Archive) (version : ℕ) (id : List ℕ) (steps : List Step) (text : List ℕ)
    → place_of id a.ids ≡ None → nat_lt (length a.ids) MAX_IDS ≡ true → text ≡ answer_text a.from (gives a (length a.ids) version steps).0
    → text ≡ (submitted a version id steps).0
first-text a version id steps text place room t = t ∙ sym (ap (λ x. x.0) (first-is a version id steps place room))

pub first-after : (a : Archive) (version : ℕ) (id : List ℕ) (steps : List Step) (next : LiveAuthority) (accepted : Bool) (ids : List (List ℕ))
    → place_of id a.ids ≡ None → nat_lt (length a.ids) MAX_IDS ≡ true → next ≡ (gives a (length a.ids) version steps).1
    → accepted ≡ is_accepted (gives a (length a.ids) version steps).0
    → ids ≡ (if accepted then a.ids ++ id ∷ [] else a.ids)
    → with_authority a next ids ≡ (submitted a version id steps).1
first-after a version id steps next accepted ids place room h k e =
    let given = gives a (length a.ids) version steps in
    ap (λ x. with_authority a x ids) h
    ∙ (ap (λ x. with_authority a given.1 x) (e ∙ ap (λ b. if b then a.ids ++ id ∷ [] else a.ids) k)
    ∙ (kept-standing a (length a.ids) version steps a.ids (a.ids ++ id ∷ []) refl (is_accepted given.0) refl
    ∙ sym (ap (λ x. x.1) (first-is a version id steps place room))))

-- the same, by the number of the IDs
pub room-lt : (ids : List (List ℕ)) → length ids < MAX_IDS → nat_lt (length ids) MAX_IDS ≡ true
room-lt ids h = grind arith
