-- Names of a document's tokens. A token keeps its name as long as it is in the document.
use Rattle.std.specs.Prelude.{◌≡◌, ℕ, zero, suc, ◌+◌, ◌-◌, ◌<◌, List, [], ◌∷◌, ◌++◌, length, take, drop, slice_get, Some}
use Rattle.std.specs.List.{AllByRecursion as Each}
use Rattle.pm_map.specs.declared.side.Side.TheVariants.{After}
use Rattle.pm_map.specs.declared.step_map.Span.{Span}
use Rattle.pm_change.specs.declared.name.Name.{Name}
use Rattle.pm_change.specs.Changes.{Meaning}
use Rattle.pm_authority.specs.declared.named.Named.{Named}
use Rattle.pm_client.specs.declared.client.Client.{Client}
use Rattle.pm_client.specs.Clients.{own_run}
use Rattle.pm_client.specs.Cursors.{cursor}

-- A token of the first document is named by its place, and a token that a step puts in by the step's name and its place
-- among those that the step puts in.
pub data Token : Type 0 where
  First : ℕ → Token
  Put : Name → ℕ → Token

-- the names of so many tokens from a place on
abbrev pub tokens_from : (ℕ → Token) → ℕ → ℕ → List Token
tokens_from name place zero = []
tokens_from name place (suc n) = name place ∷ tokens_from name (suc place) n

-- The names after a step: those in its ranges go, what it puts in there has new names, and all others stay. The ranges
-- stand from place `at` on, and what is put in has its places from `place` on.
abbrev pub spliced_from : (ℕ → Token) → List Span → ℕ → ℕ → List Token → List Token
spliced_from name [] at place names = names
spliced_from name (r ∷ rs) at place names =
    take (r.start - at) names ++ (tokens_from name place r.new_size
    ++ spliced_from name rs (r.start + r.old_size) (place + r.new_size) (drop ((r.start - at) + r.old_size) names))

abbrev pub spliced : (ℕ → Token) → List Span → List Token → List Token
spliced name rs names = spliced_from name rs 0 0 names

-- ranges that do not touch
abbrev pub Unpinched : List Span → Type 0
Unpinched [] = Unit {0}
Unpinched (r ∷ []) = Unit {0}
Unpinched (r ∷ s ∷ rs) = (r.start + r.old_size < s.start) × Unpinched (s ∷ rs)

-- the token is in the document
abbrev pub Has : List Token → Token → Type 0
Has names t = (q : ℕ) × (slice_get names q ≡ Some t)

-- the names of a document of this size, before any step
abbrev pub first_names : ℕ → List Token
first_names size = tokens_from First 0 size

-- the names after steps one after another
abbrev pub names_after : {Rules Doc Reason C : Type 0} → Meaning Rules Doc Reason C → List Token → List (Named C) → List Token
names_after m names [] = names
names_after m names (n ∷ ns) = names_after m (spliced (Put n.name) (m.step_map n.change) names) ns

-- no token stands twice
abbrev pub Once : List Token → Type 0
Once [] = Unit {0}
Once (t ∷ ts) = Each (λ u. u ≡ t → ⊥) ts × Once ts

-- no token is one that the step of this name puts in
abbrev pub NotBy : Name → List Token → Type 0
NotBy name ts = Each (λ t. (place : ℕ) → t ≡ Put name place → ⊥) ts

-- the same of all these steps
abbrev pub NoneBy : {C : Type 0} → List (Named C) → List Token → Type 0
NoneBy ns ts = Each (λ n. NotBy n.name ts) ns

-- no two of these steps have one name
abbrev pub AllDiffer : {C : Type 0} → List (Named C) → Type 0
AllDiffer [] = Unit {0}
AllDiffer (n ∷ ns) = Each (λ k. k.name ≡ n.name → ⊥) ns × AllDiffer ns

-- no step is pinched
abbrev pub AllUnpinched : {Rules Doc Reason C : Type 0} → Meaning Rules Doc Reason C → List (Named C) → Type 0
AllUnpinched m ns = Each (λ n. Unpinched (m.step_map n.change)) ns

-- the entries of the log that a client passed from one version to the next
abbrev pub passed : {C : Type 0} → List (Named C) → ℕ → ℕ → List (Named C)
passed log old new = take (new - old) (drop old log)

-- What cursors go over. Where no others' steps were passed, those are the steps made. Else they are the pending steps that
-- were carried over the others', the others', and the steps pending afterwards.
abbrev pub over_others : {C : Type 0} → List (Named C) → List (Named C) → List (Named C) → List (Named C) → List (Named C)
over_others [] carried kept made = made
over_others (n ∷ others) carried kept made = carried ++ ((n ∷ others) ++ kept)

-- The steps over which this client's cursors go while it passes these entries of the log and its pending steps become other
-- ones. Where no entry is another client's, those are the steps that it made: the ones pending after, after as many as were
-- pending before. So there are none where its own entries were confirmed, and none where nothing was done. Where others'
-- entries stand after its own ones, those are the pending steps after as many as its own entries, the others' entries, and
-- the steps pending after.
abbrev pub gone_over : {C : Type 0} → ℕ → List (Named C) → List (Named C) → List (Named C) → List (Named C)
gone_over client entries before after =
    over_others (drop (own_run client entries) entries) (drop (own_run client entries) before) after (drop (length before) after)

module _ {Rules Doc Reason C : Type 0} (m : Meaning Rules Doc Reason C) (log : List (Named C)) (c d : Client C Rules Doc Reason) where
  -- Names of the tokens of the base: they differ, and none is that of a token which a step of the log or a pending one puts
  -- in. No two steps that the client passed have one name, and no step over which its cursors went is pinched.
  pub record MayName (base_size : ℕ) (names : List Token) : Type 0 where
    pub size : length names ≡ base_size
    pub once : Once names
    pub past : NoneBy (passed log c.version d.version) names
    pub pending : NoneBy c.pending names
    pub made : NoneBy d.pending names
    pub differ : AllDiffer (passed log c.version d.version)
    pub unpinched : AllUnpinched m (gone_over c.name (passed log c.version d.version) c.pending d.pending)

  -- A cursor with side `After` that stood before a token of the client's document stands before that token of its next document,
  -- where that is there. The documents' tokens have the names that the base's tokens come to have over the pending steps,
  -- and over the steps passed and then the next pending ones.
  abbrev pub KeepsTokens : ℕ → Type 0
  KeepsTokens base_size =
      (names : List Token) → MayName base_size names → (i p : ℕ) (t : Token) → slice_get c.cursors i ≡ Some (cursor p After)
      → slice_get (names_after m names c.pending) p ≡ Some t
      → Has (names_after m (names_after m names (passed log c.version d.version)) d.pending) t
      → (q : ℕ) × (slice_get d.cursors i ≡ Some (cursor q After))
      × (slice_get (names_after m (names_after m names (passed log c.version d.version)) d.pending) q ≡ Some t)
