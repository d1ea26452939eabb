-- What comes of entries that are taken back.
use Rattle.std.proofs.Common.{◌≡◌, ◌∙◌, ◌+◌, ◌-◌, ◌≤◌, arith, ℕ, Bool, true, false, List, [], take, drop, refl, ap, sym, subst, Result, Ok, Err}
use Rattle.std.specs.Prelude.{Option, None, Some, nat_lt, if◌then◌else◌}
use Rattle.std.proofs.lemmas.Bool.{le-ltb}
use Rattle.std.proofs.lemmas.List.{drop-drop}
use Rattle.pm_tokens.specs.Tokens.{Doc as Document}
use Rattle.pm_schema.specs.declared.schema.Schema.{Schema}
use Rattle.pm_meaning.specs.Steps.{Step}
use Rattle.pm_meaning.specs.declared.reason.Reason.{Reason}
use Rattle.pm_change.specs.Changes.{fold}
use Rattle.pm_change.proofs.Folds.{fold-good}
use Rattle.pm_apply.specs.Changes.{meaning}
use Rattle.pm_apply.specs.Laws.{laws}
use Rattle.pm_head.specs.declared.code.Code.TheVariants.{BadClients}
use Rattle.pm_authority.specs.declared.named.Named.{Named}
use Rattle.pm_authority.specs.declared.running.Refusal.{Refusal}
use Rattle.pm_authority.specs.Runs.{AllApply, changes_of}
use Rattle.pm_authority.proofs.RunFolds.{run-fold}
use Rattle.pm_talk.specs.Ids.{has_room}
use Rattle.pm_talk.specs.Texts.{fault_text, version_text, refused_text}
use Rattle.pm_revert.specs.declared.taken.Taken.{Taken}
use Rattle.pm_revert.specs.Takings.{EndsAt, taken_back}
use Rattle.pm_revert.specs.Aparts.{lies_apart}
use Rattle.pm_archive.specs.declared.archive.Archive.{Archive}
use Rattle.pm_archive.specs.declared.reverting.TheConstants.{MAX_VERSION}
use Rattle.pm_archive.specs.Archives.{version_of, IsArchive}
use Rattle.pm_archive.specs.Texts.{from_text, reverted_text}
use Rattle.pm_archive.specs.Answers.{submitted, doc_at, entries_from, taken_from, is_apart, taken, reverted_on, reverted}
use Rattle.pm_archive.proofs.Fronts.{first-apply}
use Rattle.pm_archive.proofs.Forgotten.{rest-apply}

-- ---- each answer

-- the definition, by whether the version lies below what is kept, whether the entries end past the document's, whether there is room
-- for the ID, and whether no client can submit
abbrev pub by_checks : Archive → List ℕ → ℕ → ℕ → Bool → Bool → Bool → Bool → List ℕ × Archive
by_checks a id version count below past room last =
    if below then (from_text a.from, a)
    else (if past then (version_text (version_of a), a)
    else (if room
    then (if last then (version_text (version_of a), a) else reverted_on a id version count (doc_at a version))
    else (fault_text BadClients, a)))

-- what holds of each answer, and of what the document is then, holds of a revert
module _ (P : List ℕ × Archive → Type 0) (a : Archive) (id : List ℕ) (version count : ℕ) where
  pub each-answer : P (from_text a.from, a) → P (version_text (version_of a), a) → P (fault_text BadClients, a) → P ([], a)
      → ((e : Refusal Reason) → P (refused_text e.index e.reason, a))
      → ((before : Document) (t : Taken Document Step) → nat_lt version a.from ≡ false → has_room a.ids id ≡ true → doc_at a version ≡ Some before
      → taken_from a version count before ≡ Ok t
      → P (reverted_text a.schema.spec (version_of a) (is_apart a version count) t.steps, (submitted a (version_of a) id t.steps).1))
      → P (reverted a id version count)
  each-answer low past full none refused done =
      from (nat_lt version a.from) (nat_lt (version_of a) (version + count)) (has_room a.ids id) (nat_lt MAX_VERSION (version_of a)) refl refl
    where
      came : (before : Document) → nat_lt version a.from ≡ false → has_room a.ids id ≡ true → doc_at a version ≡ Some before
          → (r : Result (Taken Document Step) (Refusal Reason)) → taken_from a version count before ≡ r → P (taken a id (is_apart a version count) r)
      came before kept room given (Ok t) e = done before t kept room given e
      came before kept room given (Err x) e = refused x

      on : nat_lt version a.from ≡ false → has_room a.ids id ≡ true → (o : Option Document) → doc_at a version ≡ o → P (reverted_on a id version count o)
      on kept room None e = none
      on kept room (Some before) e = came before kept room e (taken_from a version count before) refl

      from : (below beyond room last : Bool) → nat_lt version a.from ≡ below → has_room a.ids id ≡ room → P (by_checks a id version count below beyond room last)
      from true beyond room last k r = low
      from false true room last k r = past
      from false false false last k r = full
      from false false true true k r = past
      from false false true false k r = on k r (doc_at a version) refl

-- ---- entries that are kept

-- the entries behind those
pub behind-is : (a : Archive) (version count : ℕ) → a.from ≤ version
    → drop count (drop (version - a.from) a.log) ≡ entries_from a (version + count) None
behind-is a version count from =
    let sum : (version - a.from) + count ≡ (version + count) - a.from = omega arith in
    drop-drop count (version - a.from) a.log ∙ ap (λ n. drop n a.log) sum

-- they lead from the document at the version to the one behind them, and the others to the last
pub ends-at : (a : Archive) (version count : ℕ) (before : Document) → IsArchive a → a.from ≤ version → doc_at a version ≡ Some before
    → EndsAt meaning a.schema before (entries_from a version (Some count)) (entries_from a (version + count) None) a.doc
ends-at a version count before good from given =
    let n : ℕ = version - a.from in
    let rest : List (Named Step) = drop n a.log in
    let whole : AllApply meaning a.schema before rest a.doc = rest-apply a.schema a.first before a.doc a.log n given good.folded in
    let mid = first-apply meaning a.schema before a.doc rest count whole in
    let reaches : AllApply meaning a.schema before (take count rest) mid.0 = run-fold meaning a.schema before mid.0 0 (take count rest) mid.1 in
    record {
      good = fold-good meaning a.schema laws a.first before (changes_of (take n a.log)) good.first_good given;
      mid = mid.0;
      apply = reaches;
      later_apply = subst (λ (xs : List (Named Step)). AllApply meaning a.schema mid.0 xs a.doc) (behind-is a version count from)
          (rest-apply a.schema before mid.0 a.doc rest count reaches whole);
    }

-- the schema, the entries and those behind them are these
pub record Picks (a : Archive) (version count : ℕ) (s : Schema) (entries later : List (Named Step)) : Type 0 where
  pub schema : s ≡ a.schema
  pub entries_are : entries ≡ entries_from a version (Some count)
  pub later_are : later ≡ entries_from a (version + count) None

module _ (a : Archive) (version count : ℕ) (s : Schema) (entries later : List (Named Step)) (picks : Picks a version count s entries later) (before : Document) where
  pub picked-end : IsArchive a → a.from ≤ version → doc_at a version ≡ Some before → EndsAt meaning s before entries later a.doc
  picked-end good from given =
      subst (λ (x : Schema). EndsAt meaning x before entries later a.doc) (sym picks.schema)
      (subst (λ (xs : List (Named Step)). EndsAt meaning a.schema before xs later a.doc) (sym picks.entries_are)
      (subst (λ (xs : List (Named Step)). EndsAt meaning a.schema before (entries_from a version (Some count)) xs a.doc) (sym picks.later_are)
      (ends-at a version count before good from given)))

  picked-taken : taken_back meaning s before (changes_of entries) later a.doc ≡ taken_from a version count before
  picked-taken =
      ap (λ (x : Schema). taken_back meaning x before (changes_of entries) later a.doc) picks.schema
      ∙ (ap (λ (xs : List (Named Step)). taken_back meaning a.schema before (changes_of xs) later a.doc) picks.entries_are
      ∙ ap (λ (xs : List (Named Step)). taken_back meaning a.schema before (changes_of (entries_from a version (Some count))) xs a.doc) picks.later_are)

  -- steps that take them back
  pub picked-steps : (id : List ℕ) (apart : Bool) (t : Taken Document Step) → taken_back meaning s before (changes_of entries) later a.doc ≡ Ok t
      → apart ≡ lies_apart (changes_of entries) (changes_of later)
      → reverted_on a id version count (Some before)
      ≡ (reverted_text a.schema.spec (version_of a) apart t.steps, (submitted a (version_of a) id t.steps).1)
  picked-steps id apart t comes told =
      let same : is_apart a version count ≡ apart =
      sym (told ∙ (ap (λ (xs : List (Named Step)). lies_apart (changes_of xs) (changes_of later)) picks.entries_are
      ∙ ap (λ (xs : List (Named Step)). lies_apart (changes_of (entries_from a version (Some count))) (changes_of xs)) picks.later_are)) in
      ap (λ (r : Result (Taken Document Step) (Refusal Reason)). taken a id (is_apart a version count) r) (sym picked-taken ∙ comes)
      ∙ ap (λ (b : Bool). taken a id b (Ok t)) same

  -- so of a list that is theirs
  pub picked-shown : (id : List ℕ) (apart : Bool) (doc : Document) (steps shown : List Step) → shown ≡ steps
      → taken_back meaning s before (changes_of entries) later a.doc ≡ Ok (record { doc = doc; steps = steps })
      → apart ≡ lies_apart (changes_of entries) (changes_of later)
      → reverted_on a id version count (Some before)
      ≡ (reverted_text a.schema.spec (version_of a) apart shown, (submitted a (version_of a) id shown).1)
  picked-shown id apart doc steps shown same comes told =
      picked-steps id apart (record { doc = doc; steps = steps }) comes told
      ∙ ap (λ (xs : List Step). (reverted_text a.schema.spec (version_of a) apart xs, (submitted a (version_of a) id xs).1)) (sym same)

  -- a step that does not apply
  pub picked-refusal : (id : List ℕ) (e : Refusal Reason) → taken_back meaning s before (changes_of entries) later a.doc ≡ Err e
      → reverted_on a id version count (Some before) ≡ (refused_text e.index e.reason, a)
  picked-refusal id e comes =
      ap (λ (r : Result (Taken Document Step) (Refusal Reason)). taken a id (is_apart a version count) r) (sym picked-taken ∙ comes)

-- ---- where nothing stands in the way

pub reverted-is : (a : Archive) (id : List ℕ) (version count : ℕ) (before : Document) → a.from ≤ version → version + count ≤ version_of a
    → has_room a.ids id ≡ true → version_of a ≤ MAX_VERSION → doc_at a version ≡ Some before
    → reverted a id version count ≡ reverted_on a id version count (Some before)
reverted-is a id version count before from within room small given =
    ap (λ b. by_checks a id version count b (nat_lt (version_of a) (version + count)) (has_room a.ids id) (nat_lt MAX_VERSION (version_of a))) (le-ltb version a.from from)
    ∙ (ap (λ b. by_checks a id version count false b (has_room a.ids id) (nat_lt MAX_VERSION (version_of a))) (le-ltb (version_of a) (version + count) within)
    ∙ (ap (λ b. by_checks a id version count false false b (nat_lt MAX_VERSION (version_of a))) room
    ∙ (ap (λ b. by_checks a id version count false false true b) (le-ltb MAX_VERSION (version_of a) small)
    ∙ ap (λ (o : Option Document). reverted_on a id version count o) given)))
