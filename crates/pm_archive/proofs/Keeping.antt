-- To let old steps go changes no answer but those to what asks for them.
use Rattle.std.proofs.Common.{◌≡◌, ◌∙◌, ◌+◌, ◌-◌, ◌≤◌, ◌<◌, ◌⊎◌, inl, inr, arith, ℕ, Bool, true, false, List, [], ◌∷◌, ◌++◌, length, take, drop, min, refl, ap, sym, subst, Result, Ok, Err}
use Rattle.std.specs.Prelude.{Option, None, Some, MatchBool, nat_lt, ◌==◌, if◌then◌else◌}
use Rattle.std.proofs.lemmas.Bool.{ltb-true, ltb-false, lt-ltb, le-ltb}
use Rattle.std.proofs.lemmas.List.{length-append, length-drop, take-append-le, drop-append-le, drop-drop}
use Rattle.std.proofs.Math.Seq.{take-add}
use Rattle.serde_json.specs.Data.{Data}
use Rattle.pm_tokens.specs.Tokens.{Doc as Document}
use Rattle.pm_meaning.specs.Steps.{Step}
use Rattle.pm_meaning.specs.declared.reason.Reason.{Reason}
use Rattle.pm_change.specs.declared.no_step.NoStep.{NoStep}
use Rattle.pm_change.specs.Changes.{fold}
use Rattle.pm_change.proofs.Folds.{fold-append}
use Rattle.pm_apply.specs.Changes.{meaning}
use Rattle.pm_head.specs.declared.code.Code.{Code}
use Rattle.pm_head.specs.declared.code.Code.TheVariants.{BadClients}
use Rattle.pm_authority.specs.declared.named.Named.{Named}
use Rattle.pm_authority.specs.declared.running.Refusal.{Refusal}
use Rattle.pm_authority.specs.declared.message.Answer.TheVariants.{WrongVersion}
use Rattle.pm_authority.specs.Runs.{run, changes_of}
use Rattle.pm_authority.specs.Presents.{tried}
use Rattle.pm_authority.proofs.RunFolds.{changes-append, run-fold}
use Rattle.pm_client.specs.declared.cursors.Cursor.{Cursor}
use Rattle.pm_talk.specs.Ids.{number_of, has_room, with_id}
use Rattle.pm_talk.specs.Texts.{fault_text, accepted_text, version_text}
use Rattle.pm_talk.specs.Live.{LiveAuthority, named, some_steps, is_accepted}
use Rattle.pm_order.specs.declared.word.DocWord.{DocWord}
use Rattle.pm_order.specs.declared.word.DocWord.TheVariants as word
use Rattle.pm_order.specs.declared.wish.Wish.{Wish}
use Rattle.pm_order.specs.declared.wish.Wish.TheVariants.{Submit, Since, Doc, Forget, Map, Revert, Edit, Authors}
use Rattle.pm_order.specs.Wishes.{wish_in}
use Rattle.pm_edit.specs.Ops.{steps_of}
use Rattle.pm_revert.specs.declared.taken.Taken.{Taken}
use Rattle.pm_revert.specs.Takings.{taken_back}
use Rattle.pm_revert.specs.Aparts.{lies_apart}
use Rattle.pm_archive.specs.declared.archive.Archive.{Archive}
use Rattle.pm_archive.specs.declared.reverting.TheConstants.{MAX_VERSION}
use Rattle.pm_archive.specs.Archives.{authority_of, version_of, with_authority, IsArchive}
use Rattle.pm_archive.specs.Texts.{from_text, reverted_text, edited_text}
use Rattle.pm_archive.specs.Answers.{answer_text, entries_from, version_behind, entries_text, since_text, doc_text, doc_at, some_doc_text, asked_doc_text, begun_at, begun, forgotten, presented_at, told, submitted, taken_from, is_apart, taken, reverted_on, reverted, edited, mapped_text, asked_authors_text, answer, answered}
use Rattle.pm_archive.specs.Laws.{asks_below, heard, SameButBelow, ForgetsOnlyBelow}
use Rattle.pm_archive.proofs.Fronts.{first-apply}
use Rattle.pm_archive.proofs.Forgotten.{by_tests}
use Rattle.pm_archive.proofs.Mapped.{mapped-below, mapped-same}
use Rattle.pm_archive.proofs.Authored.{authored-below, authored-same}
use Rattle.pm_archive.proofs.Reverted.{by_checks, each-answer}
use Rattle.pm_archive.proofs.Edited.{by_last}
use Rattle.pm_archive.proofs.Names.{Given}

-- ---- lines that ask below what is kept

since-below : (a : Archive) (v : ℕ) (most : Option ℕ) → v < a.from → since_text a v most ≡ from_text a.from
since-below a v most h =
    ap (λ b. if b then from_text a.from else entries_text a.schema.spec a.ids (entries_from a v most) (version_behind a v most)) (lt-ltb v a.from h)

doc-below : (a : Archive) (v : ℕ) → v < a.from → asked_doc_text a (Some v) ≡ from_text a.from
doc-below a v h =
    ap (λ b. if b then from_text a.from
    else (if nat_lt (version_of a) v then version_text (version_of a) else some_doc_text a v (doc_at a v))) (lt-ltb v a.from h)

forget-below : (a : Archive) (v : ℕ) → v < a.from → forgotten a v ≡ (from_text a.from, a)
forget-below a v h = ap (λ b. by_tests a v b (nat_lt (version_of a) v)) (lt-ltb v a.from h)

revert-below : (a : Archive) (id : List ℕ) (v count : ℕ) → v < a.from → reverted a id v count ≡ (from_text a.from, a)
revert-below a id v count h =
    ap (λ b. by_checks a id v count b (nat_lt (version_of a) (v + count)) (has_room a.ids id) (nat_lt MAX_VERSION (version_of a))) (lt-ltb v a.from h)

-- what a line is answered by two documents
abbrev Line : ℕ → Archive → Archive → Result Wish Code → Type 0
Line version a b r = MatchBool (asks_below version r) ((answer b r).0 ≡ from_text b.from) ((answer b r).0 ≡ (answer a r).0)

tested : (b : Bool) (P Q : Type 0) → (b ≡ true → P) → (b ≡ false → Q) → MatchBool b P Q
tested true P Q f g = f refl
tested false P Q f g = g refl

-- ---- where nothing more is let go

same-line : (version : ℕ) (a : Archive) (r : Result Wish Code) → version ≤ a.from → Line version a a r
same-line version a (Ok (Submit v id steps)) h = refl
same-line version a (Ok (Since v most)) h = tested (nat_lt v version) (since_text a v most ≡ from_text a.from) (since_text a v most ≡ since_text a v most)
    (λ t. let l : v < version = ltb-true v version t in since-below a v most (omega arith)) (λ t. refl)
same-line version a (Ok (Doc None)) h = refl
same-line version a (Ok (Doc (Some v))) h = tested (nat_lt v version) (asked_doc_text a (Some v) ≡ from_text a.from) (asked_doc_text a (Some v) ≡ asked_doc_text a (Some v))
    (λ t. let l : v < version = ltb-true v version t in doc-below a v (omega arith)) (λ t. refl)
same-line version a (Ok (Forget v)) h = tested (nat_lt v version) ((forgotten a v).0 ≡ from_text a.from) ((forgotten a v).0 ≡ (forgotten a v).0)
    (λ t. let l : v < version = ltb-true v version t in ap (λ p. p.0) (forget-below a v (omega arith))) (λ t. refl)
same-line version a (Ok (Map v to anchors)) h =
    tested (nat_lt v version) (mapped_text a v to anchors ≡ from_text a.from) (mapped_text a v to anchors ≡ mapped_text a v to anchors)
    (λ t. let l : v < version = ltb-true v version t in mapped-below a v to anchors (omega arith)) (λ t. refl)
same-line version a (Ok (Revert id v count)) h =
    tested (nat_lt v version) ((reverted a id v count).0 ≡ from_text a.from) ((reverted a id v count).0 ≡ (reverted a id v count).0)
    (λ t. let l : v < version = ltb-true v version t in ap (λ p. p.0) (revert-below a id v count (omega arith))) (λ t. refl)
same-line version a (Ok (Edit id op)) h = refl
same-line version a (Ok (Authors v)) h =
    tested (nat_lt v version) (asked_authors_text a v ≡ from_text a.from) (asked_authors_text a v ≡ asked_authors_text a v)
    (λ t. let l : v < version = ltb-true v version t in authored-below a v (omega arith)) (λ t. refl)
same-line version a (Err code) h = refl

-- what a line leaves begins no earlier
told-from : (a : Archive) (next : LiveAuthority) (ids : List (List ℕ)) (b : Bool) → (if b then with_authority a next ids else a).from ≡ a.from
told-from a next ids true = refl
told-from a next ids false = refl

submitted-from : (a : Archive) (version : ℕ) (id : List ℕ) (steps : List Step) → (submitted a version id steps).1.from ≡ a.from
submitted-from a version id steps = from (has_room a.ids id)
  where
    given : Given
    given = presented_at a version (named (number_of a.ids id) (version + 1) steps)

    from : (b : Bool) → (if b then told a id given else (fault_text BadClients, a)).1.from ≡ a.from
    from true = told-from a given.1 (with_id a.ids id) (is_accepted given.0)
    from false = refl

begun-from : (a : Archive) (version : ℕ) (o : Option Document) → a.from ≤ version → a.from ≤ (begun a version o).from
begun-from a version None h = omega arith
begun-from a version (Some first) h = h

forgotten-from : (a : Archive) (version : ℕ) → a.from ≤ (forgotten a version).1.from
forgotten-from a version = from (nat_lt version a.from) (nat_lt (version_of a) version) refl
  where
    from : (below past : Bool) → nat_lt version a.from ≡ below → a.from ≤ (by_tests a version below past).1.from
    from true past e = omega arith
    from false true e = omega arith
    from false false e = begun-from a version (doc_at a version) (ltb-false version a.from e)

reverted-from : (a : Archive) (id : List ℕ) (version count : ℕ) → (reverted a id version count).1.from ≡ a.from
reverted-from a id version count =
    each-answer (λ (p : List ℕ × Archive). p.1.from ≡ a.from) a id version count refl refl refl refl (λ e. refl)
    (λ before t kept room given comes. submitted-from a (version_of a) id t.steps)

edited-from : (a : Archive) (id : List ℕ) (r : Result (List Step) NoStep) → (edited a id r).1.from ≡ a.from
edited-from a id (Err reason) = refl
edited-from a id (Ok steps) = from (nat_lt MAX_VERSION (version_of a))
  where
    from : (last : Bool) → (by_last a id steps last).1.from ≡ a.from
    from true = refl
    from false = submitted-from a (version_of a) id steps

answer-from : (a : Archive) (r : Result Wish Code) → a.from ≤ (answer a r).1.from
answer-from a (Ok (Submit version id steps)) = omega (arith, submitted-from a version id steps)
answer-from a (Ok (Since version most)) = omega arith
answer-from a (Ok (Doc version)) = omega arith
answer-from a (Ok (Forget version)) = forgotten-from a version
answer-from a (Ok (Map from to anchors)) = omega arith
answer-from a (Ok (Revert id version count)) = omega (arith, reverted-from a id version count)
answer-from a (Ok (Edit id op)) = omega (arith, edited-from a id (steps_of a.schema a.doc op))
answer-from a (Ok (Authors from)) = omega arith
answer-from a (Err code) = omega arith

-- ---- a document whose log begins at a later version

begun-version : (a : Archive) (version : ℕ) (first : Document) → a.from ≤ version → version ≤ version_of a
    → version_of (begun_at a version first) ≡ version_of a
begun-version a version first from behind = omega (arith, length-drop (version - a.from) a.log)

begun-log : (from version v : ℕ) (log : List (Named Step)) → from ≤ version → version ≤ v
    → drop (v - version) (drop (version - from) log) ≡ drop (v - from) log
begun-log from version v log h k =
    let sum : (version - from) + (v - version) ≡ v - from = omega arith in
    drop-drop (v - version) (version - from) log ∙ ap (λ n. drop n log) sum

begun-doc : (a : Archive) (version : ℕ) (first : Document) (v : ℕ) → a.from ≤ version → version ≤ v → doc_at a version ≡ Some first
    → doc_at (begun_at a version first) v ≡ doc_at a v
begun-doc a version first v h k given =
    let n : ℕ = version - a.from in
    let m : ℕ = v - version in
    let sum : n + m ≡ v - a.from = omega arith in
    sym (ap (λ (i : ℕ). fold meaning a.schema a.first (changes_of (take i a.log))) (sym sum)
    ∙ (ap (λ (xs : List (Named Step)). fold meaning a.schema a.first (changes_of xs)) (take-add n m a.log)
    ∙ (ap (fold meaning a.schema a.first) (changes-append (take n a.log) (take m (drop n a.log)))
    ∙ fold-append meaning a.schema a.first first (changes_of (take n a.log)) (changes_of (take m (drop n a.log))) given)))

-- The second document is the first, whose log begins no earlier than the version; or it is the first without what lies before the
-- version.
pub record Shed (version : ℕ) (a b : Archive) : Type 0 where
  pub first : Document
  pub from : a.from ≤ version
  pub behind : version ≤ version_of a
  pub given : doc_at a version ≡ Some first
  pub same : b ≡ begun_at a version first

abbrev Kin : ℕ → Archive → Archive → Type 0
Kin version a b = ((version ≤ a.from) × (b ≡ a)) ⊎ Shed version a b

-- what the authority answers, and what it is then, by whether the version is the document's and what the steps run to
abbrev outcome : Archive → List (Named Step) → Bool → Result Document (Refusal Reason) → Given
outcome x steps t r = if t then tried meaning x.schema (authority_of x) steps r else (WrongVersion (length x.log), authority_of x)

abbrev in_room : Archive → List ℕ → Given → Bool → List ℕ × Archive
in_room x id given room = if room then told x id given else (fault_text BadClients, x)

module _ (version : ℕ) (a : Archive) (first : Document) (from : a.from ≤ version) (behind : version ≤ version_of a) (given : doc_at a version ≡ Some first) where
  abbrev b : Archive
  b = begun_at a version first

  same-version : version_of b ≡ version_of a
  same-version = begun-version a version first from behind

  self : Shed version a b
  self = record { first = first; from = from; behind = behind; given = given; same = refl }

  -- submissions

  outcome-text : (steps : List (Named Step)) (t : Bool) (r : Result Document (Refusal Reason))
      → answer_text version (outcome b steps t r).0 ≡ answer_text a.from (outcome a steps t r).0
  outcome-text steps true (Ok d) = ap (λ n. accepted_text n (length steps)) same-version
  outcome-text steps true (Err e) = refl
  outcome-text steps false r = ap version_text same-version

  presented-text : (v : ℕ) (steps : List (Named Step)) → answer_text version (presented_at b v steps).0 ≡ answer_text a.from (presented_at a v steps).0
  presented-text v steps =
      ap (λ n. answer_text version (outcome b steps (v == n) (run meaning a.schema a.doc 0 steps)).0) same-version
      ∙ outcome-text steps (v == version_of a) (run meaning a.schema a.doc 0 steps)

  submit-text : (v : ℕ) (id : List ℕ) (steps : List Step) → (submitted b v id steps).0 ≡ (submitted a v id steps).0
  submit-text v id steps = by (has_room a.ids id)
    where
      all : List (Named Step)
      all = named (number_of a.ids id) (v + 1) steps

      by : (room : Bool) → (in_room b id (presented_at b v all) room).0 ≡ (in_room a id (presented_at a v all) room).0
      by true = presented-text v all
      by false = refl

  grown : (ids : List (List ℕ)) (steps : List (Named Step)) (d : Document) (accepted : Bool)
      → Shed version (if accepted then with_authority a record { first = a.first; doc = d; log = a.log ++ steps } ids else a)
      (if accepted then with_authority b record { first = first; doc = d; log = b.log ++ steps } ids else b)
  grown ids steps d false = self
  grown ids steps d true =
      let n : ℕ = version - a.from in
      let within : n ≤ length a.log = omega arith in
      record {
        first = first;
        from = from;
        behind = omega (arith, length-append a.log steps);
        given = ap (λ (xs : List (Named Step)). fold meaning a.schema a.first (changes_of xs)) (take-append-le n a.log steps within) ∙ given;
        same = ap (λ (xs : List (Named Step)).
            record { name = a.name; kind = a.kind; schema = a.schema; from = version; first = first; doc = d; log = xs; ids = ids })
            (sym (drop-append-le n a.log steps within));
      }

  outcome-after : (id : List ℕ) (steps : List (Named Step)) (t : Bool) (r : Result Document (Refusal Reason))
      → Shed version (told a id (outcome a steps t r)).1 (told b id (outcome b steps t r)).1
  outcome-after id steps true (Ok d) = grown (with_id a.ids id) steps d (some_steps (length steps))
  outcome-after id steps true (Err e) = self
  outcome-after id steps false r = self

  presented-after : (v : ℕ) (id : List ℕ) (steps : List (Named Step))
      → Shed version (told a id (presented_at a v steps)).1 (told b id (presented_at b v steps)).1
  presented-after v id steps =
      subst (λ n. Shed version (told a id (presented_at a v steps)).1 (told b id (outcome b steps (v == n) (run meaning a.schema a.doc 0 steps))).1)
      (sym same-version) (outcome-after id steps (v == version_of a) (run meaning a.schema a.doc 0 steps))

  submit-after : (v : ℕ) (id : List ℕ) (steps : List Step) → Shed version (submitted a v id steps).1 (submitted b v id steps).1
  submit-after v id steps = by (has_room a.ids id)
    where
      all : List (Named Step)
      all = named (number_of a.ids id) (v + 1) steps

      by : (room : Bool) → Shed version (in_room a id (presented_at a v all) room).1 (in_room b id (presented_at b v all) room).1
      by true = presented-after v id all
      by false = self

  -- what asks for the log and the document from the version on

  entries-same : (v : ℕ) (most : Option ℕ) → version ≤ v
      → entries_text a.schema.spec a.ids (entries_from b v most) (version_behind b v most)
      ≡ entries_text a.schema.spec a.ids (entries_from a v most) (version_behind a v most)
  entries-same v None h =
      ap (λ (xs : List (Named Step)). entries_text a.schema.spec a.ids xs (version_of b)) (begun-log a.from version v a.log from h)
      ∙ ap (entries_text a.schema.spec a.ids (drop (v - a.from) a.log)) same-version
  entries-same v (Some most) h =
      ap (λ (xs : List (Named Step)). entries_text a.schema.spec a.ids (take most xs) (min (version_of b) (v + most))) (begun-log a.from version v a.log from h)
      ∙ ap (λ n. entries_text a.schema.spec a.ids (take most (drop (v - a.from) a.log)) (min n (v + most))) same-version

  since-same : (v : ℕ) (most : Option ℕ) → version ≤ v → since_text b v most ≡ since_text a v most
  since-same v most h =
      ap (λ t. if t then from_text version else entries_text a.schema.spec a.ids (entries_from b v most) (version_behind b v most)) (le-ltb v version h)
      ∙ (entries-same v most h
      ∙ sym (ap (λ t. if t then from_text a.from else entries_text a.schema.spec a.ids (entries_from a v most) (version_behind a v most))
      (le-ltb v a.from (omega arith))))

  some-same : (v : ℕ) (o : Option Document) → some_doc_text b v o ≡ some_doc_text a v o
  some-same v None = refl
  some-same v (Some doc) = refl

  doc-same : (v : ℕ) → version ≤ v → asked_doc_text b (Some v) ≡ asked_doc_text a (Some v)
  doc-same v h =
      ap (λ t. if t then from_text version
      else (if nat_lt (version_of b) v then version_text (version_of b) else some_doc_text b v (doc_at b v))) (le-ltb v version h)
      ∙ (ap (λ n. if nat_lt n v then version_text n else some_doc_text b v (doc_at b v)) same-version
      ∙ (ap (λ (text : List ℕ). if nat_lt (version_of a) v then version_text (version_of a) else text)
      (ap (some_doc_text b v) (begun-doc a version first v from h given) ∙ some-same v (doc_at a v))
      ∙ sym (ap (λ t. if t then from_text a.from
      else (if nat_lt (version_of a) v then version_text (version_of a) else some_doc_text a v (doc_at a v))) (le-ltb v a.from (omega arith)))))

  -- what asks where positions of the document at the version or a later one went

  mapped-too : (v to : ℕ) (anchors : List Cursor) → version ≤ v → mapped_text b v to anchors ≡ mapped_text a v to anchors
  mapped-too v to anchors h =
      mapped-same a b v to anchors (omega arith) h same-version
      (ap (λ (xs : List (Named Step)). take (to - v) xs) (begun-log a.from version v a.log from h)) (begun-doc a version first v from h given)

  -- what asks who put tokens in since the version or a later one

  authored-too : (v : ℕ) → version ≤ v → asked_authors_text b v ≡ asked_authors_text a v
  authored-too v h =
      authored-same a b v (omega arith) h same-version refl (begun-log a.from version v a.log from h) (begun-doc a version first v from h given)

  -- what lets go of more, or of less

  later-is : (v : ℕ) → version ≤ v → forgotten b v ≡ by_tests b v false (nat_lt (version_of a) v)
  later-is v h =
      ap (λ t. by_tests b v t (nat_lt (version_of b) v)) (le-ltb v version h) ∙ ap (λ n. by_tests b v false (nat_lt n v)) same-version

  later-was : (v : ℕ) → version ≤ v → forgotten a v ≡ by_tests a v false (nat_lt (version_of a) v)
  later-was v h = ap (λ t. by_tests a v t (nat_lt (version_of a) v)) (le-ltb v a.from (omega arith))

  forget-same : (v : ℕ) → version ≤ v → (forgotten b v).0 ≡ (forgotten a v).0
  forget-same v h = ap (λ p. p.0) (later-is v h) ∙ (by (nat_lt (version_of a) v) ∙ sym (ap (λ p. p.0) (later-was v h)))
    where
      by : (past : Bool) → (by_tests b v false past).0 ≡ (by_tests a v false past).0
      by true = ap version_text same-version
      by false = refl

  -- of no more
  earlier-after : (v : ℕ) → v < version → Kin version (forgotten a v).1 b
  earlier-after v h = by (nat_lt v a.from) refl
    where
      less : (o : Option Document) → a.from ≤ v → doc_at a v ≡ o → Kin version (begun a v o) b
      less None k e = inr self
      less (Some mid) k e = inr record {
        first = first;
        from = omega arith;
        behind = omega (arith, begun-version a v mid k (omega arith));
        given = begun-doc a v mid version k (omega arith) e ∙ given;
        same = ap (λ (xs : List (Named Step)).
            record { name = a.name; kind = a.kind; schema = a.schema; from = version; first = first; doc = a.doc; log = xs; ids = a.ids })
            (sym (begun-log a.from v version a.log k (omega arith)));
      }

      by : (below : Bool) → nat_lt v a.from ≡ below → Kin version (by_tests a v below (nat_lt (version_of a) v)).1 b
      by true e = inr self
      by false e =
          subst (λ past. Kin version (by_tests a v false past).1 b) (sym (le-ltb (version_of a) v (omega arith)))
          (less (doc_at a v) (ltb-false v a.from e) refl)

  -- of more
  later-after : (v : ℕ) → version ≤ v → Kin version (forgotten a v).1 (forgotten b v).1
  later-after v h =
      subst (λ (p : List ℕ × Archive). Kin version p.1 (forgotten b v).1) (sym (later-was v h))
      (subst (λ (p : List ℕ × Archive). Kin version (by_tests a v false (nat_lt (version_of a) v)).1 p.1) (sym (later-is v h))
      (by (nat_lt (version_of a) v)))
    where
      more : (o : Option Document) → Kin version (begun a v o) (begun b v o)
      more None = inr self
      more (Some mid) = inl (
        h,
        ap (λ (xs : List (Named Step)).
            record { name = a.name; kind = a.kind; schema = a.schema; from = v; first = mid; doc = a.doc; log = xs; ids = a.ids })
            (begun-log a.from version v a.log from h),
      )

      by : (past : Bool) → Kin version (by_tests a v false past).1 (by_tests b v false past).1
      by true = inr self
      by false =
          subst (λ (o : Option Document). Kin version (begun a v (doc_at a v)) (begun b v o)) (sym (begun-doc a version first v from h given))
          (more (doc_at a v))

  forget-after : (v : ℕ) → Kin version (forgotten a v).1 (forgotten b v).1
  forget-after v = by (nat_lt v version) refl
    where
      by : (t : Bool) → nat_lt v version ≡ t → Kin version (forgotten a v).1 (forgotten b v).1
      by true e =
          let h : v < version = ltb-true v version e in
          subst (λ (p : List ℕ × Archive). Kin version (forgotten a v).1 p.1) (sym (forget-below b v h)) (earlier-after v h)
      by false e = later-after v (ltb-false v version e)

  -- what takes entries back

  -- the same text, and the second document is the first without what lies before the version
  abbrev Alike : List ℕ × Archive → List ℕ × Archive → Type 0
  Alike p q = (q.0 ≡ p.0) × Shed version p.1 q.1

  taken-alike : (id : List ℕ) (apart : Bool) (r : Result (Taken Document Step) (Refusal Reason)) → Alike (taken a id apart r) (taken b id apart r)
  taken-alike id apart (Err e) = (refl, self)
  taken-alike id apart (Ok t) = (
    ap (λ n. reverted_text a.schema.spec n apart t.steps) same-version,
    subst (λ n. Shed version (submitted a (version_of a) id t.steps).1 (submitted b n id t.steps).1) (sym same-version) (submit-after (version_of a) id t.steps),
  )

  -- these entries and those behind them
  abbrev taken_of : List ℕ → Document → List (Named Step) → List (Named Step) → List ℕ × Archive
  taken_of id before entries later =
      taken b id (lies_apart (changes_of entries) (changes_of later)) (taken_back meaning a.schema before (changes_of entries) later a.doc)

  on-alike : (id : List ℕ) (v count : ℕ) → version ≤ v → (o : Option Document) → Alike (reverted_on a id v count o) (reverted_on b id v count o)
  on-alike id v count h None = (refl, self)
  on-alike id v count h (Some before) =
      let was = reverted_on a id v count (Some before) in
      let front : entries_from b v (Some count) ≡ entries_from a v (Some count) =
      ap (λ (xs : List (Named Step)). take count xs) (begun-log a.from version v a.log from h) in
      let rest : entries_from b (v + count) None ≡ entries_from a (v + count) None = begun-log a.from version (v + count) a.log from (omega arith) in
      subst (λ (xs : List (Named Step)). Alike was (taken_of id before xs (entries_from b (v + count) None))) (sym front)
      (subst (λ (xs : List (Named Step)). Alike was (taken_of id before (entries_from a v (Some count)) xs)) (sym rest)
      (taken-alike id (is_apart a v count) (taken_from a v count before)))

  revert-alike : (id : List ℕ) (v count : ℕ) → version ≤ v → Alike (reverted a id v count) (reverted b id v count)
  revert-alike id v count h =
      subst (λ (p : List ℕ × Archive). Alike p (reverted b id v count)) (sym was)
      (subst (λ (q : List ℕ × Archive). Alike (by_checks a id v count false past room last) q) (sym is) (by past room last))
    where
      past : Bool
      past = nat_lt (version_of a) (v + count)

      room : Bool
      room = has_room a.ids id

      last : Bool
      last = nat_lt MAX_VERSION (version_of a)

      was : reverted a id v count ≡ by_checks a id v count false past room last
      was = ap (λ t. by_checks a id v count t past room last) (le-ltb v a.from (omega arith))

      is : reverted b id v count ≡ by_checks b id v count false past room last
      is =
          ap (λ t. by_checks b id v count t (nat_lt (version_of b) (v + count)) room (nat_lt MAX_VERSION (version_of b))) (le-ltb v version h)
          ∙ ap (λ n. by_checks b id v count false (nat_lt n (v + count)) room (nat_lt MAX_VERSION n)) same-version

      on : Alike (reverted_on a id v count (doc_at a v)) (reverted_on b id v count (doc_at b v))
      on =
          subst (λ (o : Option Document). Alike (reverted_on a id v count (doc_at a v)) (reverted_on b id v count o))
          (sym (begun-doc a version first v from h given)) (on-alike id v count h (doc_at a v))

      by : (past room last : Bool) → Alike (by_checks a id v count false past room last) (by_checks b id v count false past room last)
      by true room last = (ap version_text same-version, self)
      by false false last = (refl, self)
      by false true true = (ap version_text same-version, self)
      by false true false = on

  revert-after : (id : List ℕ) (v count : ℕ) → Kin version (heard version a (Ok (Revert id v count))) (reverted b id v count).1
  revert-after id v count = by (nat_lt v version) refl
    where
      by : (t : Bool) → nat_lt v version ≡ t → Kin version (if t then a else (reverted a id v count).1) (reverted b id v count).1
      by true e =
          subst (λ (p : List ℕ × Archive). Kin version a p.1) (sym (revert-below b id v count (ltb-true v version e))) (inr self)
      by false e = inr (revert-alike id v count (ltb-false v version e)).1

  -- edits

  -- the step of an edit, submitted at this version
  abbrev edit_at : Archive → List ℕ → List Step → ℕ → List ℕ × Archive
  edit_at x id steps n =
      let p = submitted x n id steps in
      if nat_lt MAX_VERSION n then (version_text n, x)
      else (if version_of p.1 == n then p.0 else edited_text x.schema.spec n steps, p.1)

  edit-at-alike : (id : List ℕ) (steps : List Step) (n : ℕ) → Alike (edit_at a id steps n) (edit_at b id steps n)
  edit-at-alike id steps n = by (nat_lt MAX_VERSION n)
    where
      p : List ℕ × Archive
      p = submitted a n id steps

      q : List ℕ × Archive
      q = submitted b n id steps

      text : List ℕ
      text = edited_text a.schema.spec n steps

      shed : Shed version p.1 q.1
      shed = submit-after n id steps

      as-long : version_of q.1 ≡ version_of p.1
      as-long = ap version_of shed.same ∙ begun-version p.1 version shed.first shed.from shed.behind

      by : (last : Bool) → Alike (if last then (version_text n, a) else (if version_of p.1 == n then p.0 else text, p.1))
          (if last then (version_text n, b) else (if version_of q.1 == n then q.0 else text, q.1))
      by true = (refl, self)
      by false = (
        ap (λ k. if k == n then q.0 else text) as-long ∙ ap (λ (xs : List ℕ). if version_of p.1 == n then xs else text) (submit-text n id steps),
        shed,
      )

  edit-alike : (id : List ℕ) (r : Result (List Step) NoStep) → Alike (edited a id r) (edited b id r)
  edit-alike id (Err reason) = (refl, self)
  edit-alike id (Ok steps) =
      subst (λ n. Alike (edited a id (Ok steps)) (edit_at b id steps n)) (sym same-version) (edit-at-alike id steps (version_of a))

  -- all of them

  shed-line : (r : Result Wish Code) → Line version a b r
  shed-line (Ok (Submit v id steps)) = submit-text v id steps
  shed-line (Ok (Since v most)) = tested (nat_lt v version) (since_text b v most ≡ from_text version) (since_text b v most ≡ since_text a v most)
      (λ t. since-below b v most (ltb-true v version t)) (λ t. since-same v most (ltb-false v version t))
  shed-line (Ok (Doc None)) = ap (doc_text a.schema.spec a.doc) same-version
  shed-line (Ok (Doc (Some v))) =
      tested (nat_lt v version) (asked_doc_text b (Some v) ≡ from_text version) (asked_doc_text b (Some v) ≡ asked_doc_text a (Some v))
      (λ t. doc-below b v (ltb-true v version t)) (λ t. doc-same v (ltb-false v version t))
  shed-line (Ok (Forget v)) = tested (nat_lt v version) ((forgotten b v).0 ≡ from_text version) ((forgotten b v).0 ≡ (forgotten a v).0)
      (λ t. ap (λ p. p.0) (forget-below b v (ltb-true v version t))) (λ t. forget-same v (ltb-false v version t))
  shed-line (Ok (Map v to anchors)) =
      tested (nat_lt v version) (mapped_text b v to anchors ≡ from_text version) (mapped_text b v to anchors ≡ mapped_text a v to anchors)
      (λ t. mapped-below b v to anchors (ltb-true v version t)) (λ t. mapped-too v to anchors (ltb-false v version t))
  shed-line (Ok (Revert id v count)) =
      tested (nat_lt v version) ((reverted b id v count).0 ≡ from_text version) ((reverted b id v count).0 ≡ (reverted a id v count).0)
      (λ t. ap (λ p. p.0) (revert-below b id v count (ltb-true v version t))) (λ t. (revert-alike id v count (ltb-false v version t)).0)
  shed-line (Ok (Edit id op)) = (edit-alike id (steps_of a.schema a.doc op)).0
  shed-line (Ok (Authors v)) =
      tested (nat_lt v version) (asked_authors_text b v ≡ from_text version) (asked_authors_text b v ≡ asked_authors_text a v)
      (λ t. authored-below b v (ltb-true v version t)) (λ t. authored-too v (ltb-false v version t))
  shed-line (Err code) = refl

  shed-after : (r : Result Wish Code) → Kin version (heard version a r) (answer b r).1
  shed-after (Ok (Submit v id steps)) = inr (submit-after v id steps)
  shed-after (Ok (Since v most)) = inr self
  shed-after (Ok (Doc v)) = inr self
  shed-after (Ok (Forget v)) = forget-after v
  shed-after (Ok (Map v to anchors)) = inr self
  shed-after (Ok (Revert id v count)) = revert-after id v count
  shed-after (Ok (Edit id op)) = inr (edit-alike id (steps_of a.schema a.doc op)).1
  shed-after (Ok (Authors v)) = inr self
  shed-after (Err code) = inr self

-- ---- line by line

kin-line : (version : ℕ) (a b : Archive) (w : DocWord) (d : Data) → Kin version a b
    → MatchBool (asks_below version (wish_in a.schema.spec w d)) ((answered b w d).0 ≡ from_text b.from) ((answered b w d).0 ≡ (answered a w d).0)
kin-line version a b w d (inl p) =
    subst (λ (x : Archive). MatchBool (asks_below version (wish_in a.schema.spec w d)) ((answered x w d).0 ≡ from_text x.from) ((answered x w d).0 ≡ (answered a w d).0))
    (sym p.1) (same-line version a (wish_in a.schema.spec w d) p.0)
kin-line version a b w d (inr s) =
    subst (λ (x : Archive). MatchBool (asks_below version (wish_in a.schema.spec w d)) ((answered x w d).0 ≡ from_text x.from) ((answered x w d).0 ≡ (answered a w d).0))
    (sym s.same) (shed-line version a s.first s.from s.behind s.given (wish_in a.schema.spec w d))

-- where nothing more is let go
still-kin : (version : ℕ) (a : Archive) (r : Result Wish Code) → version ≤ a.from → Kin version (heard version a r) (answer a r).1
still-kin version a (Ok (Submit on id steps)) h = inl (omega (arith, h, answer-from a (Ok (Submit on id steps))), refl)
still-kin version a (Ok (Since v most)) h = inl (h, refl)
still-kin version a (Ok (Doc v)) h = inl (h, refl)
still-kin version a (Ok (Forget v)) h = inl (omega (arith, h, answer-from a (Ok (Forget v))), refl)
still-kin version a (Ok (Map v to anchors)) h = inl (h, refl)
still-kin version a (Ok (Revert id v count)) h = by (nat_lt v version) refl
  where
    by : (t : Bool) → nat_lt v version ≡ t → Kin version (if t then a else (reverted a id v count).1) (reverted a id v count).1
    by true e = let l : v < version = ltb-true v version e in inl (h, ap (λ p. p.1) (revert-below a id v count (omega (arith, h, l))))
    by false e = inl (omega (arith, h, reverted-from a id v count), refl)
still-kin version a (Ok (Edit id op)) h = inl (omega (arith, h, answer-from a (Ok (Edit id op))), refl)
still-kin version a (Ok (Authors v)) h = inl (h, refl)
still-kin version a (Err code) h = inl (h, refl)

kin-after : (version : ℕ) (a b : Archive) (w : DocWord) (d : Data) → Kin version a b
    → Kin version (heard version a (wish_in a.schema.spec w d)) (answered b w d).1
kin-after version a b w d (inl p) =
    subst (λ (x : Archive). Kin version (heard version a (wish_in a.schema.spec w d)) (answered x w d).1) (sym p.1)
    (still-kin version a (wish_in a.schema.spec w d) p.0)
kin-after version a b w d (inr s) =
    subst (λ (x : Archive). Kin version (heard version a (wish_in a.schema.spec w d)) (answered x w d).1) (sym s.same)
    (shed-after version a s.first s.from s.behind s.given (wish_in a.schema.spec w d))

all-same : (version : ℕ) (lines : List (DocWord × Data)) (a b : Archive) → Kin version a b → SameButBelow version a b lines
all-same version [] a b k = tt
all-same version (line ∷ lines) a b k = (
  kin-line version a b line.0 line.1 k,
  all-same version lines (heard version a (wish_in a.schema.spec line.0 line.1)) (answered b line.0 line.1).1 (kin-after version a b line.0 line.1 k),
)

-- what a document is at a kept version, there is
kept-at : (a : Archive) (version : ℕ) → IsArchive a → (first : Document) × (doc_at a version ≡ Some first)
kept-at a version good =
    let f = first-apply meaning a.schema a.first a.doc a.log (version - a.from) good.folded in
    (f.0, run-fold meaning a.schema a.first f.0 0 (take (version - a.from) a.log) f.1)

forgotten-kin : (a : Archive) (version : ℕ) → IsArchive a → version ≤ version_of a → Kin version a (forgotten a version).1
forgotten-kin a version good behind = by (nat_lt version a.from) refl
  where
    by : (below : Bool) → nat_lt version a.from ≡ below → Kin version a (by_tests a version below (nat_lt (version_of a) version)).1
    by true e = let h : version < a.from = ltb-true version a.from e in inl (omega arith, refl)
    by false e =
        let f = kept-at a version good in
        subst (λ past. Kin version a (by_tests a version false past).1) (sym (le-ltb (version_of a) version behind)) (inr record {
          first = f.0;
          from = ltb-false version a.from e;
          behind = behind;
          given = f.1;
          same = ap (begun a version) f.1;
        })

pub forgets-only-below : ForgetsOnlyBelow
forgets-only-below a d version lines good asks behind =
    subst (λ (p : List ℕ × Archive). SameButBelow version a p.1 lines) (sym (ap (answer a) asks))
    (all-same version lines a (forgotten a version).1 (forgotten-kin a version good behind))
