-- What is left of a document whose entries were taken back.
use Rattle.std.proofs.Common.{◌≡◌, ◌∙◌, ◌+◌, ◌++◌, arith, ℕ, Bool, true, false, List, [], ◌∷◌, length, get_or, refl, ap, sym, subst, Result, Ok}
use Rattle.std.specs.Prelude.{Option, None, Some, nat_lt, if◌then◌else◌}
use Rattle.std.proofs.lemmas.Bool.{ltb-false}
use Rattle.pm_tokens.specs.Tokens.{Doc as Document}
use Rattle.pm_schema.specs.declared.spec.SchemaSpec.{SchemaSpec}
use Rattle.pm_meaning.specs.Steps.{Step}
use Rattle.pm_meaning.specs.declared.reason.Reason.{Reason}
use Rattle.pm_change.specs.Changes.{fold}
use Rattle.pm_apply.specs.Changes.{meaning}
use Rattle.pm_head.specs.declared.code.Code.{Code}
use Rattle.pm_head.specs.declared.code.Code.TheVariants.{BadClients}
use Rattle.pm_authority.specs.declared.named.Named.{Named}
use Rattle.pm_authority.specs.declared.running.Refusal.{Refusal}
use Rattle.pm_authority.specs.Runs.{run, changes_of}
use Rattle.pm_authority.specs.Presents.{tried}
use Rattle.pm_authority.proofs.RunFolds.{fold-run}
use Rattle.pm_talk.specs.Ids.{number_of, has_room, with_id}
use Rattle.pm_talk.specs.Texts.{fault_text, version_text, refused_text, refused_words, fault_place, reason_number}
use Rattle.pm_talk.specs.Live.{named, some_steps}
use Rattle.pm_selective.specs.Carried.{left_tokens}
use Rattle.pm_revert.specs.declared.taken.Taken.{Taken}
use Rattle.pm_revert.specs.Backs.{backs}
use Rattle.pm_revert.specs.Takings.{start}
use Rattle.pm_revert.specs.Reverts.{LieApartFrom}
use Rattle.pm_revert.proofs.Made.{is-told, made-all}
use Rattle.pm_revert.proofs.Leavings.{leaves-later}
use Rattle.pm_archive.specs.declared.archive.Archive.{Archive}
use Rattle.pm_archive.specs.Archives.{authority_of, version_of, with_authority, IsArchive}
use Rattle.pm_archive.specs.Texts.{from_text, reverted_text}
use Rattle.pm_archive.specs.Answers.{told, submitted, entries_from, taken_from, doc_at, reverted, answer}
use Rattle.pm_archive.specs.Laws.{HasLeft, RevertLeaves}
use Rattle.pm_archive.proofs.Names.{chosen}
use Rattle.pm_archive.proofs.Reverted.{each-answer, ends-at}
use Rattle.pm_archive.proofs.Accepting.{v-is-not-a, r-is-not-a, f-is-not-a, tests-equal, by_room}

-- ---- no other answer is that of entries taken back

module _ (s : SchemaSpec) (version : ℕ) (apart : Bool) (steps : List Step) where
  from-differs : (n : ℕ) → from_text n ≡ reverted_text s version apart steps → ⊥
  from-differs n h = f-is-not-a (ap (λ xs. get_or xs 2 0) h)

  version-differs : (n : ℕ) → version_text n ≡ reverted_text s version apart steps → ⊥
  version-differs n h = v-is-not-a (ap (λ xs. get_or xs 2 0) h)

  fault-differs : (code : Code) → fault_text code ≡ reverted_text s version apart steps → ⊥
  fault-differs code h = f-is-not-a (ap (λ xs. get_or xs 2 0) h)

  words-differ : (at : Option ℕ) (index number : ℕ) → refused_words at index number ≡ reverted_text s version apart steps → ⊥
  words-differ None index number h = r-is-not-a (ap (λ xs. get_or xs 2 0) h)
  words-differ (Some at) index number h = r-is-not-a (ap (λ xs. get_or xs 2 0) h)

  refusal-differs : (index : ℕ) (reason : Reason) → refused_text index reason ≡ reverted_text s version apart steps → ⊥
  refusal-differs index reason = words-differ (fault_place reason) index (reason_number reason)

  nothing-is-not : ◌≡◌ {A = ℕ} 0 97 → ⊥
  nothing-is-not e = omega (arith, e)

  nothing-differs : ◌≡◌ {A = List ℕ} [] (reverted_text s version apart steps) → ⊥
  nothing-differs h = nothing-is-not (ap (λ xs. get_or xs 2 0) h)

-- ---- the document once steps were submitted at its version

changes-named : (client serial : ℕ) (steps : List Step) → changes_of (named client serial steps) ≡ steps
changes-named client serial [] = refl
changes-named client serial (c ∷ cs) = ap (λ ds. c ∷ ds) (changes-named client (serial + 1) cs)

module _ (a : Archive) (id : List ℕ) (end : Document) where
  ended : (client serial : ℕ) (steps : List Step) → fold meaning a.schema a.doc steps ≡ Some end
      → (if some_steps (length (named client serial steps))
      then with_authority a record { first = a.first; doc = end; log = a.log ++ named client serial steps } (with_id a.ids id) else a).doc ≡ end
  ended client serial [] e = let same : a.doc ≡ end = cc in same
  ended client serial (c ∷ cs) e = refl

  submitted-doc : (steps : List Step) → has_room a.ids id ≡ true → fold meaning a.schema a.doc steps ≡ Some end
      → (submitted a (version_of a) id steps).1.doc ≡ end
  submitted-doc steps room e =
      let all : List (Named Step) = named (number_of a.ids id) (version_of a + 1) steps in
      let ran : run meaning a.schema a.doc 0 all ≡ Ok end =
      fold-run meaning a.schema a.doc end 0 all (ap (fold meaning a.schema a.doc) (changes-named (number_of a.ids id) (version_of a + 1) steps) ∙ e) in
      ap (λ b. (by_room a (version_of a) id steps b).1.doc) room
      ∙ (ap (λ b. (told a id (chosen a all b)).1.doc) (tests-equal (version_of a) (version_of a) refl)
      ∙ (ap (λ (r : Result Document (Refusal Reason)). (told a id (tried meaning a.schema (authority_of a) all r)).1.doc) ran
      ∙ ended (number_of a.ids id) (version_of a + 1) steps e))

-- ---- what is left

module _ (a : Archive) (id : List ℕ) (version count : ℕ) (good : IsArchive a)
    (lie : LieApartFrom (changes_of (entries_from a version (Some count))) (changes_of (entries_from a (version + count) None))) where
  abbrev entries : List (Named Step)
  entries = entries_from a version (Some count)

  abbrev later : List (Named Step)
  later = entries_from a (version + count) None

  left-doc : (before : Document) (t : Taken Document Step) → nat_lt version a.from ≡ false → has_room a.ids id ≡ true → doc_at a version ≡ Some before
      → taken_from a version count before ≡ Ok t → HasLeft a version count (submitted a (version_of a) id t.steps).1.doc
  left-doc before t kept room given comes =
      let e = ends-at a version count before good (ltb-false version a.from kept) given in
      let left : left_tokens (changes_of entries) (changes_of later) before.tokens ≡ Some t.doc.tokens =
      leaves-later a.schema entries later before e.mid a.doc e.good e.apply e.later_apply lie t comes in
      let i = is-told meaning a.schema (backs meaning a.schema before (changes_of entries)) (start meaning a.schema later a.doc) t comes in
      let made = made-all meaning a.schema (backs meaning a.schema before (changes_of entries)) (start meaning a.schema later a.doc) i.so a.doc refl refl i.comes in
      let leads : fold meaning a.schema a.doc t.steps ≡ Some t.doc =
      subst (λ (x : Taken Document Step). fold meaning a.schema a.doc x.steps ≡ Some x.doc) (sym i.is) made in
      record {
        before = before;
        given = given;
        left = left ∙ ap (λ (d : Document). Some d.tokens) (sym (submitted-doc a id t.doc t.steps room leads));
      }

  pub left-told : (apart : Bool) (steps : List Step) → (reverted a id version count).0 ≡ reverted_text a.schema.spec (version_of a) apart steps
      → HasLeft a version count (reverted a id version count).1.doc
  left-told apart steps =
      let s = a.schema.spec in
      let v = version_of a in
      each-answer (λ (p : List ℕ × Archive). p.0 ≡ reverted_text s v apart steps → HasLeft a version count p.1.doc) a id version count
      (λ h. absurd (from-differs s v apart steps a.from h))
      (λ h. absurd (version-differs s v apart steps v h))
      (λ h. absurd (fault-differs s v apart steps BadClients h))
      (λ h. absurd (nothing-differs s v apart steps h))
      (λ e. λ h. absurd (refusal-differs s v apart steps e.index e.reason h))
      (λ before t kept room given comes. λ h. left-doc before t kept room given comes)

pub revert-leaves : RevertLeaves
revert-leaves a d id version count apart steps good asks text lie =
    let is = ap (answer a) asks in
    subst (λ (p : List ℕ × Archive). HasLeft a version count p.1.doc) (sym is)
    (left-told a id version count good lie apart steps (sym (ap (λ (p : List ℕ × Archive). p.0) is) ∙ text))
