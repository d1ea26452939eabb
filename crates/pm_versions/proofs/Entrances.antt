-- A client that enters a sound room leaves it sound.
use Rattle.std.specs.List.{AllByRecursion as Each}
use Rattle.std.specs.Prelude.{◌≡◌, ◌⊎◌, ℕ, ◌+◌, ◌==◌, Bool, true, false, if◌then◌else◌, List, [], ◌∷◌, ◌++◌, length, take, slice_get, Some, refl}
use Rattle.std.proofs.Common.{sym, ap, subst, ◌∙◌, inl, inr, arith}
use Rattle.std.proofs.lemmas.Bool.{eq-eqb}
use Rattle.pm_change.specs.Changes.{Meaning}
use Rattle.pm_authority.specs.declared.named.Named.{Named}
use Rattle.pm_authority.specs.Kept.{IsKept}
use Rattle.pm_authority.specs.Runs.{AllApply}
use Rattle.pm_client.specs.declared.client.Client.{Client}
use Rattle.pm_client.specs.Clients.{entered_client}
use Rattle.pm_client.specs.Kins.{IsForeign, Kin}
use Rattle.pm_client.specs.Serials.{times, own_serials, serials_of}
use Rattle.pm_client.proofs.Lists.{Each-append}
use Rattle.pm_client.proofs.Entering.{kin-entered}
use Rattle.pm_session.specs.declared.member.Member.{Member}
use Rattle.pm_session.specs.declared.member.Member.TheVariants.{Editor}
use Rattle.pm_session.specs.declared.outcome.Outcome.TheVariants.{Entered}
use Rattle.pm_session.specs.Events.{State, placed}
use Rattle.pm_session.specs.Members.{name_of}
use Rattle.pm_session.specs.Sounds.{MemberStands, Sound}
use Rattle.pm_session.proofs.SoundLaws.{get-set, set-length}
use Rattle.pm_versions.specs.Late.{IsEditorIdle, entered_by, entered}
use Rattle.pm_versions.proofs.Parts.{take-all}

-- a list in which no number stands is empty
none-stands : (xs : List ℕ) → ((s : ℕ) → times s xs ≡ 0) → xs ≡ []
none-stands [] h = refl
none-stands (x ∷ xs) h =
    let one : (if x == x then 1 else 0) + times x xs ≡ 0 = h x in
    let same : (x == x) ≡ true = eq-eqb x x refl in
    let two : 1 + times x xs ≡ 0 = rw same at one in
    absurd (omega (arith, two))

module _ {C : Type 0} where
  -- where a client has no serial among steps, they are others'
  no-own : (client : ℕ) (ns : List (Named C)) → own_serials client ns ≡ [] → Each (IsForeign client) ns
  no-own client [] h = tt
  no-own client (n ∷ ns) h = by-test (n.name.client == client) refl (no-own client ns)
    where
      by-test : (b : Bool) → (n.name.client == client) ≡ b → (own_serials client ns ≡ [] → Each (IsForeign client) ns) → Each (IsForeign client) (n ∷ ns)
      by-test true e more =
          let f : n.name.serial ∷ own_serials client ns ≡ [] = rw e at h in
          absurd (cc)
      by-test false e more =
          let f : own_serials client ns ≡ [] = rw e at h in (
            λ same.
                let t : (n.name.client == client) ≡ true = eq-eqb n.name.client client same in
                absurd (cc),
            more f,
          )

  no-steps : (ns : List (Named C)) → serials_of ns ≡ [] → ns ≡ []
  no-steps [] h = refl
  no-steps (n ∷ ns) h = absurd (cc)

  no-front : (xs ys : List (Named C)) → [] ≡ xs ++ ys → xs ≡ []
  no-front [] ys h = refl
  no-front (x ∷ xs) ys h = absurd (cc)

some-same : {A : Type 0} (x y : A) → Some x ≡ Some y → x ≡ y
some-same x y h = cc

module _ {Rules Doc Reason C : Type 0} (m : Meaning Rules Doc Reason C) (rules : Rules) where
  -- a client that has drawn no serial has no step in the log
  pub idle-foreign : (first : Doc) (log : List (Named C)) (c : Client C Rules Doc Reason) → Kin m rules first log c → c.serials ≡ 0 → Each (IsForeign c.name) log
  idle-foreign first log c kin idle =
      let parts : (s : ℕ) → times s (own_serials c.name kin.before) + times s (serials_of c.pending) + times s c.dropped ≡ 0 = λ s. rw idle at (kin.parted.parts s) in
      let before = no-own c.name kin.before (none-stands (own_serials c.name kin.before) (λ s. omega (arith, parts s))) in
      let pending = no-steps c.pending (none-stands (serials_of c.pending) (λ s. omega (arith, parts s))) in
      let standing = no-front kin.stands.standing kin.stands.later (sym pending ∙ kin.stands.pending_is) in
      let past : kin.past ≡ kin.stands.foreign = kin.stands.past_is ∙ ap (λ l. l ++ kin.stands.foreign) standing in
      let far : Each (IsForeign c.name) kin.past = rw past kin.stands.are_foreign in
      subst (Each (IsForeign c.name)) (sym kin.log_is) (Each-append (IsForeign c.name) kin.before kin.past before far)

  -- the member that enters stands to the log
  pub entered-stands : (s : State C Rules Doc Reason) (i : ℕ) (c : Client C Rules Doc Reason) → Sound m rules s → slice_get s.members i ≡ Some (Editor c) → c.serials ≡ 0
      → Each (IsForeign i) s.authority.log × MemberStands m rules s.authority.first s.authority.log (Editor (entered_client i (length s.authority.log) s.authority.doc))
  entered-stands s i c sound at idle =
      let stood = sound.stand i (Editor c) at in
      let a = s.authority in
      let far = subst (λ n. Each (IsForeign n) a.log) stood.0 (idle-foreign a.first a.log c stood.1.kin idle) in
      (far, record { kin = kin-entered m rules i (length a.log) a.first a.doc a.log sound.authority.first_good sound.authority.folded refl far; messages = tt })

  -- a room with a member in the place of another that stands to the log, too
  pub placed-sound : (s : State C Rules Doc Reason) (i : ℕ) (x : Member C Rules Doc Reason) → Sound m rules s → name_of x ≡ i → MemberStands m rules s.authority.first s.authority.log x
      → Sound m rules (placed s i s.authority x)
  placed-sound s i x sound name stands = record {
    authority = sound.authority;
    stand = λ k y there. by-place k y (get-set s.members i k x y there);
    entries = rw set-length sound.entries;
    names = sound.names;
  }
    where
      by-place : (k : ℕ) (y : Member C Rules Doc Reason) → ((k ≡ i) × (y ≡ x)) ⊎ ((k ≡ i → ⊥) × (slice_get s.members k ≡ Some y))
          → (name_of y ≡ k) × MemberStands m rules s.authority.first s.authority.log y
      by-place k y (inl h) =
          subst (λ (z : Member C Rules Doc Reason). (name_of z ≡ k) × MemberStands m rules s.authority.first s.authority.log z) (sym h.1) (name ∙ sym h.0, stands)
      by-place k y (inr h) = sound.stand k y h.1

  -- a room that a client entered
  pub entered-sound : (s : State C Rules Doc Reason) (i : ℕ) → Sound m rules s → IsEditorIdle s i → Sound m rules (entered s i).1
  entered-sound s i sound idle =
      let x = Editor (entered_client i (length s.authority.log) s.authority.doc) in
      rw idle.1 (placed-sound s i x sound refl (entered-stands s i idle.0 sound idle.1 idle.2).1)

  -- the room with a member at the log's end, whose document is that of the versions there
  pub entered-is : (s : State C Rules Doc Reason) (i : ℕ) (c : Client C Rules Doc Reason) (n : ℕ) (doc : Doc) → IsKept m rules s.authority → slice_get s.members i ≡ Some (Editor c)
      → n ≡ length s.authority.log → AllApply m rules s.authority.first (take n s.authority.log) doc
      → (Entered n, placed s i s.authority (Editor (entered_client i n doc))) ≡ entered s i
  entered-is s i c n doc kept at long gives =
      let a = s.authority in
      let whole : AllApply m rules a.first a.log doc = subst (λ l. AllApply m rules a.first l doc) (take-all a.log n long) gives in
      let same : doc ≡ a.doc = some-same doc a.doc (sym whole ∙ kept.folded) in
      ap (λ d. (Entered n, placed s i a (Editor (entered_client i n d)))) same
      ∙ ap (λ k. (Entered k, placed s i a (Editor (entered_client i k a.doc)))) long ∙ ap (λ o. entered_by s i o) (sym at)
