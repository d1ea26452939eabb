-- A room that settled: each client has the whole log and nothing pending.
use Rattle.std.specs.Prelude.{◌≡◌, ◌⊎◌, ℕ, zero, suc, ◌+◌, ◌-◌, ◌<◌, ◌≤◌, ◌==◌, nat_le, if◌then◌else◌, Bool, true, false, List, [], ◌∷◌, ◌++◌, length, take, drop, slice_get, Option, Some, None, refl}
use Rattle.std.proofs.Common.{sym, ap, ◌∙◌, arith, length-append, length-drop, inl, inr}
use Rattle.std.proofs.Math.Seq.{drop-append_seam}
use Rattle.std.proofs.lemmas.Bool.{eq-eqb, eqb-true, leb-true}
use Rattle.pm_change.specs.Changes.{Meaning, Laws, fold}
use Rattle.pm_change.proofs.Folds.{fold-append}
use Rattle.pm_authority.specs.declared.named.Named.{Named}
use Rattle.pm_authority.specs.declared.authority.Authority.{Authority}
use Rattle.pm_authority.specs.declared.message.Answer.TheVariants.{Accepted, Entries}
use Rattle.pm_authority.specs.Kept.{IsKept}
use Rattle.pm_authority.specs.Runs.{changes_of, AllApply}
use Rattle.pm_authority.proofs.RunFolds.{changes-append, fold-run}
use Rattle.pm_client.specs.declared.client.Client.{Client}
use Rattle.pm_client.specs.declared.taken.MessageKind.{MessageKind}
use Rattle.pm_client.specs.declared.taken.MessageKind.TheVariants.{Submit as Submission, Ask as Asking}
use Rattle.pm_client.specs.declared.taken.Taken.TheVariants.{Stale}
use Rattle.pm_client.specs.Clients.{own_run, composed, kept, confirmed_first, others_taken, rest_taken, taken}
use Rattle.pm_client.specs.Kins.{Kin}
use Rattle.pm_client.proofs.Lists.{nothing}
use Rattle.pm_client.proofs.Prefixes.{front-applies}
use Rattle.pm_client.proofs.Takings.{get-index}
use Rattle.pm_client.proofs.Answering.{submission-applies, base-is-doc}
use Rattle.pm_session.specs.declared.member.Member.{Member}
use Rattle.pm_session.specs.declared.member.Member.TheVariants.{Editor, Raw}
use Rattle.pm_session.specs.Events.{State, by_some, member_exchanges}
use Rattle.pm_session.specs.Sessions.{exchanged, brought_up, in_turn, settled}
use Rattle.pm_session.specs.Sounds.{Sound, AllCaughtUp}
use Rattle.pm_session.proofs.Editors.{exchanges_at}
use Rattle.pm_session.proofs.SoundLaws.{get-set, set-length, new-stands}
use Rattle.pm_session.proofs.Keeping.{taken-one}
use Rattle.pm_session.proofs.Moves.{given-moved}
use Rattle.pm_session.proofs.Turns.{exchanged-sound, turns-sound}

drop-none : {A : Type 0} (k : ℕ) (xs : List A) → xs ≡ [] → drop k xs ≡ []
drop-none zero xs none = none
drop-none (suc k) [] none = refl
drop-none (suc k) (x ∷ xs) none = absurd (cc)

take-all : {A : Type 0} (xs : List A) → take (length xs) xs ≡ xs
take-all [] = refl
take-all (x ∷ xs) = ap (λ l. x ∷ l) (take-all xs)

drop-all : {A : Type 0} (xs : List A) → drop (length xs) xs ≡ []
drop-all [] = refl
drop-all (x ∷ xs) = drop-all xs

take-append : {A : Type 0} (k : ℕ) (xs : List A) → take k xs ++ drop k xs ≡ xs
take-append zero [] = refl
take-append zero (x ∷ xs) = refl
take-append (suc k) [] = refl
take-append (suc k) (x ∷ xs) = ap (λ l. x ∷ l) (take-append k xs)

own_run-within : {C : Type 0} (client : ℕ) (ns : List (Named C)) → own_run client ns ≤ length ns
own_run-within client [] = omega arith
own_run-within client (n ∷ ns) = by-test (n.name.client == client) (own_run-within client ns)
  where
    by-test : (b : Bool) → own_run client ns ≤ length ns → (if b then own_run client ns + 1 else 0) ≤ suc (length ns)
    by-test true h = omega (arith, h)
    by-test false h = omega arith

-- a client that takes all entries past its version
module _ {Rules Doc Reason C : Type 0} (m : Meaning Rules Doc Reason C) (rules : Rules) (first : Doc) (log : List (Named C))
    (c : Client C Rules Doc Reason) (kin : Kin m rules first log c) where
  past-is : drop c.version log ≡ kin.past
  past-is = rw (kin.log_is, kin.version_is) (drop-append_seam kin.before kin.past)

  log-size : length log ≡ c.version + length kin.past
  log-size = omega (arith, ap length kin.log_is, kin.version_is, length-append kin.before kin.past)

  past-applies : AllApply m rules c.base kin.past kin.log_applies.0
  past-applies =
      sym (fold-append m rules first c.base (changes_of kin.before) (changes_of kin.past) kin.base_is) ∙ ap (fold m rules first) (sym (changes-append kin.before kin.past))
      ∙ ap (λ l. fold m rules first (changes_of l)) (sym kin.log_is) ∙ kin.log_applies.1

  rest-version : (own : ℕ) → own ≤ length kin.past → (rest_taken m rules c kin.past own).1.version ≡ length log
  rest-version own within = whether (own == length kin.past) refl
    where
      whether : (b : Bool) → (own == length kin.past) ≡ b
          → (if b then confirmed_first m rules c own else others_taken m rules c kin.past own).1.version ≡ length log
      whether true e =
          let whole : fold m rules c.base (changes_of (take own c.pending ++ drop own c.pending)) ≡ Some c.doc =
          ap (λ l. fold m rules c.base (changes_of l)) (take-append own c.pending) ∙ kin.doc_is in
          let f = front-applies m rules c.base c.doc (take own c.pending) (drop own c.pending) whole in
          rw f.1 (let same = eqb-true own (length kin.past) e in omega (arith, same, log-size))
      whether false e = rw past-applies (omega (arith, log-size, within, length-drop own kin.past))

  all-version : (taken m rules c (Entries c.version (drop c.version log))).1.version ≡ length log
  all-version = rw past-is (whether (nat_le (c.version + length kin.past) c.version) refl)
    where
      here : drop (c.version - c.version) kin.past ≡ kin.past
      here = let z : c.version - c.version ≡ 0 = omega arith in rw z refl

      whether : (b : Bool) → nat_le (c.version + length kin.past) c.version ≡ b
          → (if b then (Stale, c) else rest_taken m rules c (drop (c.version - c.version) kin.past) (own_run c.name (drop (c.version - c.version) kin.past))).1.version
          ≡ length log
      whether true e = let past = leb-true (c.version + length kin.past) c.version e in omega (arith, past, log-size)
      whether false e = rw here (rest-version (own_run c.name kin.past) (own_run-within c.name kin.past))

module _ {Rules Doc Reason C : Type 0} (m : Meaning Rules Doc Reason C) (rules : Rules) (laws : Laws m) (a : Authority C Rules Doc Reason) (stood : IsKept m rules a)
    (c : Client C Rules Doc Reason) (kin : Kin m rules a.first a.log c) where
  -- a client that asked, and took the answer, has the whole log
  asks-version : (exchanges_at m rules a c Asking false).2.version ≡ length a.log
  asks-version =
      let answer = Entries c.version (drop c.version a.log) in
      all-version m rules a.first a.log (kept (composed c Asking) answer) (given-moved m rules laws a stood c kin Asking).after.own

  -- and still nothing pending where it had nothing
  asks-pending : c.pending ≡ [] → (exchanges_at m rules a c Asking false).2.pending ≡ []
  asks-pending none =
      let answer = Entries c.version (drop c.version a.log) in
      taken-one m rules (kept (composed c Asking) answer) (λ d. d.pending ≡ []) none (λ k base. drop-none k c.pending none)
      (λ own foreign base. rw (drop-none own c.pending none) refl) answer

  -- a client that has the whole log has nothing pending once it submitted
  submits-pending : c.version ≡ length a.log → (exchanges_at m rules a c Submission false).2.pending ≡ []
  submits-pending at =
      let f = submission-applies m rules laws a c stood kin c.version c.pending (new-stands m rules laws c Submission) at in
      rw (eq-eqb c.version (length a.log) at, fold-run m rules a.doc f.0 0 c.pending f.1) (whether (nat_le (length a.log + length c.pending) c.version) refl)
    where
      whether : (b : Bool) → nat_le (length a.log + length c.pending) c.version ≡ b
          → (if b then (Stale, kept (composed c Submission) (Accepted (length a.log) (length c.pending)))
          else confirmed_first m rules (kept (composed c Submission) (Accepted (length a.log) (length c.pending))) (length c.pending)).1.pending ≡ []
      whether true e = let past = leb-true (length a.log + length c.pending) c.version e in nothing c.pending (omega (arith, past, at))
      whether false e =
          let all : fold m rules c.base (changes_of (take (length c.pending) c.pending)) ≡ Some c.doc =
          ap (λ l. fold m rules c.base (changes_of l)) (take-all c.pending) ∙ kin.doc_is in
          rw all (drop-all c.pending)

module _ {Rules Doc Reason C : Type 0} (m : Meaning Rules Doc Reason C) (rules : Rules) (laws : Laws m) where
  -- the others stay as they are in a member's turn
  others-stay : (kind : MessageKind) (i k : ℕ) (s : State C Rules Doc Reason) (d : Client C Rules Doc Reason) → (k ≡ i → ⊥)
      → slice_get (exchanged m rules kind i s).members k ≡ Some (Editor d) → slice_get s.members k ≡ Some (Editor d)
  others-stay kind i k s d apart h = from (slice_get s.members i) h
    where
      from : (o : Option (Member C Rules Doc Reason)) → slice_get (by_some s i o (member_exchanges m rules s.authority kind)).1.members k ≡ Some (Editor d)
          → slice_get s.members k ≡ Some (Editor d)
      from None h = h
      from (Some x) h = other (get-set s.members i k (member_exchanges m rules s.authority kind x).2 (Editor d) h)
        where
          other : ((k ≡ i) × (Editor d ≡ (member_exchanges m rules s.authority kind x).2)) ⊎ ((k ≡ i → ⊥) × (slice_get s.members k ≡ Some (Editor d)))
              → slice_get s.members k ≡ Some (Editor d)
          other (inl p) = absurd (apart p.0)
          other (inr p) = p.1

  pub members-stay : (kind : MessageKind) (i : ℕ) (s : State C Rules Doc Reason) → length (exchanged m rules kind i s).members ≡ length s.members
  members-stay kind i s = from (slice_get s.members i)
    where
      from : (o : Option (Member C Rules Doc Reason)) → length (by_some s i o (member_exchanges m rules s.authority kind)).1.members ≡ length s.members
      from None = refl
      from (Some x) = set-length s.members i (member_exchanges m rules s.authority kind x).2

  -- a question adds nothing to the log
  log-stays : (i : ℕ) (s : State C Rules Doc Reason) → (exchanged m rules Asking i s).authority ≡ s.authority
  log-stays i s = from (slice_get s.members i)
    where
      from : (o : Option (Member C Rules Doc Reason)) → (by_some s i o (member_exchanges m rules s.authority Asking)).1.authority ≡ s.authority
      from None = refl
      from (Some (Editor c)) = refl
      from (Some (Raw name serial)) = refl

  -- what the editor whose turn it was is, and what it was
  pub record Turned (kind : MessageKind) (i : ℕ) (s : State C Rules Doc Reason) (d : Client C Rules Doc Reason) : Type 0 where
    pub was : Client C Rules Doc Reason
    pub at : slice_get s.members i ≡ Some (Editor was)
    pub is : d ≡ (exchanges_at m rules s.authority was kind false).2

  turned : (kind : MessageKind) (i : ℕ) (s : State C Rules Doc Reason) (d : Client C Rules Doc Reason) → slice_get (exchanged m rules kind i s).members i ≡ Some (Editor d)
      → Turned kind i s d
  turned kind i s d h = from (slice_get s.members i) refl h
    where
      of : (x : Member C Rules Doc Reason) → slice_get s.members i ≡ Some x → Editor d ≡ (member_exchanges m rules s.authority kind x).2 → Turned kind i s d
      of (Editor c) e f = let same : d ≡ (exchanges_at m rules s.authority c kind false).2 = cc in record { was = c; at = e; is = same }
      of (Raw name serial) e f = absurd (cc)

      from : (o : Option (Member C Rules Doc Reason)) → slice_get s.members i ≡ o
          → slice_get (by_some s i o (member_exchanges m rules s.authority kind)).1.members i ≡ Some (Editor d) → Turned kind i s d
      from None e h = absurd (cc)
      from (Some x) e h = this (get-set s.members i i (member_exchanges m rules s.authority kind x).2 (Editor d) h)
        where
          this : ((i ≡ i) × (Editor d ≡ (member_exchanges m rules s.authority kind x).2)) ⊎ ((i ≡ i → ⊥) × (slice_get s.members i ≡ Some (Editor d))) → Turned kind i s d
          this (inl p) = of x e p.1
          this (inr p) = absurd (p.0 refl)

  asked-version : (i : ℕ) (s : State C Rules Doc Reason) (d : Client C Rules Doc Reason) → Sound m rules s → slice_get (exchanged m rules Asking i s).members i ≡ Some (Editor d)
      → d.version ≡ length s.authority.log
  asked-version i s d sound h =
      let t = turned Asking i s d h in
      ap (λ (x : Client C Rules Doc Reason). x.version) t.is ∙ asks-version m rules laws s.authority sound.authority t.was (sound.stand i (Editor t.was) t.at).1.kin

  asked-pending : (i : ℕ) (s : State C Rules Doc Reason) (d : Client C Rules Doc Reason) → Sound m rules s
      → ((c : Client C Rules Doc Reason) → slice_get s.members i ≡ Some (Editor c) → c.pending ≡ []) → slice_get (exchanged m rules Asking i s).members i ≡ Some (Editor d) → d.pending ≡ []
  asked-pending i s d sound none h =
      let t = turned Asking i s d h in
      ap (λ (x : Client C Rules Doc Reason). x.pending) t.is
      ∙ asks-pending m rules laws s.authority sound.authority t.was (sound.stand i (Editor t.was) t.at).1.kin (none t.was t.at)

  -- a client that asked and then submitted has nothing pending
  brought-pending : (i : ℕ) (s : State C Rules Doc Reason) (d : Client C Rules Doc Reason) → Sound m rules s → slice_get (brought_up m rules i s).members i ≡ Some (Editor d) → d.pending ≡ []
  brought-pending i s d sound h =
      let mid = exchanged m rules Asking i s in
      let t = turned Submission i mid d h in
      let there = exchanged-sound m rules laws Asking i s sound in
      let at : t.was.version ≡ length mid.authority.log =
      asked-version i s t.was sound t.at ∙ ap (λ (x : Authority C Rules Doc Reason). length x.log) (sym (log-stays i s)) in
      ap (λ (x : Client C Rules Doc Reason). x.pending) t.is
      ∙ submits-pending m rules laws mid.authority there.authority t.was (there.stand i (Editor t.was) t.at).1.kin at

  -- What each turn gives its client, and leaves the others, holds of all clients after the last turn.
  module _ (does : ℕ → State C Rules Doc Reason → State C Rules Doc Reason) (Inv : State C Rules Doc Reason → Type 0)
      (P : State C Rules Doc Reason → Client C Rules Doc Reason → Type 0)
      (keeps : (i : ℕ) (s : State C Rules Doc Reason) → Inv s → Inv (does i s))
      (gives : (i : ℕ) (s : State C Rules Doc Reason) (d : Client C Rules Doc Reason) → Inv s → slice_get (does i s).members i ≡ Some (Editor d) → P (does i s) d)
      (leaves : (i k : ℕ) (s : State C Rules Doc Reason) (d : Client C Rules Doc Reason) → (k ≡ i → ⊥) → slice_get (does i s).members k ≡ Some (Editor d) → slice_get s.members k ≡ Some (Editor d))
      (stays : (i : ℕ) (s : State C Rules Doc Reason) (d : Client C Rules Doc Reason) → P s d → P (does i s) d) where
    all-turns : (k n : ℕ) (s : State C Rules Doc Reason) → Inv s → ((j : ℕ) (d : Client C Rules Doc Reason) → j < k → slice_get s.members j ≡ Some (Editor d) → P s d)
        → Inv (in_turn does k n s) × ((j : ℕ) (d : Client C Rules Doc Reason) → j < k + n → slice_get (in_turn does k n s).members j ≡ Some (Editor d) → P (in_turn does k n s) d)
    all-turns k zero s inv h = (inv, λ j d l at. h j d (omega (arith, l)) at)
    all-turns k (suc n) s inv h =
        let rest = all-turns (k + 1) n (does k s) (keeps k s inv) (λ j d l at. by-place j d l at (j == k) refl) in
        (rest.0, λ j d l at. rest.1 j d (omega (arith, l)) at)
      where
        by-place : (j : ℕ) (d : Client C Rules Doc Reason) → j < k + 1 → slice_get (does k s).members j ≡ Some (Editor d) → (b : Bool) → (j == k) ≡ b → P (does k s) d
        by-place j d l at true e = let same : j ≡ k = eqb-true j k e in gives k s d inv (rw same at at)
        by-place j d l at false e =
            let apart : j ≡ k → ⊥ = λ q. let t : (j == k) ≡ true = eq-eqb j k q in absurd (cc) in
            stays k s d (h j d (lower l apart) (leaves k j s d apart at))
          where
            lower : j < k + 1 → (j ≡ k → ⊥) → j < k
            lower l apart = omega (arith, l, apart)

  NonePending : State C Rules Doc Reason → Type 0
  NonePending s = (i : ℕ) (c : Client C Rules Doc Reason) → slice_get s.members i ≡ Some (Editor c) → c.pending ≡ []

  -- as many clients after turns as before them
  members-turns : (does : ℕ → State C Rules Doc Reason → State C Rules Doc Reason) → ((i : ℕ) (s : State C Rules Doc Reason) → length (does i s).members ≡ length s.members)
      → (k n : ℕ) (s : State C Rules Doc Reason) → length (in_turn does k n s).members ≡ length s.members
  members-turns does stay k zero s = refl
  members-turns does stay k (suc n) s = members-turns does stay (k + 1) n (does k s) ∙ stay k s

  none-asked : (i : ℕ) (s : State C Rules Doc Reason) → Sound m rules s → NonePending s → NonePending (exchanged m rules Asking i s)
  unfolding NonePending
  none-asked i s sound none k d h = by-place (k == i) refl
    where
      by-place : (b : Bool) → (k == i) ≡ b → d.pending ≡ []
      by-place true e = let same : k ≡ i = eqb-true k i e in asked-pending i s d sound (λ c at. none i c at) (rw same at h)
      by-place false e = none k d (others-stay Asking i k s d (λ q. let t : (k == i) ≡ true = eq-eqb k i q in absurd (cc)) h)

  -- each client in turn asked and submitted
  brought-none : (s : State C Rules Doc Reason) → Sound m rules s → NonePending (in_turn (brought_up m rules) 0 (length s.members) s)
  unfolding NonePending
  brought-none s sound i c at =
      let does = brought_up m rules in
      let keeps = λ (i : ℕ) (t : State C Rules Doc Reason) (h : Sound m rules t).
      exchanged-sound m rules laws Submission i (exchanged m rules Asking i t) (exchanged-sound m rules laws Asking i t h) in
      let all =
      all-turns does (Sound m rules) (λ t d. d.pending ≡ []) keeps (λ i t d h at. brought-pending i t d h at)
      (λ i k t d apart h. others-stay Asking i k t d apart (others-stay Submission i k (exchanged m rules Asking i t) d apart h)) (λ i t d h. h)
      0 (length s.members) s sound (λ j d l at. absurd (omega (arith, l))) in
      let size = members-turns does (λ i t. members-stay Submission i (exchanged m rules Asking i t) ∙ members-stay Asking i t) 0 (length s.members) s in
      all.1 i c (omega (arith, size, (get-index (in_turn does 0 (length s.members) s).members i (Editor c) at).0)) at

  -- then each asked again
  pub settled-caught : (s : State C Rules Doc Reason) → Sound m rules s → AllCaughtUp (settled m rules s)
  unfolding NonePending
  settled-caught s sound i c at =
      let n = length s.members in
      let up = in_turn (brought_up m rules) 0 n s in
      let does = exchanged m rules Asking in
      let up_sound = turns-sound m rules laws (brought_up m rules)
      (λ i t h. exchanged-sound m rules laws Submission i (exchanged m rules Asking i t) (exchanged-sound m rules laws Asking i t h)) 0 n s sound in
      let all =
      all-turns does (λ t. Sound m rules t × NonePending t) (λ t d. d.version ≡ length t.authority.log)
      (λ i t h. (exchanged-sound m rules laws Asking i t h.0, none-asked i t h.0 h.1))
      (λ i t d h at. asked-version i t d h.0 at ∙ ap (λ (x : Authority C Rules Doc Reason). length x.log) (sym (log-stays i t)))
      (λ i k t d apart h. others-stay Asking i k t d apart h)
      (λ i t d h. h ∙ ap (λ (x : Authority C Rules Doc Reason). length x.log) (sym (log-stays i t)))
      0 n up (up_sound, brought-none s sound) (λ j d l at. absurd (omega (arith, l))) in
      let size_up = members-turns (brought_up m rules) (λ i t. members-stay Submission i (exchanged m rules Asking i t) ∙ members-stay Asking i t) 0 n s in
      let size = members-turns does (λ i t. members-stay Asking i t) 0 n up in
      let t = settled m rules s in
      let version = all.1 i c (omega (arith, size, size_up, (get-index t.members i (Editor c) at).0)) at in
      let none : c.pending ≡ [] = all.0.1 i c at in
      let kin = (all.0.0.stand i (Editor c) at).1.kin in
      let base : c.base ≡ t.authority.doc = base-is-doc m rules laws t.authority c all.0.0.authority kin version in
      let doc : c.base ≡ c.doc = some-inj c.base c.doc (ap (λ l. fold m rules c.base (changes_of l)) (sym none) ∙ kin.doc_is) in
      record { version = version; pending = none; doc = sym doc ∙ base }
    where
      some-inj : (x y : Doc) → Some x ≡ Some y → x ≡ y
      some-inj x y h = cc
