-- A client's own steps confirmed.
use Rattle.std.specs.Prelude.{◌≡◌, ℕ, ◌+◌, ◌≤◌, ◌<◌, ◌^◌, List, [], ◌++◌, length, take, drop}
use Rattle.std.proofs.Common.{sym, ap, ◌∙◌, subst, arith, append-nil}
use Rattle.std.proofs.lemmas.List.{take-append-drop}
use Rattle.pm_change.specs.Changes.{Meaning, fold}
use Rattle.pm_authority.specs.declared.named.Named.{Named}
use Rattle.pm_authority.specs.declared.message.Answer.TheVariants.{Accepted}
use Rattle.pm_authority.specs.Runs.{changes_of, AllApply}
use Rattle.pm_client.specs.declared.client.Client.{Client}
use Rattle.pm_client.specs.declared.taken.Taken.{Taken}
use Rattle.pm_client.specs.declared.taken.Taken.TheVariants.{Confirmed}
use Rattle.pm_client.specs.Clients.{given, kept, forgotten, confirmed_first, taken_at}
use Rattle.pm_client.specs.Kins.{Kin, Stands}
use Rattle.pm_client.proofs.Prefixes.{front-applies}
use Rattle.pm_remote.specs.Bare.{IsBare}
use Rattle.pm_remote.proofs.Hearings.{before-is, kin-acceptance, stands-acceptance}
use Rattle.pm_remote.proofs.Outcomes.{confirmed_of, confirms}

-- a client that stands to each log that another stands to
pub stands-on : {Rules Doc Reason C : Type 0} (m : Meaning Rules Doc Reason C) (rules : Rules) (a b : Client C Rules Doc Reason) → Stands m rules a
    → ((first : Doc) (log : List (Named C)) → Kin m rules first log a → Kin m rules first log b) → Stands m rules b
stands-on m rules a b s h = record { first = s.first; log = s.log; short = s.short; kin = h s.first s.log s.kin }

module _ {Rules Doc Reason C : Type 0} (m : Meaning Rules Doc Reason C) (rules : Rules) (c : Client C Rules Doc Reason) where
  -- the first pending steps apply to the base
  pub own-apply : (k : ℕ) → AllApply m rules c.base c.pending c.doc → (base : Doc) × AllApply m rules c.base (take k c.pending) base
  own-apply k applies =
      front-applies m rules c.base c.doc (take k c.pending) (drop k c.pending) (ap (λ l. fold m rules c.base (changes_of l)) (take-append-drop k c.pending) ∙ applies)

  module _ (stands : Stands m rules c) (bare : IsBare c) (k : ℕ) (within : k ≤ length c.pending) where
    pub confirm-stands : c.version + k < 2 ^ 64 → Stands m rules (kept c (Accepted c.version k))
    confirm-stands short =
        let base = own-apply k stands.kin.doc_is in
        stands-acceptance m rules c bare stands k [] base.0 within tt (subst (λ l. AllApply m rules c.base l base.0) (sym (append-nil (take k c.pending))) base.1) (omega (arith, short))

    pub confirm-kin : (first : Doc) (log : List (Named C)) → Kin m rules first log c
        → Kin m rules first (take c.version log ++ take k c.pending) (kept c (Accepted c.version k))
    confirm-kin first log kin =
        let base = own-apply k stands.kin.doc_is in
        let own : List (Named C) = take k c.pending in
        let none = append-nil own in
        subst (λ l. Kin m rules first (l ++ own) (kept c (Accepted c.version k))) (before-is m rules first log c kin)
        (subst (λ l. Kin m rules first (kin.before ++ l) (kept c (Accepted c.version k))) none
        (kin-acceptance m rules c bare first log kin k [] base.0 within tt (subst (λ l. AllApply m rules c.base l base.0) (sym none) base.1)))

    module _ (t : Taken) (new : Client C Rules Doc Reason) (some : 0 < k) (h : (t, new) ≡ taken_at m rules (kept c (Accepted c.version k)) 1) where
      became : (t, forgotten new) ≡ confirmed_of m rules c k (own-apply k stands.kin.doc_is).0
      became = let base = own-apply k stands.kin.doc_is in confirms m rules c bare k base.0 t new some base.1 h

      pub confirm-told : (Confirmed k, forgotten new) ≡ confirmed_first m rules c k
      confirm-told =
          let base = own-apply k stands.kin.doc_is in
          ap (λ (p : Taken × Client C Rules Doc Reason). (Confirmed k, p.1)) became
          ∙ sym (ap (λ o. given c o (confirmed_of m rules c k)) base.1)

      pub confirm-version : (forgotten new).version ≡ c.version + k
      confirm-version = ap (λ (p : Taken × Client C Rules Doc Reason). p.1.version) became
