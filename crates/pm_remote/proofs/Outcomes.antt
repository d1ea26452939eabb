-- What taking what was heard tells, and the client after it.
use Rattle.std.specs.Prelude.{◌≡◌, ℕ, ◌+◌, ◌-◌, ◌≤◌, ◌<◌, ◌==◌, nat_le, if◌then◌else◌, false, List, [], ◌++◌, length, take, drop}
use Rattle.std.specs.List.{AllByRecursion as Each}
use Rattle.std.proofs.Common.{sym, ap, ◌∙◌, subst, arith, length-append}
use Rattle.std.proofs.Math.Seq.{drop-append_seam}
use Rattle.std.proofs.lemmas.Bool.{lt-leb, ne_eqb}
use Rattle.std.proofs.lemmas.List.{length-take-le, take-append-drop}
use Rattle.pm_change.specs.Changes.{Meaning}
use Rattle.pm_authority.specs.declared.named.Named.{Named}
use Rattle.pm_authority.specs.declared.message.Answer.{Answer}
use Rattle.pm_authority.specs.declared.message.Answer.TheVariants.{Accepted, Entries}
use Rattle.pm_authority.specs.Runs.{AllApply}
use Rattle.pm_client.specs.declared.client.Client.{Client}
use Rattle.pm_client.specs.declared.taken.Taken.{Taken}
use Rattle.pm_client.specs.declared.taken.Taken.TheVariants.{Confirmed, Rebased, Stale}
use Rattle.pm_client.specs.Clients.{own_run, given, kept, forgotten, confirmed, brought, carried, confirmed_first, others_taken, rest_taken, taken, taken_if, taken_at}
use Rattle.pm_client.specs.Kins.{IsOwn, IsForeign}
use Rattle.pm_client.proofs.Lists.{Each-front}
use Rattle.pm_client.proofs.Takings.{own_run-is}
use Rattle.pm_remote.specs.Bare.{IsBare}
use Rattle.pm_remote.proofs.Hearings.{first-answer}

module _ {Rules Doc Reason C : Type 0} where
  -- a client that keeps nothing has nothing to drop
  pub forgotten-same : (c : Client C Rules Doc Reason) → IsBare c → forgotten c ≡ c
  forgotten-same c bare =
      ap (λ l. record c { messages = l; answers = [] }) (sym bare.0) ∙ ap (λ l. record c { messages = c.messages; answers = l }) (sym bare.1)

module _ {Rules Doc Reason C : Type 0} (m : Meaning Rules Doc Reason C) (rules : Rules) (c : Client C Rules Doc Reason) where
  -- what is told where so many pending steps were confirmed, which give this base
  abbrev pub confirmed_of : ℕ → Doc → Taken × Client C Rules Doc Reason
  confirmed_of k base = (Confirmed k, confirmed c k base)

  -- pending steps accepted
  pub confirmed-is : (k : ℕ) (base : Doc) → 0 < k → AllApply m rules c.base (take k c.pending) base
      → taken m rules c (Accepted c.version k) ≡ confirmed_of k base
  confirmed-is k base some applies =
      let past : nat_le (c.version + k) c.version ≡ false = lt-leb (c.version + k) c.version (omega (arith, some)) in
      ap (λ b. if b then (Stale, c) else confirmed_first m rules c k) past
      ∙ ap (λ o. given c o (confirmed_of k)) applies

  -- what is told where the pending steps after so many were carried over others' entries, so many
  abbrev pub told_of : ℕ → ℕ → List (Named C) → Doc → Taken × Client C Rules Doc Reason
  told_of k n foreign base =
      let r = carried m rules c k foreign base in
      (Rebased k n (length r.dropped), brought m rules c k foreign base r)

  -- pending steps and then others' entries
  pub heard-is : (k : ℕ) (foreign : List (Named C)) (base : Doc) → Each (IsOwn c.name) c.pending → k ≤ length c.pending → Each (IsForeign c.name) foreign
      → 0 < length foreign → AllApply m rules c.base (take k c.pending ++ foreign) base
      → taken m rules c (Entries c.version (take k c.pending ++ foreign)) ≡ told_of k (length foreign) foreign base
  heard-is k foreign base own within far some applies =
      let rest : List (Named C) = take k c.pending ++ foreign in
      let at : length (take k c.pending) ≡ k = length-take-le k c.pending within in
      let n : length rest ≡ k + length foreign = omega (arith, at, length-append (take k c.pending) foreign) in
      let past : nat_le (c.version + length rest) c.version ≡ false = lt-leb (c.version + length rest) c.version (omega (arith, some, n)) in
      let zero_is : c.version - c.version ≡ 0 = omega arith in
      let whole : drop (c.version - c.version) rest ≡ rest = ap (λ i. drop i rest) zero_is in
      let own_front : Each (IsOwn c.name) (take k c.pending) = Each-front (IsOwn c.name) (take k c.pending) (drop k c.pending) (subst (Each (IsOwn c.name)) (sym (take-append-drop k c.pending)) own) in
      let run : own_run c.name rest ≡ k = own_run-is c.name (take k c.pending) foreign own_front far ∙ at in
      let others : (k == length rest) ≡ false = ne_eqb k (length rest) (λ e. omega (arith, e, n, some)) in
      let front : drop k rest ≡ foreign = ap (λ i. drop i rest) (sym at) ∙ drop-append_seam (take k c.pending) foreign in
      let count : length rest - k ≡ length foreign = omega (arith, n) in
      ap (λ b. if b then (Stale, c) else rest_taken m rules c (drop (c.version - c.version) rest) (own_run c.name (drop (c.version - c.version) rest))) past
      ∙ ap (λ l. rest_taken m rules c l (own_run c.name l)) whole
      ∙ ap (rest_taken m rules c rest) run
      ∙ ap (λ b. if b then confirmed_first m rules c k else others_taken m rules c rest k) others
      ∙ ap (λ o. given c o (told_of k (length rest - k) (drop k rest))) applies
      ∙ ap (λ l. told_of k (length rest - k) l base) front
      ∙ ap (λ i. told_of k i foreign base) count

module _ {Rules Doc Reason C : Type 0} (m : Meaning Rules Doc Reason C) (rules : Rules) (c : Client C Rules Doc Reason) (bare : IsBare c) where
  -- taking the only answer that is kept
  only-taken : (a : Answer C Rules Doc Reason) → taken_at m rules (kept c a) 1 ≡ taken m rules (kept c a) a
  only-taken a = ap (taken_if m rules (kept c a)) (first-answer m rules c bare a)

  -- The client after an acceptance was kept, taken and dropped, and what was told.
  pub confirms : (k : ℕ) (base : Doc) (t : Taken) (new : Client C Rules Doc Reason) → 0 < k → AllApply m rules c.base (take k c.pending) base
      → (t, new) ≡ taken_at m rules (kept c (Accepted c.version k)) 1 → (t, forgotten new) ≡ confirmed_of m rules c k base
  confirms k base t new some applies h =
      let told : Taken × Client C Rules Doc Reason = (t, new) in
      let is : told ≡ confirmed_of m rules (kept c (Accepted c.version k)) k base =
      h ∙ only-taken (Accepted c.version k) ∙ confirmed-is m rules (kept c (Accepted c.version k)) k base some applies in
      ap (λ (p : Taken × Client C Rules Doc Reason). (p.0, forgotten p.1)) is ∙ ap (λ x. (Confirmed k, x)) (forgotten-same (confirmed c k base) bare)

  -- the same of entries
  pub receives : (k : ℕ) (foreign : List (Named C)) (base : Doc) (t : Taken) (new : Client C Rules Doc Reason) → Each (IsOwn c.name) c.pending → k ≤ length c.pending
      → Each (IsForeign c.name) foreign → 0 < length foreign → AllApply m rules c.base (take k c.pending ++ foreign) base
      → (t, new) ≡ taken_at m rules (kept c (Entries c.version (take k c.pending ++ foreign))) 1
      → (t, forgotten new) ≡ told_of m rules c k (length foreign) foreign base
  receives k foreign base t new own within far some applies h =
      let a : Answer C Rules Doc Reason = Entries c.version (take k c.pending ++ foreign) in
      let told : Taken × Client C Rules Doc Reason = (t, new) in
      let is : told ≡ told_of m rules (kept c a) k (length foreign) foreign base =
      h ∙ only-taken a ∙ heard-is m rules (kept c a) k foreign base own within far some applies in
      let r = carried m rules c k foreign base in
      ap (λ (p : Taken × Client C Rules Doc Reason). (p.0, forgotten p.1)) is
      ∙ ap (λ x. (Rebased k (length foreign) (length r.dropped), x)) (forgotten-same (brought m rules c k foreign base r) bare)
