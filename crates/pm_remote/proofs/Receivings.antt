-- Others' steps received.
use Rattle.std.specs.Prelude.{◌≡◌, ℕ, ◌+◌, ◌≤◌, ◌<◌, ◌^◌, List, ◌++◌, length, take, drop, Option, Some, None, IfSome, refl}
use Rattle.std.specs.List.{AllByRecursion as Each}
use Rattle.std.proofs.Common.{sym, ap, ◌∙◌, subst}
use Rattle.std.proofs.lemmas.List.{take-append-drop}
use Rattle.pm_change.specs.Changes.{Meaning, Laws, fold}
use Rattle.pm_change.proofs.Folds.{fold-append, fold-good}
use Rattle.pm_authority.specs.declared.named.Named.{Named}
use Rattle.pm_authority.specs.declared.message.Answer.TheVariants.{Entries}
use Rattle.pm_authority.specs.Runs.{changes_of, AllApply}
use Rattle.pm_client.specs.declared.client.Client.{Client}
use Rattle.pm_client.specs.declared.taken.Taken.{Taken}
use Rattle.pm_client.specs.declared.taken.Taken.TheVariants.{Rebased}
use Rattle.pm_client.specs.Clients.{kept, forgotten, brought, carried, taken, taken_at}
use Rattle.pm_client.specs.Kins.{IsForeign, Kin, Stands}
use Rattle.pm_client.specs.Leads.{Leads}
use Rattle.pm_client.proofs.Keeps.{base-good}
use Rattle.pm_client.proofs.TimelineLaws.{named-changes}
use Rattle.pm_remote.specs.declared.hearing.News.{News}
use Rattle.pm_remote.specs.declared.received.Back.{Back}
use Rattle.pm_remote.specs.Backs.{joined, backs, IsBack}
use Rattle.pm_remote.specs.Bare.{IsBare}
use Rattle.pm_remote.specs.Heard.{IsNews}
use Rattle.pm_remote.specs.Hearings.{others, heard, IsMiddle}
use Rattle.pm_remote.proofs.Applying.{later-applies}
use Rattle.pm_remote.proofs.Backings.{backs-restore, backs-apply}
use Rattle.pm_remote.proofs.Hearings.{named-foreign, named-length, before-is, kin-entries, stands-entries, leads-entries}
use Rattle.pm_remote.proofs.Outcomes.{told_of, heard-is, receives}

module _ {Rules Doc Reason C : Type 0} (m : Meaning Rules Doc Reason C) (rules : Rules) (laws : Laws m) (c : Client C Rules Doc Reason) (stands : Stands m rules c)
    (own : ℕ) (middle : Doc) (is : IsMiddle m rules c own middle) where
  -- the document after the first pending steps is good
  pub middle-good : m.is_good rules middle
  middle-good =
      fold-good m rules laws c.base middle (changes_of (take own c.pending)) (base-good m rules stands.first stands.log c stands.kin laws) is

  -- and the later ones lead from there to the client's own
  pub later-lead : AllApply m rules middle (drop own c.pending) c.doc
  later-lead =
      later-applies m rules c.base middle c.doc (take own c.pending) (drop own c.pending) is
      (ap (λ l. fold m rules c.base (changes_of l)) (take-append-drop own c.pending) ∙ stands.kin.doc_is)

  -- under loose rules something takes these back
  pub loose-back : m.is_loose rules → (o : Option (Back C)) → IsBack m rules c.doc (backs m rules middle (changes_of (drop own c.pending))) o
      → (b : Back C) × (o ≡ Some b)
  loose-back loose None h =
      let applies : fold m rules c.doc (joined (backs m rules middle (changes_of (drop own c.pending)))) ≡ Some middle =
      backs-apply m rules laws loose middle c.doc (changes_of (drop own c.pending)) middle-good later-lead in
      absurd (cc)
  loose-back loose (Some b) h = (b, refl)

  -- It leads to the document after the first pending steps. From there others' steps lead to a new base, and others again to
  -- a new document.
  pub back-leads : (foreign : List C) (pending : List (Named C)) (base doc : Doc) → fold m rules middle foreign ≡ Some base → AllApply m rules base pending doc
      → (o : Option (Back C)) → IsBack m rules c.doc (backs m rules middle (changes_of (drop own c.pending))) o
      → IfSome o (λ b. fold m rules c.doc (b.steps.items ++ foreign ++ changes_of pending) ≡ Some doc)
  back-leads foreign pending base doc two three None h = tt
  back-leads foreign pending base doc two three (Some b) h =
      let steps_are = h.0 in
      let at : h.2 ≡ middle = backs-restore m rules laws middle c.doc h.2 (changes_of (drop own c.pending)) middle-good later-lead h.3 in
      let one : fold m rules c.doc b.steps.items ≡ Some middle = ap (fold m rules c.doc) steps_are ∙ h.3 ∙ ap Some at in
      fold-append m rules c.doc base (b.steps.items ++ foreign) (changes_of pending) (fold-append m rules c.doc middle b.steps.items foreign one ∙ two) ∙ three

module _ {Rules Doc Reason C : Type 0} (m : Meaning Rules Doc Reason C) (rules : Rules) (c : Client C Rules Doc Reason) (stands : Stands m rules c) (bare : IsBare c)
    (other own : ℕ) (foreign : List C) (news : News C Rules Doc Reason) (is : IsNews m rules c other own foreign news) (within : own ≤ length c.pending)
    (differs : other ≡ c.name → ⊥) where
  far : Each (IsForeign c.name) (others c other own foreign)
  far = named-foreign c.name other (c.version + own + 1) foreign differs

  count : length (others c other own foreign) ≡ length foreign
  count = named-length other (c.version + own + 1) foreign

  -- The client that keeps the news as an answer stands to a log that goes on by them.
  pub news-kin : (first : Doc) (log : List (Named C)) → Kin m rules first log c
      → Kin m rules first (take c.version log ++ heard c other own foreign) (kept c (Entries c.version news.entries))
  news-kin first log kin =
      let entries : List (Named C) = heard c other own foreign in
      subst (λ l. Kin m rules first (take c.version log ++ entries) (kept c (Entries c.version l))) (sym is.entries_are)
      (subst (λ l. Kin m rules first (l ++ entries) (kept c (Entries c.version entries))) (before-is m rules first log c kin)
      (kin-entries m rules c bare first log kin own (others c other own foreign) news.end within far is.leads))

  module _ (short : c.version + (own + length foreign) < 2 ^ 64) where
    long : c.version + (own + length (others c other own foreign)) < 2 ^ 64
    long = subst (λ n. c.version + (own + n) < 2 ^ 64) (sym count) short

    -- the client stands to a log once it keeps the news as an answer
    pub news-stands : Stands m rules (kept c (Entries c.version news.entries))
    news-stands =
        subst (λ l. Stands m rules (kept c (Entries c.version l))) (sym is.entries_are)
        (stands-entries m rules c bare stands own (others c other own foreign) news.end within far is.leads long)

    -- which leads to the news' document
    pub news-leads : Leads m rules (kept c (Entries c.version news.entries)) 1 news.end
    news-leads =
        subst (λ l. Leads m rules (kept c (Entries c.version l)) 1 news.end) (sym is.entries_are)
        (leads-entries m rules c bare stands own (others c other own foreign) news.end within far is.leads long)

  -- the client once the answer was taken and dropped, and what was told
  module _ (some : 0 < length foreign) (t : Taken) (new : Client C Rules Doc Reason) (h : (t, new) ≡ taken_at m rules (kept c (Entries c.version news.entries)) 1) where
    some_others : 0 < length (others c other own foreign)
    some_others = subst (λ n. 0 < n) (sym count) some

    became : (t, forgotten new) ≡ told_of m rules c own (length foreign) (others c other own foreign) news.end
    became =
        receives m rules c bare own (others c other own foreign) news.end t new stands.kin.own within far some_others is.leads
        (subst (λ l. (t, new) ≡ taken_at m rules (kept c (Entries c.version l)) 1) is.entries_are h)
        ∙ ap (λ n. told_of m rules c own n (others c other own foreign) news.end) count

    taken-is : taken m rules c (Entries c.version (heard c other own foreign)) ≡ told_of m rules c own (length foreign) (others c other own foreign) news.end
    taken-is =
        heard-is m rules c own (others c other own foreign) news.end stands.kin.own within far some_others is.leads
        ∙ ap (λ n. told_of m rules c own n (others c other own foreign) news.end) count

    -- others' steps were taken
    pub news-told : t ≡ Rebased own (length foreign) (length (carried m rules c own (others c other own foreign) news.end).dropped)
    news-told = ap (λ (p : Taken × Client C Rules Doc Reason). p.0) became

    new-is : forgotten new ≡ brought m rules c own (others c other own foreign) news.end (carried m rules c own (others c other own foreign) news.end)
    new-is = ap (λ (p : Taken × Client C Rules Doc Reason). p.1) became

    pub news-taken : (dropped : ℕ) → dropped ≡ length (carried m rules c own (others c other own foreign) news.end).dropped
        → (Rebased own (length foreign) dropped, forgotten new) ≡ taken m rules c (Entries c.version (heard c other own foreign))
    news-taken dropped e =
        ap (λ (i : ℕ). (Rebased own (length foreign) i, forgotten new)) e
        ∙ ap (λ (s : Taken). (s, forgotten new)) (sym news-told) ∙ became ∙ sym taken-is

    pub news-version : (forgotten new).version ≡ c.version + (own + length foreign)
    news-version = ap (λ (x : Client C Rules Doc Reason). x.version) new-is ∙ ap (λ n. c.version + (own + n)) count

    pub news-base : (forgotten new).base ≡ news.end
    news-base = ap (λ (x : Client C Rules Doc Reason). x.base) new-is

    -- others' steps lead from the document after the own ones to the new base
    pub news-reach : fold m rules is.middle foreign ≡ Some (forgotten new).base
    news-reach =
        ap (fold m rules is.middle) (sym (named-changes other (c.version + own + 1) foreign))
        ∙ later-applies m rules c.base is.middle news.end (take own c.pending) (others c other own foreign) is.middle_is is.leads ∙ ap Some (sym news-base)
