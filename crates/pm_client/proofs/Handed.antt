-- A document that is in hand where an answer is taken, or steps are made.
use Rattle.std.specs.Prelude.{IfSome}
use Rattle.std.proofs.Common.{◌≡◌, ℕ, ◌-◌, ◌<◌, List, [], ◌++◌, length, drop, Option, None, Some, sym, ap, ◌∙◌, subst, arith, append-nil, length-append}
use Rattle.pm_change.specs.Changes.{Meaning, fold}
use Rattle.pm_change.proofs.Folds.{fold-append}
use Rattle.pm_authority.specs.declared.named.Named.{Named}
use Rattle.pm_authority.specs.declared.message.Answer.{Answer}
use Rattle.pm_authority.specs.declared.message.Answer.TheVariants.{Accepted, WrongVersion, StepRefused, Entries}
use Rattle.pm_authority.specs.Runs.{changes_of, AllApply}
use Rattle.pm_authority.proofs.RunFolds.{changes-append}
use Rattle.pm_client.specs.declared.client.Client.{Client}
use Rattle.pm_client.specs.Clients.{answer_at, named}
use Rattle.pm_client.specs.Kins.{AnswerStands}
use Rattle.pm_client.specs.Leads.{EndsLog, Leads}
use Rattle.pm_client.specs.Plans.{Reaches}
use Rattle.pm_client.proofs.Lists.{nothing, part-past}
use Rattle.pm_client.proofs.Takings.{answer-stands}
use Rattle.pm_client.proofs.TimelineLaws.{named-changes}

module _ {Rules Doc Reason C : Type 0} (m : Meaning Rules Doc Reason C) (rules : Rules) (c : Client C Rules Doc Reason) where
  -- entries that a log ends with lead from the base to the document that the log gives
  log-reaches : (i since : ℕ) (entries : List (Named C)) (end : Doc) → answer_at c i ≡ Some (Entries since entries) → EndsLog m rules c since entries end
      → Reaches m rules c (Entries since entries) end
  log-reaches i since entries end is h past =
      let kin = h.kin in
      let stands : AnswerStands {Rules = Rules} {Doc = Doc} {Reason = Reason} {C = C} h.log c.version kin.standing (Entries since entries) = answer-stands m rules h.first h.log c kin i (Entries since entries) is in
      let part = stands.1 in
      let rest : List (Named C) = drop (c.version - since) entries in
      let none : part.1 ≡ [] =
      nothing part.1 (omega (arith, h.whole, part.2, ap length part.3, length-append part.0 (entries ++ part.1), length-append part.0 entries, length-append (part.0 ++ entries) part.1, length-append entries part.1)) in
      let at : length kin.before - length part.0 ≡ c.version - since = omega (arith, kin.version_is, part.2) in
      let whole : rest ++ part.1 ≡ kin.past =
      rw at at (part-past part.0 entries part.1 kin.before kin.past (part.3 ∙ kin.log_is) (omega (arith, kin.version_is, part.2, stands.0)) (omega (arith, kin.version_is, part.2, past))) in
      let all : rest ≡ kin.past = sym (append-nil rest) ∙ ap (λ l. rest ++ l) (sym none) ∙ whole in
      ap (λ l. fold m rules c.base (changes_of l)) all ∙ sym (fold-append m rules h.first c.base (changes_of kin.before) (changes_of kin.past) kin.base_is)
      ∙ ap (fold m rules h.first) (sym (changes-append kin.before kin.past)) ∙ ap (λ l. fold m rules h.first (changes_of l)) (sym kin.log_is) ∙ h.gives

  -- the document in hand is reached by the answer that was read
  pub hand-reaches : (i : ℕ) (a : Answer C Rules Doc Reason) (o : Option Doc) → answer_at c i ≡ Some a → IfSome o (Leads m rules c i) → IfSome o (Reaches m rules c a)
  hand-reaches i a None is h = tt
  hand-reaches i (Accepted from count) (Some end) is h = tt
  hand-reaches i (WrongVersion size) (Some end) is h = tt
  hand-reaches i (StepRefused index reason) (Some end) is h = tt
  hand-reaches i (Entries since entries) (Some end) is h = log-reaches i since entries end is (h since entries is)

  pub reaches-along : (a b : Answer C Rules Doc Reason) (o : Option Doc) → a ≡ b → IfSome o (Reaches m rules c a) → IfSome o (Reaches m rules c b)
  reaches-along a b o e h = subst (λ x. IfSome o (Reaches m rules c x)) e h

  -- so it is by the entries past the version
  pub rest-reaches : (since : ℕ) (entries : List (Named C)) (o : Option Doc) → c.version - since < length entries → IfSome o (Reaches m rules c (Entries since entries))
      → IfSome o (AllApply m rules c.base (drop (c.version - since) entries))
  rest-reaches since entries None past h = tt
  rest-reaches since entries (Some end) past h = h past

module _ {Rules Doc Reason C : Type 0} (m : Meaning Rules Doc Reason C) (rules : Rules) (doc : Doc) where
  -- steps lead where their changes do
  pub named-leads : (client serial : ℕ) (cs : List C) (o : Option Doc) → IfSome o (λ d. fold m rules doc cs ≡ Some d)
      → IfSome o (AllApply m rules doc (named client serial cs))
  named-leads client serial cs None h = tt
  named-leads client serial cs (Some d) h = ap (fold m rules doc) (named-changes client serial cs) ∙ h
