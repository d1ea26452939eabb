-- The log that a client which keeps no message and no answer stands to, when it goes on by some of the client's pending steps
-- and others' steps.
use Rattle.std.specs.Prelude.{◌≡◌, ℕ, suc, ◌+◌, ◌≤◌, ◌<◌, ◌^◌, List, [], ◌∷◌, ◌++◌, length, take, drop, Some, refl}
use Rattle.std.specs.List.{AllByRecursion as Each}
use Rattle.std.proofs.Common.{sym, ap, ◌∙◌, subst, inr, arith, length-append, append-nil}
use Rattle.std.proofs.Math.Seq.{take-append_seam}
use Rattle.std.proofs.lemmas.List.{length-take-le, take-append-drop}
use Rattle.std.proofs.lemmas.List.Elements.{All-from_recursion}
use Rattle.pm_change.specs.Changes.{Meaning, fold}
use Rattle.pm_change.proofs.Folds.{fold-append}
use Rattle.pm_authority.specs.declared.named.Named.{Named}
use Rattle.pm_authority.specs.declared.message.Answer.{Answer}
use Rattle.pm_authority.specs.declared.message.Answer.TheVariants.{Accepted, Entries}
use Rattle.pm_authority.specs.Runs.{changes_of, AllApply}
use Rattle.pm_authority.proofs.RunFolds.{changes-append}
use Rattle.pm_client.specs.declared.client.Client.{Client}
use Rattle.pm_client.specs.Clients.{named, kept, answer_at}
use Rattle.pm_client.specs.Kins.{IsForeign, Kin, Stands}
use Rattle.pm_client.specs.Leads.{EndsLog, Leads}
use Rattle.pm_client.proofs.Keeps.{kin-kept}
use Rattle.pm_remote.specs.Bare.{IsBare}

-- steps under another name are others'
pub named-foreign : {C : Type 0} (client other serial : ℕ) (cs : List C) → (other ≡ client → ⊥) → Each (IsForeign client) (named other serial cs)
named-foreign client other serial [] h = tt
named-foreign client other serial (c ∷ cs) h = (h, named-foreign client other (serial + 1) cs h)

pub named-length : {C : Type 0} (client serial : ℕ) (cs : List C) → length (named client serial cs) ≡ length cs
named-length client serial [] = refl
named-length client serial (c ∷ cs) = ap suc (named-length client (serial + 1) cs)

-- what stands in the log before the version
pub before-is : {Rules Doc Reason C : Type 0} (m : Meaning Rules Doc Reason C) (rules : Rules) (first : Doc) (log : List (Named C)) (c : Client C Rules Doc Reason)
    → (kin : Kin m rules first log c) → kin.before ≡ take c.version log
before-is m rules first log c kin =
    sym (take-append_seam kin.before kin.past) ∙ ap (λ n. take n (kin.before ++ kin.past)) (sym kin.version_is) ∙ ap (take c.version) (sym kin.log_is)

module _ {Rules Doc Reason C : Type 0} (m : Meaning Rules Doc Reason C) (rules : Rules) (c : Client C Rules Doc Reason) (bare : IsBare c) where
  module _ (first : Doc) (log : List (Named C)) (kin : Kin m rules first log c) (k : ℕ) (foreign : List (Named C)) (end : Doc)
      (within : k ≤ length c.pending) (far : Each (IsForeign c.name) foreign) (applies : AllApply m rules c.base (take k c.pending ++ foreign) end) where
    -- the log before the version, and then what was heard
    abbrev pub log_on : List (Named C)
    log_on = kin.before ++ (take k c.pending ++ foreign)

    pub log-gives : AllApply m rules first log_on end
    log-gives =
        ap (fold m rules first) (changes-append kin.before (take k c.pending ++ foreign))
        ∙ fold-append m rules first c.base (changes_of kin.before) (changes_of (take k c.pending ++ foreign)) kin.base_is ∙ applies

    pub log-length : length log_on ≡ c.version + (k + length foreign)
    log-length =
        omega (arith, kin.version_is, length-append kin.before (take k c.pending ++ foreign), length-append (take k c.pending) foreign, length-take-le k c.pending within)

    pub kin-heard : Kin m rules first log_on c
    kin-heard = record {
      before = kin.before;
      past = take k c.pending ++ foreign;
      standing = k;
      log_is = refl;
      version_is = kin.version_is;
      first_good = kin.first_good;
      log_applies = (end, log-gives);
      base_is = kin.base_is;
      doc_is = kin.doc_is;
      own = kin.own;
      cursors = kin.cursors;
      parted = kin.parted;
      stands = record {
        standing = take k c.pending;
        foreign = foreign;
        later = drop k c.pending;
        counted = length-take-le k c.pending within;
        past_is = refl;
        pending_is = sym (take-append-drop k c.pending);
        are_foreign = far;
      };
      timeline = kin.timeline;
      timeline_is = kin.timeline_is;
      history = kin.history;
      messages = rw bare.0 (All-from_recursion _ [] tt);
      answers = rw bare.1 (All-from_recursion _ [] tt);
    }

    -- the client keeps what was heard as entries
    pub kin-entries : Kin m rules first log_on (kept c (Entries c.version (take k c.pending ++ foreign)))
    unfolding kin-heard
    kin-entries =
        let entries : List (Named C) = take k c.pending ++ foreign in
        kin-kept m rules first log_on c kin-heard (Entries c.version entries) (
          omega arith,
          (kin.before, [], sym kin.version_is, append-nil (kin.before ++ entries)),
          inr (omega (arith, length-append (take k c.pending) foreign, length-take-le k c.pending within)),
        )

    -- or as the acceptance of its pending steps
    pub kin-acceptance : Kin m rules first log_on (kept c (Accepted c.version k))
    unfolding kin-heard
    kin-acceptance = kin-kept m rules first log_on c kin-heard (Accepted c.version k) (inr (refl, refl))

  -- the answer kept is the first
  pub first-answer : (a : Answer C Rules Doc Reason) → answer_at (kept c a) 1 ≡ Some a
  first-answer a = rw bare.1 refl

  module _ (stands : Stands m rules c) (k : ℕ) (foreign : List (Named C)) (end : Doc) (within : k ≤ length c.pending)
      (far : Each (IsForeign c.name) foreign) (applies : AllApply m rules c.base (take k c.pending ++ foreign) end)
      (short : c.version + (k + length foreign) < 2 ^ 64) where
    pub stands-entries : Stands m rules (kept c (Entries c.version (take k c.pending ++ foreign)))
    stands-entries = record {
      first = stands.first;
      log = log_on stands.first stands.log stands.kin k foreign end within far applies;
      short = rw (log-length stands.first stands.log stands.kin k foreign end within far applies) short;
      kin = kin-entries stands.first stands.log stands.kin k foreign end within far applies;
    }

    pub stands-acceptance : Stands m rules (kept c (Accepted c.version k))
    stands-acceptance = record {
      first = stands.first;
      log = log_on stands.first stands.log stands.kin k foreign end within far applies;
      short = rw (log-length stands.first stands.log stands.kin k foreign end within far applies) short;
      kin = kin-acceptance stands.first stands.log stands.kin k foreign end within far applies;
    }

    -- the log ends with the entries that are kept
    ends-entries : EndsLog m rules (kept c (Entries c.version (take k c.pending ++ foreign))) c.version (take k c.pending ++ foreign) end
    ends-entries =
        let n : length (take k c.pending ++ foreign) ≡ k + length foreign =
        length-append (take k c.pending) foreign ∙ ap (λ i. i + length foreign) (length-take-le k c.pending within) in
        record {
          first = stands.first;
          log = log_on stands.first stands.log stands.kin k foreign end within far applies;
          kin = kin-entries stands.first stands.log stands.kin k foreign end within far applies;
          whole = ap (λ i. c.version + i) n ∙ sym (log-length stands.first stands.log stands.kin k foreign end within far applies);
          gives = log-gives stands.first stands.log stands.kin k foreign end within far applies;
        }

    pub leads-entries : Leads m rules (kept c (Entries c.version (take k c.pending ++ foreign))) 1 end
    leads-entries since entries is =
        let heard : List (Named C) = take k c.pending ++ foreign in
        let a : Answer C Rules Doc Reason = Entries c.version heard in
        let first_is : answer_at (kept c a) 1 ≡ Some a = first-answer a in
        let at : c.version ≡ since = cc in
        let are : heard ≡ entries = cc in
        subst (λ i. EndsLog m rules (kept c a) i entries end) at (subst (λ l. EndsLog m rules (kept c a) c.version l end) are ends-entries)
