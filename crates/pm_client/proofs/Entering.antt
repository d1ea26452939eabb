-- A client that comes late stands to the log.
use Rattle.std.specs.Prelude.{◌≡◌, ℕ, true, false, List, [], ◌∷◌, ◌++◌, length, map, Option, Some, None, Result, Ok, Err, refl}
use Rattle.std.specs.List.{AllByRecursion as Each}
use Rattle.std.proofs.Common.{sym, ap, subst, ◌∙◌, arith, append-nil}
use Rattle.std.proofs.lemmas.List.Elements.{All-from_recursion}
use Rattle.pm_change.specs.Changes.{Meaning, fold}
use Rattle.pm_authority.specs.declared.named.Named.{Named}
use Rattle.pm_authority.specs.Runs.{AllApply, changes_of as changes_in}
use Rattle.pm_history.specs.declared.item.Item.{Item}
use Rattle.pm_history.specs.Items.{one_step}
use Rattle.pm_history.specs.Histories.{new_history}
use Rattle.pm_history.specs.Timelines.{changes_of, items_from, next_items}
use Rattle.pm_history.specs.Tidy.{NotNamed, NamesDiffer, Once}
use Rattle.pm_history.specs.Standing.{IsHistoryOf, IsDrawn, HasDrawn}
use Rattle.pm_client.specs.Clients.{entered_client}
use Rattle.pm_client.specs.Kins.{IsForeign, Kin}
use Rattle.pm_client.specs.Timelines.{IsTimeline}
use Rattle.pm_client.proofs.SerialLists.{own_serials-foreign}
use Rattle.pm_client.proofs.TimelineLaws.{foreign_step, changes-are, foreign-timeline}

-- an item without a name, which undoes nothing
abbrev IsNameless : {C : Type 0} → Item C → Type 0
IsNameless i = (i.name ≡ None) × (i.undoes ≡ None)

module _ {C : Type 0} where
  nameless-once : (is : List (Item C)) → Each IsNameless is → Once is
  nameless-once [] h = tt
  nameless-once (i ∷ is) h = (
    λ n e.
        let f : one_step (Some n) i.undoes ≡ false = ap (one_step (Some n)) h.0.1 in
        absurd (cc),
    nameless-once is h.1,
  )

  nameless-differ : (is : List (Item C)) → Each IsNameless is → NamesDiffer is
  nameless-differ [] h = tt
  nameless-differ (i ∷ is) h = (subst (λ o. NotNamed o is) (sym h.0.0) tt, nameless-differ is h.1)

  nameless-drawn : (client drawn : ℕ) (is : List (Item C)) → Each IsNameless is → Each (HasDrawn client drawn) is
  nameless-drawn client drawn [] h = tt
  nameless-drawn client drawn (i ∷ is) h =
      ((subst (IsDrawn client drawn) (sym h.0.0) tt, subst (IsDrawn client drawn) (sym h.0.1) tt), nameless-drawn client drawn is h.1)

module _ {Rules Doc Reason C : Type 0} (m : Meaning Rules Doc Reason C) (rules : Rules) where
  -- the items of others' steps
  foreign-nameless : (doc : Doc) (ns : List (Named C)) → Each IsNameless (items_from m rules doc (map foreign_step ns))
  foreign-nameless doc [] = tt
  foreign-nameless doc (n ∷ ns) = ((refl, refl), next (m.outcome rules n.change doc) (λ d. foreign-nameless d ns))
    where
      next : (r : Result Doc Reason) → ((d : Doc) → Each IsNameless (items_from m rules d (map foreign_step ns)))
          → Each IsNameless (next_items m rules r (λ d. items_from m rules d (map foreign_step ns)))
      next (Ok d) later = later d
      next (Err r) later = tt

  -- the history of a new client stands for others' steps
  history-entered : (client drawn : ℕ) (first doc : Doc) (ns : List (Named C)) → fold m rules first (changes_of (map foreign_step ns)) ≡ Some doc
      → IsHistoryOf m rules client drawn first (map foreign_step ns) new_history
  history-entered client drawn first doc ns e =
      let steps = map foreign_step ns in
      let items = items_from m rules first steps in
      let h : Each IsNameless items = foreign-nameless first ns in
      record {
        remembers = record { gone = steps; kept = []; mid = doc; steps_are = sym (append-nil steps); reaches = e; stand = tt; lacks = tt };
        tidy = record { names_differ = nameless-differ items h; once = nameless-once items h; differ = tt };
        live = tt;
        stand = tt;
        drawn_are = nameless-drawn client drawn items h;
      }

  -- A client that comes at the log's end, where the log has no step of its name, stands to it.
  pub kin-entered : (name version : ℕ) (first doc : Doc) (log : List (Named C)) → m.is_good rules first → AllApply m rules first log doc → version ≡ length log
      → Each (IsForeign name) log → Kin m rules first log (entered_client name version doc)
  kin-entered name version first doc log good applies long foreign =
      let steps = map foreign_step log in
      let t : IsTimeline name steps log = (foreign-timeline name log foreign).0 in
      let none = own_serials-foreign name log foreign in
      record {
        before = log;
        past = [];
        standing = 0;
        log_is = sym (append-nil log);
        version_is = long;
        first_good = good;
        log_applies = (doc, applies);
        base_is = applies;
        doc_is = refl;
        own = tt;
        cursors = tt;
        parted = record { parts = λ s. rw none (omega arith); rise = rw none tt; dropped_rise = tt };
        stands = record { foreign = []; later = []; standing = []; counted = refl; past_is = refl; pending_is = refl; are_foreign = tt };
        timeline = steps;
        timeline_is = subst (IsTimeline name steps) (sym (append-nil log)) t;
        history = history-entered name 0 first doc log (ap (λ cs. fold m rules first cs) (changes-are steps ∙ ap changes_in t.named_are) ∙ applies);
        messages = All-from_recursion _ [] tt;
        answers = All-from_recursion _ [] tt;
      }
