-- A new client that pulls is as one that enters, but for the pull.
use Rattle.std.specs.List.{AllByRecursion as Each}
use Rattle.std.specs.Prelude.{◌≡◌, ℕ, ◌+◌, ◌-◌, ◌==◌, nat_le, if◌then◌else◌, Bool, true, false, List, [], ◌∷◌, length, drop, Result, refl}
use Rattle.std.proofs.Common.{ap, ◌∙◌, arith}
use Rattle.std.proofs.lemmas.Bool.{eqb-true, leb-true}
use Rattle.pm_map.specs.declared.step_map.Span.{Span}
use Rattle.pm_change.specs.Changes.{Meaning}
use Rattle.pm_change.specs.declared.no_step.NoStep.{NoStep}
use Rattle.pm_history.specs.declared.item.Item.{Item}
use Rattle.pm_history.specs.declared.branches.Branches.{Branches}
use Rattle.pm_history.specs.Histories.{new_history, last_items, rebased as rebased_last}
use Rattle.pm_history.specs.Tied.{all_tied}
use Rattle.pm_history.specs.Trims.{trimmed_items}
use Rattle.pm_authority.specs.declared.named.Named.{Named}
use Rattle.pm_authority.specs.declared.authority.Authority.{Authority}
use Rattle.pm_authority.specs.declared.message.Answer.TheVariants.{Entries}
use Rattle.pm_authority.specs.Kept.{IsKept}
use Rattle.pm_authority.specs.Runs.{AllApply}
use Rattle.pm_client.specs.declared.client.Client.{Client}
use Rattle.pm_client.specs.declared.taken.Taken.{Taken}
use Rattle.pm_client.specs.declared.taken.Taken.TheVariants.{Stale, Rebased}
use Rattle.pm_client.specs.Clients.{new_client, entered_client, carried_history, own_run, given, carried, brought, confirmed_first, others_taken, rest_taken, taken}
use Rattle.pm_client.specs.Kins.{IsForeign}
use Rattle.pm_client.specs.Rebases.{maps_of, ranges_of, start}
use Rattle.pm_session.specs.declared.line.Act.TheVariants.{Pull}
use Rattle.pm_session.proofs.Editors.{editor_acts}
use Rattle.pm_versions.specs.Pulled.{with_pull}
use Rattle.pm_versions.proofs.Alikes.{taken-alike}

-- without an event nothing is kept
none-live : {C : Type 0} (is : List (Item C)) → trimmed_items [] is ≡ []
none-live [] = refl
none-live (i ∷ is) = none-live is

fresh-history : {C : Type 0} (ranges : List (List Span)) → carried_history {C = C} new_history (0 - 0) ranges [] ≡ new_history
fresh-history {C = C} ranges =
    let h : Branches C = rebased_last new_history (0 - 0) ranges (all_tied (last_items (0 - 0) []) []) in
    ap (λ (is : List (Item C)). record { items = is; undo = []; redo = []; is_open = false }) (none-live h.items)

otherwise : {A : Type 0} (b : Bool) (x y : A) → b ≡ false → (if b then x else y) ≡ y
otherwise true x y e = absurd (cc)
otherwise false x y e = refl

own-none : {C : Type 0} (i : ℕ) (n : Named C) (ns : List (Named C)) → IsForeign i n → own_run i (n ∷ ns) ≡ 0
own-none i n ns far = otherwise (n.name.client == i) (own_run i ns + 1) 0 (by-test (n.name.client == i) refl)
  where
    by-test : (b : Bool) → (n.name.client == i) ≡ b → (n.name.client == i) ≡ false
    by-test true e = absurd (far (eqb-true n.name.client i e))
    by-test false e = e

is-past : {C : Type 0} (n : Named C) (ns : List (Named C)) → nat_le (0 + length (n ∷ ns)) 0 ≡ false
is-past n ns = by-test (nat_le (0 + length (n ∷ ns)) 0) refl
  where
    by-test : (b : Bool) → nat_le (0 + length (n ∷ ns)) 0 ≡ b → nat_le (0 + length (n ∷ ns)) 0 ≡ false
    by-test true e = absurd (omega (arith, leb-true (0 + length (n ∷ ns)) 0 e))
    by-test false e = e

has-more : {C : Type 0} (n : Named C) (ns : List (Named C)) → (0 == length (n ∷ ns)) ≡ false
has-more n ns = by-test (0 == length (n ∷ ns)) refl
  where
    by-test : (b : Bool) → (0 == length (n ∷ ns)) ≡ b → (0 == length (n ∷ ns)) ≡ false
    by-test true e = absurd (omega (arith, eqb-true 0 (length (n ∷ ns)) e))
    by-test false e = e

module _ {Rules Doc Reason C : Type 0} (m : Meaning Rules Doc Reason C) (rules : Rules) where
  fresh-brought : (i : ℕ) (first base : Doc) (ns : List (Named C))
      → brought m rules (new_client i first) 0 ns base (start m base (maps_of m ns)) ≡ entered_client i (length ns) base
  fresh-brought i first base ns =
      let e : 0 + (0 + length ns) ≡ length ns = omega arith in
      ap (λ v. record (entered_client i v base) { history = carried_history new_history (0 - 0) (ranges_of m ns) [] }) e
      ∙ ap (λ h. record (entered_client i (length ns) base) { history = h }) (fresh-history (ranges_of m ns))

  -- a new client takes the whole log, in which no step is its own
  fresh-taken : (i : ℕ) (first doc : Doc) (log : List (Named C)) → AllApply m rules first log doc → Each (IsForeign i) log
      → (taken m rules (new_client i first) (Entries 0 log)).1 ≡ entered_client i (length log) doc
  fresh-taken i first doc [] applies far = let e : first ≡ doc = cc in ap (λ d. new_client i d) e
  fresh-taken i first doc (n ∷ ns) applies far =
      let c = new_client i first in
      let log = n ∷ ns in
      let next : Doc → Taken × Client C Rules Doc Reason = λ base.
      let r = carried m rules c 0 (drop 0 log) base in
      (Rebased 0 (length log - 0) (length r.dropped), brought m rules c 0 (drop 0 log) base r) in
      ap (λ p. p.1) (otherwise (nat_le (0 + length log) 0) (Stale, c) (rest_taken m rules c log (own_run i log)) (is-past n ns))
      ∙ ap (λ own. (rest_taken m rules c log own).1) (own-none i n ns far.0)
      ∙ ap (λ p. p.1) (otherwise (0 == length log) (confirmed_first m rules c 0) (others_taken m rules c log 0) (has-more n ns))
      ∙ ap (λ o. (given c o next).1) applies ∙ fresh-brought i first doc log

  -- what a new client's pull makes of it, and of the authority
  pub fresh-pulls : {Op : Type 0} (makes : Doc → Op → Result (List C) NoStep) (a : Authority C Rules Doc Reason) (i : ℕ) → IsKept m rules a → Each (IsForeign i) a.log
      → ((editor_acts m rules makes a (Pull false) (new_client i a.first)).1 ≡ a)
      × ((editor_acts m rules makes a (Pull false) (new_client i a.first)).2 ≡ with_pull a.log (entered_client i (length a.log) a.doc))
  fresh-pulls makes a i kept far = (
    refl,
    taken-alike m rules a.log (new_client i a.first) (Entries 0 a.log) ∙ ap (with_pull a.log) (fresh-taken i a.first a.doc a.log kept.folded far),
  )
