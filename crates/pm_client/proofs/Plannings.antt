-- A plan for the answer of a number.
use Rattle.std.proofs.Common.{◌≡◌, ℕ, ◌+◌, ◌-◌, ◌≤◌, ◌<◌, ◌==◌, if◌then◌else◌, Bool, true, false, List, Vec, length, length-drop, drop, Some, slice_index_or, sym, ap, ◌∙◌, subst, refl}
use Rattle.std.specs.Prelude.{Result, Ok, Err, IfOk, OnOk, OnErr}
use Rattle.std.proofs.lemmas.Bool.{eqb-true}
use Rattle.std.proofs.lemmas.List.{length-map}
use Rattle.std.specs.declared.alloc.Global.{Global}
use Rattle.pm_map.specs.declared.step_map.Span.{Span}
use Rattle.pm_change.specs.Changes.{Meaning}
use Rattle.pm_authority.specs.declared.named.Named.{Named}
use Rattle.pm_authority.specs.Runs.{AllApply}
use Rattle.pm_client.specs.declared.plan.Plan.TheVariants.{Rebase}
use Rattle.pm_client.specs.declared.rebasing.Rebaser.{Rebaser}
use Rattle.pm_client.specs.declared.taken.Taken.TheVariants.{Rebased}
use Rattle.pm_client.specs.Rebasables.{CanRebaseOver}
use Rattle.pm_client.specs.Rebasers.{IsAt}
use Rattle.pm_client.specs.Clients.{own_run, carried, carried_history, confirmed_first, others_taken, rest_taken}
use Rattle.pm_client.specs.declared.cursors.Cursor.{Cursor}
use Rattle.pm_client.specs.Cursors.{moved_over}
use Rattle.pm_client.specs.Serials.{merged}
use Rattle.pm_authority.specs.declared.message.Answer.{Answer}
use Rattle.pm_client.specs.declared.client.Client.{Client}
use Rattle.pm_client.specs.Clients.{answer_at}
use Rattle.pm_client.specs.Rebases.{Rebasing, maps_of, ranges_of, start, rebased}
use Rattle.pm_client.specs.Kins.{Stands}
use Rattle.pm_client.specs.Plans.{Meets, carried_out}
use Rattle.pm_client.proofs.Takings.{index-get, answer-stands}

-- the answer that was read is that of the number
pub found : {Rules Doc Reason C : Type 0} (c : Client C Rules Doc Reason) (i : ℕ) (xs : List (Answer C Rules Doc Reason)) (a : Answer C Rules Doc Reason)
    → xs ≡ c.answers → a ≡ slice_index_or xs (i - 1) a → i - 1 < length c.answers → answer_at c i ≡ Some a
found c i xs a same read within =
    index-get c.answers (i - 1) a within ∙ ap Some (sym (read ∙ ap (λ l. slice_index_or l (i - 1) a) same))

-- a client that stands to some log meets its kept answers
pub meets-found : {Rules Doc Reason C : Type 0} (m : Meaning Rules Doc Reason C) (rules : Rules) (c : Client C Rules Doc Reason) (i : ℕ) (a : Answer C Rules Doc Reason)
    → Stands m rules c → answer_at c i ≡ Some a → Meets m rules c a
meets-found m rules c i a h is = record {
  first = h.first;
  log = h.log;
  short = h.short;
  kin = h.kin;
  stands = answer-stands m rules h.first h.log c h.kin i a is;
}

pub meets-along : {Rules Doc Reason C : Type 0} (m : Meaning Rules Doc Reason C) (rules : Rules) (c : Client C Rules Doc Reason) (a b : Answer C Rules Doc Reason)
    → a ≡ b → Meets m rules c a → Meets m rules c b
meets-along m rules c a b e h = subst (λ x. Meets m rules c x) e h

-- the later pending steps were carried over others' entries
pub carried-at : {Rules Doc Reason C : Type 0} (m : Meaning Rules Doc Reason C) (rules : Rules) (c : Client C Rules Doc Reason) (rest foreign later : List (Named C)) (own : ℕ) (base : Doc)
    (r : Rebaser C Rules Doc Reason) → ((end : Doc) → CanRebaseOver m rules base foreign later end → IsAt m r (rebased m rules (start m base (maps_of m foreign)) later) (m.size end))
    → foreign ≡ drop own rest → later ≡ drop own c.pending → CanRebaseOver m rules base (drop own rest) (drop own c.pending) c.doc
    → IsAt m r (carried m rules c own (drop own rest) base) (m.size c.doc)
carried-at m rules c rest foreign later own base r at f l can = (rw (f, l) at at) c.doc can

-- the plan that carries the later pending steps over others' entries
pub plan-is : {Rules Doc Reason C : Type 0} (m : Meaning Rules Doc Reason C) (rules : Rules) (c : Client C Rules Doc Reason) (rest : List (Named C)) (own : ℕ) (foreign : Vec (List Span) Global) (base : Doc)
    (r : Rebaser C Rules Doc Reason) (dropped : List ℕ) (cursors : List Cursor) → own ≡ own_run c.name rest → own ≤ length rest → (own ≡ length rest → ⊥)
    → AllApply m rules c.base rest base → foreign.items ≡ ranges_of m (drop own rest) → IsAt m r (carried m rules c own (drop own rest) base) (m.size c.doc) → dropped ≡ merged c.dropped r.dropped
    → cursors ≡ moved_over (carried m rules c own (drop own rest) base).maps c.cursors
    → carried_out c (Rebase own foreign base r dropped cursors) ≡ rest_taken m rules c rest (own_run c.name rest)
plan-is {Rules} {Doc} {Reason} {C} m rules c rest own foreign base r dropped cursors own_is within more applies foreign_are at dropped_is cursors_are = rw (← own_is) (by-test (own == length rest) refl)
  where
    others : length foreign.items ≡ length (drop own rest)
    others = ap length foreign_are ∙ length-map (drop own rest) (λ n. m.step_map n.change)

    count : length (drop own rest) ≡ length rest - own
    count = length-drop own rest

    lost_are : dropped ≡ merged c.dropped (carried m rules c own (drop own rest) base).dropped
    lost_are = dropped_is ∙ ap (λ (s : Rebasing C Rules Doc Reason). merged c.dropped s.dropped) at.same

    by-test : (b : Bool) → (own == length rest) ≡ b
        → carried_out c (Rebase own foreign base r dropped cursors) ≡ (if b then confirmed_first m rules c own else others_taken m rules c rest own)
    by-test true e = absurd (more (eqb-true own (length rest) e))
    by-test false e =
        ap (λ (s : Rebasing C Rules Doc Reason). (
          Rebased own (length foreign.items) (length s.dropped),
          record c {
            version = c.version + (own + length foreign.items);
            base = base;
            doc = s.doc;
            pending = s.kept;
            dropped = dropped;
            cursors = cursors;
            history = carried_history c.history (length c.pending - own) foreign.items s.items;
          },
        )) at.same ∙ rw (applies, lost_are, cursors_are, others, foreign_are, count) refl

-- It was done, or memory ran out and nothing changed. What holds in both cases holds.
pub either-way : {T E A : Type 0} (P : A → Type 0) (Q : T → Type 0) (r : Result T E) (old new : A) → IfOk r Q → OnErr r (new ≡ old) → P old → ((t : T) → Q t → P new) → P new
either-way P Q (Ok t) old new h k a b = b t h
either-way P Q (Err x) old new h k a b = subst P (sym k) a

-- what holds once it was done
pub on-way : {T E P : Type 0} (Q : T → Type 0) (r : Result T E) → IfOk r Q → ((t : T) → Q t → P) → OnOk r P
on-way Q (Ok t) h b = b t h
on-way Q (Err x) h b = tt
