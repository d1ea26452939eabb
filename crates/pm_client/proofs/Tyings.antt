-- The steps that an undo makes are tied to the steps of the event, in each timeline for which the history stands.
use Rattle.std.specs.Prelude.{◌≡◌, ℕ, zero, suc, ◌+◌, Bool, true, false, List, [], ◌∷◌, ◌++◌, length, slice_get, Option, Some, None, Result, Ok, Err, IfOk, refl}
use Rattle.std.specs.List.{AllByRecursion as Each}
use Rattle.std.proofs.Common.{sym, ap, ◌∙◌, subst, append_assoc}
use Rattle.pm_change.specs.declared.name.Name.{Name}
use Rattle.pm_change.specs.Changes.{Meaning, fold}
use Rattle.pm_change.proofs.Folds.{fold-cons}
use Rattle.pm_history.specs.declared.item.Item.{Item}
use Rattle.pm_history.specs.declared.branch.Event.{Event}
use Rattle.pm_history.specs.declared.turn.Turn.{Turn}
use Rattle.pm_history.specs.Pairs.{paired}
use Rattle.pm_history.specs.Remembers.{live_names, StandFor}
use Rattle.pm_history.specs.Turns.{event_for}
use Rattle.pm_history.specs.Timelines.{Step, Ties, changes_of, item_at, items_from}
use Rattle.pm_history.specs.Undos.{find, own_item, tried, put, undo_steps, undo_found, undo_event}
use Rattle.pm_history.proofs.Grows.{each-append, kept-fold}
use Rattle.pm_history.proofs.Mades.{made-event}
use Rattle.pm_history.proofs.Rebased.{items-cons}
use Rattle.pm_history.proofs.Ties.{each-map}
use Rattle.pm_authority.specs.declared.named.Named.{Named}
use Rattle.pm_client.specs.declared.client.Client.{Client}
use Rattle.pm_client.specs.Clients.{event_turned, turned_if}
use Rattle.pm_client.specs.Kins.{Kin}
use Rattle.pm_client.specs.Undoings.{UndoesOne, EndsTied, TiesLast}
use Rattle.pm_client.proofs.Keeps.{timeline-applies}

none-some : {A : Type 0} (x : A) → None ≡ Some x → ⊥
none-some x h = cc

-- the item was made to undo a step with one of these names
abbrev IsUndoing : {C : Type 0} → List Name → Item C → Type 0
IsUndoing names i = (k : ℕ) × (n : Name) × (slice_get names k ≡ Some n) × (i.undoes ≡ Some n)

later : {C : Type 0} (n : Name) (names : List Name) (i : Item C) → IsUndoing names i → IsUndoing (n ∷ names) i
later n names i (k, x, at, is) = (suc k, x, at, is)

-- ---- the items that an undo makes

module _ {Rules Doc Reason C : Type 0} (m : Meaning Rules Doc Reason C) (rules : Rules) (client : ℕ) where
  steps-undoing : (names : List Name) (k : ℕ) (n : Name) → slice_get names k ≡ Some n → (bs : List C) (behind : List (Item C)) (doc : Doc) (serial : ℕ)
      → Each (IsUndoing names) (undo_steps m rules client n bs behind doc serial).items
  steps-undoing names k n at [] behind doc serial = tt
  steps-undoing names k n at (b ∷ bs) behind doc serial =
      from (tried m rules client (m.carry b (paired behind)) doc) (λ l d s. steps-undoing names k n at bs l d s)
    where
      from : (o : Option (C × Doc)) → ((l : List (Item C)) (d : Doc) (s : ℕ) → Each (IsUndoing names) (undo_steps m rules client n bs l d s).items)
          → Each (IsUndoing names) (put m rules client o n behind doc serial (λ l d s. undo_steps m rules client n bs l d s)).items
      from None go = go behind doc serial
      from (Some p) go = ((k, n, at, refl), go (behind ++ own_item m rules client doc p.0 serial (Some n) ∷ []) p.1 (serial + 1))

  found-undoing : (names : List Name) (k : ℕ) (n : Name) → slice_get names k ≡ Some n → (o : Option (Item C × List (Item C))) (made : List (Item C)) (doc : Doc) (serial : ℕ)
      → Each (IsUndoing names) (undo_found m rules client n o made doc serial).items
  found-undoing names k n at None made doc serial = tt
  found-undoing names k n at (Some p) made doc serial = steps-undoing names k n at p.0.inverse (p.1 ++ made) doc serial

  event-undoing : (names : List Name) (items : List (Item C)) (doc : Doc) (serial : ℕ) → Each (IsUndoing names) (undo_event m rules client names items doc serial).items
  event-undoing [] items doc serial = tt
  event-undoing (n ∷ names) items doc serial =
      let w = undo_event m rules client names items doc serial in
      let v = undo_found m rules client n (find n items) w.items w.doc w.serial in
      each-append (IsUndoing (n ∷ names)) w.items v.items
      (each-map (IsUndoing names) (IsUndoing (n ∷ names)) w.items (λ i h. later n names i h) (event-undoing names items doc serial))
      (found-undoing (n ∷ names) 0 n refl (find n items) w.items w.doc w.serial)

-- ---- the steps for which they stand

module _ {Rules Doc Reason C : Type 0} (m : Meaning Rules Doc Reason C) (rules : Rules) where
  item-ties : (doc : Doc) (s : Step C) (n : Name) → (item_at m rules doc s).undoes ≡ Some n → Ties n s
  item-ties doc s n h = from s.own refl
    where
      from : (b : Bool) → s.own ≡ b → Ties n s
      from true e = let is : s.undoes ≡ Some n = rw e at h in (e, is)
      from false e = absurd (none-some n (rw e at h))

  module _ (live names : List Name) where
    all-tied : (doc end : Doc) (ss : List (Step C)) (is : List (Item C)) → fold m rules doc (changes_of ss) ≡ Some end → StandFor live is (items_from m rules doc ss)
        → Each (IsUndoing names) is → (length ss ≡ length is) × Each (UndoesOne names) ss
    all-tied doc end [] [] e h u = (refl, tt)
    all-tied doc end [] (i ∷ is) e h u = absurd h
    all-tied doc end (s ∷ ss) is e h u =
        let f = fold-cons m rules doc end s.change (changes_of ss) e in
        from is f.0 f.2 (subst (StandFor live is) (items-cons m rules doc f.0 s ss f.1) h) u (λ d js a b c. all-tied d end ss js a b c)
      where
        from : (is : List (Item C)) (next : Doc) → fold m rules next (changes_of ss) ≡ Some end → StandFor live is (item_at m rules doc s ∷ items_from m rules next ss)
            → Each (IsUndoing names) is
            → ((d : Doc) (js : List (Item C)) → fold m rules d (changes_of ss) ≡ Some end → StandFor live js (items_from m rules d ss) → Each (IsUndoing names) js
            → (length ss ≡ length js) × Each (UndoesOne names) ss)
            → (length (s ∷ ss) ≡ length is) × Each (UndoesOne names) (s ∷ ss)
        from [] next e h u go = absurd h
        from (i ∷ is) next e h u go =
            let rest = go next is e h.1 u.1 in
            let one = u.0 in
            (ap suc rest.0, ((one.0, one.1, one.2, item-ties doc s one.1 (sym h.0.undoes_is ∙ one.3)), rest.1))

    -- the last of them
    last-tied : (doc end : Doc) (ss : List (Step C)) (xs ys : List (Item C)) → fold m rules doc (changes_of ss) ≡ Some end
        → StandFor live (xs ++ ys) (items_from m rules doc ss) → Each (IsUndoing names) ys → EndsTied names (length ys) ss
    last-tied doc end ss [] ys e h u = let t = all-tied doc end ss ys e h u in ([], ss, refl, t.0, t.1)
    last-tied doc end [] (x ∷ xs) ys e h u = absurd h
    last-tied doc end (s ∷ ss) (x ∷ xs) ys e h u =
        let f = fold-cons m rules doc end s.change (changes_of ss) e in
        let r = last-tied f.0 end ss xs ys f.2 (subst (StandFor live ((x ∷ xs) ++ ys)) (items-cons m rules doc f.0 s ss f.1) h).1 u in
        (s ∷ r.0, r.1, ap (λ l. s ∷ l) r.2, r.3, r.4)

  -- Once the event was undone, the last steps of each timeline of the client are tied to steps of the event.
  pub turned-tied : (c : Client C Rules Doc Reason) (turn : Turn) (e : Event) (first : Doc) (log : List (Named C))
      → (kin : Kin m rules first log (event_turned m rules c turn e).1) → EndsTied e.names (event_turned m rules c turn e).0 kin.timeline
  turned-tied c turn e first log kin =
      let d = (event_turned m rules c turn e).1 in
      let w = undo_event m rules c.name e.names c.history.items c.doc (c.serials + 1) in
      let made = made-event m rules c.name e.names c.history.items c.doc (c.serials + 1) in
      let r = kin.history.remembers in
      let applies = kept-fold m rules (live_names d.history) first d.doc kin.timeline d.history.items r (timeline-applies m rules first log d kin) in
      let t = last-tied (live_names d.history) e.names r.mid d.doc r.kept c.history.items w.items applies r.stand (event-undoing m rules c.name e.names c.history.items c.doc (c.serials + 1)) in
      (r.gone ++ t.0, t.1, r.steps_are ∙ ap (λ l. r.gone ++ l) t.2 ∙ sym (append_assoc r.gone t.0 t.1), t.3 ∙ made.as_many, t.4)

  pub turn-tied : {E : Type 0} (c next : Client C Rules Doc Reason) (turn : Turn) (r : Result ℕ E) → IfOk r (λ n. turned_if m rules c turn (event_for turn c.history) ≡ Some (n, next))
      → IfOk r (λ n. (first : Doc) (log : List (Named C)) (kin : Kin m rules first log next) → TiesLast turn c n kin.timeline)
  turn-tied c next turn (Err x) h = tt
  turn-tied c next turn (Ok n) h = λ first log kin e last.
      let some : Some (event_turned m rules c turn e) ≡ Some (n, next) = ap (turned_if m rules c turn) (sym last) ∙ h in
      let is : event_turned m rules c turn e ≡ (n, next) = cc in
      subst (λ (q : ℕ × Client C Rules Doc Reason). (k : Kin m rules first log q.1) → EndsTied e.names q.0 k.timeline) is (turned-tied c turn e first log) kin
