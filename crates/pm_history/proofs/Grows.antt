-- Lemmas: a history goes on standing for its timeline, and what holds of the event that is taken.
use Rattle.std.specs.Prelude.{◌≡◌, ℕ, false, List, [], ◌∷◌, ◌++◌, Some, refl}
use Rattle.std.specs.List.{AllByRecursion as Each}
use Rattle.std.proofs.Common.{sym, ap, subst, ◌∙◌, ⊎_elim, inl, inr, append_assoc}
use Rattle.std.proofs.lemmas.Bool.{true≢false}
use Rattle.pm_change.specs.declared.name.Name.{Name}
use Rattle.pm_change.specs.Changes.{Meaning, Laws, fold}
use Rattle.pm_change.proofs.Folds.{fold-append, fold-good}
use Rattle.pm_history.specs.declared.item.Item.{Item}
use Rattle.pm_history.specs.declared.branch.Event.{Event}
use Rattle.pm_history.specs.declared.branches.Branches.{Branches}
use Rattle.pm_history.specs.declared.turn.Turn.{Turn}
use Rattle.pm_history.specs.declared.turn.Turn.TheVariants.{Undo, Redo, UndoEvent}
use Rattle.pm_history.specs.Items.{same_name, one_step}
use Rattle.pm_history.specs.Histories.{new_history}
use Rattle.pm_history.specs.Turns.{HaveLost, event_for, left_of}
use Rattle.pm_history.specs.Timelines.{Step, changes_of, items_from}
use Rattle.pm_history.specs.Tidy.{NoneUndoes, NoRangeUndoes, Differ, IsTidy}
use Rattle.pm_history.specs.Remembers.{names_of, live_names, Lacks, StandFor, Remembers}
use Rattle.pm_history.specs.Shows.{ShowsTo}
use Rattle.pm_history.specs.Standing.{IsHistoryOf}
use Rattle.pm_history.proofs.Folding.{changes-append}
use Rattle.pm_history.proofs.Keeps.{stand-shows}
use Rattle.pm_history.proofs.Taken.{taken}

pub each-front : {A : Type 0} (P : A → Type 0) (xs ys : List A) → Each P (xs ++ ys) → Each P xs
each-front P [] ys h = tt
each-front P (x ∷ xs) ys h = (h.0, each-front P xs ys h.1)

pub each-back : {A : Type 0} (P : A → Type 0) (xs ys : List A) → Each P (xs ++ ys) → Each P ys
each-back P [] ys h = h
each-back P (x ∷ xs) ys h = each-back P xs ys h.1

pub each-append : {A : Type 0} (P : A → Type 0) (xs ys : List A) → Each P xs → Each P ys → Each P (xs ++ ys)
each-append P [] ys h k = k
each-append P (x ∷ xs) ys h k = (h.0, each-append P xs ys h.1 k)

pub differ-front : (xs ys : List Name) → Differ (xs ++ ys) → Differ xs
differ-front [] ys h = tt
differ-front (x ∷ xs) ys h = (each-front (λ k. same_name x k ≡ false) xs ys h.0, differ-front xs ys h.1)

differ-back : (xs ys : List Name) → Differ (xs ++ ys) → Differ ys
differ-back [] ys h = h
differ-back (x ∷ xs) ys h = differ-back xs ys h.1

pub names-append : (es fs : List Event) → names_of (es ++ fs) ≡ names_of es ++ names_of fs
names-append [] fs = refl
names-append (e ∷ es) fs = ap (λ ns. e.names ++ ns) (names-append es fs) ∙ sym (append_assoc e.names (names_of es) (names_of fs))

-- the names of events, and those of one of them
pub names-lost : (es rest : List Event) (e : Event) (l : HaveLost es e rest) → names_of es ≡ names_of l.front ++ (e.names ++ names_of l.back)
names-lost es rest e l = ap names_of l.old_are ∙ names-append l.front (e ∷ l.back)

-- the names of one of the events are among those of all events
lost-names : (P : Name → Type 0) (es rest : List Event) (e : Event) → HaveLost es e rest → Each P (names_of es) → Each P e.names
lost-names P es rest e l h =
    each-front P e.names (names_of l.back) (each-back P (names_of l.front) (e.names ++ names_of l.back) (subst (Each P) (names-lost es rest e l) h))

lost-differ : (es rest : List Event) (e : Event) → HaveLost es e rest → Differ (names_of es) → Differ e.names
lost-differ es rest e l h =
    differ-front e.names (names_of l.back) (differ-back (names_of l.front) (e.names ++ names_of l.back) (subst Differ (names-lost es rest e l) h))

pub stands-fewer : {C : Type 0} (live ns : List Name) (is js : List (Item C)) → ((P : Name → Type 0) → Each P live → Each P ns) → StandFor live is js → StandFor ns is js
stands-fewer live ns [] [] pick h = tt
stands-fewer live ns [] (j ∷ js) pick h = absurd h
stands-fewer live ns (i ∷ is) [] pick h = absurd h
stands-fewer live ns (i ∷ is) (j ∷ js) pick h = (
  record {
    name_is = h.0.name_is;
    map_is = h.0.map_is;
    undoes_is = h.0.undoes_is;
    inverse_is = ⊎_elim (λ (e : i.inverse ≡ j.inverse). inl e)
        (λ (k : (i.inverse ≡ []) × Each (λ n. one_step (Some n) j.name ≡ false) live). inr (k.0, pick (λ n. one_step (Some n) j.name ≡ false) k.1)) h.0.inverse_is;
  },
  stands-fewer live ns is js pick h.1,
)

-- Where no item undoes a step, none with a range does.
pub none-tied : {C : Type 0} (n : Name) (xs : List (Item C)) → NoneUndoes n xs → NoRangeUndoes (Some n) xs
none-tied n [] h = tt
none-tied n (x ∷ xs) h = ((λ t. absurd (true≢false (sym t ∙ h.0))), none-tied n xs h.1)

none-moves : {C : Type 0} (ns : List Name) (xs : List (Item C)) → Each (λ n. NoneUndoes n xs) ns → Each (λ n. NoRangeUndoes (Some n) xs) ns
none-moves [] xs h = tt
none-moves (n ∷ ns) xs h = (none-tied n xs h.0, none-moves ns xs h.1)

module _ {Rules Doc Reason C : Type 0} (m : Meaning Rules Doc Reason C) (rules : Rules) where
  pub remembers-fewer : (live ns : List Name) (first : Doc) (steps : List (Step C)) (items : List (Item C)) → ((P : Name → Type 0) → Each P live → Each P ns)
      → Remembers m rules live first steps items → Remembers m rules ns first steps items
  remembers-fewer live ns first steps items pick h = record {
    gone = h.gone;
    kept = h.kept;
    mid = h.mid;
    steps_are = h.steps_are;
    reaches = h.reaches;
    stand = stands-fewer live ns items (items_from m rules h.mid h.kept) pick h.stand;
    lacks = pick (Lacks (items_from m rules first h.gone)) h.lacks;
  }

  -- what the undo of an event asks of the history, where its names are among the live ones
  module _ (client drawn : ℕ) (first : Doc) (steps : List (Step C)) (h : Branches C) (s : IsHistoryOf m rules client drawn first steps h) where
    event-remembers : (ns : List Name) → ((P : Name → Type 0) → Each P (live_names h) → Each P ns) → Differ ns
        → Remembers m rules ns first steps h.items × IsTidy (items_from m rules first steps) ns × Each (λ n. NoRangeUndoes (Some n) (items_from m rules first steps)) ns
    event-remembers ns pick differ = (
      remembers-fewer (live_names h) ns first steps h.items pick s.remembers,
      record { names_differ = s.tidy.names_differ; once = s.tidy.once; differ = differ },
      none-moves ns (items_from m rules first steps) (pick (λ n. NoneUndoes n (items_from m rules first steps)) s.live),
    )

    -- an event to undo, and one to redo
    undo-remembers : (rest : List Event) (e : Event) → HaveLost h.undo e rest
        → Remembers m rules e.names first steps h.items × IsTidy (items_from m rules first steps) e.names × Each (λ n. NoRangeUndoes (Some n) (items_from m rules first steps)) e.names
    undo-remembers rest e l =
        event-remembers e.names (λ P k. lost-names P h.undo rest e l (each-front P (names_of h.undo) (names_of h.redo) k))
        (lost-differ h.undo rest e l (differ-front (names_of h.undo) (names_of h.redo) s.tidy.differ))

    redo-remembers : (rest : List Event) (e : Event) → HaveLost h.redo e rest
        → Remembers m rules e.names first steps h.items × IsTidy (items_from m rules first steps) e.names × Each (λ n. NoRangeUndoes (Some n) (items_from m rules first steps)) e.names
    redo-remembers rest e l =
        event-remembers e.names (λ P k. lost-names P h.redo rest e l (each-back P (names_of h.undo) (names_of h.redo) k))
        (lost-differ h.redo rest e l (differ-back (names_of h.undo) (names_of h.redo) s.tidy.differ))

    pub turn-remembers : (turn : Turn) (e : Event) → event_for turn h ≡ Some e
        → Remembers m rules e.names first steps h.items × IsTidy (items_from m rules first steps) e.names × Each (λ n. NoRangeUndoes (Some n) (items_from m rules first steps)) e.names
    turn-remembers Undo e is = undo-remembers (left_of Undo h) e (taken Undo h e is)
    turn-remembers Redo e is = redo-remembers (left_of Redo h) e (taken Redo h e is)
    turn-remembers (UndoEvent k) e is = undo-remembers (left_of (UndoEvent k) h) e (taken (UndoEvent k) h e is)

  pub kept-fold : (live : List Name) (first end : Doc) (steps : List (Step C)) (items : List (Item C)) (h : Remembers m rules live first steps items)
      → fold m rules first (changes_of steps) ≡ Some end → fold m rules h.mid (changes_of h.kept) ≡ Some end
  kept-fold live first end steps items h e =
      sym (ap (λ ss. fold m rules first (changes_of ss)) h.steps_are ∙ ap (fold m rules first) (changes-append h.gone h.kept)
      ∙ fold-append m rules first h.mid (changes_of h.gone) (changes_of h.kept) h.reaches) ∙ e

  -- the items stand for steps that lead to the client's document
  pub history-shows : Laws m → (live : List Name) (first end : Doc) (steps : List (Step C)) (items : List (Item C)) → m.is_good rules first
      → fold m rules first (changes_of steps) ≡ Some end → Remembers m rules live first steps items → ShowsTo m rules items end
  history-shows laws live first end steps items good e h = (
    h.mid,
    fold-good m rules laws first h.mid (changes_of h.gone) good h.reaches,
    stand-shows m rules live h.mid end h.kept items h.stand (kept-fold live first end steps items h e),
  )

  -- a new client's history
  pub history-new : (client : ℕ) (first : Doc) → IsHistoryOf m rules client 0 first [] new_history
  history-new client first = record {
    remembers = record { gone = []; kept = []; mid = first; steps_are = refl; reaches = refl; stand = tt; lacks = tt };
    tidy = record { names_differ = tt; once = tt; differ = tt };
    live = tt;
    stand = tt;
    drawn_are = tt;
  }
