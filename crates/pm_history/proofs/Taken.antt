-- Lemmas: the event that is taken, and the events that are left in its branch.
use Rattle.std.specs.Prelude.{◌≡◌, ◌≢◌, ℕ, zero, suc, ◌+◌, ◌<◌, ◌||◌, Bool, true, false, if◌then◌else◌, List, [], ◌∷◌, ◌++◌, length, take, drop, get_or, Option, Some, None, is_some, refl}
use Rattle.std.specs.List.{AllByRecursion as Each}
use Rattle.std.proofs.Common.{sym, ap, subst, ◌∙◌, append-nil}
use Rattle.std.specs.Option.{IsSome}
use Rattle.std.proofs.lemmas.Bool.{true≢false, eqb-true}
use Rattle.std.proofs.lemmas.List.{drop_more, take-append-drop}
use Rattle.pm_history.specs.declared.branch.Event.{Event}
use Rattle.pm_history.specs.declared.branches.Branches.{Branches}
use Rattle.pm_history.specs.declared.turn.Turn.{Turn}
use Rattle.pm_history.specs.declared.turn.Turn.TheVariants.{Undo, Redo, UndoEvent}
use Rattle.pm_history.specs.Histories.{is_number, last_event, without_last}
use Rattle.pm_history.specs.Turns.{has_number, any_numbered, last_numbered, without_numbered, HaveLost, HaveLostNumbered, IsPopped, event_for, branch_of, left_of}

or-later : (a b : Bool) → b ≡ true → (a || b) ≡ true
or-later true b h = refl
or-later false b h = h

or-first : (a b : Bool) → b ≡ false → (a || b) ≡ a
or-first true b h = refl
or-first false b h = h

-- where one of the events from a place on has the number, one of all has it
pub any-later : (k i : ℕ) (es : List Event) → any_numbered k (drop i es) ≡ true → any_numbered k es ≡ true
any-later k zero es h = h
any-later k (suc i) [] h = h
any-later k (suc i) (e ∷ es) h = or-later (has_number k e) (any_numbered k es) (any-later k i es h)

module _ (k : ℕ) where
  -- The event that stands at a place is the last one that has the number, where one of the events from there on has it, and none
  -- of those after it.
  pub lost-at : (es : List Event) (i : ℕ) (e : Event) → i < length es → e ≡ get_or es i e → any_numbered k (drop i es) ≡ true → any_numbered k (drop (i + 1) es) ≡ false
      → HaveLostNumbered k es (Some e) (take i es ++ drop (i + 1) es)
  lost-at es i e l at some none =
      let here : drop i es ≡ e ∷ drop (i + 1) es = drop_more es i e l ∙ ap (λ x. x ∷ drop (i + 1) es) (sym at) in (
        record { front = take i es; back = drop (i + 1) es; old_are = sym (take-append-drop i es) ∙ ap (λ l. take i es ++ l) here; new_are = refl },
        sym (or-first (has_number k e) (any_numbered k (drop (i + 1) es)) none) ∙ ap (any_numbered k) (sym here) ∙ some,
        none,
      )

  -- one more event before those that are known not to have the number
  pub none-next : (es : List Event) (i : ℕ) (e : Event) → i < length es → e ≡ get_or es i e → has_number k e ≡ false → any_numbered k (drop i es) ≡ any_numbered k (drop (i + 1) es)
  none-next es i e l at f = ap (any_numbered k) (drop_more es i e l ∙ ap (λ x. x ∷ drop (i + 1) es) (sym at)) ∙ ap (λ t. t || any_numbered k (drop (i + 1) es)) f

  pub some-next : (es : List Event) (i : ℕ) (e : Event) → i < length es → e ≡ get_or es i e → has_number k e ≡ true → any_numbered k (drop i es) ≡ true
  some-next es i e l at t = ap (any_numbered k) (drop_more es i e l ∙ ap (λ x. x ∷ drop (i + 1) es) (sym at)) ∙ ap (λ b. b || any_numbered k (drop (i + 1) es)) t

  any-append : (front back : List Event) (e : Event) → has_number k e ≡ true → any_numbered k (front ++ e ∷ back) ≡ true
  any-append [] back e h = ap (λ t. t || any_numbered k back) h
  any-append (x ∷ xs) back e h = or-later (has_number k x) (any_numbered k (xs ++ e ∷ back)) (any-append xs back e h)

  last-between : (front back : List Event) (e : Event) → has_number k e ≡ true → any_numbered k back ≡ false → last_numbered k (front ++ e ∷ back) ≡ Some e
  last-between [] back e h none = ap (λ t. if t then last_numbered k back else (if has_number k e then Some e else None)) none ∙ ap (λ t. if t then Some e else None) h
  last-between (x ∷ xs) back e h none =
      ap (λ t. if t then last_numbered k (xs ++ e ∷ back) else (if has_number k x then Some x else None)) (any-append xs back e h) ∙ last-between xs back e h none

  without-between : (front back : List Event) (e : Event) → has_number k e ≡ true → any_numbered k back ≡ false → without_numbered k (front ++ e ∷ back) ≡ front ++ back
  without-between [] back e h none =
      ap (λ t. if t then e ∷ without_numbered k back else (if has_number k e then back else e ∷ back)) none ∙ ap (λ t. if t then back else e ∷ back) h
  without-between (x ∷ xs) back e h none =
      ap (λ t. if t then x ∷ without_numbered k (xs ++ e ∷ back) else (if has_number k x then xs ++ e ∷ back else x ∷ (xs ++ e ∷ back))) (any-append xs back e h)
      ∙ ap (λ l. x ∷ l) (without-between xs back e h none)

  -- what was taken is the last event that has the number
  pub lost-last : (es rest : List Event) (e : Event) → HaveLostNumbered k es (Some e) rest → last_numbered k es ≡ Some e
  lost-last es rest e h = ap (last_numbered k) h.0.old_are ∙ last-between h.0.front h.0.back e h.1 h.2

  -- and what is left are the events without it
  pub lost-without : (es rest : List Event) (e : Event) → HaveLostNumbered k es (Some e) rest → rest ≡ without_numbered k es
  lost-without es rest e h = h.0.new_are ∙ sym (ap (without_numbered k) h.0.old_are ∙ without-between h.0.front h.0.back e h.1 h.2)

  pub none-last : (es : List Event) → any_numbered k es ≡ false → last_numbered k es ≡ None
  none-last [] h = refl
  none-last (e ∷ es) h = from (has_number k e) (any_numbered k es) refl refl h
    where
      from : (a b : Bool) → has_number k e ≡ a → any_numbered k es ≡ b → (a || b) ≡ false → last_numbered k (e ∷ es) ≡ None
      from true b p q h = absurd (true≢false h)
      from false true p q h = absurd (true≢false h)
      from false false p q h =
          ap (λ t. if t then last_numbered k es else (if has_number k e then Some e else None)) q ∙ ap (λ t. if t then Some e else None) p

  pub none-without : (es : List Event) → any_numbered k es ≡ false → without_numbered k es ≡ es
  none-without [] h = refl
  none-without (e ∷ es) h = from (has_number k e) (any_numbered k es) refl refl h
    where
      from : (a b : Bool) → has_number k e ≡ a → any_numbered k es ≡ b → (a || b) ≡ false → without_numbered k (e ∷ es) ≡ e ∷ es
      from true b p q h = absurd (true≢false h)
      from false true p q h = absurd (true≢false h)
      from false false p q h =
          ap (λ t. if t then e ∷ without_numbered k es else (if has_number k e then es else e ∷ es)) q ∙ ap (λ t. if t then es else e ∷ es) p

  pub lost-any : (es rest : List Event) (o : Option Event) → HaveLostNumbered k es o rest → rest ≡ without_numbered k es
  lost-any es rest None h = h.1 ∙ sym (none-without es h.0)
  lost-any es rest (Some e) h = lost-without es rest e h

  -- the last event that has the number stands so
  pub lost-for : (es : List Event) (e : Event) → last_numbered k es ≡ Some e → HaveLostNumbered k es (Some e) (without_numbered k es)
  lost-for [] e h = absurd (cc)
  lost-for (x ∷ xs) e h = from (any_numbered k xs) (has_number k x) refl refl (λ later. lost-for xs e later)
    where
      from : (a b : Bool) → any_numbered k xs ≡ a → has_number k x ≡ b → (last_numbered k xs ≡ Some e → HaveLostNumbered k xs (Some e) (without_numbered k xs))
          → HaveLostNumbered k (x ∷ xs) (Some e) (without_numbered k (x ∷ xs))
      from true b p q go =
          let later : last_numbered k xs ≡ Some e = sym (ap (λ t. if t then last_numbered k xs else (if has_number k x then Some x else None)) p) ∙ h in
          let rest : without_numbered k (x ∷ xs) ≡ x ∷ without_numbered k xs =
          ap (λ t. if t then x ∷ without_numbered k xs else (if has_number k x then xs else x ∷ xs)) p in
          let r = go later in (
            record {
              front = x ∷ r.0.front;
              back = r.0.back;
              old_are = ap (λ l. x ∷ l) r.0.old_are;
              new_are = rest ∙ ap (λ l. x ∷ l) r.0.new_are;
            },
            r.1,
            r.2,
          )
      from false true p q go =
          let here : Some x ≡ Some e =
          sym (ap (λ t. if t then last_numbered k xs else (if has_number k x then Some x else None)) p ∙ ap (λ t. if t then Some x else None) q) ∙ h in
          let same : x ≡ e = cc in
          let rest : without_numbered k (x ∷ xs) ≡ xs =
          ap (λ t. if t then x ∷ without_numbered k xs else (if has_number k x then xs else x ∷ xs)) p ∙ ap (λ t. if t then xs else x ∷ xs) q in
          (record { front = []; back = xs; old_are = ap (λ y. y ∷ xs) same; new_are = rest }, ap (has_number k) (sym same) ∙ q, p)
      from false false p q go =
          let none : None ≡ Some e =
          sym (ap (λ t. if t then last_numbered k xs else (if has_number k x then Some x else None)) p ∙ ap (λ t. if t then Some x else None) q) ∙ h in
          absurd (cc)

  some-last : (es : List Event) → any_numbered k es ≡ true → last_numbered k es ≡ None → ⊥
  some-last [] a n = true≢false (sym a)
  some-last (x ∷ xs) a n = on (any_numbered k xs) (has_number k x) refl refl (λ p l. some-last xs p l)
    where
      on : (s t : Bool) → any_numbered k xs ≡ s → has_number k x ≡ t → (any_numbered k xs ≡ true → last_numbered k xs ≡ None → ⊥) → ⊥
      on true t p q go = go p (sym (ap (λ b. if b then last_numbered k xs else (if has_number k x then Some x else None)) p) ∙ n)
      on false true p q go =
          let none : Some x ≡ None =
          sym (ap (λ b. if b then last_numbered k xs else (if has_number k x then Some x else None)) p ∙ ap (λ b. if b then Some x else None) q) ∙ n in
          absurd (cc)
      on false false p q go = true≢false (sym a ∙ ap (λ b. b || any_numbered k xs) q ∙ p)

  -- none has the number exactly where there is no last one
  pub last-none : (es : List Event) → last_numbered k es ≡ None → any_numbered k es ≡ false
  last-none es h = from (any_numbered k es) refl
    where
      from : (t : Bool) → any_numbered k es ≡ t → any_numbered k es ≡ false
      from true e = absurd (some-last es e h)
      from false e = e

  -- and one has it exactly where there is
  pub some-both : (es : List Event) → (any_numbered k es ≡ true → IsSome (last_numbered k es)) × (IsSome (last_numbered k es) → any_numbered k es ≡ true)
  some-both es = (λ a. some (last_numbered k es) refl a, λ s. any (any_numbered k es) refl s)
    where
      some : (o : Option Event) → last_numbered k es ≡ o → any_numbered k es ≡ true → IsSome (last_numbered k es)
      some None e a = absurd (some-last es a e)
      some (Some x) e a = subst IsSome (sym e) refl

      any : (t : Bool) → any_numbered k es ≡ t → IsSome (last_numbered k es) → any_numbered k es ≡ true
      any true e s = e
      any false e s = absurd (true≢false (sym (subst IsSome (none-last es e) s)))

  -- events that have other numbers or none
  pub none-numbered : (es : List Event) → Each (λ f. f.number ≢ Some k) es → any_numbered k es ≡ false
  none-numbered [] h = refl
  none-numbered (e ∷ es) h = ap (λ t. t || any_numbered k es) (other e.number h.0) ∙ none-numbered es h.1
    where
      other : (o : Option ℕ) → o ≢ Some k → is_number (Some k) o ≡ false
      other None n = refl
      other (Some j) n = on (is_number (Some k) (Some j)) refl
        where
          on : (t : Bool) → is_number (Some k) (Some j) ≡ t → is_number (Some k) (Some j) ≡ false
          on true e = absurd (n (ap Some (sym (eqb-true k j e))))
          on false e = e

-- the last event that has the number was taken, and the open event closed where there was one
pub popped : {C : Type 0} (k : ℕ) (old new : Branches C) (o : Option Event) → HaveLostNumbered k old.undo o new.undo → new.redo ≡ old.redo → new.items ≡ old.items
    → (is_some o ≡ true → new.is_open ≡ false) → (is_some o ≡ false → new.is_open ≡ old.is_open) → IsPopped (UndoEvent k) old o new
popped k old new (Some e) lost redo items closes stays = (lost, redo, items, closes refl)
popped k old new None lost redo items closes stays = (
  lost.0,
  ap (λ es. record new { undo = es }) lost.1 ∙ ap (λ es. record old { items = new.items; redo = es; is_open = new.is_open }) redo
      ∙ ap (λ is. record old { items = is; is_open = new.is_open }) items ∙ ap (λ b. record old { is_open = b }) (stays refl),
)

-- events whose last one is this
last-split : (es : List Event) (e : Event) → last_event es ≡ Some e → es ≡ without_last es ++ e ∷ []
last-split [] e h = absurd (cc)
last-split (f ∷ []) e h = let same : f ≡ e = cc in ap (λ x. x ∷ []) same
last-split (f ∷ g ∷ es) e h = ap (λ l. f ∷ l) (last-split (g ∷ es) e h)

pub lost-end : (es : List Event) (e : Event) → last_event es ≡ Some e → HaveLost es e (without_last es)
lost-end es e h = record { front = without_last es; back = []; old_are = last-split es e h; new_are = sym (append-nil (without_last es)) }

-- The branch loses the event that is taken.
pub taken : {C : Type 0} (turn : Turn) (h : Branches C) (e : Event) → event_for turn h ≡ Some e → HaveLost (branch_of turn h) e (left_of turn h)
taken Undo h e is = lost-end h.undo e is
taken Redo h e is = lost-end h.redo e is
taken (UndoEvent k) h e is = (lost-for k h.undo e is).0

-- there is a last event exactly where there is one
pub last-empty : (es : List Event) → (last_event es ≡ None → es ≡ []) × (es ≡ [] → last_event es ≡ None)
last-empty [] = (λ _. refl, λ _. refl)
last-empty (e ∷ es) = (λ h. absurd (some e es h), λ h. absurd (cc))
  where
    some : (e : Event) (es : List Event) → last_event (e ∷ es) ≡ None → ⊥
    some e [] h = cc
    some e (f ∷ es) h = some f es h
