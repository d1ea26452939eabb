-- The laws of events.
use Rattle.std.specs.Prelude.{◌≡◌, ℕ, ◌+◌, ◌-◌, ◌&&◌, ◌||◌, not, Bool, true, false, if◌then◌else◌, List, [], ◌∷◌, ◌++◌, length, map, take, drop, Option, Some, None, refl}
use Rattle.std.specs.List.{list_any, filter}
use Rattle.std.proofs.Common.{sym, ap, ◌∙◌, length-append, arith}
use Rattle.std.proofs.lemmas.List.{take_at, drop_at}
use Rattle.std.proofs.lemmas.Bool.{true≢false, eqb-true, eq-eqb, ne_eqb}
use Rattle.pm_change.specs.declared.name.Name.{Name}
use Rattle.pm_history.specs.declared.item.Item.{Item}
use Rattle.pm_history.specs.declared.branch.Event.{Event}
use Rattle.pm_history.specs.declared.branches.Branches.{Branches}
use Rattle.pm_history.specs.declared.branches.MadeBy.TheVariants.{Edit}
use Rattle.pm_map.specs.declared.step_map.Span.{Span}
use Rattle.pm_history.specs.Items.{one_step, foreign_item}
use Rattle.pm_history.specs.Histories.{event_of, extended, put_event, is_number, last_number, without_last, with_event, opens, recorded, holds, is_dropped, still_named, without_dropped, foreign_items, last_items, rebased}
use Rattle.pm_history.specs.EventLaws.{HasNumber, IsOpenFor, IsLastOf, EditsEvents, MovesEvents, any_is, is_off, without_off, RebasesEvents}
use Rattle.pm_history.specs.Turns.{HaveLostNumbered}
use Rattle.pm_history.proofs.Taken.{lost-last, lost-without, none-numbered}

last-number : (rest : List Event) (e : Event) → last_number (rest ++ e ∷ []) ≡ e.number
last-number [] e = refl
last-number (x ∷ []) e = refl
last-number (x ∷ y ∷ ys) e = last-number (y ∷ ys) e

last-gone : (rest : List Event) (e : Event) → without_last (rest ++ e ∷ []) ≡ rest
last-gone [] e = refl
last-gone (x ∷ []) e = refl
last-gone (x ∷ y ∷ ys) e = ap (λ zs. x ∷ zs) (last-gone (y ∷ ys) e)

last-extended : (rest : List Event) (e : Event) (ns : List Name) → extended (rest ++ e ∷ []) ns ≡ rest ++ event_of e.number (e.names ++ ns) ∷ []
last-extended [] e ns = refl
last-extended (x ∷ []) e ns = refl
last-extended (x ∷ y ∷ ys) e ns = ap (λ zs. x ∷ zs) (last-extended (y ∷ ys) e ns)

last-joined : (rest : List Event) (e : Event) (event : Option ℕ) (ns : List Name) → put_event false event (rest ++ e ∷ []) ns ≡ rest ++ event_of e.number (e.names ++ ns) ∷ []
last-joined [] e event ns = refl
last-joined (x ∷ xs) e event ns = last-extended (x ∷ xs) e ns

number-is : (o p : Option ℕ) → is_number o p ≡ true → (k : ℕ) × (o ≡ Some k) × (p ≡ Some k)
number-is None p h = absurd (true≢false (sym h))
number-is (Some k) None h = absurd (true≢false (sym h))
number-is (Some k) (Some j) h = (k, refl, ap Some (sym (eqb-true k j h)))

-- the last event, where it has the edit's number
record Numbered (event : Option ℕ) (es : List Event) : Type 0 where
  rest : List Event
  last : Event
  is : es ≡ rest ++ last ∷ []
  number : HasNumber event last

numbered-none : (event : Option ℕ) → is_number event None ≡ false
numbered-none None = refl
numbered-none (Some k) = refl

numbered-last : (event : Option ℕ) (es : List Event) → is_number event (last_number es) ≡ true → Numbered event es
numbered-last event [] h = absurd (true≢false (sym h ∙ numbered-none event))
numbered-last event (e ∷ []) h = record { rest = []; last = e; is = refl; number = number-is event e.number h }
numbered-last event (e ∷ f ∷ es) h =
    let r = numbered-last event (f ∷ es) h in
    record { rest = e ∷ r.rest; last = r.last; is = ap (λ zs. e ∷ zs) r.is; number = r.number }

both-true : (a b : Bool) → not (a && b) ≡ false → (a ≡ true) × (b ≡ true)
both-true true true h = (refl, refl)
both-true true false h = absurd (true≢false h)
both-true false b h = absurd (true≢false h)

one-more : (es : List Event) (number : Option ℕ) (n : Name) (ns : List Name) → with_event es (event_of number (n ∷ ns)) ≡ es ++ event_of number (n ∷ ns) ∷ []
one-more es number n ns = ap (λ t. if t then es else es ++ event_of number (n ∷ ns) ∷ []) (ne_eqb (length (n ∷ ns)) 0 (λ z. absurd (omega (arith, z))))

module _ {C : Type 0} where
  held-any : (n : Name) (items : List (Item C)) → holds n items ≡ any_is n items
  held-any n [] = refl
  held-any n (i ∷ is) = ap (λ t. one_step (Some n) i.name || t) (held-any n is)

  dropped-off : (gone kept : List (Item C)) (n : Name) → is_dropped gone kept n ≡ is_off gone kept n
  dropped-off gone kept n = ap (λ t. t && not (holds n kept)) (held-any n gone) ∙ ap (λ t. any_is n gone && not t) (held-any n kept)

  still-off : (gone kept : List (Item C)) (ns : List Name) → still_named gone kept ns ≡ filter (λ n. not (is_off gone kept n)) ns
  still-off gone kept [] = refl
  still-off gone kept (n ∷ ns) = from (is_off gone kept n) (dropped-off gone kept n) (still-off gone kept ns)
    where
      from : (t : Bool) → is_dropped gone kept n ≡ t → still_named gone kept ns ≡ filter (λ x. not (is_off gone kept x)) ns
          → (if is_dropped gone kept n then still_named gone kept ns else n ∷ still_named gone kept ns)
          ≡ (if not t then n ∷ filter (λ x. not (is_off gone kept x)) ns else filter (λ x. not (is_off gone kept x)) ns)
      from true q h = ap (λ t. if t then still_named gone kept ns else n ∷ still_named gone kept ns) q ∙ h
      from false q h = ap (λ t. if t then still_named gone kept ns else n ∷ still_named gone kept ns) q ∙ ap (λ l. n ∷ l) h

  events-off : (gone kept : List (Item C)) (es : List Event) → without_dropped gone kept es ≡ map (λ e. without_off gone kept e) es
  events-off gone kept [] = refl
  events-off gone kept (e ∷ es) =
      ap (λ ns. event_of e.number ns ∷ without_dropped gone kept es) (still-off gone kept e.names)
      ∙ ap (λ rest. without_off gone kept e ∷ rest) (events-off gone kept es)

  foreign-map : (foreign : List (List Span)) → foreign_items foreign ≡ map (λ m. foreign_item {C = C} m) foreign
  foreign-map [] = refl
  foreign-map (m ∷ ms) = ap (λ is. foreign_item m ∷ is) (foreign-map ms)

  pub rebased-events : (h : Branches C) (front gone kept : List (Item C)) (foreign : List (List Span)) → h.items ≡ front ++ gone → RebasesEvents h front gone foreign kept
  rebased-events h front gone kept foreign s =
      let n = length-append front gone in
      let at : length front ≡ length h.items - length gone = omega (arith, n, ap length s) in
      let last : last_items (length gone) h.items ≡ gone = ap (λ is. last_items (length gone) is) s ∙ drop_at front gone (length (front ++ gone) - length gone) (omega (arith, n)) in
      record {
        items_are = ap (λ is. is ++ (foreign_items foreign ++ kept)) (ap (take (length h.items - length gone)) s ∙ take_at front gone (length h.items - length gone) at)
            ∙ ap (λ fs. front ++ (fs ++ kept)) (foreign-map foreign);
        open_stays = refl;
        undo_are = ap (λ g. without_dropped g kept h.undo) last ∙ events-off gone kept h.undo;
        redo_are = ap (λ g. without_dropped g kept h.redo) last ∙ events-off gone kept h.redo;
      }

module _ {C : Type 0} (h : Branches C) where
  edit-joins : (event : Option ℕ) (rest : List Event) (e : Event) (n : Name) (ns : List Name) → IsOpenFor h event rest e
      → (recorded h (n ∷ ns) (Edit event true)).undo ≡ rest ++ event_of e.number (e.names ++ n ∷ ns) ∷ []
  edit-joins event rest e n ns o =
      let k = o.number_is in
      let number : is_number event (last_number h.undo) ≡ true =
      ap (λ es. is_number event (last_number es)) o.last ∙ ap (is_number event) (last-number rest e)
      ∙ ap (λ p. is_number p e.number) k.1 ∙ ap (is_number (Some k.0)) k.2 ∙ eq-eqb k.0 k.0 refl in
      let joins : opens h event true ≡ false = ap (λ b. not (b && is_number event (last_number h.undo))) o.open_is ∙ ap not number in
      ap (λ b. put_event b event h.undo (n ∷ ns)) joins ∙ ap (λ es. put_event false event es (n ∷ ns)) o.last ∙ last-joined rest e event (n ∷ ns)

  edit-opens : (event : Option ℕ) (n : Name) (ns : List Name) → ((rest : List Event) (e : Event) → IsOpenFor h event rest e → ⊥)
      → (recorded h (n ∷ ns) (Edit event true)).undo ≡ h.undo ++ event_of event (n ∷ ns) ∷ []
  edit-opens event n ns others = from (opens h event true) refl
    where
      from : (b : Bool) → opens h event true ≡ b → (recorded h (n ∷ ns) (Edit event true)).undo ≡ h.undo ++ event_of event (n ∷ ns) ∷ []
      from true q = ap (λ b. put_event b event h.undo (n ∷ ns)) q
      from false q =
          let p = both-true h.is_open (is_number event (last_number h.undo)) q in
          let l = numbered-last event h.undo p.1 in
          absurd (others l.rest l.last (record { last = l.is; open_is = p.0; number_is = l.number }))

  pub edits-events : EditsEvents h
  edits-events = record {
    joined = edit-joins;
    opened = edit-opens;
    emptied = λ event n ns. (refl, refl);
  }

  -- the last event that has a number
  lost-of : (k : ℕ) (front back : List Event) (e : Event) → IsLastOf h k front back e → HaveLostNumbered k h.undo (Some e) (front ++ back)
  lost-of k front back e s = (
    record { front = front; back = back; old_are = s.undo_are; new_are = refl },
    ap (is_number (Some k)) s.number_is ∙ eq-eqb k k refl,
    none-numbered k back s.none_behind,
  )

  pub moves-events : (items : List (Item C)) → MovesEvents h items
  moves-events items = record {
    left = λ rest e u. (ap without_last u ∙ last-gone rest e, refl);
    moved = λ e n ns q. ap (λ l. with_event h.redo (event_of e.number l)) q ∙ one-more h.redo e.number n ns;
    lost = λ e q. ap (λ l. with_event h.redo (event_of e.number l)) q;
    left_redo = λ rest e u. (ap without_last u ∙ last-gone rest e, refl);
    moved_back = λ e n ns q. ap (λ l. with_event h.undo (event_of e.number l)) q ∙ one-more h.undo e.number n ns;
    lost_redo = λ e q. ap (λ l. with_event h.undo (event_of e.number l)) q;
    taken = λ k front back e s. lost-last k h.undo (front ++ back) e (lost-of k front back e s);
    left_event = λ k front back e s. (sym (lost-without k h.undo (front ++ back) e (lost-of k front back e s)), refl);
    moved_event = λ k e n ns q. ap (λ l. with_event h.redo (event_of e.number l)) q ∙ one-more h.redo e.number n ns;
    lost_event = λ k e q. ap (λ l. with_event h.redo (event_of e.number l)) q;
  }
