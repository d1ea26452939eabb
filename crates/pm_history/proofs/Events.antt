-- Events: the last of them, and steps that leave them.
use Rattle.std.proofs.Common.{◌≡◌, ℕ, zero, suc, ◌+◌, ◌-◌, ◌<◌, ◌&&◌, ◌||◌, not, Bool, true, false, if◌then◌else◌, List, [], ◌∷◌, ◌++◌, length, drop, take, get_or, set, Option, Some, None, refl, ap, sym, ◌∙◌, arith}
use Rattle.std.specs.Prelude.{Result, Ok, Err, OnOk}
use Rattle.std.proofs.lemmas.Bool.{and_parts, eqb-true, true≢false}
use Rattle.pm_change.specs.declared.name.Name.{Name}
use Rattle.pm_map.specs.declared.step_map.Span.{Span}
use Rattle.pm_map.specs.declared.mapping.Mirrored.{Mirrored}
use Rattle.pm_history.specs.declared.item.Item.{Item}
use Rattle.pm_history.specs.declared.branch.Event.{Event}
use Rattle.pm_history.specs.declared.branches.Branches.{Branches}
use Rattle.pm_history.specs.Items.{same_name, one_step}
use Rattle.pm_history.specs.Pairs.{paired}
use Rattle.pm_history.specs.Undos.{find}
use Rattle.pm_history.specs.Tries.{first_of, item_from}
use Rattle.pm_history.specs.Histories.{last_event, event_of, extended, last_number, without_last, holds, is_dropped, still_named, without_dropped, last_items, rebased, later_of}
use Rattle.pm_history.specs.Drops.{is_lost, any_dropped, replaced}

-- the last event
pub extended-at : (es : List Event) (k : ℕ) (e : Event) (ns names : List Name) → k + 1 ≡ length es → e ≡ get_or es k e → names ≡ e.names ++ ns
    → set es k (event_of e.number names) ≡ extended es ns
extended-at [] k e ns names l g n = absurd (omega (arith, l))
extended-at (x ∷ []) zero e ns names l g n = ap (λ xs. event_of e.number xs ∷ []) n ∙ ap (λ (y : Event). event_of y.number (y.names ++ ns) ∷ []) g
extended-at (x ∷ []) (suc k) e ns names l g n = absurd (omega (arith, l))
extended-at (x ∷ y ∷ es) zero e ns names l g n = absurd (omega (arith, l))
extended-at (x ∷ y ∷ es) (suc k) e ns names l g n = ap (λ xs. x ∷ xs) (extended-at (y ∷ es) k e ns names (omega (arith, l)) g n)

-- the last event
pub event-at : (es : List Event) (k : ℕ) (e : Event) → k + 1 ≡ length es → e ≡ get_or es k e → last_event es ≡ Some e
event-at [] k e l h = absurd (omega (arith, l))
event-at (f ∷ []) zero e l h = ap Some (sym h)
event-at (f ∷ []) (suc k) e l h = absurd (omega (arith, l))
event-at (f ∷ g ∷ es) zero e l h = absurd (omega (arith, l))
event-at (f ∷ g ∷ es) (suc k) e l h = event-at (g ∷ es) k e (omega (arith, l)) h

pub last-at : (es : List Event) (k : ℕ) (e : Event) → k + 1 ≡ length es → e ≡ get_or es k e → e.number ≡ last_number es
last-at [] k e l g = absurd (omega (arith, l))
last-at (x ∷ []) zero e l g = ap (λ (y : Event). y.number) g
last-at (x ∷ []) (suc k) e l g = absurd (omega (arith, l))
last-at (x ∷ y ∷ es) zero e l g = absurd (omega (arith, l))
last-at (x ∷ y ∷ es) (suc k) e l g = last-at (y ∷ es) k e (omega (arith, l)) g

pub last-off : (es : List Event) → take (length es - 1) es ≡ without_last es
last-off [] = refl
last-off (x ∷ []) = refl
last-off (x ∷ y ∷ es) = ap (λ k. take k (x ∷ y ∷ es)) (less (length es)) ∙ ap (λ xs. x ∷ xs) (last-off (y ∷ es))
  where
    less : (n : ℕ) → suc (suc n) - 1 ≡ suc (suc n - 1)
    less n = omega arith

pub one-name : (a b : Name) → same_name a b ≡ true → a ≡ b
one-name a b h =
    let p = and_parts _ _ h in
    ap (λ c. record { client = c; serial = a.serial }) (eqb-true a.client b.client p.0) ∙ ap (λ s. record { client = b.client; serial = s }) (eqb-true a.serial b.serial p.1)

or-none : (a b : Bool) → (a || b) ≡ false → (a ≡ false) × (b ≡ false)
or-none true b h = absurd (true≢false h)
or-none false b h = (refl, h)

or-right : (a b : Bool) → a ≡ false → (a || b) ≡ true → b ≡ true
or-right true b e h = absurd (true≢false e)
or-right false b e h = h

not-false : (a : Bool) → not a ≡ false → a ≡ true
not-false true h = refl
not-false false h = absurd (true≢false h)

module _ {C : Type 0} where
  -- where no step was dropped, a step that is gone was kept
  was-kept : (gone kept : List (Item C)) (n : Name) → any_dropped gone kept ≡ false → holds n gone ≡ true → holds n kept ≡ true
  was-kept [] kept n h g = absurd (true≢false (sym g))
  was-kept (i ∷ is) kept n h g =
      let none = or-none (is_lost i.name kept) (any_dropped is kept) h in
      from i.name none.0 (λ e. was-kept is kept n none.1 (or-right (one_step (Some n) i.name) (holds n is) e g)) refl
    where
      from : (o : Option Name) → is_lost o kept ≡ false → (one_step (Some n) i.name ≡ false → holds n kept ≡ true) → i.name ≡ o → holds n kept ≡ true
      from None lost go e = go (ap (one_step (Some n)) e)
      from (Some k) lost go e = at (same_name n k) refl
        where
          at : (t : Bool) → same_name n k ≡ t → holds n kept ≡ true
          at true s = ap (λ x. holds x kept) (one-name n k s) ∙ not-false (holds k kept) lost
          at false s = go (ap (one_step (Some n)) e ∙ s)

  none-dropped : (gone kept : List (Item C)) (n : Name) → any_dropped gone kept ≡ false → is_dropped gone kept n ≡ false
  none-dropped gone kept n h = from (holds n gone) refl
    where
      from : (t : Bool) → holds n gone ≡ t → (t && not (holds n kept)) ≡ false
      from true e = ap not (was-kept gone kept n h e)
      from false e = refl

  names-stay : (gone kept : List (Item C)) (ns : List Name) → any_dropped gone kept ≡ false → still_named gone kept ns ≡ ns
  names-stay gone kept [] h = refl
  names-stay gone kept (n ∷ ns) h =
      ap (λ t. if t then still_named gone kept ns else n ∷ still_named gone kept ns) (none-dropped gone kept n h) ∙ ap (λ ks. n ∷ ks) (names-stay gone kept ns h)

  events-stay : (gone kept : List (Item C)) (es : List Event) → any_dropped gone kept ≡ false → without_dropped gone kept es ≡ es
  events-stay gone kept [] h = refl
  events-stay gone kept (e ∷ es) h =
      ap (λ ns. event_of e.number ns ∷ without_dropped gone kept es) (names-stay gone kept e.names h) ∙ ap (λ xs. e ∷ xs) (events-stay gone kept es h)

  -- then all events stay as they are
  pub replaced-rebased : (h : Branches C) (count at : ℕ) (foreign : List (List Span)) (kept same its out : List (Item C)) → its ≡ h.items → at ≡ length h.items - count
      → out ≡ drop at its → same ≡ kept → any_dropped out same ≡ false → replaced h at foreign kept ≡ rebased h count foreign kept
  replaced-rebased h count at foreign kept same its out i a o s none =
      let gone = last_items count h.items in
      let g : out ≡ gone = o ∙ ap (drop at) i ∙ ap (λ k. drop k h.items) a in
      let known : any_dropped gone kept ≡ false = sym (ap (λ x. any_dropped x same) g ∙ ap (any_dropped gone) s) ∙ none in
      let k : ℕ = length h.items - count in
      ap (λ j. replaced h j foreign kept) a
      ∙ ap (λ es. record (replaced h k foreign kept) { undo = es }) (sym (events-stay gone kept h.undo known))
      ∙ ap (λ es. record (rebased h count foreign kept) { redo = es }) (sym (events-stay gone kept h.redo known))

  later-drop : (items : List (Item C)) (k : ℕ) → k < length items → later_of (first_of (drop k items)) ≡ Some (paired (drop (k + 1) items))
  later-drop [] k l = absurd (omega (arith, l))
  later-drop (x ∷ xs) zero l = ap (λ j. Some (paired (drop j (x ∷ xs)))) one
    where
      one : suc 0 ≡ 0 + 1
      one = omega arith
  later-drop (x ∷ xs) (suc k) l = later-drop xs k (omega (arith, l)) ∙ ap (λ j. Some (paired (drop j (x ∷ xs)))) (two k)
    where
      two : (k : ℕ) → suc (k + 1) ≡ suc k + 1
      two k = omega arith

  -- the maps after the item that was found
  pub later-at : (n : Name) (items its : List (Item C)) (o : Option ℕ) (k : ℕ) (ms : List Mirrored) → find n its ≡ item_from its o → o ≡ Some k → k < length its
      → ms ≡ paired (drop (k + 1) its) → its ≡ items → Some ms ≡ later_of (find n items)
  later-at n items its o k ms f s l e same =
      ap (λ x. Some x) e ∙ sym (later-drop its k l) ∙ sym (ap (λ x. later_of x) (f ∙ ap (λ x. item_from its x) s)) ∙ ap (λ is. later_of (find n is)) same

-- what follows on success
pub on-ok : {A E : Type 0} (r : Result A E) (P Q : Type 0) → (P → Q) → OnOk r P → OnOk r Q
on-ok (Ok a) P Q f h = f h
on-ok (Err e) P Q f h = tt
