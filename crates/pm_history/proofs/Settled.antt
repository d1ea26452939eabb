-- Lemmas: what is left of a history of which nothing was left to drop.
use Rattle.std.specs.Prelude.{◌≡◌, ℕ, zero, suc, ◌<◌, ◌==◌, ◌||◌, Bool, true, false, is_some, if◌then◌else◌, List, [], ◌∷◌, ◌++◌, length, take, drop, map, Option, Some, None, refl}
use Rattle.std.specs.List.{AllByRecursion as Each}
use Rattle.std.proofs.Common.{sym, ap, ◌∙◌, append-nil, arith}
use Rattle.std.proofs.lemmas.Bool.{true≢false, and_parts, eqb-true}
use Rattle.std.proofs.lemmas.List.{map-append}
use Rattle.pm_change.specs.declared.name.Name.{Name}
use Rattle.pm_map.specs.declared.step_map.Span.{Span}
use Rattle.pm_history.specs.declared.item.Item.{Item}
use Rattle.pm_history.specs.declared.branches.Branches.{Branches}
use Rattle.pm_history.specs.declared.branches.MadeBy.TheVariants.{Edit}
use Rattle.pm_history.specs.Drops.{replaced}
use Rattle.pm_history.specs.Histories.{add_name, foreign_items, names_in, noted, noted_all, opens, put_event, recorded_where}
use Rattle.pm_history.specs.Items.{one_step, foreign_item}
use Rattle.pm_history.specs.Remembers.{names_of, live_names}
use Rattle.pm_history.specs.Starts.{is_named, start_of}
use Rattle.pm_history.specs.Trims.{are_own, live_with, live_after, thinned, trimmed_items, trimmed, IsTrimmed}
use Rattle.pm_history.proofs.Edited.{names-put}
use Rattle.pm_history.proofs.Grows.{each-append}
use Rattle.pm_history.proofs.Numbers.{same-self}
use Rattle.pm_history.proofs.Trimmings.{Stays, named_none, named-append, thinned-as, trimmed-twice, settled-start, settled-stays}

-- each name of the first list is one of the second
abbrev pub AreAmong : List Name → List Name → Type 0
AreAmong xs ys = (o : Option Name) → is_named xs o ≡ true → is_named ys o ≡ true

or-before : (a b : Bool) → a ≡ true → (a || b) ≡ true
or-before a b h = ap (λ t. t || b) h

or-behind : (a b : Bool) → b ≡ true → (a || b) ≡ true
or-behind true b h = refl
or-behind false b h = h

among-before : (xs ys : List Name) → AreAmong xs (xs ++ ys)
among-before xs ys o h = named-append xs ys o ∙ or-before (is_named xs o) (is_named ys o) h

among-behind : (xs ys : List Name) → AreAmong ys (xs ++ ys)
among-behind xs ys o h = named-append xs ys o ∙ or-behind (is_named xs o) (is_named ys o) h

foreign-stays : (C : Type 0) (live : List Name) (ranges : List Span) → Stays {C = C} live (foreign_item ranges)
foreign-stays C live ranges = thinned-as live (foreign_item ranges) false (named_none live)

each-foreign : (C : Type 0) (live : List Name) (maps : List (List Span)) → Each (Stays {C = C} live) (foreign_items maps)
each-foreign C live [] = tt
each-foreign C live (m ∷ ms) = (foreign-stays C live m, each-foreign C live ms)

-- a list without an item, and one with some
pub is-none : {A : Type 0} (xs : List A) → (length xs == 0) ≡ true → xs ≡ []
is-none [] h = refl
is-none (x ∷ xs) h = absurd (omega (arith, eqb-true (suc (length xs)) 0 h))

pub is-some : {A : Type 0} (xs ys : List A) → ys ≡ xs → (length ys == 0) ≡ false → 0 < length xs
is-some [] ys e h = absurd (true≢false (sym (ap (λ zs. length zs == 0) e) ∙ h))
is-some (x ∷ xs) ys e h = omega arith

module _ {C : Type 0} where
  -- a live item stays as it is
  live-stays : (live : List Name) (i : Item C) → is_named live i.name ≡ true → Stays live i
  live-stays live i e = thinned-as live i true e

  -- and so does one that stayed, where more names are live
  stays-more : (xs ys : List Name) (i : Item C) → AreAmong xs ys → Stays xs i → Stays ys i
  stays-more xs ys i f h = from (is_named ys i.name) (is_named xs i.name) refl refl
    where
      from : (s t : Bool) → is_named ys i.name ≡ s → is_named xs i.name ≡ t → Stays ys i
      from true t e k = thinned-as ys i true e
      from false true e k = absurd (true≢false (sym (f i.name k) ∙ e))
      from false false e k = thinned-as ys i false e ∙ sym (thinned-as xs i false k) ∙ h

  each-more : (xs ys : List Name) (is : List (Item C)) → AreAmong xs ys → Each (Stays xs) is → Each (Stays ys) is
  each-more xs ys [] f h = tt
  each-more xs ys (i ∷ is) f h = (stays-more xs ys i f h.0, each-more xs ys is f h.1)

  each-take : (P : Item C → Type 0) (k : ℕ) (is : List (Item C)) → Each P is → Each P (take k is)
  each-take P zero is h = tt
  each-take P (suc k) [] h = tt
  each-take P (suc k) (i ∷ is) h = (h.0, each-take P k is h.1)

  each-live : (live : List Name) (is : List (Item C)) → Each (λ i. is_named live i.name ≡ true) is → Each (Stays live) is
  each-live live [] h = tt
  each-live live (i ∷ is) h = (live-stays live i h.0, each-live live is h.1)

  stay-map : (live : List Name) (is : List (Item C)) → Each (Stays live) is → map (thinned live) is ≡ is
  stay-map live [] h = refl
  stay-map live (i ∷ is) h = ap (λ j. j ∷ map (thinned live) is) h.0 ∙ ap (λ js. i ∷ js) (stay-map live is h.1)

  -- where the first item is live and each stays, nothing is dropped
  settled : (live : List Name) (is : List (Item C)) → start_of live is ≡ 0 → Each (Stays live) is → trimmed_items live is ≡ is
  settled live is e h = ap (λ k. map (thinned live) (drop k is)) e ∙ stay-map live is h

  first-live : (live : List Name) (i : Item C) (is : List (Item C)) → start_of live (i ∷ is) ≡ 0 → is_named live i.name ≡ true
  first-live live i is h = from (is_named live i.name) refl
    where
      from : (t : Bool) → is_named live i.name ≡ t → is_named live i.name ≡ true
      from true e = e
      from false e =
          let n : suc (start_of live is) ≡ 0 = sym (ap (λ t. if◌then◌else◌ {A = ℕ} t 0 (suc (start_of live is))) e) ∙ h in
          absurd (omega (arith, n))

  start-live : (live : List Name) (i : Item C) (is : List (Item C)) → is_named live i.name ≡ true → start_of live (i ∷ is) ≡ 0
  start-live live i is e = ap (λ t. if◌then◌else◌ {A = ℕ} t 0 (suc (start_of live is))) e

  -- live items more
  settled-append : (old live : List Name) (is js : List (Item C)) → AreAmong old live → trimmed_items old is ≡ is → Each (λ j. is_named live j.name ≡ true) js
      → trimmed_items live (is ++ js) ≡ is ++ js
  settled-append old live [] [] f h n = refl
  settled-append old live [] (j ∷ js) f h n = settled live (j ∷ js) (start-live live j js n.0) (each-live live (j ∷ js) n)
  settled-append old live (i ∷ is) js f h n =
      settled live (i ∷ (is ++ js)) (start-live live i (is ++ js) (f i.name (first-live old i is (settled-start old (i ∷ is) h))))
      (each-append (Stays live) (i ∷ is) js (each-more old live (i ∷ is) f (settled-stays old (i ∷ is) h)) (each-live live js n))

  -- own items have the names of their steps
  own-named : (is : List (Item C)) → are_own is ≡ true → Each (λ i. is_named (names_in is) i.name ≡ true) is
  own-named [] h = tt
  own-named (i ∷ is) h = from i.name refl (and_parts (is_some i.name) (are_own is) h) (own-named is)
    where
      later : (o : Option Name) (ns : List Name) (js : List (Item C)) → Each (λ j. is_named ns j.name ≡ true) js → Each (λ j. is_named (add_name o ns) j.name ≡ true) js
      later o ns [] k = tt
      later None ns (j ∷ js) k = k
      later (Some n) ns (j ∷ js) k = (or-behind (one_step (Some n) j.name) (is_named ns j.name) k.0, later (Some n) ns js k.1)

      from : (o : Option Name) → i.name ≡ o → (is_some i.name ≡ true) × (are_own is ≡ true) → (are_own is ≡ true → Each (λ j. is_named (names_in is) j.name ≡ true) is)
          → Each (λ j. is_named (add_name i.name (names_in is)) j.name ≡ true) (i ∷ is)
      from None e p go = absurd (true≢false (sym p.0 ∙ ap is_some e))
      from (Some n) e p go = (
        ap (λ o. is_named (add_name o (names_in is)) o) e ∙ or-before (one_step (Some n) (Some n)) (is_named (names_in is) (Some n)) (same-self n),
        later i.name (names_in is) is (go p.1),
      )

  each-among : (xs ys : List Name) (is : List (Item C)) → AreAmong xs ys → Each (λ i. is_named xs i.name ≡ true) is → Each (λ i. is_named ys i.name ≡ true) is
  each-among xs ys [] f h = tt
  each-among xs ys (i ∷ is) f h = (f i.name h.0, each-among xs ys is f h.1)

  -- the live names after an edit
  edit-names : (h : Branches C) (event : Option ℕ) (first : Bool) (ns : List Name) → live_with h ns ≡ live_names (recorded_where h ns (Edit event first))
  edit-names h event first [] = refl
  edit-names h event first (n ∷ ns) =
      sym (append-nil (names_of (put_event (opens h event first) event h.undo (n ∷ ns))) ∙ names-put (opens h event first) event h.undo (n ∷ ns))

  pub edit_names : (h : Branches C) (event : Option ℕ) (first : Bool) (is : List (Item C)) → live_after h is ≡ live_names (noted_all h is (Edit event first))
  edit_names h event first is = edit-names h event first (names_in is)

  edit-live : (h : Branches C) (ns : List Name) → h.redo ≡ [] → live_with h ns ≡ names_of h.undo ++ ns
  edit-live h [] e = ap (λ es. names_of h.undo ++ names_of es) e
  edit-live h (n ∷ ns) e = refl

  -- After an edit nothing is dropped where nothing was left to drop, and nothing could be redone.
  pub edit_settled : (h : Branches C) (event : Option ℕ) (first : Bool) (is : List (Item C)) → IsTrimmed h → h.redo ≡ [] → are_own is ≡ true
      → IsTrimmed (noted_all h is (Edit event first))
  edit_settled h event first is t e own =
      let ns = names_in is in
      let live = names_of h.undo ++ ns in
      let names : live ≡ live_names (noted_all h is (Edit event first)) = sym (edit-live h ns e) ∙ edit_names h event first is in
      let old : names_of h.undo ++ names_of h.redo ≡ names_of h.undo ++ [] = ap (λ es. names_of h.undo ++ names_of es) e in
      let more : AreAmong (live_names h) live = λ o k. among-before (names_of h.undo) ns o (ap (λ xs. is_named xs o) (sym (append-nil (names_of h.undo))) ∙ ap (λ xs. is_named xs o) (sym old) ∙ k) in
      ap (λ xs. trimmed_items xs (h.items ++ is)) (sym names)
      ∙ settled-append (live_names h) live h.items is more t (each-among ns live is (among-behind (names_of h.undo) ns) (own-named is own))

  -- After a foreign step, where an item is left, nothing is dropped, and where none is, the foreign step.
  note-some : (live : List Name) (ranges : List Span) (is : List (Item C)) → trimmed_items live is ≡ is → 0 < length is
      → trimmed_items live (is ++ foreign_item ranges ∷ []) ≡ is ++ foreign_item ranges ∷ []
  note-some live ranges [] h l = absurd (omega (arith, l))
  note-some live ranges (i ∷ is) h l =
      settled live (i ∷ (is ++ foreign_item ranges ∷ [])) (start-live live i (is ++ foreign_item ranges ∷ []) (first-live live i is (settled-start live (i ∷ is) h)))
      (each-append (Stays live) (i ∷ is) (foreign_item ranges ∷ []) (settled-stays live (i ∷ is) h) (foreign-stays C live ranges, tt))

  pub note_settled : (h : Branches C) (ranges : List Span) → IsTrimmed h → 0 < length h.items → IsTrimmed (noted h ranges)
  note_settled h ranges t l = note-some (live_names h) ranges h.items t l

  pub note_none : (h : Branches C) (ranges : List Span) → h.items ≡ [] → trimmed (noted h ranges) ≡ h
  note_none h ranges e =
      let live = live_names h in
      ap (λ is. record h { items = trimmed_items live (is ++ foreign_item ranges ∷ []) }) e
      ∙ ap (λ t. record h { items = map (thinned live) (drop (if◌then◌else◌ {A = ℕ} t 0 1) (foreign_item ranges ∷ [])) }) (named_none live)
      ∙ ap (λ is. record h { items = is }) (sym e)

  pub as_trimmed : (h : Branches C) → IsTrimmed h → h ≡ trimmed h
  as_trimmed h t = ap (λ is. record h { items = is }) (sym t)

  pub trimmed_settled : (h : Branches C) → IsTrimmed (trimmed h)
  trimmed_settled h = trimmed-twice (live_names h) h.items

  -- Other items in place of the last ones, of which those that are left are not dropped.
  rebase-some : (live : List Name) (is js : List (Item C)) (at : ℕ) → trimmed_items live is ≡ is → 0 < at → 0 < length is
      → trimmed_items live (take at is ++ js) ≡ take at is ++ map (thinned live) js
  rebase-some live [] js at h k l = absurd (omega (arith, l))
  rebase-some live (i ∷ is) js zero h k l = absurd (omega (arith, k))
  rebase-some live (i ∷ is) js (suc at) h k l =
      ap (λ n. map (thinned live) (drop n (i ∷ (take at is ++ js)))) (start-live live i (take at is ++ js) (first-live live i is (settled-start live (i ∷ is) h)))
      ∙ map-append (thinned live) (i ∷ take at is) js
      ∙ ap (λ xs. xs ++ map (thinned live) js) (stay-map live (i ∷ take at is) (each-take (Stays live) (suc at) (i ∷ is) (settled-stays live (i ∷ is) h)))

  pub rebase_settled : (h : Branches C) (at : ℕ) (foreign : List (List Span)) (kept : List (Item C)) → IsTrimmed h → 0 < at → 0 < length h.items
      → replaced h at foreign (map (thinned (live_names h)) kept) ≡ trimmed (replaced h at foreign kept)
  rebase_settled h at foreign kept t k l =
      let live = live_names h in
      ap (λ is. record h { items = is })
      (ap (λ fs. take at h.items ++ (fs ++ map (thinned live) kept)) (sym (stay-map live (foreign_items foreign) (each-foreign C live foreign)))
      ∙ ap (λ xs. take at h.items ++ xs) (sym (map-append (thinned live) (foreign_items foreign) kept))
      ∙ sym (rebase-some live h.items (foreign_items foreign ++ kept) at t k l))
