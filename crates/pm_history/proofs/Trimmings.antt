-- Lemmas: trimming, and what stands for a timeline once it was trimmed.
use Rattle.std.specs.Prelude.{◌≡◌, ℕ, zero, suc, ◌+◌, ◌<◌, ◌==◌, ◌&&◌, ◌||◌, Bool, true, false, if◌then◌else◌, List, [], ◌∷◌, ◌++◌, length, drop, map, get_or, Option, Some, None, refl}
use Rattle.std.specs.List.{AllByRecursion as Each}
use Rattle.std.proofs.Common.{sym, ap, subst, ◌∙◌, inr, append_assoc, arith, length-drop}
use Rattle.std.proofs.Math.Seq.{drop-cons}
use Rattle.std.proofs.lemmas.Bool.{true≢false, eq-eqb}
use Rattle.std.proofs.lemmas.List.{length-map}
use Rattle.pm_change.specs.declared.name.Name.{Name}
use Rattle.pm_change.specs.Changes.{Meaning, fold}
use Rattle.pm_change.proofs.Folds.{fold-cons, fold-append}
use Rattle.pm_history.specs.declared.item.Item.{Item}
use Rattle.pm_history.specs.declared.branch.Event.{Event}
use Rattle.pm_history.specs.declared.branches.Branches.{Branches}
use Rattle.pm_history.specs.Items.{one_step}
use Rattle.pm_history.specs.Live.{client_of}
use Rattle.pm_history.specs.Remembers.{names_of, live_names, Lacks, StandsFor, StandFor, Remembers}
use Rattle.pm_history.specs.Standing.{IsHistoryOf}
use Rattle.pm_history.specs.Starts.{is_named, start_of}
use Rattle.pm_history.specs.Timelines.{Step, changes_of, item_at, next_items, items_from}
use Rattle.pm_history.specs.Trims.{from_first_live, thinned, trimmed_items, trimmed, has_any, has_inverse, inverses, live_count}
use Rattle.pm_history.proofs.Folding.{changes-append}
use Rattle.pm_history.proofs.Grows.{each-append, kept-fold}
use Rattle.pm_history.proofs.Edited.{items-more}

or-assoc : (a b c : Bool) → (a || (b || c)) ≡ ((a || b) || c)
or-assoc true b c = refl
or-assoc false b c = refl

and-false : (a b : Bool) → ((a && false) || b) ≡ b
and-false true b = refl
and-false false b = refl

or-none : (a b : Bool) → (a || b) ≡ false → (a ≡ false) × (b ≡ false)
or-none true b h = absurd (true≢false h)
or-none false b h = (refl, h)

pub named-append : (xs ys : List Name) (o : Option Name) → is_named (xs ++ ys) o ≡ (is_named xs o || is_named ys o)
named-append [] ys o = refl
named-append (x ∷ xs) ys o = ap (λ t. one_step (Some x) o || t) (named-append xs ys o) ∙ or-assoc (one_step (Some x) o) (is_named xs o) (is_named ys o)

-- a name that is among the last ones, and one that is not
pub named_late : (xs ys : List Name) (o : Option Name) → is_named ys o ≡ true → is_named (xs ++ ys) o ≡ true
named_late xs ys o h = named-append xs ys o ∙ ap (λ t. is_named xs o || t) h ∙ or-true (is_named xs o)
  where
    or-true : (a : Bool) → (a || true) ≡ true
    or-true true = refl
    or-true false = refl

pub named_early : (xs ys : List Name) (o : Option Name) → is_named ys o ≡ false → is_named (xs ++ ys) o ≡ is_named xs o
named_early xs ys o h = named-append xs ys o ∙ ap (λ t. is_named xs o || t) h ∙ or-false (is_named xs o)
  where
    or-false : (a : Bool) → (a || false) ≡ a
    or-false true = refl
    or-false false = refl

-- a foreign step has no name
pub named_none : (ns : List Name) → is_named ns None ≡ false
named_none [] = refl
named_none (n ∷ ns) = named_none ns

-- an event that does not have the name
pub events-next : (es : List Event) (k : ℕ) (o : Option Name) (d : Event) → k < length es → is_named (get_or es k d).names o ≡ false
    → is_named (names_of (drop k es)) o ≡ is_named (names_of (drop (k + 1) es)) o
events-next es k o d l e =
    ap (λ xs. is_named (names_of xs) o) (drop-cons es k d l)
    ∙ named-append (get_or es k d).names (names_of (drop (suc k) es)) o
    ∙ ap (λ t. t || is_named (names_of (drop (suc k) es)) o) e
    ∙ ap (λ j. is_named (names_of (drop j es)) o) (one-more k)
  where
    one-more : (k : ℕ) → suc k ≡ k + 1
    one-more k = omega arith

-- and one that has it
pub events-there : (es : List Event) (k : ℕ) (o : Option Name) (d : Event) → k < length es → is_named (get_or es k d).names o ≡ true → is_named (names_of (drop k es)) o ≡ true
events-there es k o d l e =
    ap (λ xs. is_named (names_of xs) o) (drop-cons es k d l)
    ∙ named-append (get_or es k d).names (names_of (drop (suc k) es)) o
    ∙ ap (λ t. t || is_named (names_of (drop (suc k) es)) o) e

-- a name of the last events
pub events-later : (es : List Event) (k : ℕ) (o : Option Name) → is_named (names_of (drop k es)) o ≡ true → is_named (names_of es) o ≡ true
events-later es zero o h = h
events-later [] (suc k) o h = h
events-later (e ∷ es) (suc k) o h = named_late e.names (names_of es) o (events-later es k o h)

-- no name has a serial that the table does not have
pub named_absent : (n : Name) (ns : List Name) → client_of n.serial ns ≡ None → is_named ns (Some n) ≡ false
named_absent n [] h = refl
named_absent n (k ∷ ns) h = from (k.serial == n.serial) refl h (named_absent n ns)
  where
    from : (t : Bool) → (k.serial == n.serial) ≡ t → if◌then◌else◌ {A = Option ℕ} t (Some k.client) (client_of n.serial ns) ≡ None
        → (client_of n.serial ns ≡ None → is_named ns (Some n) ≡ false) → (((k.client == n.client) && (k.serial == n.serial)) || is_named ns (Some n)) ≡ false
    from true e h go = absurd (cc)
    from false e h go = ap (λ t. ((k.client == n.client) && t) || is_named ns (Some n)) e ∙ and-false (k.client == n.client) (is_named ns (Some n)) ∙ go h

-- a name has the serial and the client that the table has
pub named_present : (n : Name) (ns : List Name) → client_of n.serial ns ≡ Some n.client → is_named ns (Some n) ≡ true
named_present n [] h = absurd (cc)
named_present n (k ∷ ns) h = from (k.serial == n.serial) refl h (named_present n ns)
  where
    from : (t : Bool) → (k.serial == n.serial) ≡ t → if◌then◌else◌ {A = Option ℕ} t (Some k.client) (client_of n.serial ns) ≡ Some n.client
        → (client_of n.serial ns ≡ Some n.client → is_named ns (Some n) ≡ true) → (((k.client == n.client) && (k.serial == n.serial)) || is_named ns (Some n)) ≡ true
    from true e h go =
        let c : k.client ≡ n.client = cc in
        ap (λ t. (t && (k.serial == n.serial)) || is_named ns (Some n)) (eq-eqb k.client n.client c) ∙ ap (λ t. t || is_named ns (Some n)) e
    from false e h go = ap (λ t. ((k.client == n.client) && t) || is_named ns (Some n)) e ∙ and-false (k.client == n.client) (is_named ns (Some n)) ∙ go h

-- none of the names is this one
not-each : (ns : List Name) (o : Option Name) → is_named ns o ≡ false → Each (λ n. one_step (Some n) o ≡ false) ns
not-each [] o h = tt
not-each (n ∷ ns) o h = let p = or-none (one_step (Some n) o) (is_named ns o) h in (p.0, not-each ns o p.1)

module _ {C : Type 0} where
  -- an item that stays as it is
  abbrev pub Stays : List Name → Item C → Type 0
  Stays live i = thinned live i ≡ i

  pub thinned-as : (live : List Name) (i : Item C) (t : Bool) → is_named live i.name ≡ t → thinned live i ≡ record i { inverse = if◌then◌else◌ {A = List C} t i.inverse [] }
  thinned-as live i t e = ap (λ b. record i { inverse = if◌then◌else◌ {A = List C} b i.inverse [] }) e

  thinned-twice : (live : List Name) (i : Item C) → thinned live (thinned live i) ≡ thinned live i
  thinned-twice live i = from (is_named live i.name)
    where
      from : (t : Bool) → record i { inverse = if◌then◌else◌ {A = List C} t (if◌then◌else◌ {A = List C} t i.inverse []) [] } ≡ record i { inverse = if◌then◌else◌ {A = List C} t i.inverse [] }
      from true = refl
      from false = refl

  thin-twice : (live : List Name) (is : List (Item C)) → map (thinned live) (map (thinned live) is) ≡ map (thinned live) is
  thin-twice live [] = refl
  thin-twice live (i ∷ is) =
      ap (λ j. j ∷ map (thinned live) (map (thinned live) is)) (thinned-twice live i) ∙ ap (λ js. thinned live i ∷ js) (thin-twice live is)

  start-trimmed : (live : List Name) (is : List (Item C)) → start_of live (trimmed_items live is) ≡ 0
  start-trimmed live [] = refl
  start-trimmed live (i ∷ is) = from (is_named live i.name) refl (start-trimmed live is)
    where
      from : (t : Bool) → is_named live i.name ≡ t → start_of live (trimmed_items live is) ≡ 0
          → start_of live (map (thinned live) (drop (if◌then◌else◌ {A = ℕ} t 0 (suc (start_of live is))) (i ∷ is))) ≡ 0
      from true e go = ap (λ t. if◌then◌else◌ {A = ℕ} t 0 (suc (start_of live (map (thinned live) is)))) e
      from false e go = go

  -- nothing is left to trim
  pub trimmed-twice : (live : List Name) (is : List (Item C)) → trimmed_items live (trimmed_items live is) ≡ trimmed_items live is
  trimmed-twice live is =
      ap (λ k. map (thinned live) (drop k (trimmed_items live is))) (start-trimmed live is) ∙ thin-twice live (drop (start_of live is) is)

  pub settled-start : (live : List Name) (is : List (Item C)) → trimmed_items live is ≡ is → start_of live is ≡ 0
  settled-start live [] h = refl
  settled-start live (i ∷ is) h = from (is_named live i.name) refl h
    where
      from : (t : Bool) → is_named live i.name ≡ t → map (thinned live) (drop (if◌then◌else◌ {A = ℕ} t 0 (suc (start_of live is))) (i ∷ is)) ≡ i ∷ is
          → if◌then◌else◌ {A = ℕ} t 0 (suc (start_of live is)) ≡ 0
      from true e h = refl
      from false e h =
          let n : length (map (thinned live) (drop (start_of live is) is)) ≡ suc (length is) = ap length h in
          absurd (omega (arith, n, length-map (drop (start_of live is) is) (thinned live), length-drop (start_of live is) is))

  each-stays : (live : List Name) (is : List (Item C)) → map (thinned live) is ≡ is → Each (Stays live) is
  each-stays live [] h = tt
  each-stays live (i ∷ is) h =
      let a : thinned live i ≡ i = cc in
      let b : map (thinned live) is ≡ is = cc in
      (a, each-stays live is b)

  pub settled-stays : (live : List Name) (is : List (Item C)) → trimmed_items live is ≡ is → Each (Stays live) is
  settled-stays live is h = each-stays live is (sym (ap (λ k. map (thinned live) (drop k is)) (settled-start live is h)) ∙ h)

  -- where nothing is left to trim, the changes kept are those of the live steps
  stays-inverse : (live : List Name) (i : Item C) → Stays live i → has_inverse live i ≡ is_named live i.name
  stays-inverse live i h = from (is_named live i.name) refl
    where
      from : (t : Bool) → is_named live i.name ≡ t → (t || has_any i.inverse) ≡ t
      from true e = refl
      from false e = ap (λ (j : Item C). has_any j.inverse) (sym (sym (thinned-as live i false e) ∙ h))

  each-inverse : (live : List Name) (is : List (Item C)) → Each (Stays live) is → inverses live is ≡ live_count live is
  each-inverse live [] h = refl
  each-inverse live (i ∷ is) h =
      ap (λ t. (if◌then◌else◌ {A = ℕ} t 1 0) + inverses live is) (stays-inverse live i h.0)
      ∙ ap (λ n. (if◌then◌else◌ {A = ℕ} (is_named live i.name) 1 0) + n) (each-inverse live is h.1)

  pub settled-inverses : (live : List Name) (is : List (Item C)) → trimmed_items live is ≡ is → inverses live is ≡ live_count live is
  settled-inverses live is h = each-inverse live is (settled-stays live is h)

  -- a thinned item stands for what the item stood for
  thinned-stands : (live : List Name) (i j : Item C) → StandsFor live i j → StandsFor live (thinned live i) j
  thinned-stands live i j h = from (is_named live i.name) refl
    where
      from : (t : Bool) → is_named live i.name ≡ t → StandsFor live (thinned live i) j
      from true e = subst (λ x. StandsFor live x j) (sym (thinned-as live i true e)) h
      from false e = record {
        name_is = h.name_is;
        map_is = h.map_is;
        undoes_is = h.undoes_is;
        inverse_is = inr (ap (λ (x : Item C). x.inverse) (thinned-as live i false e), not-each live j.name (sym (ap (is_named live) h.name_is) ∙ e));
      }

  thin-stand : (live : List Name) (is js : List (Item C)) → StandFor live is js → StandFor live (map (thinned live) is) js
  thin-stand live [] [] h = tt
  thin-stand live [] (j ∷ js) h = absurd h
  thin-stand live (i ∷ is) [] h = absurd h
  thin-stand live (i ∷ is) (j ∷ js) h = (thinned-stands live i j h.0, thin-stand live is js h.1)

  lacks-behind : (xs : List (Item C)) (j : Item C) (ns : List Name) → is_named ns j.name ≡ false → Each (Lacks xs) ns → Each (Lacks (xs ++ j ∷ [])) ns
  lacks-behind xs j [] e h = tt
  lacks-behind xs j (n ∷ ns) e h =
      let p = or-none (one_step (Some n) j.name) (is_named ns j.name) e in
      (each-append (λ (i : Item C). one_step (Some n) i.name ≡ false) xs (j ∷ []) h.0 (p.0, tt), lacks-behind xs j ns p.1 h.1)

module _ {Rules Doc Reason C : Type 0} (m : Meaning Rules Doc Reason C) (rules : Rules) where
  -- Items that stand for the last steps, some of which are before the first live one.
  remembers-from : (live : List Name) (first end : Doc) (steps gone kept : List (Step C)) (mid : Doc) (items : List (Item C)) → steps ≡ gone ++ kept
      → fold m rules first (changes_of gone) ≡ Some mid → fold m rules mid (changes_of kept) ≡ Some end → StandFor live items (items_from m rules mid kept)
      → Each (Lacks (items_from m rules first gone)) live → Remembers m rules live first steps (from_first_live live items)
  remembers-from live first end steps gone kept mid [] e r k st la =
      record { gone = gone; kept = kept; mid = mid; steps_are = e; reaches = r; stand = st; lacks = la }
  remembers-from live first end steps gone [] mid (i ∷ is) e r k st la = absurd st
  remembers-from live first end steps gone (s ∷ ss) mid (i ∷ is) e r k st la =
      let f = fold-cons m rules mid end s.change (changes_of ss) k in
      let rest : StandFor live is (items_from m rules f.0 ss) = subst (λ x. StandFor live is (next_items m rules x (λ d. items_from m rules d ss))) f.1 st.1 in
      let reach : fold m rules first (changes_of (gone ++ s ∷ [])) ≡ Some f.0 =
      ap (fold m rules first) (changes-append gone (s ∷ [])) ∙ fold-append m rules first mid (changes_of gone) (s.change ∷ []) r ∙ rw f.1 refl in
      from (is_named live i.name) refl
      (λ dead. remembers-from live first end steps (gone ++ s ∷ []) ss f.0 is (e ∙ sym (append_assoc gone (s ∷ []) ss)) reach f.2 rest
      (subst (λ xs. Each (Lacks xs) live) (sym (items-more m rules first mid gone s r))
      (lacks-behind (items_from m rules first gone) (item_at m rules mid s) live (sym (ap (is_named live) st.0.name_is) ∙ dead) la)))
    where
      from : (t : Bool) → is_named live i.name ≡ t → (is_named live i.name ≡ false → Remembers m rules live first steps (from_first_live live is))
          → Remembers m rules live first steps (drop (if◌then◌else◌ {A = ℕ} t 0 (suc (start_of live is))) (i ∷ is))
      from true e0 go = record { gone = gone; kept = s ∷ ss; mid = mid; steps_are = e; reaches = r; stand = st; lacks = la }
      from false e0 go = go e0

  remembers-thin : (live : List Name) (first : Doc) (steps : List (Step C)) (items : List (Item C)) → Remembers m rules live first steps items
      → Remembers m rules live first steps (map (thinned live) items)
  remembers-thin live first steps items h = record {
    gone = h.gone;
    kept = h.kept;
    mid = h.mid;
    steps_are = h.steps_are;
    reaches = h.reaches;
    stand = thin-stand live items (items_from m rules h.mid h.kept) h.stand;
    lacks = h.lacks;
  }

  -- the items that are left of those that remember a timeline remember it
  pub remembers-trimmed : (live : List Name) (first end : Doc) (steps : List (Step C)) (items : List (Item C)) → fold m rules first (changes_of steps) ≡ Some end
      → Remembers m rules live first steps items → Remembers m rules live first steps (trimmed_items live items)
  remembers-trimmed live first end steps items e h =
      remembers-thin live first steps (from_first_live live items)
      (remembers-from live first end steps h.gone h.kept h.mid items h.steps_are h.reaches (kept-fold m rules live first end steps items h e) h.stand h.lacks)

  -- a trimmed history stands for its timeline
  pub history-trimmed : (client drawn : ℕ) (first end : Doc) (steps : List (Step C)) (h : Branches C) → fold m rules first (changes_of steps) ≡ Some end
      → IsHistoryOf m rules client drawn first steps h → IsHistoryOf m rules client drawn first steps (trimmed h)
  history-trimmed client drawn first end steps h e k = record {
    remembers = remembers-trimmed (live_names h) first end steps h.items e k.remembers;
    tidy = k.tidy;
    live = k.live;
    stand = k.stand;
    drawn_are = k.drawn_are;
  }
