-- Lemmas: a foreign step, and a step of an own edit, after a timeline.
use Rattle.std.specs.Prelude.{◌≡◌, ℕ, ◌≤◌, ◌<◌, ◌==◌, ◌&&◌, ◌||◌, Bool, true, false, List, [], ◌∷◌, ◌++◌, Option, Some, None, refl}
use Rattle.std.specs.List.{AllByRecursion as Each}
use Rattle.std.proofs.Common.{sym, ap, subst, ◌∙◌, ⊎_elim, inl, inr, append_assoc, append-nil, arith}
use Rattle.std.proofs.lemmas.Bool.{true≢false, eqb-true, eq-eqb, ne_eqb}
use Rattle.pm_change.specs.declared.name.Name.{Name}
use Rattle.pm_change.specs.Changes.{Meaning, fold}
use Rattle.pm_history.specs.declared.item.Item.{Item}
use Rattle.pm_history.specs.declared.branch.Event.{Event}
use Rattle.pm_history.specs.declared.branches.Branches.{Branches}
use Rattle.pm_history.specs.declared.branches.MadeBy.TheVariants.{Edit}
use Rattle.pm_history.specs.Items.{same_name, one_step, foreign_item}
use Rattle.pm_history.specs.Histories.{event_of, extended, put_event, noted_own, opens, holds}
use Rattle.pm_history.specs.Timelines.{Step, changes_of, item_at, items_from}
use Rattle.pm_history.specs.Tidy.{NotNamed, NamesDiffer, NoneUndoes, NoRangeUndoes, Once, Differ, IsTidy}
use Rattle.pm_history.specs.Remembers.{names_of, live_names, Lacks, StandsFor, StandFor, Remembers}
use Rattle.pm_history.specs.Standing.{IsDrawn, HasDrawn, IsHistoryOf}
use Rattle.pm_history.proofs.Folding.{items-append, next-none, own-at}
use Rattle.pm_history.proofs.Grows.{each-front, each-back, each-append, differ-front, names-append, remembers-fewer, kept-fold}

one-none : (n : Option Name) → one_step n None ≡ false
one-none None = refl
one-none (Some n) = refl

or-left : (a b : Bool) → a ≡ true → (a || b) ≡ true
or-left true b h = refl
or-left false b h = absurd (true≢false (sym h))

or-mono : (a b c : Bool) → (b ≡ true → c ≡ true) → (a || b) ≡ true → (a || c) ≡ true
or-mono true b c f h = refl
or-mono false b c f h = f h

not-in-none : (C : Type 0) (n : Option Name) → NotNamed {C = C} n []
not-in-none C None = tt
not-in-none C (Some n) = tt

module _ {C : Type 0} where
  stand-append : (live : List Name) (is js : List (Item C)) (i j : Item C) → StandFor live is js → StandsFor live i j → StandFor live (is ++ i ∷ []) (js ++ j ∷ [])
  stand-append live [] [] i j h k = (k, tt)
  stand-append live [] (y ∷ js) i j h k = absurd h
  stand-append live (x ∷ is) [] i j h k = absurd h
  stand-append live (x ∷ is) (y ∷ js) i j h k = (h.0, stand-append live is js i j h.1 k)

  not-more : (n : Option Name) (xs : List (Item C)) (j : Item C) → NotNamed n xs → one_step n j.name ≡ false → NotNamed n (xs ++ j ∷ [])
  not-more None xs j h k = tt
  not-more (Some n) xs j h k = each-append (λ (i : Item C). one_step (Some n) i.name ≡ false) xs (j ∷ []) h (k, tt)

  names-more : (xs : List (Item C)) (j : Item C) → NamesDiffer xs → Each (λ x. one_step x.name j.name ≡ false) xs → NamesDiffer (xs ++ j ∷ [])
  names-more [] j h k = (not-in-none C j.name, tt)
  names-more (x ∷ xs) j h k = (not-more x.name xs j h.0 k.0, names-more xs j h.1 k.1)

  none-more : (n : Option Name) (xs : List (Item C)) (j : Item C) → NoRangeUndoes n xs → j.undoes ≡ None → NoRangeUndoes n (xs ++ j ∷ [])
  none-more n [] j h e = (λ t. absurd (true≢false (sym t ∙ ap (one_step n) e ∙ one-none n)), tt)
  none-more n (x ∷ xs) j h e = (h.0, none-more n xs j h.1 e)

  once-more : (xs : List (Item C)) (j : Item C) → Once xs → j.undoes ≡ None → Once (xs ++ j ∷ [])
  once-more [] j h e = (λ n t. inr tt, tt)
  once-more (x ∷ xs) j h e = (
    λ n t. ⊎_elim (λ (z : x.map ≡ []). inl z) (λ (z : NoRangeUndoes (Some n) xs). inr (none-more (Some n) xs j z e)) (h.0 n t),
    once-more xs j h.1 e,
  )

  live-more : (xs : List (Item C)) (j : Item C) (ns : List Name) → Each (λ n. NoneUndoes n xs) ns → j.undoes ≡ None → Each (λ n. NoneUndoes n (xs ++ j ∷ [])) ns
  live-more xs j [] h e = tt
  live-more xs j (n ∷ ns) h e = (each-append (λ (i : Item C). one_step (Some n) i.undoes ≡ false) xs (j ∷ []) h.0 (ap (one_step (Some n)) e, tt), live-more xs j ns h.1 e)

  pub holds-more : (n : Name) (xs ys : List (Item C)) → holds n xs ≡ true → holds n (xs ++ ys) ≡ true
  holds-more n [] ys h = absurd (true≢false (sym h))
  holds-more n (x ∷ xs) ys h = or-mono (one_step (Some n) x.name) (holds n xs) (holds n (xs ++ ys)) (holds-more n xs ys) h

  holds-last : (n : Name) (xs : List (Item C)) (j : Item C) → one_step (Some n) j.name ≡ true → holds n (xs ++ j ∷ []) ≡ true
  holds-last n [] j h = or-left (one_step (Some n) j.name) false h
  holds-last n (x ∷ xs) j h = or-true (one_step (Some n) x.name) (holds n (xs ++ j ∷ [])) (holds-last n xs j h)
    where
      or-true : (a b : Bool) → b ≡ true → (a || b) ≡ true
      or-true true b e = refl
      or-true false b e = e

  stand-more : (xs : List (Item C)) (j : Item C) (ns : List Name) → Each (λ n. holds n xs ≡ true) ns → Each (λ n. holds n (xs ++ j ∷ []) ≡ true) ns
  stand-more xs j [] h = tt
  stand-more xs j (n ∷ ns) h = (holds-more n xs (j ∷ []) h.0, stand-more xs j ns h.1)

  named-none : (xs : List (Item C)) (o : Option Name) → o ≡ None → Each (λ x. one_step x.name o ≡ false) xs
  named-none [] o e = tt
  named-none (x ∷ xs) o e = (ap (one_step x.name) e ∙ one-none x.name, named-none xs o e)

module _ {Rules Doc Reason C : Type 0} (m : Meaning Rules Doc Reason C) (rules : Rules) where
  one-item : (doc : Doc) (s : Step C) → items_from m rules doc (s ∷ []) ≡ item_at m rules doc s ∷ []
  one-item doc s = ap (λ is. item_at m rules doc s ∷ is) (next-none m rules (m.outcome rules s.change doc))

  -- the timeline's items with one more
  pub items-more : (first doc : Doc) (steps : List (Step C)) (s : Step C) → fold m rules first (changes_of steps) ≡ Some doc
      → items_from m rules first (steps ++ s ∷ []) ≡ items_from m rules first steps ++ item_at m rules doc s ∷ []
  items-more first doc steps s e = items-append m rules first doc steps (s ∷ []) e ∙ ap (λ is. items_from m rules first steps ++ is) (one-item doc s)

  pub remembers-more : (live : List Name) (first doc : Doc) (steps : List (Step C)) (items : List (Item C)) (s : Step C) (i : Item C) → Remembers m rules live first steps items
      → fold m rules first (changes_of steps) ≡ Some doc → StandsFor live i (item_at m rules doc s) → Remembers m rules live first (steps ++ s ∷ []) (items ++ i ∷ [])
  remembers-more live first doc steps items s i h e k = record {
    gone = h.gone;
    kept = h.kept ++ s ∷ [];
    mid = h.mid;
    steps_are = ap (λ ss. ss ++ s ∷ []) h.steps_are ∙ append_assoc h.gone h.kept (s ∷ []);
    reaches = h.reaches;
    stand = subst (StandFor live (items ++ i ∷ [])) (sym (items-more h.mid doc h.kept s (kept-fold m rules live first doc steps items h e)))
        (stand-append live items (items_from m rules h.mid h.kept) i (item_at m rules doc s) h.stand k);
    lacks = h.lacks;
  }

  foreign-at : (doc : Doc) (s : Step C) → s.own ≡ false → item_at m rules doc s ≡ foreign_item (m.step_map s.change)
  foreign-at doc s e = rw e refl

-- a name that the client has not drawn yet
abbrev pub IsFresh : ℕ → ℕ → Name → Type 0
IsFresh client drawn n = (n.client ≡ client) × (drawn < n.serial)

and-right : (a b : Bool) → b ≡ false → (a && b) ≡ false
and-right true b e = e
and-right false b e = refl

pub fresh-other : (client drawn : ℕ) (n k : Name) → IsFresh client drawn n → IsDrawn client drawn (Some k) → (same_name n k ≡ false) × (same_name k n ≡ false)
fresh-other client drawn n k f d = (
  and-right (n.client == k.client) (n.serial == k.serial) (ne_eqb n.serial k.serial (λ e. absurd (omega (arith, f.1, d.1, e)))),
  and-right (k.client == n.client) (k.serial == n.serial) (ne_eqb k.serial n.serial (λ e. absurd (omega (arith, f.1, d.1, e)))),
)

pub fresh-none : (client drawn : ℕ) (n : Name) (o : Option Name) → IsFresh client drawn n → IsDrawn client drawn o → (one_step (Some n) o ≡ false) × (one_step o (Some n) ≡ false)
fresh-none client drawn n None f d = (refl, refl)
fresh-none client drawn n (Some k) f d = fresh-other client drawn n k f d

same-drawn : (client drawn : ℕ) (n : Name) (o : Option Name) → one_step (Some n) o ≡ true → IsDrawn client drawn o → IsDrawn client drawn (Some n)
same-drawn client drawn n None h d = absurd (true≢false (sym h))
same-drawn client drawn n (Some k) h d =
    let p = and-both (n.client == k.client) (n.serial == k.serial) h in
    let c = eqb-true n.client k.client p.0 in
    let s = eqb-true n.serial k.serial p.1 in
    (c ∙ d.0, omega (arith, s, d.1))
  where
    and-both : (a b : Bool) → (a && b) ≡ true → (a ≡ true) × (b ≡ true)
    and-both true b e = (refl, e)
    and-both false b e = absurd (true≢false (sym e))

later-drawn : (client drawn more : ℕ) (o : Option Name) → drawn ≤ more → IsDrawn client drawn o → IsDrawn client more o
later-drawn client drawn more None l d = tt
later-drawn client drawn more (Some n) l d = (d.0, omega (arith, l, d.1))

module _ {C : Type 0} (client drawn : ℕ) where
  -- a step of the timeline has a drawn name
  pub held-drawn : (n : Name) (xs : List (Item C)) → Each (HasDrawn client drawn) xs → holds n xs ≡ true → IsDrawn client drawn (Some n)
  held-drawn n [] d h = absurd (true≢false (sym h))
  held-drawn n (x ∷ xs) d h = from (one_step (Some n) x.name) refl h (held-drawn n xs d.1)
    where
      from : (t : Bool) → one_step (Some n) x.name ≡ t → (t || holds n xs) ≡ true → (holds n xs ≡ true → IsDrawn client drawn (Some n)) → IsDrawn client drawn (Some n)
      from true e h go = same-drawn client drawn n x.name e d.0.0
      from false e h go = go h

  pub fresh-names : (n : Name) (xs : List (Item C)) → IsFresh client drawn n → Each (HasDrawn client drawn) xs
      → Each (λ x. one_step x.name (Some n) ≡ false) xs × Lacks xs n × NoneUndoes n xs
  fresh-names n [] f d = (tt, tt, tt)
  fresh-names n (x ∷ xs) f d =
      let rest = fresh-names n xs f d.1 in
      let name = fresh-none client drawn n x.name f d.0.0 in
      let undoes = fresh-none client drawn n x.undoes f d.0.1 in
      ((name.1, rest.0), (name.0, rest.1), (undoes.0, rest.2))

  fresh-differ : (n : Name) (ns : List Name) (xs : List (Item C)) → IsFresh client drawn n → Each (HasDrawn client drawn) xs → Each (λ k. holds k xs ≡ true) ns → Differ ns
      → Differ (ns ++ n ∷ [])
  fresh-differ n [] xs f d h k = (tt, tt)
  fresh-differ n (x ∷ ns) xs f d h k = (
    each-append (λ y. same_name x y ≡ false) ns (n ∷ []) k.0 ((fresh-other client drawn n x f (held-drawn x xs d h.0)).1, tt),
    fresh-differ n ns xs f d h.1 k.1,
  )

  pub all-later : (more : ℕ) (xs : List (Item C)) → drawn ≤ more → Each (HasDrawn client drawn) xs → Each (HasDrawn client more) xs
  all-later more [] l d = tt
  all-later more (x ∷ xs) l d = ((later-drawn client drawn more x.name l d.0.0, later-drawn client drawn more x.undoes l d.0.1), all-later more xs l d.1)

  -- one live name more, which no item has
  stand-live : (live : List Name) (n : Name) (is js : List (Item C)) → Lacks js n → StandFor live is js → StandFor (live ++ n ∷ []) is js
  stand-live live n [] [] l h = tt
  stand-live live n [] (j ∷ js) l h = absurd h
  stand-live live n (i ∷ is) [] l h = absurd h
  stand-live live n (i ∷ is) (j ∷ js) l h = (
    record {
      name_is = h.0.name_is;
      map_is = h.0.map_is;
      undoes_is = h.0.undoes_is;
      inverse_is = ⊎_elim (λ (e : i.inverse ≡ j.inverse). inl e)
          (λ (k : (i.inverse ≡ []) × Each (λ y. one_step (Some y) j.name ≡ false) live). inr (k.0, each-append (λ y. one_step (Some y) j.name ≡ false) live (n ∷ []) k.1 (l.0, tt))) h.0.inverse_is;
    },
    stand-live live n is js l.1 h.1,
  )

-- the names of the events once steps were put in
names-extended : (e : Event) (es : List Event) (ns : List Name) → names_of (extended (e ∷ es) ns) ≡ names_of (e ∷ es) ++ ns
names-extended e [] ns = append-nil (e.names ++ ns) ∙ ap (λ xs. xs ++ ns) (sym (append-nil e.names))
names-extended e (f ∷ es) ns = ap (λ xs. e.names ++ xs) (names-extended f es ns) ∙ sym (append_assoc e.names (names_of (f ∷ es)) ns)

pub names-put : (b : Bool) (k : Option ℕ) (es : List Event) (ns : List Name) → names_of (put_event b k es ns) ≡ names_of es ++ ns
names-put true k es ns = names-append es (event_of k ns ∷ []) ∙ ap (λ xs. names_of es ++ xs) (append-nil ns)
names-put false k [] ns = append-nil ns
names-put false k (e ∷ es) ns = names-extended e es ns

module _ {Rules Doc Reason C : Type 0} (m : Meaning Rules Doc Reason C) (rules : Rules) where
  -- one live name more, which no step of the timeline has
  remembers-live : (live : List Name) (n : Name) (first : Doc) (steps : List (Step C)) (items : List (Item C)) → Lacks (items_from m rules first steps) n
      → Remembers m rules live first steps items → Remembers m rules (live ++ n ∷ []) first steps items
  remembers-live live n first steps items l h =
      let whole : items_from m rules first steps ≡ items_from m rules first h.gone ++ items_from m rules h.mid h.kept =
      ap (λ ss. items_from m rules first ss) h.steps_are ∙ items-append m rules first h.mid h.gone h.kept h.reaches in
      let all : Lacks (items_from m rules first h.gone ++ items_from m rules h.mid h.kept) n = subst (λ is. Lacks is n) whole l in
      record {
        gone = h.gone;
        kept = h.kept;
        mid = h.mid;
        steps_are = h.steps_are;
        reaches = h.reaches;
        stand = stand-live 0 0 live n items (items_from m rules h.mid h.kept)
            (each-back (λ (i : Item C). one_step (Some n) i.name ≡ false) (items_from m rules first h.gone) (items_from m rules h.mid h.kept) all) h.stand;
        lacks = each-append (Lacks (items_from m rules first h.gone)) live (n ∷ []) h.lacks
            (each-front (λ (i : Item C). one_step (Some n) i.name ≡ false) (items_from m rules first h.gone) (items_from m rules h.mid h.kept) all, tt);
      }

  -- an own step more, of an edit, with a new name
  pub history-edited : (client drawn : ℕ) (first doc : Doc) (steps : List (Step C)) (h : Branches C) (s : Step C) (event : Option ℕ) (begins : Bool)
      → IsHistoryOf m rules client drawn first steps h → fold m rules first (changes_of steps) ≡ Some doc → s.own ≡ true → s.undoes ≡ None → IsFresh client drawn s.name
      → IsHistoryOf m rules client s.name.serial first (steps ++ s ∷ [])
      (noted_own h (record { name = Some s.name; map = m.step_map s.change; inverse = m.inverse rules s.change doc; undoes = None }) (Edit event begins))
  history-edited client drawn first doc steps h s event begins k e own undoes fresh =
      let all = items_from m rules first steps in
      let n = s.name in
      let j : Item C = record { name = Some n; map = m.step_map s.change; inverse = m.inverse rules s.change doc; undoes = None } in
      let at : item_at m rules doc s ≡ j = own-at m rules doc s own ∙ ap (λ o. record { name = Some n; map = m.step_map s.change; inverse = m.inverse rules s.change doc; undoes = o }) undoes in
      let more : items_from m rules first (steps ++ s ∷ []) ≡ all ++ j ∷ [] = items-more m rules first doc steps s e ∙ ap (λ i. all ++ i ∷ []) at in
      let old = names_of h.undo in
      let live = old ++ n ∷ [] in
      let names : names_of (put_event (opens h event begins) event h.undo (n ∷ [])) ++ [] ≡ live =
      append-nil (names_of (put_event (opens h event begins) event h.undo (n ∷ []))) ∙ names-put (opens h event begins) event h.undo (n ∷ []) in
      let f = fresh-names client drawn n all fresh k.drawn_are in
      let before : Remembers m rules live first steps h.items = remembers-live old n first steps h.items f.1
      (remembers-fewer m rules (live_names h) old first steps h.items (λ P x. each-front P old (names_of h.redo) x) k.remembers) in
      let stands : StandsFor live j (item_at m rules doc s) = record {
        name_is = ap (λ (i : Item C). i.name) (sym at);
        map_is = ap (λ (i : Item C). i.map) (sym at);
        undoes_is = ap (λ (i : Item C). i.undoes) (sym at);
        inverse_is = inl (ap (λ (i : Item C). i.inverse) (sym at));
      } in
      let held : Each (λ x. holds x all ≡ true) old = each-front (λ x. holds x all ≡ true) old (names_of h.redo) k.stand in
      let free : Each (λ x. NoneUndoes x all) old = each-front (λ x. NoneUndoes x all) old (names_of h.redo) k.live in
      let same : same_name n n ≡ true = and-same (n.client == n.client) (n.serial == n.serial) (eq-eqb n.client n.client refl) (eq-eqb n.serial n.serial refl) in
      record {
        remembers = subst (λ ns. Remembers m rules ns first (steps ++ s ∷ []) (h.items ++ j ∷ [])) (sym names) (remembers-more m rules live first doc steps h.items s j before e stands);
        tidy = subst (λ ns. IsTidy (items_from m rules first (steps ++ s ∷ [])) ns) (sym names) (subst (λ is. IsTidy is live) (sym more) (record {
          names_differ = names-more all j k.tidy.names_differ f.0;
          once = once-more all j k.tidy.once refl;
          differ = fresh-differ client drawn n old all fresh k.drawn_are held (differ-front old (names_of h.redo) k.tidy.differ);
        }));
        live = subst (λ ns. Each (λ x. NoneUndoes x (items_from m rules first (steps ++ s ∷ []))) ns) (sym names) (subst (λ is. Each (λ x. NoneUndoes x is) live) (sym more)
            (live-more all j live (each-append (λ x. NoneUndoes x all) old (n ∷ []) free (f.2, tt)) refl));
        stand = subst (λ ns. Each (λ x. holds x (items_from m rules first (steps ++ s ∷ [])) ≡ true) ns) (sym names) (subst (λ is. Each (λ x. holds x is ≡ true) live) (sym more)
            (each-append (λ x. holds x (all ++ j ∷ []) ≡ true) old (n ∷ []) (stand-more all j old held) (holds-last n all j same, tt)));
        drawn_are = subst (λ is. Each (HasDrawn client s.name.serial) is) (sym more)
            (each-append (HasDrawn client s.name.serial) all (j ∷ []) (all-later client drawn s.name.serial all (omega (arith, fresh.1)) k.drawn_are) (((fresh.0, omega arith), tt), tt));
      }
    where
      and-same : (a b : Bool) → a ≡ true → b ≡ true → (a && b) ≡ true
      and-same true b x y = y
      and-same false b x y = x
