-- Lemmas: a history goes on standing for its timeline when one of its events is undone or redone.
use Rattle.std.specs.Prelude.{◌≡◌, ℕ, ◌+◌, ◌≤◌, ◌<◌, ◌==◌, ◌⊎◌, Bool, true, false, if◌then◌else◌, List, [], ◌∷◌, ◌++◌, length, Option, Some, refl}
use Rattle.std.specs.List.{AllByRecursion as Each}
use Rattle.std.proofs.Common.{sym, ap, subst, ◌∙◌, ⊎_elim, inl, inr, append_assoc, append-nil, arith}
use Rattle.std.proofs.lemmas.Bool.{true≢false, ne_eqb}
use Rattle.pm_change.specs.declared.name.Name.{Name}
use Rattle.pm_change.specs.Changes.{Meaning, Laws, fold}
use Rattle.pm_history.specs.declared.item.Item.{Item}
use Rattle.pm_history.specs.declared.branch.Event.{Event}
use Rattle.pm_history.specs.declared.branches.Branches.{Branches}
use Rattle.pm_history.specs.declared.turn.Turn.{Turn}
use Rattle.pm_history.specs.declared.turn.Turn.TheVariants.{Undo, Redo, UndoEvent}
use Rattle.pm_history.specs.declared.undoing.Undone.{Undone}
use Rattle.pm_history.specs.Items.{same_name, one_step}
use Rattle.pm_history.specs.Histories.{holds, names_in, with_event}
use Rattle.pm_history.specs.Turns.{HaveLost, event_for, left_of, undone}
use Rattle.pm_history.specs.Timelines.{Step, changes_of, items_from}
use Rattle.pm_history.specs.Tidy.{NotNamed, NoneUndoes, Once, Differ, IsTidy}
use Rattle.pm_history.specs.Remembers.{names_of, live_names, Lacks, StandFor, Remembers}
use Rattle.pm_history.specs.Standing.{IsDrawn, HasDrawn, IsHistoryOf}
use Rattle.pm_history.specs.Made.{made_steps, IsMade}
use Rattle.pm_history.specs.Undos.{undo_event}
use Rattle.pm_history.proofs.Folding.{items-append}
use Rattle.pm_history.proofs.Grows.{each-front, each-back, each-append, none-tied, names-append, names-lost, kept-fold, history-shows}
use Rattle.pm_history.proofs.Taken.{taken}
use Rattle.pm_history.proofs.Edited.{IsFresh, fresh-other, fresh-none, held-drawn, fresh-names, all-later, holds-more}
use Rattle.pm_history.proofs.Rebased.{stand-both, stand-same}
use Rattle.pm_history.proofs.Ties.{each-map, same-is, once-both, event-ties, event-once}
use Rattle.pm_history.proofs.Numbers.{Numbered, names-both, holds-behind, holds-own, numbered-fresh, numbered-differ, numbered-not, numbered-names, numbered-drawn, made-numbered}

-- no name of one list is in the other
abbrev Apart : List Name → List Name → Type 0
Apart xs ys = Each (λ x. Each (λ y. same_name x y ≡ false) ys) xs

pub same-flip : (a b : Name) → same_name a b ≡ false → same_name b a ≡ false
same-flip a b h = from (same_name b a) refl
  where
    from : (t : Bool) → same_name b a ≡ t → t ≡ false
    from true e =
        let s = same-is b a e in
        absurd (true≢false (sym (ap (λ x. same_name x b) (sym s) ∙ ap (λ x. same_name b x) s ∙ e) ∙ h))
    from false e = refl

differ-parts : (xs ys : List Name) → Differ (xs ++ ys) → Differ xs × Differ ys × Apart xs ys
differ-parts [] ys h = (tt, h, tt)
differ-parts (x ∷ xs) ys h =
    let r = differ-parts xs ys h.1 in
    ((each-front (λ y. same_name x y ≡ false) xs ys h.0, r.0), r.1, (each-back (λ y. same_name x y ≡ false) xs ys h.0, r.2))

differ-both : (xs ys : List Name) → Differ xs → Differ ys → Apart xs ys → Differ (xs ++ ys)
differ-both [] ys h k a = k
differ-both (x ∷ xs) ys h k a = (each-append (λ y. same_name x y ≡ false) xs ys h.0 a.0, differ-both xs ys h.1 k a.1)

apart-none : (ys : List Name) → Apart ys []
apart-none [] = tt
apart-none (y ∷ ys) = (tt, apart-none ys)

apart-more : (x : Name) (xs ys : List Name) → Each (λ y. same_name x y ≡ false) ys → Apart ys xs → Apart ys (x ∷ xs)
apart-more x xs [] h a = tt
apart-more x xs (y ∷ ys) h a = ((same-flip x y h.0, a.0), apart-more x xs ys h.1 a.1)

apart-flip : (xs ys : List Name) → Apart xs ys → Apart ys xs
apart-flip [] ys a = apart-none ys
apart-flip (x ∷ xs) ys a = apart-more x xs ys a.0 (apart-flip xs ys a.1)

apart-front : (xs ys zs : List Name) → Apart xs (ys ++ zs) → Apart xs ys
apart-front xs ys zs a = each-map (λ x. Each (λ y. same_name x y ≡ false) (ys ++ zs)) (λ x. Each (λ y. same_name x y ≡ false) ys) xs (λ x h. each-front (λ y. same_name x y ≡ false) ys zs h) a

apart-back : (xs ys zs : List Name) → Apart xs (ys ++ zs) → Apart xs zs
apart-back xs ys zs a = each-map (λ x. Each (λ y. same_name x y ≡ false) (ys ++ zs)) (λ x. Each (λ y. same_name x y ≡ false) zs) xs (λ x h. each-back (λ y. same_name x y ≡ false) ys zs h) a

pub each-both : {A : Type 0} (P Q : A → Type 0) (xs : List A) → Each P xs → Each Q xs → Each (λ x. P x × Q x) xs
each-both P Q [] h k = tt
each-both P Q (x ∷ xs) h k = ((h.0, k.0), each-both P Q xs h.1 k.1)

-- The live names are those of one event, `last`, and two lists of others, and all differ.
record IsSplit (live left right last : List Name) : Type 1 where
  pub each : (P : Name → Type 0) → Each P live → Each P left × Each P right × Each P last
  pub left_differ : Differ left
  pub right_differ : Differ right
  pub last_differ : Differ last
  pub sides_apart : Apart left right
  pub left_apart : Apart left last
  pub right_apart : Apart right last

-- names between others
each-between : (P : Name → Type 0) (front last back : List Name) → Each P (front ++ (last ++ back)) → Each P (front ++ back) × Each P last
each-between P front last back h =
    let behind : Each P (last ++ back) = each-back P front (last ++ back) h in
    (each-append P front back (each-front P front (last ++ back) h) (each-back P last back behind), each-front P last back behind)

differ-between : (front last back : List Name) → Differ (front ++ (last ++ back)) → Differ (front ++ back) × Differ last × Apart (front ++ back) last
differ-between front last back d =
    let b = differ-parts front (last ++ back) d in
    let c = differ-parts last back b.1 in (
      differ-both front back b.0 c.1 (apart-back front last back b.2),
      c.0,
      each-append (λ x. Each (λ y. same_name x y ≡ false) last) front back (apart-front front last back b.2) (apart-flip last back c.2),
    )

-- an event to undo, before the events to redo
split-undo : (live front last back redo : List Name) → live ≡ (front ++ (last ++ back)) ++ redo → Differ live → IsSplit live ((front ++ back) ++ redo) [] last
split-undo live front last back redo e d =
    let a = differ-parts (front ++ (last ++ back)) redo (subst Differ e d) in
    let b = differ-between front last back a.0 in
    let behind = each-between (λ x. Each (λ y. same_name x y ≡ false) redo) front last back a.2 in
    record {
      each = λ P h.
          let all : Each P ((front ++ (last ++ back)) ++ redo) = subst (Each P) e h in
          let parts = each-between P front last back (each-front P (front ++ (last ++ back)) redo all) in
          (each-append P (front ++ back) redo parts.0 (each-back P (front ++ (last ++ back)) redo all), tt, parts.1);
      left_differ = differ-both (front ++ back) redo b.0 a.1 behind.0;
      right_differ = tt;
      last_differ = b.1;
      sides_apart = apart-none ((front ++ back) ++ redo);
      left_apart = each-append (λ x. Each (λ y. same_name x y ≡ false) last) (front ++ back) redo b.2 (apart-flip last redo behind.1);
      right_apart = tt;
    }

-- an event to redo, after the events to undo
split-redo : (live undo front last back : List Name) → live ≡ undo ++ (front ++ (last ++ back)) → Differ live → IsSplit live undo (front ++ back) last
split-redo live undo front last back e d =
    let a = differ-parts undo (front ++ (last ++ back)) (subst Differ e d) in
    let b = differ-between front last back a.1 in
    record {
      each = λ P h.
          let all : Each P (undo ++ (front ++ (last ++ back))) = subst (Each P) e h in
          let parts = each-between P front last back (each-back P undo (front ++ (last ++ back)) all) in
          (each-front P undo (front ++ (last ++ back)) all, parts.0, parts.1);
      left_differ = a.0;
      right_differ = b.0;
      last_differ = b.1;
      sides_apart = each-map (λ x. Each (λ y. same_name x y ≡ false) (front ++ (last ++ back))) (λ x. Each (λ y. same_name x y ≡ false) (front ++ back)) undo
          (λ x h. (each-between (λ y. same_name x y ≡ false) front last back h).0) a.2;
      left_apart = each-map (λ x. Each (λ y. same_name x y ≡ false) (front ++ (last ++ back))) (λ x. Each (λ y. same_name x y ≡ false) last) undo
          (λ x h. (each-between (λ y. same_name x y ≡ false) front last back h).1) a.2;
      right_apart = b.2;
    }

-- new names between the two sides
split-differ : (client drawn : ℕ) (live left right last news : List Name) → IsSplit live left right last → Each (IsFresh client drawn) news → Differ news
    → Each (λ n. IsDrawn client drawn (Some n)) left → Each (λ n. IsDrawn client drawn (Some n)) right → Differ ((left ++ news) ++ right)
split-differ client drawn live left right last news s f d hl hr =
    let lower = λ (n : Name) (o : IsDrawn client drawn (Some n)). each-map (IsFresh client drawn) (λ k. same_name n k ≡ false) news (λ k x. (fresh-other client drawn k n x o).1) f in
    let la : Apart left news = each-map (λ n. IsDrawn client drawn (Some n)) (λ n. Each (λ k. same_name n k ≡ false) news) left lower hl in
    let ra : Apart right news = each-map (λ n. IsDrawn client drawn (Some n)) (λ n. Each (λ k. same_name n k ≡ false) news) right lower hr in
    differ-both (left ++ news) right (differ-both left news s.left_differ d la) s.right_differ
    (each-append (λ x. Each (λ y. same_name x y ≡ false) right) left news s.sides_apart (apart-flip right news ra))

module _ {C : Type 0} where
  -- a name is not one of these, or is one that no item undoes
  other-or-free : (all : List (Item C)) (last : List Name) (n : Name) → Each (λ k. NoneUndoes k all) last → NoneUndoes n all ⊎ Each (λ k. same_name n k ≡ false) last
  other-or-free all [] n h = inr tt
  other-or-free all (k ∷ ks) n h = from (same_name n k) refl (other-or-free all ks n h.1)
    where
      from : (t : Bool) → same_name n k ≡ t → NoneUndoes n all ⊎ Each (λ j. same_name n j ≡ false) ks → NoneUndoes n all ⊎ Each (λ j. same_name n j ≡ false) (k ∷ ks)
      from true e go = inl (subst (λ x. NoneUndoes x all) (sym (same-is n k e)) h.0)
      from false e go = ⊎_elim (λ (z : NoneUndoes n all). inl z) (λ (z : Each (λ j. same_name n j ≡ false) ks). inr (e, z)) go

  stands-with : (live more : List Name) (is js : List (Item C))
      → Each (λ (j : Item C). Each (λ n. one_step (Some n) j.name ≡ false) live → Each (λ n. one_step (Some n) j.name ≡ false) more) js → StandFor live is js → StandFor more is js
  stands-with live more [] [] f h = tt
  stands-with live more [] (j ∷ js) f h = absurd h
  stands-with live more (i ∷ is) [] f h = absurd h
  stands-with live more (i ∷ is) (j ∷ js) f h = (
    record {
      name_is = h.0.name_is;
      map_is = h.0.map_is;
      undoes_is = h.0.undoes_is;
      inverse_is = ⊎_elim (λ (e : i.inverse ≡ j.inverse). inl e)
          (λ (k : (i.inverse ≡ []) × Each (λ n. one_step (Some n) j.name ≡ false) live). inr (k.0, f.0 k.1)) h.0.inverse_is;
    },
    stands-with live more is js f.1 h.1,
  )

module _ {Rules Doc Reason C : Type 0} (m : Meaning Rules Doc Reason C) (rules : Rules) where
  -- Own steps with new names stand after the timeline. They undo steps of the last event, which has left the live names, and
  -- each at most once.
  history-more : (client drawn more serial : ℕ) (first doc : Doc) (steps made : List (Step C)) (h g : Branches C) (left right last : List Name) (js : List (Item C))
      → IsHistoryOf m rules client drawn first steps h → fold m rules first (changes_of steps) ≡ Some doc → IsSplit (live_names h) left right last
      → g.items ≡ h.items ++ js → live_names g ≡ (left ++ names_in js) ++ right → js ≡ items_from m rules doc made
      → drawn < serial → Numbered client serial js → serial + length js ≡ more + 1
      → ((P : Option Name → Type 0) → Each (λ n. P (Some n)) last → Each (λ (j : Item C). P j.undoes) js) → Once js
      → IsHistoryOf m rules client more first (steps ++ made) g
  history-more client drawn more serial first doc steps made h g left right last js k e s items_are live_are js_are low numbered count ties once =
      let R = k.remembers in
      let live = live_names h in
      let news = names_in js in
      let all = items_from m rules first steps in
      let gone = items_from m rules first R.gone in
      let kept = items_from m rules R.mid R.kept in
      let later : List Name = (left ++ news) ++ right in
      let parts : all ≡ gone ++ kept = ap (λ ss. items_from m rules first ss) R.steps_are ∙ items-append m rules first R.mid R.gone R.kept R.reaches in
      let whole : items_from m rules first (steps ++ made) ≡ all ++ js = items-append m rules first doc steps made e ∙ ap (λ is. all ++ is) (sym js_are) in
      let tail : items_from m rules R.mid (R.kept ++ made) ≡ kept ++ js =
      items-append m rules R.mid doc R.kept made (kept-fold m rules live first doc steps h.items R e) ∙ ap (λ is. kept ++ is) (sym js_are) in
      let fresh : Each (IsFresh client drawn) news = numbered-fresh client drawn serial js low numbered in
      let drawn_all : Each (HasDrawn client drawn) all = k.drawn_are in
      let drawn_parts : Each (HasDrawn client drawn) (gone ++ kept) = subst (Each (HasDrawn client drawn)) parts drawn_all in
      let drawn_gone : Each (HasDrawn client drawn) gone = each-front (HasDrawn client drawn) gone kept drawn_parts in
      let drawn_kept : Each (HasDrawn client drawn) kept = each-back (HasDrawn client drawn) gone kept drawn_parts in
      let held = s.each (λ n. holds n all ≡ true) k.stand in
      let free = s.each (λ n. NoneUndoes n all) k.live in
      let drawn_live : Each (λ n. IsDrawn client drawn (Some n)) live = each-map (λ n. holds n all ≡ true) (λ n. IsDrawn client drawn (Some n)) live (λ n x. held-drawn client drawn n all drawn_all x) k.stand in
      let low_sides = s.each (λ n. IsDrawn client drawn (Some n)) drawn_live in
      let put : (P : Name → Type 0) → Each P left → Each P news → Each P right → Each P later = λ P x y z. each-append P (left ++ news) right (each-append P left news x y) z in
      let other : (n : Name) → Each (λ j. same_name n j ≡ false) last → NoneUndoes n js = λ n x. ties (λ o. one_step (Some n) o ≡ false) x in
      let new_other : (n : Name) → IsFresh client drawn n → NoneUndoes n js =
      λ n f. other n (each-map (λ j. IsDrawn client drawn (Some j)) (λ j. same_name n j ≡ false) last (λ j d. (fresh-other client drawn n j f d).0) low_sides.2) in
      let clear : (j : Item C) → HasDrawn client drawn j → Each (λ n. one_step (Some n) j.name ≡ false) live → Each (λ n. one_step (Some n) j.name ≡ false) later =
      λ j d x.
      let y = s.each (λ n. one_step (Some n) j.name ≡ false) x in
      put (λ n. one_step (Some n) j.name ≡ false) y.0 (each-map (IsFresh client drawn) (λ n. one_step (Some n) j.name ≡ false) news (λ n f. (fresh-none client drawn n j.name f d.0).0) fresh) y.1 in
      let stands : StandFor later h.items kept =
      stands-with live later h.items kept
      (each-map (HasDrawn client drawn) (λ (j : Item C). Each (λ n. one_step (Some n) j.name ≡ false) live → Each (λ n. one_step (Some n) j.name ≡ false) later) kept clear drawn_kept) R.stand in
      let lacking = s.each (Lacks gone) R.lacks in
      let both-free : (n : Name) → NoneUndoes n all → NoneUndoes n js → NoneUndoes n (all ++ js) = λ n x y. each-append (λ (i : Item C). one_step (Some n) i.undoes ≡ false) all js x y in
      let still-free : (side : List Name) → Each (λ n. NoneUndoes n all) side → Each (λ n. Each (λ j. same_name n j ≡ false) last) side → Each (λ n. NoneUndoes n (all ++ js)) side =
      λ side f a. each-map (λ n. NoneUndoes n all × Each (λ j. same_name n j ≡ false) last) (λ n. NoneUndoes n (all ++ js)) side (λ n x. both-free n x.0 (other n x.1))
      (each-both (λ n. NoneUndoes n all) (λ n. Each (λ j. same_name n j ≡ false) last) side f a) in
      let up : drawn ≤ more = omega (arith, low, count) in
      record {
        remembers = subst (λ ns. Remembers m rules ns first (steps ++ made) g.items) (sym live_are) (subst (λ is. Remembers m rules later first (steps ++ made) is) (sym items_are) (record {
          gone = R.gone;
          kept = R.kept ++ made;
          mid = R.mid;
          steps_are = ap (λ ss. ss ++ made) R.steps_are ∙ append_assoc R.gone R.kept made;
          reaches = R.reaches;
          stand = subst (StandFor later (h.items ++ js)) (sym tail) (stand-both later h.items kept js js stands (stand-same later js));
          lacks = put (Lacks gone) lacking.0 (each-map (IsFresh client drawn) (Lacks gone) news (λ n f. (fresh-names client drawn n gone f drawn_gone).1) fresh) lacking.1;
        }));
        tidy = subst (λ ns. IsTidy (items_from m rules first (steps ++ made)) ns) (sym live_are) (subst (λ is. IsTidy is later) (sym whole) (record {
          names_differ = names-both all js k.tidy.names_differ (numbered-names client serial js numbered)
              (each-map (HasDrawn client drawn) (λ (x : Item C). NotNamed x.name js) all (λ x d. numbered-not client x.name drawn serial js d.0 low numbered) drawn_all);
          once = once-both all js k.tidy.once once
              (λ n. ⊎_elim (λ (z : NoneUndoes n all). inl (none-tied n all z)) (λ (z : Each (λ j. same_name n j ≡ false) last). inr (none-tied n js (other n z))) (other-or-free all last n free.2));
          differ = split-differ client drawn live left right last news s fresh (numbered-differ client serial js numbered) low_sides.0 low_sides.1;
        }));
        live = subst (λ ns. Each (λ n. NoneUndoes n (items_from m rules first (steps ++ made))) ns) (sym live_are) (subst (λ is. Each (λ n. NoneUndoes n is) later) (sym whole)
            (put (λ n. NoneUndoes n (all ++ js)) (still-free left free.0 s.left_apart)
            (each-map (IsFresh client drawn) (λ n. NoneUndoes n (all ++ js)) news (λ n f. both-free n (fresh-names client drawn n all f drawn_all).2 (new_other n f)) fresh)
            (still-free right free.1 s.right_apart)));
        stand = subst (λ ns. Each (λ n. holds n (items_from m rules first (steps ++ made)) ≡ true) ns) (sym live_are) (subst (λ is. Each (λ n. holds n is ≡ true) later) (sym whole)
            (put (λ n. holds n (all ++ js) ≡ true) (each-map (λ n. holds n all ≡ true) (λ n. holds n (all ++ js) ≡ true) left (λ n x. holds-more n all js x) held.0)
            (each-map (λ n. holds n js ≡ true) (λ n. holds n (all ++ js) ≡ true) news (λ n x. holds-behind n all js x) (holds-own js))
            (each-map (λ n. holds n all ≡ true) (λ n. holds n (all ++ js) ≡ true) right (λ n x. holds-more n all js x) held.1)));
        drawn_are = subst (λ is. Each (HasDrawn client more) is) (sym whole) (each-append (HasDrawn client more) all js (all-later client drawn more all up drawn_all)
            (each-both (λ (j : Item C). IsDrawn client more j.name) (λ (j : Item C). IsDrawn client more j.undoes) js (numbered-drawn client serial more js (omega (arith, count)) numbered)
            (ties (IsDrawn client more) (each-map (λ n. IsDrawn client drawn (Some n)) (λ n. IsDrawn client more (Some n)) last (λ n d. (d.0, omega (arith, d.1, up))) low_sides.2))));
      }

names-with : (es : List Event) (made : Event) (ns : List Name) → made.names ≡ ns → names_of (with_event es made) ≡ names_of es ++ ns
names-with es made ns h = from made.names refl ∙ ap (λ xs. names_of es ++ xs) h
  where
    from : (xs : List Name) → made.names ≡ xs → names_of (with_event es made) ≡ names_of es ++ made.names
    from [] e = ap (λ zs. names_of (if (length zs == 0) then es else es ++ made ∷ [])) e ∙ sym (append-nil (names_of es)) ∙ ap (λ zs. names_of es ++ zs) (sym e)
    from (x ∷ xs) e =
        ap (λ zs. names_of (if (length zs == 0) then es else es ++ made ∷ [])) e
        ∙ ap (λ t. names_of (if t then es else es ++ made ∷ [])) (ne_eqb (length (x ∷ xs)) 0 (λ z. absurd (omega (arith, z))))
        ∙ names-append es (made ∷ []) ∙ ap (λ zs. names_of es ++ zs) (append-nil made.names)

module _ {Rules Doc Reason C : Type 0} (m : Meaning Rules Doc Reason C) (rules : Rules) where
  ties-of : (client serial : ℕ) (ns : List Name) (items : List (Item C)) (doc : Doc) (w : Undone Doc C) → w ≡ undo_event m rules client ns items doc serial
      → (P : Option Name → Type 0) → Each (λ n. P (Some n)) ns → Each (λ (j : Item C). P j.undoes) w.items
  ties-of client serial ns items doc w e P h = subst (λ (v : Undone Doc C). Each (λ (j : Item C). P j.undoes) v.items) (sym e) (event-ties m rules client P ns items doc serial h)

  module _ (laws : Laws m) (client drawn more serial : ℕ) (first doc : Doc) (steps : List (Step C)) (h : Branches C) (e made : Event) (w : Undone Doc C)
      (good : m.is_good rules first) (k : IsHistoryOf m rules client drawn first steps h) (f : fold m rules first (changes_of steps) ≡ Some doc) (low : drawn < serial)
      (is : w ≡ undo_event m rules client e.names h.items doc serial) (made_is : IsMade m rules client doc serial w) (count : w.serial ≡ more + 1) (names : made.names ≡ names_in w.items) where
    -- a history in which the steps made stand after the timeline, and the event's names have left the live ones
    history-goes-on : (g : Branches C) (left right : List Name) → IsSplit (live_names h) left right e.names → g.items ≡ h.items ++ w.items
        → live_names g ≡ (left ++ names_in w.items) ++ right → IsHistoryOf m rules client more first (steps ++ made_steps client serial w.made w.items) g
    history-goes-on g left right split items_are live_are =
        let shows = history-shows m rules laws (live_names h) first doc steps h.items good f k.remembers in
        history-more m rules client drawn more serial first doc steps (made_steps client serial w.made w.items) h g left right e.names w.items
        k f split items_are live_are made_is.items_are low (made-numbered m rules client doc w.doc serial w.made w.items made_is.as_many made_is.applies made_is.items_are)
        (omega (arith, made_is.as_many, made_is.serial_is, count)) (ties-of client serial e.names h.items doc w is)
        (subst (λ (v : Undone Doc C). Once v.items) (sym is) (event-once m rules client laws e.names h.items doc serial shows split.last_differ))

    undo-goes-on : (g : Branches C) (rest : List Event) → HaveLost h.undo e rest → g.items ≡ h.items ++ w.items → g.undo ≡ rest → g.redo ≡ with_event h.redo made
        → IsHistoryOf m rules client more first (steps ++ made_steps client serial w.made w.items) g
    undo-goes-on g rest l items_are undo_are redo_are =
        let news = names_in w.items in
        let left : List Name = (names_of l.front ++ names_of l.back) ++ names_of h.redo in
        let live : live_names h ≡ (names_of l.front ++ (e.names ++ names_of l.back)) ++ names_of h.redo = ap (λ ns. ns ++ names_of h.redo) (names-lost h.undo rest e l) in
        let others : names_of g.undo ≡ names_of l.front ++ names_of l.back = ap names_of (undo_are ∙ l.new_are) ∙ names-append l.front l.back in
        let new : live_names g ≡ (left ++ news) ++ [] =
        ap (λ es. names_of g.undo ++ names_of es) redo_are
        ∙ ap (λ ns. names_of g.undo ++ ns) (names-with h.redo made news names)
        ∙ ap (λ ns. ns ++ (names_of h.redo ++ news)) others
        ∙ sym (append_assoc (names_of l.front ++ names_of l.back) (names_of h.redo) news)
        ∙ sym (append-nil (left ++ news)) in
        history-goes-on g left [] (split-undo (live_names h) (names_of l.front) e.names (names_of l.back) (names_of h.redo) live k.tidy.differ) items_are new

    redo-goes-on : (g : Branches C) (rest : List Event) → HaveLost h.redo e rest → g.items ≡ h.items ++ w.items → g.redo ≡ rest → g.undo ≡ with_event h.undo made
        → IsHistoryOf m rules client more first (steps ++ made_steps client serial w.made w.items) g
    redo-goes-on g rest l items_are redo_are undo_are =
        let news = names_in w.items in
        let live : live_names h ≡ names_of h.undo ++ (names_of l.front ++ (e.names ++ names_of l.back)) = ap (λ ns. names_of h.undo ++ ns) (names-lost h.redo rest e l) in
        let others : names_of g.redo ≡ names_of l.front ++ names_of l.back = ap names_of (redo_are ∙ l.new_are) ∙ names-append l.front l.back in
        let new : live_names g ≡ (names_of h.undo ++ news) ++ (names_of l.front ++ names_of l.back) =
        ap (λ es. names_of es ++ names_of g.redo) undo_are
        ∙ ap (λ ns. ns ++ names_of g.redo) (names-with h.undo made news names)
        ∙ ap (λ ns. (names_of h.undo ++ news) ++ ns) others in
        history-goes-on g (names_of h.undo) (names_of l.front ++ names_of l.back)
        (split-redo (live_names h) (names_of h.undo) (names_of l.front) e.names (names_of l.back) live k.tidy.differ) items_are new

    -- The event that is taken was undone, or redone, on the document after the timeline: the steps made stand after it, and
    -- are an event of the other branch. Their names are new, and `more` is the last serial drawn.
    pub history-undone : (turn : Turn) → event_for turn h ≡ Some e → IsHistoryOf m rules client more first (steps ++ made_steps client serial w.made w.items) (undone turn h made w.items)
    history-undone Undo it = undo-goes-on (undone Undo h made w.items) (left_of Undo h) (taken Undo h e it) refl refl refl
    history-undone Redo it = redo-goes-on (undone Redo h made w.items) (left_of Redo h) (taken Redo h e it) refl refl refl
    history-undone (UndoEvent n) it = undo-goes-on (undone (UndoEvent n) h made w.items) (left_of (UndoEvent n) h) (taken (UndoEvent n) h e it) refl refl refl
