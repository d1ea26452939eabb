-- An undo reads of the items no more than their names, maps and ties, and the changes that undo the event's steps.
use Rattle.std.specs.Prelude.{◌≡◌, ℕ, ◌+◌, ◌&&◌, Bool, true, false, if◌then◌else◌, List, [], ◌∷◌, ◌++◌, Option, Some, None, refl}
use Rattle.std.specs.List.{AllByRecursion as Each}
use Rattle.std.proofs.Common.{sym, ap, ◌∙◌, ⊎_elim}
use Rattle.std.proofs.lemmas.Bool.{true≢false}
use Rattle.pm_map.specs.declared.step_map.Span.{Span}
use Rattle.pm_map.specs.Mirrors.{may_mirror}
use Rattle.pm_change.specs.declared.name.Name.{Name}
use Rattle.pm_change.specs.Changes.{Meaning, Laws}
use Rattle.pm_change.proofs.Folds.{fold-good}
use Rattle.pm_history.specs.declared.item.Item.{Item}
use Rattle.pm_history.specs.declared.undoing.Undone.{Undone}
use Rattle.pm_history.specs.Items.{one_step}
use Rattle.pm_history.specs.Pairs.{later_in, one_more, paired}
use Rattle.pm_history.specs.Tidy.{NoRangeUndoes, IsTidy}
use Rattle.pm_history.specs.Timelines.{Step, changes_of, items_from}
use Rattle.pm_history.specs.Unchanged.{NothingSince}
use Rattle.pm_history.specs.Undos.{find, then_made, own_item, tried, put, undo_steps, undo_found, undo_event}
use Rattle.pm_history.specs.Remembers.{Lacks, StandsFor, StandFor, Remembers}
use Rattle.pm_history.proofs.Folding.{items-append}
use Rattle.pm_history.proofs.Since.{event-unchanged}

-- the changes that undo the step of a live name are kept
abbrev IsKept : (C : Type 0) → List Name → Name → Type 0
IsKept C live n = (i j : Item C) → StandsFor live i j → one_step (Some n) j.name ≡ true → i.inverse ≡ j.inverse

all-kept : (C : Type 0) (live ns : List Name) → ((P : Name → Type 0) → Each P live → Each P ns) → Each (IsKept C live) ns
all-kept C live [] pick = tt
all-kept C live (n ∷ ns) pick = (
  λ i j s t. ⊎_elim (λ (e : i.inverse ≡ j.inverse). e)
      (λ (none : (i.inverse ≡ []) × Each (λ k. one_step (Some k) j.name ≡ false) live). absurd (true≢false (sym t ∙ (pick (λ k. one_step (Some k) j.name ≡ false) none.1).0))) s.inverse_is,
  all-kept C live ns (λ P h. (pick P h).1),
)

module _ {C : Type 0} where
  -- the same name, map and tie
  record Agrees (i j : Item C) : Type 0 where
    pub name_is : i.name ≡ j.name
    pub map_is : i.map ≡ j.map
    pub undoes_is : i.undoes ≡ j.undoes

  abbrev Agree : List (Item C) → List (Item C) → Type 0
  Agree [] [] = Unit {0}
  Agree [] (j ∷ js) = ⊥
  Agree (i ∷ is) [] = ⊥
  Agree (i ∷ is) (j ∷ js) = Agrees i j × Agree is js

  agree-same : (is : List (Item C)) → Agree is is
  agree-same [] = tt
  agree-same (i ∷ is) = (record { name_is = refl; map_is = refl; undoes_is = refl }, agree-same is)

  agree-append : (is js xs : List (Item C)) → Agree is js → Agree (is ++ xs) (js ++ xs)
  agree-append [] [] xs h = agree-same xs
  agree-append [] (j ∷ js) xs h = absurd h
  agree-append (i ∷ is) [] xs h = absurd h
  agree-append (i ∷ is) (j ∷ js) xs h = (h.0, agree-append is js xs h.1)

  later-agree : (n : Option Name) (rs : List Span) (is js : List (Item C)) → Agree is js → later_in n rs is ≡ later_in n rs js
  later-agree n rs [] [] h = refl
  later-agree n rs [] (j ∷ js) h = absurd h
  later-agree n rs (i ∷ is) [] h = absurd h
  later-agree n rs (i ∷ is) (j ∷ js) h =
      ap (λ o. if one_step n o && may_mirror rs i.map then Some 0 else one_more (later_in n rs is)) h.0.undoes_is
      ∙ ap (λ map. if one_step n j.undoes && may_mirror rs map then Some 0 else one_more (later_in n rs is)) h.0.map_is
      ∙ ap (λ o. if one_step n j.undoes && may_mirror rs j.map then Some 0 else one_more o) (later-agree n rs is js h.1)

  paired-agree : (is js : List (Item C)) → Agree is js → paired is ≡ paired js
  paired-agree [] [] h = refl
  paired-agree [] (j ∷ js) h = absurd h
  paired-agree (i ∷ is) [] h = absurd h
  paired-agree (i ∷ is) (j ∷ js) h =
      ap (λ n. record { map = i.map; later = later_in n i.map is } ∷ paired is) h.0.name_is
      ∙ ap (λ map. record { map = map; later = later_in j.name map is } ∷ paired is) h.0.map_is
      ∙ ap (λ o. record { map = j.map; later = o } ∷ paired is) (later-agree j.name j.map is js h.1)
      ∙ ap (λ ms. record { map = j.map; later = later_in j.name j.map js } ∷ ms) (paired-agree is js h.1)

  stand-agree : (live : List Name) (is js : List (Item C)) → StandFor live is js → Agree is js
  stand-agree live [] [] h = tt
  stand-agree live [] (j ∷ js) h = absurd h
  stand-agree live (i ∷ is) [] h = absurd h
  stand-agree live (i ∷ is) (j ∷ js) h = (record { name_is = h.0.name_is; map_is = h.0.map_is; undoes_is = h.0.undoes_is }, stand-agree live is js h.1)

  find-past : (n : Name) (front items : List (Item C)) → Lacks front n → find n (front ++ items) ≡ find n items
  find-past n [] items h = refl
  find-past n (x ∷ xs) items h = ap (λ t. if t then Some (x, xs ++ items) else find n (xs ++ items)) h.0 ∙ find-past n xs items h.1

module _ {Rules Doc Reason C : Type 0} (m : Meaning Rules Doc Reason C) (rules : Rules) (client : ℕ) where
  steps-agree : (n : Name) (bs : List C) (is js : List (Item C)) (doc : Doc) (serial : ℕ) → Agree is js
      → undo_steps m rules client n bs is doc serial ≡ undo_steps m rules client n bs js doc serial
  steps-agree n [] is js doc serial h = refl
  steps-agree n (b ∷ bs) is js doc serial h =
      ap (λ ms. put m rules client (tried m rules client (m.carry b ms) doc) n is doc serial (λ l d s. undo_steps m rules client n bs l d s)) (paired-agree is js h)
      ∙ from (tried m rules client (m.carry b (paired js)) doc) (λ xs ys d s k. steps-agree n bs xs ys d s k)
    where
      from : (o : Option (C × Doc)) → ((xs ys : List (Item C)) (d : Doc) (s : ℕ) → Agree xs ys → undo_steps m rules client n bs xs d s ≡ undo_steps m rules client n bs ys d s)
          → put m rules client o n is doc serial (λ l d s. undo_steps m rules client n bs l d s) ≡ put m rules client o n js doc serial (λ l d s. undo_steps m rules client n bs l d s)
      from None go = go is js doc serial h
      from (Some p) go =
          let i = own_item m rules client doc p.0 serial (Some n) in
          ap (λ (w : Undone Doc C). record { doc = w.doc; serial = w.serial; made = p.0 ∷ w.made; items = i ∷ w.items })
          (go (is ++ i ∷ []) (js ++ i ∷ []) p.1 (serial + 1) (agree-append is js (i ∷ []) h))

  found-agree : (live : List Name) (n : Name) (is js made : List (Item C)) (doc : Doc) (serial : ℕ) → StandFor live is js → IsKept C live n
      → undo_found m rules client n (find n is) made doc serial ≡ undo_found m rules client n (find n js) made doc serial
  found-agree live n [] [] made doc serial h k = refl
  found-agree live n [] (j ∷ js) made doc serial h k = absurd h
  found-agree live n (i ∷ is) [] made doc serial h k = absurd h
  found-agree live n (i ∷ is) (j ∷ js) made doc serial h k =
      ap (λ o. undo_found m rules client n (if one_step (Some n) o then Some (i, is) else find n is) made doc serial) h.0.name_is
      ∙ from (one_step (Some n) j.name) refl (found-agree live n is js made doc serial h.1 k)
    where
      from : (t : Bool) → one_step (Some n) j.name ≡ t
          → undo_found m rules client n (find n is) made doc serial ≡ undo_found m rules client n (find n js) made doc serial
          → undo_found m rules client n (if t then Some (i, is) else find n is) made doc serial ≡ undo_found m rules client n (if t then Some (j, js) else find n js) made doc serial
      from true e go =
          ap (λ bs. undo_steps m rules client n bs (is ++ made) doc serial) (k i j h.0 e)
          ∙ steps-agree n j.inverse (is ++ made) (js ++ made) doc serial (agree-append is js made (stand-agree live is js h.1))
      from false e go = go

  event-agree : (live ns : List Name) (is js : List (Item C)) (doc : Doc) (serial : ℕ) → StandFor live is js → Each (IsKept C live) ns
      → undo_event m rules client ns is doc serial ≡ undo_event m rules client ns js doc serial
  event-agree live [] is js doc serial h k = refl
  event-agree live (n ∷ ns) is js doc serial h k =
      let w = undo_event m rules client ns is doc serial in
      ap (λ v. then_made w v) (found-agree live n is js w.items w.doc w.serial h k.0)
      ∙ ap (λ (v : Undone Doc C). then_made v (undo_found m rules client n (find n js) v.items v.doc v.serial)) (event-agree live ns is js doc serial h k.1)

  -- what stands before an event's first step does not matter to its undo
  pub event-past : (ns : List Name) (front items : List (Item C)) (doc : Doc) (serial : ℕ) → Each (Lacks front) ns
      → undo_event m rules client ns (front ++ items) doc serial ≡ undo_event m rules client ns items doc serial
  event-past [] front items doc serial h = refl
  event-past (n ∷ ns) front items doc serial h =
      ap (λ o. let w = undo_event m rules client ns (front ++ items) doc serial in then_made w (undo_found m rules client n o w.items w.doc w.serial)) (find-past n front items h.0)
      ∙ ap (λ (w : Undone Doc C). then_made w (undo_found m rules client n (find n items) w.items w.doc w.serial)) (event-past ns front items doc serial h.1)

  -- an undo over the items kept is the undo over the whole timeline
  pub undo-remembered : (live ns : List Name) (first : Doc) (steps : List (Step C)) (items : List (Item C)) (doc : Doc) (serial : ℕ)
      → ((P : Name → Type 0) → Each P live → Each P ns) → Remembers m rules live first steps items
      → undo_event m rules client ns items doc serial ≡ undo_event m rules client ns (items_from m rules first steps) doc serial
  undo-remembered live ns first steps items doc serial pick h =
      let front = items_from m rules first h.gone in
      let kept = items_from m rules h.mid h.kept in
      event-agree live ns items kept doc serial h.stand (all-kept C live ns pick)
      ∙ sym (event-past ns front kept doc serial (pick (Lacks front) h.lacks))
      ∙ ap (λ is. undo_event m rules client ns is doc serial) (sym (items-append m rules first h.mid h.gone h.kept h.reaches))
      ∙ ap (λ ss. undo_event m rules client ns (items_from m rules first ss) doc serial) (sym h.steps_are)

  -- where nothing has changed since the event, it restores the earlier document
  pub undo-restores : Laws m → (ns : List Name) (first : Doc) (steps : List (Step C)) (items : List (Item C)) (before doc : Doc) (serial : ℕ) → m.is_good rules first
      → Remembers m rules ns first steps items → IsTidy (items_from m rules first steps) ns → Each (λ n. NoRangeUndoes (Some n) (items_from m rules first steps)) ns → NothingSince m rules ns first steps before doc
      → (undo_event m rules client ns items doc serial).doc ≡ before
  undo-restores laws ns first steps items before doc serial good h tidy free since =
      ap (λ (w : Undone Doc C). w.doc) (undo-remembered ns ns first steps items doc serial (λ P k. k) h)
      ∙ event-unchanged m rules client laws ns (items_from m rules first steps) before doc serial
      (fold-good m rules laws first before (changes_of since.earlier) good since.reaches) tidy free since.since since.ends since.reads
      (items_from m rules first since.earlier) (ap (λ ss. items_from m rules first ss) since.steps_are ∙ items-append m rules first before since.earlier since.since since.reaches)
