-- Lemmas for histories that grow: items go on standing for the steps of a timeline.
use Rattle.std.specs.Prelude.{◌≡◌, ◌⊎◌, Bool, true, false, if◌then◌else◌, List, [], ◌∷◌, ◌++◌, Some, None, Ok, refl}
use Rattle.std.specs.List.{AllByRecursion as Each}
use Rattle.std.proofs.Common.{sym, subst, ◌∙◌, ⊎_elim, inl, inr}
use Rattle.pm_change.specs.declared.name.Name.{Name}
use Rattle.pm_change.specs.Changes.{Meaning, Laws, fold}
use Rattle.pm_change.proofs.Folds.{fold-cons}
use Rattle.pm_history.specs.declared.item.Item.{Item}
use Rattle.pm_history.specs.Items.{one_step}
use Rattle.pm_history.specs.Timelines.{Step, changes_of, item_at, items_from, next_items}
use Rattle.pm_history.specs.Shows.{Shows, ShowsTo}
use Rattle.pm_history.specs.Remembers.{StandsFor, StandFor}

module _ {Rules Doc Reason C : Type 0} (m : Meaning Rules Doc Reason C) (rules : Rules) where
  pub shows-append : (doc mid end : Doc) (xs ys : List (Item C)) → Shows m rules doc xs mid → Shows m rules mid ys end → Shows m rules doc (xs ++ ys) end
  shows-append doc mid end [] ys h k = subst (λ d. Shows m rules d ys end) (sym h) k
  shows-append doc mid end (x ∷ xs) ys h k = (h.0, h.1, h.2, h.3, h.4, shows-append h.1 mid end xs ys h.5 k)

  pub shows-good : Laws m → (doc end : Doc) (is : List (Item C)) → m.is_good rules doc → Shows m rules doc is end → m.is_good rules end
  shows-good laws doc end [] good h = subst (m.is_good rules) h good
  shows-good laws doc end (i ∷ is) good h = shows-good laws h.1 end is (laws.good rules h.0 doc h.1 good h.2) h.5

  -- one step more
  pub shows-more : (items : List (Item C)) (doc next : Doc) (c : C) (i : Item C) → ShowsTo m rules items doc → m.outcome rules c doc ≡ Ok next
      → i.map ≡ m.step_map c → (i.inverse ≡ m.inverse rules c doc) ⊎ (i.inverse ≡ []) → ShowsTo m rules (items ++ i ∷ []) next
  shows-more items doc next c i h e map inv = (h.0, h.1, shows-append h.0 doc next items (i ∷ []) h.2 (c, next, e, map, inv, refl))

  -- the document after the items is good
  pub shows-end : Laws m → (items : List (Item C)) (doc : Doc) → ShowsTo m rules items doc → m.is_good rules doc
  shows-end laws items doc h = shows-good laws h.0 doc items h.1 h.2

  item-stands : (live : List Name) (doc next end : Doc) (s : Step C) (i : Item C) (is : List (Item C)) → m.outcome rules s.change doc ≡ Ok next
      → StandsFor live i (item_at m rules doc s) → Shows m rules next is end → Shows m rules doc (i ∷ is) end
  item-stands live doc next end s i is e h rest = (
    s.change,
    next,
    e,
    h.map_is ∙ map_of s.own,
    from s.own h.inverse_is,
    rest,
  )
    where
      map_of : (t : Bool) → (if◌then◌else◌ {A = Item C} t (record { name = Some s.name; map = m.step_map s.change; inverse = m.inverse rules s.change doc; undoes = s.undoes })
          (record { name = None; map = m.step_map s.change; inverse = []; undoes = None })).map ≡ m.step_map s.change
      map_of true = refl
      map_of false = refl

      from : (t : Bool) → (i.inverse ≡ (if◌then◌else◌ {A = Item C} t (record { name = Some s.name; map = m.step_map s.change; inverse = m.inverse rules s.change doc; undoes = s.undoes })
          (record { name = None; map = m.step_map s.change; inverse = []; undoes = None })).inverse) ⊎ ((i.inverse ≡ []) × Each (λ n. one_step (Some n) (item_at m rules doc s).name ≡ false) live)
          → (i.inverse ≡ m.inverse rules s.change doc) ⊎ (i.inverse ≡ [])
      from true k = ⊎_elim (λ (z : i.inverse ≡ m.inverse rules s.change doc). inl z) (λ (z : (i.inverse ≡ []) × Each (λ n. one_step (Some n) (item_at m rules doc s).name ≡ false) live). inr z.0) k
      from false k = ⊎_elim (λ (z : i.inverse ≡ []). inr z) (λ (z : (i.inverse ≡ []) × Each (λ n. one_step (Some n) (item_at m rules doc s).name ≡ false) live). inr z.0) k

  pub stand-shows : (live : List Name) (doc end : Doc) (ss : List (Step C)) (items : List (Item C)) → StandFor live items (items_from m rules doc ss)
      → fold m rules doc (changes_of ss) ≡ Some end → Shows m rules doc items end
  stand-shows live doc end [] [] h e = some-end doc end e
    where
      some-end : (a b : Doc) → Some a ≡ Some b → a ≡ b
      some-end a b e = cc
  stand-shows live doc end [] (i ∷ items) h e = absurd h
  stand-shows live doc end (s ∷ ss) [] h e = absurd h
  stand-shows live doc end (s ∷ ss) (i ∷ items) h e =
      let f = fold-cons m rules doc end s.change (changes_of ss) e in
      let rest : StandFor live items (items_from m rules f.0 ss) = subst (λ r. StandFor live items (next_items m rules r (λ d. items_from m rules d ss))) f.1 h.1 in
      item-stands live doc f.0 end s i items f.1 h.0 (stand-shows live f.0 end ss items rest f.2)
