-- Items that stand for steps: what may be carried over them, and what an undo adds.
use Rattle.std.specs.Prelude.{◌≡◌, ℕ, ◌+◌, Bool, true, false, if◌then◌else◌, List, [], ◌∷◌, ◌++◌, Option, Some, None, Result, Ok, Err, refl}
use Rattle.std.specs.List.{AllByRecursion as Each}
use Rattle.std.proofs.Common.{sym, ap, subst, ◌∙◌, append_assoc, ⊎_elim, inl}
use Rattle.std.proofs.lemmas.List.Elements.{recursion_from_All}
use Rattle.pm_map.specs.Fits.{FitBetween, FitsSizes}
use Rattle.pm_change.specs.Changes.{Meaning, Laws}
use Rattle.pm_history.specs.declared.item.Item.{Item}
use Rattle.pm_change.specs.declared.name.Name.{Name}
use Rattle.pm_history.specs.declared.undoing.Undone.{Undone}
use Rattle.pm_history.specs.Items.{one_step}
use Rattle.pm_history.specs.Pairs.{paired}
use Rattle.pm_history.specs.Shows.{Shows}
use Rattle.pm_history.specs.Tries.{MayUndo, put_one}
use Rattle.pm_history.proofs.Keeps.{shows-append}
use Rattle.pm_history.specs.Undos.{find, then_made, own_item, where_applies, tried, put}

module _ {Rules Doc Reason C : Type 0} (m : Meaning Rules Doc Reason C) (rules : Rules) where
  -- the maps lead from the size of the one document to that of the other
  pub shows-fit : Laws m → (doc end : Doc) (is : List (Item C)) → m.is_good rules doc → Shows m rules doc is end → FitBetween (paired is) (m.size doc) (m.size end)
  shows-fit laws doc end [] good h = (laws.small rules doc good, ap m.size h)
  shows-fit laws doc end (i ∷ is) good h = (
    m.size h.1,
    (
      laws.small rules doc good,
      subst (λ rs. FitsSizes rs (m.size doc) (m.size h.1)) (sym h.3) (laws.fits rules h.0 doc h.1 good h.2),
      shows-fit laws h.1 end is (laws.good rules h.0 doc h.1 good h.2) h.5,
    ),
  )

  -- the steps of a stored inverse are within the document after its step
  pub may-found : Laws m → (n : Name) (items more : List (Item C)) (doc end : Doc) → m.is_good rules doc → Shows m rules doc (items ++ more) end
      → (i : Item C) (later : List (Item C)) → find n items ≡ Some (i, later) → MayUndo m rules i.inverse (later ++ more) end
  may-found laws n [] more doc end good h i later e = absurd (cc)
  may-found laws n (x ∷ xs) more doc end good h i later e =
      from (one_step (Some n) x.name) e (λ k. may-found laws n xs more h.1 end (laws.good rules h.0 doc h.1 good h.2) h.5 i later k)
    where
      none-within : (bs : List C) → bs ≡ [] → Each (λ b. m.is_within b (m.size h.1)) bs
      none-within bs z = subst (Each (λ b. m.is_within b (m.size h.1))) (sym z) tt

      here : MayUndo m rules x.inverse (xs ++ more) end
      here = record {
        base = h.1;
        good = laws.good rules h.0 doc h.1 good h.2;
        shows = h.5;
        within = ⊎_elim
            (λ (z : x.inverse ≡ m.inverse rules h.0 doc). subst (Each (λ b. m.is_within b (m.size h.1))) (sym z)
            (recursion_from_All _ (m.inverse rules h.0 doc) (laws.inverse_within rules h.0 doc h.1 good h.2)))
            (λ (z : x.inverse ≡ []). none-within x.inverse z) h.4;
      }

      from : (t : Bool) → (if t then Some (x, xs) else find n xs) ≡ Some (i, later) → (find n xs ≡ Some (i, later) → MayUndo m rules i.inverse (later ++ more) end)
          → MayUndo m rules i.inverse (later ++ more) end
      from true e go =
          let same : (x, xs) ≡ (i, later) = cc in
          subst (λ (p : Item C × List (Item C)). MayUndo m rules p.0.inverse (p.1 ++ more) end) same here
      from false e go = go e

module _ {Rules Doc Reason C : Type 0} (m : Meaning Rules Doc Reason C) (rules : Rules) (client : ℕ) where
  pub put-then : (o : Option (C × Doc)) (n : Name) (later : List (Item C)) (w : Undone Doc C) (go : List (Item C) → Doc → ℕ → Undone Doc C)
      → then_made w (put m rules client o n (later ++ w.items) w.doc w.serial go)
      ≡ then_made (put_one m rules client o n w) (go (later ++ (put_one m rules client o n w).items) (put_one m rules client o n w).doc (put_one m rules client o n w).serial)
  put-then None n later w go = refl
  put-then (Some p) n later w go =
      let i = own_item m rules client w.doc p.0 w.serial (Some n) in
      let at = λ (l : List (Item C)). go l p.1 (w.serial + 1) in
      let v = at (later ++ (w.items ++ i ∷ [])) in
      ap (λ l. record { doc = (at l).doc; serial = (at l).serial; made = w.made ++ p.0 ∷ (at l).made; items = w.items ++ i ∷ (at l).items }) (append_assoc later w.items (i ∷ []))
      ∙ ap (λ (xs : List C). record { doc = v.doc; serial = v.serial; made = xs; items = w.items ++ i ∷ v.items }) (sym (append_assoc w.made (p.0 ∷ []) v.made))
      ∙ ap (λ (xs : List (Item C)). record { doc = v.doc; serial = v.serial; made = (w.made ++ p.0 ∷ []) ++ v.made; items = xs }) (sym (append_assoc w.items (i ∷ []) v.items))

  -- the steps made are shown too
  pub put-shows : (base : Doc) (o : Option C) (n : Name) (later : List (Item C)) (w : Undone Doc C) → Shows m rules base (later ++ w.items) w.doc
      → Shows m rules base (later ++ (put_one m rules client (tried m rules client o w.doc) n w).items) (put_one m rules client (tried m rules client o w.doc) n w).doc
  put-shows base None n later w h = h
  put-shows base (Some c) n later w h = from (m.outcome rules c w.doc) refl
    where
      from : (r : Result Doc Reason) → m.outcome rules c w.doc ≡ r
          → Shows m rules base (later ++ (put_one m rules client (where_applies m rules client r c) n w).items) (put_one m rules client (where_applies m rules client r c) n w).doc
      from (Err e) z = h
      from (Ok d) z =
          let i = own_item m rules client w.doc c w.serial (Some n) in
          subst (λ l. Shows m rules base l d) (append_assoc later w.items (i ∷ [])) (shows-append m rules base w.doc d (later ++ w.items) (i ∷ []) h (c, d, z, refl, inl refl, refl))
