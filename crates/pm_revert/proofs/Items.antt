-- The items of entries, from which it is told whether later ones lie apart.
use Rattle.std.specs.Prelude.{◌≡◌, ◌==◌, ◌&&◌, ℕ, ◌+◌, ◌≤◌, ◌<◌, suc, Bool, true, false, List, [], ◌∷◌, ◌++◌, length, map, Option, Some, None, refl}
use Rattle.std.specs.List.{AllByRecursion as Each}
use Rattle.std.proofs.Common.{arith, ap, sym, subst, ◌∙◌, inr}
use Rattle.std.proofs.lemmas.Bool.{eqb-true, and_parts, true≢false}
use Rattle.pm_map.specs.declared.step_map.Span.{Span}
use Rattle.pm_change.specs.declared.name.Name.{Name}
use Rattle.pm_change.specs.Changes.{Meaning, Laws, fold}
use Rattle.pm_change.proofs.Folds.{fold-cons}
use Rattle.pm_authority.specs.declared.named.Named.{Named}
use Rattle.pm_authority.specs.Runs.{changes_of, AllApply}
use Rattle.pm_history.specs.declared.item.Item.{Item}
use Rattle.pm_history.specs.Items.{same_name, one_step}
use Rattle.pm_history.specs.Shows.{Shows}
use Rattle.pm_history.specs.Tidy.{NotNamed, NamesDiffer}
use Rattle.pm_history.proofs.Restores.{same-self}
use Rattle.pm_selective.specs.Told.{item_maps, AreNamed}
use Rattle.pm_selective.specs.Tests.{FitItems}
use Rattle.pm_selective.proofs.Readings.{shows-fit}
use Rattle.pm_revert.specs.Items.{name_at, names_from, own_at, own_items, other_at, other_items}

-- ---- lists

pub record Cut {A : Type 0} (xs ys zs ws : List A) : Type 0 where
  pub front : xs ≡ zs
  pub back : ys ≡ ws

-- lists that are equal fall into equal parts where the first parts are as long
pub cut : {A : Type 0} (xs ys zs ws : List A) → xs ++ ys ≡ zs ++ ws → length xs ≡ length zs → Cut xs ys zs ws
cut [] ys [] ws e l = record { front = refl; back = e }
cut [] ys (z ∷ zs) ws e l = absurd (omega (arith, l))
cut (x ∷ xs) ys [] ws e l = absurd (omega (arith, l))
cut (x ∷ xs) ys (z ∷ zs) ws e l =
    let h : x ≡ z = cc in
    let t : xs ++ ys ≡ zs ++ ws = cc in
    let c = cut xs ys zs ws t (omega (arith, l)) in
    record { front = ap (λ a. a ∷ xs) h ∙ ap (λ rest. z ∷ rest) c.front; back = c.back }

-- ---- names

not-same : (i j : ℕ) → i < j → same_name (name_at i) (name_at j) ≡ false
not-same i j l = from (same_name (name_at i) (name_at j)) refl
  where
    from : (t : Bool) → same_name (name_at i) (name_at j) ≡ t → t ≡ false
    from false e = refl
    from true e =
        let p = and_parts (0 == 0) (i == j) e in
        let same : i ≡ j = eqb-true i j p.1 in
        absurd (omega (arith, same, l))

module _ {C : Type 0} where
  names-length : (i : ℕ) (ns : List (Named C)) → length (names_from i ns) ≡ length ns
  names-length i [] = refl
  names-length i (n ∷ ns) = ap suc (names-length (i + 1) ns)

  named-length : (names : List Name) (is : List (Item C)) → AreNamed names is → length is ≡ length names
  named-length [] [] h = refl
  named-length [] (i ∷ is) h = absurd h
  named-length (n ∷ ns) [] h = absurd h
  named-length (n ∷ ns) (i ∷ is) h = ap suc (named-length ns is h.1)

  at-middle : (P : Item C → Type 0) (xs : List (Item C)) (i : Item C) (rest : List (Item C)) → Each P (xs ++ (i ∷ rest)) → P i
  at-middle P [] i rest h = h.0
  at-middle P (x ∷ xs) i rest h = at-middle P xs i rest h.1

module _ {Rules Doc Reason C : Type 0} (m : Meaning Rules Doc Reason C) where
  -- ---- what the items have

  pub own-length : (i : ℕ) (ns : List (Named C)) → length (own_items m i ns) ≡ length ns
  own-length i [] = refl
  own-length i (n ∷ ns) = ap suc (own-length (i + 1) ns)

  pub own-named : (i : ℕ) (ns : List (Named C)) → AreNamed (names_from i ns) (own_items m i ns)
  own-named i [] = tt
  own-named i (n ∷ ns) = (refl, own-named (i + 1) ns)

  pub own-maps : (i : ℕ) (ns : List (Named C)) → item_maps (own_items m i ns) ≡ map m.step_map (changes_of ns)
  own-maps i [] = refl
  own-maps i (n ∷ ns) = ap (λ ms. m.step_map n.change ∷ ms) (own-maps (i + 1) ns)

  pub other-maps : (ns : List (Named C)) → item_maps (other_items m ns) ≡ map m.step_map (changes_of ns)
  other-maps [] = refl
  other-maps (n ∷ ns) = ap (λ ms. m.step_map n.change ∷ ms) (other-maps ns)

  -- ---- they differ

  others-not : (i : ℕ) (ls : List (Named C)) → NotNamed (Some (name_at i)) (other_items m ls)
  others-not i [] = tt
  others-not i (l ∷ ls) = (refl, others-not i ls)

  own-not : (i j : ℕ) (ns ls : List (Named C)) → i < j → NotNamed (Some (name_at i)) (own_items m j ns ++ other_items m ls)
  own-not i j [] ls l = others-not i ls
  own-not i j (n ∷ ns) ls l = (not-same i j l, own-not i (j + 1) ns ls (omega arith))

  others-differ : (ls : List (Named C)) → NamesDiffer (other_items m ls)
  others-differ [] = tt
  others-differ (l ∷ ls) = (tt, others-differ ls)

  pub items-differ : (i : ℕ) (ns ls : List (Named C)) → NamesDiffer (own_items m i ns ++ other_items m ls)
  items-differ i [] ls = others-differ ls
  items-differ i (n ∷ ns) ls = (own-not i (i + 1) ns ls (omega arith), items-differ (i + 1) ns ls)

  -- ---- the items with these names are the first ones

  pub record Found (ns ls : List (Named C)) (event later : List (Item C)) : Type 0 where
    pub event_is : event ≡ own_items m 0 ns
    pub later_is : later ≡ other_items m ls

  pub found : (ns ls : List (Named C)) (front event later : List (Item C)) → own_items m 0 ns ++ other_items m ls ≡ front ++ (event ++ later) → 0 < length (names_from 0 ns) → AreNamed (names_from 0 ns) event
      → Found ns ls event later
  found ns ls [] event later e some named =
      let c = cut event later (own_items m 0 ns) (other_items m ls) (sym e) (named-length (names_from 0 ns) event named ∙ names-length 0 ns ∙ sym (own-length 0 ns)) in
      record { event_is = c.front; later_is = c.back }
  found [] ls (f ∷ front) event later e some named = absurd (omega (arith, some))
  found (n ∷ ns) ls (f ∷ front) [] later e some named = absurd named
  found (n ∷ ns) ls (f ∷ front) (v ∷ event) later e some named =
      let tails : own_items m 1 ns ++ other_items m ls ≡ front ++ (v ∷ (event ++ later)) = cc in
      let not : NotNamed (Some (name_at 0)) (own_items m 1 ns ++ other_items m ls) = own-not 0 1 ns ls (omega arith) in
      let here : one_step (Some (name_at 0)) v.name ≡ false = at-middle (λ i. one_step (Some (name_at 0)) i.name ≡ false) front v (event ++ later) (subst (NotNamed (Some (name_at 0))) tails not) in
      let is : one_step (Some (name_at 0)) v.name ≡ true = ap (one_step (Some (name_at 0))) named.0 ∙ same-self (name_at 0) in
      absurd (true≢false (sym is ∙ here))

module _ {Rules Doc Reason C : Type 0} (m : Meaning Rules Doc Reason C) (rules : Rules) where
  -- ---- they fit the sizes of documents

  others-show : (ls : List (Named C)) (doc end : Doc) → AllApply m rules doc ls end → Shows m rules doc (other_items m ls) end
  others-show [] doc end h = let e : doc ≡ end = cc in e
  others-show (l ∷ ls) doc end h =
      let f = fold-cons m rules doc end l.change (changes_of ls) h in
      (l.change, f.0, f.1, refl, inr refl, others-show ls f.0 end f.2)

  own-show : (i : ℕ) (ns ls : List (Named C)) (doc mid end : Doc) → AllApply m rules doc ns mid → AllApply m rules mid ls end → Shows m rules doc (own_items m i ns ++ other_items m ls) end
  own-show i [] ls doc mid end h k = let e : mid ≡ doc = cc in others-show ls doc end (subst (λ d. AllApply m rules d ls end) e k)
  own-show i (n ∷ ns) ls doc mid end h k =
      let f = fold-cons m rules doc mid n.change (changes_of ns) h in
      (n.change, f.0, f.1, refl, inr refl, own-show (i + 1) ns ls f.0 mid end f.2 k)

  pub items-fit : Laws m → (ns ls : List (Named C)) (doc mid end : Doc) → m.is_good rules doc → AllApply m rules doc ns mid → AllApply m rules mid ls end → FitItems (own_items m 0 ns ++ other_items m ls)
  items-fit laws ns ls doc mid end good h k =
      (m.size doc, shows-fit m rules laws (own_items m 0 ns ++ other_items m ls) doc end good (own-show 0 ns ls doc mid end h k))
