-- Lemmas: where a name stands among items whose serials rise.
use Rattle.std.specs.Prelude.{◌≡◌, ℕ, zero, suc, ◌+◌, ◌-◌, ◌<◌, ◌≤◌, ◌↔◌, ◌||◌, Bool, true, false, if◌then◌else◌, List, [], ◌∷◌, length, drop, get_or, Option, Some, None, IfSome, IsTrue, refl}
use Rattle.std.specs.List.{AllByRecursion as Each}
use Rattle.std.specs.Option.{is_some}
use Rattle.std.proofs.Common.{sym, ap, subst, ◌∙◌, ⊎_elim, arith}
use Rattle.std.proofs.Math.Seq.{drop-cons}
use Rattle.std.proofs.lemmas.Bool.{true≢false, cases_lt}
use Rattle.std.proofs.lemmas.List.{get_or_default}
use Rattle.pm_change.specs.declared.name.Name.{Name}
use Rattle.pm_history.specs.declared.item.Item.{Item}
use Rattle.pm_history.specs.Histories.{holds}
use Rattle.pm_history.specs.Items.{one_step}
use Rattle.pm_history.specs.Rising.{Rise, rank}
use Rattle.pm_history.specs.Tied.{undoes_of}
use Rattle.pm_history.specs.Tries.{first_of, item_from}
use Rattle.pm_history.specs.Undos.{find}
use Rattle.pm_history.proofs.Events.{one-name}
use Rattle.pm_history.proofs.Ties.{each-map}

-- a name of the step has its serial
named-rank : (n : Name) (o : Option Name) → one_step (Some n) o ≡ true → rank o ≡ n.serial + 1
named-rank n None h = absurd (true≢false (sym h))
named-rank n (Some m) h = let e = ap (λ (x : Name). suc x.serial) (one-name n m h) in omega (arith, e)

-- an earlier name, and a later one, is another's
other-name : (n : Name) (o : Option Name) → (rank o ≡ n.serial + 1 → ⊥) → one_step (Some n) o ≡ false
other-name n o apart = from (one_step (Some n) o) refl
  where
    from : (t : Bool) → one_step (Some n) o ≡ t → t ≡ false
    from true e = absurd (apart (named-rank n o e))
    from false e = refl

-- what a test that is told false leaves
pub not-below : (r : Bool) (a b : ℕ) → (IsTrue r ↔ (a < b)) → r ≡ false → b ≤ a
not-below r a b e f = ⊎_elim (λ (l : a < b). absurd (true≢false (sym (e.1 l) ∙ f))) (λ (l : b ≤ a). l) (cases_lt a b)

module _ {C : Type 0} where
  each-get : (P : Item C → Type 0) (is : List (Item C)) (k : ℕ) (d : Item C) → Each P is → k < length is → P (get_or is k d)
  each-get P [] k d h l = absurd (omega (arith, l))
  each-get P (i ∷ is) zero d h l = h.0
  each-get P (i ∷ is) (suc k) d h l = each-get P is k d h.1 (omega (arith, l))

  pub rise-at : (is : List (Item C)) (j k : ℕ) (d e : Item C) → Rise is → j < k → k < length is → rank (get_or is j d).name < rank (get_or is k e).name
  rise-at [] j k d e h l w = absurd (omega (arith, w))
  rise-at (i ∷ is) j zero d e h l w = absurd (omega (arith, l))
  rise-at (i ∷ is) zero (suc k) d e h l w = each-get (λ (x : Item C). rank i.name < rank x.name) is k e h.0 (omega (arith, w))
  rise-at (i ∷ is) (suc j) (suc k) d e h l w = rise-at is j k d e h.1 (omega (arith, l)) (omega (arith, w))

  -- one item more before those that rise
  rise-before : (i j : Item C) (js : List (Item C)) → rank i.name < rank j.name → Rise (j ∷ js) → Rise (i ∷ j ∷ js)
  rise-before i j js l h = ((l, each-map (λ (x : Item C). rank j.name < rank x.name) (λ x. rank i.name < rank x.name) js (λ x w. omega (arith, l, w)) h.0), h)

  pub rise-last : (is : List (Item C)) (k : ℕ) → length is ≤ k + 1 → Rise (drop k is)
  rise-last [] zero l = tt
  rise-last [] (suc k) l = tt
  rise-last (i ∷ []) zero l = (tt, tt)
  rise-last (i ∷ j ∷ js) zero l = absurd (omega (arith, l))
  rise-last (i ∷ is) (suc k) l = rise-last is k (omega (arith, l))

  pub rise-more : (is : List (Item C)) (k : ℕ) (d e : Item C) → 0 < k → k < length is → rank (get_or is (k - 1) d).name < rank (get_or is k e).name → Rise (drop k is) → Rise (drop (k - 1) is)
  rise-more is k d e z w l h =
      let one : suc (k - 1) ≡ k = omega (arith, z) in
      let rest : drop k is ≡ get_or is k e ∷ drop (suc k) is = drop-cons is k e w in
      subst Rise (sym (drop-cons is (k - 1) d (omega (arith, w)) ∙ ap (λ j. get_or is (k - 1) d ∷ drop j is) one ∙ ap (λ xs. get_or is (k - 1) d ∷ xs) rest))
      (rise-before (get_or is (k - 1) d) (get_or is k e) (drop (suc k) is) l (subst Rise rest h))

  find-none : (n : Name) (is : List (Item C)) → Each (λ i. one_step (Some n) i.name ≡ false) is → find n is ≡ None
  find-none n [] h = refl
  find-none n (i ∷ is) h = ap (λ t. if◌then◌else◌ {A = Option (Item C × List (Item C))} t (Some (i, is)) (find n is)) h.0 ∙ find-none n is h.1

  find-later : (n : Name) (i : Item C) (is : List (Item C)) → one_step (Some n) i.name ≡ false → find n (i ∷ is) ≡ find n is
  find-later n i is h = ap (λ t. if◌then◌else◌ {A = Option (Item C × List (Item C))} t (Some (i, is)) (find n is)) h

  -- the item of the name stands there
  pub find-there : (n : Name) (is : List (Item C)) (k : ℕ) (d : Item C) → k < length is → ((j : ℕ) (e : Item C) → j < k → rank (get_or is j e).name < n.serial + 1)
      → one_step (Some n) (get_or is k d).name ≡ true → find n is ≡ item_from is (Some k)
  find-there n [] k d l below h = absurd (omega (arith, l))
  find-there n (i ∷ is) zero d l below h = ap (λ t. if◌then◌else◌ {A = Option (Item C × List (Item C))} t (Some (i, is)) (find n is)) h
  find-there n (i ∷ is) (suc k) d l below h =
      let first = below 0 d (omega arith) in
      find-later n i is (other-name n i.name (λ e. omega (arith, e, first)))
      ∙ find-there n is k d (omega (arith, l)) (λ j e w. below (suc j) e (omega (arith, w))) h

  -- no item has the name
  pub find-gone : (n : Name) (is : List (Item C)) (k : ℕ) → Rise is → k ≤ length is → ((j : ℕ) (e : Item C) → j < k → rank (get_or is j e).name < n.serial + 1)
      → ((j : ℕ) (e : Item C) → k ≤ j → j < length is → n.serial + 1 ≤ rank (get_or is j e).name)
      → ((e : Item C) → k < length is → one_step (Some n) (get_or is k e).name ≡ false) → find n is ≡ None
  find-gone n [] k r l below above h = refl
  find-gone n (i ∷ is) zero r l below above h =
      let first = above 0 i (omega arith) (omega arith) in
      find-later n i is (h i (omega arith))
      ∙ find-none n is (each-map (λ (x : Item C). rank i.name < rank x.name) (λ x. one_step (Some n) x.name ≡ false) is (λ x w. other-name n x.name (λ e. omega (arith, e, w, first))) r.0)
  find-gone n (i ∷ is) (suc k) r l below above h =
      let first = below 0 i (omega arith) in
      find-later n i is (other-name n i.name (λ e. omega (arith, e, first)))
      ∙ find-gone n is k r.1 (omega (arith, l)) (λ j e w. below (suc j) e (omega (arith, w))) (λ j e w v. above (suc j) e (omega (arith, w)) (omega (arith, v))) (λ e w. h e (omega (arith, w)))

  -- whether an item has the name
  pub holds_found : (n : Name) (is : List (Item C)) → holds n is ≡ is_some (find n is)
  holds_found n [] = refl
  holds_found n (i ∷ is) = from (one_step (Some n) i.name) (holds_found n is)
    where
      from : (t : Bool) → holds n is ≡ is_some (find n is) → (t || holds n is) ≡ is_some (if◌then◌else◌ {A = Option (Item C × List (Item C))} t (Some (i, is)) (find n is))
      from true h = refl
      from false h = h

  -- what the item that was found undoes
  abbrev pub found_undoes : Option (Item C × List (Item C)) → Option Name
  found_undoes None = None
  found_undoes (Some p) = p.0.undoes

  pub undoes-found : (n : Name) (is : List (Item C)) → undoes_of (Some n) is ≡ found_undoes (find n is)
  undoes-found n [] = refl
  undoes-found n (i ∷ is) = from (one_step (Some n) i.name) (undoes-found n is)
    where
      from : (t : Bool) → undoes_of (Some n) is ≡ found_undoes (find n is)
          → if◌then◌else◌ {A = Option Name} t i.undoes (undoes_of (Some n) is) ≡ found_undoes (if◌then◌else◌ {A = Option (Item C × List (Item C))} t (Some (i, is)) (find n is))
      from true h = refl
      from false h = h

  pub item-there : (is : List (Item C)) (k : ℕ) (d : Item C) → k < length is → item_from is (Some k) ≡ Some (get_or is k d, drop (suc k) is)
  item-there is k d l = ap first_of (drop-cons is k d l)

  -- a place within them is that of an item
  pub some-there : (is : List (Item C)) (o : Option ℕ) → IfSome o (λ k. k < length is) → is_some o ≡ is_some (item_from is o)
  some-there is None h = refl
  some-there is (Some k) h = at is k h
    where
      at : (is : List (Item C)) (k : ℕ) → k < length is → true ≡ is_some (first_of (drop k is))
      at [] k l = absurd (omega (arith, l))
      at (i ∷ is) zero l = refl
      at (i ∷ is) (suc k) l = at is k (omega (arith, l))

  -- up to an item before a serial, and from one on that is not
  pub below-middle : (is : List (Item C)) (s m : ℕ) (e : Item C) → Rise is → m < length is → rank (get_or is m e).name < s
      → (k : ℕ) (d : Item C) → k < m + 1 → rank (get_or is k d).name < s
  below-middle is s m e h w l k d b =
      ⊎_elim (λ (t : k < m). let up = rise-at is k m d e h t w in omega (arith, up, l))
      (λ (t : m ≤ k).
      let same : k ≡ m = omega (arith, t, b) in
      subst (λ (x : Item C). rank x.name < s) (get_or_default is m e d w ∙ ap (λ (j : ℕ). get_or is j d) (sym same)) l)
      (cases_lt k m)

  pub above-middle : (is : List (Item C)) (s m : ℕ) (e : Item C) → Rise is → m < length is → s ≤ rank (get_or is m e).name
      → (k : ℕ) (d : Item C) → m ≤ k → k < length is → s ≤ rank (get_or is k d).name
  above-middle is s m e h w l k d a b =
      ⊎_elim (λ (t : m < k). let up = rise-at is m k e d h t b in omega (arith, up, l))
      (λ (t : k ≤ m).
      let same : k ≡ m = omega (arith, t, a) in
      subst (λ (x : Item C). s ≤ rank x.name) (get_or_default is m e d w ∙ ap (λ (j : ℕ). get_or is j d) (sym same)) l)
      (cases_lt m k)
