-- Lemmas: own items with serials one after another, after a timeline whose serials are lower.
use Rattle.std.specs.Prelude.{◌≡◌, ℕ, ◌+◌, ◌≤◌, ◌<◌, ◌==◌, ◌&&◌, ◌||◌, Bool, true, false, List, [], ◌∷◌, ◌++◌, length, Option, Some, None, refl}
use Rattle.std.specs.List.{AllByRecursion as Each}
use Rattle.std.proofs.Common.{sym, ap, subst, ◌∙◌, arith}
use Rattle.std.proofs.lemmas.Bool.{true≢false, eq-eqb}
use Rattle.pm_change.specs.declared.name.Name.{Name}
use Rattle.pm_change.specs.Changes.{Meaning, fold}
use Rattle.pm_change.proofs.Folds.{fold-cons}
use Rattle.pm_history.specs.declared.item.Item.{Item}
use Rattle.pm_history.specs.Items.{same_name, one_step}
use Rattle.pm_history.specs.Histories.{add_name, holds, names_in}
use Rattle.pm_history.specs.Timelines.{Step, next_items, items_from}
use Rattle.pm_history.specs.Tidy.{NotNamed, NamesDiffer, Differ}
use Rattle.pm_history.specs.Remembers.{Lacks}
use Rattle.pm_history.specs.Standing.{IsDrawn}
use Rattle.pm_history.specs.Made.{made_steps}
use Rattle.pm_history.proofs.Grows.{each-append}
use Rattle.pm_history.proofs.Edited.{IsFresh, fresh-other}
use Rattle.pm_history.proofs.Ties.{each-map}

-- own items of this client with serials from this one on
abbrev pub Numbered : {C : Type 0} → ℕ → ℕ → List (Item C) → Type 0
Numbered client serial [] = Unit {0}
Numbered client serial (i ∷ is) = (i.name ≡ Some (record { client = client; serial = serial })) × Numbered client (serial + 1) is

pub same-self : (n : Name) → same_name n n ≡ true
same-self n = both (n.client == n.client) (n.serial == n.serial) (eq-eqb n.client n.client refl) (eq-eqb n.serial n.serial refl)
  where
    both : (a b : Bool) → a ≡ true → b ≡ true → (a && b) ≡ true
    both true b x y = y
    both false b x y = x

module _ {C : Type 0} where
  not-both : (n : Option Name) (xs ys : List (Item C)) → NotNamed n xs → NotNamed n ys → NotNamed n (xs ++ ys)
  not-both None xs ys h k = tt
  not-both (Some n) xs ys h k = each-append (λ (i : Item C). one_step (Some n) i.name ≡ false) xs ys h k

  pub names-both : (xs ys : List (Item C)) → NamesDiffer xs → NamesDiffer ys → Each (λ x. NotNamed x.name ys) xs → NamesDiffer (xs ++ ys)
  names-both [] ys h k a = k
  names-both (x ∷ xs) ys h k a = (not-both x.name xs ys h.0 a.0, names-both xs ys h.1 k a.1)

  pub holds-behind : (n : Name) (xs ys : List (Item C)) → holds n ys ≡ true → holds n (xs ++ ys) ≡ true
  holds-behind n [] ys h = h
  holds-behind n (x ∷ xs) ys h = or-true (one_step (Some n) x.name) (holds n (xs ++ ys)) (holds-behind n xs ys h)
    where
      or-true : (a b : Bool) → b ≡ true → (a || b) ≡ true
      or-true true b e = refl
      or-true false b e = e

  -- the names of items are held by them
  pub holds-own : (is : List (Item C)) → Each (λ n. holds n is ≡ true) (names_in is)
  holds-own [] = tt
  holds-own (i ∷ is) = from i.name refl (each-map (λ n. holds n is ≡ true) (λ n. holds n (i ∷ is) ≡ true) (names_in is) (λ n h. holds-behind n (i ∷ []) is h) (holds-own is))
    where
      or-left : (a b : Bool) → a ≡ true → (a || b) ≡ true
      or-left true b h = refl
      or-left false b h = absurd (true≢false (sym h))

      from : (o : Option Name) → i.name ≡ o → Each (λ n. holds n (i ∷ is) ≡ true) (names_in is) → Each (λ n. holds n (i ∷ is) ≡ true) (add_name o (names_in is))
      from None e rest = rest
      from (Some n) e rest = (or-left (one_step (Some n) i.name) (holds n is) (ap (one_step (Some n)) e ∙ same-self n), rest)

module _ {C : Type 0} (client : ℕ) where
  names-first : (serial : ℕ) (i : Item C) (is : List (Item C)) → i.name ≡ Some (record { client = client; serial = serial })
      → names_in (i ∷ is) ≡ record { client = client; serial = serial } ∷ names_in is
  names-first serial i is e = ap (λ o. add_name o (names_in is)) e

  pub numbered-fresh : (drawn serial : ℕ) (is : List (Item C)) → drawn < serial → Numbered client serial is → Each (IsFresh client drawn) (names_in is)
  numbered-fresh drawn serial [] l h = tt
  numbered-fresh drawn serial (i ∷ is) l h =
      subst (Each (IsFresh client drawn)) (sym (names-first serial i is h.0)) ((refl, l), numbered-fresh drawn (serial + 1) is (omega (arith, l)) h.1)

  pub numbered-differ : (serial : ℕ) (is : List (Item C)) → Numbered client serial is → Differ (names_in is)
  numbered-differ serial [] h = tt
  numbered-differ serial (i ∷ is) h =
      let n : Name = record { client = client; serial = serial } in
      let fresh = numbered-fresh serial (serial + 1) is (omega arith) h.1 in
      subst Differ (sym (names-first serial i is h.0))
      (each-map (IsFresh client serial) (λ k. same_name n k ≡ false) (names_in is) (λ k f. (fresh-other client serial k n f (refl, omega arith)).1) fresh, numbered-differ (serial + 1) is h.1)

  -- a lower serial is none of theirs
  numbered-lacks : (n : Name) (drawn serial : ℕ) (is : List (Item C)) → IsDrawn client drawn (Some n) → drawn < serial → Numbered client serial is → Lacks is n
  numbered-lacks n drawn serial [] d l h = tt
  numbered-lacks n drawn serial (i ∷ is) d l h =
      let k : Name = record { client = client; serial = serial } in
      (ap (one_step (Some n)) h.0 ∙ (fresh-other client drawn k n (refl, l) d).1, numbered-lacks n drawn (serial + 1) is d (omega (arith, l)) h.1)

  pub numbered-not : (o : Option Name) (drawn serial : ℕ) (is : List (Item C)) → IsDrawn client drawn o → drawn < serial → Numbered client serial is → NotNamed o is
  numbered-not None drawn serial is d l h = tt
  numbered-not (Some n) drawn serial is d l h = numbered-lacks n drawn serial is d l h

  pub numbered-names : (serial : ℕ) (is : List (Item C)) → Numbered client serial is → NamesDiffer is
  numbered-names serial [] h = tt
  numbered-names serial (i ∷ is) h = (
    subst (λ o. NotNamed o is) (sym h.0) (numbered-lacks (record { client = client; serial = serial }) serial (serial + 1) is (refl, omega arith) (omega arith) h.1),
    numbered-names (serial + 1) is h.1,
  )

  pub numbered-drawn : (serial more : ℕ) (is : List (Item C)) → serial + length is ≤ more + 1 → Numbered client serial is → Each (λ (i : Item C). IsDrawn client more i.name) is
  numbered-drawn serial more [] l h = tt
  numbered-drawn serial more (i ∷ is) l h =
      (subst (IsDrawn client more) (sym h.0) (refl, omega (arith, l)), numbered-drawn (serial + 1) more is (omega (arith, l)) h.1)

module _ {Rules Doc Reason C : Type 0} (m : Meaning Rules Doc Reason C) (rules : Rules) (client : ℕ) where
  -- the items of the steps made are such items
  pub made-numbered : (doc end : Doc) (serial : ℕ) (cs : List C) (is : List (Item C)) → length is ≡ length cs → fold m rules doc cs ≡ Some end
      → is ≡ items_from m rules doc (made_steps client serial cs is) → Numbered client serial is
  made-numbered doc end serial cs [] l e h = tt
  made-numbered doc end serial [] (i ∷ is) l e h = absurd (omega (arith, l))
  made-numbered doc end serial (c ∷ cs) (i ∷ is) l e h =
      let f = fold-cons m rules doc end c cs e in
      let k : Item C = record { name = Some (record { client = client; serial = serial }); map = m.step_map c; inverse = m.inverse rules c doc; undoes = i.undoes } in
      let ss : List (Step C) = made_steps client (serial + 1) cs is in
      let whole : i ∷ is ≡ k ∷ next_items m rules (m.outcome rules c doc) (λ d. items_from m rules d ss) = h in
      let first : i ≡ k = cc in
      let behind : is ≡ next_items m rules (m.outcome rules c doc) (λ d. items_from m rules d ss) = cc in
      (ap (λ (j : Item C). j.name) first, made-numbered f.0 end (serial + 1) cs is (omega (arith, l)) f.2 (behind ∙ ap (λ r. next_items m rules r (λ d. items_from m rules d ss)) f.1))
