-- The test holds exactly where the items tell that the later steps lie apart from the event.
use Rattle.std.specs.Prelude.{◌≡◌, ◌==◌, ◌&&◌, ◌||◌, ◌⊎◌, ℕ, suc, ◌+◌, ◌≤◌, ◌<◌, Bool, true, false, if◌then◌else◌, nat_lt, List, [], ◌∷◌, ◌++◌, length, Option, Some, None, Result, Ok, Err, IfOk, ◌↔◌, refl}
use Rattle.std.specs.List.{AllByRecursion as Each}
use Rattle.std.proofs.Common.{arith, ap, sym, subst, ◌∙◌, ⊎_elim, inl, inr}
use Rattle.std.proofs.lemmas.Bool.{ltb-true, lt-ltb, eqb-true, and_parts, and_from, true≢false, cases_Bool}
use Rattle.pm_map.specs.declared.step_map.Span.{Span}
use Rattle.pm_map.specs.Stills.{AreApart}
use Rattle.pm_change.specs.declared.name.Name.{Name}
use Rattle.pm_history.specs.declared.item.Item.{Item}
use Rattle.pm_history.specs.Items.{same_name, one_step}
use Rattle.pm_history.specs.Tidy.{NotNamed, NamesDiffer}
use Rattle.pm_history.proofs.Restores.{same-self}
use Rattle.pm_selective.specs.declared.telling.Reach.{Reach}
use Rattle.pm_selective.specs.Apart.{IsBeyond, IsBeyondAll, IsApart, AreApartFrom, LieApart, moved_reaches, event_ranges}
use Rattle.pm_selective.specs.Told.{IsSpliceMap, AreSpliceMaps, item_maps, AreNamed, TellsApart}
use Rattle.pm_selective.specs.Tests.{is_beyond, beyond_all, apart_from, is_splice_map, all_splices, apart_behind, are_named, from_name, tells_from, tells}

or-parts : (a b : Bool) → (a || b) ≡ true → (a ≡ true) ⊎ (b ≡ true)
or-parts true b h = inl refl
or-parts false b h = inr h

or-left : (a b : Bool) → a ≡ true → (a || b) ≡ true
or-left a b h = ap (λ z. z || b) h

or-right : (a b : Bool) → b ≡ true → (a || b) ≡ true
or-right true b h = refl
or-right false b h = h

-- ---- apart

beyond-of : (r : Span) (x : Reach) → is_beyond r x ≡ true → IsBeyond r x
beyond-of r x h = ⊎_elim
    (λ (e : nat_lt (r.start + r.old_size) x.from ≡ true). inl (ltb-true (r.start + r.old_size) x.from e))
    (λ (e : nat_lt x.to r.start ≡ true). inr (ltb-true x.to r.start e))
    (or-parts (nat_lt (r.start + r.old_size) x.from) (nat_lt x.to r.start) h)

of-beyond : (r : Span) (x : Reach) → IsBeyond r x → is_beyond r x ≡ true
of-beyond r x h = ⊎_elim
    (λ (e : r.start + r.old_size < x.from). or-left (nat_lt (r.start + r.old_size) x.from) (nat_lt x.to r.start) (lt-ltb (r.start + r.old_size) x.from e))
    (λ (e : x.to < r.start). or-right (nat_lt (r.start + r.old_size) x.from) (nat_lt x.to r.start) (lt-ltb x.to r.start e))
    h

all-of : (r : Span) (xs : List Reach) → beyond_all r xs ≡ true → IsBeyondAll r xs
all-of r [] h = tt
all-of r (x ∷ xs) h = let p = and_parts (is_beyond r x) (beyond_all r xs) h in (beyond-of r x p.0, all-of r xs p.1)

of-all : (r : Span) (xs : List Reach) → IsBeyondAll r xs → beyond_all r xs ≡ true
of-all r [] h = refl
of-all r (x ∷ xs) h = and_from _ _ (of-beyond r x h.0) (of-all r xs h.1)

apart-of : (l : List Span) (xs : List Reach) → apart_from l xs ≡ true → IsApart l xs
apart-of [] xs h = tt
apart-of (r ∷ rs) xs h = let p = and_parts (beyond_all r xs) (apart_from rs xs) h in (all-of r xs p.0, apart-of rs xs p.1)

of-apart : (l : List Span) (xs : List Reach) → IsApart l xs → apart_from l xs ≡ true
of-apart [] xs h = refl
of-apart (r ∷ rs) xs h = and_from _ _ (of-all r xs h.0) (of-apart rs xs h.1)

-- ---- kinds

raise : (rs : List Span) (from : ℕ) (s : Span) → AreApart (s ∷ rs) 0 → from ≤ s.start → AreApart (s ∷ rs) from
raise rs from s h k = (k, h.1)

splice-of : (m : List Span) → is_splice_map m ≡ true → IsSpliceMap m
splice-of [] h = absurd (true≢false (sym h))
splice-of (r ∷ []) h = (omega arith, tt)
splice-of (r ∷ s ∷ rs) h =
    let p = and_parts (nat_lt (r.start + r.old_size) s.start) (is_splice_map (s ∷ rs)) h in
    let q = ltb-true (r.start + r.old_size) s.start p.0 in
    (omega arith, raise rs (r.start + r.old_size + 1) s (splice-of (s ∷ rs) p.1) (omega (arith, q)))

of-splice : (m : List Span) → IsSpliceMap m → is_splice_map m ≡ true
of-splice [] h = absurd h
of-splice (r ∷ []) h = refl
of-splice (r ∷ s ∷ rs) h = and_from _ _ (lt-ltb (r.start + r.old_size) s.start (omega (arith, h.1.0))) (of-splice (s ∷ rs) (omega arith, h.1.1))

-- ---- names

name-is : (a b : Name) → same_name a b ≡ true → b ≡ a
name-is a b h =
    let p = and_parts (a.client == b.client) (a.serial == b.serial) h in
    ap (λ z. record { client = z; serial = b.serial }) (sym (eqb-true a.client b.client p.0)) ∙ ap (λ z. record { client = a.client; serial = z }) (sym (eqb-true a.serial b.serial p.1))

step-is : (n : Name) (o : Option Name) → one_step (Some n) o ≡ true → o ≡ Some n
step-is n None h = absurd (true≢false (sym h))
step-is n (Some k) h = ap (λ z. Some z) (name-is n k h)

of-step : (n : Name) (o : Option Name) → o ≡ Some n → one_step (Some n) o ≡ true
of-step n o h = ap (λ z. one_step (Some n) z) h ∙ same-self n

same-turned : (a b : Name) → same_name a b ≡ true → same_name b a ≡ true
same-turned a b h = ap (λ z. same_name z a) (name-is a b h) ∙ same-self a

module _ {C : Type 0} where
  pub record Parted (xs : List (Item C)) (is : List (Item C)) : Type 0 where
    pub front : List (Item C)
    pub are : is ≡ front ++ xs

  from-split : (n : Name) (is : List (Item C)) → Parted (from_name n is) is
  from-split n [] = record { front = []; are = refl }
  from-split n (i ∷ is) = at (one_step (Some n) i.name) (from-split n is)
    where
      at : (t : Bool) → Parted (from_name n is) is → Parted (if t then i ∷ is else from_name n is) (i ∷ is)
      at true p = record { front = []; are = refl }
      at false p = record { front = i ∷ p.front; are = ap (λ z. i ∷ z) p.are }

  record Named (ns : List Name) (is : List (Item C)) : Type 0 where
    event : List (Item C)
    later : List (Item C)
    are : is ≡ event ++ later
    named : AreNamed ns event
    long : length event ≡ length ns

  named-of : (ns : List Name) (is : List (Item C)) → are_named ns is ≡ true → Named ns is
  named-of [] is h = record { event = []; later = is; are = refl; named = tt; long = refl }
  named-of (n ∷ ns) [] h = absurd (true≢false (sym h))
  named-of (n ∷ ns) (i ∷ is) h =
      let p = and_parts (one_step (Some n) i.name) (are_named ns is) h in
      let r = named-of ns is p.1 in
      record { event = i ∷ r.event; later = r.later; are = ap (λ z. i ∷ z) r.are; named = (step-is n i.name p.0, r.named); long = ap suc r.long }

  of-named : (ns : List Name) (event later : List (Item C)) → AreNamed ns event → (are_named ns (event ++ later) ≡ true) × (length event ≡ length ns)
  of-named [] [] later h = (refl, refl)
  of-named [] (i ∷ is) later h = absurd h
  of-named (n ∷ ns) [] later h = absurd h
  of-named (n ∷ ns) (i ∷ is) later h = let r = of-named ns is later h.1 in (and_from _ _ (of-step n i.name h.0) r.0, ap suc r.1)

  splices-of : (xs ys : List (Item C)) → all_splices (xs ++ ys) ≡ true → AreSpliceMaps (item_maps xs) × AreSpliceMaps (item_maps ys)
  splices-of [] [] h = (tt, tt)
  splices-of [] (y ∷ ys) h = let p = and_parts (is_splice_map y.map) (all_splices ys) h in (tt, (splice-of y.map p.0, (splices-of [] ys p.1).1))
  splices-of (x ∷ xs) ys h =
      let p = and_parts (is_splice_map x.map) (all_splices (xs ++ ys)) h in
      let r = splices-of xs ys p.1 in
      ((splice-of x.map p.0, r.0), r.1)

  of-splices : (xs ys : List (Item C)) → AreSpliceMaps (item_maps xs) → AreSpliceMaps (item_maps ys) → all_splices (xs ++ ys) ≡ true
  of-splices [] [] h k = refl
  of-splices [] (y ∷ ys) h k = and_from _ _ (of-splice y.map k.0) (of-splices [] ys tt k.1)
  of-splices (x ∷ xs) ys h k = and_from _ _ (of-splice x.map h.0) (of-splices xs ys h.1 k)

  -- the event's items join their ranges
  behind-event : (event later : List (Item C)) (xs : List Reach) → apart_behind (length event) xs (event ++ later) ≡ apart_behind 0 (event_ranges (item_maps event) xs) later
  behind-event [] later xs = refl
  behind-event (i ∷ is) later xs = behind-event is later _

  behind-of : (is : List (Item C)) (xs : List Reach) → apart_behind 0 xs is ≡ true → AreApartFrom xs (item_maps is)
  behind-of [] xs h = tt
  behind-of (i ∷ is) xs h =
      let p = and_parts (apart_from i.map xs) (apart_behind 0 (moved_reaches i.map xs) is) h in
      (apart-of i.map xs p.0, behind-of is (moved_reaches i.map xs) p.1)

  of-behind : (is : List (Item C)) (xs : List Reach) → AreApartFrom xs (item_maps is) → apart_behind 0 xs is ≡ true
  of-behind [] xs h = refl
  of-behind (i ∷ is) xs h = and_from _ _ (of-apart i.map xs h.0) (of-behind is (moved_reaches i.map xs) h.1)

  at-end : (P : Item C → Type 0) (xs : List (Item C)) (i : Item C) (rest : List (Item C)) → Each P (xs ++ i ∷ rest) → P i
  at-end P [] i rest h = h.0
  at-end P (x ∷ xs) i rest h = at-end P xs i rest h.1

  from-at : (n : Name) (front : List (Item C)) (i : Item C) (later : List (Item C)) → i.name ≡ Some n → NamesDiffer (front ++ i ∷ later) → from_name n (front ++ i ∷ later) ≡ i ∷ later
  from-at n [] i later e h = ap (λ t. if t then i ∷ later else from_name n later) (of-step n i.name e)
  from-at n (x ∷ xs) i later e h =
      ap (λ t. if t then x ∷ (xs ++ i ∷ later) else from_name n (xs ++ i ∷ later)) (other x.name h.0) ∙ from-at n xs i later e h.1
    where
      other : (o : Option Name) → NotNamed o (xs ++ i ∷ later) → one_step (Some n) o ≡ false
      other None h = refl
      other (Some k) h =
          let f : same_name k n ≡ false = ap (λ o. one_step (Some k) o) (sym e) ∙ at-end (λ j. one_step (Some k) j.name ≡ false) xs i later h in
          ⊎_elim (λ (t : same_name n k ≡ true). absurd (true≢false (sym (same-turned n k t) ∙ f))) (λ (t : same_name n k ≡ false). t) (cases_Bool (same_name n k))

  -- what the test tells
  pub tells-of : (ns : List Name) (is : List (Item C)) → tells ns is ≡ true → TellsApart ns is
  tells-of [] is h = absurd (true≢false (sym h))
  tells-of (n ∷ ns) is h =
      let since = from_name n is in
      let f = from-split n is in
      let p = and_parts (are_named (n ∷ ns) since) (all_splices since && apart_behind (suc (length ns)) [] since) h in
      let q = and_parts (all_splices since) (apart_behind (suc (length ns)) [] since) p.1 in
      let r = named-of (n ∷ ns) since p.0 in
      let s = splices-of r.event r.later (ap all_splices (sym r.are) ∙ q.0) in
      record {
        front = f.front;
        event = r.event;
        later = r.later;
        items_are = f.are ∙ ap (λ z. f.front ++ z) r.are;
        some = omega arith;
        named = r.named;
        event_splices = s.0;
        later_splice = s.1;
        apart = behind-of r.later (event_ranges (item_maps r.event) [])
            (sym (behind-event r.event r.later []) ∙ ap (λ k. apart_behind k [] (r.event ++ r.later)) r.long ∙ ap (apart_behind (suc (length ns)) []) (sym r.are) ∙ q.1);
      }

  -- where the names differ, what is so is told
  pub of-tells : (ns : List Name) (is : List (Item C)) → NamesDiffer is → TellsApart ns is → tells ns is ≡ true
  of-tells [] is d t = absurd (omega (arith, t.some))
  of-tells (n ∷ ns) is d t = go t.event t.named t.items_are t.event_splices t.apart
    where
      go : (event : List (Item C)) → AreNamed (n ∷ ns) event → is ≡ t.front ++ (event ++ t.later) → AreSpliceMaps (item_maps event) → LieApart (item_maps event) (item_maps t.later) → tells (n ∷ ns) is ≡ true
      go [] named are splices apart = absurd named
      go (i ∷ event) named are splices apart =
          let since : from_name n is ≡ i ∷ (event ++ t.later) = ap (from_name n) are ∙ from-at n t.front i (event ++ t.later) named.0 (subst NamesDiffer are d) in
          let r = of-named (n ∷ ns) (i ∷ event) t.later named in
          ap (tells_from (n ∷ ns)) since
          ∙ and_from _ _ r.0 (and_from _ _ (of-splices (i ∷ event) t.later splices t.later_splice)
          (ap (λ k. apart_behind k [] (i ∷ (event ++ t.later))) (sym r.1) ∙ behind-event (i ∷ event) t.later [] ∙ of-behind t.later (event_ranges (item_maps (i ∷ event)) []) apart))

  pub told-all : {E : Type 0} → (o : Result Bool E) (ns : List Name) (is : List (Item C)) → NamesDiffer is → IfOk o (λ b. b ≡ tells ns is) → IfOk o (λ b. (b ≡ true) ↔ TellsApart ns is)
  told-all (Ok b) ns is d h = (λ e. tells-of ns is (sym h ∙ e), λ t. h ∙ of-tells ns is d t)
  told-all (Err e) ns is d h = tt
