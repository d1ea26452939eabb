-- What keeps the serials parted while steps are carried over others' steps.
use Rattle.std.specs.Prelude.{◌≡◌, ℕ, ◌+◌, ◌≤◌, ◌<◌, ◌==◌, nat_lt, if◌then◌else◌, Bool, true, false, List, [], ◌∷◌, ◌++◌, Option, Some, None, Result, Ok, Err, refl}
use Rattle.std.specs.List.{AllByRecursion as Each}
use Rattle.std.proofs.Common.{sym, ap, ◌∙◌, subst, arith, append_assoc, append-nil}
use Rattle.std.proofs.lemmas.Bool.{ltb-true, ltb-false, eq-eqb}
use Rattle.pm_change.specs.Changes.{Meaning}
use Rattle.pm_authority.specs.declared.named.Named.{Named}
use Rattle.pm_client.specs.Rebases.{Rebasing, held, ended, led, rebased_one, rebased}
use Rattle.pm_client.specs.Kins.{IsOwn}
use Rattle.pm_client.specs.Serials.{times, serials_of, own_serials, Rises, put, merged, Parted}
use Rattle.pm_client.proofs.SerialLists.{times-append, serials-append, numbers-once}

-- each number is at most all later ones
abbrev InOrder : List ℕ → Type 0
InOrder [] = Unit {0}
InOrder (x ∷ xs) = Each (λ y. x ≤ y) xs × InOrder xs

in_order : (xs : List ℕ) → Rises xs → InOrder xs
in_order [] h = tt
in_order (x ∷ xs) h = (at_most x xs h.0, in_order xs h.1)
  where
    at_most : (x : ℕ) (xs : List ℕ) → Each (λ y. x < y) xs → Each (λ y. x ≤ y) xs
    at_most x [] h = tt
    at_most x (y ∷ ys) h = (omega (arith, h.0), at_most x ys h.1)

-- what stands in order, and nothing twice, rises
rises : (xs : List ℕ) → InOrder xs → ((s : ℕ) → times s xs ≤ 1) → Rises xs
rises [] h once = tt
rises (x ∷ xs) h once = (below x xs h.0 none, rises xs h.1 (λ s. omega (arith, once s)))
  where
    none : times x xs ≡ 0
    none = let e : (x == x) ≡ true = eq-eqb x x refl in let o : (if x == x then 1 else 0) + times x xs ≤ 1 = once x in let p : 1 + times x xs ≤ 1 = rw e at o in omega (arith, p)

    below : (x : ℕ) (xs : List ℕ) → Each (λ y. x ≤ y) xs → times x xs ≡ 0 → Each (λ y. x < y) xs
    below x [] h e = tt
    below x (y ∷ ys) h e = (above (y == x) refl, below x ys h.1 (omega (arith, e)))
      where
        above : (b : Bool) → (y == x) ≡ b → x < y
        above true t = let q : (if y == x then 1 else 0) + times x ys ≡ 0 = e in let r : 1 + times x ys ≡ 0 = rw t at q in absurd (omega (arith, r))
        above false t = omega (arith, h.0, differ t)
          where
            differ : (y == x) ≡ false → (y ≡ x → ⊥)
            differ t g = let u : (y == x) ≡ true = eq-eqb y x g in absurd (cc)

times-put : (s x : ℕ) (ds : List ℕ) → times s (put x ds) ≡ times s (x ∷ ds)
times-put s x [] = refl
times-put s x (d ∷ ds) = by-test (times-put s x ds) (nat_lt d x)
  where
    by-test : times s (put x ds) ≡ times s (x ∷ ds) → (b : Bool) → times s (if b then d ∷ put x ds else x ∷ d ∷ ds) ≡ times s (x ∷ d ∷ ds)
    by-test go true = omega (arith, go)
    by-test go false = refl

times-merged : (s : ℕ) (ds xs : List ℕ) → times s (merged ds xs) ≡ times s ds + times s xs
times-merged s ds [] = omega arith
times-merged s ds (x ∷ xs) = omega (arith, times-merged s (put x ds) xs, times-put s x ds)

each-put : (P : ℕ → Type 0) (x : ℕ) (ds : List ℕ) → P x → Each P ds → Each P (put x ds)
each-put P x [] p h = (p, tt)
each-put P x (d ∷ ds) p h = by-test (each-put P x ds p h.1) (nat_lt d x)
  where
    by-test : Each P (put x ds) → (b : Bool) → Each P (if b then d ∷ put x ds else x ∷ d ∷ ds)
    by-test go true = (h.0, go)
    by-test go false = (p, h)

order-put : (x : ℕ) (ds : List ℕ) → InOrder ds → InOrder (put x ds)
order-put x [] h = (tt, tt)
order-put x (d ∷ ds) h = by-test (order-put x ds h.1) (nat_lt d x) refl
  where
    each-ge : (x y : ℕ) (ds : List ℕ) → x ≤ y → Each (λ d. y ≤ d) ds → Each (λ d. x ≤ d) ds
    each-ge x y [] l h = tt
    each-ge x y (d ∷ ds) l h = (omega (arith, h.0), each-ge x y ds l h.1)

    by-test : InOrder (put x ds) → (b : Bool) → nat_lt d x ≡ b → InOrder (if b then d ∷ put x ds else x ∷ d ∷ ds)
    by-test go true e = (each-put (λ y. d ≤ y) x ds (omega (arith, ltb-true d x e)) h.0, go)
    by-test go false e = let l : x ≤ d = omega (arith, ltb-false d x e) in ((l, each-ge x d ds l h.0), h)

order-merged : (ds xs : List ℕ) → InOrder ds → InOrder (merged ds xs)
order-merged ds [] h = h
order-merged ds (x ∷ xs) h = order-merged (put x ds) xs (order-put x ds h)

-- a rising list without one of its numbers rises
rises-without : (xs : List ℕ) (y : ℕ) (ys : List ℕ) → Rises (xs ++ y ∷ ys) → Rises (xs ++ ys)
rises-without [] y ys h = h.1
rises-without (x ∷ xs) y ys h = (each-without (λ z. x < z) xs y ys h.0, rises-without xs y ys h.1)
  where
    each-without : (P : ℕ → Type 0) (xs : List ℕ) (y : ℕ) (ys : List ℕ) → Each P (xs ++ y ∷ ys) → Each P (xs ++ ys)
    each-without P [] y ys h = h.1
    each-without P (x ∷ xs) y ys h = (h.0, each-without P xs y ys h.1)

-- some pending steps are dropped
pub parted-dropped : {C : Type 0} (client : ℕ) (before pending kept : List (Named C)) (dropped gone : List ℕ) (drawn : ℕ) → Parted client before pending dropped drawn
    → ((s : ℕ) → times s (serials_of pending) ≡ times s (serials_of kept) + times s gone)
    → Rises (own_serials client before ++ serials_of kept) → Parted client before kept (merged dropped gone) drawn
parted-dropped client before pending kept dropped gone drawn h counted rise = record {
  parts = λ s. omega (arith, h.parts s, counted s, times-merged s dropped gone);
  rise = rise;
  dropped_rise = rises (merged dropped gone) (order-merged dropped gone (in_order dropped h.dropped_rise))
      (λ s. omega (arith, h.parts s, counted s, times-merged s dropped gone, numbers-once s drawn));
}

module _ {Rules Doc Reason C : Type 0} (m : Meaning Rules Doc Reason C) (rules : Rules) where
  held-times : (s : ℕ) (so : Rebasing C Rules Doc Reason) (n : Named C) (c : C) (d : Doc)
      → times s (serials_of (held m rules so n c d).kept) ≡ times s (serials_of so.kept) + times s (n.name.serial ∷ [])
  held-times s so n c d = ap (times s) (serials-append so.kept (record { name = n.name; change = c } ∷ [])) ∙ times-append s (serials_of so.kept) (n.name.serial ∷ [])

  -- a step is kept or dropped
  one-times : (s : ℕ) (so : Rebasing C Rules Doc Reason) (n : Named C)
      → times s (serials_of (rebased_one m rules so n).kept) + times s (rebased_one m rules so n).dropped
      ≡ times s (serials_of so.kept) + times s so.dropped + times s (n.name.serial ∷ [])
  one-times s so n = from (m.carry n.change so.maps)
    where
      gone : times s (serials_of so.kept) + times s (so.dropped ++ n.name.serial ∷ []) ≡ times s (serials_of so.kept) + times s so.dropped + times s (n.name.serial ∷ [])
      gone = omega (arith, times-append s so.dropped (n.name.serial ∷ []))

      tried : (c : C) (r : Result Doc Reason) → times s (serials_of (ended m rules so n c r).kept) + times s (ended m rules so n c r).dropped
          ≡ times s (serials_of so.kept) + times s so.dropped + times s (n.name.serial ∷ [])
      tried c (Ok d) = omega (arith, held-times s so n c d)
      tried c (Err r) = gone

      from : (o : Option C) → times s (serials_of (led m rules so n o).kept) + times s (led m rules so n o).dropped
          ≡ times s (serials_of so.kept) + times s so.dropped + times s (n.name.serial ∷ [])
      from None = gone
      from (Some c) = tried c (m.outcome rules c so.doc)

  -- each pending step is kept or dropped
  pub rebased-times : (s : ℕ) (so : Rebasing C Rules Doc Reason) (ns : List (Named C))
      → times s (serials_of (rebased m rules so ns).kept) + times s (rebased m rules so ns).dropped
      ≡ times s (serials_of so.kept) + times s so.dropped + times s (serials_of ns)
  rebased-times s so [] = omega arith
  rebased-times s so (n ∷ ns) = omega (arith, one-times s so n, rebased-times s (rebased_one m rules so n) ns)

  one-order : (xs ys : List ℕ) (so : Rebasing C Rules Doc Reason) (n : Named C) → Rises (xs ++ (serials_of so.kept ++ n.name.serial ∷ ys))
      → Rises (xs ++ (serials_of (rebased_one m rules so n).kept ++ ys))
  one-order xs ys so n h = from (m.carry n.change so.maps)
    where
      gone : Rises (xs ++ (serials_of so.kept ++ ys))
      gone =
          subst Rises (append_assoc xs (serials_of so.kept) ys)
          (rises-without (xs ++ serials_of so.kept) n.name.serial ys (subst Rises (sym (append_assoc xs (serials_of so.kept) (n.name.serial ∷ ys))) h))

      tried : (c : C) (r : Result Doc Reason) → Rises (xs ++ (serials_of (ended m rules so n c r).kept ++ ys))
      tried c (Ok d) =
          subst Rises
          (ap (λ l. xs ++ l) (sym (append_assoc (serials_of so.kept) (n.name.serial ∷ []) ys) ∙ ap (λ l. l ++ ys) (sym (serials-append so.kept (record { name = n.name; change = c } ∷ []))))) h
      tried c (Err r) = gone

      from : (o : Option C) → Rises (xs ++ (serials_of (led m rules so n o).kept ++ ys))
      from None = gone
      from (Some c) = tried c (m.outcome rules c so.doc)

  -- the kept steps' serials rise as the pending ones did
  pub rebased-order : (xs : List ℕ) (so : Rebasing C Rules Doc Reason) (ns : List (Named C)) → Rises (xs ++ (serials_of so.kept ++ serials_of ns))
      → Rises (xs ++ serials_of (rebased m rules so ns).kept)
  rebased-order xs so [] h = subst (λ l. Rises (xs ++ l)) (append-nil (serials_of so.kept)) h
  rebased-order xs so (n ∷ ns) h = rebased-order xs (rebased_one m rules so n) ns (one-order xs (serials_of ns) so n h)

  one-own : (client : ℕ) (so : Rebasing C Rules Doc Reason) (n : Named C) → IsOwn client n → Each (IsOwn client) so.kept → Each (IsOwn client) (rebased_one m rules so n).kept
  one-own client so n p h = from (m.carry n.change so.maps)
    where
      push : (xs : List (Named C)) (x : Named C) → Each (IsOwn client) xs → IsOwn client x → Each (IsOwn client) (xs ++ x ∷ [])
      push [] x h p = (p, tt)
      push (y ∷ xs) x h p = (h.0, push xs x h.1 p)

      tried : (c : C) (r : Result Doc Reason) → Each (IsOwn client) (ended m rules so n c r).kept
      tried c (Ok d) = push so.kept (record { name = n.name; change = c }) h p
      tried c (Err r) = h

      from : (o : Option C) → Each (IsOwn client) (led m rules so n o).kept
      from None = h
      from (Some c) = tried c (m.outcome rules c so.doc)

  -- the kept steps are the client's, as they were
  pub rebased-own : (client : ℕ) (so : Rebasing C Rules Doc Reason) (ns : List (Named C)) → Each (IsOwn client) so.kept → Each (IsOwn client) ns
      → Each (IsOwn client) (rebased m rules so ns).kept
  rebased-own client so [] k h = k
  rebased-own client so (n ∷ ns) k h = rebased-own client (rebased_one m rules so n) ns (one-own client so n h.0 k) h.1
