-- The laws of a step on one paragraph.
use Rattle.std.specs.Prelude.{◌≡◌, ◌⊎◌, ℕ, zero, suc, ◌+◌, ◌-◌, ◌≤◌, ◌<◌, Bool, true, false, nat_lt, not, ◌&&◌, ◌||◌, ◌==◌, if◌then◌else◌, List, [], ◌∷◌, ◌++◌, length, map, take, drop, Some, None, Ok, Err, refl}
use Rattle.std.proofs.Common.{arith, sym, ap, ◌∙◌, inl, inr, length-append, length-take, length-drop, append_assoc}
use Rattle.std.proofs.Math.Seq.{drop-append_seam}
use Rattle.std.proofs.lemmas.List.{take-append-drop}
use Rattle.std.proofs.lemmas.List.Elements.{All-from_recursion}
use Rattle.std.proofs.lemmas.Bool.Decides.{nat_tests}
use Rattle.pm_map.specs.declared.side.Side.TheVariants.{Before, After}
use Rattle.pm_map.specs.declared.mapping.Mirrored.{Mirrored}
use Rattle.pm_map.specs.Through.{through}
use Rattle.pm_map.specs.Fits.{FitsSizes, new_size_of}
use Rattle.pm_map.specs.Stills.{MovesNothing}
use Rattle.pm_change.specs.Changes.{Laws, HasInverseMap, fold}
use Rattle.pm_change.proofs.Folds.{fold-cons}
use Rattle.pm_flat.specs.declared.flat.Replace.{Replace}
use Rattle.pm_flat.specs.declared.flat.Reason.TheVariants.{Range, Depth, Large, Content}
use Rattle.pm_flat.specs.Flat.{meaning, outcome, size, max_size, is_inside, is_empty, same, spliced, back_step, range_of, raised, carried, is_within}
use Rattle.std.proofs.lemmas.Bool.{and_parts, or_parts}

-- A step applied: between two positions inside the paragraph, or it took out nothing and put in nothing.
pub record Inside (step : Replace) (doc next : List ℕ) : Type 0 where
  pub ordered : step.from ≤ step.to
  pub first : 1 ≤ step.from
  pub last : step.to ≤ size doc - 1
  pub small : size doc - (step.to - step.from) + length step.text ≤ max_size
  pub is : next ≡ spliced step doc

pub record Outside (step : Replace) (doc next : List ℕ) : Type 0 where
  pub at : step.from ≡ step.to
  pub nothing : length step.text ≡ 0
  pub within : step.to ≤ size doc
  pub apart : is_inside (size doc) step.from ≡ false
  pub is : next ≡ doc

both_inside : (a b : Bool) → a ≡ true → not (same a b) ≡ false → b ≡ true
both_inside true true g h = refl
both_inside true false g h = absurd (cc)
both_inside false b g h = absurd (cc)

limits : (from to n more : ℕ) → nat_lt to from ≡ false → nat_lt n to ≡ false → nat_lt max_size (n - (to - from) + more) ≡ false
    → is_inside n from ≡ true → is_inside n to ≡ true → (from ≤ to) × (1 ≤ from) × (to ≤ n - 1) × (n - (to - from) + more ≤ max_size)
limits from to n more a b c d e = grind (arith, nat_tests)

no_more : (from to n : ℕ) → nat_lt n to ≡ false → (from == to) ≡ true → (more : ℕ) → (more == 0) ≡ true → (from ≡ to) × (more ≡ 0) × (to ≤ n)
no_more from to n a b more c = grind (arith, nat_tests)

-- the tests one after another, each with what it says
by_tests : (step : Replace) (doc next : List ℕ) (out apart large in_it empty : Bool)
    → (nat_lt step.to step.from || nat_lt (size doc) step.to) ≡ out → not (same (is_inside (size doc) step.from) (is_inside (size doc) step.to)) ≡ apart
    → nat_lt max_size (size doc - (step.to - step.from) + length step.text) ≡ large → is_inside (size doc) step.from ≡ in_it → is_empty step ≡ empty
    → (if out then Err Range else (if apart then Err Depth else (if large then Err Large else (if in_it then Ok (spliced step doc) else (if empty then Ok doc else Err (Content 0)))))) ≡ Ok next
    → Inside step doc next ⊎ Outside step doc next
by_tests step doc next true apart large in_it empty a b c d e h = absurd (cc)
by_tests step doc next false true large in_it empty a b c d e h = absurd (cc)
by_tests step doc next false false true in_it empty a b c d e h = absurd (cc)
by_tests step doc next false false false true empty a b c d e h =
    let r = or_parts (nat_lt step.to step.from) (nat_lt (size doc) step.to) a in
    let l = limits step.from step.to (size doc) (length step.text) r.0 r.1 c d (both_inside (is_inside (size doc) step.from) (is_inside (size doc) step.to) d b) in
    let same_doc : spliced step doc ≡ next = cc in
    inl (record { ordered = l.0; first = l.1; last = l.2; small = l.3; is = sym same_doc })
by_tests step doc next false false false false true a b c d e h =
    let r = or_parts (nat_lt step.to step.from) (nat_lt (size doc) step.to) a in
    let t = and_parts (step.from == step.to) (length step.text == 0) e in
    let n = no_more step.from step.to (size doc) r.1 t.0 (length step.text) t.1 in
    let same_doc : doc ≡ next = cc in
    inr (record { at = n.0; nothing = n.1; within = n.2; apart = d; is = sym same_doc })
by_tests step doc next false false false false false a b c d e h = absurd (cc)

pub applied : (step : Replace) (doc next : List ℕ) → outcome step doc ≡ Ok next → Inside step doc next ⊎ Outside step doc next
applied step doc next h = by_tests step doc next _ _ _ _ _ refl refl refl refl refl h

-- the outcome where the tests say so
inside_tests : (from to n more : ℕ) → from ≤ to → 1 ≤ from → to ≤ n - 1 → n - (to - from) + more ≤ max_size
    → ((nat_lt to from || nat_lt n to) ≡ false) × (not (same (is_inside n from) (is_inside n to)) ≡ false) × (nat_lt max_size (n - (to - from) + more) ≡ false) × (is_inside n from ≡ true)
inside_tests from to n more a b c d =
    let t : is_inside n from ≡ true = grind (arith, nat_tests) in
    let u : is_inside n to ≡ true = grind (arith, nat_tests) in
    (grind (arith, nat_tests), rw (t, u) refl, grind (arith, nat_tests), t)

inside-outcome : (step : Replace) (doc : List ℕ) → step.from ≤ step.to → 1 ≤ step.from → step.to ≤ size doc - 1
    → size doc - (step.to - step.from) + length step.text ≤ max_size → outcome step doc ≡ Ok (spliced step doc)
inside-outcome step doc a b c d = let t = inside_tests step.from step.to (size doc) (length step.text) a b c d in rw (t.0, t.1, t.2, t.3) refl

same-self : (b : Bool) → not (same b b) ≡ false
same-self true = refl
same-self false = refl

outside_tests : (from to n more : ℕ) → from ≡ to → to ≤ n → more ≡ 0 → n ≤ max_size
    → ((nat_lt to from || nat_lt n to) ≡ false) × (nat_lt max_size (n - (to - from) + more) ≡ false) × ((from == to) ≡ true) × ((more == 0) ≡ true)
outside_tests from to n more a b c d = (grind (arith, nat_tests), grind (arith, nat_tests), grind (arith, nat_tests), grind (arith, nat_tests))

outside-outcome : (step : Replace) (doc : List ℕ) → step.from ≡ step.to → step.to ≤ size doc → length step.text ≡ 0 → size doc ≤ max_size
    → is_inside (size doc) step.from ≡ false → outcome step doc ≡ Ok doc
outside-outcome step doc a b c d e =
    let t = outside_tests step.from step.to (size doc) (length step.text) a b c d in
    let u : not (same (is_inside (size doc) step.from) (is_inside (size doc) step.to)) ≡ false =
    rw a (same-self (is_inside (size doc) step.to)) in
    rw (t.0, u, t.1, e, t.2, t.3) refl

spliced-size : (step : Replace) (doc : List ℕ) → step.from ≤ step.to → 1 ≤ step.from → step.to ≤ size doc - 1
    → size (spliced step doc) ≡ (size doc - (step.to - step.from)) + length step.text
spliced-size step doc a b c = omega (arith, length-append {A = ℕ}, length-take {A = ℕ}, length-drop {A = ℕ})

-- the text that a step takes out is as long as its range
out-length : (step : Replace) (doc : List ℕ) → step.from ≤ step.to → 1 ≤ step.from → step.to ≤ size doc - 1
    → length (take (step.to - step.from) (drop (step.from - 1) doc)) ≡ step.to - step.from
out-length step doc a b c = omega (arith, length-take {A = ℕ}, length-drop {A = ℕ})

-- three parts of a list, the middle one exchanged and put back
take-seam : (xs ys : List ℕ) (k : ℕ) → length xs ≡ k → take k (xs ++ ys) ≡ xs
take-seam xs ys k e = rw (← e) (seam xs ys)
  where
    seam : (xs ys : List ℕ) → take (length xs) (xs ++ ys) ≡ xs
    seam [] [] = refl
    seam [] (y ∷ ys) = refl
    seam (x ∷ xs) ys = ap (λ l. x ∷ l) (seam xs ys)

drop-none : (k : ℕ) (xs : List ℕ) → xs ≡ [] → drop k xs ≡ []
drop-none zero xs none = none
drop-none (suc k) [] none = refl
drop-none (suc k) (x ∷ xs) none = absurd (cc)

drop-drop : (a b : ℕ) (xs : List ℕ) → drop a (drop b xs) ≡ drop (b + a) xs
drop-drop a zero xs = let e : 0 + a ≡ a = omega arith in rw e refl
drop-drop a (suc b) [] = drop-none a [] refl ∙ sym (drop-none (suc b + a) [] refl)
drop-drop a (suc b) (x ∷ xs) = let e : suc b + a ≡ suc (b + a) = omega arith in rw e (drop-drop a b xs)

put-back : (step : Replace) (doc : List ℕ) → step.from ≤ step.to → 1 ≤ step.from → step.to ≤ size doc - 1
    → spliced (back_step step doc) (spliced step doc) ≡ doc
put-back step doc a b c =
    let front : List ℕ = take (step.from - 1) doc in
    let out : List ℕ = take (step.to - step.from) (drop (step.from - 1) doc) in
    let rest : List ℕ = drop (step.to - 1) doc in
    let n : length front ≡ step.from - 1 = omega (arith, length-take {A = ℕ}) in
    let k : length (front ++ step.text) ≡ step.from + length step.text - 1 = omega (arith, n, length-append front step.text) in
    let one : take (step.from - 1) (front ++ step.text ++ rest) ≡ front =
    ap (take (step.from - 1)) (append_assoc front step.text rest) ∙ take-seam front (step.text ++ rest) (step.from - 1) n in
    let two : drop (step.from + length step.text - 1) (front ++ step.text ++ rest) ≡ rest =
    rw (← k) (drop-append_seam (front ++ step.text) rest) in
    let at : step.from - 1 + (step.to - step.from) ≡ step.to - 1 = omega (arith, a, b) in
    let three : out ++ rest ≡ drop (step.from - 1) doc =
    ap (λ l. out ++ l) (sym (drop-drop (step.to - step.from) (step.from - 1) doc ∙ ap (λ i. drop i doc) at))
    ∙ take-append-drop (step.to - step.from) (drop (step.from - 1) doc) in
    rw (one, two) (append_assoc front out rest ∙ ap (λ l. front ++ l) three ∙ take-append-drop (step.from - 1) doc)

-- what undoes a step gives the document before it
back-outcome : (step : Replace) (doc next : List ℕ) → size doc ≤ max_size → outcome step doc ≡ Ok next → outcome (back_step step doc) next ≡ Ok doc
back-outcome step doc next good h = from (applied step doc next h)
  where
    from : Inside step doc next ⊎ Outside step doc next → outcome (back_step step doc) next ≡ Ok doc
    from (inl p) =
        let n = spliced-size step doc p.ordered p.first p.last in
        let k = out-length step doc p.ordered p.first p.last in
        rw p.is
        (inside-outcome (back_step step doc) (spliced step doc) (omega arith) p.first (omega (arith, n, p.ordered, p.last)) (omega (arith, n, k, p.ordered, p.last, good))
        ∙ ap Ok (put-back step doc p.ordered p.first p.last))
    from (inr p) =
        let none : step.to - step.from ≡ 0 = omega (arith, p.at) in
        let out : length (take (step.to - step.from) (drop (step.from - 1) doc)) ≡ 0 = omega (arith, none, length-take {A = ℕ}) in
        rw p.is
        (outside-outcome (back_step step doc) doc (omega (arith, p.nothing)) (omega (arith, p.nothing, p.at, p.within)) out good p.apart)

one-step : (b : Replace) (doc back : List ℕ) → fold meaning tt doc (b ∷ []) ≡ Some back → outcome b doc ≡ Ok back
one-step b doc back h =
    let f = fold-cons meaning tt doc back b [] h in
    let e : f.0 ≡ back = some-inj f.0 back f.2 in
    f.1 ∙ ap Ok e
  where
    some-inj : (x y : List ℕ) → Some x ≡ Some y → x ≡ y
    some-inj x y h = cc

still : (step : Replace) (n : ℕ) (ms : List Mirrored) → is_within step n → MovesNothing ms → carried step ms ≡ Some step
still step n ms w h = rw (h.ahead step.from, h.back step.to) (ap (λ to. Some (record { from = step.from; to = to; text = step.text })) (as-it-is (nat_lt step.to step.from) refl))
  where
    as-it-is : (b : Bool) → nat_lt step.to step.from ≡ b → (if b then step.from else step.to) ≡ step.to
    as-it-is true e = absurd (let past : step.to < step.from = grind (arith, nat_tests) in omega (arith, past, w.0))
    as-it-is false e = refl

carried_sizes : (c d : Replace) (ms : List Mirrored) → carried c ms ≡ Some d → map new_size_of (range_of d ∷ []) ≡ map new_size_of (range_of c ∷ [])
carried_sizes c d ms h = from ((through ms c.from After).across && (through ms c.to Before).across) h
  where
    moved : Replace
    moved = record { from = (through ms c.from After).pos; to = raised (through ms c.from After).pos (through ms c.to Before).pos; text = c.text }

    from : (gone : Bool) → (if gone then None else Some moved) ≡ Some d → map new_size_of (range_of d ∷ []) ≡ map new_size_of (range_of c ∷ [])
    from true h = absurd (cc)
    from false h = let is : moved ≡ d = cc in rw (← is) refl

pub laws : Laws meaning
laws = record {
  good = λ rules step doc next h e. good step doc next h (applied step doc next e);
  small = λ rules doc h. omega arith;
  restores = λ rules step doc next back h e f.
      let one = one-step (back_step step doc) next back f in
      let two = back-outcome step doc next h e in
      cc;
  undoes = λ rules step doc next loose h e. (doc, rw (back-outcome step doc next h e) refl);
  fits = λ rules step doc next h e. fits step doc next (applied step doc next e);
  within = λ rules step doc next h e. within step doc next (applied step doc next e);
  inverse_within = λ rules step doc next h e.
      All-from_recursion (λ b. is_within b (size next)) (back_step step doc ∷ []) (back_within step doc next h (applied step doc next e), tt);
  inverse_map = λ rules step doc next h e. back_map step doc next (applied step doc next e);
  still = λ step n ms w h. inl (still step n ms w h);
  carried = carried_sizes;
}
  where
    good : (step : Replace) (doc next : List ℕ) → size doc ≤ max_size → Inside step doc next ⊎ Outside step doc next → size next ≤ max_size
    good step doc next h (inl p) = rw p.is (omega (arith, spliced-size step doc p.ordered p.first p.last, p.small))
    good step doc next h (inr p) = rw p.is h

    fits : (step : Replace) (doc next : List ℕ) → Inside step doc next ⊎ Outside step doc next → FitsSizes (range_of step ∷ []) (size doc) (size next)
    fits step doc next (inl p) =
        rw p.is (omega arith, (omega (arith, p.ordered, p.last), omega (arith, spliced-size step doc p.ordered p.first p.last, p.ordered, p.last)))
    fits step doc next (inr p) = rw p.is (omega arith, (omega (arith, p.at, p.within), omega (arith, p.at, p.nothing)))

    within : (step : Replace) (doc next : List ℕ) → Inside step doc next ⊎ Outside step doc next → is_within step (size doc)
    within step doc next (inl p) = (p.ordered, omega (arith, p.last), omega (arith, p.small))
    within step doc next (inr p) = (omega (arith, p.at), p.within, omega (arith, p.nothing))

    back_within : (step : Replace) (doc next : List ℕ) → size doc ≤ max_size → Inside step doc next ⊎ Outside step doc next → is_within (back_step step doc) (size next)
    back_within step doc next h (inl p) = (
      omega arith,
      rw p.is (omega (arith, spliced-size step doc p.ordered p.first p.last, p.ordered, p.last)),
      omega (arith, out-length step doc p.ordered p.first p.last, p.ordered, p.last, h),
    )
    back_within step doc next h (inr p) =
        (omega arith, rw p.is (omega (arith, p.at, p.nothing, p.within)), omega (arith, p.at, length-take {A = ℕ}))

    back_map : (step : Replace) (doc next : List ℕ) → Inside step doc next ⊎ Outside step doc next
        → HasInverseMap meaning tt (range_of step ∷ []) (back_step step doc ∷ [])
    back_map step doc next (inl p) =
        let a : step.from ≡ (step.from + 0) - 0 = omega arith in
        let b : step.from + length step.text - step.from ≡ length step.text = omega arith in
        rw (← a, b, out-length step doc p.ordered p.first p.last) refl
    back_map step doc next (inr p) =
        let a : step.from ≡ (step.from + 0) - 0 = omega arith in
        let b : step.from + length step.text - step.from ≡ length step.text = omega arith in
        let none : step.to - step.from ≡ 0 = omega (arith, p.at) in
        let out : length (take (step.to - step.from) (drop (step.from - 1) doc)) ≡ step.to - step.from = omega (arith, none, length-take {A = ℕ}) in
        rw (← a, b, out) refl
