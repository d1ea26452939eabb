-- The laws of edits.
use Rattle.std.specs.Prelude.{◌≡◌, if◌then◌else◌, ℕ, zero, suc, ◌+◌, ◌-◌, ◌≤◌, ◌<◌, ◌^◌, ◌⊎◌, Bool, true, false, nat_lt, List, [], ◌∷◌, map, length, slice_get, remove, insert, Some, None, Ok, refl}
use Rattle.std.specs.List.{All}
use Rattle.std.proofs.Common.{sym, ap, subst, ◌∙◌, inl, arith}
use Rattle.std.proofs.lemmas.List.Elements.{All-from_recursion}
use Rattle.std.proofs.lemmas.Bool.{ltb-true, ltb-false, lt-ltb, le-ltb, and_parts, and_from}
use Rattle.pm_map.specs.declared.side.Side.TheVariants.{After}
use Rattle.pm_map.specs.declared.mapping.Mirrored.{Mirrored}
use Rattle.pm_map.specs.Through.{through}
use Rattle.pm_map.specs.Fits.{FitsSizes, new_size_of}
use Rattle.pm_map.specs.Stills.{MovesNothing}
use Rattle.pm_change.specs.Changes.{Laws, HasInverseMap, fold, then_some}
use Rattle.pm_change.proofs.Folds.{fold-cons}
use Rattle.pm_sheet.specs.declared.Rules.{Rules}
use Rattle.pm_sheet.specs.declared.Edit.{Edit}
use Rattle.pm_sheet.specs.declared.Edit.TheVariants.{Insert, Delete}
use Rattle.pm_sheet.specs.Edits.{Sheet, is_good, outcome, inverse, ranges, carried, is_within, meaning, placed, without, has_room, back_in}

-- where an insertion applies
record Placed (rules : Rules) (at value : ℕ) (doc next : Sheet) : Type 0 where
  pub within : at ≤ length doc
  pub below : length doc < rules.limit
  pub small : length doc + 1 < 2 ^ 32
  pub is : next ≡ insert doc at value

inserted : (rules : Rules) (at value : ℕ) (doc next : Sheet) → outcome rules (Insert at value) doc ≡ Ok next → Placed rules at value doc next
inserted rules at value doc next h = from (nat_lt (length doc) at) (has_room rules doc) refl refl h
  where
    from : (past room : Bool) → nat_lt (length doc) at ≡ past → has_room rules doc ≡ room → placed past room doc at value ≡ Ok next → Placed rules at value doc next
    from true room p r h = absurd (cc)
    from false false p r h = absurd (cc)
    from false true p r h =
        let s = and_parts _ _ r in
        record {
          within = ltb-false (length doc) at p;
          below = ltb-true (length doc) rules.limit s.0;
          small = ltb-true (length doc + 1) (2 ^ 32) s.1;
          is = (let e : insert doc at value ≡ next = cc in sym e);
        }

deleted : (rules : Rules) (at : ℕ) (doc next : Sheet) → outcome rules (Delete at) doc ≡ Ok next → (at < length doc) × (next ≡ remove doc at)
deleted rules at doc next h = from (nat_lt at (length doc)) refl h
  where
    from : (b : Bool) → nat_lt at (length doc) ≡ b → without b doc at ≡ Ok next → (at < length doc) × (next ≡ remove doc at)
    from true e h = (ltb-true at (length doc) e, (let e : remove doc at ≡ next = cc in sym e))
    from false e h = absurd (cc)

length-insert : (xs : List ℕ) (i x : ℕ) → i ≤ length xs → length (insert xs i x) ≡ length xs + 1
length-insert [] zero x h = refl
length-insert [] (suc i) x h = absurd (omega arith)
length-insert (y ∷ ys) zero x h = omega arith
length-insert (y ∷ ys) (suc i) x h = let e = length-insert ys i x (omega arith) in omega (arith, e)

length-remove : (xs : List ℕ) (i : ℕ) → i < length xs → length (remove xs i) + 1 ≡ length xs
length-remove [] i h = absurd (omega arith)
length-remove (y ∷ ys) zero h = omega arith
length-remove (y ∷ ys) (suc i) h = let e = length-remove ys i (omega arith) in omega (arith, e)

remove-insert : (xs : List ℕ) (i x : ℕ) → i ≤ length xs → remove (insert xs i x) i ≡ xs
remove-insert [] zero x h = refl
remove-insert [] (suc i) x h = absurd (omega arith)
remove-insert (y ∷ ys) zero x h = refl
remove-insert (y ∷ ys) (suc i) x h = ap (λ l. y ∷ l) (remove-insert ys i x (omega arith))

insert-remove : (xs : List ℕ) (i x : ℕ) → slice_get xs i ≡ Some x → insert (remove xs i) i x ≡ xs
insert-remove [] i x h = absurd (cc)
insert-remove (y ∷ ys) zero x h = let e : y ≡ x = cc in ap (λ z. z ∷ ys) (sym e)
insert-remove (y ∷ ys) (suc i) x h = ap (λ l. y ∷ l) (insert-remove ys i x h)

found : (xs : List ℕ) (i : ℕ) → i < length xs → (x : ℕ) × (slice_get xs i ≡ Some x)
found [] i h = absurd (omega arith)
found (y ∷ ys) zero h = (y, refl)
found (y ∷ ys) (suc i) h = found ys i (omega arith)

keeps_good : (rules : Rules) (c : Edit) (doc next : Sheet) → is_good rules doc → outcome rules c doc ≡ Ok next → is_good rules next
keeps_good rules (Insert at value) doc next good h =
    let p = inserted rules at value doc next h in
    let n = length-insert doc at value p.within in
    rw p.is (omega (arith, n, p.below), omega (arith, n, p.small))
keeps_good rules (Delete at) doc next good h =
    let p = deleted rules at doc next h in
    let n = length-remove doc at p.0 in
    rw p.1 (omega (arith, n, good.0), omega (arith, n, good.1))

one-step : (rules : Rules) (b : Edit) (doc back : Sheet) → fold meaning rules doc (b ∷ []) ≡ Some back → outcome rules b doc ≡ Ok back
one-step rules b doc back h =
    let f = fold-cons meaning rules doc back b [] h in
    let e : f.0 ≡ back = some-inj f.0 back f.2 in
    f.1 ∙ ap Ok e
  where
    some-inj : (x y : Sheet) → Some x ≡ Some y → x ≡ y
    some-inj x y h = cc

restores : (rules : Rules) (c : Edit) (doc next back : Sheet) → is_good rules doc → outcome rules c doc ≡ Ok next
    → fold meaning rules next (inverse rules c doc) ≡ Some back → back ≡ doc
restores rules (Insert at value) doc next back good h f =
    let p = inserted rules at value doc next h in
    let d = deleted rules at next back (one-step rules (Delete at) next back f) in
    d.1 ∙ ap (λ l. remove l at) p.is ∙ remove-insert doc at value p.within
restores rules (Delete at) doc next back good h f =
    let p = deleted rules at doc next h in
    let x = found doc at p.0 in
    let one = one-step rules (Insert at x.0) next back (rw x.1 at f) in
    let i = inserted rules at x.0 next back one in
    i.is ∙ ap (λ l. insert l at x.0) p.1 ∙ insert-remove doc at x.0 x.1

applies-one : (rules : Rules) (b : Edit) (doc back : Sheet) → outcome rules b doc ≡ Ok back → fold meaning rules doc (b ∷ []) ≡ Some back
applies-one rules b doc back h = ap (λ r. then_some meaning rules r (λ d. Some d)) h

-- what undoes an edit applies right after it
undoes : (rules : Rules) (c : Edit) (doc next : Sheet) → is_good rules doc → outcome rules c doc ≡ Ok next
    → (back : Sheet) × (fold meaning rules next (inverse rules c doc) ≡ Some back)
undoes rules (Insert at value) doc next good h =
    let p = inserted rules at value doc next h in
    let n = length-insert doc at value p.within in
    let m : length next ≡ length doc + 1 = ap length p.is ∙ n in
    (remove next at, applies-one rules (Delete at) next (remove next at) (ap (λ b. without b next at) (lt-ltb at (length next) (omega (arith, m, p.within)))))
undoes rules (Delete at) doc next good h =
    let p = deleted rules at doc next h in
    let x = found doc at p.0 in
    let n = length-remove doc at p.0 in
    let m : length next + 1 ≡ length doc = ap (λ l. length l + 1) p.1 ∙ n in
    let past : nat_lt (length next) at ≡ false = le-ltb (length next) at (omega (arith, m, p.0)) in
    let room : has_room rules next ≡ true = and_from _ _ (lt-ltb (length next) rules.limit (omega (arith, m, good.0))) (lt-ltb (length next + 1) (2 ^ 32) (omega (arith, m, good.1))) in (
      insert next at x.0,
      subst (λ o. fold meaning rules next (back_in at o) ≡ Some (insert next at x.0)) (sym x.1)
          (applies-one rules (Insert at x.0) next (insert next at x.0) (ap (λ b. placed b (has_room rules next) next at x.0) past ∙ ap (λ b. placed false b next at x.0) room)),
    )

fits : (rules : Rules) (c : Edit) (doc next : Sheet) → is_good rules doc → outcome rules c doc ≡ Ok next → FitsSizes (ranges c) (length doc) (length next)
fits rules (Insert at value) doc next good h =
    let p = inserted rules at value doc next h in
    let n = length-insert doc at value p.within in
    let m : length next ≡ length doc + 1 = ap length p.is ∙ n in
    (omega arith, (omega (arith, p.within), omega (arith, m)))
fits rules (Delete at) doc next good h =
    let p = deleted rules at doc next h in
    let n = length-remove doc at p.0 in
    let m : length next + 1 ≡ length doc = ap (λ l. length l + 1) p.1 ∙ n in
    (omega arith, (omega (arith, p.0), omega (arith, m)))

within : (rules : Rules) (c : Edit) (doc next : Sheet) → is_good rules doc → outcome rules c doc ≡ Ok next → is_within c (length doc)
within rules (Insert at value) doc next good h = (inserted rules at value doc next h).within
within rules (Delete at) doc next good h = (deleted rules at doc next h).0

inverse_within : (rules : Rules) (c : Edit) (doc next : Sheet) → is_good rules doc → outcome rules c doc ≡ Ok next
    → All (λ b. is_within b (length next)) (inverse rules c doc)
inverse_within rules (Insert at value) doc next good h =
    let p = inserted rules at value doc next h in
    let n = length-insert doc at value p.within in
    let m : length next ≡ length doc + 1 = ap length p.is ∙ n in
    All-from_recursion (λ b. is_within b (length next)) (Delete at ∷ []) (omega (arith, m, p.within), tt)
inverse_within rules (Delete at) doc next good h =
    let p = deleted rules at doc next h in
    let x = found doc at p.0 in
    let n = length-remove doc at p.0 in
    let m : length next + 1 ≡ length doc = ap (λ l. length l + 1) p.1 ∙ n in
    rw x.1 (All-from_recursion (λ b. is_within b (length next)) (Insert at x.0 ∷ []) (omega (arith, m, p.0), tt))

inverse_map : (rules : Rules) (c : Edit) (doc next : Sheet) → is_good rules doc → outcome rules c doc ≡ Ok next
    → HasInverseMap meaning rules (ranges c) (inverse rules c doc)
inverse_map rules (Insert at value) doc next good h =
    let e : at ≡ (at + 0) - 0 = omega arith in ap (λ n. record { start = n; old_size = 1; new_size = 0 } ∷ []) e
inverse_map rules (Delete at) doc next good h =
    let x = found doc at (deleted rules at doc next h).0 in
    let e : at ≡ (at + 0) - 0 = omega arith in
    rw x.1 (ap (λ n. record { start = n; old_size = 0; new_size = 1 } ∷ []) e)

still : (c : Edit) (n : ℕ) (ms : List Mirrored) → is_within c n → MovesNothing ms → (carried c ms ≡ Some c)
    ⊎ ((carried c ms ≡ None) × (ranges c ≡ []) × ((rules : Rules) (doc next : Sheet) → is_good rules doc → outcome rules c doc ≡ Ok next → next ≡ doc))
still (Insert at value) n ms w h = inl (rw (h.ahead at) refl)
still (Delete at) n ms w h = inl (rw (h.ahead at) refl)

carried_sizes : (c d : Edit) (ms : List Mirrored) → carried c ms ≡ Some d → map new_size_of (ranges d) ≡ map new_size_of (ranges c)
carried_sizes (Insert at value) (Insert p v) ms h = refl
carried_sizes (Insert at value) (Delete p) ms h = absurd (cc)
carried_sizes (Delete at) (Delete p) ms h = refl
carried_sizes (Delete at) (Insert p v) ms h = from (through ms at After).deleted h
  where
    from : (gone : Bool) → (if gone then None else Some (Delete (through ms at After).pos)) ≡ Some (Insert p v) → map new_size_of (ranges (Insert p v)) ≡ map new_size_of (ranges (Delete at))
    from true h = absurd (cc)
    from false h = absurd (cc)

pub laws : Laws meaning
laws = record {
  good = keeps_good;
  small = λ rules doc good. good.1;
  restores = restores;
  undoes = λ rules c doc next loose good applies. undoes rules c doc next good applies;
  fits = fits;
  within = within;
  inverse_within = inverse_within;
  inverse_map = inverse_map;
  still = still;
  carried = carried_sizes;
}
