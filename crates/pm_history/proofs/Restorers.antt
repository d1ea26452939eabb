-- Which items can bring a deleted position back.
use Rattle.std.proofs.Common.{◌≡◌, ℕ, zero, suc, ◌+◌, ◌-◌, ◌≤◌, ◌==◌, ◌&&◌, ◌||◌, not, nat_lt, Bool, true, false, if◌then◌else◌, List, [], ◌∷◌, length, Option, Some, None, refl, ap, sym, ◌∙◌, arith}
use Rattle.std.proofs.lemmas.Bool.{and_parts, and_left, and_right, eqb-true, true≢false}
use Rattle.std.proofs.lemmas.Bool.Decides.{nat_tests}
use Rattle.std.specs.List.{AllByRecursion as Each}
use Rattle.std.specs.Option.{is_some}
use Rattle.pm_change.specs.declared.name.Name.{Name}
use Rattle.pm_map.specs.declared.step_map.Span.{Span}
use Rattle.pm_map.specs.declared.step_map.Moved.{Moved}
use Rattle.pm_map.specs.declared.step_map.Recover.{Recover}
use Rattle.pm_map.specs.Mirrors.{has_shape, may_mirror}
use Rattle.pm_map.specs.Moves.{moved_from, or_moved}
use Rattle.pm_map.specs.Through.{range_at}
use Rattle.pm_history.specs.declared.item.Item.{Item}
use Rattle.pm_history.specs.declared.undoers.Undoers.{Undoers}
use Rattle.pm_history.specs.Fillings.{puts_in, is_filled}
use Rattle.pm_history.specs.Items.{one_step, brings_back}
use Rattle.pm_history.specs.Laters.{entry_at, IsTold, TellsAll, TellsOf}
use Rattle.pm_history.specs.Pairs.{later_in, one_more}
use Rattle.pm_history.proofs.Tables.{later-untold}

-- whether one of these ranges takes tokens out
abbrev takes_out : List Span → Bool
takes_out [] = false
takes_out (s ∷ ss) = not (s.old_size == 0) || takes_out ss

-- a mirror puts in what was taken out
shape-puts : (rs ss : List Span) → has_shape rs ss ≡ true → puts_in ss ≡ takes_out rs
shape-puts [] [] h = refl
shape-puts [] (s ∷ ss) h = absurd (true≢false (sym h))
shape-puts (r ∷ rs) [] h = absurd (true≢false (sym h))
shape-puts (r ∷ rs) (s ∷ ss) h =
    let p = and_parts (s.new_size == r.old_size) (has_shape rs ss) h in
    ap (λ (n : ℕ). not (n == 0) || puts_in ss) (eqb-true s.new_size r.old_size p.0) ∙ ap (λ t. not (r.old_size == 0) || t) (shape-puts rs ss p.1)

mirror-puts : (rs ss : List Span) → may_mirror rs ss ≡ true → puts_in ss ≡ takes_out rs
mirror-puts [] ss h = absurd (true≢false (sym h))
mirror-puts (r ∷ rs) ss h = shape-puts (r ∷ rs) ss h

nobody : (n : Option Name) → one_step n None ≡ false
nobody None = refl
nobody (Some a) = refl

unnamed : (n o : Option Name) (t : Bool) → (is_some o && t) ≡ false → t ≡ true → one_step n o ≡ false
unnamed n None t h e = nobody n
unnamed n (Some a) t h e = absurd (true≢false (sym e ∙ h))

module _ {C : Type 0} where
  no-mirror : (n : Option Name) (rs : List Span) (i : Item C) → takes_out rs ≡ true → brings_back i ≡ false → (one_step n i.undoes && may_mirror rs i.map) ≡ false
  no-mirror n rs i out h = from (may_mirror rs i.map) refl
    where
      from : (t : Bool) → may_mirror rs i.map ≡ t → (one_step n i.undoes && may_mirror rs i.map) ≡ false
      from true e = and_left (one_step n i.undoes) (may_mirror rs i.map) (unnamed n i.undoes (puts_in i.map) h (mirror-puts rs i.map e ∙ out))
      from false e = and_right (one_step n i.undoes) (may_mirror rs i.map) e

  -- what takes tokens out has no mirror where none brings some back
  gone-for-good : (n : Option Name) (rs : List Span) (is : List (Item C)) → takes_out rs ≡ true → Each (λ (i : Item C). brings_back i ≡ false) is → later_in n rs is ≡ None
  gone-for-good n rs [] out h = refl
  gone-for-good n rs (i ∷ is) out h =
      ap (λ t. if t then Some 0 else one_more (later_in n rs is)) (no-mirror n rs i out h.0) ∙ ap one_more (gone-for-good n rs is out h.1)

at-one-place : (s : Span) (p : ℕ) → not (s.old_size == 0) ≡ false → nat_lt p s.start ≡ false → nat_lt (s.start + s.old_size) p ≡ false
    → (not (p == s.start) ≡ false) × (not (p == s.start + s.old_size) ≡ false)
at-one-place s p z a b = (grind (arith, nat_tests), grind (arith, nat_tests))

-- the same over any tests
by-tests : (s : Span) (i p : ℕ) (b : Bool) (m kept at : Moved) → m.recover ≡ None → kept.recover ≡ None → (before past : Bool)
    → (before ≡ false → past ≡ false → at.recover ≡ None)
    → (or_moved (if before then Some kept else if past then None else Some at) m).recover ≡ None
by-tests s i p b m kept at h k true past o = k
by-tests s i p b m kept at h k false true o = h
by-tests s i p b m kept at h k false false o = o refl refl

not-gone : (s : Span) (i p : ℕ) (b : Bool) → (not (p == s.start) ≡ false) × (not (p == s.start + s.old_size) ≡ false)
    → if◌then◌else◌ {A = Option Recover} (if b then not (p == s.start) else not (p == s.start + s.old_size)) (Some (record { range = i; offset = p - s.start })) None ≡ None
not-gone s i p true h = ap (λ t. if◌then◌else◌ {A = Option Recover} t (Some (record { range = i; offset = p - s.start })) None) h.0
not-gone s i p false h = ap (λ t. if◌then◌else◌ {A = Option Recover} t (Some (record { range = i; offset = p - s.start })) None) h.1

or-parts : (a b : Bool) → (a || b) ≡ false → (a ≡ false) × (b ≡ false)
or-parts true b h = absurd (true≢false h)
or-parts false b h = (refl, h)

-- what takes nothing out deletes no position
none-deleted : (rs : List Span) (i gained lost p : ℕ) (b : Bool) → takes_out rs ≡ false → (moved_from rs i gained lost p b).recover ≡ None
none-deleted [] i gained lost p b h = refl
none-deleted (s ∷ ss) i gained lost p b h =
    let z = or-parts (not (s.old_size == 0)) (takes_out ss) h in
    by-tests s i p b _ _ _ (none-deleted ss (i + 1) (gained + s.new_size) (lost + s.old_size) p b z.1) refl (nat_lt p s.start) (nat_lt (s.start + s.old_size) p)
    (λ x y. not-gone s i p b (at-one-place s p z.0 x y))

module _ {C : Type 0} where
  -- What tells positions tells of each item that deletes one.
  pub tells-deleted : (o : Option Undoers) (is : List (Item C)) (k p : ℕ) (b : Bool) (r : Recover) → IsTold o is → (moved_from (entry_at is k).map 0 0 0 p b).recover ≡ Some r → TellsOf o is k
  tells-deleted (Some u) is k p b r h e = h
  tells-deleted None is k p b r h e = at is k h e
    where
      at : (is : List (Item C)) (k : ℕ) → Each (λ (i : Item C). brings_back i ≡ false) is → (moved_from (entry_at is k).map 0 0 0 p b).recover ≡ Some r → (entry_at is k).later ≡ None
      at [] k h e = refl
      at (i ∷ is) zero h e = from (takes_out i.map) refl
        where
          from : (t : Bool) → takes_out i.map ≡ t → later_in i.name i.map is ≡ None
          from true out = gone-for-good i.name i.map is out h.1
          from false out = absurd (cc (none-deleted i.map 0 0 0 p b out, e))
      at (i ∷ is) (suc k) h e = at is k h.1 e

  -- What tells of all items tells of each.
  pub tells-each : (o : Option Undoers) (is : List (Item C)) (k : ℕ) → TellsAll o is → TellsOf o is k
  tells-each (Some u) is k h = h
  tells-each None is k h = at is k h
    where
      nothing : (o : Option Name) → is_some o ≡ false → o ≡ None
      nothing None h = refl
      nothing (Some a) h = absurd (true≢false h)

      none-undoes : (is : List (Item C)) → Each (λ (i : Item C). is_some i.undoes ≡ false) is → Each (λ (i : Item C). i.undoes ≡ None) is
      none-undoes [] h = tt
      none-undoes (i ∷ is) h = (nothing i.undoes h.0, none-undoes is h.1)

      at : (is : List (Item C)) (k : ℕ) → Each (λ (i : Item C). is_some i.undoes ≡ false) is → (entry_at is k).later ≡ None
      at [] k h = refl
      at (i ∷ is) zero h = later-untold i.name i.map is (none-undoes is h.1)
      at (i ∷ is) (suc k) h = at is k h.1

-- a map has at most two ranges, and each is looked at
pub puts-two : (rs : List Span) → length rs ≤ 2 → (is_filled (range_at rs 0) || is_filled (range_at rs 1)) ≡ puts_in rs
puts-two [] l = refl
puts-two (s ∷ []) l = refl
puts-two (s ∷ t ∷ []) l = ap (λ x. not (s.new_size == 0) || x) (or-none (not (t.new_size == 0)))
  where
    or-none : (a : Bool) → a ≡ (a || false)
    or-none true = refl
    or-none false = refl
puts-two (s ∷ t ∷ u ∷ ss) l = absurd (omega (arith, l))
