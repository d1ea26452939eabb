-- Items over which each position stays, whatever comes after them.
use Rattle.std.specs.Prelude.{◌≡◌, ℕ, suc, ◌+◌, ◌-◌, ◌&&◌, ◌||◌, Bool, true, false, if◌then◌else◌, List, [], ◌∷◌, ◌++◌, length, Option, Some, None, refl}
use Rattle.std.specs.List.{AllByRecursion as Each}
use Rattle.std.proofs.Common.{arith, sym, ap, subst, ◌∙◌, append_assoc}
use Rattle.std.proofs.lemmas.Bool.{eq-eqb, and_from}
use Rattle.pm_map.specs.declared.step_map.Span.{Span}
use Rattle.pm_map.specs.declared.step_map.Moved.{Moved}
use Rattle.pm_map.specs.declared.step_map.Recover.{Recover}
use Rattle.pm_map.specs.declared.mapping.Mirrored.{Mirrored}
use Rattle.pm_map.specs.Moves.{moved_from, kept_at, inverted_ranges, inverted_from}
use Rattle.pm_map.specs.Through.{through_from, stepped, skipped, joined, at_pos, partner, result_start, start_from}
use Rattle.pm_map.specs.Mirrors.{may_mirror, has_shape}
use Rattle.pm_history.specs.declared.item.Item.{Item}
use Rattle.pm_change.specs.declared.name.Name.{Name}
use Rattle.pm_map.specs.Stills.{AreApart}
use Rattle.pm_map.proofs.Backs.{GoesBack, IsBack, goes-back}
use Rattle.pm_history.specs.Items.{one_step}
use Rattle.pm_history.specs.Pairs.{paired, later_in, one_more}
use Rattle.pm_history.specs.Tidy.{NoRangeUndoes}

module _ {C : Type 0} where
  -- no item with a range undoes this step, where the step has a range itself
  abbrev pub NoneOver : List Span → Option Name → List (Item C) → Type 0
  NoneOver [] n is = Unit {0}
  NoneOver (r ∷ rs) n is = NoRangeUndoes n is

  abbrev pub IsEmpty : Item C → Type 0
  IsEmpty i = i.map ≡ []

  -- these items move back what a step of this name and map moved
  abbrev pub MoveBack : Option Name → List Span → List (Item C) → Type 0
  MoveBack n [] us = Each IsEmpty us
  MoveBack n (r ∷ rs) [] = ⊥
  MoveBack n (r ∷ rs) (u ∷ []) = (u.map ≡ inverted_ranges (r ∷ rs)) × (one_step n u.undoes ≡ true)
  MoveBack n (r ∷ rs) (u ∷ v ∷ us) = ⊥

-- the same place, and the same flags but `after` by `Before`
pub record Same (before : Bool) (so next : Moved) : Type 0 where
  pub pos : next.pos ≡ so.pos
  pub deleted : next.deleted ≡ so.deleted
  pub across : next.across ≡ so.across
  pub after : before ≡ false → next.after ≡ so.after
  pub none : next.recover ≡ None

or-false : (t x : Bool) → x ≡ false → (t || x) ≡ t
or-false true x e = refl
or-false false x e = e

same-start : (b : Bool) (so : Moved) → so.recover ≡ None → Same b so so
same-start b so e = record { pos = refl; deleted = refl; across = refl; after = λ _. refl; none = e }

same-then : (b : Bool) (x y z : Moved) → Same b x y → Same b y z → Same b x z
same-then b x y z h k = record {
  pos = k.pos ∙ h.pos;
  deleted = k.deleted ∙ h.deleted;
  across = k.across ∙ h.across;
  after = λ e. k.after e ∙ h.after e;
  none = k.none;
}

skipped-none : (later : Option ℕ) → skipped later None ≡ 0
skipped-none None = refl
skipped-none (Some k) = refl

stepped-none : (so m : Moved) (later : Option ℕ) (es : List Mirrored) → stepped so m later None es ≡ joined so m
stepped-none so m None es = refl
stepped-none so m (Some k) es = refl

-- a map that gives no place to come back to
over-none : (map : List Span) (later : Option ℕ) (es : List Mirrored) (b : Bool) (so : Moved)
    → (moved_from map 0 0 0 so.pos b).recover ≡ None
    → through_from (record { map = map; later = later } ∷ es) 0 b so ≡ through_from es 0 b (joined so (moved_from map 0 0 0 so.pos b))
over-none map later es b so e =
    let m = moved_from map 0 0 0 so.pos b in
    ap (λ o. through_from es (skipped later o) b (stepped so m later o es)) e
    ∙ ap (λ k. through_from es k b (stepped so m later None es)) (skipped-none later)
    ∙ ap (λ x. through_from es 0 b x) (stepped-none so m later es)

same-joined : (b : Bool) (so m : Moved) → m.pos ≡ so.pos → m.deleted ≡ false → m.across ≡ false → (b ≡ false → m.after ≡ false) → Same b so (joined so m)
same-joined b so m p d a f = record {
  pos = p;
  deleted = or-false so.deleted m.deleted d;
  across = or-false so.across m.across a;
  after = λ e. or-false so.after m.after (f e);
  none = refl;
}

same-kept : (b : Bool) (so : Moved) → Same b so (joined so (kept_at ((so.pos + 0) - 0)))
same-kept b so = same-joined b so (kept_at ((so.pos + 0) - 0)) (omega arith) refl refl (λ _. refl)

fit-back : (rs : List Span) (g l : ℕ) → has_shape rs (inverted_from rs g l) ≡ true
fit-back [] g l = refl
fit-back (r ∷ rs) g l = and_from _ _ (eq-eqb r.old_size r.old_size refl) (fit-back rs (g + r.new_size) (l + r.old_size))

module _ {C : Type 0} where
  -- over these items a position stays, whatever comes next
  abbrev pub Passes : List (Item C) → Type 0
  Passes is = (rest : List (Item C)) (b : Bool) (so : Moved) → so.recover ≡ None
      → (next : Moved) × Same b so next × (through_from (paired (is ++ rest)) 0 b so ≡ through_from (paired rest) 0 b next)

  pub passes-both : (xs ys : List (Item C)) → Passes xs → Passes ys → Passes (xs ++ ys)
  passes-both xs ys f g rest b so e =
      let x = f (ys ++ rest) b so e in
      let y = g rest b x.0 x.1.none in
      (y.0, same-then b so x.0 y.0 x.1 y.1, (ap (λ l. through_from (paired l) 0 b so) (append_assoc xs ys rest)) ∙ x.2 ∙ y.2)

  -- an item with no range
  pub passes-empty : (i : Item C) (xs : List (Item C)) → i.map ≡ [] → Passes xs → Passes (i ∷ xs)
  passes-empty i xs e f rest b so h =
      let here = over-none [] (later_in i.name [] (xs ++ rest)) (paired (xs ++ rest)) b so refl in
      let s = same-kept b so in
      let x = f rest b (joined so (kept_at ((so.pos + 0) - 0))) refl in
      (x.0, same-then b so _ x.0 s x.1, ap (λ map. through_from (record { map = map; later = later_in i.name map (xs ++ rest) } ∷ paired (xs ++ rest)) 0 b so) e ∙ here ∙ x.2)

  pub passes-empties : (us : List (Item C)) → Each IsEmpty us → Passes us
  passes-empties [] h = λ rest b so e. (so, same-start b so e, refl)
  passes-empties (u ∷ us) h = passes-empty u us h.0 (passes-empties us h.1)

  later-none : (n : Option Name) (rs : List Span) (i : Item C) (is : List (Item C)) → (one_step n i.undoes ≡ true → i.map ≡ [])
      → later_in n rs (i ∷ is) ≡ one_more (later_in n rs is)
  later-none n [] i is f = from (one_step n i.undoes)
    where
      from : (t : Bool) → (if t && false then Some 0 else one_more (later_in n [] is)) ≡ one_more (later_in n [] is)
      from true = refl
      from false = refl
  later-none n (r ∷ rs) i is f = from (one_step n i.undoes) refl
    where
      from : (t : Bool) → one_step n i.undoes ≡ t → (if t && may_mirror (r ∷ rs) i.map then Some 0 else one_more (later_in n (r ∷ rs) is)) ≡ one_more (later_in n (r ∷ rs) is)
      from true e = ap (λ map. if may_mirror (r ∷ rs) map then Some 0 else one_more (later_in n (r ∷ rs) is)) (f e)
      from false e = refl

  found : (n : Option Name) (rs : List Span) (xs : List (Item C)) (u : Item C) (rest : List (Item C)) → NoRangeUndoes n xs
      → one_step n u.undoes ≡ true → may_mirror rs u.map ≡ true → later_in n rs (xs ++ u ∷ rest) ≡ Some (length xs)
  found n rs [] u rest h e f = ap (λ t. if t then Some 0 else one_more (later_in n rs rest)) (and_from _ _ e f)
  found n rs (x ∷ xs) u rest h e f = later-none n rs x (xs ++ u ∷ rest) h.0 ∙ ap one_more (found n rs xs u rest h.1 e f)

  skip-over : (xs : List (Item C)) (u : Item C) (rest : List (Item C)) (b : Bool) (so : Moved)
      → through_from (paired (xs ++ u ∷ rest)) (suc (length xs)) b so ≡ through_from (paired rest) 0 b so
  skip-over [] u rest b so = refl
  skip-over (x ∷ xs) u rest b so = skip-over xs u rest b so

  partner-of : (xs : List (Item C)) (u : Item C) (rest : List (Item C)) → partner (paired (xs ++ u ∷ rest)) (length xs) ≡ u.map
  partner-of [] u rest = refl
  partner-of (x ∷ xs) u rest = partner-of xs u rest

  -- over an item, and later back over its undoing
  abbrev pub Moves : Option Name → List Span → List (Item C) → Bool → Moved → List (Item C) → Type 0
  Moves n map is b so rest = (next : Moved) × Same b so next
      × (through_from (record { map = map; later = later_in n map is } ∷ paired is) 0 b so ≡ through_from (paired rest) 0 b next)

  -- it was not deleted
  stays : (n : Option Name) (map : List Span) (xs : List (Item C)) (u : Item C) (rest : List (Item C)) (b : Bool) (so : Moved) → Passes xs
      → u.map ≡ inverted_ranges map → GoesBack map 0 0 0 0 so.pos b (moved_from map 0 0 0 so.pos b)
      → (moved_from map 0 0 0 so.pos b).recover ≡ None → Moves n map (xs ++ u ∷ rest) b so rest
  stays n map xs u rest b so f e back none =
      let m = moved_from map 0 0 0 so.pos b in
      let x = f (u ∷ rest) b (joined so m) refl in
      let same : moved_from u.map 0 0 0 x.0.pos b ≡ moved_from (inverted_from map 0 0) 0 0 0 m.pos b =
      ap (λ rs. moved_from rs 0 0 0 x.0.pos b) e ∙ ap (λ p. moved_from (inverted_from map 0 0) 0 0 0 p b) x.1.pos in
      let i : IsBack m (moved_from u.map 0 0 0 x.0.pos b) so.pos b = subst (λ z. IsBack m z so.pos b) (sym same) (back.goes none) in (
        joined x.0 (moved_from u.map 0 0 0 x.0.pos b),
        record {
          pos = i.pos;
          deleted = or-false x.0.deleted _ i.back_deleted ∙ x.1.deleted ∙ or-false so.deleted _ i.deleted;
          across = or-false x.0.across _ i.back_across ∙ x.1.across ∙ or-false so.across _ i.across;
          after = λ t. or-false x.0.after _ (i.back_after t) ∙ x.1.after t ∙ or-false so.after _ (i.after t);
          none = refl;
        },
        over-none map (later_in n map (xs ++ u ∷ rest)) (paired (xs ++ u ∷ rest)) b so none ∙ x.2
            ∙ over-none u.map (later_in u.name u.map rest) (paired rest) b x.0 i.none,
      )

  -- it was deleted, and comes back
  comes : (n : Option Name) (map : List Span) (xs : List (Item C)) (u : Item C) (rest : List (Item C)) (b : Bool) (so : Moved) (k : Recover)
      → u.map ≡ inverted_ranges map → later_in n map (xs ++ u ∷ rest) ≡ Some (length xs)
      → GoesBack map 0 0 0 0 so.pos b (moved_from map 0 0 0 so.pos b)
      → (moved_from map 0 0 0 so.pos b).recover ≡ Some k → Moves n map (xs ++ u ∷ rest) b so rest
  comes n map xs u rest b so k e later back some =
      let m = moved_from map 0 0 0 so.pos b in
      let es = paired (xs ++ u ∷ rest) in
      let j = rw some at back.jumps in
      let place : result_start (partner es (length xs)) k.range + k.offset ≡ so.pos =
      ap (λ rs. result_start rs k.range + k.offset) (partner-of xs u rest ∙ e)
      ∙ ap (λ r. start_from (inverted_from map 0 0) r 0 0 + k.offset) (minus-none k.range) ∙ j.1 in (
        at_pos so (result_start (partner es (length xs)) k.range + k.offset),
        record { pos = place; deleted = refl; across = refl; after = λ _. refl; none = refl },
        ap (λ l. through_from es (skipped l m.recover) b (stepped so m l m.recover es)) later
            ∙ ap (λ o. through_from es (skipped (Some (length xs)) o) b (stepped so m (Some (length xs)) o es)) some
            ∙ skip-over xs u rest b _,
      )
    where
      minus-none : (r : ℕ) → r ≡ r - 0
      minus-none r = omega arith

  pub passes-undone : (n : Option Name) (map : List Span) (xs us : List (Item C)) → AreApart map 0 → Passes xs → NoneOver map n xs → MoveBack n map us
      → (rest : List (Item C)) (b : Bool) (so : Moved) → so.recover ≡ None → Moves n map ((xs ++ us) ++ rest) b so rest
  passes-undone n [] xs us a f none back = λ rest b so e.
      let x = passes-both xs us f (passes-empties us back) rest b (joined so (kept_at ((so.pos + 0) - 0))) refl in
      (x.0, same-then b so _ x.0 (same-kept b so) x.1, over-none [] (later_in n [] ((xs ++ us) ++ rest)) (paired ((xs ++ us) ++ rest)) b so refl ∙ x.2)
  passes-undone n (r ∷ rs) xs [] a f none back = absurd back
  passes-undone n (r ∷ rs) xs (u ∷ v ∷ us) a f none back = absurd back
  passes-undone n (r ∷ rs) xs (u ∷ []) a f none back = λ rest b so e.
      let g = goes-back (r ∷ rs) 0 0 0 0 so.pos b a (omega arith) (omega arith) in
      let later = found n (r ∷ rs) xs u rest none back.1 (ap (λ map. may_mirror (r ∷ rs) map) back.0 ∙ fit-back (r ∷ rs) 0 0) in
      subst (λ is. Moves n (r ∷ rs) is b so rest) (sym (append_assoc xs (u ∷ []) rest))
      (elim (moved_from (r ∷ rs) 0 0 0 so.pos b).recover as (λ o. (moved_from (r ∷ rs) 0 0 0 so.pos b).recover ≡ o → Moves n (r ∷ rs) (xs ++ u ∷ rest) b so rest) [
        | None ↦ λ t. stays n (r ∷ rs) xs u rest b so f back.0 g t
        | Some k ↦ λ t. comes n (r ∷ rs) xs u rest b so k back.0 later g t
      ] refl)
