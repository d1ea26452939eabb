-- Items of a timeline, and how a position that is outside of a row moves over them.
use Rattle.std.specs.Prelude.{◌≡◌, ◌==◌, ◌&&◌, ◌||◌, ℕ, suc, ◌+◌, ◌<◌, Bool, true, false, if◌then◌else◌, List, [], ◌∷◌, ◌++◌, length, Option, Some, refl}
use Rattle.std.proofs.Common.{arith, ap, sym, subst, ◌∙◌, append_assoc, append-nil}
use Rattle.std.proofs.lemmas.Bool.{eq-eqb, and_from}
use Rattle.pm_map.specs.declared.step_map.Span.{Span}
use Rattle.pm_map.specs.declared.step_map.Moved.{Moved}
use Rattle.pm_map.specs.Moves.{moved_from, kept_at, inverted_from, inverted_ranges}
use Rattle.pm_map.specs.Stills.{AreApart}
use Rattle.pm_map.specs.Through.{through_from, joined, partner}
use Rattle.pm_map.specs.Mirrors.{entry, may_mirror, has_shape}
use Rattle.pm_change.specs.declared.name.Name.{Name}
use Rattle.pm_history.specs.declared.item.Item.{Item}
use Rattle.pm_history.specs.Items.{one_step}
use Rattle.pm_history.specs.Pairs.{paired, later_in, one_more}
use Rattle.pm_history.specs.Tidy.{NoRangeUndoes}
use Rattle.pm_selective.specs.Shifts.{shifted, IsOutsideAll, shift_all, over, beside, IsCorner, AreAllApart}
use Rattle.pm_selective.proofs.Corners.{shift-moved}
use Rattle.pm_selective.proofs.Flips.{back-apart, twice}
use Rattle.pm_selective.proofs.Rows.{goes-round, from-behind, over-none, over-apart}
use Rattle.pm_selective.proofs.Steps.{LeadsAs}

-- ---- a carried map fits the map back

fit-back : (rs : List Span) (g l : ℕ) → has_shape (inverted_from rs g l) rs ≡ true
fit-back [] g l = refl
fit-back (r ∷ rs) g l = and_from _ _ (eq-eqb r.new_size r.new_size refl) (fit-back rs (g + r.new_size) (l + r.old_size))

fit-shifted : (rs g f : List Span) → has_shape rs (shifted g f) ≡ has_shape rs f
fit-shifted [] g [] = refl
fit-shifted [] g (q ∷ qs) = refl
fit-shifted (r ∷ rs) g [] = refl
fit-shifted (r ∷ rs) g (q ∷ qs) = ap (λ t. (q.new_size == r.old_size) && t) (fit-shifted rs g qs)

fit-over : (gs : List (List Span)) (rs f : List Span) → has_shape rs (over gs f) ≡ has_shape rs f
fit-over [] rs f = refl
fit-over (g ∷ gs) rs f = fit-over gs rs (shifted g f) ∙ fit-shifted rs g f

pub fits-over : (gs : List (List Span)) (f : List Span) → 0 < length f → may_mirror (inverted_ranges f) (over gs f) ≡ true
fits-over gs [] h = absurd (omega arith)
fits-over gs (r ∷ rs) h = fit-over gs (inverted_ranges (r ∷ rs)) (r ∷ rs) ∙ fit-back (r ∷ rs) 0 0

or-none : (t x : Bool) → x ≡ false → (t || x) ≡ t
or-none true x e = refl
or-none false x e = e

module _ {C : Type 0} where
  -- ---- the mirror of an item

  later-none : (n : Option Name) (rs : List Span) (i : Item C) (is : List (Item C)) → (one_step n i.undoes ≡ true → i.map ≡ [])
      → later_in n rs (i ∷ is) ≡ one_more (later_in n rs is)
  later-none n [] i is f = from (one_step n i.undoes)
    where
      from : (t : Bool) → (if t && false then Some 0 else one_more (later_in n [] is)) ≡ one_more (later_in n [] is)
      from true = refl
      from false = refl
  later-none n (r ∷ rs) i is f = from (one_step n i.undoes) refl
    where
      from : (t : Bool) → one_step n i.undoes ≡ t → (if t && may_mirror (r ∷ rs) i.map then Some 0 else one_more (later_in n (r ∷ rs) is)) ≡ one_more (later_in n (r ∷ rs) is)
      from true e = ap (λ map. if may_mirror (r ∷ rs) map then Some 0 else one_more (later_in n (r ∷ rs) is)) (f e)
      from false e = refl

  found : (n : Option Name) (rs : List Span) (xs : List (Item C)) (u : Item C) (rest : List (Item C)) → NoRangeUndoes n xs
      → one_step n u.undoes ≡ true → may_mirror rs u.map ≡ true → later_in n rs (xs ++ u ∷ rest) ≡ Some (length xs)
  found n rs [] u rest h e f = ap (λ t. if t then Some 0 else one_more (later_in n rs rest)) (and_from _ _ e f)
  found n rs (x ∷ xs) u rest h e f = later-none n rs x (xs ++ u ∷ rest) h.0 ∙ ap one_more (found n rs xs u rest h.1 e f)

  skip-over : (xs : List (Item C)) (u : Item C) (rest : List (Item C)) (b : Bool) (so : Moved)
      → through_from (paired (xs ++ u ∷ rest)) (suc (length xs)) b so ≡ through_from (paired rest) 0 b so
  skip-over [] u rest b so = refl
  skip-over (x ∷ xs) u rest b so = skip-over xs u rest b so

  partner-of : (xs : List (Item C)) (u : Item C) (rest : List (Item C)) → partner (paired (xs ++ u ∷ rest)) (length xs) ≡ u.map
  partner-of [] u rest = refl
  partner-of (x ∷ xs) u rest = partner-of xs u rest

  -- ---- items over which a position goes as over a row

  -- Over these items, whatever comes after them, a position outside of these maps goes where they send it one after another.
  abbrev pub ItemsSlide : List (Item C) → List (List Span) → Type 0
  ItemsSlide is gs = (rest : List (Item C)) (b : Bool) (so : Moved) → IsOutsideAll gs so.pos
      → (next : Moved) × (next.pos ≡ shift_all gs so.pos) × (next.across ≡ so.across) × (through_from (paired (is ++ rest)) 0 b so ≡ through_from (paired rest) 0 b next)

  abbrev pub maps_of_items : List (Item C) → List (List Span)
  maps_of_items [] = []
  maps_of_items (i ∷ is) = i.map ∷ maps_of_items is

  pub items-slide : (is : List (Item C)) → AreAllApart (maps_of_items is) → ItemsSlide is (maps_of_items is)
  items-slide [] a rest b so o = (so, refl, refl, refl)
  items-slide (i ∷ is) a rest b so o =
      let m = shift-moved i.map so.pos b a.0 o.0 in
      let x = joined so (moved_from i.map 0 0 0 so.pos b) in
      let p = ap (λ z. z.pos) m in
      let go = items-slide is a.1 rest b x (subst (IsOutsideAll (maps_of_items is)) (sym p) o.1) in (
        go.0,
        go.1 ∙ ap (shift_all (maps_of_items is)) p,
        go.2 ∙ or-none so.across (moved_from i.map 0 0 0 so.pos b).across (ap (λ z. z.across) m),
        over-none i.map (later_in i.name i.map (is ++ rest)) (paired (is ++ rest)) b so (ap (λ z. z.recover) m) ∙ go.3,
      )

  pub slide-leads : (is : List (Item C)) (gs : List (List Span)) → ItemsSlide is gs → LeadsAs (paired is) gs
  slide-leads is gs s p b o =
      let x = s [] b (kept_at p) o in
      let e : through_from (paired is) 0 b (kept_at p) ≡ x.0 = ap (λ l. through_from (paired l) 0 b (kept_at p)) (sym (append-nil is)) ∙ x.3 in
      record { pos = ap (λ z. z.pos) e ∙ x.1; across = ap (λ z. z.across) e ∙ x.2 }

  -- an item at the front, and the item that undoes it after
  pub items-round : (i u : Item C) (is : List (Item C)) (gs : List (List Span)) (f : List Span) → AreApart f 0 → 0 < length f → IsCorner f gs → ItemsSlide is gs
      → i.map ≡ inverted_ranges f → u.map ≡ over gs f → NoRangeUndoes i.name is → one_step i.name u.undoes ≡ true
      → ItemsSlide (i ∷ (is ++ u ∷ [])) (beside f gs)
  items-round i u is gs f a z c s im um none undoes rest b so o =
      let w = from-behind gs f so.pos b a c o in
      let front = inverted_ranges f in
      let es = paired (is ++ u ∷ rest) in
      let q = over-apart f gs a c in
      let h = inverted_ranges (over gs f) in
      let e : u.map ≡ inverted_ranges h = um ∙ sym (twice (over gs f) q) in
      let later = later_in i.name i.map (is ++ u ∷ rest) in
      let fits : may_mirror i.map u.map ≡ true = ap (λ x. may_mirror x u.map) im ∙ ap (may_mirror front) um ∙ fits-over gs f z in
      let gap = found i.name i.map is u rest none undoes fits in
      let way = goes-round gs front h u.map (back-apart (over gs f) q) e es (length is) later (later_in u.name u.map rest) (paired rest) b so
      (shift_all (beside f gs) so.pos) (λ x k. s (u ∷ rest) b x k) (partner-of is u rest) (λ x. skip-over is u rest b x) (λ r t. gap) w.outside w.moves in (
        way.0,
        way.1,
        way.2,
        ap (λ l. through_from (paired (i ∷ l)) 0 b so) (append_assoc is (u ∷ []) rest)
            ∙ ap (λ map. through_from (entry map later ∷ es) 0 b so) im ∙ way.3,
      )
