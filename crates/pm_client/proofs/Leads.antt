-- A cursor with side `After` before a named token stays before it over the mapping of a rebase.
use Rattle.std.specs.Prelude.{◌≡◌, ℕ, zero, suc, ◌+◌, ◌-◌, ◌≤◌, ◌<◌, Bool, false, List, [], ◌∷◌, ◌++◌, length, take, drop, slice_get, map, Option, Some, None, refl}
use Rattle.std.proofs.Common.{arith, sym, ap, ◌∙◌, subst, length-drop}
use Rattle.pm_map.specs.declared.side.Side.TheVariants.{After}
use Rattle.pm_map.specs.declared.step_map.Span.{Span}
use Rattle.pm_map.specs.declared.step_map.Moved.{Moved}
use Rattle.pm_map.specs.declared.step_map.Recover.{Recover}
use Rattle.pm_map.specs.declared.mapping.Mirrored.{Mirrored}
use Rattle.pm_map.specs.Moves.{moved_from, kept_at, inverted_from, inverted_ranges}
use Rattle.pm_map.specs.Through.{start_from, result_start, new_at, through, through_from, joined, at_pos, partner, stepped, skipped, IsPairedAt, ArePaired}
use Rattle.pm_map.specs.Mirrors.{entry, fronted, enclosed, gap_for}
use Rattle.pm_map.specs.Fits.{FitsFrom, FitsSizes, new_size_of}
use Rattle.pm_map.proofs.Rooms.{zero-sums}
use Rattle.pm_client.specs.TokenNames.{Token, tokens_from, spliced_from, spliced, Unpinched, Has}
use Rattle.pm_client.proofs.Tokens.{Survives, length-fresh, get-front, get-back, length-take, moved_sum, fits-end, stands-moved}
use Rattle.pm_client.proofs.Origins.{place_of, get-fresh, Origin, Old, New, origin}

-- what a step puts in stands in the ranges of its result
fresh-at : (fresh : ℕ → Token) (ss : List Span) (gained lost from n k place j o : ℕ) (names : List Token) → FitsFrom ss from n (n + gained) (k + lost) → lost ≤ from
    → from + length names ≡ n → j < length ss → o < new_at ss j
    → ((from + gained) - lost ≤ start_from ss j gained lost)
    × (slice_get (spliced_from fresh ss from place names) ((start_from ss j gained lost + o) - ((from + gained) - lost)) ≡ Some (fresh (place + place_of ss j + o)))
fresh-at fresh [] gained lost from n k place j o names h l size lt w = absurd (omega arith)
fresh-at fresh (s ∷ ss) gained lost from n k place zero o names h l size lt w =
    let after = spliced_from fresh ss (s.start + s.old_size) (place + s.new_size) (drop ((s.start - from) + s.old_size) names) in
    let in_size : s.start + s.old_size ≤ n = fits-end ss (s.start + s.old_size) n (n + gained + s.new_size) (k + lost + s.old_size) h.1 in
    let front : length (take (s.start - from) names) ≡ s.start - from = length-take names (s.start - from) (omega (arith, in_size, h.0, size)) in
    let z : place + 0 + o ≡ place + o = omega arith in (
      omega (arith, h.0, l),
      get-back (take (s.start - from) names) (tokens_from fresh place s.new_size ++ after) ((((s.start + gained) - lost) + o) - ((from + gained) - lost)) o (omega (arith, front, h.0, l))
          ∙ get-front (tokens_from fresh place s.new_size) after o (omega (arith, length-fresh fresh place s.new_size, w))
          ∙ get-fresh fresh place s.new_size o w ∙ rw z refl,
    )
fresh-at fresh (s ∷ ss) gained lost from n k place (suc j) o names h l size lt w =
    let after = spliced_from fresh ss (s.start + s.old_size) (place + s.new_size) (drop ((s.start - from) + s.old_size) names) in
    let in_size : s.start + s.old_size ≤ n = fits-end ss (s.start + s.old_size) n (n + gained + s.new_size) (k + lost + s.old_size) h.1 in
    let front : length (take (s.start - from) names) ≡ s.start - from = length-take names (s.start - from) (omega (arith, in_size, h.0, size)) in
    let g = fresh-at fresh ss (gained + s.new_size) (lost + s.old_size) (s.start + s.old_size) n k (place + s.new_size) j o (drop ((s.start - from) + s.old_size) names)
    (rw (moved_sum n gained s.new_size, moved_sum k lost s.old_size) h.1) (omega (arith, h.0, l)) (omega (arith, length-drop ((s.start - from) + s.old_size) names, size, h.0, in_size)) (omega (arith, lt)) w in
    let at : ℕ = start_from ss j (gained + s.new_size) (lost + s.old_size) in
    let q : ℕ = (at + o) - ((s.start + s.old_size + (gained + s.new_size)) - (lost + s.old_size)) in
    let z : place + (s.new_size + place_of ss j) + o ≡ place + s.new_size + place_of ss j + o = omega arith in (
      omega (arith, g.0, h.0, l),
      get-back (take (s.start - from) names) (tokens_from fresh place s.new_size ++ after) ((at + o) - ((from + gained) - lost)) (s.new_size + q) (omega (arith, front, g.0, h.0, l))
          ∙ get-back (tokens_from fresh place s.new_size) after (s.new_size + q) q (omega (arith, length-fresh fresh place s.new_size))
          ∙ g.1 ∙ rw z refl,
    )

same-places : (ss rs : List Span) (j : ℕ) → map new_size_of ss ≡ map new_size_of rs → (place_of ss j ≡ place_of rs j) × (new_at ss j ≡ new_at rs j) × (length ss ≡ length rs)
same-places [] [] j h = (refl, refl, refl)
same-places [] (r ∷ rs) j h = absurd (cc)
same-places (s ∷ ss) [] j h = absurd (cc)
same-places (s ∷ ss) (r ∷ rs) zero h =
    let e : s.new_size ≡ r.new_size = cc in
    let t : map new_size_of ss ≡ map new_size_of rs = cc in
    (refl, e, omega (arith, (same-places ss rs 0 t).2))
same-places (s ∷ ss) (r ∷ rs) (suc j) h =
    let e : s.new_size ≡ r.new_size = cc in
    let t : map new_size_of ss ≡ map new_size_of rs = cc in
    let g = same-places ss rs j t in
    (omega (arith, e, g.0), g.1, omega (arith, g.2))

stepped-pos : (so so2 m : Moved) (later : Option ℕ) (found : Option Recover) (ms : List Mirrored) → (stepped so m later found ms).pos ≡ (stepped so2 m later found ms).pos
stepped-pos so so2 m None found ms = refl
stepped-pos so so2 m (Some gap) None ms = refl
stepped-pos so so2 m (Some gap) (Some r) ms = refl

-- where a position goes does not depend on the flags so far
pub through-pos : (ms : List Mirrored) (skip : ℕ) (b : Bool) (so so2 : Moved) → so.pos ≡ so2.pos → (through_from ms skip b so).pos ≡ (through_from ms skip b so2).pos
through-pos [] skip b so so2 e = e
through-pos (d ∷ ms) (suc skip) b so so2 e = through-pos ms skip b so so2 e
through-pos (d ∷ ms) zero b so so2 e =
    let m : Moved = moved_from d.map 0 0 0 so2.pos b in
    rw e (through-pos ms (skipped d.later m.recover) b (stepped so m d.later m.recover ms) (stepped so2 m d.later m.recover ms) (stepped-pos so so2 m d.later m.recover ms))

partner-in : (ms xs : List Mirrored) (gap : ℕ) → gap < length ms → partner (ms ++ xs) gap ≡ partner ms gap
partner-in [] xs gap l = absurd (omega arith)
partner-in (e ∷ ms) xs zero l = refl
partner-in (e ∷ ms) xs (suc gap) l = partner-in ms xs gap (omega arith)

partner-last : (ms : List Mirrored) (e : Mirrored) → partner (ms ++ e ∷ []) (length ms) ≡ e.map
partner-last [] e = refl
partner-last (d ∷ ms) e = partner-last ms e

stepped-in : (ranges : List Span) (so m : Moved) (later : Option ℕ) (found : Option Recover) (ms xs : List Mirrored) → IsPairedAt ranges later ms
    → (stepped so m later found (ms ++ xs) ≡ stepped so m later found ms) × (skipped later found ≤ length ms)
stepped-in ranges so m None found ms xs h = (refl, omega arith)
stepped-in ranges so m (Some gap) None ms xs h = (refl, omega arith)
stepped-in ranges so m (Some gap) (Some r) ms xs h = (ap (λ l. at_pos so (result_start l r.range + r.offset)) (partner-in ms xs gap h.0), omega (arith, h.0))

-- a map after a mapping
pub through-last : (ms : List Mirrored) (ss : List Span) (skip : ℕ) (b : Bool) (so : Moved) → ArePaired ms → skip ≤ length ms
    → (through_from (ms ++ entry ss None ∷ []) skip b so).pos ≡ (moved_from ss 0 0 0 (through_from ms skip b so).pos b).pos
through-last [] ss zero b so h l = refl
through-last [] ss (suc skip) b so h l = absurd (omega arith)
through-last (e ∷ ms) ss (suc skip) b so h l = through-last ms ss skip b so h.1 (omega arith)
through-last (e ∷ ms) ss zero b so h l =
    let m : Moved = moved_from e.map 0 0 0 so.pos b in
    let g = stepped-in e.map so m e.later m.recover ms (entry ss None ∷ []) h.0 in
    ap (λ (x : Moved). (through_from (ms ++ entry ss None ∷ []) (skipped e.later m.recover) b x).pos) g.0
    ∙ through-last ms ss (skipped e.later m.recover) b (stepped so m e.later m.recover ms) h.1 g.1

skip-all : (ms : List Mirrored) (x : Mirrored) (b : Bool) (so : Moved) → through_from (ms ++ x ∷ []) (suc (length ms)) b so ≡ so
skip-all [] x b so = refl
skip-all (e ∷ ms) x b so = skip-all ms x b so

-- an entry whose map has nothing to recover
not-recovered : (so m : Moved) (later : Option ℕ) (found : Option Recover) (ms : List Mirrored) → found ≡ None
    → ((stepped so m later found ms).pos ≡ m.pos) × (skipped later found ≡ 0)
not-recovered so m None found ms e = (refl, refl)
not-recovered so m (Some gap) None ms e = (refl, refl)
not-recovered so m (Some gap) (Some r) ms e = absurd (cc)

module _ where
  abbrev pub Distinct : List Token → Type 0
  Distinct xs = (a b : ℕ) (t : Token) → slice_get xs a ≡ Some t → slice_get xs b ≡ Some t → a ≡ b

  abbrev pub Unseen : (ℕ → Token) → List Token → Type 0
  Unseen fresh xs = (j : ℕ) → Has xs (fresh j) → ⊥

  -- a cursor with side `After` before a token of the old document that is in the new one stands before it there
  abbrev pub Leads : List Mirrored → List Token → List Token → Type 0
  Leads ms old new = (p : ℕ) (t : Token) → slice_get old p ≡ Some t → Has new t → slice_get new (through ms p After).pos ≡ Some t

  module _ (fresh : ℕ → Token) (rs : List Span) (n k : ℕ) (ms : List Mirrored) (old new : List Token) (fits : FitsSizes rs n k) (apart : Unpinched rs) (size : length old ≡ n) (leads : Leads ms old new) where
    from-old : (p : ℕ) (t : Token) → slice_get (spliced fresh rs old) p ≡ Some t → Origin fresh rs 0 0 0 old (moved_from (inverted_ranges rs) 0 0 0 p false) t
    from-old p t at = origin fresh rs 0 0 0 0 n k 0 p p old t (zero-sums rs n k fits) apart (omega arith) (omega (arith, size)) (omega arith) at

    -- a step was lost
    pub lost-leads : Unseen fresh new → Leads (fronted ms (inverted_ranges rs)) (spliced fresh rs old) new
    lost-leads unseen p t at has = by-origin (moved_from (inverted_ranges rs) 0 0 0 p false) (from-old p t at)
      where
        by-origin : (m : Moved) → Origin fresh rs 0 0 0 old m t → slice_get new (through_from ms 0 false (joined (kept_at p) m)).pos ≡ Some t
        by-origin m (Old above g none s) =
            let z : m.pos - 0 ≡ m.pos = omega arith in
            rw (through-pos ms 0 false (joined (kept_at p) m) (kept_at m.pos) refl) (leads m.pos t (rw z at g) has)
        by-origin m (New j o lt w rec made) = absurd (unseen (0 + place_of rs j + o) (rw made at has))

    module _ (ss : List Span) (n2 k2 : ℕ) (fits2 : FitsSizes ss n2 k2) (apart2 : Unpinched ss) (size2 : length new ≡ n2) (same : map new_size_of ss ≡ map new_size_of rs)
        (paired : ArePaired ms) (unseen : Unseen fresh old) (distinct : Distinct new) where
      -- a token of the old document that is in the new one after the step survives the step
      survives : (x q : ℕ) (t : Token) → Has old t → slice_get new x ≡ Some t → slice_get (spliced fresh ss new) q ≡ Some t → Survives ss x
      survives x q t has at there = by-origin (moved_from (inverted_ranges ss) 0 0 0 q false) (origin fresh ss 0 0 0 0 n2 k2 0 q q new t (zero-sums ss n2 k2 fits2) apart2 (omega arith) (omega (arith, size2)) (omega arith) there)
        where
          by-origin : (m : Moved) → Origin fresh ss 0 0 0 new m t → Survives ss x
          by-origin m (Old above g none s) =
              let z : m.pos - 0 ≡ m.pos = omega arith in
              subst (Survives ss) (distinct m.pos x t (rw z at g) at) s
          by-origin m (New j o lt w rec made) = absurd (unseen (0 + place_of ss j + o) (rw made at has))

      has-back : (q : ℕ) (t : Token) → Has old t → slice_get (spliced fresh ss new) q ≡ Some t → Has new t
      has-back q t has there = by-origin (moved_from (inverted_ranges ss) 0 0 0 q false) (origin fresh ss 0 0 0 0 n2 k2 0 q q new t (zero-sums ss n2 k2 fits2) apart2 (omega arith) (omega (arith, size2)) (omega arith) there)
        where
          by-origin : (m : Moved) → Origin fresh ss 0 0 0 new m t → Has new t
          by-origin m (Old above g none s) = (m.pos - 0, g)
          by-origin m (New j o lt w rec made) = absurd (unseen (0 + place_of ss j + o) (rw made at has))

      -- a step was kept
      pub held-leads : Leads (enclosed ms (inverted_ranges rs) ss) (spliced fresh rs old) (spliced fresh ss new)
      held-leads p t at has = by-origin (moved_from (inverted_ranges rs) 0 0 0 p false) (from-old p t at)
        where
          gap-some : (ranges : List Span) (gained lost gap : ℕ) → 0 < length ranges → gap_for (inverted_from ranges gained lost) gap ≡ Some gap
          gap-some [] gained lost gap l = absurd (omega arith)
          gap-some (r ∷ ranges) gained lost gap l = refl

          by-origin : (m : Moved) → Origin fresh rs 0 0 0 old m t
              → slice_get (spliced fresh ss new) (through_from (ms ++ entry ss None ∷ []) (skipped (gap_for (inverted_ranges rs) (length ms)) m.recover) false (stepped (kept_at p) m (gap_for (inverted_ranges rs) (length ms)) m.recover (ms ++ entry ss None ∷ []))).pos ≡ Some t
          by-origin m (Old above g none s) =
              let z : m.pos - 0 ≡ m.pos = omega arith in
              let es : List Mirrored = ms ++ entry ss None ∷ [] in
              let later : Option ℕ = gap_for (inverted_ranges rs) (length ms) in
              let nr = not-recovered (kept_at p) m later m.recover es none in
              let x : ℕ = (through_from ms 0 false (kept_at m.pos)).pos in
              let here : slice_get old m.pos ≡ Some t = rw z at g in
              let at_x : slice_get new x ≡ Some t = leads m.pos t here (has-back has.0 t (m.pos, here) has.1) in
              let left : Survives ss x = survives x has.0 t (m.pos, here) at_x has.1 in
              let final = (stands-moved fresh ss n2 k2 x new t fits2 apart2 left size2 at_x).0 in
              let way : (through_from es 0 false (stepped (kept_at p) m later m.recover es)).pos ≡ (moved_from ss 0 0 0 x false).pos =
              through-pos es 0 false (stepped (kept_at p) m later m.recover es) (kept_at m.pos) nr.0 ∙ through-last ms ss 0 false (kept_at m.pos) paired (omega arith) in
              rw (nr.1, way) final
          by-origin m (New j o lt w rec made) =
              let sp = same-places ss rs j same in
              let f = fresh-at fresh ss 0 0 0 n2 k2 0 j o new (zero-sums ss n2 k2 fits2) (omega arith) (omega (arith, size2)) (omega (arith, lt, sp.2)) (omega (arith, w, sp.1)) in
              let e : 0 + j ≡ j = omega arith in
              let z : (start_from ss j 0 0 + o) - ((0 + 0) - 0) ≡ start_from ss j 0 0 + o = omega arith in
              let name : Some (fresh (0 + place_of ss j + o)) ≡ Some t = rw sp.0 (ap Some (sym made)) in
              rw (gap-some rs 0 0 (length ms) (omega (arith, lt)), rec)
              (rw (skip-all ms (entry ss None) false (at_pos (kept_at p) (result_start (partner (ms ++ entry ss None ∷ []) (length ms)) (0 + j) + o)), partner-last ms (entry ss None), e)
              (rw z at f.1 ∙ name))
