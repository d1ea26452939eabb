-- Places of anchors over one map after another.
use Rattle.std.specs.Prelude.{◌≡◌, ℕ, ◌+◌, ◌≤◌, ◌<◌, ◌^◌, suc, List, [], ◌∷◌, ◌++◌, length, drop, map, None, All, refl}
use Rattle.std.specs.List.{AllByRecursion as Each}
use Rattle.std.proofs.Common.{arith, ap, sym, subst, ◌∙◌, get_or, append-nil}
use Rattle.std.proofs.Math.Seq.{drop-cons}
use Rattle.std.proofs.lemmas.List.Elements.{All-from_recursion}
use Rattle.pm_map.specs.declared.step_map.Span.{Span}
use Rattle.pm_map.specs.declared.step_map.Moved.{Moved}
use Rattle.pm_map.specs.declared.mapping.Mirrored.{Mirrored}
use Rattle.pm_map.specs.Moves.{moved, is_before, kept_at}
use Rattle.pm_map.specs.Through.{through_from, ArePaired}
use Rattle.pm_map.specs.Mirrors.{entry}
use Rattle.pm_map.specs.Fits.{FitsSizes, FitBetween}
use Rattle.pm_map.proofs.Rooms.{zero-sums, moved-fits}
use Rattle.pm_map.proofs.Sizes.{position-fits}
use Rattle.pm_change.specs.Changes.{Meaning, Laws}
use Rattle.pm_authority.specs.declared.named.Named.{Named}
use Rattle.pm_client.specs.declared.cursors.Cursor.{Cursor}
use Rattle.pm_client.specs.Cursors.{AreWithin}
use Rattle.pm_client.specs.Rebases.{maps_of}
use Rattle.pm_client.specs.Rebasables.{NamedHasMap}
use Rattle.pm_client.proofs.RebaseLaws.{maps-fit, plain-paired}
use Rattle.pm_anchors.specs.Leading.{led, HaveRoom}
use Rattle.pm_anchors.specs.Anchors.{place, places, MayFollow}

-- each anchor over no map
abbrev pub stills : List Cursor → List Moved
stills cs = map (λ a. kept_at a.pos) cs

-- where the maps that are left send places
abbrev pub finished : List Mirrored → List Cursor → List Moved → List Moved
finished ms [] ps = []
finished ms (a ∷ others) [] = []
finished ms (a ∷ others) (p ∷ ps) = through_from ms 0 (is_before a.side) p ∷ finished ms others ps

finished-next : (ranges : List Span) (ms : List Mirrored) (cs : List Cursor) (ps : List Moved) → finished (entry ranges None ∷ ms) cs ps ≡ finished ms cs (led ranges cs ps)
finished-next ranges ms [] ps = refl
finished-next ranges ms (a ∷ others) [] = refl
finished-next ranges ms (a ∷ others) (p ∷ ps) = ap (λ qs. through_from (entry ranges None ∷ ms) 0 (is_before a.side) p ∷ qs) (finished-next ranges ms others ps)

finished-none : (cs : List Cursor) (ps : List Moved) → length cs ≡ length ps → finished [] cs ps ≡ ps
finished-none [] [] h = refl
finished-none [] (p ∷ ps) h = absurd (omega (arith, h))
finished-none (a ∷ others) [] h = absurd (omega (arith, h))
finished-none (a ∷ others) (p ∷ ps) h = ap (λ qs. p ∷ qs) (finished-none others ps (omega (arith, h)))

finished-all : (ms : List Mirrored) (cs : List Cursor) → finished ms cs (stills cs) ≡ map (place ms) cs
finished-all ms [] = refl
finished-all ms (a ∷ others) = ap (λ qs. place ms a ∷ qs) (finished-all ms others)

led-length : (ranges : List Span) (cs : List Cursor) (ps : List Moved) → length cs ≡ length ps → length cs ≡ length (led ranges cs ps)
led-length ranges [] ps h = refl
led-length ranges (a ∷ others) [] h = h
led-length ranges (a ∷ others) (p ∷ ps) h = ap suc (led-length ranges others ps (omega (arith, h)))

stills-length : (cs : List Cursor) → length cs ≡ length (stills cs)
stills-length [] = refl
stills-length (a ∷ others) = ap suc (stills-length others)

-- ---- within the documents

abbrev pub AreBelow : ℕ → List Moved → Type 0
AreBelow n ps = Each (λ p. p.pos ≤ n) ps

stills-below : (n : ℕ) (cs : List Cursor) → AreWithin n cs → AreBelow n (stills cs)
stills-below n [] h = tt
stills-below n (a ∷ others) h = (h.0, stills-below n others h.1)

moves-below : (ranges : List Span) (n k p : ℕ) (a : Cursor) → FitsSizes ranges n k → p ≤ n → (moved ranges p a.side).pos ≤ k
moves-below ranges n k p a f h = moved-fits ranges 0 0 0 0 n k p (is_before a.side) (zero-sums ranges n k f) (omega arith) (omega arith) h

led-below : (ranges : List Span) (n k : ℕ) (cs : List Cursor) (ps : List Moved) → FitsSizes ranges n k → AreBelow n ps → AreBelow k (led ranges cs ps)
led-below ranges n k [] ps f h = tt
led-below ranges n k (a ∷ others) [] f h = tt
led-below ranges n k (a ∷ others) (p ∷ ps) f h = (moves-below ranges n k p.pos a f h.0, led-below ranges n k others ps f h.1)

have-room : (ranges : List Span) (n k : ℕ) (cs : List Cursor) (ps : List Moved) → k < 2 ^ 32 → FitsSizes ranges n k → AreBelow n ps → HaveRoom ranges cs ps
have-room ranges n k [] ps l f h = tt
have-room ranges n k (a ∷ others) [] l f h = tt
have-room ranges n k (a ∷ others) (p ∷ ps) l f h =
    let b = moves-below ranges n k p.pos a f h.0 in
    (omega (arith, b, l), have-room ranges n k others ps l f h.1)

first-small : (ms : List Mirrored) (n k : ℕ) → FitBetween ms n k → n < 2 ^ 32
first-small [] n k h = h.0
first-small (e ∷ es) n k (mid, h) = h.0

module _ {Rules Doc Reason C : Type 0} (m : Meaning Rules Doc Reason C) where
  -- The steps that are left may lead the places on, and then these stand where all steps send the anchors.
  pub record IsOnWay (steps : List (Named C)) (anchors : List Cursor) (ps : List Moved) (all : List Moved) : Type 0 where
    pub size : ℕ
    pub last : ℕ
    pub fit : FitBetween (maps_of m steps) size last
    pub have : Each (NamedHasMap m) steps
    pub below : AreBelow size ps
    pub each : length anchors ≡ length ps
    pub ends : finished (maps_of m steps) anchors ps ≡ all

  pub begun : Laws m → (steps : List (Named C)) (anchors : List Cursor) → MayFollow m steps anchors → IsOnWay steps anchors (stills anchors) (places m steps anchors)
  begun laws steps anchors f =
      let r = maps-fit m f.rules laws f.before f.after steps f.good f.apply in
      record {
        size = m.size f.before;
        last = m.size f.after;
        fit = r.0;
        have = r.1;
        below = stills-below (m.size f.before) anchors f.within;
        each = stills-length anchors;
        ends = finished-all (maps_of m steps) anchors;
      }

  pub map-had : (n : Named C) (ns : List (Named C)) (anchors : List Cursor) (ps all : List Moved) → IsOnWay (n ∷ ns) anchors ps all → NamedHasMap m n
  map-had n ns anchors ps all w = w.have.0

  pub room-had : (n : Named C) (ns : List (Named C)) (anchors : List Cursor) (ps all : List Moved) → IsOnWay (n ∷ ns) anchors ps all → HaveRoom (m.step_map n.change) anchors ps
  room-had n ns anchors ps all w =
      let f = w.fit in
      have-room (m.step_map n.change) w.size f.0 anchors ps (first-small (maps_of m ns) f.0 w.last f.1.2) f.1.1 w.below

  pub gone-on : (n : Named C) (ns : List (Named C)) (anchors : List Cursor) (ps all : List Moved) → IsOnWay (n ∷ ns) anchors ps all → IsOnWay ns anchors (led (m.step_map n.change) anchors ps) all
  gone-on n ns anchors ps all w =
      let f = w.fit in
      record {
        size = f.0;
        last = w.last;
        fit = f.1.2;
        have = w.have.1;
        below = led-below (m.step_map n.change) w.size f.0 anchors ps f.1.1 w.below;
        each = led-length (m.step_map n.change) anchors ps w.each;
        ends = sym (finished-next (m.step_map n.change) (maps_of m ns) anchors ps) ∙ w.ends;
      }

  pub come : (anchors : List Cursor) (ps all : List Moved) → IsOnWay [] anchors ps all → ps ≡ all
  come anchors ps all w = sym (finished-none anchors ps w.each) ∙ w.ends

  -- the steps from a place on
  pub at-step : (steps : List (Named C)) (i : ℕ) (n : Named C) (anchors : List Cursor) (ps all : List Moved) → i < length steps → n ≡ get_or steps i n → IsOnWay (drop i steps) anchors ps all
      → IsOnWay (n ∷ drop (i + 1) steps) anchors ps all
  at-step steps i n anchors ps all l is w =
      subst (λ ns. IsOnWay ns anchors ps all) (drop-cons steps i n l ∙ ap (λ x. x ∷ drop (suc i) steps) (sym is) ∙ ap (λ j. n ∷ drop j steps) (sym (one-more i))) w
    where
      one-more : (k : ℕ) → k + 1 ≡ suc k
      one-more k = omega arith

  places-within : (ms : List Mirrored) (n k : ℕ) (cs : List Cursor) → ArePaired ms → FitBetween ms n k → AreWithin n cs → AreBelow k (map (place ms) cs)
  places-within ms n k [] p f h = tt
  places-within ms n k (a ∷ others) p f h = ((position-fits ms n k a.pos a.side p f h.0).1, places-within ms n k others p f h.1)

  pub all-within : Laws m → (steps : List (Named C)) (anchors : List Cursor) (f : MayFollow m steps anchors) (ps : List Moved) → ps ≡ places m steps anchors → All (λ p. p.pos ≤ m.size f.after) ps
  all-within laws steps anchors f ps is =
      let r = maps-fit m f.rules laws f.before f.after steps f.good f.apply in
      subst (All (λ p. p.pos ≤ m.size f.after)) (sym is)
      (All-from_recursion (λ p. p.pos ≤ m.size f.after) (places m steps anchors) (places-within (maps_of m steps) (m.size f.before) (m.size f.after) anchors (plain-paired m f.rules steps) r.0 f.within))

  -- the loop over the steps
  pub on-way : Laws m → (steps : List (Named C)) (anchors : List Cursor) (i : ℕ) (ps : List Moved) → drop i anchors ≡ [] → ps ++ stills (drop i anchors) ≡ stills anchors → MayFollow m steps anchors
      → IsOnWay steps anchors ps (places m steps anchors)
  on-way laws steps anchors i ps none was f =
      let whole : ps ≡ stills anchors = sym (append-nil ps) ∙ ap (λ cs. ps ++ stills cs) (sym none) ∙ was in
      subst (λ qs. IsOnWay steps anchors qs (places m steps anchors)) (sym whole) (begun laws steps anchors f)

  pub one-room : (n : Named C) (ns : List (Named C)) (anchors : List Cursor) (ps qs all : List Moved) (ranges : List Span) → qs ≡ ps → ranges ≡ m.step_map n.change → IsOnWay (n ∷ ns) anchors ps all
      → (length anchors ≡ length qs) × HaveRoom ranges anchors qs
  one-room n ns anchors ps qs all ranges same is w = (
    w.each ∙ ap (λ (l : List Moved). length l) (sym same),
    subst (λ l. HaveRoom ranges anchors l) (sym same) (subst (λ rs. HaveRoom rs anchors ps) (sym is) (room-had n ns anchors ps all w)),
  )

  pub one-led : (n : Named C) (ns : List (Named C)) (anchors : List Cursor) (ps qs new all : List Moved) (ranges : List Span) → qs ≡ ps → ranges ≡ m.step_map n.change → new ≡ led ranges anchors qs → IsOnWay (n ∷ ns) anchors ps all
      → IsOnWay ns anchors new all
  one-led n ns anchors ps qs new all ranges same is went w =
      subst (λ l. IsOnWay ns anchors l all) (sym (went ∙ ap (led ranges anchors) same ∙ ap (λ rs. led rs anchors ps) is)) (gone-on n ns anchors ps all w)

  pub arrived : (steps : List (Named C)) (anchors : List Cursor) (i : ℕ) (ps all : List Moved) → drop i steps ≡ [] → IsOnWay (drop i steps) anchors ps all → ps ≡ all
  arrived steps anchors i ps all none w = come anchors ps all (subst (λ ns. IsOnWay ns anchors ps all) none w)
