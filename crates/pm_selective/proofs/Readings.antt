-- What the calls on items need.
use Rattle.std.specs.Prelude.{◌≡◌, ◌&&◌, ℕ, zero, suc, ◌+◌, ◌-◌, ◌≤◌, ◌<◌, ◌^◌, Bool, true, false, if◌then◌else◌, nat_lt, List, [], ◌∷◌, ◌++◌, length, take, drop, get_or, Some, None, refl}
use Rattle.std.proofs.Common.{Option, arith, ap, sym, subst, ◌∙◌, drop-cons, append_assoc, append-nil}
use Rattle.std.proofs.lemmas.List.{length-drop}
use Rattle.std.proofs.Math.Seq.{take-length}
use Rattle.pm_map.specs.declared.step_map.Span.{Span}
use Rattle.pm_map.specs.Moves.{inverted_ranges, AreInOrder}
use Rattle.pm_map.specs.Through.{range_at}
use Rattle.pm_map.specs.Fits.{FitsSizes, FitsFrom}
use Rattle.pm_map.proofs.Rooms.{moved-fits, zero-sums}
use Rattle.pm_map.proofs.Sizes.{inverted-fits}
use Rattle.pm_change.specs.declared.name.Name.{Name}
use Rattle.pm_change.specs.Changes.{Meaning, Laws}
use Rattle.pm_history.specs.Shows.{Shows}
use Rattle.pm_history.specs.declared.item.Item.{Item}
use Rattle.pm_history.specs.Items.{one_step}
use Rattle.pm_selective.specs.declared.telling.Reach.{Reach}
use Rattle.pm_selective.specs.Apart.{moved_reaches, reaches}
use Rattle.pm_selective.specs.Told.{item_maps}
use Rattle.pm_selective.specs.Tests.{beyond_all, apart_from, is_splice_map, apart_behind, are_named, from_name, FitChain, FitItems, HasRoomAll, EndWithin, FitReaches}

one-more : (k : ℕ) → suc k ≡ k + 1
one-more k = omega arith

-- ---- maps of at most two ranges

pub two-ranges : (m : List Span) (r s : Span) → length m ≤ 2 → range_at m 0 ≡ Some r → range_at m 1 ≡ Some s → m ≡ r ∷ s ∷ []
two-ranges [] r s h a b = absurd (cc)
two-ranges (x ∷ []) r s h a b = absurd (cc)
two-ranges (x ∷ y ∷ []) r s h a b = let e : x ≡ r = cc in let d : y ≡ s = cc in rw (e, d) refl
two-ranges (x ∷ y ∷ z ∷ m) r s h a b = absurd (omega (arith, h))

pub one-range : (m : List Span) (r : Span) → range_at m 0 ≡ Some r → range_at m 1 ≡ None → m ≡ r ∷ []
one-range [] r a b = absurd (cc)
one-range (x ∷ []) r a b = let e : x ≡ r = cc in rw e refl
one-range (x ∷ y ∷ m) r a b = absurd (cc)

pub no-range : (m : List Span) → range_at m 0 ≡ None → m ≡ []
no-range [] a = refl
no-range (x ∷ m) a = absurd (cc)

pub first-end : (m : List Span) (r : Span) → AreInOrder m 0 0 0 → range_at m 0 ≡ Some r → r.start + r.old_size < 2 ^ 64
first-end [] r h a = absurd (cc)
first-end (x ∷ m) r h a = let e : x ≡ r = cc in subst (λ (z : Span). z.start + z.old_size < 2 ^ 64) e h.1

pub second-end : (m : List Span) (s : Span) → AreInOrder m 0 0 0 → range_at m 1 ≡ Some s → s.start + s.old_size < 2 ^ 64
second-end [] s h a = absurd (cc)
second-end (x ∷ []) s h a = absurd (cc)
second-end (x ∷ y ∷ m) s h a = let e : y ≡ s = cc in subst (λ (z : Span). z.start + z.old_size < 2 ^ 64) e h.3.1

and-true : (t : Bool) → (t && true) ≡ t
and-true true = refl
and-true false = refl

pub splice-two : (m : List Span) (r s : Span) → length m ≤ 2 → range_at m 0 ≡ Some r → range_at m 1 ≡ Some s → (far : ℕ) → far ≡ r.start + r.old_size → nat_lt far s.start ≡ is_splice_map m
splice-two m r s h a b far e = ap (λ z. nat_lt z s.start) e ∙ sym (and-true (nat_lt (r.start + r.old_size) s.start)) ∙ ap is_splice_map (sym (two-ranges m r s h a b))

pub splice-one : (m : List Span) (r : Span) → range_at m 0 ≡ Some r → range_at m 1 ≡ None → true ≡ is_splice_map m
splice-one m r a b = ap is_splice_map (sym (one-range m r a b))

pub splice-none : (m : List Span) → range_at m 0 ≡ None → false ≡ is_splice_map m
splice-none m a = ap is_splice_map (sym (no-range m a))

pub apart-two : (m : List Span) (r s : Span) (xs : List Reach) (t u : Bool) → length m ≤ 2 → range_at m 0 ≡ Some r → range_at m 1 ≡ Some s → t ≡ beyond_all r xs → u ≡ beyond_all s xs → (t && u) ≡ apart_from m xs
apart-two m r s xs t u h a b c d =
    ap (λ z. z && u) c ∙ ap (λ z. beyond_all r xs && z) (d ∙ sym (and-true (beyond_all s xs))) ∙ ap (λ z. apart_from z xs) (sym (two-ranges m r s h a b))

pub apart-one : (m : List Span) (r : Span) (xs : List Reach) → range_at m 0 ≡ Some r → range_at m 1 ≡ None → beyond_all r xs ≡ apart_from m xs
apart-one m r xs a b = sym (and-true (beyond_all r xs)) ∙ ap (λ z. apart_from z xs) (sym (one-range m r a b))

pub apart-none : (m : List Span) (xs : List Reach) → range_at m 0 ≡ None → true ≡ apart_from m xs
apart-none m xs a = ap (λ z. apart_from z xs) (sym (no-range m a))

reach-is : (a : Reach) (f t : ℕ) → a.from ≡ f → a.to ≡ t → a ≡ record { from = f; to = t }
reach-is a f t e d = ap (λ z. record { from = z; to = a.to }) e ∙ ap (λ z. record { from = f; to = z }) d

pub reaches-two : (m : List Span) (r s : Span) (a b : Reach) (xs ys zs : List Reach) → length m ≤ 2 → range_at m 0 ≡ Some r → range_at m 1 ≡ Some s
    → a.from ≡ r.start → a.to ≡ r.start + r.old_size → b.from ≡ s.start → b.to ≡ s.start + s.old_size → ys ≡ xs ++ a ∷ [] → zs ≡ ys ++ b ∷ [] → zs ≡ xs ++ reaches m
reaches-two m r s a b xs ys zs h i j af at bf bt ey ez =
    ez ∙ ap (λ l. l ++ b ∷ []) ey ∙ append_assoc xs (a ∷ []) (b ∷ [])
    ∙ ap (λ z. xs ++ z ∷ b ∷ []) (reach-is a r.start (r.start + r.old_size) af at)
    ∙ ap (λ z. xs ++ record { from = r.start; to = r.start + r.old_size } ∷ z ∷ []) (reach-is b s.start (s.start + s.old_size) bf bt)
    ∙ ap (λ z. xs ++ reaches z) (sym (two-ranges m r s h i j))

pub reaches-one : (m : List Span) (r : Span) (a : Reach) (xs ys : List Reach) → range_at m 0 ≡ Some r → range_at m 1 ≡ None → a.from ≡ r.start → a.to ≡ r.start + r.old_size → ys ≡ xs ++ a ∷ []
    → ys ≡ xs ++ reaches m
reaches-one m r a xs ys i j af at ey =
    ey ∙ ap (λ z. xs ++ z ∷ []) (reach-is a r.start (r.start + r.old_size) af at) ∙ ap (λ z. xs ++ reaches z) (sym (one-range m r i j))

pub reaches-none : (m : List Span) (xs : List Reach) → range_at m 0 ≡ None → xs ≡ xs ++ reaches m
reaches-none m xs i = sym (append-nil xs) ∙ ap (λ z. xs ++ reaches z) (sym (no-range m i))

-- ---- one more of a list read

module _ {C : Type 0} where
  pub named-none : (ns : List Name) (is : List (Item C)) → length is < length ns → are_named ns is ≡ false
  named-none [] is h = absurd (omega (arith, h))
  named-none (n ∷ ns) [] h = refl
  named-none (n ∷ ns) (i ∷ is) h = and-none (one_step (Some n) i.name) (are_named ns is) (named-none ns is (omega (arith, h)))
    where
      and-none : (a b : Bool) → b ≡ false → (a && b) ≡ false
      and-none true b e = e
      and-none false b e = refl

  pub named-next : (ns : List Name) (is : List (Item C)) (k : ℕ) (n : Name) (i : Item C) → k < length ns → k < length is
      → are_named (drop k ns) (drop k is) ≡ one_step (Some (get_or ns k n)) (get_or is k i).name && are_named (drop (k + 1) ns) (drop (k + 1) is)
  named-next ns is k n i h l =
      ap (λ xs. are_named xs (drop k is)) (drop-cons ns k n h)
      ∙ ap (λ xs. are_named (get_or ns k n ∷ drop (suc k) ns) xs) (drop-cons is k i l)
      ∙ ap (λ j. one_step (Some (get_or ns k n)) (get_or is k i).name && are_named (drop j ns) (drop j is)) (one-more k)

  pub from-here : (n : Name) (is : List (Item C)) (k : ℕ) (i : Item C) → k < length is → one_step (Some n) (get_or is k i).name ≡ true → drop k is ≡ from_name n (drop k is)
  from-here n is k i l e =
      drop-cons is k i l ∙ sym (ap (from_name n) (drop-cons is k i l) ∙ ap (λ t. if t then get_or is k i ∷ drop (suc k) is else from_name n (drop (suc k) is)) e)

-- ---- room

pub end-both : (xs ys : List Reach) (n : ℕ) → EndWithin xs n → EndWithin ys n → EndWithin (xs ++ ys) n
end-both [] ys n h k = k
end-both (x ∷ xs) ys n h k = (h.0, h.1, end-both xs ys n h.2 k)

-- where a map that fits sends stretches
pub record Moves (m : List Span) (xs : List Reach) (k : ℕ) : Type 0 where
  pub room : HasRoomAll m xs
  pub within : EndWithin (moved_reaches m xs) k

pub moves-within : (m : List Span) (xs : List Reach) (n k : ℕ) → FitsSizes m n k → k < 2 ^ 32 → EndWithin xs n → Moves m xs k
moves-within m [] n k f l h = record { room = tt; within = tt }
moves-within m (x ∷ xs) n k f l h =
    let a = moved-fits m 0 0 0 0 n k x.from true (zero-sums m n k f) (omega arith) (omega arith) h.0 in
    let b = moved-fits m 0 0 0 0 n k x.to false (zero-sums m n k f) (omega arith) (omega arith) h.1 in
    let i = moves-within m xs n k f l h.2 in
    record { room = ((omega (arith, a, l), omega (arith, b, l)), i.room); within = (a, b, i.within) }

-- the ranges of a map lie within the first size
ranges-within : (m : List Span) (from n a b : ℕ) → FitsFrom m from n a b → EndWithin (reaches m) n × (from ≤ n)
ranges-within [] from n a b h = (tt, h.0)
ranges-within (r ∷ rs) from n a b h =
    let i = ranges-within rs (r.start + r.old_size) n (a + r.new_size) (b + r.old_size) h.1 in
    ((omega (arith, i.1), i.1, i.0), omega (arith, h.0, i.1))

pub results-within : (m : List Span) (n k : ℕ) → FitsSizes m n k → EndWithin (reaches (inverted_ranges m)) k
results-within m n k f = (ranges-within (inverted_ranges m) 0 k k n (inverted-fits m n k f)).0

chain-small : (ms : List (List Span)) (n : ℕ) → FitChain ms n → n < 2 ^ 32
chain-small [] n h = h
chain-small (m ∷ ms) n h = h.0

module _ {C : Type 0} where
  -- one item further
  pub record Further (xs : List Reach) (i : Item C) (is : List (Item C)) : Type 0 where
    pub room : HasRoomAll i.map xs
    pub moved : FitReaches (moved_reaches i.map xs) is
    pub joined : FitReaches (moved_reaches i.map xs ++ reaches (inverted_ranges i.map)) is

  pub further : (xs : List Reach) (i : Item C) (is : List (Item C)) → FitReaches xs (i ∷ is) → Further xs i is
  further xs i is h =
      let n = h.0 in
      let c = h.1.0 in
      let k = c.1 in
      let f = c.2.0 in
      let m = moves-within i.map xs n k f (chain-small (item_maps is) k c.2.1) h.1.1 in
      record {
        room = m.room;
        moved = (k, (c.2.1, m.within));
        joined = (k, (c.2.1, end-both (moved_reaches i.map xs) (reaches (inverted_ranges i.map)) k m.within (results-within i.map n k f)));
      }

  pub further-at : (xs : List Reach) (is : List (Item C)) (k : ℕ) (d : Item C) → k < length is → FitReaches xs (drop k is) → Further xs (get_or is k d) (drop (k + 1) is)
  further-at xs is k d l h =
      subst (λ j. Further xs (get_or is k d) (drop j is)) (one-more k) (further xs (get_or is k d) (drop (suc k) is) (subst (FitReaches xs) (drop-cons is k d l) h))

  -- the test one item further
  pub behind-later : (xs : List Reach) (is : List (Item C)) (k : ℕ) (d : Item C) → k < length is
      → apart_behind 0 xs (drop k is) ≡ apart_from (get_or is k d).map xs && apart_behind 0 (moved_reaches (get_or is k d).map xs) (drop (k + 1) is)
  behind-later xs is k d l =
      ap (apart_behind 0 xs) (drop-cons is k d l) ∙ ap (λ j. apart_from (get_or is k d).map xs && apart_behind 0 (moved_reaches (get_or is k d).map xs) (drop j is)) (one-more k)

  pub behind-event : (count : ℕ) (xs : List Reach) (is : List (Item C)) (k : ℕ) (d : Item C) → k < length is
      → apart_behind (suc count) xs (drop k is) ≡ apart_behind count (moved_reaches (get_or is k d).map xs ++ reaches (inverted_ranges (get_or is k d).map)) (drop (k + 1) is)
  behind-event count xs is k d l =
      ap (apart_behind (suc count) xs) (drop-cons is k d l) ∙ ap (λ j. apart_behind count (moved_reaches (get_or is k d).map xs ++ reaches (inverted_ranges (get_or is k d).map)) (drop j is)) (one-more k)

  pub named-fails : (ns : List Name) (is : List (Item C)) (k : ℕ) (n : Name) (i : Item C) (o : Option Name) (t : Bool) → k < length ns → k < length is → t ≡ one_step (Some (get_or ns k n)) o → o ≡ (get_or is k i).name → t ≡ false
      → are_named (drop k ns) (drop k is) ≡ false
  named-fails ns is k n i o t h l e q f =
      named-next ns is k n i h l
      ∙ ap (λ b. b && are_named (drop (k + 1) ns) (drop (k + 1) is)) (sym (e ∙ ap (one_step (Some (get_or ns k n))) q) ∙ f)

  pub room-at : (xs ys : List Reach) (is : List (Item C)) (k : ℕ) (i : Item C) → k < length is → i ≡ get_or is k i → ys ≡ xs → FitReaches xs (drop k is) → HasRoomAll i.map ys
  room-at xs ys is k i l at e h =
      subst (HasRoomAll i.map) (sym e) (subst (λ (x : Item C). HasRoomAll x.map xs) (sym at) (further-at xs is k i l h).room)

  chain-drop : (is : List (Item C)) (k n : ℕ) → FitChain (item_maps is) n → FitItems (drop k is)
  chain-drop is zero n h = (n, h)
  chain-drop [] (suc k) n h = (n, h)
  chain-drop (i ∷ is) (suc k) n h = chain-drop is k h.1 h.2.1

  pub part-is : (is : List (Item C)) (k : ℕ) → take (length is - k) (drop k is) ≡ drop k is
  part-is is k = ap (λ n. take n (drop k is)) (sym (length-drop k is)) ∙ take-length (drop k is)

  pub part-fits : (is : List (Item C)) (k : ℕ) → FitItems is → FitItems (take (length is - k) (drop k is))
  part-fits is k h = subst FitItems (sym (part-is is k)) (chain-drop is k h.0 h.1)

  -- the loop over the items goes on
  pub record Kept (left : ℕ) (found : List Reach) (rest : List (Item C)) (whole : Bool) : Type 0 where
    pub fits : FitReaches found rest
    pub same : apart_behind left found rest ≡ whole

  pub kept-later : (xs ys zs : List Reach) (is : List (Item C)) (k : ℕ) (i : Item C) (whole : Bool) → k < length is → i ≡ get_or is k i → FitReaches xs (drop k is) → ys ≡ moved_reaches i.map xs
      → apart_from i.map xs ≡ true → apart_behind 0 xs (drop k is) ≡ whole → Kept 0 ys (drop (k + 1) is) whole
  kept-later xs ys zs is k i whole l at h e t s =
      let f = further-at xs is k i l h in
      let d : ys ≡ moved_reaches (get_or is k i).map xs = e ∙ ap (λ (x : Item C). moved_reaches x.map xs) at in
      record {
        fits = subst (λ z. FitReaches z (drop (k + 1) is)) (sym d) f.moved;
        same = ap (λ z. apart_behind 0 z (drop (k + 1) is)) d
            ∙ sym (ap (λ b. b && apart_behind 0 (moved_reaches (get_or is k i).map xs) (drop (k + 1) is)) (sym (ap (λ (x : Item C). apart_from x.map xs) at) ∙ t))
            ∙ sym (behind-later xs is k i l) ∙ s;
      }

  pub kept-event : (count : ℕ) (xs ys : List Reach) (is : List (Item C)) (k : ℕ) (i : Item C) (whole : Bool) → k < length is → i ≡ get_or is k i → FitReaches xs (drop k is)
      → ys ≡ moved_reaches i.map xs ++ reaches (inverted_ranges i.map) → apart_behind (suc count) xs (drop k is) ≡ whole → Kept count ys (drop (k + 1) is) whole
  kept-event count xs ys is k i whole l at h e s =
      let f = further-at xs is k i l h in
      let d : ys ≡ moved_reaches (get_or is k i).map xs ++ reaches (inverted_ranges (get_or is k i).map) = e ∙ ap (λ (x : Item C). moved_reaches x.map xs ++ reaches (inverted_ranges x.map)) at in
      record {
        fits = subst (λ z. FitReaches z (drop (k + 1) is)) (sym d) f.joined;
        same = ap (λ z. apart_behind count z (drop (k + 1) is)) d ∙ sym (behind-event count xs is k i l) ∙ s;
      }

-- the maps of items that stand for steps from a good document on fit its size
module _ {Rules Doc Reason C : Type 0} (m : Meaning Rules Doc Reason C) (rules : Rules) (laws : Laws m) where
  pub shows-fit : (is : List (Item C)) (doc end : Doc) → m.is_good rules doc → Shows m rules doc is end → FitChain (item_maps is) (m.size doc)
  shows-fit [] doc end good h = laws.small rules doc good
  shows-fit (i ∷ is) doc end good s =
      let c = s.0 in
      let next = s.1 in (
        laws.small rules doc good,
        m.size next,
        (
          subst (λ ms. FitsSizes ms (m.size doc) (m.size next)) (sym s.3) (laws.fits rules c doc next good s.2),
          shows-fit is next end (laws.good rules c doc next good s.2) s.5,
        ),
      )
