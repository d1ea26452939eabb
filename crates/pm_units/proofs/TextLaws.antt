-- The units of pieces.
use Rattle.std.specs.Prelude.{◌≡◌, min, Bool, true, false, if◌then◌else◌, ℕ, ◌+◌, ◌-◌, ◌≤◌, ◌<◌, ◌^◌, List, [], ◌∷◌, ◌++◌, length, take, drop, get_or, zero, suc}
use Rattle.std.specs.declared.sync.Arc.{Arc}
use Rattle.std.specs.Arc.{arc_value}
use Rattle.std.proofs.Common.{refl, ap, sym, ◌∙◌, subst, arith, append_assoc, ◌⊎◌, inl, inr}
use Rattle.std.proofs.lemmas.List.{append-nil, length-append, take-append-drop, drop_more, get_or_append_left, get_or-append-add, take_more, take_all, drop_at, take-append-le, drop-append-le, length-take-le, length-drop, drop-drop, take_rest, drop-take, drop_all}
use Rattle.pm_sized.specs.declared.chunks.Chunks.{Chunks}
use Rattle.pm_sized.specs.declared.chunks.Chunks.TheVariants.{Few as AsFew, Many as AsMany, Groups as AsGroups}
use Rattle.pm_sized.specs.Pairs.{pairs_of, total_of, IsLaid, Stands}
use Rattle.pm_sized.specs.Parts.{part, values_in, all_but_last}
use Rattle.pm_units.specs.declared.piece.Piece.{Piece}
use Rattle.pm_units.specs.declared.pieces.Pieces.{Pieces}
use Rattle.pm_units.specs.declared.form.Form.{Form}
use Rattle.pm_units.specs.declared.form.Form.TheVariants.{Short, Long}
use Rattle.pm_units.specs.Pieces.{form_units, IsForm, piece_units, pieces_in, text_in, spelled, EachMeasured, IsPieces, IsAt}

pub spelled-append : (ps qs : List (Piece × ℕ)) → spelled (ps ++ qs) ≡ spelled ps ++ spelled qs
spelled-append [] qs = refl
spelled-append (p ∷ ps) qs = ap (λ us. piece_units p.0 ++ us) (spelled-append ps qs) ∙ sym (append_assoc (piece_units p.0) (spelled ps) (spelled qs))

pub measured-append : (ps qs : List (Piece × ℕ)) → EachMeasured ps → EachMeasured qs → EachMeasured (ps ++ qs)
measured-append [] qs a b = b
measured-append (p ∷ ps) qs a b = (a.0, a.1, a.2, measured-append ps qs a.3 b)

pub measured-take : (n : ℕ) (ps : List (Piece × ℕ)) → EachMeasured ps → EachMeasured (take n ps)
measured-take zero ps a = tt
measured-take (suc n) [] a = tt
measured-take (suc n) (p ∷ ps) a = (a.0, a.1, a.2, measured-take n ps a.3)

pub measured-drop : (n : ℕ) (ps : List (Piece × ℕ)) → EachMeasured ps → EachMeasured (drop n ps)
measured-drop zero ps a = a
measured-drop (suc n) [] a = tt
measured-drop (suc n) (p ∷ ps) a = measured-drop n ps a.3

pub measured-total : (ps : List (Piece × ℕ)) → EachMeasured ps → total_of ps ≡ length (spelled ps)
measured-total [] a = refl
measured-total (p ∷ ps) a = omega (arith, a.0, measured-total ps a.3, length-append (piece_units p.0) (spelled ps))

pub measured-at : (ps : List (Piece × ℕ)) (i : ℕ) (p : Piece) → EachMeasured ps → i < length ps → p ≡ (get_or ps i (p, 0)).0 → (1 ≤ length (piece_units p)) × (length (piece_units p) ≤ 1024)
measured-at [] i p a h e = absurd (omega arith)
measured-at (q ∷ ps) zero p a h e = let n = ap (λ x. length (piece_units x)) e in (omega (arith, n, a.0, a.1), omega (arith, n, a.0, a.2))
measured-at (q ∷ ps) (suc i) p a h e = measured-at ps i p a.3 (omega arith) e

pub measured-part : (f t : ℕ) (ps : List (Piece × ℕ)) → EachMeasured ps → EachMeasured (part f t ps)
measured-part f t ps a = measured-take (t - f) (drop f ps) (measured-drop f ps a)

-- the units from piece number i on
pub split-at : (ps : List (Piece × ℕ)) (i : ℕ) (p : Piece) → i < length ps → p ≡ (get_or ps i (p, 0)).0 → spelled (drop i ps) ≡ piece_units p ++ spelled (drop (i + 1) ps)
split-at ps i p h e =
    ap spelled (drop_more ps i (p, 0) h) ∙ ap (λ x. piece_units x ++ spelled (drop (i + 1) ps)) (sym e)

-- the units before and from piece number i on
pub around : (ps : List (Piece × ℕ)) (i : ℕ) → spelled ps ≡ spelled (take i ps) ++ spelled (drop i ps)
around ps i = ap spelled (sym (take-append-drop i ps)) ∙ spelled-append (take i ps) (drop i ps)

-- the units before the piece after number i
pub front-more : (ps : List (Piece × ℕ)) (i : ℕ) (p : Piece) → i < length ps → p ≡ (get_or ps i (p, 0)).0 → spelled (take (i + 1) ps) ≡ spelled (take i ps) ++ piece_units p
front-more ps i p h e =
    ap spelled (take_more ps i (p, 0) h) ∙ (spelled-append (take i ps) (get_or ps i (p, 0) ∷ []) ∙ (ap (λ us. spelled (take i ps) ++ us) (append-nil (piece_units (get_or ps i (p, 0)).0)) ∙ ap (λ x. spelled (take i ps) ++ piece_units x) (sym e)))

pub values-length : {Z : Type 0} (ps : List (Arc Piece Z × ℕ)) → length (values_in ps) ≡ length ps
values-length [] = refl
values-length (p ∷ ps) = ap suc (values-length ps)

pub values-total : {Z : Type 0} (ps : List (Arc Piece Z × ℕ)) → total_of (values_in ps) ≡ total_of ps
values-total [] = refl
values-total (p ∷ ps) = ap (λ n. p.1 + n) (values-total ps)

pub values-take : {Z : Type 0} (n : ℕ) (ps : List (Arc Piece Z × ℕ)) → values_in (take n ps) ≡ take n (values_in ps)
values-take zero ps = refl
values-take (suc n) [] = refl
values-take (suc n) (p ∷ ps) = ap (λ qs. (arc_value p.0, p.1) ∷ qs) (values-take n ps)

pub value-at : {Z : Type 0} (ps : List (Arc Piece Z × ℕ)) (i : ℕ) (a : Arc Piece Z) → a ≡ (get_or ps i (a, 0)).0 → arc_value a ≡ (get_or (values_in ps) i (arc_value a, 0)).0
value-at [] i a e = refl
value-at (p ∷ ps) zero a e = ap arc_value e
value-at (p ∷ ps) (suc i) a e = value-at ps i a e

module _ {Z : Type 0} (ps : List (Arc Piece Z × ℕ)) (at index start : ℕ) (m : EachMeasured (values_in ps)) (h : at < total_of ps) (s : Stands ps at index start) where
  front-is : (i : ℕ) → total_of (take i ps) ≡ length (spelled (take i (values_in ps)))
  front-is i = sym (values-total (take i ps)) ∙ (ap total_of (values-take i ps) ∙ measured-total (take i (values_in ps)) (measured-take i (values_in ps) m))

  is-within : index < length ps
  is-within = from (grind arith)
    where
      from : (index < length ps) ⊎ (length ps ≤ index) → index < length ps
      from (inl k) = k
      from (inr k) = absurd (omega (arith, s.start_is, s.reached, ap total_of (take_all index ps k)))

  -- where a position stands among the pieces, one of their units is
  pub stands-at : IsAt (values_in ps) at index (at - start)
  stands-at = record {
    within = omega (arith, is-within, values-length ps);
    place = omega (arith, s.start_is, s.reached, front-is index);
    inside = λ p e. omega (arith, s.start_is, s.reached, s.next is-within, front-is index, front-is (index + 1), ap length (front-more (values_in ps) index p (omega (arith, is-within, values-length ps)) e), length-append (spelled (take index (values_in ps))) (piece_units p));
  }

take-front : (a b : List ℕ) (n : ℕ) → take (length a + n) (a ++ b) ≡ a ++ take n b
take-front [] b n = ap (λ m. take m b) (omega arith)
take-front (x ∷ a) b n = ap (λ m. take m (x ∷ (a ++ b))) {x = suc (length a) + n} {y = suc (length a + n)} (omega arith) ∙ ap (λ us. x ∷ us) (take-front a b n)

module _ (ps : List (Piece × ℕ)) (at index rest : ℕ) (p : Piece) (w : IsAt ps at index rest) (e : p ≡ (get_or ps index (p, 0)).0) where
  -- the units, with those of that piece apart
  pub three : spelled ps ≡ spelled (take index ps) ++ (piece_units p ++ spelled (drop (index + 1) ps))
  three = around ps index ∙ ap (λ us. spelled (take index ps) ++ us) (split-at ps index p w.within e)

  pub inside : rest < length (piece_units p)
  inside = w.inside p e

  pub unit-is : get_or (spelled ps) at 0 ≡ get_or (piece_units p) rest 0
  unit-is =
      ap (λ us. get_or us at 0) three
      ∙ (ap (λ n. get_or (spelled (take index ps) ++ (piece_units p ++ spelled (drop (index + 1) ps))) n 0) w.place
      ∙ (get_or-append-add (spelled (take index ps)) (piece_units p ++ spelled (drop (index + 1) ps)) rest 0
      ∙ get_or_append_left (piece_units p) (spelled (drop (index + 1) ps)) 0 rest inside))

  -- the units from that one on
  pub from-there : drop at (spelled ps) ≡ drop rest (piece_units p) ++ spelled (drop (index + 1) ps)
  from-there =
      ap (λ us. drop at us) three
      ∙ (ap (λ n. drop n (spelled (take index ps) ++ (piece_units p ++ spelled (drop (index + 1) ps)))) w.place
      ∙ (sym (drop-drop rest (length (spelled (take index ps))) (spelled (take index ps) ++ (piece_units p ++ spelled (drop (index + 1) ps))))
      ∙ (ap (λ us. drop rest us) (drop_at (spelled (take index ps)) (piece_units p ++ spelled (drop (index + 1) ps)) (length (spelled (take index ps))) refl)
      ∙ drop-append-le rest (piece_units p) (spelled (drop (index + 1) ps)) (omega (arith, inside)))))

  -- the units before that one
  pub before-there : take at (spelled ps) ≡ spelled (take index ps) ++ take rest (piece_units p)
  before-there = before-of (spelled (take index ps)) (piece_units p) (spelled (drop (index + 1) ps)) (spelled ps) three w.place (omega (arith, inside))
    where
      before-of : (a b c all : List ℕ) → all ≡ a ++ (b ++ c) → at ≡ length a + rest → rest ≤ length b → take at all ≡ a ++ take rest b
      before-of a b c all is place le =
          ap (λ us. take at us) (is ∙ sym (append_assoc a b c))
          ∙ (take-append-le at (a ++ b) c (omega (arith, place, le, length-append a b))
          ∙ (ap (λ n. take n (a ++ b)) place ∙ take-front a b rest))

-- the units, with those of the last piece apart
pub back-is : (vs : List (Piece × ℕ)) (p : Piece) → 0 < length vs → p ≡ (get_or vs (length vs - 1) (p, 0)).0 → spelled vs ≡ spelled (all_but_last vs) ++ piece_units p
back-is vs p h e = sym (ap spelled (take_all (length vs - 1 + 1) vs (omega arith))) ∙ front-more vs (length vs - 1) p (omega arith) e

-- the last piece is replaced by one with more units
pub merged-text : (vs ws : List (Piece × ℕ)) (p j : Piece) (q : List ℕ) (n : ℕ) → 0 < length vs → p ≡ (get_or vs (length vs - 1) (p, 0)).0 → piece_units j ≡ piece_units p ++ q → ws ≡ all_but_last vs ++ (j, n) ∷ [] → spelled ws ≡ spelled vs ++ q
merged-text vs ws p j q n some e is new =
    let one : List (Piece × ℕ) = (j, n) ∷ [] in
    ap spelled new ∙ (spelled-append (all_but_last vs) one
    ∙ (ap (λ us. spelled (all_but_last vs) ++ us) (append-nil (piece_units j) ∙ is)
    ∙ (sym (append_assoc (spelled (all_but_last vs)) (piece_units p) q) ∙ ap (λ us. us ++ q) (sym (back-is vs p some e)))))

pub merged-measured : (vs ws : List (Piece × ℕ)) (j : Piece) (n : ℕ) → ws ≡ all_but_last vs ++ (j, n) ∷ [] → EachMeasured vs → n ≡ length (piece_units j) → 1 ≤ n → n ≤ 1024 → EachMeasured ws
merged-measured vs ws j n new m is some most =
    let one : List (Piece × ℕ) = (j, n) ∷ [] in
    subst EachMeasured (sym new) (measured-append (all_but_last vs) one (measured-take (length vs - 1) vs m) (is, some, most, tt))

pub merged-room : (vs : List (Piece × ℕ)) (p : Piece) (q : List ℕ) (n bound : ℕ) → 0 < length vs → p ≡ (get_or vs (length vs - 1) (p, 0)).0 → EachMeasured vs → n ≡ length (piece_units p) + length q → length (spelled vs) + length q < bound → total_of (all_but_last vs) + n < bound
merged-room vs p q n bound some e m is room =
    omega (arith, is, room, measured-total (all_but_last vs) (measured-take (length vs - 1) vs m), ap length (back-is vs p some e), length-append (spelled (all_but_last vs)) (piece_units p))

-- a piece is put after the others
pub pushed-text : (vs ws : List (Piece × ℕ)) (x p : Piece) (n : ℕ) → ws ≡ vs ++ (x, n) ∷ [] → x ≡ p → spelled ws ≡ spelled vs ++ piece_units p
pushed-text vs ws x p n new is =
    let one : List (Piece × ℕ) = (x, n) ∷ [] in
    ap spelled new ∙ (spelled-append vs one ∙ ap (λ us. spelled vs ++ us) (append-nil (piece_units x) ∙ ap piece_units is))

pub pushed-measured : (vs ws : List (Piece × ℕ)) (x p : Piece) (n : ℕ) → ws ≡ vs ++ (x, n) ∷ [] → x ≡ p → EachMeasured vs → n ≡ length (piece_units p) → 1 ≤ n → n ≤ 1024 → EachMeasured ws
pushed-measured vs ws x p n new is m len some most =
    let one : List (Piece × ℕ) = (x, n) ∷ [] in
    subst EachMeasured (sym new) (measured-append vs one m (len ∙ ap (λ z. length (piece_units z)) (sym is), some, most, tt))

pub joined-is : {A : Type 0} (b : Bool) (x y z : A) → z ≡ (if b then x else y) → b ≡ true → z ≡ x
joined-is b x y z e h = e ∙ ap (λ c. if c then x else y) h

pub apart-is : {A : Type 0} (b : Bool) (x y z : A) → z ≡ (if b then x else y) → b ≡ false → z ≡ y
apart-is b x y z e h = e ∙ ap (λ c. if c then x else y) h

-- the first of some pieces, and the others
pub part-first : (f t : ℕ) (vs : List (Piece × ℕ)) (p : Piece) → f < t → t ≤ length vs → p ≡ (get_or vs f (p, 0)).0 → spelled (part f t vs) ≡ piece_units p ++ spelled (part (f + 1) t vs)
part-first f t vs p lt le e =
    ap (λ qs. spelled (take (t - f) qs)) (drop_more vs f (p, 0) (omega arith))
    ∙ (ap (λ n. spelled (take n (get_or vs f (p, 0) ∷ drop (f + 1) vs))) {x = t - f} {y = suc (t - (f + 1))} (omega arith)
    ∙ ap (λ x. piece_units x ++ spelled (part (f + 1) t vs)) (sym e))

pub part-front : (n : ℕ) (vs : List (Piece × ℕ)) → spelled (part 0 n vs) ≡ spelled (take n vs)
part-front n vs = ap (λ m. spelled (take m vs)) {x = n - 0} {y = n} (omega arith)

pub part-rest : (f t : ℕ) (vs : List (Piece × ℕ)) → t ≡ length vs → spelled (part f t vs) ≡ spelled (drop f vs)
part-rest f t vs e = ap (λ n. spelled (take (n - f) (drop f vs))) e ∙ ap spelled (take_rest vs f)

pub laid-bound : {T : Type 0} (c : Chunks T) → IsLaid c → total_of (pairs_of c) < 2 ^ 32
laid-bound (AsFew f) h = omega (arith, h.total, h.bound)
laid-bound (AsMany m) h = omega (arith, h.total, h.bound)
laid-bound (AsGroups b) h = h.bound

-- a text has fewer than 2^32 units
pub text-bound : (p : Pieces) → IsPieces p → length (text_in p) < 2 ^ 32
text-bound p h = omega (arith, laid-bound p.chunks h.laid, values-total (pairs_of p.chunks), measured-total (pieces_in p) h.measured)

take-nil : (n : ℕ) → take {A = ℕ} n [] ≡ []
take-nil zero = refl
take-nil (suc n) = refl

pub take-more : (a b : ℕ) (vs : List ℕ) → take a vs ++ take b (drop a vs) ≡ take (a + b) vs
take-more zero b vs = ap (λ k. take k vs) (omega arith)
take-more (suc a) b [] = take-nil b ∙ sym (take-nil (suc a + b))
take-more (suc a) b (v ∷ vs) = ap (λ ws. v ∷ ws) (take-more a b vs) ∙ ap (λ k. take k (v ∷ vs)) {x = suc (a + b)} {y = suc a + b} (omega arith)

pub cut-front : (us : List ℕ) (from to : ℕ) → from ≡ 0 → take to us ≡ take (to - from) (drop from us)
cut-front us from to e = ap (λ n. take n us) {x = to} {y = to - 0} (omega arith) ∙ ap (λ f. take (to - f) (drop f us)) (sym e)

pub cut-back : (us : List ℕ) (from to : ℕ) → to ≡ length us → drop from us ≡ take (to - from) (drop from us)
cut-back us from to e = sym (take_rest us from) ∙ ap (λ n. take (n - from) (drop from us)) (sym e)

pub cut-middle : (us : List ℕ) (from to : ℕ) → from ≤ to → drop from (take to us) ≡ take (to - from) (drop from us)
cut-middle us from to le = ap (λ n. drop from (take n us)) {x = to} {y = from + (to - from)} (omega arith) ∙ drop-take from (to - from) us

pub cut-length : (us : List ℕ) (from to : ℕ) → from ≤ to → to ≤ length us → length (take (to - from) (drop from us)) ≡ to - from
cut-length us from to o w = length-take-le (to - from) (drop from us) (omega (arith, length-drop from us))

-- a run of units that is put after those before it
pub cut-more : (us : List ℕ) (from at n : ℕ) → from ≤ at → take (at - from) (drop from us) ++ take n (drop at us) ≡ take (at + n - from) (drop from us)
cut-more us from at n le =
    ap (λ k. take (at - from) (drop from us) ++ take n (drop k us)) {x = at} {y = from + (at - from)} (omega arith)
    ∙ (ap (λ vs. take (at - from) (drop from us) ++ take n vs) (sym (drop-drop (at - from) from us))
    ∙ (take-more (at - from) n (drop from us) ∙ ap (λ k. take k (drop from us)) {x = at - from + n} {y = at + n - from} (omega arith)))

-- a run of a piece is one of the text
pub run-there : (ps : List (Piece × ℕ)) (at index rest n : ℕ) (p : Piece) → IsAt ps at index rest → p ≡ (get_or ps index (p, 0)).0 → rest + n ≤ length (piece_units p) → take n (drop rest (piece_units p)) ≡ take n (drop at (spelled ps))
run-there ps at index rest n p w e le =
    sym (ap (λ us. take n us) (from-there ps at index rest p w e) ∙ take-append-le n (drop rest (piece_units p)) (spelled (drop (index + 1) ps)) (omega (arith, le, length-drop rest (piece_units p))))

pub form-bound : (f : Form) → IsForm f → length (form_units f) < 2 ^ 32
form-bound (Short p) h = omega (arith, h)
form-bound (Long b) h = text-bound b.value h

-- the units from..to, as far as there are any
pub clipped : (us : List ℕ) (from to end start : ℕ) → end ≡ min (length us) to → start ≡ min end from → take (end - start) (drop start us) ≡ take (to - from) (drop from us)
clipped us from to end start e s = of (grind arith)
  where
    past : end ≤ from → (to ≤ from) ⊎ (length us ≤ from) → take (end - start) (drop start us) ≡ take (to - from) (drop from us)
    past le h = ap (λ n. take n (drop start us)) {x = end - start} {y = 0} (omega (arith, e, s, le)) ∙ none h
      where
        none : (to ≤ from) ⊎ (length us ≤ from) → [] ≡ take (to - from) (drop from us)
        none (inl k) = ap (λ n. take n (drop from us)) {x = 0} {y = to - from} (omega arith)
        none (inr k) = sym (ap (λ vs. take (to - from) vs) (drop_all from us k) ∙ take-nil (to - from))

    inner : from ≤ end → (to ≤ length us) ⊎ (length us ≤ to) → take (end - start) (drop start us) ≡ take (to - from) (drop from us)
    inner le h = ap (λ n. take (end - n) (drop n us)) {x = start} {y = from} (omega (arith, e, s, le)) ∙ rest h
      where
        rest : (to ≤ length us) ⊎ (length us ≤ to) → take (end - from) (drop from us) ≡ take (to - from) (drop from us)
        rest (inl k) = ap (λ n. take (n - from) (drop from us)) {x = end} {y = to} (omega (arith, e))
        rest (inr k) = ap (λ n. take (n - from) (drop from us)) {x = end} {y = length us} (omega (arith, e)) ∙ (take_rest us from ∙ sym (take_all (to - from) (drop from us) (omega (arith, length-drop from us))))

    of : (from ≤ end) ⊎ (end ≤ from) → take (end - start) (drop start us) ≡ take (to - from) (drop from us)
    of (inl le) = inner le (grind arith)
    of (inr le) = past le (clip le (grind arith))
      where
        clip : end ≤ from → (to ≤ length us) ⊎ (length us ≤ to) → (to ≤ from) ⊎ (length us ≤ from)
        clip le (inl k) = inl (omega (arith, e))
        clip le (inr k) = inr (omega (arith, e))
