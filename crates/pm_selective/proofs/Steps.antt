-- Steps as edits, and steps carried over mappings that lead round a row of maps.
use Rattle.std.specs.Prelude.{◌≡◌, ◌==◌, ◌||◌, ℕ, ◌+◌, ◌-◌, ◌≤◌, ◌<◌, max, Bool, true, false, if◌then◌else◌, nat_lt, List, [], ◌∷◌, ◌++◌, length, take, drop, Some, refl}
use Rattle.std.proofs.Common.{arith, ap, sym, subst, ◌∙◌, ⊎_elim, length-take, length-drop}
use Rattle.std.proofs.lemmas.Bool.{cases_lt, le-ltb, eqb-true}
use Rattle.std.proofs.lemmas.List.{append-nil, drop-drop}
use Rattle.pm_map.specs.declared.step_map.Span.{Span}
use Rattle.pm_map.specs.declared.step_map.Moved.{Moved}
use Rattle.pm_map.specs.declared.mapping.Mirrored.{Mirrored}
use Rattle.pm_map.specs.Moves.{moved_from, kept_at, inverted_ranges}
use Rattle.pm_map.specs.Stills.{AreApart}
use Rattle.pm_map.specs.Through.{through_from, joined}
use Rattle.pm_map.specs.Mirrors.{enclosed}
use Rattle.pm_tokens.specs.Tokens.{Token}
use Rattle.pm_tokens.specs.Scan.{part}
use Rattle.pm_tokens.specs.Slices.{Slice, slice_tokens, slice_size, content_end}
use Rattle.pm_meaning.specs.Steps.{Step, Replace, ReplaceAround, AddMark, RemoveMark, AddNodeMark, RemoveNodeMark, Attr, DocAttr}
use Rattle.pm_meaning.specs.Maps.{span, step_map, ahead, back, carry, carry_replace, carry_around, is_within}
use Rattle.pm_selective.specs.Shifts.{shift, shifted, IsOutsideAll, shift_all, over, beside, IsCorner, IsGrid}
use Rattle.pm_selective.specs.Edits.{Piece, spans, spliced, along, all_spans, spliced_all}
use Rattle.pm_selective.specs.Carried.{IsSplice, splice, splices, step_maps, in_front, go_on, carried}
use Rattle.pm_selective.proofs.Corners.{clear-outside, shift-rigid, shift-moved}
use Rattle.pm_selective.proofs.Rows.{Slides, slides-round, over-none, over-apart}

-- ---- steps whose positions are in order

abbrev pub IsOrdered : Step → Type 0
IsOrdered (Replace from to sl structure) = from ≤ to
IsOrdered (ReplaceAround from to gf gt sl insert structure) = (from ≤ gf) × (gf < gt) × (gt ≤ to) × (insert ≤ slice_size sl)
IsOrdered (AddMark from to mark) = ⊥
IsOrdered (RemoveMark from to mark) = ⊥
IsOrdered (AddNodeMark p mark) = ⊥
IsOrdered (RemoveNodeMark p mark) = ⊥
IsOrdered (Attr p name value) = ⊥
IsOrdered (DocAttr name value) = ⊥

abbrev pub AreOrdered : List Step → Type 0
AreOrdered [] = Unit {0}
AreOrdered (c ∷ cs) = IsOrdered c × AreOrdered cs

pub ordered : (c : Step) (n : ℕ) → IsSplice c → is_within c n → IsOrdered c
ordered (Replace from to sl structure) n h w = w.0
ordered (ReplaceAround from to gf gt sl insert structure) n h w =
    (w.0, ⊎_elim (λ (u : gf < gt). u) (λ (u : gt ≤ gf). absurd (h (omega (arith, u, w.1)))) (cases_lt gf gt), w.2, w.4)
ordered (AddMark from to mark) n h w = absurd h
ordered (RemoveMark from to mark) n h w = absurd h
ordered (AddNodeMark p mark) n h w = absurd h
ordered (RemoveNodeMark p mark) n h w = absurd h
ordered (Attr p name value) n h w = absurd h
ordered (DocAttr name value) n h w = absurd h

pub apart-step : (c : Step) → IsOrdered c → AreApart (step_map c) 0
apart-step (Replace from to sl structure) h = (omega arith, tt)
apart-step (ReplaceAround from to gf gt sl insert structure) h = (omega arith, (omega (arith, h.0, h.1), tt))
apart-step (AddMark from to mark) h = absurd h
apart-step (RemoveMark from to mark) h = absurd h
apart-step (AddNodeMark p mark) h = absurd h
apart-step (RemoveNodeMark p mark) h = absurd h
apart-step (Attr p name value) h = absurd h
apart-step (DocAttr name value) h = absurd h

-- ---- steps as edits

piece : ℕ → ℕ → List Token → Piece Token
piece start old_size new = record { start = start; old_size = old_size; new = new }

abbrev pub edit : Step → List (Piece Token)
edit (Replace from to sl structure) = record { start = from; old_size = to - from; new = slice_tokens sl } ∷ []
edit (ReplaceAround from to gf gt sl insert structure) =
    record { start = from; old_size = gf - from; new = take insert (slice_tokens sl) } ∷ record { start = gt; old_size = to - gt; new = drop insert (slice_tokens sl) } ∷ []
edit (AddMark from to mark) = []
edit (RemoveMark from to mark) = []
edit (AddNodeMark p mark) = []
edit (RemoveNodeMark p mark) = []
edit (Attr p name value) = []
edit (DocAttr name value) = []

abbrev pub edits : List Step → List (List (Piece Token))
edits [] = []
edits (c ∷ cs) = edit c ∷ edits cs

slice-length : (sl : Slice) → length (slice_tokens sl) ≡ slice_size sl
slice-length sl =
    let e = length-take (content_end sl - sl.open_start) (drop sl.open_start sl.content) in
    let d = length-drop sl.open_start sl.content in
    omega (arith, e, d)

spans-two : (a b c d e f : ℕ) (m n : ℕ) → c ≡ m → f ≡ n → span a b c ∷ span d e f ∷ [] ≡ span a b m ∷ span d e n ∷ []
spans-two a b c d e f m n h k = rw (h, k) refl

pub edit-spans : (c : Step) → IsOrdered c → spans (edit c) ≡ step_map c
edit-spans (Replace from to sl structure) h = ap (λ n. span from (to - from) n ∷ []) (slice-length sl)
edit-spans (ReplaceAround from to gf gt sl insert structure) h =
    let e = slice-length sl in
    let f = length-take insert (slice_tokens sl) in
    let g = length-drop insert (slice_tokens sl) in
    spans-two from (gf - from) (length (take insert (slice_tokens sl))) gt (to - gt) (length (drop insert (slice_tokens sl))) insert (slice_size sl - insert) (omega (arith, e, f, h.3)) (omega (arith, e, g))
edit-spans (AddMark from to mark) h = absurd h
edit-spans (RemoveMark from to mark) h = absurd h
edit-spans (AddNodeMark p mark) h = absurd h
edit-spans (RemoveNodeMark p mark) h = absurd h
edit-spans (Attr p name value) h = absurd h
edit-spans (DocAttr name value) h = absurd h

pub edits-spans : (cs : List Step) → AreOrdered cs → all_spans (edits cs) ≡ step_maps cs
edits-spans [] h = refl
edits-spans (c ∷ cs) h = rw (edit-spans c h.0, edits-spans cs h.1) refl

pub edit-splice : (c : Step) (ts : List Token) → IsOrdered c → splice c ts ≡ spliced (edit c) ts
edit-splice (Replace from to sl structure) ts h =
    let e : from - 0 ≡ from = omega arith in
    let d : (from + (to - from)) - 0 ≡ to = omega (arith, h) in
    ap (λ n. take n ts ++ (slice_tokens sl ++ drop to ts)) (sym e) ∙ ap (λ n. take (from - 0) ts ++ (slice_tokens sl ++ drop n ts)) (sym d)
edit-splice (ReplaceAround from to gf gt sl insert structure) ts h =
    let m = slice_tokens sl in
    let far = from + (gf - from) in
    let z : from - 0 ≡ from = omega arith in
    let e : far ≡ gf = omega (arith, h.0) in
    let d : far - 0 ≡ gf = omega (arith, h.0) in
    let f : gf + (to - gf) ≡ to = omega (arith, h.1, h.2) in
    let g : (gt + (to - gt)) ≡ to = omega (arith, h.2) in
    rw (z, d, e, g) (ap (λ xs. take from ts ++ (take insert m ++ (part gf gt ts ++ (drop insert m ++ xs)))) (sym (drop-drop (to - gf) gf ts ∙ ap (λ n. drop n ts) f)))
edit-splice (AddMark from to mark) ts h = absurd h
edit-splice (RemoveMark from to mark) ts h = absurd h
edit-splice (AddNodeMark p mark) ts h = absurd h
edit-splice (RemoveNodeMark p mark) ts h = absurd h
edit-splice (Attr p name value) ts h = absurd h
edit-splice (DocAttr name value) ts h = absurd h

pub edits-splices : (cs : List Step) (ts : List Token) → AreOrdered cs → splices cs ts ≡ spliced_all (edits cs) ts
edits-splices [] ts h = refl
edits-splices (c ∷ cs) ts h = edits-splices cs (splice c ts) h.1 ∙ ap (spliced_all (edits cs)) (edit-splice c ts h.0)

-- ---- a step whose positions all move

abbrev pub moved_step : (ℕ → ℕ) → Step → Step
moved_step f (Replace from to sl structure) = Replace (f from) (f to) sl structure
moved_step f (ReplaceAround from to gf gt sl insert structure) = ReplaceAround (f from) (f to) (f gf) (f gt) sl insert structure
moved_step f (AddMark from to mark) = AddMark from to mark
moved_step f (RemoveMark from to mark) = RemoveMark from to mark
moved_step f (AddNodeMark p mark) = AddNodeMark p mark
moved_step f (RemoveNodeMark p mark) = RemoveNodeMark p mark
moved_step f (Attr p name value) = Attr p name value
moved_step f (DocAttr name value) = DocAttr name value

-- these steps, each carried over what the earlier ones made of the row
abbrev pub moved_steps : List (List Span) → List Step → List Step
moved_steps gs [] = []
moved_steps gs (c ∷ cs) = moved_step (shift_all gs) c ∷ moved_steps (beside (step_map c) gs) cs

-- a range by itself
corner-first : (r : Span) (rs : List Span) (gs : List (List Span)) → IsCorner (r ∷ rs) gs → IsCorner (r ∷ []) gs
corner-first r rs [] h = tt
corner-first r rs (g ∷ gs) h = ((h.0.0, tt), h.1, corner-first (record { start = shift g r.start; old_size = r.old_size; new_size = r.new_size }) (shifted g rs) gs h.2)

corner-rest : (r : Span) (rs : List Span) (gs : List (List Span)) → IsCorner (r ∷ rs) gs → IsCorner rs gs
corner-rest r rs [] h = tt
corner-rest r rs (g ∷ gs) h = (h.0.1, h.1, corner-rest (record { start = shift g r.start; old_size = r.old_size; new_size = r.new_size }) (shifted g rs) gs h.2)

-- a position in a range that is clear of the row
pub record Within (r : Span) (gs : List (List Span)) (p : ℕ) : Type 0 where
  pub outside : IsOutsideAll gs p
  pub moves : shift_all gs p ≡ shift_all gs r.start + (p - r.start)

pub within-row : (r : Span) (gs : List (List Span)) (p : ℕ) → IsCorner (r ∷ []) gs → r.start ≤ p → p ≤ r.start + r.old_size → Within r gs p
within-row r [] p h k u = record { outside = tt; moves = omega (arith, k) }
within-row r (g ∷ gs) p h k u =
    let e = shift-rigid r g p h.1 h.0.0 k u in
    let s : Span = record { start = shift g r.start; old_size = r.old_size; new_size = r.new_size } in
    let i = within-row s gs (shift g p) h.2 (omega (arith, e)) (omega (arith, e, u)) in
    record { outside = (clear-outside r g p h.0.0 k u, i.outside); moves = (let m = i.moves in omega (arith, m, e)) }

-- a position over a mapping that leads round the row
pub record Glides (m : Moved) (p : ℕ) : Type 0 where
  pub pos : m.pos ≡ p
  pub across : m.across ≡ false

pub glides : (ms : List Mirrored) (gs : List (List Span)) (p : ℕ) (b : Bool) → Slides ms gs → IsOutsideAll gs p → Glides (through_from ms 0 b (kept_at p)) (shift_all gs p)
glides ms gs p b s o =
    let x = s [] b (kept_at p) o in
    let e : through_from ms 0 b (kept_at p) ≡ x.0 = ap (λ l. through_from l 0 b (kept_at p)) (sym (append-nil ms)) ∙ x.3 in
    record { pos = ap (λ z. z.pos) e ∙ x.1; across = ap (λ z. z.across) e ∙ x.2 }

carry-one : (f t : Moved) (from to : ℕ) (sl : Slice) (st : Bool) → Glides f from → Glides t to → from ≤ to → carry_replace f t sl st ≡ Some (Replace from to sl st)
carry-one f t from to sl st h k u = let m : max from to ≡ to = omega (arith, u) in rw (h.across, h.pos, k.pos, m) refl

carry-two : (f t : Moved) (from to gf gt : ℕ) (sl : Slice) (insert : ℕ) (st : Bool) → Glides f from → Glides t to → from ≤ gf → gt ≤ to
    → carry_around f t gf gt sl insert st ≡ Some (ReplaceAround from to gf gt sl insert st)
carry-two f t from to gf gt sl insert st h k u v =
    let l : nat_lt gf from ≡ false = le-ltb gf from u in
    let m : nat_lt to gt ≡ false = le-ltb to gt v in
    rw (h.across, h.pos, k.pos, l, m) refl

either : (b : Bool) (p q r : ℕ) → (b ≡ true → p ≡ r) → q ≡ r → (if b then p else q) ≡ r
either true p q r f g = f refl
either false p q r f g = g

-- over this mapping a position outside of these maps goes where they send it
abbrev pub LeadsAs : List Mirrored → List (List Span) → Type 0
LeadsAs ms gs = (p : ℕ) (b : Bool) → IsOutsideAll gs p → Glides (through_from ms 0 b (kept_at p)) (shift_all gs p)

-- a step apart from the row is carried to where the row sends its positions
pub carries : (ms : List Mirrored) (gs : List (List Span)) (c : Step) → LeadsAs ms gs → IsOrdered c → IsCorner (step_map c) gs → carry c ms ≡ Some (moved_step (shift_all gs) c)
carries ms gs (Replace from to sl st) s h k =
    let r = span from (to - from) (slice_size sl) in
    let a = within-row r gs from k (omega arith) (omega arith) in
    let b = within-row r gs to k h (omega (arith, h)) in
    let e = b.moves in
    carry-one (ahead ms from) (back ms to) (shift_all gs from) (shift_all gs to) sl st (s from false a.outside) (s to true b.outside) (omega (arith, e))
carries ms gs (ReplaceAround from to gf gt sl insert st) s h k =
    let r = span from (gf - from) insert in
    let q = span gt (to - gt) (slice_size sl - insert) in
    let c₁ = corner-first r (q ∷ []) gs k in
    let c₂ = corner-rest r (q ∷ []) gs k in
    let a = within-row r gs from c₁ (omega arith) (omega arith) in
    let b = within-row r gs gf c₁ h.0 (omega (arith, h.0)) in
    let c = within-row q gs gt c₂ (omega arith) (omega arith) in
    let d = within-row q gs to c₂ h.2 (omega (arith, h.2)) in
    let fa = s from false a.outside in
    let fb = s gf true b.outside in
    let fc = s gt false c.outside in
    let fd = s to true d.outside in
    let g : (if gf == from then (ahead ms from).pos else (back ms gf).pos) ≡ shift_all gs gf =
    either (gf == from) (ahead ms from).pos (back ms gf).pos (shift_all gs gf) (λ e. fa.pos ∙ ap (shift_all gs) (sym (eqb-true gf from e))) fb.pos in
    let j : (if gt == to then (back ms to).pos else (ahead ms gt).pos) ≡ shift_all gs gt =
    either (gt == to) (back ms to).pos (ahead ms gt).pos (shift_all gs gt) (λ e. fd.pos ∙ ap (shift_all gs) (sym (eqb-true gt to e))) fc.pos in
    let u = b.moves in
    let v = d.moves in
    ap (λ x. carry_around (ahead ms from) (back ms to) x (if gt == to then (back ms to).pos else (ahead ms gt).pos) sl insert st) g
    ∙ ap (λ x. carry_around (ahead ms from) (back ms to) (shift_all gs gf) x sl insert st) j
    ∙ carry-two (ahead ms from) (back ms to) (shift_all gs from) (shift_all gs to) (shift_all gs gf) (shift_all gs gt) sl insert st fa fd (omega (arith, u)) (omega (arith, v))
carries ms gs (AddMark from to mark) s h k = absurd h
carries ms gs (RemoveMark from to mark) s h k = absurd h
carries ms gs (AddNodeMark p mark) s h k = absurd h
carries ms gs (RemoveNodeMark p mark) s h k = absurd h
carries ms gs (Attr p name value) s h k = absurd h
carries ms gs (DocAttr name value) s h k = absurd h

-- ---- the carried step as an edit

over-one : (gs : List (List Span)) (a b c : ℕ) → over gs (span a b c ∷ []) ≡ span (shift_all gs a) b c ∷ []
over-one [] a b c = refl
over-one (g ∷ gs) a b c = over-one gs (shift g a) b c

over-two : (gs : List (List Span)) (a b c d e f : ℕ) → over gs (span a b c ∷ span d e f ∷ []) ≡ span (shift_all gs a) b c ∷ span (shift_all gs d) e f ∷ []
over-two [] a b c d e f = refl
over-two (g ∷ gs) a b c d e f = over-two gs (shift g a) b c (shift g d) e f

along-one : (gs : List (List Span)) (a b : ℕ) (xs : List Token) → along gs (record { start = a; old_size = b; new = xs } ∷ []) ≡ record { start = shift_all gs a; old_size = b; new = xs } ∷ []
along-one [] a b xs = refl
along-one (g ∷ gs) a b xs = along-one gs (shift g a) b xs

along-two : (gs : List (List Span)) (a b c d : ℕ) (xs ys : List Token) → along gs (record { start = a; old_size = b; new = xs } ∷ record { start = c; old_size = d; new = ys } ∷ [])
    ≡ record { start = shift_all gs a; old_size = b; new = xs } ∷ record { start = shift_all gs c; old_size = d; new = ys } ∷ []
along-two [] a b c d xs ys = refl
along-two (g ∷ gs) a b c d xs ys = along-two gs (shift g a) b (shift g c) d xs ys

-- a carried step is in order, has the carried map and is the carried edit
pub record Same (gs : List (List Span)) (c : Step) : Type 0 where
  pub ordered : IsOrdered (moved_step (shift_all gs) c)
  pub map_is : step_map (moved_step (shift_all gs) c) ≡ over gs (step_map c)
  pub edit_is : edit (moved_step (shift_all gs) c) ≡ along gs (edit c)

pub same : (gs : List (List Span)) (c : Step) → IsOrdered c → IsCorner (step_map c) gs → Same gs c
same gs (Replace from to sl st) h k =
    let r = span from (to - from) (slice_size sl) in
    let b = within-row r gs to k h (omega (arith, h)) in
    let e = b.moves in
    let d : shift_all gs to - shift_all gs from ≡ to - from = omega (arith, e) in
    record {
      ordered = omega (arith, e);
      map_is = ap (λ n. span (shift_all gs from) n (slice_size sl) ∷ []) d ∙ sym (over-one gs from (to - from) (slice_size sl));
      edit_is = ap (λ n. record { start = shift_all gs from; old_size = n; new = slice_tokens sl } ∷ []) d ∙ sym (along-one gs from (to - from) (slice_tokens sl));
    }
same gs (ReplaceAround from to gf gt sl insert st) h k =
    let r = span from (gf - from) insert in
    let q = span gt (to - gt) (slice_size sl - insert) in
    let b = within-row r gs gf (corner-first r (q ∷ []) gs k) h.0 (omega (arith, h.0)) in
    let d = within-row q gs to (corner-rest r (q ∷ []) gs k) h.2 (omega (arith, h.2)) in
    let u = b.moves in
    let v = d.moves in
    let e : shift_all gs gf - shift_all gs from ≡ gf - from = omega (arith, u) in
    let f : shift_all gs to - shift_all gs gt ≡ to - gt = omega (arith, v) in
    let w = subst (λ z. AreApart z 0) (over-two gs from (gf - from) insert gt (to - gt) (slice_size sl - insert))
    (over-apart (r ∷ q ∷ []) gs (omega arith, (omega (arith, h.0, h.1), tt)) k) in
    record {
      ordered = (omega (arith, u), omega (arith, w.1.0, u), omega (arith, v), h.3);
      map_is = ap (λ n. span (shift_all gs from) n insert ∷ span (shift_all gs gt) (shift_all gs to - shift_all gs gt) (slice_size sl - insert) ∷ []) e
          ∙ ap (λ n. span (shift_all gs from) (gf - from) insert ∷ span (shift_all gs gt) n (slice_size sl - insert) ∷ []) f
          ∙ sym (over-two gs from (gf - from) insert gt (to - gt) (slice_size sl - insert));
      edit_is = ap (λ n. record { start = shift_all gs from; old_size = n; new = take insert (slice_tokens sl) } ∷ record { start = shift_all gs gt; old_size = shift_all gs to - shift_all gs gt; new = drop insert (slice_tokens sl) } ∷ []) e
          ∙ ap (λ n. record { start = shift_all gs from; old_size = gf - from; new = take insert (slice_tokens sl) } ∷ record { start = shift_all gs gt; old_size = n; new = drop insert (slice_tokens sl) } ∷ []) f
          ∙ sym (along-two gs from (gf - from) gt (to - gt) (take insert (slice_tokens sl)) (drop insert (slice_tokens sl)));
    }
same gs (AddMark from to mark) h k = absurd h
same gs (RemoveMark from to mark) h k = absurd h
same gs (AddNodeMark p mark) h k = absurd h
same gs (RemoveNodeMark p mark) h k = absurd h
same gs (Attr p name value) h k = absurd h
same gs (DocAttr name value) h k = absurd h

-- ---- all steps

pub all-ordered : (gs : List (List Span)) (cs : List Step) → AreOrdered cs → IsGrid (step_maps cs) gs → AreOrdered (moved_steps gs cs)
all-ordered gs [] h k = tt
all-ordered gs (c ∷ cs) h k = ((same gs c h.0 k.1).ordered, all-ordered (beside (step_map c) gs) cs h.1 k.2)

-- Steps in a grid with a row are carried to where the row sends their positions.
pub carries-all : (ms : List Mirrored) (gs : List (List Span)) (cs : List Step) → Slides ms gs → AreOrdered cs → IsGrid (step_maps cs) gs → carried ms cs ≡ Some (moved_steps gs cs)
carries-all ms gs [] s h k = refl
carries-all ms gs (c ∷ cs) s h k =
    let d = moved_step (shift_all gs) c in
    let e = same gs c h.0 k.1 in
    let w : Slides (enclosed ms (inverted_ranges (step_map c)) (step_map d)) (beside (step_map c) gs) =
    subst (λ z. Slides (enclosed ms (inverted_ranges (step_map c)) z) (beside (step_map c) gs)) (sym e.map_is) (slides-round ms gs (step_map c) k.0 k.1 s) in
    ap (λ o. go_on o (λ d. in_front d (carried (enclosed ms (inverted_ranges (step_map c)) (step_map d)) cs))) (carries ms gs c (λ p b o. glides ms gs p b s o) h.0 k.1)
    ∙ ap (in_front d) (carries-all (enclosed ms (inverted_ranges (step_map c)) (step_map d)) (beside (step_map c) gs) cs w h.1 k.2)

-- maps one after another, paired or not, lead as they do
abbrev pub maps_of : List Mirrored → List (List Span)
maps_of [] = []
maps_of (e ∷ es) = e.map ∷ maps_of es

abbrev pub AreApartMaps : List Mirrored → Type 0
AreApartMaps [] = Unit {0}
AreApartMaps (e ∷ es) = AreApart e.map 0 × AreApartMaps es

pub slides-plain : (es : List Mirrored) → AreApartMaps es → Slides es (maps_of es)
slides-plain [] a rest b so o = (so, refl, refl, refl)
slides-plain (e ∷ es) a rest b so o =
    let m = shift-moved e.map so.pos b a.0 o.0 in
    let x = joined so (moved_from e.map 0 0 0 so.pos b) in
    let p = ap (λ z. z.pos) m in
    let i = slides-plain es a.1 rest b x (subst (IsOutsideAll (maps_of es)) (sym p) o.1) in (
      i.0,
      i.1 ∙ ap (shift_all (maps_of es)) p,
      i.2 ∙ or-none so.across (moved_from e.map 0 0 0 so.pos b).across (ap (λ z. z.across) m),
      over-none e.map e.later (es ++ rest) b so (ap (λ z. z.recover) m) ∙ i.3,
    )
  where
    or-none : (t x : Bool) → x ≡ false → (t || x) ≡ t
    or-none true x e = refl
    or-none false x e = e
