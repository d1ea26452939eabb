-- Tables and parts that are alike.
use Rattle.std.proofs.Common.{◌≡◌, ℕ, List, [], ◌∷◌, ◌++◌, length, map, suc, Bool, true, false, ◌||◌, ◌&&◌, cond, refl, ap, sym, subst, ◌∙◌, append-nil}
use Rattle.std.proofs.lemmas.List.{map-append}
use Rattle.pm_auto.specs.declared.places.Row.{Row}
use Rattle.pm_auto.specs.declared.places.Part.{Part}
use Rattle.pm_auto.specs.Core.{when}
use Rattle.pm_auto.specs.Table.{onward, again, one_or, one_then, both_parts, no_part, passes, some, repeated}
use Rattle.pm_auto.specs.States.{has}
use Rattle.pm_auto.specs.Alike.{Same_numbers, Alike_row, Alike_rows, Alike}
use Rattle.pm_auto.proofs.SetLaws.{has-append}

pub same-append : (a b c d : List ℕ) → Same_numbers a b → Same_numbers c d → Same_numbers (a ++ c) (b ++ d)
same-append a b c d f g j = has-append j a c ∙ ap (λ z. z || has j c) (f j) ∙ ap (λ z. has j b || z) (g j) ∙ sym (has-append j b d)

pub same-when : (p q : Bool) (xs ys : List ℕ) → p ≡ q → Same_numbers xs ys → Same_numbers (when p xs) (when q ys)
same-when true true xs ys e f = f
same-when true false xs ys e f = absurd (cc)
same-when false true xs ys e f = absurd (cc)
same-when false false xs ys e f = λ j. refl

pub row-refl : (r : Row) → Alike_row r r
row-refl r = record { kind = refl; follow = λ j. refl; ends = refl }

pub rows-refl : (rs : List Row) → Alike_rows rs rs
rows-refl [] = tt
rows-refl (r ∷ rs) = (row-refl r, rows-refl rs)

pub alike-refl : (p : Part) → Alike p p
alike-refl p = record { rows = rows-refl p.rows; first = refl; may_be_empty = refl }

pub alike-is : (p q : Part) → p ≡ q → Alike p q
alike-is p q e = subst (Alike p) e (alike-refl p)

pub row-trans : (r s t : Row) → Alike_row r s → Alike_row s t → Alike_row r t
row-trans r s t g h = record { kind = g.kind ∙ h.kind; follow = λ j. g.follow j ∙ h.follow j; ends = g.ends ∙ h.ends }

pub rows-trans : (rs ss ts : List Row) → Alike_rows rs ss → Alike_rows ss ts → Alike_rows rs ts
rows-trans [] [] [] g h = tt
rows-trans [] [] (t ∷ ts) g h = absurd h
rows-trans [] (s ∷ ss) ts g h = absurd g
rows-trans (r ∷ rs) [] ts g h = absurd g
rows-trans (r ∷ rs) (s ∷ ss) [] g h = absurd h
rows-trans (r ∷ rs) (s ∷ ss) (t ∷ ts) g h = (row-trans r s t g.0 h.0, rows-trans rs ss ts g.1 h.1)

pub alike-trans : (p q r : Part) → Alike p q → Alike q r → Alike p r
alike-trans p q r g h = record { rows = rows-trans p.rows q.rows r.rows g.rows h.rows; first = g.first ∙ h.first; may_be_empty = g.may_be_empty ∙ h.may_be_empty }

pub length-alike : (rs ss : List Row) → Alike_rows rs ss → length rs ≡ length ss
length-alike [] [] h = refl
length-alike [] (s ∷ ss) h = absurd h
length-alike (r ∷ rs) [] h = absurd h
length-alike (r ∷ rs) (s ∷ ss) h = ap suc (length-alike rs ss h.1)

pub rows-append : (a b c d : List Row) → Alike_rows a b → Alike_rows c d → Alike_rows (a ++ c) (b ++ d)
rows-append [] [] c d g h = h
rows-append [] (s ∷ b) c d g h = absurd g
rows-append (r ∷ a) [] c d g h = absurd g
rows-append (r ∷ a) (s ∷ b) c d g h = (g.0, rows-append a b c d g.1 h)

-- a row that goes on
pub onward-alike : (fs gs : List ℕ) (e f : Bool) (r s : Row) → Same_numbers fs gs → e ≡ f → Alike_row r s → Alike_row (onward fs e r) (onward gs f s)
onward-alike fs gs e f r s n q h = record {
  kind = h.kind;
  follow = same-append r.follow s.follow (when r.ends fs) (when s.ends gs) h.follow (same-when r.ends s.ends fs gs h.ends n);
  ends = ap (λ z. z && e) h.ends ∙ ap (λ z. s.ends && z) q;
}

pub again-alike : (fs gs : List ℕ) (r s : Row) → Same_numbers fs gs → Alike_row r s → Alike_row (again fs r) (again gs s)
again-alike fs gs r s n h = record {
  kind = h.kind;
  follow = same-append r.follow s.follow (when r.ends fs) (when s.ends gs) h.follow (same-when r.ends s.ends fs gs h.ends n);
  ends = h.ends;
}

onward-all : (fs gs : List ℕ) (e f : Bool) (rs ss : List Row) → Same_numbers fs gs → e ≡ f → Alike_rows rs ss → Alike_rows (map (onward fs e) rs) (map (onward gs f) ss)
onward-all fs gs e f [] [] n q h = tt
onward-all fs gs e f [] (s ∷ ss) n q h = absurd h
onward-all fs gs e f (r ∷ rs) [] n q h = absurd h
onward-all fs gs e f (r ∷ rs) (s ∷ ss) n q h = (onward-alike fs gs e f r s n q h.0, onward-all fs gs e f rs ss n q h.1)

pub again-all : (fs gs : List ℕ) (rs ss : List Row) → Same_numbers fs gs → Alike_rows rs ss → Alike_rows (map (again fs) rs) (map (again gs) ss)
again-all fs gs [] [] n h = tt
again-all fs gs [] (s ∷ ss) n h = absurd h
again-all fs gs (r ∷ rs) [] n h = absurd h
again-all fs gs (r ∷ rs) (s ∷ ss) n h = (again-alike fs gs r s n h.0, again-all fs gs rs ss n h.1)

same-is : (xs ys : List ℕ) → xs ≡ ys → Same_numbers xs ys
same-is xs ys e j = ap (has j) e

-- parts put together
pub or-alike : (a b c d : Part) → Alike a c → Alike b d → Alike (one_or a b) (one_or c d)
or-alike a b c d g h = record {
  rows = rows-append a.rows c.rows b.rows d.rows g.rows h.rows;
  first = ap (λ z. z ++ b.first) g.first ∙ ap (λ z. c.first ++ z) h.first;
  may_be_empty = ap (λ z. z || b.may_be_empty) g.may_be_empty ∙ ap (λ z. c.may_be_empty || z) h.may_be_empty;
}

pub both-alike : (a b c d : Part) → Alike a c → Alike b d → Alike (both_parts a b) (both_parts c d)
both-alike a b c d g h = record {
  rows = rows-append (map (onward b.first b.may_be_empty) a.rows) (map (onward d.first d.may_be_empty) c.rows) b.rows d.rows
      (onward-all b.first d.first b.may_be_empty d.may_be_empty a.rows c.rows (same-is b.first d.first h.first) h.may_be_empty g.rows) h.rows;
  first = ap (λ z. z ++ when a.may_be_empty b.first) g.first ∙ ap (λ z. c.first ++ when z b.first) g.may_be_empty ∙ ap (λ z. c.first ++ when c.may_be_empty z) h.first;
  may_be_empty = ap (λ z. z && b.may_be_empty) g.may_be_empty ∙ ap (λ z. c.may_be_empty && z) h.may_be_empty;
}

passes-alike : (a c : Part) → Alike a c → passes a ≡ passes c
passes-alike a c h = ap (λ z. z || some a.first) h.may_be_empty ∙ ap (λ z. c.may_be_empty || some z) h.first

pub then-alike : (a b c d : Part) → Alike a c → Alike b d → Alike (one_then a b) (one_then c d)
then-alike a b c d g h = at (passes a && passes b) (passes c && passes d) (ap (λ z. z && passes b) (passes-alike a c g) ∙ ap (λ z. passes c && z) (passes-alike b d h))
  where
    at : (x y : Bool) → x ≡ y → Alike (cond x (both_parts a b) no_part) (cond y (both_parts c d) no_part)
    at true true e = both-alike a b c d g h
    at true false e = absurd (cc)
    at false true e = absurd (cc)
    at false false e = alike-refl no_part

pub repeated-alike : (a c : Part) → Alike a c → Alike (repeated a) (repeated c)
repeated-alike a c h = record { rows = again-all a.first c.first a.rows c.rows (same-is a.first c.first h.first) h.rows; first = h.first; may_be_empty = h.may_be_empty }

-- a row whose followers were put into its set
pub row-onward : (r s : Row) (fs : List ℕ) (e : Bool) → s.kind ≡ r.kind → s.ends ≡ r.ends && e → (r.ends ≡ true → (j : ℕ) → has j s.follow ≡ has j r.follow || has j fs)
    → (r.ends ≡ false → s.follow ≡ r.follow) → Alike_row s (onward fs e r)
row-onward r s fs e k q f g = record { kind = k; follow = at r.ends refl; ends = q }
  where
    at : (b : Bool) → r.ends ≡ b → Same_numbers s.follow (r.follow ++ when b fs)
    at true h j = f h j ∙ sym (has-append j r.follow fs)
    at false h j = ap (has j) (g h ∙ sym (append-nil r.follow))

pub row-again : (r s : Row) (fs : List ℕ) → s.kind ≡ r.kind → s.ends ≡ r.ends → (r.ends ≡ true → (j : ℕ) → has j s.follow ≡ has j r.follow || has j fs)
    → (r.ends ≡ false → s.follow ≡ r.follow) → Alike_row s (again fs r)
row-again r s fs k q f g = record { kind = k; follow = (row-onward r record { kind = s.kind; follow = s.follow; ends = r.ends && true } fs true k refl f g).follow; ends = q }

-- one row more
pub rows-more : (f : Row → Row) (all ys : List Row) (r s : Row) → Alike_rows all (map f ys) → Alike_row s (f r) → Alike_rows (all ++ s ∷ []) (map f (ys ++ r ∷ []))
rows-more f all ys r s h g = subst (Alike_rows (all ++ s ∷ [])) (sym (map-append f ys (r ∷ []))) (rows-append all (map f ys) (s ∷ []) (f r ∷ []) h (g, tt))

-- parts as the code makes them
pub both-laid : (a b : Part) (rs all : List Row) (fs : List ℕ) (m : Bool) → Alike_rows rs (map (onward b.first b.may_be_empty) a.rows) → all ≡ rs ++ b.rows → fs ≡ a.first ++ when a.may_be_empty b.first → m ≡ a.may_be_empty && b.may_be_empty
    → Alike record { rows = all; first = fs; may_be_empty = m } (both_parts a b)
both-laid a b rs all fs m h e f q = record {
  rows = subst (λ (z : List Row). Alike_rows z (map (onward b.first b.may_be_empty) a.rows ++ b.rows)) (sym e) (rows-append rs (map (onward b.first b.may_be_empty) a.rows) b.rows b.rows h (rows-refl b.rows));
  first = f;
  may_be_empty = q;
}

pub repeat-laid : (a : Part) (s fs : List ℕ) (rs : List Row) → Same_numbers s fs → fs ≡ a.first → Alike_rows rs (map (again s) a.rows) → Alike record { rows = rs; first = a.first; may_be_empty = a.may_be_empty } (repeated a)
repeat-laid a s fs rs n e h = record {
  rows = rows-trans rs (map (again s) a.rows) (map (again a.first) a.rows) h (again-all s a.first a.rows a.rows (λ j. n j ∙ ap (has j) e) (rows-refl a.rows));
  first = refl;
  may_be_empty = refl;
}
