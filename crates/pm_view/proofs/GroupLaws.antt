-- What the parts of tokens are.
use Rattle.std.specs.Prelude.{◌≡◌, ℕ, ◌<◌, Bool, true, false, cond, Option, Some, None, List, [], ◌∷◌, ◌++◌, length}
use Rattle.std.proofs.Common.{refl, ap, sym, ◌∙◌, arith, subst}
use Rattle.pm_attrs.specs.Attrs.{same_attrs}
use Rattle.pm_marks.specs.Sets.{same_marks}
use Rattle.pm_tokens.specs.Tokens.{Marks}
use Rattle.pm_tokens.proofs.MarkLaws.{marks-equal, marks-itself, marks-differ}
use Rattle.pm_view.specs.Known.{Known, Opening, Closing, Single, Piece, pieces}
use Rattle.pm_view.specs.Seen.{Seen, Opens, Closes, Atom, Run, all_tokens, EndsRun, AreWhole, ArePartsOf}
use Rattle.pm_view.specs.Grouped.{with_piece, grouped}

abbrev pub first : List Known → Option Known
first [] = None
first (t ∷ ts) = Some t

-- the first token is no unit with these marks
abbrev pub EndsText : Marks → List Known → Type 0
EndsText m ts = (v : ℕ) → first ts ≡ Some (Piece v m) → ⊥

-- ---- a unit before parts

by-marks : (P : List Seen → Type 0) (m n : Marks) (xs ys : List Seen) → (m ≡ n → P xs) → ((m ≡ n → ⊥) → P ys) → P (cond (same_marks same_attrs m n) xs ys)
by-marks P m n xs ys f g = by (same_marks same_attrs m n) refl
  where
    by : (b : Bool) → same_marks same_attrs m n ≡ b → P (cond b xs ys)
    by true e = f (marks-equal m n e)
    by false e = g (λ s. let t : same_marks same_attrs m n ≡ true = subst (λ z. same_marks same_attrs m z ≡ true) s (marks-itself m) in absurd (cc))

piece-tokens : (u : ℕ) (m : Marks) (ps : List Seen) → all_tokens (with_piece u m ps) ≡ Piece u m ∷ all_tokens ps
piece-tokens u m [] = refl
piece-tokens u m (Opens h ∷ ps) = refl
piece-tokens u m (Closes h ∷ ps) = refl
piece-tokens u m (Atom h ∷ ps) = refl
piece-tokens u m (Run us n ∷ ps) =
    by-marks (λ z. all_tokens z ≡ Piece u m ∷ (pieces n us ++ all_tokens ps)) m n (Run (u ∷ us) m ∷ ps) (Run (u ∷ []) m ∷ (Run us n ∷ ps))
    (λ e. ap (λ z. Piece u m ∷ (pieces z us ++ all_tokens ps)) e)
    (λ d. refl)

piece-whole : (u : ℕ) (m : Marks) (ps : List Seen) → AreWhole ps → AreWhole (with_piece u m ps)
piece-whole u m [] w = (omega arith, tt, tt)
piece-whole u m (Opens h ∷ ps) w = (omega arith, tt, w)
piece-whole u m (Closes h ∷ ps) w = (omega arith, tt, w)
piece-whole u m (Atom h ∷ ps) w = (omega arith, tt, w)
piece-whole u m (Run us n ∷ ps) w =
    by-marks AreWhole m n (Run (u ∷ us) m ∷ ps) (Run (u ∷ []) m ∷ (Run us n ∷ ps))
    (λ e. (omega arith, subst (λ z. EndsRun z ps) (sym e) w.1, w.2))
    (λ d. (omega arith, d, w))

piece-ends : (m : Marks) (u : ℕ) (n : Marks) (ps : List Seen) → (m ≡ n → ⊥) → EndsRun m (with_piece u n ps)
piece-ends m u n [] d = d
piece-ends m u n (Opens h ∷ ps) d = d
piece-ends m u n (Closes h ∷ ps) d = d
piece-ends m u n (Atom h ∷ ps) d = d
piece-ends m u n (Run us k ∷ ps) d = by-marks (EndsRun m) n k (Run (u ∷ us) n ∷ ps) (Run (u ∷ []) n ∷ (Run us k ∷ ps)) (λ e. d) (λ e. d)

-- ---- parts of tokens

pub grouped-are : (ts : List Known) → ArePartsOf ts (grouped ts)
grouped-are ts = record { tokens = tokens ts; whole = whole ts }
  where
    tokens : (ts : List Known) → all_tokens (grouped ts) ≡ ts
    tokens [] = refl
    tokens (Opening h ∷ ts) = ap (λ z. Opening h ∷ z) (tokens ts)
    tokens (Closing h ∷ ts) = ap (λ z. Closing h ∷ z) (tokens ts)
    tokens (Single h ∷ ts) = ap (λ z. Single h ∷ z) (tokens ts)
    tokens (Piece u m ∷ ts) = piece-tokens u m (grouped ts) ∙ ap (λ z. Piece u m ∷ z) (tokens ts)

    whole : (ts : List Known) → AreWhole (grouped ts)
    whole [] = tt
    whole (Opening h ∷ ts) = whole ts
    whole (Closing h ∷ ts) = whole ts
    whole (Single h ∷ ts) = whole ts
    whole (Piece u m ∷ ts) = piece-whole u m (grouped ts) (whole ts)

grouped-ends : (m : Marks) (ts : List Known) → EndsText m ts → EndsRun m (grouped ts)
grouped-ends m [] e = tt
grouped-ends m (Opening h ∷ ts) e = tt
grouped-ends m (Closing h ∷ ts) e = tt
grouped-ends m (Single h ∷ ts) e = tt
grouped-ends m (Piece u n ∷ ts) e = piece-ends m u n (grouped ts) (λ s. e u (ap (λ z. Some (Piece u z)) (sym s)))

piece-alone : (u : ℕ) (m : Marks) (ps : List Seen) → EndsRun m ps → with_piece u m ps ≡ Run (u ∷ []) m ∷ ps
piece-alone u m [] e = refl
piece-alone u m (Opens h ∷ ps) e = refl
piece-alone u m (Closes h ∷ ps) e = refl
piece-alone u m (Atom h ∷ ps) e = refl
piece-alone u m (Run us n ∷ ps) e = ap (λ b. cond b (Run (u ∷ us) m ∷ ps) (Run (u ∷ []) m ∷ (Run us n ∷ ps))) (marks-differ m n e)

-- units with equal marks before another part are one run
pub grouped-run : (m : Marks) (us : List ℕ) (ts : List Known) → 0 < length us → EndsText m ts → grouped (pieces m us ++ ts) ≡ Run us m ∷ grouped ts
grouped-run m [] ts h e = absurd (omega (arith, h))
grouped-run m (u ∷ []) ts h e = piece-alone u m (grouped ts) (grouped-ends m ts e)
grouped-run m (u ∷ (v ∷ us)) ts h e =
    ap (with_piece u m) (grouped-run m (v ∷ us) ts (omega arith) e)
    ∙ ap (λ b. cond b (Run (u ∷ (v ∷ us)) m ∷ grouped ts) (Run (u ∷ []) m ∷ (Run (v ∷ us) m ∷ grouped ts))) (marks-itself m)
