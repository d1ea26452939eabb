-- The states to which ways lead.
use Rattle.std.proofs.Common.{◌≡◌, ℕ, zero, suc, ◌+◌, ◌<◌, ◌≤◌, List, [], ◌∷◌, ◌++◌, length, drop, map, Bool, true, false, refl, ap, sym, ◌∙◌, subst, arith, inl, inr, length-append, append-nil}
use Rattle.std.specs.Prelude.{nat_lt, if◌then◌else◌, slice_index_or}
use Rattle.std.proofs.lemmas.Bool.{lt-ltb, le-ltb}
use Rattle.std.proofs.lemmas.List.{drop_all}
use Rattle.pm_auto.specs.declared.places.Row.{Row}
use Rattle.pm_auto.specs.declared.sets.PlaceSet.{PlaceSet}
use Rattle.pm_auto.specs.declared.states.Way.{Way}
use Rattle.pm_auto.specs.declared.expr.Expr.{Expr}
use Rattle.pm_auto.specs.Core.{Core}
use Rattle.pm_auto.specs.Tree.{tree}
use Rattle.pm_auto.specs.Trim.{trim, trimmed}
use Rattle.pm_auto.specs.Table.{rows}
use Rattle.pm_auto.specs.Alike.{Alike_rows}
use Rattle.pm_auto.specs.States.{step, set_at, start_of}
use Rattle.pm_auto.specs.Walks.{ends_at}
use Rattle.pm_auto.specs.Fills.{fits_on, fits_from}
use Rattle.pm_auto.specs.declared.auto.Edge.{Edge}
use Rattle.pm_auto.specs.Found.{Placed}
use Rattle.pm_auto.specs.Ways.{led, Are_ways, states_of}
use Rattle.pm_auto.proofs.StateLaws.{at-append}
use Rattle.pm_auto.proofs.SameAutomata.{step-alike}
use Rattle.pm_auto.proofs.TreeLaws.{same-expand}

-- one way more leads to one state more
led-more : (rs : List Row) (ss : List PlaceSet) (ws : List Way) (w : Way) → led rs ss (ws ++ w ∷ []) ≡ led rs ss ws ++ step rs w.kind (set_at (led rs ss ws) w.from) ∷ []
led-more rs ss [] w = refl
led-more rs ss (v ∷ ws) w = led-more rs (ss ++ step rs v.kind (set_at ss v.from) ∷ []) ws w

length-led : (rs : List Row) (ss : List PlaceSet) (ws : List Way) → length (led rs ss ws) ≡ length ss + length ws
length-led rs ss [] = omega arith
length-led rs ss (w ∷ ws) =
    let h = length-led rs (ss ++ step rs w.kind (set_at ss w.from) ∷ []) ws in
    let n = length-append ss (step rs w.kind (set_at ss w.from) ∷ []) in
    omega (arith, h, n)

-- tables that are alike have the same states
led-alike : (rs ts : List Row) → Alike_rows rs ts → (ss : List PlaceSet) (ws : List Way) → led rs ss ws ≡ led ts ss ws
led-alike rs ts h ss [] = refl
led-alike rs ts h ss (w ∷ ws) =
    ap (λ (s : PlaceSet). led rs (ss ++ s ∷ []) ws) (step-alike rs ts h w.kind (set_at ss w.from))
    ∙ led-alike rs ts h (ss ++ step ts w.kind (set_at ss w.from) ∷ []) ws

-- a state that was placed has a way, where the one that led to it is added if it is new
pub ways-placed : (rs : List Row) (old new : List PlaceSet) (ws more : List Way) (at k t : ℕ) (s : PlaceSet) → 0 < length old → Are_ways rs old ws
    → s ≡ step rs k (set_at old at) → Placed old s t new → more ≡ (if nat_lt (length ws) t then ws ++ record { from = at; kind = k } ∷ [] else ws) → Are_ways rs new more
ways-placed rs old new ws more at k t s some h is p e = from p
  where
    full : length old ≡ 1 + length ws
    full = ap length h ∙ length-led rs (set_at old 0 ∷ []) ws

    kept : nat_lt (length ws) t ≡ false → more ≡ ws
    kept q = e ∙ ap (λ (b : Bool). if b then ws ++ record { from = at; kind = k } ∷ [] else ws) q

    added : nat_lt (length ws) t ≡ true → more ≡ ws ++ record { from = at; kind = k } ∷ []
    added q = e ∙ ap (λ (b : Bool). if b then ws ++ record { from = at; kind = k } ∷ [] else ws) q

    from : Placed old s t new → Are_ways rs new more
    from (inl p) =
        let q : more ≡ ws = kept (le-ltb (length ws) t (omega (arith, full, p.1))) in
        subst (λ (xs : List Way). Are_ways rs new xs) (sym q) (subst (λ (xs : List PlaceSet). Are_ways rs xs ws) (sym p.0) h)
    from (inr p) =
        let q : more ≡ ws ++ record { from = at; kind = k } ∷ [] = added (lt-ltb (length ws) t (omega (arith, full, p.1))) in
        let first : set_at new 0 ≡ set_at old 0 = ap (λ xs. set_at xs 0) p.0 ∙ at-append old (s ∷ []) 0 some in
        let last : s ≡ step rs k (set_at (led rs (set_at old 0 ∷ []) ws) at) = is ∙ ap (λ xs. step rs k (set_at xs at)) h in
        p.0
        ∙ ap (λ x. old ++ x ∷ []) last
        ∙ ap (λ xs. xs ++ step rs k (set_at (led rs (set_at old 0 ∷ []) ws) at) ∷ []) h
        ∙ sym (led-more rs (set_at old 0 ∷ []) ws record { from = at; kind = k })
        ∙ ap (λ x. led rs (x ∷ []) (ws ++ record { from = at; kind = k } ∷ [])) (sym first)
        ∙ ap (led rs (set_at new 0 ∷ [])) (sym q)

-- the states that were found are those of the expression
pub found-states : (x : Expr) (rs : List Row) (start : PlaceSet) (ss : List PlaceSet) (ws : List Way) → Alike_rows rs (rows 0 (trimmed x)) → start ≡ start_of (trimmed x)
    → set_at ss 0 ≡ start → Are_ways rs ss ws → ss ≡ states_of x ws
unfolding states_of
found-states x rs start ss ws h e f w =
    w ∙ ap (λ s. led rs (s ∷ []) ws) (f ∙ e) ∙ led-alike rs (rows 0 (trimmed x)) h (start_of (trimmed x) ∷ []) ws

-- expressions that say the same have the same states
pub same-states : (x y : Expr) (ws : List Way) → tree x ≡ tree y → states_of x ws ≡ states_of y ws
unfolding states_of
same-states x y ws h = ap (λ (c : Core). led (rows 0 (trim c)) (start_of (trim c) ∷ []) ws) (same-expand x y h)

-- the ends of states are those of their sets
pub ends-at : (ss : List PlaceSet) (i : ℕ) → slice_index_or (map (λ (p : PlaceSet). p.ends) ss) i false ≡ ends_at ss i
ends-at [] i = refl
ends-at (s ∷ ss) zero = refl
ends-at (s ∷ ss) (suc i) = ends-at ss i

-- of a list of states from the i-th on
pub fits-next : (ss : List PlaceSet) (ess : List (List Edge)) (to_end : Bool) (after : List ℕ) (n : ℕ) (xs : List PlaceSet) (i : ℕ) → i < length xs
    → fits_from ss ess to_end after n (drop i xs) ≡ fits_on ss ess to_end n after ∷ fits_from ss ess to_end after (n + 1) (drop (i + 1) xs)
fits-next ss ess to_end after n [] i l = absurd (omega arith)
fits-next ss ess to_end after n (x ∷ xs) zero l =
    let next : suc n ≡ n + 1 = omega arith in
    ap (λ (m : ℕ). fits_on ss ess to_end n after ∷ fits_from ss ess to_end after m xs) next
fits-next ss ess to_end after n (x ∷ xs) (suc i) l =
    let further : suc (i + 1) ≡ suc i + 1 = omega arith in
    fits-next ss ess to_end after n xs i (omega arith)
    ∙ ap (λ (m : ℕ). fits_on ss ess to_end n after ∷ fits_from ss ess to_end after (n + 1) (drop m (x ∷ xs))) further

-- past the last state nothing is left
pub fits-end : (ss : List PlaceSet) (ess : List (List Edge)) (to_end : Bool) (after : List ℕ) (told : List Bool) (n : ℕ) (xs : List PlaceSet) (i : ℕ) → length xs ≤ i
    → told ++ fits_from ss ess to_end after n (drop i xs) ≡ told
fits-end ss ess to_end after told n xs i l = ap (λ (ys : List PlaceSet). told ++ fits_from ss ess to_end after n ys) (drop_all i xs l) ∙ append-nil told
