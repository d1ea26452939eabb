-- Tables that are alike have the same states, edges and automata.
use Rattle.std.proofs.Common.{◌≡◌, ℕ, zero, suc, List, [], ◌∷◌, Bool, false, ◌||◌, ◌&&◌, cond, eqb, refl, ap, sym, ◌∙◌, subst, inr}
use Rattle.pm_auto.specs.declared.places.Row.{Row}
use Rattle.pm_auto.specs.declared.sets.PlaceSet.{PlaceSet}
use Rattle.pm_auto.specs.declared.auto.Edge.{Edge}
use Rattle.pm_auto.specs.declared.auto.Auto.{Auto}
use Rattle.pm_auto.specs.Core.{when}
use Rattle.pm_auto.specs.Runs.{look, next_rows, end_rows}
use Rattle.pm_auto.specs.States.{has, in_order, step, kinds, once, Leads_to, All_reached, Too_many, start_of, Lead_on, All_edges}
use Rattle.pm_auto.specs.Automata.{Is_automaton}
use Rattle.pm_auto.specs.Alike.{Same_numbers, Alike_row, Alike_rows, Alike}
use Rattle.pm_auto.specs.declared.places.Part.{Part}
use Rattle.pm_auto.specs.declared.expr.Expr.{Expr}
use Rattle.pm_auto.specs.declared.error.AutoError.{AutoError}
use Rattle.pm_auto.specs.declared.error.AutoError.TheVariants.{Mixed, TooWide, NoMemory}
use Rattle.pm_auto.specs.Trim.{trimmed}
use Rattle.pm_auto.specs.Table.{rows, firsts, part}
use Rattle.pm_auto.specs.Types.{Is_mixed}
use Rattle.pm_auto.specs.Found.{Only_wide}
use Rattle.pm_auto.specs.Built.{Is_fault}
use Rattle.pm_auto.proofs.AlikeLaws.{row-refl, same-append, same-when}

abbrev pub set_of : List ℕ → Bool → PlaceSet
set_of ps e = record { places = ps; ends = e }

look-alike : (rs ss : List Row) → Alike_rows rs ss → (n : ℕ) → Alike_row (look rs n) (look ss n)
look-alike [] [] h n = row-refl record { kind = 0; follow = []; ends = false }
look-alike [] (s ∷ ss) h n = absurd h
look-alike (r ∷ rs) [] h n = absurd h
look-alike (r ∷ rs) (s ∷ ss) h zero = h.0
look-alike (r ∷ rs) (s ∷ ss) h (suc n) = look-alike rs ss h.1 n

-- the places in order are the same
order-from : (xs ys : List ℕ) (n : ℕ) (rs ss : List Row) → Same_numbers xs ys → Alike_rows rs ss → in_order xs n rs ≡ in_order ys n ss
order-from xs ys n [] [] f h = refl
order-from xs ys n [] (s ∷ ss) f h = absurd h
order-from xs ys n (r ∷ rs) [] f h = absurd h
order-from xs ys n (r ∷ rs) (s ∷ ss) f h =
    ap (λ (b : Bool). cond b (n ∷ in_order xs (suc n) rs) (in_order xs (suc n) rs)) (f n)
    ∙ ap (λ (z : List ℕ). cond (has n ys) (n ∷ z) z) (order-from xs ys (suc n) rs ss f h.1)

pub order-alike : (xs ys : List ℕ) (rs ss : List Row) → xs ≡ ys → Alike_rows rs ss → in_order xs 0 rs ≡ in_order ys 0 ss
order-alike xs ys rs ss e h = order-from xs ys 0 rs ss (λ j. ap (has j) e) h

module _ (rs ss : List Row) (h : Alike_rows rs ss) where
  next-alike : (k : ℕ) (ns : List ℕ) → Same_numbers (next_rows rs k ns) (next_rows ss k ns)
  next-alike k [] = λ j. refl
  next-alike k (n ∷ ns) =
      let l = look-alike rs ss h n in
      same-append (when (eqb (look rs n).kind k) (look rs n).follow) (when (eqb (look ss n).kind k) (look ss n).follow) (next_rows rs k ns) (next_rows ss k ns)
      (same-when (eqb (look rs n).kind k) (eqb (look ss n).kind k) (look rs n).follow (look ss n).follow (ap (λ z. eqb z k) l.kind) l.follow)
      (next-alike k ns)

  end-alike : (k : ℕ) (ns : List ℕ) → end_rows rs k ns ≡ end_rows ss k ns
  end-alike k [] = refl
  end-alike k (n ∷ ns) =
      let l = look-alike rs ss h n in
      ap (λ z. (eqb z k && (look rs n).ends) || end_rows rs k ns) l.kind
      ∙ ap (λ z. (eqb (look ss n).kind k && z) || end_rows rs k ns) l.ends
      ∙ ap (λ z. (eqb (look ss n).kind k && (look ss n).ends) || z) (end-alike k ns)

  pub step-alike : (k : ℕ) (s : PlaceSet) → step rs k s ≡ step ss k s
  step-alike k s =
      ap (λ (z : List ℕ). set_of z (end_rows rs k s.places)) (order-from (next_rows rs k s.places) (next_rows ss k s.places) 0 rs ss (next-alike k s.places) h)
      ∙ ap (set_of (in_order (next_rows ss k s.places) 0 ss)) (end-alike k s.places)

  kinds-alike : (ns : List ℕ) → kinds rs ns ≡ kinds ss ns
  kinds-alike [] = refl
  kinds-alike (n ∷ ns) = let l = look-alike rs ss h n in ap (λ z. z ∷ kinds rs ns) l.kind ∙ ap (λ z. (look ss n).kind ∷ z) (kinds-alike ns)

  leads-alike : (w : List ℕ) (s t : PlaceSet) → Leads_to rs s w t → Leads_to ss s w t
  leads-alike [] s t l = l
  leads-alike (k ∷ w) s t l =
      (ap (has k) (sym (kinds-alike s.places)) ∙ l.0, subst (λ (u : PlaceSet). Leads_to ss u w t) (step-alike k s) (leads-alike w (step rs k s) t l.1))

  reached-alike : (s : PlaceSet) (ts : List PlaceSet) → All_reached rs s ts → All_reached ss s ts
  reached-alike s [] r = tt
  reached-alike s (t ∷ ts) r = ((r.0.0, leads-alike r.0.0 s t r.0.1), reached-alike s ts r.1)

  lead-alike : (ts : List PlaceSet) (s : PlaceSet) (es : List Edge) → Lead_on rs ts s es → Lead_on ss ts s es
  lead-alike ts s [] l = tt
  lead-alike ts s (e ∷ es) l = ((l.0.0, l.0.1 ∙ step-alike e.kind s), lead-alike ts s es l.1)

  edges-alike : (ts us : List PlaceSet) (ess : List (List Edge)) → All_edges rs ts us ess → All_edges ss ts us ess
  edges-alike ts us [] a = tt
  edges-alike ts [] (es ∷ ess) a = absurd a
  edges-alike ts (u ∷ us) (es ∷ ess) a =
      (record { types = a.0.types ∙ ap (once []) (kinds-alike u.places); lead = lead-alike ts u es a.0.lead }, edges-alike ts us ess a.1)

  -- an automaton of one table is one of the other
  pub automaton-alike : (start : PlaceSet) (a : Auto) → Is_automaton rs start a → Is_automaton ss start a
  automaton-alike start a i = record {
    some = i.some;
    begins = i.begins;
    reached = reached-alike start a.sets i.reached;
    differ = i.differ;
    edges = edges-alike a.sets a.sets a.edges i.edges;
    full = i.full;
    few = i.few;
  }

  pub many-alike : (start : PlaceSet) → Too_many rs start → Too_many ss start
  many-alike start m = record { states = m.states; reached = reached-alike start m.states m.reached; differ = m.differ; many = m.many }

-- the automaton of the table that was laid out is that of the expression
module _ (x : Expr) (p : Part) (rs : List Row) (fs ps : List ℕ) (h : Alike p (part 0 (trimmed x))) (er : rs ≡ p.rows) (ef : fs ≡ p.first) (ep : ps ≡ in_order fs 0 rs) where
  pub rows-are : Alike_rows rs (rows 0 (trimmed x))
  rows-are = subst (λ (z : List Row). Alike_rows z (rows 0 (trimmed x))) (sym er) h.rows

  abbrev start : PlaceSet
  start = set_of ps p.may_be_empty

  pub start-is : start ≡ start_of (trimmed x)
  start-is =
      ap (λ (z : List ℕ). set_of z p.may_be_empty) (ep ∙ order-alike fs (firsts 0 (trimmed x)) rs (rows 0 (trimmed x)) (ef ∙ h.first) rows-are)
      ∙ ap (set_of (in_order (firsts 0 (trimmed x)) 0 (rows 0 (trimmed x)))) h.may_be_empty

  pub built-automaton : (a : Auto) → Is_automaton rs (set_of ps p.may_be_empty) a → Is_automaton (rows 0 (trimmed x)) (start_of (trimmed x)) a
  built-automaton a i = subst (λ (s : PlaceSet). Is_automaton (rows 0 (trimmed x)) s a) start-is (automaton-alike rs (rows 0 (trimmed x)) rows-are start a i)

  built-many : Too_many rs (set_of ps p.may_be_empty) → Too_many (rows 0 (trimmed x)) (start_of (trimmed x))
  built-many m = subst (λ (s : PlaceSet). Too_many (rows 0 (trimmed x)) s) start-is (many-alike rs (rows 0 (trimmed x)) rows-are start m)

  pub built-fault : (inline : List Bool) → (Is_mixed x inline → ⊥) → (e : AutoError) → Only_wide (Too_many rs (set_of ps p.may_be_empty)) e → Is_fault x inline e
  built-fault inline n Mixed m = absurd m
  built-fault inline n TooWide m = (n, inr (built-many m))
  built-fault inline n NoMemory m = tt
