-- The automata of the generated schema's contents.
use Rattle.std.proofs.Common.{◌≡◌, ℕ, ◌<◌, List, [], ◌∷◌, Bool, true, false, ◌||◌, eqb, Global, refl, ap, sym, ◌∙◌, subst, arith, eqb-true, true≢false}
use Rattle.pm_auto.specs.declared.expr.Expr.{Expr, Empty}
use Rattle.pm_auto.specs.declared.sets.PlaceSet.{PlaceSet}
use Rattle.pm_auto.specs.declared.auto.Edge.{Edge}
use Rattle.pm_auto.specs.declared.auto.Auto.{Auto}
use Rattle.pm_auto.specs.Trim.{trimmed}
use Rattle.pm_auto.specs.Table.{rows}
use Rattle.pm_auto.specs.States.{has, start_of, step, Too_many}
use Rattle.pm_schema.specs.Generated.{IsAutoOf}
use Rattle.pm_gen_laws.proofs.Spec.{some_blocks, any_inlines, items, item_content}
use Rattle.pm_gen_laws.proofs.Few.{Leads, not-many}

abbrev set : List ℕ → Bool → PlaceSet
set places ends = record { places = places; ends = ends }

abbrev edge : ℕ → ℕ → Edge
edge kind to = record { kind = kind; to = to }

pub two : 1 < 2
two = omega arith

pub one : 0 < 1
one = omega arith

pub some-two : 0 < 2
some-two = omega arith

differ : (p q : List ℕ) → set p false ≡ set q true → ⊥
differ p q e = let f : false ≡ true = ap (λ (s : PlaceSet). s.ends) e in true≢false (sym f)

-- ---- a type that may come next is one of these

hit : (P : ℕ → Type 0) (k x : ℕ) (xs : List ℕ) → P x → (has k xs ≡ true → P k) → has k (x ∷ xs) ≡ true → P k
hit P k x xs here there e = at (eqb x k) refl
  where
    at : (b : Bool) → eqb x k ≡ b → P k
    at true f = subst P (eqb-true x k f) here
    at false f = there (ap (λ (b : Bool). b || has k xs) (sym f) ∙ e)

miss : (P : Type 0) (k : ℕ) → has k [] ≡ true → P
miss P k e = absurd (true≢false (sym e))

-- ---- one or more blocks

abbrev to_blocks : List Edge
to_blocks = edge 1 1 ∷ edge 2 1 ∷ edge 3 1 ∷ edge 4 1 ∷ []

abbrev four : List ℕ
four = 0 ∷ 1 ∷ 2 ∷ 3 ∷ []

abbrev pub blocks_auto : Auto
blocks_auto = record {
  sets = set four false ∷ set four true ∷ [];
  edges = to_blocks ∷ to_blocks ∷ [];
  some = some-two;
  full = refl;
  graph = (((refl, (refl, (refl, (refl, tt)))), (two, (two, (two, (two, tt))))), (((refl, (refl, (refl, (refl, tt)))), (two, (two, (two, (two, tt))))), tt));
}

-- ---- any inlines

abbrev pub inlines_auto : Auto
inlines_auto = record {
  sets = set (0 ∷ 1 ∷ []) true ∷ [];
  edges = (edge 6 0 ∷ edge 7 0 ∷ []) ∷ [];
  some = one;
  full = refl;
  graph = (((refl, (refl, tt)), (one, (one, tt))), tt);
}

-- ---- one or more list items

abbrev pub items_auto : Auto
items_auto = record {
  sets = set (0 ∷ []) false ∷ set (0 ∷ []) true ∷ [];
  edges = (edge 5 1 ∷ []) ∷ (edge 5 1 ∷ []) ∷ [];
  some = some-two;
  full = refl;
  graph = (((refl, tt), (two, tt)), (((refl, tt), (two, tt)), tt));
}

-- ---- a paragraph, and then any blocks

abbrev later : List ℕ
later = 1 ∷ 2 ∷ 3 ∷ 4 ∷ []

abbrev pub item_auto : Auto
item_auto = record {
  sets = set (0 ∷ []) false ∷ set later true ∷ [];
  edges = (edge 1 1 ∷ []) ∷ to_blocks ∷ [];
  some = some-two;
  full = refl;
  graph = (((refl, tt), (two, tt)), (((refl, (refl, (refl, (refl, tt)))), (two, (two, (two, (two, tt))))), tt));
}

-- ---- nothing

abbrev pub empty_auto : Auto
empty_auto = record {
  sets = set [] true ∷ [];
  edges = [] ∷ [];
  some = one;
  full = refl;
  graph = ((tt, tt), tt);
}

pub is-empty : IsAutoOf Empty empty_auto
is-empty = record {
  some = one;
  begins = refl;
  reached = (([], refl), tt);
  differ = (tt, tt);
  edges = (record { types = refl; lead = tt }, tt);
  full = refl;
  few = omega arith;
}

-- more than a thousand states can be reached
abbrev pub Many : Expr → Type 0
Many e = Too_many (rows 0 (trimmed e)) (start_of (trimmed e))

pub few-empty : Many Empty → ⊥
few-empty m = not-many (rows 0 (trimmed Empty)) (set [] true) (set [] true) (λ k e. miss (step (rows 0 (trimmed Empty)) k (set [] true) ≡ set [] true) k e) (λ k e. miss (step (rows 0 (trimmed Empty)) k (set [] true) ≡ set [] true) k e) m

module _ (g : Global) where
  pub is-blocks : IsAutoOf (some_blocks g) blocks_auto
  is-blocks = record {
    some = some-two;
    begins = refl;
    reached = (([], refl), ((1 ∷ [], (refl, refl)), tt));
    differ = ((differ four four, tt), (tt, tt));
    edges = (
      record { types = refl; lead = ((two, refl), ((two, refl), ((two, refl), ((two, refl), tt)))) },
      (record { types = refl; lead = ((two, refl), ((two, refl), ((two, refl), ((two, refl), tt)))) }, tt),
    );
    full = refl;
    few = omega arith;
  }

  pub is-inlines : IsAutoOf (any_inlines g) inlines_auto
  is-inlines = record {
    some = one;
    begins = refl;
    reached = (([], refl), tt);
    differ = (tt, tt);
    edges = (record { types = refl; lead = ((one, refl), ((one, refl), tt)) }, tt);
    full = refl;
    few = omega arith;
  }

  pub is-items : IsAutoOf (items g) items_auto
  is-items = record {
    some = some-two;
    begins = refl;
    reached = (([], refl), ((5 ∷ [], (refl, refl)), tt));
    differ = ((differ (0 ∷ []) (0 ∷ []), tt), (tt, tt));
    edges = (record { types = refl; lead = ((two, refl), tt) }, (record { types = refl; lead = ((two, refl), tt) }, tt));
    full = refl;
    few = omega arith;
  }

  pub is-item : IsAutoOf (item_content g) item_auto
  is-item = record {
    some = some-two;
    begins = refl;
    reached = (([], refl), ((1 ∷ [], (refl, refl)), tt));
    differ = ((differ (0 ∷ []) later, tt), (tt, tt));
    edges = (
      record { types = refl; lead = ((two, refl), tt) },
      (record { types = refl; lead = ((two, refl), ((two, refl), ((two, refl), ((two, refl), tt)))) }, tt),
    );
    full = refl;
    few = omega arith;
  }

  -- ---- they have not too many states

  blocks-lead : (ends : Bool) → Leads (rows 0 (trimmed (some_blocks g))) (set four ends) (set four true)
  blocks-lead ends k =
      let P : ℕ → Type 0 = λ j. step (rows 0 (trimmed (some_blocks g))) j (set four ends) ≡ set four true in
      hit P k 1 (2 ∷ 3 ∷ 4 ∷ []) refl (hit P k 2 (3 ∷ 4 ∷ []) refl (hit P k 3 (4 ∷ []) refl (hit P k 4 [] refl (miss (P k) k))))

  pub few-blocks : Many (some_blocks g) → ⊥
  few-blocks m = not-many (rows 0 (trimmed (some_blocks g))) (set four false) (set four true) (blocks-lead false) (blocks-lead true) m

  inlines-lead : Leads (rows 0 (trimmed (any_inlines g))) (set (0 ∷ 1 ∷ []) true) (set (0 ∷ 1 ∷ []) true)
  inlines-lead k =
      let P : ℕ → Type 0 = λ j. step (rows 0 (trimmed (any_inlines g))) j (set (0 ∷ 1 ∷ []) true) ≡ set (0 ∷ 1 ∷ []) true in
      hit P k 6 (7 ∷ []) refl (hit P k 7 [] refl (miss (P k) k))

  pub few-inlines : Many (any_inlines g) → ⊥
  few-inlines m = not-many (rows 0 (trimmed (any_inlines g))) (set (0 ∷ 1 ∷ []) true) (set (0 ∷ 1 ∷ []) true) inlines-lead inlines-lead m

  items-lead : (ends : Bool) → Leads (rows 0 (trimmed (items g))) (set (0 ∷ []) ends) (set (0 ∷ []) true)
  items-lead ends k =
      let P : ℕ → Type 0 = λ j. step (rows 0 (trimmed (items g))) j (set (0 ∷ []) ends) ≡ set (0 ∷ []) true in
      hit P k 5 [] refl (miss (P k) k)

  pub few-items : Many (items g) → ⊥
  few-items m = not-many (rows 0 (trimmed (items g))) (set (0 ∷ []) false) (set (0 ∷ []) true) (items-lead false) (items-lead true) m

  item-lead : Leads (rows 0 (trimmed (item_content g))) (set (0 ∷ []) false) (set later true)
  item-lead k =
      let P : ℕ → Type 0 = λ j. step (rows 0 (trimmed (item_content g))) j (set (0 ∷ []) false) ≡ set later true in
      hit P k 1 [] refl (miss (P k) k)

  later-lead : Leads (rows 0 (trimmed (item_content g))) (set later true) (set later true)
  later-lead k =
      let P : ℕ → Type 0 = λ j. step (rows 0 (trimmed (item_content g))) j (set later true) ≡ set later true in
      hit P k 1 (2 ∷ 3 ∷ 4 ∷ []) refl (hit P k 2 (3 ∷ 4 ∷ []) refl (hit P k 3 (4 ∷ []) refl (hit P k 4 [] refl (miss (P k) k))))

  pub few-item : Many (item_content g) → ⊥
  few-item m = not-many (rows 0 (trimmed (item_content g))) (set (0 ∷ []) false) (set later true) item-lead later-lead m
