-- A wrapped content, nodes that close an empty slice, and all candidates together.
use Rattle.std.specs.Prelude.{◌≡◌, ℕ, ◌+◌, ◌-◌, ◌<◌, min, Bool, true, false, ◌==◌, if◌then◌else◌, Option, Some, None, List, [], ◌∷◌, ◌++◌, length, map, flat_map}
use Rattle.std.proofs.Common.{refl, ap, sym, ◌∙◌, subst, eq-eqb}
use Rattle.std.proofs.lemmas.Bool.{ne_eqb}
use Rattle.pm_tokens.specs.Tokens.{Token, Doc}
use Rattle.pm_tokens.specs.Scan.{depth_at, shared_depth}
use Rattle.pm_tokens.specs.Slices.{Slice, slice_size}
use Rattle.pm_slice.specs.Sides.{sides}
use Rattle.pm_meaning.specs.Steps.{Step}
use Rattle.pm_schema.specs.declared.schema.Schema.{Schema}
use Rattle.pm_schema.specs.Documents.{documents_of}
use Rattle.pm_fit.specs.Candidates.{Candidate, Wrapped, peelings, falling, with_sides, in_wrapping, hollow, closing_at, closing, candidates}
use Rattle.pm_fit.specs.Wrappings.{wrapping_at}
use Rattle.pm_fit.specs.Fits.{sided, wrapped, step_with, fit_step}
use Rattle.pm_fit.specs.Firsts.{IsFirst}
use Rattle.pm_fit.proofs.FirstLaws.{none, one, found, on}
use Rattle.pm_fit.proofs.StepLaws.{wrap-none, wrap-some, wrap-apart}

module _ (s : Schema) (d : Doc) (from to : ℕ) where
  -- ---- wrapped content

  pub wrap-nothing : (depth : ℕ) (sl : Slice) → length sl.content ≡ 0 → IsFirst s d from to (in_wrapping depth depth sl) None
  wrap-nothing depth sl e = subst (λ (cs : List Candidate). IsFirst s d from to cs None) (sym (wrap-none depth depth sl e)) (none s d from to)

  pub wrap-one : (depth : ℕ) (sl : Slice) (w : Option (List ℕ)) (o : Option Step) → 0 < length sl.content → w ≡ wrapping_at s d from sl.content → o ≡ step_with (documents_of s.spec) d from to (wrapped s.spec w sl.content) → IsFirst s d from to (in_wrapping depth depth sl) o
  wrap-one depth sl w o h i e =
      subst (λ (cs : List Candidate). IsFirst s d from to cs o) (sym (wrap-some depth depth sl refl h))
      (one s d from to (Wrapped sl.content) o (e ∙ ap (λ (v : Option (List ℕ)). step_with (documents_of s.spec) d from to (wrapped s.spec v sl.content)) i))

  pub wrap-not : (m n : ℕ) → (m ≡ n → ⊥) → (sls : List Slice) → IsFirst s d from to (flat_map (in_wrapping m n) sls) None
  wrap-not m n h sls = subst (λ (cs : List Candidate). IsFirst s d from to cs None) (sym (wrap-apart m n h sls)) (none s d from to)

  pub wrap-depths : (m n depth : ℕ) (sls : List Slice) (o : Option Step) → depth ≡ m → depth ≡ n → IsFirst s d from to (flat_map (in_wrapping depth depth) sls) o → IsFirst s d from to (flat_map (in_wrapping m n) sls) o
  wrap-depths m n depth sls o p q h =
      subst (λ (i : ℕ). IsFirst s d from to (flat_map (in_wrapping m i) sls) o) q (subst (λ (i : ℕ). IsFirst s d from to (flat_map (in_wrapping i depth) sls) o) p h)

  -- ---- nodes that close

  pub closing-one : (j : ℕ) (content : List Token) (a b : ℕ) (o : Option Step) → content ≡ hollow d from j (depth_at d.tokens from - j) ++ hollow d to j (depth_at d.tokens to - j) → a ≡ depth_at d.tokens from - j → b ≡ depth_at d.tokens to - j → o ≡ step_with (documents_of s.spec) d from to (sided content a b) → IsFirst s d from to (closing_at d from to j ∷ []) o
  closing-one j content a b o e p q h =
      let same : sided content a b ≡ sided (hollow d from j (depth_at d.tokens from - j) ++ hollow d to j (depth_at d.tokens to - j)) (depth_at d.tokens from - j) (depth_at d.tokens to - j) =
      ap (λ z. sided z a b) e ∙ (ap (λ i. sided (hollow d from j (depth_at d.tokens from - j) ++ hollow d to j (depth_at d.tokens to - j)) i b) p ∙ ap (sided (hollow d from j (depth_at d.tokens from - j) ++ hollow d to j (depth_at d.tokens to - j)) (depth_at d.tokens from - j)) q) in
      one s d from to (closing_at d from to j) o (h ∙ ap (step_with (documents_of s.spec) d from to) same)

  -- ---- all together

  module _ (sl : Slice) where
    abbrev m : ℕ
    m = depth_at d.tokens from

    abbrev n : ℕ
    n = depth_at d.tokens to

    abbrev peels : List Slice
    peels = peelings (length sl.content) sl

    abbrev closers : List Candidate
    closers = map (λ i. closing_at d from to (shared_depth d.tokens from to + i)) (falling (min m n - shared_depth d.tokens from to))

    -- of this content and this open start
    pub as-peeled : (a b start : ℕ) (content : List Token) (o : Option Step) → a ≡ m → b ≡ n → content ≡ sl.content → start ≡ sl.open_start
        → IsFirst s d from to (flat_map (with_sides a b) (peelings (length sl.content) (sides content start sl.open_end))) o → IsFirst s d from to (flat_map (with_sides m n) peels) o
    as-peeled a b start content o p q e f h =
        subst (λ (i : ℕ). IsFirst s d from to (flat_map (with_sides m i) peels) o) q
        (subst (λ (i : ℕ). IsFirst s d from to (flat_map (with_sides i b) peels) o) p
        (subst (λ (i : ℕ). IsFirst s d from to (flat_map (with_sides a b) (peelings (length sl.content) (sides sl.content i sl.open_end))) o) f
        (subst (λ (ts : List Token). IsFirst s d from to (flat_map (with_sides a b) (peelings (length sl.content) (sides ts start sl.open_end))) o) e h)))

    pub as-wrapped : (content : List Token) (o : Option Step) → content ≡ sl.content
        → IsFirst s d from to (flat_map (in_wrapping m n) (peelings (length sl.content) (sides content sl.open_start sl.open_end))) o → IsFirst s d from to (flat_map (in_wrapping m n) peels) o
    as-wrapped content o e h = subst (λ (ts : List Token). IsFirst s d from to (flat_map (in_wrapping m n) (peelings (length sl.content) (sides ts sl.open_start sl.open_end))) o) e h

    -- above this depth, and below this one
    pub as-closers : (least most : ℕ) (o : Option Step) → least ≡ shared_depth d.tokens from to → most ≡ min m n
        → IsFirst s d from to (map (λ i. closing_at d from to (least + i)) (falling (most - least))) o → IsFirst s d from to closers o
    as-closers least most o e f h =
        subst (λ (i : ℕ). IsFirst s d from to (map (λ j. closing_at d from to (i + j)) (falling (min m n - i))) o) e
        (subst (λ (k : ℕ). IsFirst s d from to (map (λ j. closing_at d from to (least + j)) (falling (k - least))) o) f h)

    pub fits-peeled : (o : Option Step) (step : Step) → IsFirst s d from to (flat_map (with_sides m n) peels) o → o ≡ Some step → Some step ≡ fit_step s d from to sl
    unfolding fit_step
    fits-peeled o step h e =
        let one = subst (λ (p : Option Step). IsFirst s d from to (flat_map (with_sides m n) peels) p) e h in
        let all : IsFirst s d from to (candidates d from to sl) (Some step) = found s d from to one refl (flat_map (in_wrapping m n) peels ++ closing d from to sl) in
        all.is

    pub fits-wrapped : (p o : Option Step) (step : Step) → IsFirst s d from to (flat_map (with_sides m n) peels) p → p ≡ None → IsFirst s d from to (flat_map (in_wrapping m n) peels) o → o ≡ Some step → Some step ≡ fit_step s d from to sl
    unfolding fit_step
    fits-wrapped p o step f z h e =
        let one = subst (λ (q : Option Step). IsFirst s d from to (flat_map (in_wrapping m n) peels) q) e h in
        let all : IsFirst s d from to (candidates d from to sl) (Some step) = on s d from to f z (found s d from to one refl (closing d from to sl)) in
        all.is

    pub fits-nothing : (p q : Option Step) → IsFirst s d from to (flat_map (with_sides m n) peels) p → p ≡ None → IsFirst s d from to (flat_map (in_wrapping m n) peels) q → q ≡ None → (slice_size sl ≡ 0 → ⊥) → None ≡ fit_step s d from to sl
    unfolding fit_step
    fits-nothing p q f y g z e =
        let no : (slice_size sl == 0) ≡ false = ne_eqb (slice_size sl) 0 e in
        let all : IsFirst s d from to (candidates d from to sl) None = on s d from to f y (on s d from to g z (subst (λ (b : Bool). IsFirst s d from to (if b then closers else []) None) (sym no) (none s d from to))) in
        all.is

    pub fits-closed : (p q o : Option Step) → IsFirst s d from to (flat_map (with_sides m n) peels) p → p ≡ None → IsFirst s d from to (flat_map (in_wrapping m n) peels) q → q ≡ None → slice_size sl ≡ 0 → IsFirst s d from to closers o → o ≡ fit_step s d from to sl
    unfolding fit_step
    fits-closed p q o f y g z e h =
        let yes : (slice_size sl == 0) ≡ true = eq-eqb (slice_size sl) 0 e in
        let all : IsFirst s d from to (candidates d from to sl) o = on s d from to f y (on s d from to g z (subst (λ (b : Bool). IsFirst s d from to (if b then closers else []) o) (sym yes) h)) in
        all.is
