-- The steps that are due at tokens, for one part of them after another.
use Rattle.std.specs.Prelude.{◌≡◌, ℕ, ◌+◌, ◌<◌, Bool, true, false, not, List, [], ◌∷◌, ◌++◌, length, Option, Some, None}
use Rattle.std.proofs.Common.{suc, refl, ap, sym, ◌∙◌, arith, append_assoc}
use Rattle.pm_attrs.specs.Attrs.{same_attrs}
use Rattle.pm_marks.specs.Sets.{same_marks}
use Rattle.pm_tokens.specs.Tokens.{Marks, Token, marks_of}
use Rattle.pm_tokens.specs.Kids.{text_tokens}
use Rattle.pm_tokens.specs.Schemas.{Schema}
use Rattle.pm_tokens.proofs.MarkLaws.{marks-equal, marks-itself}
use Rattle.pm_meaning.specs.Steps.{Step}
use Rattle.pm_meaning.specs.Marked.{takes_marks}
use Rattle.pm_meaning.specs.Runs.{Run, close_run, continues, due, next_run, run_steps}
use Rattle.pm_apply.specs.Walks.{due_all, run_after}
use Rattle.std.proofs.lemmas.Bool.{and_from}

abbrev pub differ : Marks → Marks → Bool
differ old new = not (same_marks same_attrs old new)

module _ (s : Schema) where
  -- at one token
  abbrev pub due_at : ℕ → Option Run → Token → Token → List Step
  due_at p run t n = due (differ (marks_of t) (marks_of n)) (takes_marks s t) (continues run (marks_of t) (marks_of n)) run p (marks_of t) (marks_of n)

  abbrev pub run_at : ℕ → Option Run → Token → Token → Option Run
  run_at p run t n = next_run (differ (marks_of t) (marks_of n)) (takes_marks s t) (continues run (marks_of t) (marks_of n)) run p (marks_of t) (marks_of n)

  -- all steps are those that are due, and then those of the run that is left
  pub steps-split : (p : ℕ) (run : Option Run) (ts ns : List Token) → length ns ≡ length ts → run_steps s p run ts ns ≡ due_all s p run ts ns ++ close_run (run_after s p run ts ns) (p + length ts)
  steps-split p run [] [] h = ap (close_run run) (let e : p ≡ p + 0 = omega arith in e)
  steps-split p run [] (n ∷ ns) h = absurd (omega (arith, h))
  steps-split p run (t ∷ ts) [] h = absurd (omega (arith, h))
  steps-split p run (t ∷ ts) (n ∷ ns) h =
      let run₂ = run_at p run t n in
      let e : p + 1 + length ts ≡ p + suc (length ts) = omega arith in
      ap (λ z. due_at p run t n ++ z)
      (steps-split (p + 1) run₂ ts ns (omega (arith, h)) ∙ ap (λ k. due_all s (p + 1) run₂ ts ns ++ close_run (run_after s (p + 1) run₂ ts ns) k) e)
      ∙ sym (append_assoc (due_at p run t n) (due_all s (p + 1) run₂ ts ns) (close_run (run_after s (p + 1) run₂ ts ns) (p + suc (length ts))))

  pub due-append : (p : ℕ) (run : Option Run) (xs xs' ys ys' : List Token) → length xs' ≡ length xs
      → due_all s p run (xs ++ ys) (xs' ++ ys') ≡ due_all s p run xs xs' ++ due_all s (p + length xs) (run_after s p run xs xs') ys ys'
  due-append p run [] [] ys ys' h = ap (λ k. due_all s k run ys ys') (let e : p ≡ p + 0 = omega arith in e)
  due-append p run [] (x' ∷ xs') ys ys' h = absurd (omega (arith, h))
  due-append p run (x ∷ xs) [] ys ys' h = absurd (omega (arith, h))
  due-append p run (x ∷ xs) (x' ∷ xs') ys ys' h =
      let run₂ = run_at p run x x' in
      let last = run_after s (p + 1) run₂ xs xs' in
      let e : p + 1 + length xs ≡ p + suc (length xs) = omega arith in
      ap (λ z. due_at p run x x' ++ z)
      (due-append (p + 1) run₂ xs xs' ys ys' (omega (arith, h)) ∙ ap (λ k. due_all s (p + 1) run₂ xs xs' ++ due_all s k last ys ys') e)
      ∙ sym (append_assoc (due_at p run x x') (due_all s (p + 1) run₂ xs xs') (due_all s (p + suc (length xs)) last ys ys'))

  pub after-append : (p : ℕ) (run : Option Run) (xs xs' ys ys' : List Token) → length xs' ≡ length xs
      → run_after s p run (xs ++ ys) (xs' ++ ys') ≡ run_after s (p + length xs) (run_after s p run xs xs') ys ys'
  after-append p run [] [] ys ys' h = ap (λ k. run_after s k run ys ys') (let e : p ≡ p + 0 = omega arith in e)
  after-append p run [] (x' ∷ xs') ys ys' h = absurd (omega (arith, h))
  after-append p run (x ∷ xs) [] ys ys' h = absurd (omega (arith, h))
  after-append p run (x ∷ xs) (x' ∷ xs') ys ys' h =
      let run₂ = run_at p run x x' in
      let e : p + 1 + length xs ≡ p + suc (length xs) = omega arith in
      after-append (p + 1) run₂ xs xs' ys ys' (omega (arith, h)) ∙ ap (λ k. run_after s k (run_after s (p + 1) run₂ xs xs') ys ys') e

  -- ---- tokens that stay

  due-none : (p : ℕ) (ts : List Token) → due_all s p None ts ts ≡ []
  due-none p [] = refl
  due-none p (t ∷ ts) = let e = marks-itself (marks_of t) in rw e (due-none (p + 1) ts)

  after-none : (p : ℕ) (ts : List Token) → run_after s p None ts ts ≡ None
  after-none p [] = refl
  after-none p (t ∷ ts) = let e = marks-itself (marks_of t) in rw e (after-none (p + 1) ts)

  -- they end a run
  pub due-same : (p : ℕ) (run : Option Run) (ts : List Token) → 0 < length ts → due_all s p run ts ts ≡ close_run run p
  due-same p run [] h = absurd (omega (arith, h))
  due-same p run (t ∷ ts) h =
      let e = marks-itself (marks_of t) in
      rw e (ap (λ z. close_run run p ++ z) (due-none (p + 1) ts) ∙ nil-right (close_run run p))
    where
      nil-right : (xs : List Step) → xs ++ [] ≡ xs
      nil-right [] = refl
      nil-right (x ∷ xs) = ap (λ z. x ∷ z) (nil-right xs)

  pub after-same : (p : ℕ) (run : Option Run) (ts : List Token) → 0 < length ts → run_after s p run ts ts ≡ None
  after-same p run [] h = absurd (omega (arith, h))
  after-same p run (t ∷ ts) h = let e = marks-itself (marks_of t) in rw e (after-none (p + 1) ts)

  -- ---- units with other marks

  module _ (m g : Marks) where
    -- a run that they go on
    units-on : (p : ℕ) (run : Option Run) (us : List ℕ) → differ m g ≡ true → continues run m g ≡ true → due_all s p run (text_tokens m us) (text_tokens g us) ≡ []
    units-on p run [] d c = refl
    units-on p run (u ∷ us) d c = rw (d, c) (units-on (p + 1) run us d c)

    after-on : (p : ℕ) (run : Option Run) (us : List ℕ) → differ m g ≡ true → continues run m g ≡ true → run_after s p run (text_tokens m us) (text_tokens g us) ≡ run
    after-on p run [] d c = refl
    after-on p run (u ∷ us) d c = rw (d, c) (after-on (p + 1) run us d c)

    own : (p : ℕ) → continues (Some (record { start = p; old = m; new = g })) m g ≡ true
    own p = and_from (same_marks same_attrs m m) (same_marks same_attrs g g) (marks-itself m) (marks-itself g)

    same-if : differ m g ≡ false → m ≡ g
    same-if d = by (same_marks same_attrs m g) refl d
      where
        by : (b : Bool) → same_marks same_attrs m g ≡ b → not b ≡ false → m ≡ g
        by true e x = marks-equal m g e
        by false e x = absurd (cc)

    -- after the first unit nothing is due, and the run stays
    rest-due : (p : ℕ) (run : Option Run) (us : List ℕ) (d c : Bool) → differ m g ≡ d → continues run m g ≡ c
        → due_all s (p + 1) (next_run d true c run p m g) (text_tokens m us) (text_tokens g us) ≡ []
    rest-due p run us false c d e = ap (λ z. due_all s (p + 1) None (text_tokens m us) (text_tokens z us)) (sym (same-if d)) ∙ due-none (p + 1) (text_tokens m us)
    rest-due p run us true false d e = units-on (p + 1) (Some (record { start = p; old = m; new = g })) us d (own p)
    rest-due p run us true true d e = units-on (p + 1) run us d e

    rest-after : (p : ℕ) (run : Option Run) (us : List ℕ) (d c : Bool) → differ m g ≡ d → continues run m g ≡ c
        → run_after s (p + 1) (next_run d true c run p m g) (text_tokens m us) (text_tokens g us) ≡ next_run d true c run p m g
    rest-after p run us false c d e = ap (λ z. run_after s (p + 1) None (text_tokens m us) (text_tokens z us)) (sym (same-if d)) ∙ after-none (p + 1) (text_tokens m us)
    rest-after p run us true false d e = after-on (p + 1) (Some (record { start = p; old = m; new = g })) us d (own p)
    rest-after p run us true true d e = after-on (p + 1) run us d e

    nil-behind : (xs ys : List Step) → ys ≡ [] → xs ++ ys ≡ xs
    nil-behind [] ys e = e
    nil-behind (x ∷ xs) ys e = ap (λ z. x ∷ z) (nil-behind xs ys e)

    pub units-due : (p : ℕ) (run : Option Run) (us : List ℕ) → 0 < length us
        → due_all s p run (text_tokens m us) (text_tokens g us) ≡ due (differ m g) true (continues run m g) run p m g
    units-due p run [] h = absurd (omega (arith, h))
    units-due p run (u ∷ us) h =
        nil-behind (due (differ m g) true (continues run m g) run p m g) _ (rest-due p run us (differ m g) (continues run m g) refl refl)

    pub units-after : (p : ℕ) (run : Option Run) (us : List ℕ) → 0 < length us
        → run_after s p run (text_tokens m us) (text_tokens g us) ≡ next_run (differ m g) true (continues run m g) run p m g
    units-after p run [] h = absurd (omega (arith, h))
    units-after p run (u ∷ us) h = rest-after p run us (differ m g) (continues run m g) refl refl

  -- ---- what a walk took

  -- these are due at the tokens, and this is the run after them
  pub record Due (p : ℕ) (run last : Option Run) (ts ns : List Token) (before after : List Step) : Type 0 where
    pub steps : after ≡ before ++ due_all s p run ts ns
    pub end : last ≡ run_after s p run ts ns

  nil-end : (xs : List Step) → xs ++ [] ≡ xs
  nil-end [] = refl
  nil-end (x ∷ xs) = ap (λ z. x ∷ z) (nil-end xs)

  pub due-start : (p : ℕ) (run : Option Run) (a : List Step) → Due p run run [] [] a a
  due-start p run a = record { steps = sym (nil-end a); end = refl }

  pub due-both : (p q : ℕ) (r₀ r₁ r₂ : Option Run) (xs xs' ys ys' : List Token) (a b c : List Step) → length xs' ≡ length xs → q ≡ p + length xs
      → Due p r₀ r₁ xs xs' a b → Due q r₁ r₂ ys ys' b c → Due p r₀ r₂ (xs ++ ys) (xs' ++ ys') a c
  due-both p q r₀ r₁ r₂ xs xs' ys ys' a b c l e v w =
      let r = run_after s p r₀ xs xs' in
      let n = p + length xs in
      record {
        steps =
            w.steps ∙ (ap (λ z. z ++ due_all s q r₁ ys ys') v.steps ∙ (ap (λ z. (a ++ due_all s p r₀ xs xs') ++ due_all s z r₁ ys ys') e
            ∙ (ap (λ z. (a ++ due_all s p r₀ xs xs') ++ due_all s n z ys ys') v.end
            ∙ (append_assoc a (due_all s p r₀ xs xs') (due_all s n r ys ys') ∙ ap (λ z. a ++ z) (sym (due-append p r₀ xs xs' ys ys' l))))));
        end = w.end ∙ (ap (λ z. run_after s z r₁ ys ys') e ∙ (ap (λ z. run_after s n z ys ys') v.end ∙ sym (after-append p r₀ xs xs' ys ys' l)));
      }

  pub due-units : (m g : Marks) (p : ℕ) (run last : Option Run) (us : List ℕ) (a b : List Step) → 0 < length us
      → b ≡ a ++ due (differ m g) true (continues run m g) run p m g → last ≡ next_run (differ m g) true (continues run m g) run p m g
      → Due p run last (text_tokens m us) (text_tokens g us) a b
  due-units m g p run last us a b h e f =
      record { steps = e ∙ ap (λ z. a ++ z) (sym (units-due m g p run us h)); end = f ∙ sym (units-after m g p run us h) }

  pub due-token : (t n : Token) (takes : Bool) (p : ℕ) (run last : Option Run) (a b : List Step) → takes ≡ takes_marks s t
      → b ≡ a ++ due (differ (marks_of t) (marks_of n)) takes (continues run (marks_of t) (marks_of n)) run p (marks_of t) (marks_of n)
      → last ≡ next_run (differ (marks_of t) (marks_of n)) takes (continues run (marks_of t) (marks_of n)) run p (marks_of t) (marks_of n)
      → Due p run last (t ∷ []) (n ∷ []) a b
  due-token t n takes p run last a b k e f =
      let old = marks_of t in
      let new = marks_of n in
      record {
        steps =
            e ∙ (ap (λ z. a ++ due (differ old new) z (continues run old new) run p old new) k
            ∙ ap (λ z. a ++ z) (sym (nil-end (due_at p run t n))));
        end = f ∙ ap (λ z. next_run (differ old new) z (continues run old new) run p old new) k;
      }
