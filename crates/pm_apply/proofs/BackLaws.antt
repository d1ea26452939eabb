-- The inverse of a step that changes marks in a range: the one step, or the steps that give the marks back run by run.
use Rattle.std.specs.Prelude.{◌≡◌, ℕ, ◌+◌, ◌≤◌, Bool, true, false, cond, List, [], ◌∷◌, ◌++◌, length, None}
use Rattle.std.proofs.Common.{refl, ap, sym, ◌∙◌, arith}
use Rattle.pm_tokens.specs.Tokens.{Token, Doc, with_tokens}
use Rattle.pm_tokens.specs.Schemas.{Schema}
use Rattle.pm_tokens.specs.Faults.{Valid}
use Rattle.pm_tokens.specs.Scan.{parts_pair}
use Rattle.pm_meaning.specs.Inverses.{same_tokens, gives, one_or_runs, inverse}
use Rattle.pm_meaning.specs.Known.{knows_step}
use Rattle.pm_meaning.specs.Outcomes.{outcome}
use Rattle.pm_meaning.proofs.OutcomeLaws.{known-made}
use Rattle.pm_meaning.specs.Runs.{run_steps, close_run}
use Rattle.pm_step.specs.declared.marking.Marking.{Marking}
use Rattle.pm_step.specs.declared.marking.Marking.TheVariants.{Add, Remove}
use Rattle.pm_apply.specs.declared.runs.Runs.{Runs}
use Rattle.pm_apply.specs.declared.target.Target.TheVariants.{Range, Node}
use Rattle.pm_apply.specs.declared.marking.Reach.TheVariants.{Inline}
use Rattle.pm_step.specs.Steps.{opposite, range_step, node_step}
use Rattle.pm_apply.specs.Markings.{marked_in, new_marks}
use Rattle.pm_apply.specs.Backs.{marked_twice}
use Rattle.pm_apply.specs.Walks.{due_all, run_after, Took, run_of, target_step}
use Rattle.pm_apply.proofs.MarkedLaws.{read-is, read-length}
use Rattle.pm_apply.proofs.MarkOutcomes.{range-checked}
use Rattle.pm_apply.proofs.SameTokens.{checked-gives}
use Rattle.pm_apply.proofs.TwiceLaws.{pairs-kept}
use Rattle.pm_apply.proofs.DueLaws.{steps-split}

module _ (s : Schema) (m : Marking) (from to : ℕ) (d : Doc) (v : Valid s d) (h : from ≤ to) (i : to ≤ length d.tokens) (k : knows_step s (range_step m from to) ≡ true) where
  -- the tokens after the marking
  abbrev pub after : List Token
  after = marked_in (new_marks s m Inline) (d.kind ∷ []) from to d.tokens

  opposite-known : (x : Marking) → knows_step s (range_step x from to) ≡ true → knows_step s (range_step (opposite x) from to) ≡ true
  opposite-known (Add y) h = h
  opposite-known (Remove y) h = h

  inverse-is : (x : Marking) → inverse s (range_step x from to) d ≡ one_or_runs s (range_step (opposite x) from to) d (with_tokens d (marked_in (new_marks s x Inline) (d.kind ∷ []) from to d.tokens))
  inverse-is (Add k) = refl
  inverse-is (Remove k) = refl

  after-length : length after ≡ length d.tokens
  after-length = ap length (read-is (new_marks s m Inline) (d.kind ∷ []) from to d.tokens h) ∙ read-length (new_marks s m Inline) (d.kind ∷ []) from to d.tokens

  after-pairs : (p : ℕ) → parts_pair after p ≡ parts_pair d.tokens p
  after-pairs p = ap (λ z. parts_pair z p) (read-is (new_marks s m Inline) (d.kind ∷ []) from to d.tokens h) ∙ pairs-kept (new_marks s m Inline) (d.kind ∷ []) from to p d.tokens

  module _ (p : parts_pair d.tokens from ≡ false) (q : parts_pair d.tokens to ≡ false) where
    -- a marking after it gives the document exactly where it gives the tokens
    pub back-gives : (b : Marking) → knows_step s (range_step b from to) ≡ true → gives (outcome s (range_step b from to) (with_tokens d after)) d.tokens ≡ same_tokens (marked_twice s m b (d.kind ∷ []) from to d.tokens) d.tokens
    back-gives b kb =
        let twice = marked_twice s m b (d.kind ∷ []) from to d.tokens in
        let within : to ≤ length after = omega (arith, i, after-length) in
        ap (λ z. gives z d.tokens)
        (known-made s (range_step b from to) (with_tokens d after) kb ∙ range-checked s b from to (with_tokens d after) h within (after-pairs from ∙ p) (after-pairs to ∙ q) twice refl)
        ∙ checked-gives s d twice v

    decided : (b : Bool) → same_tokens (marked_twice s m (opposite m) (d.kind ∷ []) from to d.tokens) d.tokens ≡ b
        → inverse s (range_step m from to) d ≡ cond b (range_step (opposite m) from to ∷ []) (run_steps s 0 None d.tokens after)
    decided b e =
        inverse-is m
        ∙ ap (λ z. cond z (range_step (opposite m) from to ∷ []) (run_steps s 0 None d.tokens after)) (back-gives (opposite m) (opposite-known m k) ∙ e)

    pub back-by-one : same_tokens (marked_twice s m (opposite m) (d.kind ∷ []) from to d.tokens) d.tokens ≡ true → range_step (opposite m) from to ∷ [] ≡ inverse s (range_step m from to) d
    back-by-one e = sym (decided true e)

    pub back-by-runs : same_tokens (marked_twice s m (opposite m) (d.kind ∷ []) from to d.tokens) d.tokens ≡ false
        → due_all s 0 None d.tokens after ++ close_run (run_after s 0 None d.tokens after) (length d.tokens) ≡ inverse s (range_step m from to) d
    back-by-runs e =
        let z : 0 + length d.tokens ≡ length d.tokens = omega arith in
        sym (decided false e ∙ (steps-split s 0 None d.tokens after after-length ∙ ap (λ k. due_all s 0 None d.tokens after ++ close_run (run_after s 0 None d.tokens after) k) z))

    -- the same for a walk that took all tokens
    pub by-runs : same_tokens (marked_twice s m (opposite m) (d.kind ∷ []) from to d.tokens) d.tokens ≡ false
        → (r₀ r₁ r₂ : Runs) (size : ℕ) → r₀.steps.items ≡ [] → r₀.run ≡ None → Took s 0 d.tokens after r₀ r₁
        → r₂.steps.items ≡ r₁.steps.items ++ close_run (run_of r₁.run) size → size ≡ length d.tokens → r₂.steps.items ≡ inverse s (range_step m from to) d
    by-runs e r₀ r₁ r₂ size a b w x n =
        let none : run_of r₀.run ≡ None = ap run_of b in
        let steps : r₁.steps.items ≡ due_all s 0 None d.tokens after =
        w.steps ∙ (ap (λ z. z ++ due_all s 0 (run_of r₀.run) d.tokens after) a ∙ ap (λ z. due_all s 0 z d.tokens after) none) in
        let run : run_of r₁.run ≡ run_after s 0 None d.tokens after = w.run ∙ ap (λ z. run_after s 0 z d.tokens after) none in
        x ∙ (ap (λ z. z ++ close_run (run_of r₁.run) size) steps
        ∙ (ap (λ z. due_all s 0 None d.tokens after ++ close_run z size) run
        ∙ (ap (λ z. due_all s 0 None d.tokens after ++ close_run (run_after s 0 None d.tokens after) z) n ∙ back-by-runs e)))

-- the step that does this to a range, as the step at a place
pub target-range : (b : Marking) (from to : ℕ) → target_step (Range from to) b ≡ range_step b from to
target-range b from to = refl

pub target-node : (b : Marking) (pos : ℕ) → target_step (Node pos) b ≡ node_step b pos
target-node b pos = refl
