-- What the tests of a replace with or without `structure`, in their order, say of its outcome.
use Rattle.std.specs.Prelude.{◌≡◌, ℕ, ◌≤◌, Bool, true, false, [], ◌∷◌, length, Result, Err}
use Rattle.std.proofs.Common.{◌∙◌}
use Rattle.pm_tokens.specs.Tokens.{Doc}
use Rattle.pm_tokens.specs.Scan.{parts_pair, part}
use Rattle.pm_tokens.specs.Schemas.{Schema}
use Rattle.pm_tokens.specs.Slices.{Slice, is_slice, spliced, depths_fit}
use Rattle.pm_meaning.specs.declared.reason.Reason.{Reason}
use Rattle.pm_meaning.specs.declared.reason.Reason.TheVariants.{Range, Structure, Depth, Pair}
use Rattle.pm_meaning.specs.Steps.{Replace}
use Rattle.pm_meaning.specs.Outcomes.{in_order, keeps_structure, parts_no_pair, made}
use Rattle.pm_replace.specs.Splices.{spliced_outcome}
use Rattle.pm_apply.proofs.MarkOutcomes.{ordered, not-ordered, no-pairs, a-pair}
use Rattle.pm_replace.proofs.OutcomeAnswers.{passes, fails}

module _ (s : Schema) (d : Doc) (from to : ℕ) (sl : Slice) (structure : Bool) (slice : is_slice sl ≡ true) where
  abbrev pub tried : Result Doc Reason
  tried = made s (Replace from to sl structure) d

  pub replace-range : (from ≤ to → to ≤ length d.tokens → ⊥) → tried ≡ Err Range
  replace-range h = passes (is_slice sl) Range _ slice ∙ fails (in_order (from ∷ to ∷ []) (length d.tokens)) Range _ (not-ordered from to (length d.tokens) h)

  module _ (h : from ≤ to) (i : to ≤ length d.tokens) where
    in-range : in_order (from ∷ to ∷ []) (length d.tokens) ≡ true
    in-range = ordered from to (length d.tokens) h i

    pub replace-structure : keeps_structure structure (part from to d.tokens) ≡ false → tried ≡ Err Structure
    replace-structure k =
        passes (is_slice sl) Range _ slice ∙ (passes (in_order (from ∷ to ∷ []) (length d.tokens)) Range _ in-range
        ∙ fails (keeps_structure structure (part from to d.tokens)) Structure _ k)

    module _ (k : keeps_structure structure (part from to d.tokens) ≡ true) where
      pub replace-depth : depths_fit d.tokens from to sl ≡ false → tried ≡ Err Depth
      replace-depth f =
          passes (is_slice sl) Range _ slice ∙ (passes (in_order (from ∷ to ∷ []) (length d.tokens)) Range _ in-range
          ∙ (passes (keeps_structure structure (part from to d.tokens)) Structure _ k ∙ fails (depths_fit d.tokens from to sl) Depth _ f))

      module _ (f : depths_fit d.tokens from to sl ≡ true) where
        pub replace-pair : (b : Bool) → parts_pair d.tokens from ≡ b → (b ≡ false → parts_pair d.tokens to ≡ true) → tried ≡ Err Pair
        replace-pair b p q =
            passes (is_slice sl) Range _ slice ∙ (passes (in_order (from ∷ to ∷ []) (length d.tokens)) Range _ in-range
            ∙ (passes (keeps_structure structure (part from to d.tokens)) Structure _ k ∙ (passes (depths_fit d.tokens from to sl) Depth _ f
            ∙ fails (parts_no_pair d.tokens (from ∷ to ∷ [])) Pair _ (a-pair d.tokens from to b p q))))

        pub replace-spliced : parts_pair d.tokens from ≡ false → parts_pair d.tokens to ≡ false → tried ≡ spliced_outcome s d (spliced d.tokens from to sl)
        replace-spliced p q =
            passes (is_slice sl) Range _ slice ∙ (passes (in_order (from ∷ to ∷ []) (length d.tokens)) Range _ in-range
            ∙ (passes (keeps_structure structure (part from to d.tokens)) Structure _ k ∙ (passes (depths_fit d.tokens from to sl) Depth _ f
            ∙ passes (parts_no_pair d.tokens (from ∷ to ∷ [])) Pair _ (no-pairs d.tokens from to p q))))
