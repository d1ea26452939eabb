-- What the tests of a replaceAround, in their order, say of its outcome.
use Rattle.std.specs.Prelude.{◌≡◌, ℕ, ◌≤◌, Bool, true, false, ◌&&◌, nat_le, List, [], ◌∷◌, length, Result, Err}
use Rattle.std.proofs.Common.{◌∙◌}
use Rattle.std.proofs.lemmas.Bool.{leb-true, and_parts}
use Rattle.pm_tokens.specs.Tokens.{Token, Doc}
use Rattle.pm_tokens.specs.Scan.{is_whole, part}
use Rattle.pm_tokens.specs.Schemas.{Schema}
use Rattle.pm_tokens.specs.Slices.{Slice, is_slice, slice_size, slice_tokens, spliced_around, depths_fit}
use Rattle.pm_meaning.specs.declared.reason.Reason.{Reason}
use Rattle.pm_meaning.specs.declared.reason.Reason.TheVariants.{Range, Structure, Gap, Depth, Pair}
use Rattle.pm_meaning.specs.Steps.{ReplaceAround}
use Rattle.pm_meaning.specs.Outcomes.{in_order, keeps_structure, parts_no_pair, made}
use Rattle.pm_replace.specs.Splices.{spliced_outcome}
use Rattle.pm_apply.specs.declared.around.Ends.{Ends}
use Rattle.pm_replace.proofs.OutcomeAnswers.{passes, fails}

-- positions in order, and what is inserted within the slice
pub record IsOrdered (ends : Ends) (sl : Slice) (n : ℕ) : Type 0 where
  pub before : ends.from ≤ ends.gap_from
  pub gap : ends.gap_from ≤ ends.gap_to
  pub behind : ends.gap_to ≤ ends.to
  pub within : ends.to ≤ n
  pub insert : ends.insert ≤ slice_size sl

abbrev pub are_ordered : Ends → Slice → ℕ → Bool
are_ordered ends sl n = in_order (ends.from ∷ ends.gap_from ∷ ends.gap_to ∷ ends.to ∷ []) n && nat_le ends.insert (slice_size sl)

pub is-ordered : (ends : Ends) (sl : Slice) (n : ℕ) → are_ordered ends sl n ≡ true → IsOrdered ends sl n
is-ordered ends sl n h =
    let a = and_parts (in_order (ends.from ∷ ends.gap_from ∷ ends.gap_to ∷ ends.to ∷ []) n) (nat_le ends.insert (slice_size sl)) h in
    let b = and_parts (nat_le ends.from ends.gap_from) (in_order (ends.gap_from ∷ ends.gap_to ∷ ends.to ∷ []) n) a.0 in
    let c = and_parts (nat_le ends.gap_from ends.gap_to) (in_order (ends.gap_to ∷ ends.to ∷ []) n) b.1 in
    let d = and_parts (nat_le ends.gap_to ends.to) (nat_le ends.to n) c.1 in
    record {
      before = leb-true ends.from ends.gap_from b.0;
      gap = leb-true ends.gap_from ends.gap_to c.0;
      behind = leb-true ends.gap_to ends.to d.0;
      within = leb-true ends.to n d.1;
      insert = leb-true ends.insert (slice_size sl) a.1;
    }

module _ (s : Schema) (d : Doc) (ends : Ends) (sl : Slice) (structure : Bool) (slice : is_slice sl ≡ true) where
  abbrev pub tried : Result Doc Reason
  tried = made s (ReplaceAround ends.from ends.to ends.gap_from ends.gap_to sl ends.insert structure) d

  abbrev first : List Token
  first = part ends.from ends.gap_from d.tokens

  abbrev last : List Token
  last = part ends.gap_to ends.to d.tokens

  pub around-range : are_ordered ends sl (length d.tokens) ≡ false → tried ≡ Err Range
  around-range h = passes (is_slice sl) Range _ slice ∙ fails (are_ordered ends sl (length d.tokens)) Range _ h

  module _ (o : are_ordered ends sl (length d.tokens) ≡ true) where
    pub around-structure : (keeps_structure structure first && keeps_structure structure last) ≡ false → tried ≡ Err Structure
    around-structure h =
        passes (is_slice sl) Range _ slice ∙ (passes (are_ordered ends sl (length d.tokens)) Range _ o
        ∙ fails (keeps_structure structure first && keeps_structure structure last) Structure _ h)

    module _ (k : (keeps_structure structure first && keeps_structure structure last) ≡ true) where
      pub around-gap : is_whole (part ends.gap_from ends.gap_to d.tokens) ≡ false → tried ≡ Err Gap
      around-gap h =
          passes (is_slice sl) Range _ slice ∙ (passes (are_ordered ends sl (length d.tokens)) Range _ o
          ∙ (passes (keeps_structure structure first && keeps_structure structure last) Structure _ k
          ∙ fails (is_whole (part ends.gap_from ends.gap_to d.tokens)) Gap _ h))

      module _ (w : is_whole (part ends.gap_from ends.gap_to d.tokens) ≡ true) where
        pub around-depth : depths_fit d.tokens ends.from ends.to sl ≡ false → tried ≡ Err Depth
        around-depth h =
            passes (is_slice sl) Range _ slice ∙ (passes (are_ordered ends sl (length d.tokens)) Range _ o
            ∙ (passes (keeps_structure structure first && keeps_structure structure last) Structure _ k
            ∙ (passes (is_whole (part ends.gap_from ends.gap_to d.tokens)) Gap _ w ∙ fails (depths_fit d.tokens ends.from ends.to sl) Depth _ h)))

        module _ (f : depths_fit d.tokens ends.from ends.to sl ≡ true) where
          abbrev whole_pairs : Bool
          whole_pairs =
              parts_no_pair d.tokens (ends.from ∷ ends.gap_from ∷ ends.gap_to ∷ ends.to ∷ []) && parts_no_pair (slice_tokens sl) (ends.insert ∷ [])

          pub around-pair : whole_pairs ≡ false → tried ≡ Err Pair
          around-pair h =
              passes (is_slice sl) Range _ slice ∙ (passes (are_ordered ends sl (length d.tokens)) Range _ o
              ∙ (passes (keeps_structure structure first && keeps_structure structure last) Structure _ k
              ∙ (passes (is_whole (part ends.gap_from ends.gap_to d.tokens)) Gap _ w ∙ (passes (depths_fit d.tokens ends.from ends.to sl) Depth _ f ∙ fails whole_pairs Pair _ h))))

          pub around-spliced : whole_pairs ≡ true → tried ≡ spliced_outcome s d (spliced_around d.tokens ends.from ends.to ends.gap_from ends.gap_to sl ends.insert)
          around-spliced h =
              passes (is_slice sl) Range _ slice ∙ (passes (are_ordered ends sl (length d.tokens)) Range _ o
              ∙ (passes (keeps_structure structure first && keeps_structure structure last) Structure _ k
              ∙ (passes (is_whole (part ends.gap_from ends.gap_to d.tokens)) Gap _ w ∙ (passes (depths_fit d.tokens ends.from ends.to sl) Depth _ f ∙ passes whole_pairs Pair _ h))))
