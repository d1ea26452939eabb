-- What steps change of the tokens: those of their ranges alone.
use Rattle.std.specs.Prelude.{◌≡◌, ℕ, ◌+◌, ◌-◌, ◌≤◌, IsSome, List, [], ◌∷◌, ◌++◌, length, take, drop}
use Rattle.std.proofs.Common.{zero, suc, refl, ap, sym, ◌∙◌, arith, append_assoc, length-append, length-take, length-drop}
use Rattle.std.proofs.lemmas.List.{take-append-drop}
use Rattle.pm_tokens.specs.Tokens.{Marks, Token, Open, Close, Leaf, CodeUnit}
use Rattle.pm_tokens.specs.Scan.{plain, part, unclosed, tail_of, Balanced}
use Rattle.pm_tokens.specs.Schemas.{Schema, compatible}
use Rattle.pm_tokens.specs.Slices.{Slice, slice_size, slice_tokens}
use Rattle.pm_tokens.proofs.BalanceLaws.{balanced-whole}
use Rattle.pm_tokens.proofs.ScanLaws.{whole-of}
use Rattle.pm_tokens.proofs.OwnedParts.{length-part}
use Rattle.pm_tokens.proofs.PartLaws.{slice-is, slice-length}
use Rattle.pm_tokens.proofs.SpliceLaws.{around-plain}
use Rattle.pm_meaning.specs.Marked.{with_marks}
use Rattle.pm_meaning.proofs.ReplaceLaws.{depths-of}
use Rattle.pm_node.specs.Changes.{Changed}
use Rattle.pm_apply.specs.declared.around.Ends.{Ends}
use Rattle.pm_apply.specs.Nodes.{marks_first}
use Rattle.pm_apply.specs.Around.{IsPlaced}
use Rattle.pm_apply.specs.Markings.{marked_in}
use Rattle.pm_apply.proofs.FedAround.{around_of}

-- a step around a gap changes its range, for the slice's first tokens, the gap's, and the slice's others
pub around-changed : (s : Schema) (ts made : List Token) (ends : Ends) (sl : Slice) (new_to : ℕ) → Balanced ts → IsPlaced ts ends sl → made ≡ plain (around_of ts ends sl)
    → new_to ≡ ends.from + (ends.gap_to - ends.gap_from) + slice_size sl → Changed ts made ends.from ends.to new_to
around-changed s ts made ends sl new_to b p is n =
    let d = depths-of ts ends.from ends.to sl p.depths in
    let sw = slice-is sl p.slice in
    let first = take ends.insert (slice_tokens sl) in
    let last = drop ends.insert (slice_tokens sl) in
    let gap = part ends.gap_from ends.gap_to ts in
    let behind = drop ends.to ts in
    let told : plain (around_of ts ends sl) ≡ take ends.from ts ++ (first ++ (gap ++ (last ++ behind))) =
    around-plain (compatible s) ts ends.from ends.to ends.gap_from ends.gap_to sl ends.insert (balanced-whole b) sw p.before p.gap p.behind p.within p.insert
    (whole-of (part ends.gap_from ends.gap_to ts) p.whole) d.0 d.1 in
    let parts : first ++ (gap ++ (last ++ behind)) ≡ (first ++ (gap ++ last)) ++ behind =
    ap (λ z. first ++ z) (sym (append_assoc gap last behind)) ∙ sym (append_assoc first (gap ++ last) behind) in
    let whole : length first + length last ≡ slice_size sl = sym (length-append first last) ∙ (ap length (take-append-drop ends.insert (slice_tokens sl)) ∙ slice-length sl sw) in
    record {
      put_in = first ++ (gap ++ last);
      ends = omega (arith, n, whole, p.before, p.gap, p.behind, p.within, length-append first (gap ++ last), length-append gap last, length-part ends.gap_from ends.gap_to ts);
      is = is ∙ (told ∙ ap (λ z. take ends.from ts ++ z) parts);
    }

module _ (f : ℕ → Token → Marks → Marks) where
  marks-length : (ps : List ℕ) (ts : List Token) → length (with_marks f ps ts) ≡ length ts
  marks-length ps [] = refl
  marks-length ps (Open k a m ∷ ts) = omega (arith, marks-length (k ∷ ps) ts)
  marks-length ps (Close ∷ ts) = omega (arith, marks-length (tail_of ps) ts)
  marks-length ps (Leaf k a m ∷ ts) = omega (arith, marks-length ps ts)
  marks-length ps (CodeUnit u m ∷ ts) = omega (arith, marks-length ps ts)

  -- other marks change the tokens that had them, one for one
  pub marked-changed : (ps : List ℕ) (from to : ℕ) (ts made : List Token) → from ≤ to → to ≤ length ts → made ≡ marked_in f ps from to ts → Changed ts made from to to
  marked-changed ps from to ts made h i is =
      let now = with_marks f (unclosed ps (take from ts)) (part from to ts) in
      record {
        put_in = now;
        ends = omega (arith, h, i, marks-length (unclosed ps (take from ts)) (part from to ts), length-part from to ts);
        is = is;
      }

  pub marked-size : (ps : List ℕ) (from to : ℕ) (ts made : List Token) → from ≤ to → to ≤ length ts → made ≡ marked_in f ps from to ts → length made ≡ length ts
  marked-size ps from to ts made h i is =
      let now = with_marks f (unclosed ps (take from ts)) (part from to ts) in
      omega (
        arith,
        h,
        i,
        ap length is,
        length-append (take from ts) (now ++ drop to ts),
        length-append now (drop to ts),
        marks-length (unclosed ps (take from ts)) (part from to ts),
        length-part from to ts,
        length-take from ts,
        length-drop to ts,
      )

-- where a node stands first, there is a token
pub first-within : (pos : ℕ) (ts : List Token) → IsSome (marks_first (drop pos ts)) → pos + 1 ≤ length ts
first-within zero [] h = absurd (cc)
first-within zero (t ∷ ts) h = omega arith
first-within (suc pos) [] h = absurd (cc)
first-within (suc pos) (t ∷ ts) h = omega (arith, first-within pos ts h)
