-- What the tests of a replace, in their order, say of its outcome.
use Rattle.std.specs.Prelude.{◌≡◌, ℕ, ◌+◌, ◌-◌, ◌≤◌, ◌<◌, ◌==◌, Bool, true, false, ◌&&◌, not, nat_le, List, [], ◌∷◌, length, Result, Ok, Err}
use Rattle.std.proofs.Common.{refl, ap, sym, ◌∙◌, subst, arith}
use Rattle.std.proofs.lemmas.Bool.{leb-true, le-leb, lt-leb, ne_eqb, and_from}
use Rattle.pm_tokens.specs.Tokens.{Token, Doc, with_tokens}
use Rattle.pm_node.specs.declared.node.Node.{Node}
use Rattle.pm_node.specs.Documents.{doc_with}
use Rattle.pm_node.specs.Changes.{Changed, Keeps}
use Rattle.pm_node.proofs.HoldLaws.{valid-holds, holds-place}
use Rattle.pm_tokens.specs.Schemas.{Schema, compatible, max_size, max_depth}
use Rattle.pm_tokens.specs.Scan.{Owned, plain, joins, depth_at, parts_pair, deepest, Balanced}
use Rattle.pm_tokens.specs.Faults.{Valid, fault_place}
use Rattle.pm_tokens.specs.Slices.{Slice, is_slice, slice_size, slice_tokens, spliced, depths_fit}
use Rattle.pm_tokens.proofs.PartLaws.{slice-is, slice-length}
use Rattle.pm_tokens.proofs.BalanceLaws.{balanced-whole}
use Rattle.pm_meaning.proofs.ReplaceLaws.{depths-of, of-depths}
use Rattle.pm_tokens.proofs.SpliceLaws.{spliced-plain, spliced-size}
use Rattle.pm_meaning.specs.declared.reason.Reason.{Reason}
use Rattle.pm_meaning.specs.declared.reason.Reason.TheVariants.{Range, Depth, Pair, Join, Large, Deep, NotInSchema}
use Rattle.pm_meaning.specs.Steps.{Step, Replace}
use Rattle.pm_meaning.specs.Known.{knows_step}
use Rattle.pm_meaning.specs.Outcomes.{unless, unless_fault, checked, in_order, parts_no_pair, and_unless, made, outcome}
use Rattle.pm_change.specs.Failing.{Answers}
use Rattle.pm_change.specs.declared.failed.Failed.{Failed}
use Rattle.pm_change.specs.declared.failed.Failed.TheVariants as failed
use Rattle.pm_build.specs.declared.refused.Refused.{Refused}
use Rattle.pm_build.specs.declared.refused.Refused.TheVariants as refused
use Rattle.pm_build.specs.Fed.{ForJoin}
use Rattle.pm_replace.specs.Splices.{failed_of, spliced_outcome}

pub passes : {A : Type 0} (b : Bool) (r : Reason) (x : Result A Reason) → b ≡ true → unless b r x ≡ x
passes true r x h = refl
passes false r x h = absurd (cc)

pub fails : {A : Type 0} (b : Bool) (r : Reason) (x : Result A Reason) → b ≡ false → unless b r x ≡ Err r
fails true r x h = absurd (cc)
fails false r x h = refl

-- ---- the check

pub too-large : (s : Schema) (d : Doc) → max_size s < length d.tokens → checked s d ≡ Err Large
too-large s d h = let e : nat_le (length d.tokens) (max_size s) ≡ false = lt-leb (length d.tokens) (max_size s) h in fails (nat_le (length d.tokens) (max_size s)) Large _ e

module _ (s : Schema) (d : Doc) (size : length d.tokens ≤ max_size s) where
  fits : nat_le (length d.tokens) (max_size s) ≡ true
  fits = le-leb (length d.tokens) (max_size s) size

  pub too-deep : (deepest 0 d.tokens ≤ max_depth → ⊥) → checked s d ≡ Err Deep
  too-deep h =
      let gt : max_depth < deepest 0 d.tokens = omega (arith, h) in
      let e : nat_le (deepest 0 d.tokens) max_depth ≡ false = lt-leb (deepest 0 d.tokens) max_depth gt in
      passes (nat_le (length d.tokens) (max_size s)) Large _ fits ∙ fails (nat_le (deepest 0 d.tokens) max_depth) Deep _ e

  pub by-place : deepest 0 d.tokens ≤ max_depth → checked s d ≡ unless_fault (fault_place s d) d
  by-place h = passes (nat_le (length d.tokens) (max_size s)) Large _ fits ∙ passes (nat_le (deepest 0 d.tokens) max_depth) Deep _ (le-leb (deepest 0 d.tokens) max_depth h)

-- where what is around a change stays without a fault, so does the document
pub stays-checked : (s : Schema) (n : Node) (before after : List Token) (from to new_to : ℕ) → Valid s (doc_with n before) → Changed before after from to new_to → Keeps s n.kind max_depth before after from to new_to
    → length after ≤ max_size s → checked s (doc_with n after) ≡ Ok (doc_with n after)
stays-checked s n before after from to new_to v c keep l =
    let d = doc_with n before in
    let h = keep c (valid-holds s d v) in
    by-place s (doc_with n after) l h.shallow ∙ ap (λ p. unless_fault p (doc_with n after)) (holds-place s d after v h)

-- ---- replace

module _ (s : Schema) (d : Doc) (from to : ℕ) (sl : Slice) (slice : is_slice sl ≡ true) where
  pub out-of-range : (from ≤ to → to ≤ length d.tokens → ⊥) → made s (Replace from to sl false) d ≡ Err Range
  out-of-range h =
      let e : in_order (from ∷ to ∷ []) (length d.tokens) ≡ false = by (nat_le from to) (nat_le to (length d.tokens)) refl refl in
      passes (is_slice sl) Range _ slice ∙ fails (in_order (from ∷ to ∷ []) (length d.tokens)) Range _ e
    where
      by : (a b : Bool) → nat_le from to ≡ a → nat_le to (length d.tokens) ≡ b → (nat_le from to && nat_le to (length d.tokens)) ≡ false
      by true true p q = absurd (h (leb-true from to p) (leb-true to (length d.tokens) q))
      by true false p q = rw (p, q) refl
      by false b p q = rw p refl

  module _ (h : from ≤ to) (i : to ≤ length d.tokens) where
    in-range : in_order (from ∷ to ∷ []) (length d.tokens) ≡ true
    in-range = and_from (nat_le from to) (nat_le to (length d.tokens)) (le-leb from to h) (le-leb to (length d.tokens) i)

    to-depths : made s (Replace from to sl false) d ≡ unless (depths_fit d.tokens from to sl) Depth
        (unless (parts_no_pair d.tokens (from ∷ to ∷ [])) Pair
        (unless (joins (compatible s) [] (spliced d.tokens from to sl)) Join
        (checked s (with_tokens d (plain (spliced d.tokens from to sl))))))
    to-depths = passes (is_slice sl) Range _ slice ∙ passes (in_order (from ∷ to ∷ []) (length d.tokens)) Range _ in-range

    pub unfit-start : depth_at d.tokens from < sl.open_start → made s (Replace from to sl false) d ≡ Err Depth
    unfit-start g =
        let e : nat_le sl.open_start (depth_at d.tokens from) ≡ false = lt-leb sl.open_start (depth_at d.tokens from) g in
        to-depths ∙ fails (depths_fit d.tokens from to sl) Depth _ (ap (λ z. z && (depth_at d.tokens from + sl.open_end == depth_at d.tokens to + sl.open_start)) e)

    pub unfit-end : (depth_at d.tokens from + sl.open_end ≡ depth_at d.tokens to + sl.open_start → ⊥) → made s (Replace from to sl false) d ≡ Err Depth
    unfit-end g = to-depths ∙ fails (depths_fit d.tokens from to sl) Depth _ (second (nat_le sl.open_start (depth_at d.tokens from)) (ne_eqb (depth_at d.tokens from + sl.open_end) (depth_at d.tokens to + sl.open_start) g))
      where
        second : (a : Bool) {b : Bool} → b ≡ false → (a && b) ≡ false
        second true e = e
        second false e = refl

    module _ (depths : depths_fit d.tokens from to sl ≡ true) where
      to-pairs : made s (Replace from to sl false) d ≡ unless (parts_no_pair d.tokens (from ∷ to ∷ [])) Pair
          (unless (joins (compatible s) [] (spliced d.tokens from to sl)) Join
          (checked s (with_tokens d (plain (spliced d.tokens from to sl)))))
      to-pairs = to-depths ∙ passes (depths_fit d.tokens from to sl) Depth _ depths

      pub pair-from : parts_pair d.tokens from ≡ true → made s (Replace from to sl false) d ≡ Err Pair
      pair-from g = to-pairs ∙ fails (parts_no_pair d.tokens (from ∷ to ∷ [])) Pair _ (ap (λ z. not z && (not (parts_pair d.tokens to) && true)) g)

      pub pair-to : parts_pair d.tokens to ≡ true → made s (Replace from to sl false) d ≡ Err Pair
      pair-to g = to-pairs ∙ fails (parts_no_pair d.tokens (from ∷ to ∷ [])) Pair _ (ap (λ z. not (parts_pair d.tokens from) && (not z && true)) g ∙ last (not (parts_pair d.tokens from)))
        where
          last : (a : Bool) → (a && false) ≡ false
          last true = refl
          last false = refl

      module _ (p : parts_pair d.tokens from ≡ false) (q : parts_pair d.tokens to ≡ false) where
        pub to-joins : made s (Replace from to sl false) d ≡ spliced_outcome s d (spliced d.tokens from to sl)
        to-joins =
            let e : parts_no_pair d.tokens (from ∷ to ∷ []) ≡ true = and_from (not (parts_pair d.tokens from)) (not (parts_pair d.tokens to) && true) (ap not p) (and_from (not (parts_pair d.tokens to)) true (ap not q) refl) in
            to-pairs ∙ passes (parts_no_pair d.tokens (from ∷ to ∷ [])) Pair _ e

        pub then-checked : joins (compatible s) [] (spliced d.tokens from to sl) ≡ true → made s (Replace from to sl false) d ≡ checked s (with_tokens d (plain (spliced d.tokens from to sl)))
        then-checked g = to-joins ∙ passes (joins (compatible s) [] (spliced d.tokens from to sl)) Join _ g

-- the depths fit, by what the code reads of them
pub fit-depths : (ts : List Token) (from to : ℕ) (sl : Slice) (left right start end : ℕ)
    → left ≡ depth_at ts from → right ≡ depth_at ts to → start ≡ sl.open_start → end ≡ sl.open_end
    → start ≤ left → left + end ≡ right + start → depths_fit ts from to sl ≡ true
fit-depths ts from to sl left right start end e f g h i j = of-depths ts from to sl (omega (arith, e, g, i)) (omega (arith, e, f, g, h, j))

-- ---- the spliced list

module _ (s : Schema) (d : Doc) (piece : List Owned) where
  -- a refusal is the outcome's
  pub refused-answers : (e : Refused) (f : Failed Reason) → ForJoin (joins (compatible s) [] piece ≡ false) e → f ≡ failed_of e → Answers (spliced_outcome s d piece) (Err f)
  refused-answers e f h q = subst (λ z. Answers (spliced_outcome s d piece) (Err z)) (sym q) (by e h)
    where
      by : (e : Refused) → ForJoin (joins (compatible s) [] piece ≡ false) e → Answers (spliced_outcome s d piece) (Err (failed_of e))
      by refused.Join h = fails (joins (compatible s) [] piece) Join _ h
      by refused.NoMemory h = tt

  -- a list that joins and is too large
  pub large-answers : joins (compatible s) [] piece ≡ true → max_size s < length (plain piece) → spliced_outcome s d piece ≡ Err Large
  large-answers g h = passes (joins (compatible s) [] piece) Join _ g ∙ too-large s (with_tokens d (plain piece)) h

  -- a list that joins is what the check of it answers
  pub made-answers : (ts : List Token) (r : Result Doc (Failed Reason)) → (joins (compatible s) [] piece ≡ true) × (ts ≡ plain piece)
      → Answers (checked s (with_tokens d ts)) r → Answers (spliced_outcome s d piece) r
  made-answers ts r g h =
      subst (λ z. Answers z r) (ap (λ z. checked s (with_tokens d z)) g.1 ∙ sym (passes (joins (compatible s) [] piece) Join _ g.0)) h

-- the outcome, where the tests before the join are passed
pub joined-answers : (s : Schema) (d : Doc) (from to : ℕ) (sl : Slice) (r : Result Doc (Failed Reason)) → is_slice sl ≡ true → from ≤ to → to ≤ length d.tokens
    → depths_fit d.tokens from to sl ≡ true → parts_pair d.tokens from ≡ false → parts_pair d.tokens to ≡ false
    → Answers (spliced_outcome s d (spliced d.tokens from to sl)) r → Answers (made s (Replace from to sl false) d) r
joined-answers s d from to sl r w h i f p q a = subst (λ z. Answers z r) (sym (to-joins s d from to sl w h i f p q)) a

-- the size of what a splice gives
pub large-splice : (s : Schema) (ts : List Token) (from to : ℕ) (sl : Slice) → Balanced ts → is_slice sl ≡ true → from ≤ to → to ≤ length ts → depths_fit ts from to sl ≡ true
    → length (plain (spliced ts from to sl)) + (to - from) ≡ length ts + slice_size sl
large-splice s ts from to sl b w h i e =
    let d = depths-of ts from to sl e in
    spliced-size (compatible s) ts from to sl (balanced-whole b) (slice-is sl w) h i d.0 d.1

-- what a splice changes: the range, for the slice's own tokens
pub spliced-changed : (s : Schema) (ts made : List Token) (from to new_to : ℕ) (sl : Slice) → Balanced ts → is_slice sl ≡ true → from ≤ to → to ≤ length ts → depths_fit ts from to sl ≡ true
    → made ≡ plain (spliced ts from to sl) → new_to ≡ from + slice_size sl → Changed ts made from to new_to
spliced-changed s ts made from to new_to sl b w h i e is n =
    let d = depths-of ts from to sl e in
    record {
      put_in = slice_tokens sl;
      ends = omega (arith, n, slice-length sl (slice-is sl w));
      is = is ∙ spliced-plain (compatible s) ts from to sl (balanced-whole b) (slice-is sl w) h i d.0 d.1;
    }

-- ---- what the schema knows

module _ (s : Schema) (c : Step) (d : Doc) where
  -- the outcome is a document where the schema knows the step, and what is made is this document
  pub known-answers : (next : Doc) → knows_step s c ≡ true → made s c d ≡ Ok next → outcome s c d ≡ Ok next
  known-answers next k h = rw (h, k) refl

  pub unknown-answers : (next : Doc) → knows_step s c ≡ false → made s c d ≡ Ok next → outcome s c d ≡ Err NotInSchema
  unknown-answers next k h = rw (h, k) refl

  -- a reason why nothing is made is the outcome's
  pub failed-answers : (e : Failed Reason) → Answers (made s c d) (Err e) → Answers (outcome s c d) (Err e)
  failed-answers (failed.Reason r) h = ap (and_unless (knows_step s c) NotInSchema) h
  failed-answers failed.NoMemory h = tt
