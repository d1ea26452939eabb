-- Each step that applies to a valid document can be written and is read back.
use Rattle.std.specs.Prelude.{◌≡◌, ℕ, ◌≤◌, ◌<◌, ◌^◌, Bool, true, false, ◌&&◌, List, [], ◌∷◌, ◌++◌, length, take, drop, None, Ok}
use Rattle.std.proofs.lemmas.List.{take-append-drop}
use Rattle.std.proofs.Common.{ap, sym, ◌∙◌, subst, arith, append_assoc}
use Rattle.pm_marks.specs.declared.mark.Mark.{Mark}
use Rattle.pm_tokens.specs.Tokens.{Attrs, Token, Doc}
use Rattle.pm_tokens.specs.Scan.{unclosed, part, ends_high, starts_low}
use Rattle.pm_tokens.specs.Schemas.{max_size}
use Rattle.pm_tokens.specs.Faults.{Valid}
use Rattle.pm_tokens.specs.Slices.{Slice, slice_tokens}
use Rattle.pm_tokens.proofs.PartLaws.{split-front, split-rest, Pieces, pieces-at, pieces-gap, pieces-last}
use Rattle.pm_tokens.proofs.PairLaws.{no-right, ends-part, before-gap, after-gap}
use Rattle.pm_tokens.proofs.ScanLaws.{whole-of, unclosed-whole}
use Rattle.pm_tokens.proofs.SchemaLaws.{max-size-small}
use Rattle.pm_tokens.proofs.ValidLaws.{pair-free, valid-tokens}
use Rattle.pm_schema.specs.declared.spec.SchemaSpec.{SchemaSpec}
use Rattle.pm_schema.specs.Documents.{documents_of}
use Rattle.pm_docjson.specs.Writable.{mark_fits, are_writable, AreWritable}
use Rattle.pm_docjson.proofs.Writables.{content-writable}
use Rattle.pm_meaning.specs.Known.{knows_mark}
use Rattle.pm_meaning.specs.Outcomes.{outcome}
use Rattle.pm_meaning.specs.Steps.{Step, Replace, ReplaceAround, AddMark, RemoveMark, AddNodeMark, RemoveNodeMark, Attr, DocAttr}
use Rattle.pm_meaning.proofs.LooseLaws.{Paired}
use Rattle.pm_meaning.proofs.OutcomeLaws.{made-ok}
use Rattle.pm_meaning.proofs.PairedLaws.{paired-of}
use Rattle.pm_meaning.proofs.ReplaceLaws as rep
use Rattle.pm_meaning.proofs.AroundLaws as aro
use Rattle.pm_meaning.proofs.StepLaws.{good, within}
use Rattle.pm_stepjson.specs.Writable.{IsStorable}
use Rattle.pm_stepjson.proofs.Depths.{Low, low-front, low-behind, low-both}
use Rattle.pm_stepjson.proofs.ValueDepths.{attr-shallow, doc-attr-shallow}
use Rattle.pm_stepjson.proofs.SlicesWritten.{mark-as, ends, paired-behind, paired-end, closes-paired, can-front, can-behind, can-both, slice-can, slice-low}

-- a mark that the schema knows can be written
mark-can : (s : SchemaSpec) (m : Mark Attrs) → knows_mark (documents_of s) m ≡ true → mark_fits s m ≡ true
mark-can s m h = sym (mark-as s m) ∙ h

-- a valid document has at most a million tokens, whatever the version
sized : (s : SchemaSpec) (d : Doc) → Valid (documents_of s) d → length d.tokens ≤ 1000000
sized s d v =
    let l : length d.tokens ≤ max_size (documents_of s) = v.size in
    let m = max-size-small (documents_of s) in
    omega (arith, l, m)

-- a position of a valid document that parts no pair
free-at : (s : SchemaSpec) (d : Doc) (p : ℕ) → Valid (documents_of s) d → (ends_high (take p d.tokens) && starts_low (drop p d.tokens)) ≡ false
    → (ends_high (take p d.tokens) ≡ false) × (starts_low (drop p d.tokens) ≡ false)
free-at s d p v h = pair-free (documents_of s) d (take p d.tokens) (drop p d.tokens) v (sym (take-append-drop p d.tokens)) h

module _ (s : SchemaSpec) (from to : ℕ) (sl : Slice) (structure : Bool) (d next : Doc) (v : Valid (documents_of s) d) (h : outcome (documents_of s) (Replace from to sl structure) d ≡ Ok next) where
  r : rep.Replaced (documents_of s) from to sl d next
  r = rep.replaced (documents_of s) from to sl structure d next h

  abbrev a : List Token
  a = take from d.tokens

  abbrev b : List Token
  b = drop to d.tokens

  abbrev m : List Token
  m = slice_tokens sl

  vn : Valid (documents_of s) next
  vn = good (documents_of s) (Replace from to sl structure) d next v h

  is : next.tokens ≡ a ++ (m ++ b)
  is = ap (λ z. z.tokens) (rep.next-is (documents_of s) from to sl d next v r)

  written : AreWritable s sl.content
  written =
      let w = content-writable s next vn in
      let cm = can-front s m b (can-behind s a (m ++ b) (subst (λ z. AreWritable s z) is w).tokens) in
      let p : Paired None (a ++ (m ++ b)) = subst (λ z. Paired None z) is (paired-of (documents_of s) (next.kind ∷ []) None next.tokens (valid-tokens (documents_of s) next vn)) in
      let before = (free-at s d from v r.pair_from).0 in
      let behind = (free-at s d to v r.pair_to).1 in
      let ended = (pair-free (documents_of s) next (a ++ m) b vn (is ∙ sym (append_assoc a m b)) (no-right (a ++ m) b behind)).0 in
      slice-can s sl r.slice (made-ok (documents_of s) (Replace from to sl structure) d next h).0 cm
      (paired-end m (ends s sl r.slice) b (ends-part a m ended) (paired-behind a (m ++ b) before p) (closes-paired None (ends s sl r.slice) r.slice.closes))

  pub replace-storable : IsStorable s (Replace from to sl structure)
  replace-storable =
      let n = sized s d v in
      let low : Low 48 (unclosed [] a) (m ++ b) = low-behind 48 [] a (m ++ b) (subst (λ z. Low 48 [] z) is vn.depth) in
      record {
        written = written;
        counts = (omega (arith, n, r.ordered, r.within), omega (arith, n, r.within));
        nested = slice-low s sl r.slice (unclosed [] a) r.start_fits (low-front 48 (unclosed [] a) m b low);
      }

module _ (s : SchemaSpec) (from to gf gt : ℕ) (sl : Slice) (insert : ℕ) (structure : Bool) (d next : Doc) (v : Valid (documents_of s) d)
    (h : outcome (documents_of s) (ReplaceAround from to gf gt sl insert structure) d ≡ Ok next) where
  q : aro.Moved (documents_of s) from to gf gt sl insert d next
  q = aro.moved (documents_of s) from to gf gt sl insert structure d next h

  abbrev a₁ : List Token
  a₁ = take from d.tokens

  abbrev x₁ : List Token
  x₁ = part from gf d.tokens

  abbrev g : List Token
  g = part gf gt d.tokens

  abbrev y₁ : List Token
  y₁ = part gt to d.tokens

  abbrev b₁ : List Token
  b₁ = drop to d.tokens

  abbrev all : List Token
  all = slice_tokens sl

  abbrev s₁ : List Token
  s₁ = take insert all

  abbrev s₂ : List Token
  s₂ = drop insert all

  un : Valid (documents_of s) next
  un = good (documents_of s) (ReplaceAround from to gf gt sl insert structure) d next v h

  are : next.tokens ≡ a₁ ++ (s₁ ++ (g ++ (s₂ ++ b₁)))
  are = ap (λ z. z.tokens) (aro.around-next-is (documents_of s) from to gf gt sl insert structure d next v q)

  both : s₁ ++ s₂ ≡ all
  both = take-append-drop insert all

  e₁ : next.tokens ≡ (a₁ ++ s₁) ++ (g ++ (s₂ ++ b₁))
  e₁ = are ∙ sym (append_assoc a₁ s₁ (g ++ (s₂ ++ b₁)))

  e₂ : next.tokens ≡ ((a₁ ++ s₁) ++ g) ++ (s₂ ++ b₁)
  e₂ = e₁ ∙ sym (append_assoc (a₁ ++ s₁) g (s₂ ++ b₁))

  e₃ : next.tokens ≡ (((a₁ ++ s₁) ++ g) ++ s₂) ++ b₁
  e₃ = e₂ ∙ sym (append_assoc ((a₁ ++ s₁) ++ g) s₂ b₁)

  old : Pieces d.tokens a₁ x₁ g y₁ b₁ from gf gt to
  old = pieces-at d.tokens from gf gt to q.ordered q.gap_ordered q.end_ordered q.within

  before : ends_high a₁ ≡ false
  before = (free-at s d from v q.pair_from).0

  behind : starts_low b₁ ≡ false
  behind = (free-at s d to v q.pair_to).1

  gap_starts : starts_low (g ++ (y₁ ++ b₁)) ≡ false
  gap_starts = sym (ap starts_low (split-rest (pieces-gap old))) ∙ (free-at s d gf v q.pair_gap_from).1

  gap_ends : ends_high ((a₁ ++ x₁) ++ g) ≡ false
  gap_ends = sym (ap ends_high (split-front (pieces-last old))) ∙ (free-at s d gt v q.pair_gap_to).0

  f₁ : ends_high (a₁ ++ s₁) ≡ false
  f₁ = (pair-free (documents_of s) next (a₁ ++ s₁) (g ++ (s₂ ++ b₁)) un e₁ (before-gap a₁ s₁ g s₂ y₁ b₁ before behind q.pair_insert gap_starts)).0

  f₂ : ends_high ((a₁ ++ s₁) ++ g) ≡ false
  f₂ = (pair-free (documents_of s) next ((a₁ ++ s₁) ++ g) (s₂ ++ b₁) un e₂ (after-gap a₁ s₁ g s₂ x₁ b₁ before behind q.pair_insert gap_ends)).0

  f₃ : ends_high (((a₁ ++ s₁) ++ g) ++ s₂) ≡ false
  f₃ = (pair-free (documents_of s) next (((a₁ ++ s₁) ++ g) ++ s₂) b₁ un e₃ (no-right (((a₁ ++ s₁) ++ g) ++ s₂) b₁ behind)).0

  pairs : Paired None (all ++ ends s sl q.slice)
  pairs =
      let c = ends s sl q.slice in
      let p = paired-of (documents_of s) (next.kind ∷ []) None next.tokens (valid-tokens (documents_of s) next un) in
      let p₁ = paired-behind a₁ (s₁ ++ (g ++ (s₂ ++ b₁))) before (subst (λ z. Paired None z) are p) in
      let p₂ = paired-behind ((a₁ ++ s₁) ++ g) (s₂ ++ b₁) f₂ (subst (λ z. Paired None z) e₂ p) in
      let p₃ = paired-end s₂ c b₁ (ends-part ((a₁ ++ s₁) ++ g) s₂ f₃) p₂ (closes-paired None c q.slice.closes) in
      let p₄ = paired-end s₁ (s₂ ++ c) (g ++ (s₂ ++ b₁)) (ends-part a₁ s₁ f₁) p₁ p₃ in
      subst (λ z. Paired None (z ++ c)) both (subst (λ z. Paired None z) (sym (append_assoc s₁ s₂ c)) p₄)

  around-written : AreWritable s sl.content
  around-written =
      let w = (subst (λ z. AreWritable s z) are (content-writable s next un)).tokens in
      let w₁ = can-behind s a₁ (s₁ ++ (g ++ (s₂ ++ b₁))) w in
      let w₂ = can-front s s₂ b₁ (can-behind s g (s₂ ++ b₁) (can-behind s s₁ (g ++ (s₂ ++ b₁)) w₁)) in
      let cm = subst (λ z. are_writable s z ≡ true) both (can-both s s₁ s₂ (can-front s s₁ (g ++ (s₂ ++ b₁)) w₁) w₂) in
      slice-can s sl q.slice (made-ok (documents_of s) (ReplaceAround from to gf gt sl insert structure) d next h).0 cm pairs

  pub around-storable : IsStorable s (ReplaceAround from to gf gt sl insert structure)
  around-storable =
      let n = sized s d v in
      let k = sized s next un in
      let l = aro.around-length (documents_of s) from to gf gt sl insert structure d next v q in
      let t = unclosed [] a₁ in
      let low : Low 48 t (s₁ ++ (g ++ (s₂ ++ b₁))) = low-behind 48 [] a₁ (s₁ ++ (g ++ (s₂ ++ b₁))) (subst (λ z. Low 48 [] z) are un.depth) in
      let low₂ : Low 48 (unclosed t s₁) (s₂ ++ b₁) =
      subst (λ z. Low 48 z (s₂ ++ b₁)) (unclosed-whole (unclosed t s₁) g (whole-of g q.gap))
      (low-behind 48 (unclosed t s₁) g (s₂ ++ b₁) (low-behind 48 t s₁ (g ++ (s₂ ++ b₁)) low)) in
      let lm = low-both 48 t s₁ s₂ (low-front 48 t s₁ (g ++ (s₂ ++ b₁)) low) (low-front 48 (unclosed t s₁) s₂ b₁ low₂) in
      record {
        written = around-written;
        counts = (
          omega (arith, n, q.ordered, q.gap_ordered, q.end_ordered, q.within),
          omega (arith, n, q.within),
          omega (arith, n, q.gap_ordered, q.end_ordered, q.within),
          omega (arith, n, q.end_ordered, q.within),
          omega (arith, n, k, l, q.inserted, q.ordered, q.gap_ordered, q.end_ordered, q.within),
        );
        nested = slice-low s sl q.slice t q.start_fits (subst (λ z. Low 48 t z) both lm);
      }

-- a range, and a position, within a valid document
counts-range : (d : Doc) (from to : ℕ) → length d.tokens ≤ 1000000 → (from ≤ to) × (to ≤ length d.tokens) → (from < 2 ^ 32) × (to < 2 ^ 32)
counts-range d from to n h = (omega (arith, n, h.0, h.1), omega (arith, n, h.1))

pub applied-storable : (s : SchemaSpec) (step : Step) (d next : Doc) → Valid (documents_of s) d → outcome (documents_of s) step d ≡ Ok next → IsStorable s step
applied-storable s (Replace from to sl structure) d next v h = replace-storable s from to sl structure d next v h
applied-storable s (ReplaceAround from to gf gt sl insert structure) d next v h = around-storable s from to gf gt sl insert structure d next v h
applied-storable s (AddMark from to mark) d next v h = record {
  written = mark-can s mark (made-ok (documents_of s) (AddMark from to mark) d next h).0;
  counts = counts-range d from to (sized s d v) (within (documents_of s) (AddMark from to mark) d next v h);
  nested = tt;
}
applied-storable s (RemoveMark from to mark) d next v h = record {
  written = mark-can s mark (made-ok (documents_of s) (RemoveMark from to mark) d next h).0;
  counts = counts-range d from to (sized s d v) (within (documents_of s) (RemoveMark from to mark) d next v h);
  nested = tt;
}
applied-storable s (AddNodeMark p mark) d next v h =
    let n = sized s d v in
    let w : p ≤ length d.tokens = within (documents_of s) (AddNodeMark p mark) d next v h in
    record { written = mark-can s mark (made-ok (documents_of s) (AddNodeMark p mark) d next h).0; counts = omega (arith, n, w); nested = tt }
applied-storable s (RemoveNodeMark p mark) d next v h =
    let n = sized s d v in
    let w : p ≤ length d.tokens = within (documents_of s) (RemoveNodeMark p mark) d next v h in
    record { written = mark-can s mark (made-ok (documents_of s) (RemoveNodeMark p mark) d next h).0; counts = omega (arith, n, w); nested = tt }
applied-storable s (Attr p name value) d next v h =
    let n = sized s d v in
    let w : p ≤ length d.tokens = within (documents_of s) (Attr p name value) d next v h in
    record { written = attr-shallow (documents_of s) p name value d next v h; counts = omega (arith, n, w); nested = tt }
applied-storable s (DocAttr name value) d next v h = record { written = doc-attr-shallow (documents_of s) name value d next v h; counts = tt; nested = tt }
