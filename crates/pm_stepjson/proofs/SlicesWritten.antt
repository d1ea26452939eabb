-- When the content of a slice can be written: its own tokens can, no pair of them is broken, and its open nodes are known.
use Rattle.std.specs.Prelude.{◌≡◌, ℕ, ◌+◌, ◌≤◌, ◌==◌, Bool, true, false, ◌&&◌, not, cond, nat_lt, List, [], ◌∷◌, ◌++◌, length, map, take, drop, Option, Some, None}
use Rattle.std.specs.List.{list_all}
use Rattle.std.proofs.lemmas.Bool.{and_parts, and_from}
use Rattle.std.proofs.Common.{refl, sym, ◌∙◌, subst, arith}
use Rattle.pm_marks.specs.declared.mark.Mark.{Mark}
use Rattle.pm_tokens.specs.Tokens.{Attrs, Marks, Token, Open, Close, Leaf, CodeUnit}
use Rattle.pm_tokens.specs.Schemas.{Declared, fit_declared, fit_type, node_attrs, mark_attrs}
use Rattle.pm_tokens.specs.Scan.{unclosed, are_opens, are_closes, ends_high}
use Rattle.pm_tokens.specs.Marks.{is_set, have_attrs}
use Rattle.pm_tokens.specs.Faults.{first_broken, high_of}
use Rattle.pm_tokens.specs.Slices.{Slice, content_end, slice_tokens}
use Rattle.pm_tokens.proofs.PartLaws.{IsSlice, slice-split}
use Rattle.pm_tokens.proofs.DepthLaws.{depths-bound}
use Rattle.pm_schema.specs.declared.spec.SchemaSpec.{SchemaSpec}
use Rattle.pm_schema.specs.Types.{node_at, mark_at, declared, fit_attrs}
use Rattle.pm_schema.specs.Documents.{documents_of}
use Rattle.pm_docjson.specs.Writable.{mark_fits, marks_fit, type_fits, is_writable, are_writable, AreWritable}
use Rattle.pm_docjson.proofs.Pairs.{joined}
use Rattle.pm_meaning.specs.Known.{knows_open, knows_slice}
use Rattle.pm_meaning.proofs.LooseLaws.{Paired, paired-token}
use Rattle.pm_meaning.proofs.MixedLaws.{paired-rest}
use Rattle.pm_meaning.proofs.PairedLaws.{paired-front}
use Rattle.pm_stepjson.specs.Writable.{IsNested}
use Rattle.pm_stepjson.proofs.Depths.{Low, low-both, low-under, low-opens, low-closes, low-end, opened}

-- ---- pairs

pub broken-none : (at : ℕ) (high : Option Marks) (ts : List Token) → Paired high ts → first_broken at high ts ≡ None
broken-none at high [] p = refl
broken-none at high (t ∷ ts) p = let q = paired-token high t ts p in joined at high t ts q.0 (broken-none (at + 1) (high_of t) ts q.1)

-- after a front that ends in no half of a pair
pub paired-behind : (xs zs : List Token) → ends_high xs ≡ false → Paired None (xs ++ zs) → Paired None zs
paired-behind [] zs e h = h
paired-behind (x ∷ xs) zs e h = paired-rest x None xs zs e h

-- another end after such a front
pub paired-end : (xs ys zs : List Token) → ends_high xs ≡ false → Paired None (xs ++ zs) → Paired None ys → Paired None (xs ++ ys)
paired-end [] ys zs e p q = q
paired-end (x ∷ xs) ys zs e p q = paired-front x None xs ys zs e p q

pub closes-paired : (high : Option Marks) (c : List Token) → are_closes c ≡ true → Paired high c
closes-paired high [] h = tt
closes-paired high (Close ∷ c) h = closes-paired None c h
closes-paired high (Open k a m ∷ c) h = absurd (cc)
closes-paired high (Leaf k a m ∷ c) h = absurd (cc)
closes-paired high (CodeUnit u m ∷ c) h = absurd (cc)

opens-paired : (o ts : List Token) → are_opens o ≡ true → Paired None ts → Paired None (o ++ ts)
opens-paired [] ts h p = p
opens-paired (Open k a m ∷ o) ts h p = opens-paired o ts h p
opens-paired (Close ∷ o) ts h p = absurd (cc)
opens-paired (Leaf k a m ∷ o) ts h p = absurd (cc)
opens-paired (CodeUnit u m ∷ o) ts h p = absurd (cc)

-- ---- tokens

-- values that fit a type, where there is such a type
pub fit-where : (there : Bool) (as' : List Declared) (values : Attrs) → fit_type (cond there (Some as') None) values ≡ (there && fit_declared as' values)
fit-where true as' values = refl
fit-where false as' values = refl

module _ (s : SchemaSpec) where
  -- a mark that the schema has, and a type with attributes
  pub mark-as : (m : Mark Attrs) → mark_attrs (documents_of s) m.kind m.attrs ≡ mark_fits s m
  unfolding documents_of
  mark-as m = fit-where (nat_lt m.kind (length s.marks)) (map declared (mark_at s m.kind).attrs) m.attrs

  pub type-as : (k : ℕ) (a : Attrs) → node_attrs (documents_of s) k a ≡ (nat_lt k (length s.nodes) && fit_attrs (node_at s k).attrs a)
  unfolding documents_of
  type-as k a = fit-where (nat_lt k (length s.nodes)) (map declared (node_at s k).attrs) a

  abbrev Can : List Token → Type 0
  Can ts = are_writable s ts ≡ true

  pub can-front : (xs ys : List Token) → Can (xs ++ ys) → Can xs
  can-front [] ys h = refl
  can-front (x ∷ xs) ys h =
      let b = and_parts (is_writable s x) (are_writable s (xs ++ ys)) h in
      and_from (is_writable s x) (are_writable s xs) b.0 (can-front xs ys b.1)

  pub can-behind : (xs ys : List Token) → Can (xs ++ ys) → Can ys
  can-behind [] ys h = h
  can-behind (x ∷ xs) ys h = can-behind xs ys (and_parts (is_writable s x) (are_writable s (xs ++ ys)) h).1

  pub can-both : (xs ys : List Token) → Can xs → Can ys → Can (xs ++ ys)
  can-both [] ys h k = k
  can-both (x ∷ xs) ys h k =
      let b = and_parts (is_writable s x) (are_writable s xs) h in
      and_from (is_writable s x) (are_writable s (xs ++ ys)) b.0 (can-both xs ys b.1 k)

  closes-can : (c : List Token) → are_closes c ≡ true → Can c
  closes-can [] h = refl
  closes-can (Close ∷ c) h = closes-can c h
  closes-can (Open k a m ∷ c) h = absurd (cc)
  closes-can (Leaf k a m ∷ c) h = absurd (cc)
  closes-can (CodeUnit u m ∷ c) h = absurd (cc)

  known-marks : (ms : Marks) → have_attrs (documents_of s) ms ≡ true → list_all (mark_fits s) ms ≡ true
  known-marks [] h = refl
  known-marks (m ∷ ms) h =
      let p = and_parts (mark_attrs (documents_of s) m.kind m.attrs) (have_attrs (documents_of s) ms) h in
      and_from (mark_fits s m) (list_all (mark_fits s) ms) (sym (mark-as m) ∙ p.0) (known-marks ms p.1)

  known-type : (k : ℕ) (a : Attrs) → node_attrs (documents_of s) k a ≡ true → not (k == (documents_of s).text) ≡ true → type_fits s k a ≡ true
  known-type k a h no_text =
      let p = and_parts (nat_lt k (length s.nodes)) (fit_attrs (node_at s k).attrs a) (sym (type-as k a) ∙ h) in
      and_from (nat_lt k (length s.nodes)) (not (k == (documents_of s).text) && fit_attrs (node_at s k).attrs a) p.0
      (and_from (not (k == (documents_of s).text)) (fit_attrs (node_at s k).attrs a) no_text p.1)

  -- opens that the schema knows
  opens-can : (o : List Token) → list_all (knows_open (documents_of s)) o ≡ true → Can o
  opens-can [] h = refl
  opens-can (Open k a m ∷ o) h =
      let d = documents_of s in
      let b = and_parts (knows_open d (Open k a m)) (list_all (knows_open d) o) h in
      let x = and_parts (node_attrs d k a && (not (k == d.text) && not (d.is_leaf k))) (have_attrs d m && is_set d m) b.0 in
      let y = and_parts (node_attrs d k a) (not (k == d.text) && not (d.is_leaf k)) x.0 in
      let z = and_parts (not (k == d.text)) (not (d.is_leaf k)) y.1 in
      let w = and_parts (have_attrs d m) (is_set d m) x.1 in
      and_from (is_writable s (Open k a m)) (are_writable s o)
      (and_from (type_fits s k a) (not (d.is_leaf k) && marks_fit s m) (known-type k a y.0 z.0)
      (and_from (not (d.is_leaf k)) (marks_fit s m) z.1 (and_from (list_all (mark_fits s) m) (is_set d m) (known-marks m w.0) w.1)))
      (opens-can o b.1)
  opens-can (Close ∷ o) h = absurd (cc)
  opens-can (Leaf k a m ∷ o) h = absurd (cc)
  opens-can (CodeUnit u m ∷ o) h = absurd (cc)

  -- ---- slices

  module _ (sl : Slice) (w : IsSlice sl) where
    abbrev o : List Token
    o = take sl.open_start sl.content

    abbrev m : List Token
    m = slice_tokens sl

    abbrev pub ends : List Token
    ends = drop (content_end sl) sl.content

    -- the content can be written where its own tokens can
    pub slice-can : knows_slice (documents_of s) sl ≡ true → Can m → Paired None (m ++ ends) → AreWritable s sl.content
    slice-can k h p =
        let e = (slice-split sl w).is in
        record {
          tokens = subst Can (sym e) (can-both o (m ++ ends) (opens-can o k) (can-both m ends h (closes-can ends w.closes)));
          pairs = subst (λ z. first_broken 1 None z ≡ None) (sym e) (broken-none 1 None (o ++ (m ++ ends)) (opens-paired o (m ++ ends) w.opens p));
        }

    -- and nests no deeper than where its tokens stand
    pub slice-low : (t : List ℕ) → sl.open_start ≤ length t → Low 48 t m → IsNested 48 sl
    slice-low t h l =
        let e = (slice-split sl w).is in
        let n : length o ≡ sl.open_start = (slice-split sl w).at_from in
        let top : length t ≤ 48 = l 0 in
        let st = unclosed [] o in
        let sn : length st ≡ length o = omega (arith, opened [] o w.opens) in
        let lm : Low 48 st m = low-under 48 st t m (omega (arith, sn, n, h)) l in
        let all : Low 48 [] (o ++ (m ++ ends)) =
        low-both 48 [] o (m ++ ends) (low-opens 48 [] o w.opens (omega (arith, n, h, top)))
        (low-both 48 st m ends lm (low-closes 48 (unclosed st m) ends w.closes (low-end 48 st m lm))) in
        record { whole = w.whole; deep = depths-bound 48 sl.content (subst (λ z. Low 48 [] z) (sym e) all) }
