-- A valid document whose top node has the body of its type can be written.
use Rattle.std.proofs.Common.{◌≡◌, ℕ, ◌+◌, ◌<◌, List, [], ◌∷◌, ◌++◌, length, Bool, true, ◌&&◌, not, ◌==◌, nat_lt, cond, refl, ap, sym, subst, ◌∙◌, arith}
use Rattle.std.specs.Prelude.{Option, Some, None}
use Rattle.std.specs.List.{list_all}
use Rattle.pm_tokens.specs.Tokens.{Attrs, Marks, Token, Open, Close, Leaf, CodeUnit, Doc}
use Rattle.pm_tokens.specs.Schemas.{node_attrs, mark_attrs}
use Rattle.pm_tokens.specs.Scan.{head_of}
use Rattle.pm_tokens.specs.Marks.{is_set, are_allowed, have_attrs}
use Rattle.pm_tokens.specs.Kids.{kids}
use Rattle.pm_tokens.specs.Faults.{attrs_fit, marks_fit as fit_marks, content_fits, high_of, pair_fits, Valid, Fault, Pair, under, first_broken, token_fits, place_from}
use Rattle.pm_tokens.proofs.PairLaws.{first-none}
use Rattle.pm_tokens.proofs.ValidLaws.{token-fits, valid-tokens}
use Rattle.pm_schema.specs.declared.spec.SchemaSpec.{SchemaSpec}
use Rattle.pm_schema.specs.Types.{node_at, fit_attrs}
use Rattle.pm_schema.specs.Documents.{documents_of}
use Rattle.pm_schema.proofs.FitLaws.{node-attrs-are, mark-attrs-are}
use Rattle.pm_node.specs.Trees.{body_tokens, node_tokens}
use Rattle.pm_node.specs.Documents.{doc_of, content_tokens}
use Rattle.pm_node.specs.declared.node.Node.{Node}
use Rattle.pm_node.specs.declared.node.Body.{Body}
use Rattle.pm_node.specs.declared.node.Body.TheVariants.{Text, Leaf as Childless, Children}
use Rattle.pm_docjson.specs.Writable.{mark_fits, marks_fit, type_fits, is_writable, are_writable, IsWritable, AreWritable, is_body_of, has_its_body}
use Rattle.pm_docjson.proofs.Pairs.{broken-closed}
use Rattle.std.proofs.lemmas.Bool.{and_parts, and_from}

-- attributes fit by either reading
marks-fit : (s : SchemaSpec) (ms : Marks) → have_attrs (documents_of s) ms ≡ true → list_all (mark_fits s) ms ≡ true
marks-fit s [] h = refl
marks-fit s (m ∷ ms) h =
    let p = and_parts (mark_attrs (documents_of s) m.kind m.attrs) (have_attrs (documents_of s) ms) h in
    and_from (mark_fits s m) (list_all (mark_fits s) ms) (sym (mark-attrs-are s m.kind m.attrs) ∙ p.0) (marks-fit s ms p.1)

type-fits : (s : SchemaSpec) (k : ℕ) (a : Attrs) → node_attrs (documents_of s) k a ≡ true → not (k == (documents_of s).text) ≡ true → type_fits s k a ≡ true
type-fits s k a h no_text =
    let p = and_parts (nat_lt k (length s.nodes)) (fit_attrs (node_at s k).attrs a) (sym (node-attrs-are s k a) ∙ h) in
    and_from (nat_lt k (length s.nodes)) (not (k == (documents_of s).text) && fit_attrs (node_at s k).attrs a) p.0
    (and_from (not (k == (documents_of s).text)) (fit_attrs (node_at s k).attrs a) no_text p.1)

set-fits : (s : SchemaSpec) (p : ℕ) (ms : Marks) → have_attrs (documents_of s) ms ≡ true → (is_set (documents_of s) ms && are_allowed (documents_of s) p ms) ≡ true → marks_fit s ms ≡ true
set-fits s p ms h k =
    and_from (list_all (mark_fits s) ms) (is_set (documents_of s) ms) (marks-fit s ms h) (and_parts (is_set (documents_of s) ms) (are_allowed (documents_of s) p ms) k).0

-- a token without a fault can be written
token-writable : (s : SchemaSpec) (p : ℕ) (t : Token) (next : List Token) → attrs_fit (documents_of s) t ≡ true → fit_marks (documents_of s) p t ≡ true → content_fits (documents_of s) t next ≡ true → is_writable s t ≡ true
token-writable s p (Open k a m) next at mt ct =
    let d = documents_of s in
    let x = and_parts (node_attrs d k a) (have_attrs d m) at in
    let y = and_parts (not (k == d.text) && not (d.is_leaf k)) (d.accepts k (kids d.text 0 None next)) ct in
    let z = and_parts (not (k == d.text)) (not (d.is_leaf k)) y.0 in
    and_from (type_fits s k a) (not (d.is_leaf k) && marks_fit s m) (type-fits s k a x.0 z.0)
    (and_from (not (d.is_leaf k)) (marks_fit s m) z.1 (set-fits s p m x.1 mt))
token-writable s p Close next at mt ct = refl
token-writable s p (Leaf k a m) next at mt ct =
    let d = documents_of s in
    let x = and_parts (node_attrs d k a) (have_attrs d m) at in
    let y = and_parts (not (k == d.text)) (d.is_leaf k) ct in
    and_from (type_fits s k a) (d.is_leaf k && marks_fit s m) (type-fits s k a x.0 y.0)
    (and_from (d.is_leaf k) (marks_fit s m) y.1 (set-fits s p m x.1 mt))
token-writable s p (CodeUnit u m) next at mt ct = set-fits s p m at mt

-- so can tokens without a fault, and none of their units is broken
record Written (s : SchemaSpec) (high : Option Marks) (ts : List Token) : Type 0 where
  fits : are_writable s ts ≡ true
  pairs : (at : ℕ) → first_broken at high ts ≡ None

tokens-written : (s : SchemaSpec) (ps : List ℕ) (high : Option Marks) (ts : List Token) → place_from (documents_of s) ps high ts ≡ None → Written s high ts
tokens-written s ps high [] h = record { fits = refl; pairs = λ at. refl }
tokens-written s ps high (t ∷ ts) h =
    let f = first-none (token_fits (documents_of s) (head_of ps) high t ts) (place_from (documents_of s) (under ps t) (high_of t) ts) h in
    let w = token-fits (documents_of s) (head_of ps) high t ts f.0 in
    let rest = tokens-written s (under ps t) (high_of t) ts f.1 in
    record {
      fits = and_from (is_writable s t) (are_writable s ts) (token-writable s (head_of ps) t ts w.attrs w.marks w.content) rest.fits;
      pairs = λ at. joined at (pair_fits high t ts) (first_broken (at + 1) (high_of t) ts) w.pair (rest.pairs (at + 1));
    }
  where
    joined : (at : ℕ) (b : Bool) (r : Option Fault) → b ≡ true → r ≡ None → cond b r (Some (Pair at)) ≡ None
    joined at b r hb hr = rw hb hr

closed : (s : SchemaSpec) (ts : List Token) → are_writable s ts ≡ true → are_writable s (ts ++ (Close ∷ [])) ≡ true
closed s [] h = refl
closed s (t ∷ ts) h =
    let p = and_parts (is_writable s t) (are_writable s ts) h in
    and_from (is_writable s t) (are_writable s (ts ++ (Close ∷ []))) p.0 (closed s ts p.1)

no-marks : (s : SchemaSpec) → marks_fit s [] ≡ true
no-marks s = refl

top-fits : (s : SchemaSpec) (n : Node) → has_its_body s n ≡ true → Valid (documents_of s) (doc_of n) → type_fits s n.kind n.attrs ≡ true
top-fits s n h v =
    let x = and_parts (nat_lt n.kind (length s.nodes)) (not (n.kind == (documents_of s).text) && is_body_of s n.kind n.body) h in
    let y = and_parts (not (n.kind == (documents_of s).text)) (is_body_of s n.kind n.body) x.1 in
    type-fits s n.kind n.attrs v.top_attrs y.0

top-marks : (s : SchemaSpec) (n : Node) → Valid (documents_of s) (doc_of n) → marks_fit s n.marks ≡ true
top-marks s n v = subst (λ ms. marks_fit s ms ≡ true) (sym v.top_marks) (no-marks s)

body-of : (s : SchemaSpec) (n : Node) → has_its_body s n ≡ true → is_body_of s n.kind n.body ≡ true
body-of s n h =
    let x = and_parts (nat_lt n.kind (length s.nodes)) (not (n.kind == (documents_of s).text) && is_body_of s n.kind n.body) h in
    (and_parts (not (n.kind == (documents_of s).text)) (is_body_of s n.kind n.body) x.1).1

around : (s : SchemaSpec) (n : Node) (b : Body) → n.body ≡ b → is_body_of s n.kind b ≡ true → type_fits s n.kind n.attrs ≡ true → Valid (documents_of s) (doc_of n) → IsWritable s n
around s n (Text us) is body fits v = absurd (cc)
around s n Childless is body fits v =
    let d = documents_of s in
    let all : node_tokens n ≡ Leaf n.kind n.attrs n.marks ∷ [] = ap (λ c. body_tokens n.kind n.attrs n.marks c) is in
    let first : is_writable s (Leaf n.kind n.attrs n.marks) ≡ true =
    and_from (type_fits s n.kind n.attrs) (d.is_leaf n.kind && marks_fit s n.marks) fits (and_from (d.is_leaf n.kind) (marks_fit s n.marks) body (top-marks s n v)) in
    record {
      tokens = subst (λ l. are_writable s l ≡ true) (sym all) (and_from (is_writable s (Leaf n.kind n.attrs n.marks)) true first refl);
      pairs = subst (λ l. first_broken 1 None l ≡ None) (sym all) refl;
      filled = subst (λ l. 0 < length l) (sym all) (omega arith);
    }
around s n (Children ts) is body fits v =
    let d = documents_of s in
    let inner : Written s None ts = subst (λ c. Written s None (content_tokens n.marks c)) is (tokens-written s (n.kind ∷ []) None (doc_of n).tokens (valid-tokens d (doc_of n) v)) in
    let all : node_tokens n ≡ Open n.kind n.attrs n.marks ∷ (ts ++ (Close ∷ [])) = ap (λ c. body_tokens n.kind n.attrs n.marks c) is in
    let first : is_writable s (Open n.kind n.attrs n.marks) ≡ true =
    and_from (type_fits s n.kind n.attrs) (not (d.is_leaf n.kind) && marks_fit s n.marks) fits (and_from (not (d.is_leaf n.kind)) (marks_fit s n.marks) body (top-marks s n v)) in
    record {
      tokens = subst (λ l. are_writable s l ≡ true) (sym all) (and_from (is_writable s (Open n.kind n.attrs n.marks)) (are_writable s (ts ++ (Close ∷ []))) first (closed s ts inner.fits));
      pairs = subst (λ l. first_broken 1 None l ≡ None) (sym all) (broken-closed ts 2 None (inner.pairs 2));
      filled = subst (λ l. 0 < length l) (sym all) (omega arith);
    }

pub top-writable : (s : SchemaSpec) (n : Node) → has_its_body s n ≡ true → Valid (documents_of s) (doc_of n) → IsWritable s n
top-writable s n h v = around s n n.body refl (body-of s n h) (top-fits s n h v) v

pub content-writable : (s : SchemaSpec) (d : Doc) → Valid (documents_of s) d → AreWritable s d.tokens
content-writable s d v =
    let w = tokens-written s (d.kind ∷ []) None d.tokens (valid-tokens (documents_of s) d v) in
    record { tokens = w.fits; pairs = w.pairs 1 }
