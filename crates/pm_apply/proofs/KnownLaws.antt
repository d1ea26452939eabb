-- In a valid document each node is of a type that the schema has.
use Rattle.std.specs.Prelude.{◌≡◌, ℕ, ◌+◌, ◌<◌, Bool, true, false, nat_lt, if◌then◌else◌, map, Some, None, List, [], ◌∷◌, ◌++◌, length, drop, get_or}
use Rattle.std.specs.declared.sync.Arc.{Arc}
use Rattle.std.specs.Arc.{arc_value}
use Rattle.std.proofs.Common.{refl, sym, ◌∙◌, subst, append_assoc}
use Rattle.std.proofs.lemmas.Bool.{ltb-true, and_parts}
use Rattle.pm_tokens.specs.Tokens.{Attrs, Token, Open, Close, Leaf, CodeUnit, Doc}
use Rattle.pm_tokens.specs.Schemas.{node_attrs, fit_type}
use Rattle.pm_tokens.specs.Faults.{Valid}
use Rattle.pm_tokens.specs.Marks.{have_attrs}
use Rattle.pm_schema.specs.declared.spec.SchemaSpec.{SchemaSpec}
use Rattle.pm_schema.specs.Types.{node_at, declared}
use Rattle.pm_schema.specs.Documents.{documents_of}
use Rattle.pm_node.specs.declared.node.Node.{Node}
use Rattle.pm_node.specs.declared.node.Body.TheVariants.{Children}
use Rattle.pm_node.specs.Trees.{node_tokens, list_tokens}
use Rattle.pm_node.proofs.TreeLaws.{node_tokens_at}
use Rattle.pm_node.proofs.WalkLaws.{front, list-split}
use Rattle.pm_apply.specs.Markings.{AreKnown}

-- a type whose attributes fit is one of the schema's
pub node-known : (s : SchemaSpec) (k : ℕ) (a : Attrs) → node_attrs (documents_of s) k a ≡ true → k < length s.nodes
unfolding documents_of
node-known s k a h = by (nat_lt k (length s.nodes)) refl h
  where
    by : (b : Bool) → nat_lt k (length s.nodes) ≡ b → fit_type (if b then Some (map declared (node_at s k).attrs) else None) a ≡ true → k < length s.nodes
    by true e f = ltb-true k (length s.nodes) e
    by false e f = absurd (cc)

pub known-append : (n : ℕ) (xs ys : List Token) → AreKnown n (xs ++ ys) → AreKnown n xs × AreKnown n ys
known-append n [] ys h = (tt, h)
known-append n (Open k a m ∷ xs) ys h = let r = known-append n xs ys h.1 in ((h.0, r.0), r.1)
known-append n (Close ∷ xs) ys h = known-append n xs ys h
known-append n (Leaf k a m ∷ xs) ys h = let r = known-append n xs ys h.1 in ((h.0, r.0), r.1)
known-append n (CodeUnit u m ∷ xs) ys h = known-append n xs ys h

-- a child, and the content of a node
pub known-child : {Z : Type 0} (n : ℕ) (xs : List (Arc Node Z)) (i : ℕ) (x : Arc Node Z) → i < length xs → x ≡ get_or xs i x → AreKnown n (list_tokens xs) → AreKnown n (node_tokens (arc_value x))
known-child n xs i x k r h =
    let rest = list_tokens (drop (i + 1) xs) in
    let split : AreKnown n (front xs i ++ (node_tokens (arc_value x) ++ rest)) = subst (AreKnown n) (list-split xs i x k r) h in
    (known-append n (node_tokens (arc_value x)) rest (known-append n (front xs i) (node_tokens (arc_value x) ++ rest) split).1).0

pub known-inner : (n : ℕ) (node : Node) (inner : List Token) → node.body ≡ Children inner → AreKnown n (node_tokens node) → (node.kind < n) × AreKnown n inner
known-inner n node inner e h =
    let w : AreKnown n (Open node.kind node.attrs node.marks ∷ (inner ++ (Close ∷ []))) = subst (AreKnown n) (node_tokens_at node (Children inner) e) h in
    (w.0, (known-append n inner (Close ∷ []) w.1).0)

module _ (s : SchemaSpec) (d : Doc) (v : Valid (documents_of s) d) where
  pub top-known : d.kind < length s.nodes
  top-known = node-known s d.kind d.attrs v.top_attrs

  shift : (before : List Token) (t : Token) (ts : List Token) → before ++ (t ∷ ts) ≡ (before ++ (t ∷ [])) ++ ts
  shift before t ts = sym (append_assoc before (t ∷ []) ts)

  known-from : (before ts : List Token) → d.tokens ≡ before ++ ts → AreKnown (length s.nodes) ts
  known-from before [] e = tt
  known-from before (Open k a m ∷ ts) e = (
    node-known s k a (and_parts (node_attrs (documents_of s) k a) (have_attrs (documents_of s) m) (v.attrs before (Open k a m) ts e)).0,
    known-from (before ++ (Open k a m ∷ [])) ts (e ∙ shift before (Open k a m) ts),
  )
  known-from before (Close ∷ ts) e = known-from (before ++ (Close ∷ [])) ts (e ∙ shift before Close ts)
  known-from before (Leaf k a m ∷ ts) e = (
    node-known s k a (and_parts (node_attrs (documents_of s) k a) (have_attrs (documents_of s) m) (v.attrs before (Leaf k a m) ts e)).0,
    known-from (before ++ (Leaf k a m ∷ [])) ts (e ∙ shift before (Leaf k a m) ts),
  )
  known-from before (CodeUnit u m ∷ ts) e = known-from (before ++ (CodeUnit u m ∷ [])) ts (e ∙ shift before (CodeUnit u m) ts)

  pub all-known : AreKnown (length s.nodes) d.tokens
  all-known = known-from [] d.tokens refl
