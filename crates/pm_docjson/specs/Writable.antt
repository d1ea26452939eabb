-- What can be written and is read again.
use Rattle.std.specs.Prelude.{ℕ, ◌≡◌, ◌<◌, ◌==◌, nat_lt, Bool, true, false, ◌&&◌, not, List, [], ◌∷◌, length, None}
use Rattle.std.specs.List.{list_all}
use Rattle.pm_value.specs.Plain.{Plain}
use Rattle.pm_marks.specs.declared.mark.Mark.{Mark}
use Rattle.pm_tokens.specs.Tokens.{Marks, Token, Open, Close, Leaf, CodeUnit}
use Rattle.pm_tokens.specs.Marks.{is_set}
use Rattle.pm_tokens.specs.Faults.{first_broken}
use Rattle.pm_schema.specs.declared.spec.SchemaSpec.{SchemaSpec}
use Rattle.pm_schema.specs.Types.{node_at, mark_at, fit_attrs}
use Rattle.pm_schema.specs.Documents.{documents_of}
use Rattle.pm_node.specs.Trees.{node_tokens}
use Rattle.pm_node.specs.declared.node.Node.{Node}
use Rattle.pm_node.specs.declared.node.Body.{Body}
use Rattle.pm_node.specs.declared.node.Body.TheVariants.{Text, Leaf as Childless, Children}

module _ (s : SchemaSpec) where
  -- a mark of a type of the schema, with the attributes that it declares
  abbrev pub mark_fits : Mark (List Plain) → Bool
  mark_fits m = nat_lt m.kind (length s.marks) && fit_attrs (mark_at s m.kind).attrs m.attrs

  -- such marks that are a set
  abbrev pub marks_fit : Marks → Bool
  marks_fit ms = list_all mark_fits ms && is_set (documents_of s) ms

  -- a type of the schema that is not the type of texts, and attributes that it declares
  abbrev pub type_fits : ℕ → List Plain → Bool
  type_fits k a = nat_lt k (length s.nodes) && (not (k == (documents_of s).text) && fit_attrs (node_at s k).attrs a)

  -- A token that can be written: its type, attributes and marks fit, an open is of a type that is no leaf, and a leaf of a
  -- leaf type.
  abbrev pub is_writable : Token → Bool
  is_writable (Open k a m) = type_fits k a && (not ((documents_of s).is_leaf k) && marks_fit m)
  is_writable Close = true
  is_writable (Leaf k a m) = type_fits k a && ((documents_of s).is_leaf k && marks_fit m)
  is_writable (CodeUnit u m) = marks_fit m

  abbrev pub are_writable : List Token → Bool
  are_writable [] = true
  are_writable (t ∷ ts) = is_writable t && are_writable ts

  -- a node that can be written: each of its tokens can, none of its units is broken, and it is no empty text
  pub record IsWritable (n : Node) : Type 0 where
    pub tokens : are_writable (node_tokens n) ≡ true
    pub pairs : first_broken 1 None (node_tokens n) ≡ None
    pub filled : 0 < length (node_tokens n)

  -- a leaf where the type is a leaf type, and a list of children where it is none: no text is a body of such a type
  abbrev pub is_body_of : ℕ → Body → Bool
  is_body_of k (Text us) = false
  is_body_of k Childless = (documents_of s).is_leaf k
  is_body_of k (Children ts) = not ((documents_of s).is_leaf k)

  -- the node is of a type of the schema that is not the type of texts, and its body is one of that type
  abbrev pub has_its_body : Node → Bool
  has_its_body n = nat_lt n.kind (length s.nodes) && (not (n.kind == (documents_of s).text) && is_body_of n.kind n.body)

  -- a content that can be written: each of its tokens can, and none of its units is broken
  pub record AreWritable (ts : List Token) : Type 0 where
    pub tokens : are_writable ts ≡ true
    pub pairs : first_broken 1 None ts ≡ None
