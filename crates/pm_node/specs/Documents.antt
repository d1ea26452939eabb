-- What a document is seen as.
use Rattle.std.specs.Prelude.{List, []}
use Rattle.pm_tokens.specs.Tokens.{Marks, Token, Doc}
use Rattle.pm_tokens.specs.Kids.{text_tokens}
use Rattle.pm_node.specs.declared.node.Node.{Node}
use Rattle.pm_node.specs.declared.node.Body.{Body}
use Rattle.pm_node.specs.declared.node.Body.TheVariants.{Text, Leaf as Childless, Children}

-- the tokens of a node's content: a leaf has none
abbrev pub content_tokens : Marks → Body → List Token
content_tokens marks (Text us) = text_tokens marks us
content_tokens marks Childless = []
content_tokens marks (Children ts) = ts

-- the body is a fragment
abbrev pub IsParent : Body → Type 0
IsParent (Text us) = ⊥
IsParent Childless = ⊥
IsParent (Children ts) = Unit {0}

-- the document with this top node
abbrev pub doc_of : Node → Doc
doc_of n = record { kind = n.kind; attrs = n.attrs; marks = n.marks; tokens = content_tokens n.marks n.body }

-- the document with the top node's type, attributes and marks and other content
abbrev pub doc_with : Node → List Token → Doc
doc_with n ts = record { kind = n.kind; attrs = n.attrs; marks = n.marks; tokens = ts }
