-- What a node is seen as: its tokens.
use Rattle.std.specs.Prelude.{◌≡◌, ℕ, ◌<◌, ◌^◌, Option, Some, None, List, [], ◌∷◌, ◌++◌, length}
use Rattle.std.specs.Arc.{arc_value}
use Rattle.std.specs.declared.sync.Arc.{Arc}
use Rattle.pm_tokens.specs.Tokens.{Attrs, Marks, Token, Open, Close, Leaf}
use Rattle.pm_tokens.specs.Scan.{Balanced}
use Rattle.pm_tokens.specs.Kids.{text_tokens}
use Rattle.pm_node.specs.declared.node.Node.{Node}
use Rattle.pm_node.specs.declared.node.Body.{Body}
use Rattle.pm_node.specs.declared.node.Body.TheVariants.{Text, Leaf as Childless, Children}

-- A text gives its units, whatever its type says. A leaf gives one token. Any other node gives an open, the tokens of its
-- content and a close.
abbrev pub body_tokens : ℕ → Attrs → Marks → Body → List Token
body_tokens kind attrs marks (Text us) = text_tokens marks us
body_tokens kind attrs marks Childless = Leaf kind attrs marks ∷ []
body_tokens kind attrs marks (Children ts) = Open kind attrs marks ∷ (ts ++ (Close ∷ []))

abbrev pub node_tokens : Node → List Token
node_tokens n = body_tokens n.kind n.attrs n.marks n.body

-- the tokens of the children, one after another
abbrev pub list_tokens : {Z : Type 0} → List (Arc Node Z) → List Token
list_tokens [] = []
list_tokens (x ∷ xs) = node_tokens (arc_value x) ++ list_tokens xs

-- the tokens of a list of nodes
abbrev pub nodes_tokens : List Node → List Token
nodes_tokens [] = []
nodes_tokens (n ∷ ns) = node_tokens n ++ nodes_tokens ns

-- the tokens of a node, if there is one
abbrev pub some_tokens : Option Node → List Token
some_tokens None = []
some_tokens (Some n) = node_tokens n

-- the node is a text
abbrev pub IsText : Body → Type 0
IsText (Text us) = Unit {0}
IsText Childless = ⊥
IsText (Children ts) = ⊥

-- both are texts, with equal marks
abbrev pub Meets : Node → Node → Type 0
Meets a b = IsText a.body × IsText b.body × (a.marks ≡ b.marks)

-- what joining two neighbours gives: one text, or nothing where they do not meet
abbrev pub Joined : Node → Node → Option Node → Type 0
Joined a b None = ¬ Meets a b
Joined a b (Some n) = (node_tokens n ≡ node_tokens a ++ node_tokens b) × Meets a n × Meets n b

-- the first of the nodes does not go on the text x
abbrev pub Apart : {Z : Type 0} → Node → List (Arc Node Z) → Type 0
Apart x [] = Unit {0}
Apart x (y ∷ ys) = ¬ Meets x (arc_value y)

-- normal form: no text is empty, and no two neighbours are texts with equal marks
abbrev pub IsNormal : {Z : Type 0} → List (Arc Node Z) → Type 0
IsNormal [] = Unit {0}
IsNormal (x ∷ xs) = (0 < length (node_tokens (arc_value x))) × Apart (arc_value x) xs × IsNormal xs

-- the content, if there is one, is a whole number of nodes
abbrev pub WholeBody : Body → Type 0
WholeBody (Text us) = Unit {0}
WholeBody Childless = Unit {0}
WholeBody (Children ts) = Balanced ts

-- the same of each of the nodes
abbrev pub EachWhole : {Z : Type 0} → List (Arc Node Z) → Type 0
EachWhole [] = Unit {0}
EachWhole (x ∷ xs) = WholeBody (arc_value x).body × EachWhole xs

-- what is true of each fragment: its size is kept, below 2^32, and its children are in normal form
pub record Form {Z : Type 0} (size : ℕ) (xs : List (Arc Node Z)) : Type 0 where
  pub counted : size ≡ length (list_tokens xs)
  pub bounded : size < 2 ^ 32
  pub whole : Balanced (list_tokens xs)
  pub normal : IsNormal xs
  pub each : EachWhole xs
