-- A document told by its top node and its content.
use Rattle.std.specs.Prelude.{◌≡◌, List}
use Rattle.std.proofs.Common.{ap, sym, ◌∙◌}
use Rattle.pm_tokens.specs.Tokens.{Token, Doc}
use Rattle.pm_node.specs.declared.node.Node.{Node}
use Rattle.pm_node.specs.Documents.{doc_of, doc_with}

pub same-doc : (n : Node) (d : Doc) (ts : List Token) → doc_of n ≡ d → ts ≡ d.tokens → doc_with n ts ≡ d
same-doc n d ts top content = ap (doc_with n) (content ∙ ap (λ e. e.tokens) (sym top)) ∙ top
