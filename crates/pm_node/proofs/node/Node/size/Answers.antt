use Rattle.std.proofs.Common.{◌∙◌, sym, ap, length, subst}
use Rattle.pm_tokens.specs.Scan.{none, leaf}
use Rattle.pm_node.specs.Trees.{WholeBody}
use Rattle.pm_node.proofs.TreeLaws.{node_tokens_at, length-text_tokens, balanced-node}
use Rattle.pm_tokens.proofs.KidLaws.{balanced-text}
use Rattle.pm_node.proofs.node.Node.size.Goals as goal

pub returns-in-Text-clause-size : goal.returns-in-Text-clause-size
returns-in-Text-clause-size c =
    c.len.ensures ∙ (sym (length-text_tokens c.args.self.now.marks c.in-Text.units) ∙ ap length (sym (node_tokens_at c.args.self.now _ c.in-Text.is)))

pub returns-in-Text-clause-whole : goal.returns-in-Text-clause-whole
returns-in-Text-clause-whole c = rw (node_tokens_at c.args.self.now _ c.in-Text.is) (balanced-text _ _)

pub returns-in-Leaf-clause-whole : goal.returns-in-Leaf-clause-whole
returns-in-Leaf-clause-whole c = rw (node_tokens_at c.args.self.now _ c.in-Leaf.is) (leaf _ _ _ none)

pub returns-in-Children-clause-whole : goal.returns-in-Children-clause-whole
returns-in-Children-clause-whole c = rw (node_tokens_at c.args.self.now _ c.in-Children.is) (balanced-node _ _ _ c.size.ensures.whole)

pub returns-in-Text-clause-body : goal.returns-in-Text-clause-body
returns-in-Text-clause-body c = subst WholeBody (sym c.in-Text.is) tt

pub returns-in-Leaf-clause-body : goal.returns-in-Leaf-clause-body
returns-in-Leaf-clause-body c = subst WholeBody (sym c.in-Leaf.is) tt

pub returns-in-Children-clause-body : goal.returns-in-Children-clause-body
returns-in-Children-clause-body c = subst WholeBody (sym c.in-Children.is) c.size.ensures.whole
