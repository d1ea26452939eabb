use Rattle.std.proofs.Common.{◌≡◌, ◌+◌, drop, ap, sym, ◌∙◌}
use Rattle.std.specs.Prelude.{None}
use Rattle.std.specs.Arc.{arc_value}
use Rattle.std.proofs.lemmas.List.{drop_all}
use Rattle.pm_auto.specs.Walks.{accepted, target, edges_at}
use Rattle.pm_tokens.specs.Kids.{kids}
use Rattle.pm_schema.specs.Documents.{documents_of}
use Rattle.pm_node.specs.Kinds.{kind_in, kinds}
use Rattle.pm_node.proofs.KindLaws.{kids-list}
use Rattle.pm_node.proofs.WalkLaws.{in-range, past-range}
use Rattle.pm_node.proofs.AutoWalk.{kinds-drop, accepted-none}
use Rattle.pm_node.proofs.rules.accepts.Goals as goal
use Rattle.pm_node.proofs.rules.accepts.Goals.{After-children-children}

-- whether the automaton accepts the children's types
told : (c : After-children-children) → (documents_of c.args.schema.now.spec).accepts c.args.kind (kids (documents_of c.args.schema.now.spec).text 0 None c.args.content.now) ≡ accepted c.auto-automaton.result.now.sets c.auto-automaton.result.now.edges 0 (kinds (documents_of c.args.schema.now.spec).text c.children-children.result)
unfolding documents_of
told c =
    let s = documents_of c.args.schema.now.spec in
    let xs = c.children-children.result in
    let e = c.children-children.ensures in
    ap (s.accepts c.args.kind) (ap (kids s.text 0 None) (sym e.tokens) ∙ kids-list s.text xs e.normal e.each) ∙ sym (c.auto-automaton.ensures.runs.accepts (kinds s.text xs))

pub returns-in-None : goal.returns-in-None
returns-in-None c =
    let text = (documents_of c.args.schema.now.spec).text in
    let xs = c.children-children.result in
    let i = c.loop-i.i in
    let a = c.auto-automaton.result.now in
    let k = c.kind_among.ensures ∙ ap (kind_in text) c.deref.ensures in
    let stop = accepted-none a.sets a.edges c.loop-i.state (kind_in text (arc_value c.get-child.result.now)) (kinds text (drop (i + 1) xs)) (ap (λ z. target z (edges_at a.edges c.loop-i.state)) (sym k) ∙ (sym c.next.ensures.edge ∙ c.in-None.is)) in
    sym (told ((goal.at.returns-in-None c).After-children-children) ∙ (c.loop-i.invariant.1 ∙ (ap (accepted a.sets a.edges c.loop-i.state) (kinds-drop text xs i c.get-child.result.now (in-range c.len-i-end.ensures c.loop-i-test.true) c.get-child.ensures) ∙ stop)))

pub returns : goal.returns
returns c =
    let text = (documents_of c.args.schema.now.spec).text in
    let xs = c.children-children.result in
    let a = c.auto-automaton.result.now in
    c.valid_end.ensures ∙ sym (told ((goal.at.returns c).After-children-children) ∙ (c.loop-i.invariant.1 ∙ ap (λ z. accepted a.sets a.edges c.loop-i.state (kinds text z)) (drop_all c.loop-i.i xs (past-range c.len-i-end.ensures c.loop-i-test.false))))
