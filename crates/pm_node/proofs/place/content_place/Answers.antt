use Rattle.std.proofs.Common.{◌≡◌, ◌∷◌, [], length, true, nat_eq, ap, sym, ◌∙◌}
use Rattle.std.proofs.lemmas.Bool.{eqb-true}
use Rattle.std.proofs.lemmas.List.{nil_from_length}
use Rattle.pm_tokens.specs.Faults.{first_fault}
use Rattle.pm_schema.specs.Documents.{documents_of}
use Rattle.pm_node.specs.Places.{place_in, least}
use Rattle.pm_node.proofs.PlaceLaws.{below-top}
use Rattle.pm_node.proofs.place.content_place.Goals as goal

pub returns : goal.returns
returns c =
    let s = documents_of c.args.schema.now.spec in
    let n = c.args.top.now in
    let ts = c.args.content.now in
    let fault : c.in_ok-fault.fault ≡ place_in (first_fault s 1 (n.kind ∷ []) ts) = c.in_ok-fault.ensures (first_fault s 1 (n.kind ∷ []) ts) (c.nodes_fault.ensures []) in
    let empty : nat_eq (length c.marks.result.now) 0 ≡ true = sym c.is_empty.ensures ∙ c.if-not-is_empty.false in
    let marks : n.marks ≡ [] = sym c.marks.ensures ∙ nil_from_length c.marks.result.now (eqb-true (length c.marks.result.now) 0 empty) in
    c.least.ensures ∙ (ap (least c.first_broken-broken.result) fault
    ∙ below-top s n ts c.first_broken-broken.result (sym c.node_attrs_fit.ensures.fit ∙ c.if-not-node_attrs_fit.false) marks (sym c.accepts.ensures ∙ c.if-not-accepts.false) c.first_broken-broken.ensures)
