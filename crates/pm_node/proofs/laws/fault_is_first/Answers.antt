use Rattle.std.proofs.Common.{◌≡◌, true, subst}
use Rattle.std.proofs.lemmas.Bool.{le-leb}
use Rattle.pm_schema.specs.Documents.{documents_of}
use Rattle.pm_tokens.specs.Schemas.{max_size, max_depth}
use Rattle.pm_tokens.specs.Scan.{is_whole, deepest}
use Rattle.pm_tokens.proofs.BalanceLaws.{balanced-whole}
use Rattle.pm_tokens.proofs.ScanLaws.{of-whole}
use Rattle.pm_tokens.proofs.FirstFaults.{fault-is, fault-place-least}
use Rattle.pm_tokens.proofs.ValidLaws.{valid-fault, fault-valid, valid-place, place-valid}
use Rattle.pm_node.proofs.laws.fault_is_first.Goals as goal

pub returns-clause-first : goal.returns-clause-first
returns-clause-first c = λ f h. fault-is (documents_of c.args.schema.now.spec) c.args.doc.now f h

pub returns-clause-place : goal.returns-clause-place
returns-clause-place c = λ p h. fault-place-least (documents_of c.args.schema.now.spec) c.args.doc.now p h

pub returns-clause-none : goal.returns-clause-none
returns-clause-none c =
    let s = documents_of c.args.schema.now.spec in
    let whole : is_whole c.args.doc.now.tokens ≡ true = subst (λ ts. is_whole ts ≡ true) c.content.ensures (of-whole _ (balanced-whole c.size.ensures.whole)) in
    (fault-valid s c.args.doc.now whole, valid-fault s c.args.doc.now)

pub returns-clause-no_place : goal.returns-clause-no_place
returns-clause-no_place c = λ small flat.
    let s = documents_of c.args.schema.now.spec in
    let whole : is_whole c.args.doc.now.tokens ≡ true = subst (λ ts. is_whole ts ≡ true) c.content.ensures (of-whole _ (balanced-whole c.size.ensures.whole)) in
    (place-valid s c.args.doc.now whole (le-leb _ (max_size s) small) (le-leb _ max_depth flat), valid-place s c.args.doc.now)
