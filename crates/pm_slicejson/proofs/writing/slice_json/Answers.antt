use Rattle.std.proofs.Common.{◌≡◌, ◌<◌, ◌^◌, List, length, arith, sym, subst, ◌∙◌}
use Rattle.std.specs.Prelude.{Ok}
use Rattle.pm_tokens.specs.Tokens.{Token}
use Rattle.pm_docjson.specs.declared.leaves.LeafContent.TheVariants.{Refused}
use Rattle.pm_docjson.specs.Reading.{node_list}
use Rattle.pm_docjson.specs.Writing.{nodes_written}
use Rattle.pm_docjson.specs.Writable.{AreWritable}
use Rattle.pm_slicejson.proofs.Again.{empty-again, filled-again}
use Rattle.pm_slicejson.proofs.writing.slice_json.Goals as goal

pub returns-then-size-eq0-clause-again : goal.returns-then-size-eq0-clause-again
returns-then-size-eq0-clause-again c =
    λ can. empty-again c.args.schema.now.spec c.args.slice.now c.size.ensures.one (sym c.size.ensures.size ∙ c.if-size-eq0.true)

pub returns-clause-again : goal.returns-clause-again
returns-clause-again c =
    let s = c.args.schema.now.spec in
    let sl = c.args.slice.now in
    let bound : length c.content-nodes.result.now < 2 ^ 32 = omega (arith, c.size-2.ensures.size, c.size-2.ensures.bound) in
    let within : length sl.content < 2 ^ 32 = subst (λ (ts : List Token). length ts < 2 ^ 32) c.content-nodes.ensures bound in
    λ can.
    let inner : AreWritable s c.content-nodes.result.now = subst (AreWritable s) (sym c.content-nodes.ensures) can in
    let again : node_list s Refused (nodes_written s sl.content) ≡ Ok sl.content =
    subst (λ (ts : List Token). node_list s Refused (nodes_written s ts) ≡ Ok ts) c.content-nodes.ensures (c.in_ok-content.ensures.again inner Refused) in
    filled-again s sl c.size.ensures.slice c.size.ensures.one within again (λ h. c.if-size-eq0.false (c.size.ensures.size ∙ h))
