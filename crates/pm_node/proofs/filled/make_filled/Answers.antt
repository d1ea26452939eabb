use Rattle.std.proofs.Common.{get_or, ap, sym, ◌∙◌, subst, arith}
use Rattle.std.specs.Prelude.{None}
use Rattle.pm_node.specs.Filled.{AreFills, filled_tokens}
use Rattle.pm_node.specs.Trees.{node_tokens}
use Rattle.pm_tokens.specs.Schemas.{max_size}
use Rattle.pm_tokens.proofs.SchemaLaws.{max-size-small}
use Rattle.pm_schema.specs.Documents.{documents_of}
use Rattle.pm_node.proofs.FilledLaws.{none-size, small-size, few-tokens, large-size}
use Rattle.pm_node.proofs.filled.make_filled.Goals as goal

pub filled_node-requires : goal.filled_node-requires
filled_node-requires c =
    let s = c.args.schema.now in
    let fills = c.as_slice-fills.result.now in
    let table : AreFills s fills = subst (AreFills s) (sym c.as_slice-fills.ensures) c.in_ok-fills.ensures in
    let at = c.size_at.ensures ∙ (ap (λ zs. get_or zs c.args.kind None) c.as_slice.ensures ∙ c.in_ok-sizes.ensures c.args.kind c.requires) in
    record { table = table; known = c.requires; small = small-size (filled_tokens s.spec fills 49 c.args.kind) c.in-Some.size (sym c.in-Some.is ∙ at) (omega (arith, c.if-size-max_size.false, c.max_size.ensures.small)) }

pub sizes_within-requires : goal.sizes_within-requires
sizes_within-requires c = subst (AreFills c.args.schema.now) (sym c.as_slice-fills.ensures) c.in_ok-fills.ensures

pub returns-in-None-clause-refused : goal.returns-in-None-clause-refused
returns-in-None-clause-refused c =
    let s = c.args.schema.now in
    let fills = c.as_slice-fills.result.now in
    let at = c.size_at.ensures ∙ (ap (λ zs. get_or zs c.args.kind None) c.as_slice.ensures ∙ c.in_ok-sizes.ensures c.args.kind c.requires) in (
      sym c.is_generatable.ensures.makeable ∙ c.if-not-is_generatable.false,
      record { fills = fills; of_types = subst (AreFills s) (sym c.as_slice-fills.ensures) c.in_ok-fills.ensures; tokens = none-size (filled_tokens s.spec fills 49 c.args.kind) (sym c.in-None.is ∙ at) },
    )

pub returns-then-size-max_size-clause-refused : goal.returns-then-size-max_size-clause-refused
returns-then-size-max_size-clause-refused c =
    let s = c.args.schema.now in
    let fills = c.as_slice-fills.result.now in
    let at = c.size_at.ensures ∙ (ap (λ zs. get_or zs c.args.kind None) c.as_slice.ensures ∙ c.in_ok-sizes.ensures c.args.kind c.requires) in
    let r = large-size (filled_tokens s.spec fills 49 c.args.kind) c.in-Some.size (max_size (documents_of s.spec)) (sym c.in-Some.is ∙ at) (omega (arith, c.if-size-max_size.true, c.max_size.ensures.size)) in (
      sym c.is_generatable.ensures.makeable ∙ c.if-not-is_generatable.false,
      record {
        tokens = r.0;
        filling = record { fills = fills; of_types = subst (AreFills s) (sym c.as_slice-fills.ensures) c.in_ok-fills.ensures; tokens = r.1 };
        large = r.2;
      },
    )

pub returns-clause-filled : goal.returns-clause-filled
returns-clause-filled c =
    let s = c.args.schema.now in
    record { fills = c.as_slice-fills.result.now; of_types = subst (AreFills s) (sym c.as_slice-fills.ensures) c.in_ok-fills.ensures; tokens = c.in_ok-node-in-Some.ensures }

pub returns-clause-small : goal.returns-clause-small
returns-clause-small c =
    let s = c.args.schema.now in
    let fills = c.as_slice-fills.result.now in
    let at = c.size_at.ensures ∙ (ap (λ zs. get_or zs c.args.kind None) c.as_slice.ensures ∙ c.in_ok-sizes.ensures c.args.kind c.requires) in
    few-tokens (filled_tokens s.spec fills 49 c.args.kind) (node_tokens c.in_ok-node-in-Some.node) c.in-Some.size (max_size (documents_of s.spec)) c.in_ok-node-in-Some.ensures (sym c.in-Some.is ∙ at)
    (max-size-small (documents_of s.spec)) (omega (arith, c.if-size-max_size.false, c.max_size.ensures.size))
