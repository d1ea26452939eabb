use Rattle.std.proofs.Common.{arith, inl, inr}
use Rattle.pm_schema.specs.Documents.{documents_of}
use Rattle.pm_build.proofs.UnknownTypes.{same-type, first-unknown, second-unknown}
use Rattle.pm_build.proofs.feed.are_compatible.Goals as goal

pub returns-then-a-b : goal.returns-then-a-b
returns-then-a-b c = same-type (documents_of c.args.schema.now.spec) c.args.a c.args.b c.if-a-b.true

pub returns-then-a-count : goal.returns-then-a-count
returns-then-a-count c = elim c.then-a-count.either [
  | inl h ↦ first-unknown c.args.schema.now.spec c.args.a c.args.b c.if-a-b.false (omega (arith, h, c.node_count-count.ensures))
  | inr h ↦ second-unknown c.args.schema.now.spec c.args.a c.args.b c.if-a-b.false (omega (arith, h.1, c.node_count-count.ensures))
]
