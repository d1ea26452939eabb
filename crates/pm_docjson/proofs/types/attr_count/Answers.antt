use Rattle.std.proofs.Common.{◌≡◌, length, arith}
use Rattle.std.proofs.lemmas.Grind.{common_steps}
use Rattle.pm_schema.specs.Attrs.{attrs_of}
use Rattle.pm_docjson.proofs.TypeLaws.{none-ordered}
use Rattle.pm_docjson.proofs.types.attr_count.Goals as goal

pub returns-else-is_known-clause-sorted : goal.returns-else-is_known-clause-sorted
returns-else-is_known-clause-sorted c =
    let attrs = attrs_of c.args.schema.now.spec c.args.kind in
    let none : 0 ≡ length attrs = grind (arith, common_steps) in
    none-ordered attrs none
