use Rattle.std.proofs.Common.{[], ap, sym, ◌∙◌}
use Rattle.std.specs.Prelude.{None, option_map}
use Rattle.pm_tokens.specs.Faults.{Pair}
use Rattle.pm_schema.specs.Documents.{documents_of}
use Rattle.pm_node.proofs.ChangeLaws.{fault-moved, broken-moved}
use Rattle.pm_node.proofs.touched.is_sound.Goals as goal

pub returns-in-Ok : goal.returns-in-Ok
returns-in-Ok c = λ r. record {
  faultless = λ at ps. fault-moved (documents_of c.args.schema.now.spec) c.size.ensures.whole c.args.kind 0 at [] ps (c.in-Ok.ensures []);
  unbroken = λ at. broken-moved 0 at None c.args.content.now (sym c.first_broken.ensures ∙ ap (option_map Pair) c.in_default.is);
  shallow = c.nests_within.ensures.0 c.if-not-nests_within.false;
}
