use Rattle.std.proofs.Common.{◌<◌, ◌∙◌, ap, length, arith, string_bytes}
use Rattle.std.proofs.lemmas.Grind.{common_steps}
use Rattle.pm_schema.specs.Types.{node_at}
use Rattle.serde_json.specs.Data.{object}
use Rattle.serde_json.specs.Written.{compact_text}
use Rattle.pm_docjson.specs.Members.{attr_members}
use Rattle.pm_docjson.specs.Values.{keys}
use Rattle.pm_doctext.proofs.Whole.{attrs-after}
use Rattle.pm_doctext.proofs.attrs.push_attrs.Goals as goal

pub returns : goal.returns
returns c =
    let attrs = (node_at c.args.schema.now.spec c.args.kind).attrs in
    let some : 0 < length attrs = grind (arith, common_steps) in
    attrs-after attrs c.args.attrs.now some c.push_member.result (string_bytes c.args.text.now) c.as_str.result.now (string_bytes c.push_member.new.text) (c.as_str.ensures.value ∙ (c.in_ok-written.ensures ∙ ap (λ vs. compact_text (object (attr_members (keys attrs) vs))) c.values.ensures)) c.push_member.ensures
