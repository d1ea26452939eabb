use Rattle.std.proofs.Common.{◌≡◌, ◌++◌, ◌∙◌, rules, string_bytes}
use Rattle.pm_house.specs.Lines.{schema_line}
use Rattle.pm_house.proofs.Naming.{line_more}
use Rattle.pm_house.proofs.lines.push_schema_lines.Goals as goal

pub loop-kind-preserved : goal.loop-kind-preserved
loop-kind-preserved c =
    let kind = c.kind-item.result in
    let old = string_bytes c.loop-kind.text in
    let new = string_bytes c.push_schema_line.new.text in
    let put : new ≡ old ++ schema_line kind.name kind.text = search rules in
    line_more c.args.kinds.now c.loop-kind.kind-index kind old new c.loop-kind-test.true c.kind-item.is put ∙ c.loop-kind.invariant
