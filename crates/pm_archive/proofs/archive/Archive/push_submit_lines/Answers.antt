use Rattle.std.proofs.Common.{◌≡◌, ◌+◌, ◌++◌, ◌∙◌, rules, string_bytes}
use Rattle.pm_archive.specs.Lines.{submit_line}
use Rattle.pm_archive.proofs.Pieces.{line_more}
use Rattle.pm_archive.proofs.archive.Archive.push_submit_lines.Goals as goal

pub loop-i-preserved : goal.loop-i-preserved
loop-i-preserved c =
    let a = c.args.self.now in
    let i = c.loop-i.i in
    let entry = c.entry-item.result in
    let old = string_bytes c.loop-i.text in
    let new = string_bytes c.push_submit_line.new.text in
    let put : new ≡ old ++ submit_line a.schema.spec a.name a.ids (a.from + i) entry = search rules in
    line_more a.schema.spec a.name a.ids a.from i a.log c.as_slice-entry-items.result.now entry old new c.as_slice-entry-items.ensures c.loop-i-test.true c.entry-item.is put
    ∙ c.loop-i.invariant
