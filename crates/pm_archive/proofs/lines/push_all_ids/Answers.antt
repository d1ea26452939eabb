use Rattle.std.proofs.Common.{◌∙◌, rules, string_bytes}
use Rattle.pm_archive.proofs.Ids.{item_from}
use Rattle.pm_archive.proofs.lines.push_all_ids.Goals as goal

pub loop-i-preserved : goal.loop-i-preserved
loop-i-preserved c =
    item_from (string_bytes c.loop-i.text) (string_bytes c.push_item.new.text) c.id.result.now c.loop-i.later c.args.ids.now c.loop-i.i (search rules) c.id.ensures (search rules)
    ∙ c.loop-i.invariant
