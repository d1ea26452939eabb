use Rattle.std.proofs.Common.{◌≡◌, ◌∙◌, inr, rules}
use Rattle.pm_house.specs.Keeping.{house_meaning, resumed_text}
use Rattle.pm_live.proofs.Files.{durable}
use Rattle.pm_live.proofs.Packed.{packs, fills_leave}
use Rattle.pm_live.proofs.packing.pack.Goals as goal

pub fill-filling-requires-clause-durable : goal.fill-filling-requires-clause-durable
fill-filling-requires-clause-durable g c =
    durable house_meaning g.D.Disk.seen g.D.Disk.may_leave g.D.Disk.is_clean g.D.Disk.is_usable g.D.Disk.faults c.args.disk c.is_blank.new.disk c.is_blank.ensures.seen c.is_blank.ensures.crash c.is_blank.ensures.clean c.requires.durable

pub returns-clause-packs : goal.returns-clause-packs
returns-clause-packs g c =
    let house = c.args.house.now in
    let text : c.as_bytes.result.now ≡ resumed_text house = c.as_bytes.ensures.value ∙ c.in-Ok-Ok.ensures' in
    packs g.D.Disk.seen g.D.Disk.may_leave g.D.Disk.is_clean g.D.Disk.is_usable g.D.Disk.faults c.fill-filling.result.filling c.end.result house c.as_bytes.result.now
    c.args.disk c.is_blank.new.disk c.fill-filling.result.disk _ _ _ _ (search rules) text c.fill-filling.ensures c.end.ensures

pub returns-clause-again : goal.returns-clause-again
returns-clause-again g c =
    inr (fills_leave g.D.Disk.seen g.D.Disk.may_leave g.D.Disk.is_clean g.D.Disk.is_usable g.D.Disk.faults c.fill-filling.result.filling c.args.house.now c.is_blank.new.disk c.fill-filling.result.disk c.fill-filling.ensures)
