use Rattle.pm_archive.proofs.Reverted.{picked-end}
use Rattle.pm_archive.proofs.archive.Archive.take_back.Goals as goal

pub revert-requires : goal.revert-requires
revert-requires c =
    picked-end c.args.self.now c.args.from c.args.count c.get.result.now c.entries_from-entries.result.now c.entries_from-later.result.now
    (record { schema = c.get.ensures; entries_are = c.entries_from-entries.ensures; later_are = c.entries_from-later.ensures })
    c.args.before.now c.requires.good c.requires.from c.requires.before
