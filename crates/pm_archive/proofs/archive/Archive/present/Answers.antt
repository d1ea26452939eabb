use Rattle.pm_apply.specs.Changes.{meaning}
use Rattle.pm_apply.specs.Laws.{laws}
use Rattle.pm_authority.proofs.RunFolds.{kept-append}
use Rattle.pm_archive.specs.Archives.{authority_of}
use Rattle.pm_archive.proofs.archive.Archive.present.Goals as goal

pub returns-in-Ok-clause-kept : goal.returns-in-Ok-clause-kept
returns-in-Ok-clause-kept c =
    let a = c.args.self.now in
    let ran = rw c.get.ensures at (rw c.as_slice.ensures at c.in-Ok.ensures) in
    rw c.in_ok-append-in-Ok.ensures.ok (kept-append meaning a.schema laws (authority_of a) c.in-Ok.doc c.in_ok-all.all c.requires ran)
