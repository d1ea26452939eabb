use Rattle.std.proofs.Common.{◌≡◌, true, List, sym, subst}
use Rattle.pm_meaning.specs.Steps.{Step}
use Rattle.pm_apply.specs.Changes.{meaning}
use Rattle.pm_authority.specs.declared.named.Named.{Named}
use Rattle.pm_anchors.specs.Anchors.{MayFollow}
use Rattle.pm_archive.specs.Mapping.{all_within}
use Rattle.pm_archive.proofs.Mapped.{may-follow}
use Rattle.pm_archive.proofs.archive.Archive.map_kept.Goals as goal

pub anchored-requires : goal.anchored-requires
anchored-requires c =
    let anchors = c.args.anchors.now in
    let within : all_within (meaning.size c.in_ok-doc.doc) anchors ≡ true = cc in
    subst (λ (xs : List (Named Step)). MayFollow meaning xs anchors) (sym c.entries_from-entries.ensures)
    (may-follow c.args.self.now c.args.from c.args.to anchors c.in_ok-doc.doc c.requires.good c.in_ok-doc.ensures within)
