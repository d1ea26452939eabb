use Rattle.std.proofs.Common.{List, sym, subst}
use Rattle.std.specs.Prelude.{None}
use Rattle.pm_meaning.specs.Steps.{Step}
use Rattle.pm_apply.specs.Changes.{meaning}
use Rattle.pm_authority.specs.declared.named.Named.{Named}
use Rattle.pm_authors.specs.Authors.{ApplyFrom}
use Rattle.pm_archive.specs.Answers.{entries_from}
use Rattle.pm_archive.proofs.Authored.{apply-from}
use Rattle.pm_archive.proofs.archive.Archive.tell_kept_authors.Goals as goal

pub authors-requires : goal.authors-requires
authors-requires c =
    let doc = c.in_ok-doc.doc in
    subst (λ (xs : List (Named Step)). ApplyFrom meaning xs c.size.result) (sym c.entries_from-entries.ensures)
    (subst (λ n. ApplyFrom meaning (entries_from c.args.self.now c.args.from None) n) (sym c.size.ensures)
    (apply-from c.args.self.now c.args.from doc c.requires.good c.in_ok-doc.ensures))
