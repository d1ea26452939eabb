use Rattle.std.proofs.Common.{subst, sym, List}
use Rattle.std.specs.Prelude.{Some}
use Rattle.pm_meaning.specs.Steps.{Step}
use Rattle.pm_authority.specs.declared.named.Named.{Named}
use Rattle.pm_archive.specs.declared.archive.Archive.{Archive}
use Rattle.pm_archive.specs.Archives.{IsArchive}
use Rattle.pm_archive.proofs.Forgotten.{begun-good}
use Rattle.pm_archive.proofs.archive.Archive.forget.Goals as goal

pub returns-clause-kept : goal.returns-clause-kept
returns-clause-kept c =
    let a : Archive = c.args.self.now in
    subst (λ (xs : List (Named Step)).
    IsArchive (record {
      name = a.name;
      kind = a.kind;
      schema = a.schema;
      from = c.args.version;
      first = c.in_ok-first.first;
      doc = a.doc;
      log = xs;
      ids = a.ids;
    })) (sym c.let_go.ensures) (begun-good a c.args.version (Some c.in_ok-first.first) c.requires c.in_ok-first.ensures)
