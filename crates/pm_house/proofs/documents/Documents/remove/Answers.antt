use Rattle.std.proofs.Common.{◌∙◌, ap, sym}
use Rattle.std.specs.Prelude.{remove}
use Rattle.indexmap.proofs.SetLemmas.{map-remove}
use Rattle.pm_house.specs.Found.{names_of}
use Rattle.pm_house.proofs.documents.Documents.remove.Goals as goal

pub invariant_of-self : goal.invariant_of-self
invariant_of-self c =
    let items = c.self.inside.archives.items in
    c.remove.ensures
    ∙ (ap (λ ns. remove ns c.args.place) c.self.invariant
    ∙ (sym (map-remove (λ a. a.name) items c.args.place)
    ∙ sym (ap names_of c.remove-archive.ensures.items)))
