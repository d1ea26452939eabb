use Rattle.std.proofs.Common.{◌≡◌, ◌∙◌, ◌<◌, ℕ, List, length, refl, ap, sym, subst, string_bytes}
use Rattle.std.specs.Prelude.{Some}
use Rattle.serde_json.specs.View.{view}
use Rattle.pm_archive.specs.declared.archive.Archive.{Archive}
use Rattle.pm_house.specs.declared.house.TheConstants.{MAX_DOCUMENTS}
use Rattle.pm_house.specs.Found.{kind_of}
use Rattle.pm_house.proofs.Heard.{heard-told, heard-good}
use Rattle.pm_house.proofs.house.House.open_new.Goals as goal

pub returns-in_ok-add-in-Some-archive-clause-told : goal.returns-in_ok-add-in-Some-archive-clause-told
returns-in_ok-add-in-Some-archive-clause-told c =
    let h = c.args.self.now in
    let o = c.args.opening in
    let a = c.in-Some-archive.archive in
    let heard = c.in_ok-text-in-Some.field-0 in
    let is : heard.archive ≡ Some a = cc in
    let found : kind_of o.kind h.schemas ≡ Some c.in-Some.kind.now =
    sym (c.in-Some.ensures ∙ (ap (λ (n : List ℕ). kind_of n c.as_slice.result.now) c.as_str.ensures ∙ ap (kind_of o.kind) c.as_slice.ensures)) in
    let room : length h.documents < MAX_DOCUMENTS =
    subst (λ (xs : List Archive). length xs < MAX_DOCUMENTS) c.as_slice-in-Some.ensures c.if-as_slice-ge-MAX_DOCUMENTS.false in
    heard-told (view c.args.json.now) o c.in-Some.kind.now (string_bytes heard.text) heard.archive a h.documents c.add.new.self
    c.in_ok-text-in-Some.ensures is c.in_ok-add-in-Some-archive.ensures.ok h (kind_of o.kind h.schemas) refl found room

pub returns-in_ok-add-in-Some-archive-clause-good : goal.returns-in_ok-add-in-Some-archive-clause-good
returns-in_ok-add-in-Some-archive-clause-good c =
    let a = c.in-Some-archive.archive in
    let heard = c.in_ok-text-in-Some.field-0 in
    let is : heard.archive ≡ Some a = cc in
    heard-good (view c.args.json.now) c.args.opening c.in-Some.kind.now (string_bytes heard.text) heard.archive a c.args.self.now.documents c.add.new.self
    c.in_ok-text-in-Some.ensures is c.in_ok-add-in-Some-archive.ensures.ok c.requires.good
