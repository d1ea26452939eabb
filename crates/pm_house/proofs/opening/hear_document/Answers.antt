use Rattle.std.proofs.Common.{◌∙◌, ℕ, ap, subst, Ok}
use Rattle.std.specs.Prelude.{Some}
use Rattle.serde_json.specs.View.{view}
use Rattle.pm_tokens.specs.Faults.{Valid}
use Rattle.pm_schema.specs.declared.schema.Schema.{Schema}
use Rattle.pm_schema.specs.Documents.{documents_of}
use Rattle.pm_order.specs.Values.{DocumentIn}
use Rattle.pm_archive.specs.Archives.{opened}
use Rattle.pm_archive.specs.Texts.{opened_text}
use Rattle.pm_house.proofs.opening.hear_document.Goals as goal

pub returns-in-Ok : goal.returns-in-Ok
returns-in-Ok c =
    let doc = c.in-Ok.doc in
    let o = c.args.opening in (
      Ok doc,
      subst (λ (s : Schema). DocumentIn s (view c.args.json.now) (Ok doc)) c.get.ensures c.in-Ok.ensures.read,
      (
        subst (λ (s : Schema). Valid (documents_of s.spec) doc) c.get.ensures c.in-Ok.ensures.valid,
        c.in_ok-text-in-Ok.ensures ∙ ap (λ (n : ℕ). opened_text n o.version) c.size.ensures,
        ap Some (c.in_ok-archive-in-Ok.ensures.opened ∙ ap (λ (s : Schema). opened o.name o.kind s o.version doc o.ids) c.in_ok-schema-in-Ok.ensures),
      ),
    )
