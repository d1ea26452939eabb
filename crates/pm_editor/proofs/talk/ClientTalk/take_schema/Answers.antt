use Rattle.std.proofs.Common.{sym, subst, refl, string_bytes, Ok, Err}
use Rattle.std.specs.Prelude.{IfOk}
use Rattle.pm_serve.specs.declared.service.Reply.{Reply}
use Rattle.pm_editor.specs.declared.talk.ClientTalk.{ClientTalk}
use Rattle.pm_editor.specs.declared.talk.ClientTalk.TheVariants.{AwaitsDocument}
use Rattle.pm_editor.specs.Talk.{Replies}
use Rattle.pm_editor.proofs.Openings.{schema-faulty}
use Rattle.pm_editor.proofs.talk.ClientTalk.take_schema.Goals as goal

pub returns-in-Ok-clause-told : goal.returns-in-Ok-clause-told
returns-in-Ok-clause-told c =
    subst (λ (t : ClientTalk). Replies t c.args.line.now (string_bytes c.silent.result.text) c.silent.result.more (AwaitsDocument c.in-Ok.schema)) (sym c.requires)
    (Ok c.in-Ok.schema, c.in-Ok.ensures, (c.silent.ensures.text, c.silent.ensures.more, refl))

pub returns-in-Err-clause-told : goal.returns-in-Err-clause-told
returns-in-Err-clause-told c =
    subst (λ (t : ClientTalk). IfOk c.faulty.result (λ (r : Reply). Replies t c.args.line.now (string_bytes r.text) r.more t)) (sym c.requires)
    (schema-faulty c.args.line.now c.in-Err.error c.in-Err.ensures c.faulty.result c.faulty.ensures)
