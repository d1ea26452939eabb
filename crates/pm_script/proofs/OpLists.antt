-- Op lines one by one.
use Rattle.std.proofs.Common.{◌≡◌, ◌+◌, ℕ, List, [], ◌∷◌, ◌++◌, refl, ap, ◌∙◌, sym, Result, Ok}
use Rattle.pm_list.specs.Readings.{◌>>=◌, with_front, with_front-more}
use Rattle.pm_schema.specs.declared.spec.SchemaSpec.{SchemaSpec}
use Rattle.pm_head.specs.declared.form.Form.{Form}
use Rattle.pm_head.specs.declared.fault.Refusal.{Refusal}
use Rattle.pm_head.specs.declared.clients.ClientEntry.{ClientEntry}
use Rattle.pm_meaning.specs.Steps.{Step}
use Rattle.pm_ops.specs.declared.op.Op.{Op}
use Rattle.pm_session.specs.declared.line.Line.{Line}
use Rattle.pm_script.specs.Lines.{op_line}
use Rattle.pm_script.specs.Sessions.{at_line, ops_of}

pub ops-step : (form : Form) (s : SchemaSpec) (clients : List ClientEntry) (ops : List (Line Op Step)) (n : ℕ) (op : Line Op Step) (line : List ℕ) (lines rest : List (List ℕ)) (whole : Result (List (Line Op Step)) Refusal)
    → lines ≡ line ∷ rest → at_line n (op_line form s clients ops n line) ≡ Ok op → with_front ops (ops_of form s clients ops n lines) ≡ whole
    → with_front (ops ++ op ∷ []) (ops_of form s clients (ops ++ op ∷ []) (n + 1) rest) ≡ whole
unfolding ops_of
ops-step form s clients ops n op line lines rest whole split read h =
    let later = ops_of form s clients (ops ++ op ∷ []) (n + 1) rest in
    let opened : ops_of form s clients ops n lines ≡ (later >>= λ l. Ok (op ∷ l)) = rw (split, read) refl in
    with_front-more ops op later ∙ ap (with_front ops) (sym opened) ∙ h
