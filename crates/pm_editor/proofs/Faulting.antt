-- A line with a fault changes nothing.
use Rattle.std.specs.Prelude.{◌≡◌, ℕ, nat_le, Bool, true, false, List, length, Some, None, Result, Ok, Err, if◌then◌else◌}
use Rattle.std.proofs.Common.{ap}
use Rattle.pm_head.specs.declared.code.Code.{Code}
use Rattle.pm_head.specs.declared.code.Code.TheVariants.{OpNotAllowed}
use Rattle.pm_talk.specs.Texts.{fault_text}
use Rattle.pm_editor.specs.declared.editor.Editor.{Editor}
use Rattle.pm_editor.specs.declared.editor.TheConstants.{MAX_CURSORS}
use Rattle.pm_asked.specs.declared.asked.Asked.{Asked}
use Rattle.pm_asked.specs.declared.asked.Asked.TheVariants.{Edit, Can, Turn, Cursor, Compose, Ask, Take, Doc, State}
use Rattle.pm_asked.specs.Asked.{asked_line}
use Rattle.pm_editor.specs.Editors.{answer_to}
use Rattle.pm_editor.specs.Lines.{fault_in, FaultsChangeNothing}

some-same : (a b : Code) → Some a ≡ Some b → a ≡ b
some-same a b h = cc

module _ (e : Editor) (code : Code) where
  -- there is no room for a cursor
  no-room : (b : Bool) (rest : List ℕ × Editor) → (if b then Some OpNotAllowed else None) ≡ Some code
      → (if b then (fault_text OpNotAllowed, e) else rest) ≡ (fault_text code, e)
  no-room true rest h = ap (λ (c : Code). (fault_text c, e)) (some-same OpNotAllowed code h)
  no-room false rest h = absurd (cc)

  faulty : (r : Result Asked Code) → fault_in e r ≡ Some code → answer_to e r ≡ (fault_text code, e)
  faulty (Ok (Edit edit)) h = absurd (cc)
  faulty (Ok (Can edit)) h = absurd (cc)
  faulty (Ok (Turn turn)) h = absurd (cc)
  faulty (Ok (Cursor p side)) h = no-room (nat_le MAX_CURSORS (length e.client.cursors)) _ h
  faulty (Ok Compose) h = absurd (cc)
  faulty (Ok Ask) h = absurd (cc)
  faulty (Ok (Take given)) h = absurd (cc)
  faulty (Ok Doc) h = absurd (cc)
  faulty (Ok State) h = absurd (cc)
  faulty (Err own) h = ap (λ (c : Code). (fault_text c, e)) (some-same own code h)

pub faults-change-nothing : FaultsChangeNothing
faults-change-nothing e line code h = faulty e code (asked_line e.schema.spec e.id line) h
