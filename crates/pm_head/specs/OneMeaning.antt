-- What follows for two meanings of the first three lines, in each form of files.
use Rattle.std.specs.Prelude.{◌≡◌, ℕ, List, Ok, Err}
use Rattle.pm_schema.specs.declared.spec.SchemaSpec.{SchemaSpec}
use Rattle.pm_schemajson.specs.Views.{types_of_spec}
use Rattle.pm_head.specs.declared.form.Form.{Form}
use Rattle.pm_head.specs.declared.fault.Refusal.{Refusal}
use Rattle.pm_head.specs.declared.reading.Head.{Head}
use Rattle.pm_head.specs.Heads.{HeadIs}

-- the specs list the same types, wherever they lie in memory
abbrev pub HaveSameTypes : SchemaSpec → SchemaSpec → Type 0
HaveSameTypes s t = types_of_spec s ≡ types_of_spec t

-- The documents and the clients are the same, and so is each type of the two schemas.
pub record SameHead (g h : Head) : Type 0 where
  pub types : HaveSameTypes g.schema.spec h.schema.spec
  pub doc : g.doc ≡ h.doc
  pub clients : g.clients ≡ h.clients

-- lines that are a head are not refused
abbrev pub HeadExcludesRefusal : List (List ℕ) → Type 0
HeadExcludesRefusal lines = (form : Form) (head : Head) (refusal : Refusal) → HeadIs form lines (Ok head) → HeadIs form lines (Err refusal) → ⊥

-- their refusal, a line and a code, is one
abbrev pub HasOneRefusal : List (List ℕ) → Type 0
HasOneRefusal lines = (form : Form) (refusal other : Refusal) → HeadIs form lines (Err refusal) → HeadIs form lines (Err other) → refusal ≡ other

-- two heads of the lines are the same
abbrev pub HasOneHead : List (List ℕ) → Type 0
HasOneHead lines = (form : Form) (head other : Head) → HeadIs form lines (Ok head) → HeadIs form lines (Ok other) → SameHead head other
