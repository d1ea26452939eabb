-- A JSON value writes a schema or has a fault, and the fault's code is one.
use Rattle.std.proofs.Common.{◌≡◌, ℕ, Bool, true, false, ◌&&◌, refl, ◌∙◌, sym, inl, inr, Ok, Err}
use Rattle.std.specs.Prelude.{◌⊎◌, Some}
use Rattle.serde_json.specs.Data.{Data}
use Rattle.pm_auto.specs.declared.error.AutoError.TheVariants as auto
use Rattle.pm_schema.specs.declared.schema.Schema.{Schema}
use Rattle.pm_schema.specs.declared.spec.SchemaSpec.{SchemaSpec}
use Rattle.pm_schema.specs.declared.error.SchemaError.{SchemaError}
use Rattle.pm_schema.specs.declared.error.SchemaError.TheVariants as build
use Rattle.pm_schema.specs.Generated.{FirstDeadEnd}
use Rattle.pm_schema.specs.Refusals.{has_top, has_text, is_plain_text, IsNamed, HasAutomata, IsRefused}
use Rattle.pm_schema.specs.Built.{IsBuilt}
use Rattle.pm_schemajson.specs.declared.error.SchemaReadError.{SchemaReadError}
use Rattle.pm_schemajson.specs.declared.error.SchemaReadError.TheVariants.{Shape, Expr, Schema as Unbuilt, Attr, NoMemory, Name, BadDefault}
use Rattle.pm_schemajson.specs.Contents.{schema_of}
use Rattle.pm_schemajson.specs.Views.{types_of_spec, Refused, IsFault}
use Rattle.pm_schemajson.proofs.SameTypes.{named-alike, automata-alike, no-first-fault}
use Rattle.pm_schemajson.proofs.ReadFaults.{expr-read, attr-read}
use Rattle.pm_schemajson.proofs.SameEnds.{no-dead-end}
use Rattle.pm_head.specs.declared.code.Code.{Code}
use Rattle.pm_head.specs.declared.code.Code.TheVariants.{MixedOrWide, NoSchema, DeadEnd}
use Rattle.pm_head.specs.Codes.{build_code, schema_code}
use Rattle.pm_head.specs.Schemas.{SchemaIs}

-- ---- why types make no schema

three : (a b c : Bool) → a && (b && c) ≡ true → (a ≡ true) × ((b ≡ true) × (c ≡ true))
three true true true h = (refl, (refl, refl))
three true true false h = absurd (cc)
three true false c h = absurd (cc)
three false b c h = absurd (cc)

-- the types are named badly, a content has no automaton, or a type has a dead end
record Bad (t : SchemaSpec) (code : Code) : Type 0 where
  names : IsNamed t → ⊥
  is : code ≡ NoSchema

record Faulty (t : SchemaSpec) (code : Code) : Type 0 where
  named : IsNamed t
  lacks : HasAutomata t → ⊥
  is : code ≡ MixedOrWide

record Dead (t : SchemaSpec) (code : Code) : Type 0 where
  named : IsNamed t
  have : HasAutomata t
  kind : ℕ
  dead : FirstDeadEnd t.nodes kind
  is : code ≡ DeadEnd

abbrev Cause : SchemaSpec → Code → Type 0
Cause t code = Bad t code ⊎ (Faulty t code ⊎ Dead t code)

cause : (t : SchemaSpec) (e : SchemaError) (code : Code) → IsRefused t e → build_code e ≡ Some code → Cause t code
cause t build.NoTop code r c = inl (record { names = λ n. let a : has_top t ≡ true = (three (has_top t) (has_text t) (is_plain_text t) n.types).0 in absurd (cc); is = cc })
cause t build.NoText code r c = inl (record { names = λ n. let a : has_text t ≡ true = (three (has_top t) (has_text t) (is_plain_text t) n.types).1.0 in let b : has_text t ≡ false = r.1 in absurd (cc); is = cc })
cause t build.TextAttrs code r c = inl (record { names = λ n. let a : is_plain_text t ≡ true = (three (has_top t) (has_text t) (is_plain_text t) n.types).1.1 in let b : is_plain_text t ≡ false = r.2 in absurd (cc); is = cc })
cause t build.DoubleName code r c = inl (record { names = λ n. let a = n.differ in let b = r.1 in absurd (cc); is = cc })
cause t build.UnknownMark code r c = inl (record { names = λ n. let a = n.marks in let b = r.2 in absurd (cc); is = cc })
cause t (build.Content auto.Mixed) code r c = inr (inl (record { named = r.0; lacks = no-first-fault t (inl r.1); is = cc }))
cause t (build.Content auto.TooWide) code r c = inr (inl (record { named = r.0; lacks = no-first-fault t (inr r.1); is = cc }))
cause t (build.Content auto.NoMemory) code r c = absurd r
cause t (build.DeadEnd k) code r c = inr (inr (record { named = r.0; have = r.1; kind = k; dead = r.2; is = cc }))
cause t build.NoMemory code r c = absurd (cc)

-- ---- a fault is one of the reading, or a cause

record IsUnread (d : Data) (code : Code) : Type 0 where
  fault : SchemaReadError
  read : schema_of d ≡ Err fault
  is : schema_code fault ≡ Some code

record IsUnbuilt (d : Data) (code : Code) : Type 0 where
  spec : SchemaSpec
  written : schema_of d ≡ Ok (types_of_spec spec)
  cause : Cause spec code

unbuilt : (d : Data) (e : SchemaError) (code : Code) → Refused d e → build_code e ≡ Some code → IsUnbuilt d code
unbuilt d e code r c = record { spec = r.spec; written = r.written; cause = cause r.spec e code r.refused c }

split : (d : Data) (f : SchemaReadError) (code : Code) → IsFault d f → schema_code f ≡ Some code → IsUnread d code ⊎ IsUnbuilt d code
split d (Shape a) code i c = inl (record { fault = Shape a; read = i; is = c })
split d (Expr k e) code i c = inl (record { fault = Expr k e; read = expr-read d k e i; is = c })
split d (Attr e) code i c = inl (record { fault = Attr e; read = attr-read d e i; is = c })
split d (Name a) code i c = inl (record { fault = Name a; read = i; is = c })
split d (BadDefault n) code i c = inl (record { fault = BadDefault n; read = i; is = c })
split d NoMemory code i c = absurd (cc)
split d (Unbuilt build.NoTop) code i c = inr (unbuilt d build.NoTop code i c)
split d (Unbuilt build.NoText) code i c = inr (unbuilt d build.NoText code i c)
split d (Unbuilt build.TextAttrs) code i c = inr (unbuilt d build.TextAttrs code i c)
split d (Unbuilt build.DoubleName) code i c = inr (unbuilt d build.DoubleName code i c)
split d (Unbuilt build.UnknownMark) code i c = inr (unbuilt d build.UnknownMark code i c)
split d (Unbuilt (build.Content e)) code i c = inr (unbuilt d (build.Content e) code i c)
split d (Unbuilt (build.DeadEnd k)) code i c = inr (unbuilt d (build.DeadEnd k) code i c)
split d (Unbuilt build.NoMemory) code i c = absurd i

-- ---- the laws

not-built : (s : Schema) (t : SchemaSpec) (code : Code) → types_of_spec s.spec ≡ types_of_spec t → IsBuilt s → Cause t code → ⊥
not-built s t code h b (inl x) = x.names (named-alike s.spec t h b.named)
not-built s t code h b (inr (inl x)) = x.lacks (automata-alike s.spec t h b.have)
not-built s t code h b (inr (inr x)) = no-dead-end s t x.kind h b x.dead

pub schema-apart : (d : Data) (s : Schema) (code : Code) → SchemaIs d (Ok s) → SchemaIs d (Err code) → ⊥
schema-apart d s code h e = at (split d e.0 code e.1 e.2)
  where
    at : IsUnread d code ⊎ IsUnbuilt d code → ⊥
    at (inl x) = let a = h.0 in let b = x.read in absurd (cc)
    at (inr x) = let a = h.0 in let b = x.written in let same : types_of_spec s.spec ≡ types_of_spec x.spec = cc in not-built s x.spec code same h.1 x.cause

one-cause : (t u : SchemaSpec) (code other : Code) → types_of_spec t ≡ types_of_spec u → Cause t code → Cause u other → code ≡ other
one-cause t u code other h (inl x) (inl y) = x.is ∙ sym y.is
one-cause t u code other h (inl x) (inr (inl y)) = absurd (x.names (named-alike u t (sym h) y.named))
one-cause t u code other h (inl x) (inr (inr y)) = absurd (x.names (named-alike u t (sym h) y.named))
one-cause t u code other h (inr (inl x)) (inl y) = absurd (y.names (named-alike t u h x.named))
one-cause t u code other h (inr (inl x)) (inr (inl y)) = x.is ∙ sym y.is
one-cause t u code other h (inr (inl x)) (inr (inr y)) = absurd (x.lacks (automata-alike u t (sym h) y.have))
one-cause t u code other h (inr (inr x)) (inl y) = absurd (y.names (named-alike t u h x.named))
one-cause t u code other h (inr (inr x)) (inr (inl y)) = absurd (y.lacks (automata-alike t u h x.have))
one-cause t u code other h (inr (inr x)) (inr (inr y)) = x.is ∙ sym y.is

pub schema-code : (d : Data) (code other : Code) → SchemaIs d (Err code) → SchemaIs d (Err other) → code ≡ other
schema-code d code other e f = at (split d e.0 code e.1 e.2) (split d f.0 other f.1 f.2)
  where
    at : IsUnread d code ⊎ IsUnbuilt d code → IsUnread d other ⊎ IsUnbuilt d other → code ≡ other
    at (inl x) (inl y) = let a = x.read in let b = y.read in let g : x.fault ≡ y.fault = cc in let p = x.is in let q = y.is in cc
    at (inl x) (inr y) = let a = x.read in let b = y.written in absurd (cc)
    at (inr x) (inl y) = let a = x.written in let b = y.read in absurd (cc)
    at (inr x) (inr y) = let a = x.written in let b = y.written in let same : types_of_spec x.spec ≡ types_of_spec y.spec = cc in one-cause x.spec y.spec code other same x.cause y.cause
