-- Each line is a schema or is refused.
use Rattle.std.proofs.Common.{◌≡◌, ◌≤◌, ◌+◌, ◌*◌, ℕ, List, length, Bool, true, false, refl, arith}
use Rattle.std.specs.Prelude.{nat_lt, Option, Some, None, Result, Ok, Err, if◌then◌else◌}
use Rattle.std.specs.Str.{is_utf8}
use Rattle.std.proofs.lemmas.Bool.{ltb-false}
use Rattle.serde_json.specs.Data.{Data}
use Rattle.serde_json.specs.Read.{read}
use Rattle.pm_list.specs.Readings.{or_fault}
use Rattle.pm_auto.specs.Tree.{Tree}
use Rattle.pm_schema.specs.declared.schema.Schema.{Schema}
use Rattle.pm_schemajson.specs.declared.error.SchemaReadError.{SchemaReadError}
use Rattle.pm_schemajson.specs.Types.{Types}
use Rattle.pm_schemajson.specs.Contents.{schema_of}
use Rattle.pm_head.specs.declared.code.Code.{Code}
use Rattle.pm_head.specs.declared.code.Code.TheVariants.{LineTooLong, NotJson}
use Rattle.pm_head.specs.Lines.{json_of, json_line}
use Rattle.pm_head.specs.Schemas.{OfValue, SchemaIs, SchemaLine}
use Rattle.pm_laws.specs.Memory.{Reads}
use Rattle.pm_laws.proofs.ReadTypes.{IsOfTypes, types-reads, own-fault, own-code}
use Rattle.pm_laws.proofs.SmallJson.{IsSmall, read-small}
use Rattle.pm_laws.proofs.NarrowTypes.{lists-narrow}
use Rattle.pm_laws.proofs.SpecThere.{spec-there}
use Rattle.pm_laws.proofs.SchemaThere.{schema-or-not}

-- ---- a line is at most 2^20 bytes, so its value is small

text-of : (line : List ℕ) (d : Data) → json_of line ≡ Some d → read line ≡ Some d
unfolding json_of
text-of line d e = at (is_utf8 line) e
  where
    at : (b : Bool) → (if b then read line else None) ≡ Some d → read line ≡ Some d
    at true e = e
    at false e = absurd (cc)

some-of : (o : Option Data) (d : Data) → or_fault NotJson o ≡ Ok d → o ≡ Some d
some-of None d e = absurd (cc)
some-of (Some x) d e = cc

line-small : (line : List ℕ) (d : Data) → json_line line ≡ Ok d → IsSmall (4 * 1048576 + 1) d
unfolding json_line
line-small line d e = at (nat_lt 1048576 (length line)) refl e
  where
    at : (b : Bool) → nat_lt 1048576 (length line) ≡ b → (if b then Err LineTooLong else or_fault NotJson (json_of line)) ≡ Ok d → IsSmall (4 * 1048576 + 1) d
    at true q e = absurd (cc)
    at false q e =
        let l : length line ≤ 1048576 = ltb-false 1048576 (length line) q in
        read-small (4 * 1048576 + 1) line d (omega (arith, l)) (omega (arith, l)) (text-of line d (some-of (json_of line) d e))

-- ---- line 1

-- a value with a fault of its own is refused
faulty : (d : Data) (f : SchemaReadError) → IsOfTypes f → schema_of d ≡ Err f → (r : Result Schema Code) × SchemaIs d r
faulty d f own e = let c = own-code f own in (Err c.0, (f, own-fault d f own e, c.1))

listed : (d : Data) → IsSmall (4 * 1048576 + 1) d → (types : Types Tree) → schema_of d ≡ Ok types → (r : Result Schema Code) × SchemaIs d r
listed d small types e =
    let s = spec-there d types e (lists-narrow (4 * 1048576 + 1) (omega arith) d types small e) in
    schema-or-not d s.0 s.1 s.2

-- by what the value is read as
by-types : (d : Data) → IsSmall (4 * 1048576 + 1) d → (types : Result (Types Tree) SchemaReadError) → schema_of d ≡ types → Reads IsOfTypes types → (r : Result Schema Code) × SchemaIs d r
by-types d small (Ok types) e own = listed d small types e
by-types d small (Err f) e own = faulty d f own e

pub schema-line : (line : List ℕ) → (r : Result Schema Code) × SchemaLine line r
schema-line line = at (json_line line) refl
  where
    at : (v : Result Data Code) → json_line line ≡ v → (r : Result Schema Code) × OfValue SchemaIs v r
    at (Ok d) e = by-types d (line-small line d e) (schema_of d) refl (types-reads d)
    at (Err code) e = (Err code, refl)
