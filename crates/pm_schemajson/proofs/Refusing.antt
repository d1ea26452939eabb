-- What `build` refuses is a fault of the JSON, which is never a carried running out of memory.
use Rattle.std.proofs.Common.{◌≡◌, Result, Ok, Err, sym, subst}
use Rattle.std.specs.Prelude.{IfErr}
use Rattle.std.specs.Result.{IsErrAnd}
use Rattle.serde_json.specs.Data.{Data}
use Rattle.pm_schema.specs.declared.spec.SchemaSpec.{SchemaSpec}
use Rattle.pm_schema.specs.declared.error.SchemaError.{SchemaError}
use Rattle.pm_schema.specs.declared.error.SchemaError.TheVariants as build
use Rattle.pm_schema.specs.Refusals.{IsRefused}
use Rattle.pm_schemajson.specs.declared.error.SchemaReadError.{SchemaReadError}
use Rattle.pm_schemajson.specs.Carried.{schema_carried}
use Rattle.pm_schemajson.specs.Contents.{schema_of}
use Rattle.pm_schemajson.specs.Views.{types_of_spec, Refused, IsFault}

refused-is : (d : Data) (e : SchemaError) → Refused d e → IsFault d (schema_carried e)
refused-is d build.NoTop h = h
refused-is d build.NoText h = h
refused-is d build.TextAttrs h = h
refused-is d build.DoubleName h = h
refused-is d build.UnknownMark h = h
refused-is d (build.Content e) h = h
refused-is d (build.DeadEnd k) h = h
refused-is d build.NoMemory h = tt

pub build-refused : {X : Type 0} (d : Data) (spec : SchemaSpec) (e : SchemaError) (r : Result X SchemaReadError) → schema_of d ≡ Ok (types_of_spec spec) → IsRefused spec e
    → IsErrAnd r (λ f. f ≡ schema_carried e) → IfErr r (IsFault d)
build-refused d spec e (Ok x) w h i = absurd i
build-refused d spec e (Err f) w h i = subst (IsFault d) (sym i) (refused-is d e (record { spec = spec; written = w; refused = h }))
