use Rattle.std.proofs.Common.{subst, sym}
use Rattle.pm_schema.specs.Defaults.{HasShallowDefaults}
use Rattle.pm_schemajson.proofs.Unbuilt.{handed-is}
use Rattle.pm_schemajson.proofs.Refusing.{build-refused}
use Rattle.pm_schemajson.proofs.ShallowTypes.{spec-shallow, spec-version}
use Rattle.pm_schemajson.proofs.reading.read_schema.Goals as goal

pub returns-in_err-spec-clause-fault : goal.returns-in_err-spec-clause-fault
returns-in_err-spec-clause-fault g c = handed-is (g.J.JsonRef.seen c.args.json) c.in_err-spec.field-0.0 c.from_residual.result c.from_residual.ensures.1 c.in_err-spec.ensures

pub returns-in_err-schema-clause-fault : goal.returns-in_err-schema-clause-fault
returns-in_err-schema-clause-fault g c =
    build-refused (g.J.JsonRef.seen c.args.json) c.in_ok-spec.spec c.in_err-schema.field-0.0 c.from_residual-in_err-schema.result c.in_ok-spec.ensures c.in_err-schema.ensures.refused c.from_residual-in_err-schema.ensures.1

pub returns-clause-shallow : goal.returns-clause-shallow
returns-clause-shallow g c = let known = spec-shallow (g.J.JsonRef.seen c.args.json) c.in_ok-spec.spec c.in_ok-spec.ensures in subst HasShallowDefaults (sym c.in_ok-schema.ensures.spec) known

pub build-requires : goal.build-requires
build-requires g c = spec-version (g.J.JsonRef.seen c.args.json) c.in_ok-spec.spec c.in_ok-spec.ensures
