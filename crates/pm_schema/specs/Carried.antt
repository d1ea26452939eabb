-- The error that an automaton's error becomes.
use Rattle.pm_auto.specs.declared.error.AutoError.{AutoError}
use Rattle.pm_auto.specs.declared.error.AutoError.TheVariants as auto
use Rattle.pm_schema.specs.declared.error.SchemaError.{SchemaError}
use Rattle.pm_schema.specs.declared.error.SchemaError.TheVariants as schema

-- running out of memory is handed on as the schema's own
abbrev pub carried : AutoError → SchemaError
carried auto.Mixed = schema.Content auto.Mixed
carried auto.TooWide = schema.Content auto.TooWide
carried auto.NoMemory = schema.NoMemory
