-- What is true of a schema that was built.
use Rattle.pm_schema.specs.declared.schema.Schema.{Schema}
use Rattle.pm_schema.specs.Refusals.{IsNamed, HasAutomata}
use Rattle.pm_schema.specs.Generated.{AutosOf, IsGeneratable, AllFinishing}

-- Its types are named well, each content has an automaton, and the schema's are these, with the edges of each state in the
-- order of their first places; its table of generatable types is the least one; and no type has a dead end.
pub record IsBuilt (s : Schema) : Type 0 where
  pub named : IsNamed s.spec
  pub have : HasAutomata s.spec
  pub automata : AutosOf s.spec.nodes s.autos
  pub generatable : IsGeneratable s.spec.nodes s.generatable
  pub live : AllFinishing s.generatable s.autos
