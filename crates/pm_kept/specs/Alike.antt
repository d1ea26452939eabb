-- Talks that stand alike: to lines it is one which of them answers.
use Rattle.std.specs.Prelude.{◌≡◌}
use Rattle.pm_schema.specs.declared.schema.Schema.{Schema}
use Rattle.pm_schema.specs.Built.{IsBuilt}
use Rattle.pm_head.specs.OneMeaning.{HaveSameTypes}
use Rattle.pm_talk.specs.declared.live.Live.{Live}
use Rattle.pm_talk.specs.declared.talk.Talk.{Talk}
use Rattle.pm_talk.specs.declared.talk.Talk.TheVariants.{AwaitsSchema, AwaitsDocument, Open}

-- The schemas were built of the same types, wherever these lie in memory, and however the states of automata are numbered.
pub record AlikeSchemas (s t : Schema) : Type 0 where
  pub types : HaveSameTypes s.spec t.spec
  pub one : IsBuilt s
  pub other : IsBuilt t

-- so are their schemas, and log, documents and IDs are the same
pub record AlikeLives (live other : Live) : Type 0 where
  pub schemas : AlikeSchemas live.schema other.schema
  pub authority : live.authority ≡ other.authority
  pub ids : live.ids ≡ other.ids

-- they await the same line, or are open and are so
abbrev pub Alike : Talk → Talk → Type 0
Alike AwaitsSchema AwaitsSchema = Unit {0}
Alike AwaitsSchema (AwaitsDocument t) = ⊥
Alike AwaitsSchema (Open other) = ⊥
Alike (AwaitsDocument s) AwaitsSchema = ⊥
Alike (AwaitsDocument s) (AwaitsDocument t) = AlikeSchemas s t
Alike (AwaitsDocument s) (Open other) = ⊥
Alike (Open live) AwaitsSchema = ⊥
Alike (Open live) (AwaitsDocument t) = ⊥
Alike (Open live) (Open other) = AlikeLives live other
