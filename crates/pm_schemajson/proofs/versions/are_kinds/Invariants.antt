use Rattle.std.proofs.Common.{◌≡◌, map, drop}
use Rattle.std.specs.List.{list_all}
use Rattle.pm_schemajson.specs.Versions.{is_kind}
use Rattle.pm_schemajson.proofs.versions.are_kinds.Given as goal

abbrev pub invariant-loop-name : goal.invariant-loop-name
invariant-loop-name l = list_all is_kind (map (λ x. x.now) l.names) ≡ list_all is_kind (map (λ x. x.now) (drop l.name-index l.names))
