use Rattle.std.proofs.Common.{◌≡◌, ◌++◌, true, length, map, drop}
use Rattle.pm_json.specs.Members.{members_of}
use Rattle.pm_list.specs.Readings.{with_front}
use Rattle.pm_schema.specs.AttrNames.{attr_names}
use Rattle.pm_schema.specs.Defaults.{have_kinds}
use Rattle.pm_schemajson.specs.Reading.{attr_list}
use Rattle.pm_schemajson.specs.Views.{attributes}
use Rattle.pm_schemajson.proofs.attrs.attr_list.Given as goal

abbrev pub invariant-loop-name : goal.invariant-loop-name
invariant-loop-name g l =
    let seen = map (λ m. (m.0.now, g.J.JsonRef.seen m.1)) in
    record {
      names : attr_names l.attrs ++ map (λ m. m.0.now) (drop l.name-index l.members) ≡ map (λ m. m.0.now) l.members;
      same : with_front (attributes l.attrs) (attr_list l.version (length l.attrs) (members_of (seen (drop l.name-index l.members)))) ≡ attr_list l.version 0 (members_of (seen l.members));
      kinds : have_kinds l.attrs ≡ true;
    }
