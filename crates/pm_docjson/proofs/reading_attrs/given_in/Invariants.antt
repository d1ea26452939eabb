use Rattle.std.proofs.Common.{◌≡◌, drop, map}
use Rattle.pm_json.specs.Members.{members_of}
use Rattle.pm_list.specs.Readings.{with_front}
use Rattle.pm_schema.specs.Attrs.{pairs_of}
use Rattle.pm_docjson.specs.Reading.{given_in}
use Rattle.pm_docjson.proofs.reading_attrs.given_in.Given as goal

abbrev pub invariant-loop-name : goal.invariant-loop-name
invariant-loop-name g l =
    let seen = map (λ m. (m.0.now, g.J.JsonRef.seen m.1)) in
    with_front (pairs_of l.given.items) (given_in (members_of (seen (drop l.name-index l.members)))) ≡ given_in (members_of (seen l.members))
