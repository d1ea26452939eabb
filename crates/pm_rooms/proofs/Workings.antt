-- A person that played all its lines.
use Rattle.std.proofs.Common.{◌≡◌, List, length, Result, ap, ◌∙◌}
use Rattle.pm_change.specs.Changes.{Meaning}
use Rattle.pm_change.specs.declared.no_step.NoStep.{NoStep}
use Rattle.pm_authority.specs.declared.authority.Authority.{Authority}
use Rattle.pm_desk.specs.Desks.{DeskValue}
use Rattle.pm_rooms.specs.declared.person.Person.{Person}
use Rattle.pm_rooms.specs.People.{PersonFinished, PersonWorked}
use Rattle.pm_rooms.proofs.StandLines.{given-each}

pub person-worked : {Rules Doc Reason C Op : Type 0} (m : Meaning Rules Doc Reason C) (desks : List (DeskValue (Authority C Rules Doc Reason) Rules))
    (makes : Rules → Doc → Op → Result (List C) NoStep) (p q : Person C Op Rules Doc Reason) → PersonFinished m desks makes p q
    → length q.outcomes.items ≡ length q.lines.items → PersonWorked m desks makes p q
person-worked m desks makes p q h done =
    let each : length q.outcomes.items ≡ length p.lines.items = done ∙ ap (λ l. length l.items) h.lines in
    record {
      lines = h.lines;
      each_line = each;
      count = h.stands.count;
      each = λ j x y d at at_y desk. (h.stands.each j x y d at at_y desk).finished.worked (given-each x p.lines.items q.outcomes.items each);
    }
