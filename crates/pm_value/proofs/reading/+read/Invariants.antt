use Rattle.std.proofs.Common.{◌≡◌, drop, ◌++◌}
use Rattle.serde_json.specs.View.{items_view, members_view}
use Rattle.pm_list.specs.Readings.{with_front}
use Rattle.pm_value.specs.Views.{plains, field_pairs}
use Rattle.pm_value.specs.Reading.{list_at, pairs_at}
use Rattle.pm_value.proofs.Keeping.{ValuesKept, FieldsKept}
use Rattle.pm_value.proofs.Names.{names_of, keys}
use Rattle.pm_value.proofs.SameJson.{ahead, front}
use Rattle.pm_value.proofs.reading.+read.Given as goal

abbrev pub invariant-list_at-loop-item : goal.invariant-list_at-loop-item
invariant-list_at-loop-item l = ValuesKept l.values.items × (with_front (plains l.values.items) (list_at (items_view (drop l.item-index l.items)) l.levels) ≡ list_at (items_view l.items) l.levels) × (ahead (plains l.values.items) (items_view (drop l.item-index l.items)) ≡ items_view l.items)

abbrev pub invariant-pairs_at-loop-name : goal.invariant-pairs_at-loop-name
invariant-pairs_at-loop-name l = FieldsKept l.fields.items × (names_of l.fields.items ++ keys l.name-iterator ≡ keys l.members.entries) × (with_front (field_pairs l.fields.items) (pairs_at (members_view l.name-iterator) l.levels) ≡ pairs_at (members_view l.members.entries) l.levels) × (front (field_pairs l.fields.items) (members_view l.name-iterator) ≡ members_view l.members.entries)
