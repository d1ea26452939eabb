use Rattle.serde_json.specs.View.{members_view as map_view}
use Rattle.pm_json.proofs.Walks.{Begins, Leads}
use Rattle.pm_json.proofs.owned.+owned.Given as goal

abbrev pub invariant-owned_items-loop-item : goal.invariant-owned_items-loop-item
invariant-owned_items-loop-item l = Begins l.items l.item-index l.values.items

abbrev pub invariant-owned_members-loop-member : goal.invariant-owned_members-loop-member
invariant-owned_members-loop-member l = Leads l.members l.member-index (map_view l.map.entries)
