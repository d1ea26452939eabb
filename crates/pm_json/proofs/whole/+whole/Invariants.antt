use Rattle.std.proofs.Common.{◌≡◌, drop}
use Rattle.pm_json.proofs.Walks.{items_whole, members_whole}
use Rattle.pm_json.proofs.whole.+whole.Given as goal

abbrev pub invariant-are_whole-loop-item : goal.invariant-are_whole-loop-item
invariant-are_whole-loop-item l = items_whole (drop l.item-index l.items) ≡ items_whole l.items

abbrev pub invariant-have_whole-loop-member : goal.invariant-have_whole-loop-member
invariant-have_whole-loop-member l = members_whole (drop l.member-index l.members) ≡ members_whole l.members
