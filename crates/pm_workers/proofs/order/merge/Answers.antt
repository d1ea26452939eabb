use Rattle.std.proofs.Common.{rules, ◌≡◌, List, ℕ, map, length, subst, sym}
use Rattle.pm_workers.specs.Merges.{ClientLine, numbers, merged, IsOrder}
use Rattle.pm_workers.proofs.MergeLaws.{is-order, each-of, map-numbers, length-map}
use Rattle.pm_workers.proofs.order.merge.Goals as goal

-- the calls' clients, and the clients' lines
abbrev calls : {g : _} → goal.After-drop-left-2 g → List ℕ
calls c = map (λ past. past.seat) c.args.history.now

abbrev lines : {g : _} → goal.After-drop-left-2 g → List (List ClientLine)
lines c = map (λ l. l.items) c.args.lines.now

pub returns-clause-order : goal.returns-clause-order
returns-clause-order g c =
    let whole : c.list_rest.new.order.items ≡ merged (calls c) (lines c) = search rules in
    let within = each-of (λ past. past.seat) (length (lines c)) c.args.history.now (rw (length-map (λ l. l.items) c.args.lines.now) c.requires) in
    subst (λ l. IsOrder l c.list_rest.new.order.items) (map-numbers (λ l. l.items) c.args.lines.now)
    (subst (λ o. IsOrder (map numbers (lines c)) o) (sym whole) (is-order (calls c) (lines c) within))
