use Rattle.std.proofs.Common.{◌≡◌, ◌∷◌, [], ◌++◌, List, ℕ, map, length, ap, subst, sym, rules, ◌∙◌}
use Rattle.std.specs.List.{AllByRecursion}
use Rattle.pm_journal.specs.Lines.{recorded, records, IsLine, IsAtRest, HasClosedGate}
use Rattle.pm_journal.proofs.Lines.{records_push, all_push, not_at_rest, none_at_rest}
use Rattle.std.proofs.lemmas.List.{map-append, nil_from_length}
use Rattle.pm_journal.proofs.recovery.parse.Goals as goal

pub loop-line-preserved : goal.loop-line-preserved
loop-line-preserved c =
    let line = c.in-Some.line.now in
    let after = c.in-Some.after.now in
    let so_far = map (λ v. v.items) c.loop-line.lines.items in
    let found = c.in-Some.ensures.some in
    let copied : c.in_ok-to_vec.field-0.items ≡ line = search rules in
    let pushed : map (λ v. v.items) c.push.new.self.items ≡ so_far ++ line ∷ [] =
    ap (map (λ v. v.items)) c.in_ok-push.ensures.items ∙ map-append (λ v. v.items) c.loop-line.lines.items (c.in_ok-to_vec.field-0 ∷ []) ∙ ap (λ (l : List ℕ). so_far ++ l ∷ []) copied in
    record {
      read =
          c.loop-line.invariant.read ∙ ap (λ (r : List ℕ). records so_far ++ r) found.0 ∙ sym (records_push so_far line after)
          ∙ ap (λ (ls : List (List ℕ)). records ls ++ after) (sym pushed);
      are = subst (AllByRecursion IsLine) (sym pushed) (all_push so_far line c.loop-line.invariant.are found.1);
    }

pub returns-then-is_empty-clause-broken : goal.returns-then-is_empty-clause-broken
returns-then-is_empty-clause-broken c e lines some at_rest =
    let rest = c.loop-line.rest.now in
    let none : recorded rest ≡ [] = search rules in
    let counted : length c.loop-line.lines.items ≡ 0 = search rules in
    let empty = nil_from_length c.loop-line.lines.items counted in
    let whole : c.args.bytes.now ≡ rest = c.loop-line.invariant.read ∙ ap (λ vs. records (map (λ v. v.items) vs) ++ rest) empty in
    none_at_rest rest none lines some (subst (IsAtRest lines) whole at_rest)

pub returns-then-not-is_closed-clause-broken : goal.returns-then-not-is_closed-clause-broken
returns-then-not-is_closed-clause-broken c e lines some at_rest =
    let so_far = map (λ v. v.items) c.loop-line.lines.items in
    let rest = c.loop-line.rest.now in
    let none : recorded rest ≡ [] = search rules in
    let shut : ¬ HasClosedGate rest = search rules in
    not_at_rest so_far rest c.loop-line.invariant.are none shut lines (subst (IsAtRest lines) c.loop-line.invariant.read at_rest)
