-- What clients came to, gathered in one order.
use Rattle.std.specs.List.{AllByRecursion as Each}
use Rattle.std.proofs.Common.{◌≡◌, ℕ, zero, suc, ◌+◌, ◌<◌, ◌≤◌, Bool, true, false, cond, List, [], ◌∷◌, ◌++◌, length, map, flat_map, get_or, slice_set, All, Result, refl, sym, ap, ap₂, ◌∙◌, subst, arith}
use Rattle.std.specs.Prelude.{◌==◌}
use Rattle.pm_change.specs.Changes.{Meaning}
use Rattle.pm_authority.specs.declared.machine.Request.{Request}
use Rattle.pm_desk.specs.declared.history.Past.{Past}
use Rattle.pm_session.specs.declared.line.Line.{Line}
use Rattle.pm_change.specs.declared.no_step.NoStep.{NoStep}
use Rattle.pm_session.specs.declared.outcome.Outcome.{Outcome}
use Rattle.pm_session.specs.Events.{State}
use Rattle.pm_session.specs.Sessions.{session}
use Rattle.pm_session.specs.Suits.{LinesSuit}
use Rattle.pm_workers.specs.Gathered.{ordered, turns_of, PlayedApart}
use Rattle.pm_workers.specs.Merges.{ClientLine, numbers, through_call, after_call, merged, IsOrder}
use Rattle.pm_workers.specs.Merges.IsOrder.{nothing}
use Rattle.pm_workers.specs.Threads.{presents, lines_of, by_client, callers, in_order, dealt, order_of}
use Rattle.pm_workers.proofs.Dealing.{map-in_order}
use Rattle.pm_workers.proofs.Owns.{each-through, each-after}

-- the number is one of the first n
abbrev IsBelow : ℕ → ClientLine → Type 0
IsBelow n x = x.0 < n

all-of : {A : Type 0} (P : A → Type 0) (xs : List A) → Each P xs → All P xs
all-of P [] h k e lt = absurd (omega (arith, lt))
all-of P (x ∷ xs) h zero e lt = h.0
all-of P (x ∷ xs) h (suc k) e lt = all-of P xs h.1 k e (omega (arith, lt))

each-append : (n : ℕ) (xs ys : List ℕ) → Each (λ k. k < n) xs → Each (λ k. k < n) ys → Each (λ k. k < n) (xs ++ ys)
each-append n [] ys h e = e
each-append n (x ∷ xs) ys h e = (h.0, each-append n xs ys h.1 e)

each-number : (n : ℕ) (xs : List ClientLine) → Each (IsBelow n) xs → Each (λ k. k < n) (numbers xs)
each-number n [] h = tt
each-number n (x ∷ xs) h = (h.0, each-number n xs h.1)

each-set : (n : ℕ) (left : List (List ClientLine)) (i : ℕ) (v : List ClientLine) → Each (λ xs. Each (IsBelow n) xs) left → Each (IsBelow n) v → Each (λ xs. Each (IsBelow n) xs) (slice_set left i v)
each-set n [] i v h e = tt
each-set n (xs ∷ left) zero v h e = (e, h.1)
each-set n (xs ∷ left) (suc i) v h e = (h.0, each-set n left i v h.1 e)

each-or : (n : ℕ) (left : List (List ClientLine)) (i : ℕ) → Each (λ xs. Each (IsBelow n) xs) left → Each (IsBelow n) (get_or left i [])
each-or n [] i h = tt
each-or n (xs ∷ left) zero h = h.0
each-or n (xs ∷ left) (suc i) h = each-or n left i h.1

merged-below : (n : ℕ) (calls : List ℕ) (left : List (List ClientLine)) → Each (λ xs. Each (IsBelow n) xs) left → Each (λ k. k < n) (merged calls left)
merged-below n [] [] h = tt
merged-below n [] (xs ∷ left) h = each-append n (numbers xs) (flat_map numbers left) (each-number n xs h.0) (merged-below n [] left h.1)
merged-below n (c ∷ calls) left h =
    let mine = get_or left c [] in
    let own : Each (IsBelow n) mine = each-or n left c h in
    each-append n (numbers (through_call mine)) (merged calls (slice_set left c (after_call mine))) (each-number n (through_call mine) (each-through (IsBelow n) mine own))
    (merged-below n calls (slice_set left c (after_call mine)) (each-set n left c (after_call mine) h (each-after (IsBelow n) mine own)))

module _ {Op C : Type 0} where
  lines-below : (n i k : ℕ) (lines : List (Line Op C)) → k + length lines ≤ n → Each (IsBelow n) (lines_of i k lines)
  lines-below n i k [] h = tt
  lines-below n i k (line ∷ lines) h = by (line.client == i) (lines-below n i (k + 1) lines (omega (arith, h)))
    where
      by : (b : Bool) → Each (IsBelow n) (lines_of i (k + 1) lines) → Each (IsBelow n) (cond b ((k, presents line.act) ∷ lines_of i (k + 1) lines) (lines_of i (k + 1) lines))
      by true e = (omega (arith, h), e)
      by false e = e

  files-below : (i n : ℕ) (lines : List (Line Op C)) → Each (λ xs. Each (IsBelow (length lines)) xs) (by_client i n lines)
  files-below i zero lines = tt
  files-below i (suc n) lines = (lines-below (length lines) i 0 lines (omega arith), files-below (i + 1) n lines)

  -- each place in the order that a history makes of lines is a line's
  pub order-below : (n : ℕ) (calls : List ℕ) (lines : List (Line Op C)) → All (λ k. k < length lines) (merged calls (by_client 0 n lines))
  order-below n calls lines = all-of (λ k. k < length lines) (merged calls (by_client 0 n lines)) (merged-below (length lines) calls (by_client 0 n lines) (files-below 0 n lines))

-- What clients that played apart left, gathered in the order that their calls make.
module _ {Rules Doc Reason C Op : Type 0} (m : Meaning Rules Doc Reason C) (rules : Rules) (makes : Doc → Op → Result (List C) NoStep) (n : ℕ) (s : State C Rules Doc Reason)
    (lines : List (Line Op C)) (log : List (Past (Request C))) (own : List (List (Line Op C))) (outcomes : List (List (Outcome C Rules Doc Reason))) (end : State C Rules Doc Reason)
    (p : PlayedApart m rules makes n s lines log own outcomes end) (filed : List (List ClientLine)) (order clients turns : List ℕ) (file : filed ≡ by_client 0 n lines)
    (merges : order ≡ merged (map (λ past. past.seat) log) filed) (clients_are : clients ≡ map (λ line. line.client) lines) (picks : turns ≡ in_order clients order) where
  order-is : order ≡ order_of n lines log
  order-is = merges ∙ ap (merged (map (λ past. past.seat) log)) file

  pub turns-are : turns ≡ turns_of n lines log
  turns-are =
      picks ∙ ap (λ l. in_order l order) clients_are ∙ sym (map-in_order (λ (line : Line Op C). line.client) lines order)
      ∙ ap (λ o. map (λ (line : Line Op C). line.client) (in_order lines o)) order-is

  module _ (dealt_lines : List (Line Op C)) (dealt_outcomes : List (Outcome C Rules Doc Reason)) (by_lines : dealt_lines ≡ dealt turns own) (by_outcomes : dealt_outcomes ≡ dealt turns outcomes) where
    are : dealt_lines ≡ ordered n lines log
    are = by_lines ∙ ap (λ t. dealt t own) turns-are ∙ p.lines_are

    pub gives-lines : dealt_lines ≡ in_order lines order
    gives-lines = are ∙ ap (in_order lines) (sym order-is)

    pub gives-order : order ≡ merged (callers dealt_lines) (by_client 0 n lines)
    gives-order = order-is ∙ ap (λ l. merged l (by_client 0 n lines)) (sym p.callers_are) ∙ ap (λ l. merged (callers l) (by_client 0 n lines)) (sym are)

    pub gives-suit : LinesSuit s dealt_lines
    gives-suit = subst (λ l. LinesSuit s l) (sym are) p.suit

    pub gives-session : (dealt_outcomes, end) ≡ session m rules makes s dealt_lines
    gives-session = ap (λ l. (l, end)) (by_outcomes ∙ ap (λ t. dealt t outcomes) turns-are) ∙ p.plays ∙ ap (session m rules makes s) (sym are)

-- where there is no client, there is no line
pub no-lines : {Op C : Type 0} (n : ℕ) (lines : List (Line Op C)) → n ≡ 0 → All (λ line. line.client < n) lines → lines ≡ []
no-lines n [] none h = refl
no-lines n (line ∷ lines) none h = let lt : line.client < n = h 0 line (omega arith) in absurd (omega (arith, lt, none))

-- and the order is empty
pub none-ordered : {Op C : Type 0} (n : ℕ) (lines : List (Line Op C)) → n ≡ 0 → lines ≡ [] → [] ≡ merged (callers lines) (by_client 0 n lines)
none-ordered n lines none is = ap₂ (λ k l. merged (callers l) (by_client 0 k l)) (sym none) (sym is)

pub none-once : {Op C : Type 0} (n : ℕ) (lines : List (Line Op C)) → n ≡ 0 → IsOrder (map numbers (by_client 0 n lines)) []
none-once n lines none = subst (λ k. IsOrder (map numbers (by_client 0 k lines)) []) (sym none) (nothing [] tt)

pub none-listed : {Op C : Type 0} (n : ℕ) (lines : List (Line Op C)) → n ≡ 0 → [] ≡ merged [] (by_client 0 n lines)
none-listed n lines none = ap (λ k. merged [] (by_client 0 k lines)) (sym none)
