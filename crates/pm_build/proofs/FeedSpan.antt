-- Feeding a part of the tokens of nodes that stands in more than one of them.
use Rattle.std.specs.Prelude.{◌≡◌, ℕ, ◌+◌, ◌-◌, ◌≤◌, ◌<◌, Bool, true, false, List, [], ◌++◌, length, drop, get_or, Result}
use Rattle.std.specs.declared.sync.Arc.{Arc}
use Rattle.std.specs.Arc.{arc_value}
use Rattle.std.proofs.Common.{ap, sym, ◌∙◌, subst, arith, length-append, length-drop}
use Rattle.pm_tokens.specs.Tokens.{Token}
use Rattle.pm_tokens.specs.Scan.{owned, unclosed, joins, part, plain}
use Rattle.pm_tokens.proofs.ScanLaws.{length-owned}
use Rattle.pm_node.specs.Among.{Stands}
use Rattle.pm_node.specs.declared.node.Node.{Node}
use Rattle.pm_node.specs.Trees.{node_tokens, list_tokens, IsNormal, EachWhole}
use Rattle.pm_node.proofs.WalkLaws.{rest}
use Rattle.pm_build.specs.Fed.{Appended, Fed}
use Rattle.pm_build.specs.declared.refused.Refused.{Refused}
use Rattle.pm_build.proofs.SpanLaws.{run-whole, run-first, run-rest, run-length, run-holds, across, across-whole, across-cut}
use Rattle.pm_build.proofs.FedLaws.{appended-more, appended-whole, fed-more, refused-first}
use Rattle.pm_tokens.proofs.SpliceLaws.{length-plain}
use Rattle.pm_tokens.proofs.OwnedParts.{length-part}

-- a run of nodes after the first one: m is what the builder has after the rest of the first one
module _ {Z : Type 0} (c : ℕ → ℕ → Bool) (b m : List Token) (xs : List (Arc Node Z)) (i j r : ℕ) (x : Arc Node Z) (n : IsNormal xs) (w : EachWhole xs) (l : i < j) (h : i < length xs) (e : x ≡ get_or xs i x) (k : r ≤ length (node_tokens (arc_value x))) where
  abbrev first : List Token
  first = node_tokens (arc_value x)

  pub appended-run : ((k : ℕ) → c k k ≡ true) → Appended c b (part r (length first) (owned [] first)) m → (a : List Token) → a ≡ m ++ list_tokens (part (i + 1) j xs) → Appended c b (drop r (owned [] (list_tokens (part i j xs)))) a
  appended-run itself y a s =
      let more = list_tokens (part (i + 1) j xs) in
      subst (λ p. Appended c b p a) (sym (run-rest xs i j r x n w l h e k)) (appended-more c b m a (part r (length first) (owned [] first)) (owned [] more) y (appended-whole c itself m more a (run-whole xs (i + 1) j w) s))

  pub refused-run : joins c (unclosed [] b) (part r (length first) (owned [] first)) ≡ false → joins c (unclosed [] b) (drop r (owned [] (list_tokens (part i j xs)))) ≡ false
  refused-run z =
      ap (joins c (unclosed [] b)) (run-rest xs i j r x n w l h e k) ∙ refused-first c b (part r (length first) (owned [] first)) (owned [] (list_tokens (part (i + 1) j xs))) z

  pub room-run : Appended c b (part r (length first) (owned [] first)) m → length m + length (list_tokens (part (i + 1) j xs)) ≡ length b + (length (list_tokens (part i j xs)) - r)
  room-run y =
      let p = part r (length first) (owned [] first) in
      omega (arith, k, ap length y.tokens, length-append b (plain p), length-plain p, length-part r (length first) (owned [] first), length-owned [] first, ap length (run-first xs i j x l h e), length-append first (list_tokens (part (i + 1) j xs)))

-- a part: m is what the builder has after the run between its ends
module _ {Z : Type 0} (c : ℕ → ℕ → Bool) (b m : List Token) (xs : List (Arc Node Z)) (f t i r j s : ℕ) (from : Stands xs f i r) (to : Stands xs t j s) (lt : f < t) (w : EachWhole xs) (l : i < j) where
  abbrev run : List Token
  run = list_tokens (part i j xs)

  -- it ends between nodes
  pub appended-between : Appended c b (drop r (owned [] run)) m → s ≡ 0 → Appended c b (part f t (owned [] (list_tokens xs))) m
  appended-between y z = subst (λ p. Appended c b p m) (sym (across-whole xs f t i r j s from to lt w l z)) y

  -- it ends in a node
  pub fed-between : Appended c b (drop r (owned [] run)) m → IsNormal xs → (y : Arc Node Z) (a : List Token) (q : Result (Unit {0}) Refused) → j < length xs → y ≡ get_or xs j y
      → Fed c m (part 0 s (owned [] (node_tokens (arc_value y)))) q a → Fed c b (part f t (owned [] (list_tokens xs))) q a
  fed-between k n y a q g d z =
      subst (λ p. Fed c b p q a) (sym (across-cut xs f t i r j s from to lt w l y n g d)) (fed-more c b m a (drop r (owned [] run)) (part 0 s (owned [] (node_tokens (arc_value y)))) q k z)

  -- a refusal in the run
  pub refused-between : joins c (unclosed [] b) (drop r (owned [] run)) ≡ false → joins c (unclosed [] b) (part f t (owned [] (list_tokens xs))) ≡ false
  refused-between z = ap (joins c (unclosed [] b)) (across xs f t i r j s from to lt w l) ∙ refused-first c b (drop r (owned [] run)) (part 0 s (owned [] (rest xs j))) z

  -- what is left to be fed has room
  pub room-between : Appended c b (drop r (owned [] run)) m → length m + s ≤ length b + (t - f)
  room-between y =
      let p = drop r (owned [] run) in
      omega (arith, run-holds xs f t i r j s from to lt w l, run-length xs f t i r j s from to lt w l, ap length y.tokens, length-append b (plain p), length-plain p, length-drop r (owned [] run), length-owned [] run)
