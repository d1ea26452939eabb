-- Passing over a part of the tokens of nodes that stands in more than one of them.
use Rattle.std.specs.Prelude.{◌≡◌, ℕ, ◌+◌, ◌<◌, Bool, true, false, List, [], ◌++◌, length, drop, get_or, Result}
use Rattle.std.specs.declared.sync.Arc.{Arc}
use Rattle.std.specs.Arc.{arc_value}
use Rattle.std.proofs.Common.{ap, sym, ◌∙◌, subst, arith}
use Rattle.pm_tokens.specs.Tokens.{Token}
use Rattle.pm_tokens.specs.Scan.{owned, joins, part}
use Rattle.pm_node.specs.Among.{Stands}
use Rattle.pm_node.specs.declared.node.Node.{Node}
use Rattle.pm_node.specs.Trees.{node_tokens, list_tokens, IsNormal, EachWhole}
use Rattle.pm_node.proofs.WalkLaws.{rest}
use Rattle.pm_build.specs.Fed.{Crossed, Crosses}
use Rattle.pm_build.specs.declared.refused.Refused.{Refused}
use Rattle.pm_build.proofs.SpanLaws.{run-whole, run-rest, across, across-whole, across-cut}
use Rattle.pm_build.proofs.CrossLaws.{crossed-more, crossed-whole, crosses-more, stopped-first}

-- x is the node in which the part starts, and m is what is open after it
module _ {Z : Type 0} (c : ℕ → ℕ → Bool) (b m : List ℕ) (xs : List (Arc Node Z)) (f t i r j s : ℕ) (from : Stands xs f i r) (to : Stands xs t j s) (lt : f < t) (n : IsNormal xs) (w : EachWhole xs) (l : i < j) (x : Arc Node Z) (h : i < length xs) (e : x ≡ get_or xs i x) where
  abbrev first : List Token
  first = node_tokens (arc_value x)

  split : drop r (owned [] (list_tokens (part i j xs))) ≡ part r (length first) (owned [] first) ++ owned [] (list_tokens (part (i + 1) j xs))
  split = run-rest xs i j r x n w l h e (omega (arith, from.inside x h e))

  run-crossed : ((k : ℕ) → c k k ≡ true) → Crossed c b (part r (length first) (owned [] first)) m → Crossed c b (drop r (owned [] (list_tokens (part i j xs)))) m
  run-crossed itself y =
      let more = list_tokens (part (i + 1) j xs) in
      subst (λ p. Crossed c b p m) (sym split) (crossed-more c b m m (part r (length first) (owned [] first)) (owned [] more) y (crossed-whole c itself m more (run-whole xs (i + 1) j w)))

  -- the part ends between nodes
  pub crossed-between : ((k : ℕ) → c k k ≡ true) → Crossed c b (part r (length first) (owned [] first)) m → s ≡ 0 → Crossed c b (part f t (owned [] (list_tokens xs))) m
  crossed-between itself y z = subst (λ p. Crossed c b p m) (sym (across-whole xs f t i r j s from to lt w l z)) (run-crossed itself y)

  -- it ends in a node
  pub crosses-between : ((k : ℕ) → c k k ≡ true) → Crossed c b (part r (length first) (owned [] first)) m → (y : Arc Node Z) (a : List ℕ) (q : Result (Unit {0}) Refused) → j < length xs → y ≡ get_or xs j y
      → Crosses c m (part 0 s (owned [] (node_tokens (arc_value y)))) q a → Crosses c b (part f t (owned [] (list_tokens xs))) q a
  crosses-between itself k y a q g d z =
      subst (λ p. Crosses c b p q a) (sym (across-cut xs f t i r j s from to lt w l y n g d))
      (crosses-more c b m a (drop r (owned [] (list_tokens (part i j xs)))) (part 0 s (owned [] (node_tokens (arc_value y)))) q (run-crossed itself k) z)

  -- a refusal in the first node
  pub stopped-between : joins c b (part r (length first) (owned [] first)) ≡ false → joins c b (part f t (owned [] (list_tokens xs))) ≡ false
  stopped-between z =
      let run = drop r (owned [] (list_tokens (part i j xs))) in
      let here : joins c b run ≡ false = ap (joins c b) split ∙ stopped-first c b (part r (length first) (owned [] first)) (owned [] (list_tokens (part (i + 1) j xs))) z in
      ap (joins c b) (across xs f t i r j s from to lt w l) ∙ stopped-first c b run (part 0 s (owned [] (rest xs j))) here
