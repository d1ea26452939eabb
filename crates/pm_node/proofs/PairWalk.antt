-- A walk over children that looks for a broken unit.
use Rattle.std.specs.Prelude.{◌≡◌, ℕ, zero, suc, ◌+◌, ◌<◌, ◌≤◌, ◌^◌, true, Option, Some, None, List, [], ◌∷◌, ◌++◌, length, slice_index}
use Rattle.std.specs.declared.sync.Arc.{Arc}
use Rattle.std.proofs.Common.{refl, ap, sym, ◌∙◌, subst, arith, true≢false}
use Rattle.pm_text.specs.Lone.{is_lone, HasNoLone, IsFirstLone}
use Rattle.pm_tokens.specs.Tokens.{Attrs, Marks, Token, Close}
use Rattle.pm_tokens.specs.Kids.{text_tokens, EndsText}
use Rattle.pm_tokens.specs.Faults.{Fault, Pair, first_some, first_broken}
use Rattle.pm_tokens.proofs.FaultLaws.{last_unit, unit_of, PartsTexts, broken-append, broken-node, text-whole, text-broken, some-nothing}
use Rattle.pm_node.specs.declared.node.Node.{Node}
use Rattle.pm_node.specs.declared.node.Body.{Body}
use Rattle.pm_node.specs.declared.node.Body.TheVariants.{Text, Leaf as Childless, Children}
use Rattle.pm_node.specs.Trees.{body_tokens, node_tokens, list_tokens, IsText}
use Rattle.pm_node.proofs.TreeLaws.{node_tokens_at, length-text_tokens}
use Rattle.pm_node.proofs.WalkLaws.{rest, rest-length, Child}
use Rattle.pm_node.proofs.KindLaws.{ends-apart}

-- the children before child i have no broken unit, and `at` is the place of its first token
pub record Walked {Z : Type 0} (xs : List (Arc Node Z)) (i from at : ℕ) : Type 0 where
  pub fine : first_broken from None (list_tokens xs) ≡ first_broken at None (rest xs i)
  pub place : at + length (rest xs i) ≡ from + length (list_tokens xs)

last-text : (r : Option Marks) (m : Marks) (us : List ℕ) → 0 < length (text_tokens m us) → last_unit r (text_tokens m us) ≡ Some m
last-text r m [] p = absurd (omega arith)
last-text r m (u ∷ []) p = refl
last-text r m (u ∷ (v ∷ us)) p = last-text (Some m) m (v ∷ us) (omega arith)

last-closed : (r : Option Marks) (ts : List Token) → last_unit r (ts ++ (Close ∷ [])) ≡ None
last-closed r [] = refl
last-closed r (t ∷ ts) = last-closed (unit_of t) ts

-- no text goes on from a child into the children after it
pub parts-body : (k : ℕ) (a : Attrs) (m : Marks) (b : Body) (ts : List Token) → 0 < length (body_tokens k a m b) → (IsText b → EndsText m ts) → PartsTexts (last_unit None (body_tokens k a m b)) ts
parts-body k a m (Text us) ts p e = subst (λ r. PartsTexts r ts) (sym (last-text None m us p)) (e tt)
parts-body k a m Childless ts p e = tt
parts-body k a m (Children inner) ts p e = subst (λ r. PartsTexts r ts) (sym (last-closed None inner)) tt

module _ {Z : Type 0} (xs : List (Arc Node Z)) (i : ℕ) (n : Node) (c : Child xs i n) where
  -- the first broken unit from child i on is the child's, or one after it
  pub broken-child : (at : ℕ) → first_broken at None (rest xs i) ≡ first_some (first_broken at None (node_tokens n)) (first_broken (at + length (node_tokens n)) None (rest xs (i + 1)))
  broken-child at =
      ap (first_broken at None) c.tokens ∙ broken-append at (node_tokens n) (rest xs (i + 1)) (parts-body n.kind n.attrs n.marks n.body (rest xs (i + 1)) c.full (λ t. ends-apart n _ t c.apart c.normal))

  pub walked-more : (from at : ℕ) → Walked xs i from at → first_broken at None (node_tokens n) ≡ None → Walked xs (i + 1) from (at + length (node_tokens n))
  walked-more from at w h = record {
    fine = w.fine ∙ (broken-child at ∙ ap (λ z. first_some z (first_broken (at + length (node_tokens n)) None (rest xs (i + 1)))) h);
    place = omega (arith, w.place, rest-length c);
  }

  pub walked-broken : (from at : ℕ) (p : Fault) → Walked xs i from at → first_broken at None (node_tokens n) ≡ Some p → first_broken from None (list_tokens xs) ≡ Some p
  walked-broken from at p w h = w.fine ∙ (broken-child at ∙ ap (λ z. first_some z (first_broken (at + length (node_tokens n)) None (rest xs (i + 1)))) h)

  -- the child has room
  pub walked-room : (from at : ℕ) → Walked xs i from at → at + length (node_tokens n) ≤ from + length (list_tokens xs)
  walked-room from at w = omega (arith, w.place, rest-length c)

-- ---- of one node

pub broken-content : (at : ℕ) (n : Node) (inner : List Token) → n.body ≡ Children inner → first_broken at None (node_tokens n) ≡ first_broken (at + 1) None inner
broken-content at n inner is =
    ap (first_broken at None) (node_tokens_at n (Children inner) is) ∙ (broken-node at n.kind n.attrs n.marks inner [] ∙ some-nothing (first_broken (at + 1) None inner))

pub broken-lone : (at : ℕ) (n : Node) (us : List ℕ) (i : ℕ) → n.body ≡ Text us → IsFirstLone us i → first_broken at None (node_tokens n) ≡ Some (Pair (at + i))
broken-lone at n us i is h = ap (first_broken at None) (node_tokens_at n (Text us) is) ∙ text-broken at n.marks us i h

pub broken-none : (at : ℕ) (n : Node) (us : List ℕ) → n.body ≡ Text us → HasNoLone us → first_broken at None (node_tokens n) ≡ None
broken-none at n us is h = ap (first_broken at None) (node_tokens_at n (Text us) is) ∙ text-whole at n.marks us h

-- a lone unit is one of the text, where the unit w stands before it
lone-inside : (w : ℕ) (us : List ℕ) (i : ℕ) → is_lone (slice_index (w ∷ us) i) (slice_index us i) (slice_index us (suc i)) ≡ true → i < length us
lone-inside w [] i h = absurd (true≢false (sym h))
lone-inside w (u ∷ us) zero h = omega arith
lone-inside w (u ∷ us) (suc i) h = omega (arith, lone-inside u us i h)

pub lone-within : (us : List ℕ) (i : ℕ) → IsFirstLone us i → i < length us
lone-within us i h = lone-inside 0 us i h.lone

-- the place of a lone unit of a text is no greater than that after the text
pub lone-room : (at : ℕ) (n : Node) (us : List ℕ) (i : ℕ) → n.body ≡ Text us → IsFirstLone us i → at + length (node_tokens n) ≤ 2 ^ 32 → at + i < 2 ^ 32
lone-room at n us i is h room = omega (arith, room, lone-within us i h, ap length (node_tokens_at n (Text us) is), length-text_tokens n.marks us)
