-- What the tests of a mark step, in their order, say of its outcome.
use Rattle.std.specs.Prelude.{◌≡◌, ℕ, ◌+◌, ◌-◌, ◌≤◌, ◌<◌, Bool, true, false, ◌&&◌, nat_le, List, [], ◌∷◌, ◌++◌, length, take, drop, None, IsSome, Result, Ok, Err}
use Rattle.std.proofs.Common.{zero, suc, refl, ap, sym, ◌∙◌, arith}
use Rattle.std.proofs.lemmas.Bool.{leb-true, le-leb, lt-leb, and_from}
use Rattle.std.proofs.lemmas.List.{take-append-drop}
use Rattle.pm_tokens.specs.Tokens.{Marks, Token, Open, Close, Leaf, CodeUnit, Doc, with_tokens}
use Rattle.pm_tokens.specs.Scan.{unclosed, parts_pair}
use Rattle.pm_tokens.specs.Schemas.{Schema}
use Rattle.pm_tokens.specs.Faults.{Valid}
use Rattle.pm_tokens.proofs.ListLaws.{drop-nil}
use Rattle.pm_meaning.specs.declared.reason.Reason.{Reason}
use Rattle.pm_meaning.specs.declared.reason.Reason.TheVariants.{Range, Pair, NoNode}
use Rattle.pm_meaning.specs.Marked.{with_marks, marked, starts_node, with_node_marks, node_marked}
use Rattle.pm_meaning.specs.Outcomes.{unless, and_unless, in_order, parts_no_pair, checked, made, range_outcome, node_outcome}
use Rattle.pm_meaning.proofs.OutcomeLaws.{valid-checks}
use Rattle.pm_step.specs.declared.marking.Marking.{Marking}
use Rattle.pm_step.specs.declared.marking.Marking.TheVariants.{Add, Remove}
use Rattle.pm_apply.specs.declared.marking.Reach.TheVariants.{Inline, Nodes}
use Rattle.pm_step.specs.Steps.{range_step, node_step}
use Rattle.pm_apply.specs.Markings.{changed, new_marks, marked_in}
use Rattle.pm_apply.specs.Nodes.{marks_first}
use Rattle.pm_replace.proofs.OutcomeAnswers.{passes, fails}

-- two positions in order, or not
pub ordered : (from to n : ℕ) → from ≤ to → to ≤ n → in_order (from ∷ to ∷ []) n ≡ true
ordered from to n h i = and_from (nat_le from to) (nat_le to n) (le-leb from to h) (le-leb to n i)

pub not-ordered : (from to n : ℕ) → (from ≤ to → to ≤ n → ⊥) → in_order (from ∷ to ∷ []) n ≡ false
not-ordered from to n h = by (nat_le from to) (nat_le to n) refl refl
  where
    by : (a b : Bool) → nat_le from to ≡ a → nat_le to n ≡ b → (nat_le from to && nat_le to n) ≡ false
    by true true p q = absurd (h (leb-true from to p) (leb-true to n q))
    by true false p q = rw (p, q) refl
    by false b p q = rw p refl

pub no-pairs : (ts : List Token) (from to : ℕ) → parts_pair ts from ≡ false → parts_pair ts to ≡ false → parts_no_pair ts (from ∷ to ∷ []) ≡ true
no-pairs ts from to p q = rw (p, q) refl

pub a-pair : (ts : List Token) (from to : ℕ) (b : Bool) → parts_pair ts from ≡ b → (b ≡ false → parts_pair ts to ≡ true) → parts_no_pair ts (from ∷ to ∷ []) ≡ false
a-pair ts from to true p q = rw p refl
a-pair ts from to false p q = let e : parts_pair ts to ≡ true = q refl in rw (p, e) refl

-- ---- a range

range-outcome : (s : Schema) (m : Marking) (from to : ℕ) (d : Doc) → made s (range_step m from to) d ≡ range_outcome s (new_marks s m Inline) from to d
range-outcome s (Add m) from to d = refl
range-outcome s (Remove m) from to d = refl

module _ (s : Schema) (m : Marking) (from to : ℕ) (d : Doc) where
  pub range-refused : (from ≤ to → to ≤ length d.tokens → ⊥) → made s (range_step m from to) d ≡ Err Range
  range-refused h = range-outcome s m from to d ∙ fails (in_order (from ∷ to ∷ []) (length d.tokens)) Range _ (not-ordered from to (length d.tokens) h)

  module _ (h : from ≤ to) (i : to ≤ length d.tokens) where
    to-pairs : made s (range_step m from to) d ≡ unless (parts_no_pair d.tokens (from ∷ to ∷ [])) Pair (checked s (marked (new_marks s m Inline) from to d))
    to-pairs = range-outcome s m from to d ∙ passes (in_order (from ∷ to ∷ []) (length d.tokens)) Range _ (ordered from to (length d.tokens) h i)

    pub range-paired : (b : Bool) → parts_pair d.tokens from ≡ b → (b ≡ false → parts_pair d.tokens to ≡ true) → made s (range_step m from to) d ≡ Err Pair
    range-paired b p q = to-pairs ∙ fails (parts_no_pair d.tokens (from ∷ to ∷ [])) Pair _ (a-pair d.tokens from to b p q)

    pub range-checked : parts_pair d.tokens from ≡ false → parts_pair d.tokens to ≡ false → (ts : List Token) → ts ≡ marked_in (new_marks s m Inline) (d.kind ∷ []) from to d.tokens
        → made s (range_step m from to) d ≡ checked s (with_tokens d ts)
    range-checked p q ts e =
        to-pairs ∙ (passes (parts_no_pair d.tokens (from ∷ to ∷ [])) Pair _ (no-pairs d.tokens from to p q) ∙ ap (λ z. checked s (with_tokens d z)) (sym e))

-- ---- a node

node-outcome : (s : Schema) (m : Marking) (pos : ℕ) (d : Doc) → made s (node_step m pos) d ≡ node_outcome s (changed s m) pos d
node-outcome s (Add m) pos d = refl
node-outcome s (Remove m) pos d = refl

-- a node stands first where its marks do
stands-first : (ts : List Token) → IsSome (marks_first ts) → starts_node ts ≡ true
stands-first [] h = absurd (cc)
stands-first (Open k a m ∷ ts) h = refl
stands-first (Close ∷ ts) h = absurd (cc)
stands-first (Leaf k a m ∷ ts) h = refl
stands-first (CodeUnit u m ∷ ts) h = absurd (cc)

none-first : (ts : List Token) → marks_first ts ≡ None → starts_node ts ≡ false
none-first [] h = refl
none-first (Open k a m ∷ ts) h = absurd (cc)
none-first (Close ∷ ts) h = refl
none-first (Leaf k a m ∷ ts) h = absurd (cc)
none-first (CodeUnit u m ∷ ts) h = refl

-- where no node stands first, nothing changes
same-node : (f : Marks → Marks) (ts : List Token) → starts_node ts ≡ false → with_node_marks f ts ≡ ts
same-node f [] h = refl
same-node f (Open k a m ∷ ts) h = absurd (cc)
same-node f (Close ∷ ts) h = refl
same-node f (Leaf k a m ∷ ts) h = absurd (cc)
same-node f (CodeUnit u m ∷ ts) h = refl

unless-also : (b : Bool) (r : Reason) (x : Result Doc Reason) → b ≡ true → and_unless b r x ≡ x
unless-also b r (Ok d) h = passes b r (Ok d) h
unless-also b r (Err e) h = refl

-- a step at a node changes the token after the position alone
first-marked : (s : Schema) (m : Marking) (ps : List ℕ) (ts : List Token) → with_node_marks (changed s m) ts ≡ with_marks (new_marks s m Nodes) ps (take 1 ts) ++ drop 1 ts
first-marked s m ps [] = refl
first-marked s (Add m) ps (Open k a n ∷ ts) = refl
first-marked s (Remove m) ps (Open k a n ∷ ts) = refl
first-marked s m ps (Close ∷ ts) = refl
first-marked s (Add m) ps (Leaf k a n ∷ ts) = refl
first-marked s (Remove m) ps (Leaf k a n ∷ ts) = refl
first-marked s (Add m) ps (CodeUnit u n ∷ ts) = refl
first-marked s (Remove m) ps (CodeUnit u n ∷ ts) = refl

drop-one : (n : ℕ) (ts : List Token) → drop (n + 1) ts ≡ drop 1 (drop n ts)
drop-one zero ts = refl
drop-one (suc n) [] = ap (λ z. drop z []) (let e : suc n + 1 ≡ suc (n + 1) = omega arith in e) ∙ sym (drop-nil 1)
drop-one (suc n) (t ∷ ts) = let e : suc n + 1 ≡ suc (n + 1) = omega arith in rw e (drop-one n ts)

pub node-marked : (s : Schema) (m : Marking) (pos : ℕ) (ps : List ℕ) (ts : List Token) → take pos ts ++ with_node_marks (changed s m) (drop pos ts) ≡ marked_in (new_marks s m Nodes) ps pos (pos + 1) ts
node-marked s m pos ps ts =
    let e : pos + 1 - pos ≡ 1 = omega arith in
    rw e
    (ap (λ z. take pos ts ++ z) (first-marked s m (unclosed ps (take pos ts)) (drop pos ts)
    ∙ ap (λ z. with_marks (new_marks s m Nodes) (unclosed ps (take pos ts)) (take 1 (drop pos ts)) ++ z) (sym (drop-one pos ts))))

module _ (s : Schema) (m : Marking) (pos : ℕ) (d : Doc) where
  pub node-refused : length d.tokens < pos → made s (node_step m pos) d ≡ Err Range
  node-refused h = node-outcome s m pos d ∙ fails (in_order (pos ∷ []) (length d.tokens)) Range _ (lt-leb pos (length d.tokens) h)

  module _ (i : pos ≤ length d.tokens) where
    to-pair : made s (node_step m pos) d ≡ unless (parts_no_pair d.tokens (pos ∷ [])) Pair (and_unless (starts_node (drop pos d.tokens)) NoNode (checked s (node_marked (changed s m) pos d)))
    to-pair = node-outcome s m pos d ∙ passes (in_order (pos ∷ []) (length d.tokens)) Range _ (le-leb pos (length d.tokens) i)

    pub node-paired : parts_pair d.tokens pos ≡ true → made s (node_step m pos) d ≡ Err Pair
    node-paired p = let e : parts_no_pair d.tokens (pos ∷ []) ≡ false = rw p refl in to-pair ∙ fails (parts_no_pair d.tokens (pos ∷ [])) Pair _ e

    module _ (p : parts_pair d.tokens pos ≡ false) where
      to-node : made s (node_step m pos) d ≡ and_unless (starts_node (drop pos d.tokens)) NoNode (checked s (node_marked (changed s m) pos d))
      to-node = let e : parts_no_pair d.tokens (pos ∷ []) ≡ true = rw p refl in to-pair ∙ passes (parts_no_pair d.tokens (pos ∷ [])) Pair _ e

      pub node-missing : Valid s d → marks_first (drop pos d.tokens) ≡ None → made s (node_step m pos) d ≡ Err NoNode
      node-missing v n =
          let none = none-first (drop pos d.tokens) n in
          let same : node_marked (changed s m) pos d ≡ d =
          ap (λ z. with_tokens d (take pos d.tokens ++ z)) (same-node (changed s m) (drop pos d.tokens) none)
          ∙ ap (with_tokens d) (take-append-drop pos d.tokens) in
          to-node ∙ (ap (λ z. and_unless (starts_node (drop pos d.tokens)) NoNode (checked s z)) same
          ∙ (ap (and_unless (starts_node (drop pos d.tokens)) NoNode) (valid-checks s d v) ∙ fails (starts_node (drop pos d.tokens)) NoNode (Ok d) none))

      pub node-checked : IsSome (marks_first (drop pos d.tokens)) → (ts : List Token) → ts ≡ marked_in (new_marks s m Nodes) (d.kind ∷ []) pos (pos + 1) d.tokens
          → made s (node_step m pos) d ≡ checked s (with_tokens d ts)
      node-checked n ts e =
          to-node ∙ (unless-also (starts_node (drop pos d.tokens)) NoNode _ (stands-first (drop pos d.tokens) n)
          ∙ ap (λ z. checked s (with_tokens d z)) (node-marked s m pos (d.kind ∷ []) d.tokens ∙ sym e))
