-- The inverse of a step that changes the marks of one node: the one step, or the steps that give the marks back.
use Rattle.std.specs.Prelude.{◌≡◌, ℕ, ◌≤◌, Bool, true, false, cond, ◌&&◌, not, ◌==◌, nat_le, List, [], ◌∷◌, ◌++◌, length, take, drop, Option, Some, None, Result, Ok, Err}
use Rattle.std.proofs.Common.{refl, ap, sym, ◌∙◌, subst, arith, length-append, length-take}
use Rattle.std.proofs.lemmas.Bool.{le-leb, and_parts, and_from}
use Rattle.std.proofs.lemmas.List.{take_at, drop_at, take-append-drop}
use Rattle.pm_attrs.specs.Attrs.{same_attrs}
use Rattle.pm_marks.specs.Sets.{same_marks, has}
use Rattle.pm_marks.specs.declared.mark.Mark.{Mark}
use Rattle.pm_tokens.specs.Tokens.{Attrs, Marks, Token, Open, Close, Leaf, CodeUnit, Doc, with_tokens}
use Rattle.pm_tokens.specs.Schemas.{Schema, node_attrs, mark_attrs}
use Rattle.pm_tokens.specs.Faults.{Valid}
use Rattle.pm_tokens.specs.Marks.{have_attrs}
use Rattle.pm_tokens.specs.Scan.{ends_high, starts_low, parts_pair}
use Rattle.pm_meaning.specs.declared.reason.Reason.{Reason}
use Rattle.pm_meaning.specs.declared.reason.Reason.TheVariants.{Range, Pair, NoNode}
use Rattle.pm_meaning.specs.Marked.{starts_node, with_node_marks, node_marked}
use Rattle.pm_meaning.specs.Inverses.{same_token, same_tokens, gives, node_marks, first_lost, added_back, one_or, inverse}
use Rattle.pm_meaning.specs.Outcomes.{and_unless, parts_no_pair, checked, made, outcome, node_outcome}
use Rattle.pm_meaning.specs.Known.{knows_mark, knows_step}
use Rattle.pm_meaning.proofs.OutcomeLaws.{known-made}
use Rattle.pm_meaning.specs.Steps.{AddNodeMark, RemoveNodeMark}
use Rattle.pm_meaning.specs.Runs.{node_steps}
use Rattle.pm_step.specs.declared.marking.Marking.{Marking}
use Rattle.pm_step.specs.declared.marking.Marking.TheVariants.{Add, Remove}
use Rattle.pm_step.specs.Steps.{node_step}
use Rattle.pm_apply.specs.Markings.{changed}
use Rattle.pm_apply.specs.Nodes.{marks_first}
use Rattle.pm_apply.specs.Backs.{back_step}
use Rattle.pm_apply.proofs.SameTokens.{and-yes-right, open-same, leaf-same, tokens-itself, same-append, checked-gives}
use Rattle.pm_replace.proofs.OutcomeAnswers.{passes}

-- ---- the node that stands first

first-low : (f : Marks → Marks) (r : List Token) → starts_low (with_node_marks f r) ≡ starts_low r
first-low f [] = refl
first-low f (Open k a m ∷ r) = refl
first-low f (Close ∷ r) = refl
first-low f (Leaf k a m ∷ r) = refl
first-low f (CodeUnit u m ∷ r) = refl

first-starts : (f : Marks → Marks) (old : Marks) (r : List Token) → marks_first r ≡ Some old → starts_node (with_node_marks f r) ≡ true
first-starts f old [] h = absurd (cc)
first-starts f old (Open k a m ∷ r) h = refl
first-starts f old (Close ∷ r) h = absurd (cc)
first-starts f old (Leaf k a m ∷ r) h = refl
first-starts f old (CodeUnit u m ∷ r) h = absurd (cc)

first-marks : (old : Marks) (r : List Token) → marks_first r ≡ Some old → node_marks r ≡ old
first-marks old [] h = absurd (cc)
first-marks old (Open k a m ∷ r) h = cc
first-marks old (Close ∷ r) h = absurd (cc)
first-marks old (Leaf k a m ∷ r) h = cc
first-marks old (CodeUnit u m ∷ r) h = absurd (cc)

-- it is the old one exactly where its marks are
first-same : (f g : Marks → Marks) (old : Marks) (r : List Token) → marks_first r ≡ Some old → same_tokens (with_node_marks g (with_node_marks f r)) r ≡ same_marks same_attrs (g (f old)) old
first-same f g old [] h = absurd (cc)
first-same f g old (Open k a m ∷ r) h =
    let e : m ≡ old = cc in
    ap (λ z. same_token (Open k a (g (f m))) (Open k a m) && z) (tokens-itself r)
    ∙ (and-yes-right (same_token (Open k a (g (f m))) (Open k a m)) ∙ (open-same k a (g (f m)) m ∙ ap (λ z. same_marks same_attrs (g (f z)) z) e))
first-same f g old (Close ∷ r) h = absurd (cc)
first-same f g old (Leaf k a m ∷ r) h =
    let e : m ≡ old = cc in
    ap (λ z. same_token (Leaf k a (g (f m))) (Leaf k a m) && z) (tokens-itself r)
    ∙ (and-yes-right (same_token (Leaf k a (g (f m))) (Leaf k a m)) ∙ (leaf-same k a (g (f m)) m ∙ ap (λ z. same_marks same_attrs (g (f z)) z) e))
first-same f g old (CodeUnit u m ∷ r) h = absurd (cc)

also-passes : (b : Bool) (r : Reason) (x : Result Doc Reason) → b ≡ true → and_unless b r x ≡ x
also-passes b r (Ok d) h = passes b r (Ok d) h
also-passes b r (Err e) h = refl

-- ---- what the schema knows

module _ (s : Schema) where
  -- an old mark that was lost
  lost-known : (old new : Marks) (x : Mark Attrs) → first_lost old new ≡ Some x → have_attrs s old ≡ true → knows_mark s x ≡ true
  lost-known [] new x e h = absurd (cc)
  lost-known (y ∷ ys) new x e h =
      let b = and_parts (mark_attrs s y.kind y.attrs) (have_attrs s ys) h in
      at (has same_attrs new y) e b.0 (λ f. lost-known ys new x f b.1)
    where
      at : (c : Bool) → cond c (first_lost ys new) (Some y) ≡ Some x → knows_mark s y ≡ true → (first_lost ys new ≡ Some x → knows_mark s x ≡ true) → knows_mark s x ≡ true
      at true f k later = later f
      at false f k later = let i : y ≡ x = cc in subst (λ z. knows_mark s z ≡ true) i k

  -- the one step that may take a marking of a node back
  back-known : (x : Marking) (pos : ℕ) (old new : Marks) → knows_step s (node_step x pos) ≡ true → have_attrs s old ≡ true → knows_step s (back_step x pos old new) ≡ true
  back-known (Add y) pos old new h w = at (length new == length old) (first_lost old new) refl
    where
      at : (c : Bool) (l : Option (Mark Attrs)) → first_lost old new ≡ l → knows_step s (cond c (added_back pos y l) (RemoveNodeMark pos y)) ≡ true
      at true None e = h
      at true (Some x) e = lost-known old new x e w
      at false l e = h
  back-known (Remove y) pos old new h w = at (has same_attrs old y)
    where
      at : (c : Bool) → knows_step s (cond c (AddNodeMark pos y) (RemoveNodeMark pos y)) ≡ true
      at true = h
      at false = h

  -- the marks of the node that stands first
  first-known : (d : Doc) (a r : List Token) (old : Marks) → Valid s d → d.tokens ≡ a ++ r → marks_first r ≡ Some old → have_attrs s old ≡ true
  first-known d a [] old v e h = absurd (cc)
  first-known d a (Open k x m ∷ r) old v e h =
      let i : m ≡ old = cc in subst (λ z. have_attrs s z ≡ true) i (and_parts (node_attrs s k x) (have_attrs s m) (v.attrs a (Open k x m) r e)).1
  first-known d a (Close ∷ r) old v e h = absurd (cc)
  first-known d a (Leaf k x m ∷ r) old v e h =
      let i : m ≡ old = cc in subst (λ z. have_attrs s z ≡ true) i (and_parts (node_attrs s k x) (have_attrs s m) (v.attrs a (Leaf k x m) r e)).1
  first-known d a (CodeUnit u m ∷ r) old v e h = absurd (cc)

-- ---- the document

module _ (s : Schema) (m b : Marking) (pos : ℕ) (d : Doc) (old : Marks) (v : Valid s d) (i : pos ≤ length d.tokens) (p : parts_pair d.tokens pos ≡ false) (n : marks_first (drop pos d.tokens) ≡ Some old) (k : knows_step s (node_step m pos) ≡ true) where
  abbrev f : Marks → Marks
  f = changed s m

  abbrev g : Marks → Marks
  g = changed s b

  abbrev a : List Token
  a = take pos d.tokens

  abbrev r : List Token
  r = drop pos d.tokens

  abbrev after : List Token
  after = a ++ with_node_marks f r

  outcome-is : made s (node_step b pos) (with_tokens d after) ≡ node_outcome s g pos (with_tokens d after)
  outcome-is = by b
    where
      by : (x : Marking) → made s (node_step x pos) (with_tokens d after) ≡ node_outcome s (changed s x) pos (with_tokens d after)
      by (Add k) = refl
      by (Remove k) = refl

  front : length a ≡ pos
  front = omega (arith, i, length-take pos d.tokens)

  take-after : take pos after ≡ a
  take-after = take_at a (with_node_marks f r) pos front

  drop-after : drop pos after ≡ with_node_marks f r
  drop-after = drop_at a (with_node_marks f r) pos front

  within : nat_le pos (length after) ≡ true
  within = le-leb pos (length after) (omega (arith, front, length-append a (with_node_marks f r)))

  unparted : parts_no_pair after (pos ∷ []) ≡ true
  unparted =
      let e : parts_pair after pos ≡ false =
      ap (λ z. ends_high z && starts_low (drop pos after)) take-after ∙ (ap (λ z. ends_high a && starts_low z) drop-after ∙ (ap (λ z. ends_high a && z) (first-low f r) ∙ p)) in
      and_from (not (parts_pair after pos)) true (ap not e) refl

  stands : starts_node (drop pos after) ≡ true
  stands = ap starts_node drop-after ∙ first-starts f old r n

  abbrev twice : List Token
  twice = a ++ with_node_marks g (with_node_marks f r)

  twice-is : node_marked g pos (with_tokens d after) ≡ with_tokens d twice
  twice-is =
      ap (λ z. with_tokens d (z ++ with_node_marks g (drop pos after))) take-after
      ∙ ap (λ z. with_tokens d (a ++ with_node_marks g z)) drop-after

  -- a marking after it gives the document exactly where it gives the marks
  node-gives : knows_step s (node_step b pos) ≡ true → gives (outcome s (node_step b pos) (with_tokens d after)) d.tokens ≡ same_marks same_attrs (g (f old)) old
  node-gives kb =
      ap (λ z. gives z d.tokens)
      (known-made s (node_step b pos) (with_tokens d after) kb ∙ (outcome-is
      ∙ (passes (nat_le pos (length after)) Range _ within
      ∙ (passes (parts_no_pair after (pos ∷ [])) Pair _ unparted
      ∙ (also-passes (starts_node (drop pos after)) NoNode _ stands ∙ ap (checked s) twice-is)))))
      ∙ (checked-gives s d twice v
      ∙ (ap (same_tokens twice) (sym (take-append-drop pos d.tokens))
      ∙ (same-append a a (with_node_marks g (with_node_marks f r)) r refl
      ∙ (ap (λ z. z && same_tokens (with_node_marks g (with_node_marks f r)) r) (tokens-itself a) ∙ first-same f g old r n))))

  inverse-is : (x : Marking) → inverse s (node_step x pos) d
      ≡ one_or s (back_step x pos (node_marks r) (changed s x (node_marks r))) (node_steps pos (node_marks r) (changed s x (node_marks r))) d (with_tokens d (a ++ with_node_marks (changed s x) r))
  inverse-is (Add k) = refl
  inverse-is (Remove k) = refl

  module _ (e : node_step b pos ≡ back_step m pos old (f old)) where
    b-known : knows_step s (node_step b pos) ≡ true
    b-known = ap (knows_step s) e ∙ back-known s m pos old (f old) k (first-known s d a r old v (sym (take-append-drop pos d.tokens)) n)

    decided : (x : Bool) → same_marks same_attrs (g (f old)) old ≡ x → inverse s (node_step m pos) d ≡ cond x (node_step b pos ∷ []) (node_steps pos old (f old))
    decided x q =
        inverse-is m
        ∙ (ap (λ z. one_or s (back_step m pos z (f z)) (node_steps pos z (f z)) d (with_tokens d after)) (first-marks old r n)
        ∙ (ap (λ z. one_or s z (node_steps pos old (f old)) d (with_tokens d after)) (sym e)
        ∙ ap (λ z. cond z (node_step b pos ∷ []) (node_steps pos old (f old))) (node-gives b-known ∙ q)))

    pub node-by-one : same_marks same_attrs (g (f old)) old ≡ true → node_step b pos ∷ [] ≡ inverse s (node_step m pos) d
    node-by-one k = sym (decided true k)

    pub node-by-marks : same_marks same_attrs (g (f old)) old ≡ false → node_steps pos old (f old) ≡ inverse s (node_step m pos) d
    node-by-marks k = sym (decided false k)
