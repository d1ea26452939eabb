-- What a step that applies tells of its positions.
use Rattle.std.specs.Prelude.{◌≡◌, ℕ, ◌≤◌, Bool, true, false, not, List, [], ◌∷◌, length, drop, IsSome, Ok}
use Rattle.std.proofs.Common.{refl}
use Rattle.pm_tokens.specs.Tokens.{Marks, Token, Open, Close, Leaf, CodeUnit, Doc}
use Rattle.pm_tokens.specs.Schemas.{Schema}
use Rattle.pm_tokens.specs.Scan.{parts_pair}
use Rattle.pm_tokens.specs.Slices.{Slice}
use Rattle.pm_tokens.proofs.PartLaws.{is-slice}
use Rattle.pm_meaning.specs.Steps.{ReplaceAround, AddMark, RemoveMark, AddNodeMark, RemoveNodeMark}
use Rattle.pm_meaning.specs.declared.reason.Reason.TheVariants.{Range, Pair, NoNode}
use Rattle.pm_meaning.specs.Marked.{add, remove, mark_added, mark_removed, marked, node_marked, starts_node}
use Rattle.pm_meaning.specs.Outcomes.{in_order, parts_no_pair, and_unless, checked, range_outcome, node_outcome, outcome}
use Rattle.pm_meaning.proofs.OutcomeLaws.{unless-ok, made-ok}
use Rattle.pm_meaning.proofs.ReplaceLaws.{not-true, of-depths}
use Rattle.pm_meaning.proofs.AroundLaws.{moved}
use Rattle.pm_meaning.proofs.MarkStepLaws.{range-order, node-order, node-stands}
use Rattle.pm_apply.specs.declared.around.Ends.{Ends}
use Rattle.pm_step.specs.declared.marking.Marking.{Marking}
use Rattle.pm_step.specs.declared.marking.Marking.TheVariants.{Add, Remove}
use Rattle.pm_apply.specs.Around.{IsPlaced}
use Rattle.pm_step.specs.Steps.{range_step, node_step}
use Rattle.pm_apply.specs.Nodes.{marks_first}
use Rattle.std.proofs.lemmas.Bool.{and_parts}

pub around-placed : (s : Schema) (ends : Ends) (sl : Slice) (structure : Bool) (d next : Doc)
    → outcome s (ReplaceAround ends.from ends.to ends.gap_from ends.gap_to sl ends.insert structure) d ≡ Ok next → IsPlaced d.tokens ends sl
around-placed s ends sl structure d next h =
    let r = moved s ends.from ends.to ends.gap_from ends.gap_to sl ends.insert structure d next h in
    record {
      slice = is-slice sl r.slice;
      before = r.ordered;
      gap = r.gap_ordered;
      behind = r.end_ordered;
      within = r.within;
      insert = r.inserted;
      whole = r.gap;
      depths = of-depths d.tokens ends.from ends.to sl r.start_fits r.end_fits;
    }

-- the range of a step that changes marks
pub record IsRange (ts : List Token) (from to : ℕ) : Type 0 where
  pub order : from ≤ to
  pub within : to ≤ length ts
  pub start : parts_pair ts from ≡ false
  pub end : parts_pair ts to ≡ false

range-facts : (s : Schema) (f : ℕ → Token → Marks → Marks) (from to : ℕ) (d next : Doc) → range_outcome s f from to d ≡ Ok next → IsRange d.tokens from to
range-facts s f from to d next h =
    let o = range-order s f from to d next h in
    let u₁ = unless-ok (in_order (from ∷ to ∷ []) (length d.tokens)) Range _ next h in
    let u₂ = unless-ok (parts_no_pair d.tokens (from ∷ to ∷ [])) Pair (checked s (marked f from to d)) next u₁.1 in
    let p = and_parts (not (parts_pair d.tokens from)) (parts_no_pair d.tokens (to ∷ [])) u₂.0 in
    let q = and_parts (not (parts_pair d.tokens to)) true p.1 in
    record { order = o.0; within = o.1; start = not-true _ p.0; end = not-true _ q.0 }

pub range-is : (s : Schema) (m : Marking) (from to : ℕ) (d next : Doc) → outcome s (range_step m from to) d ≡ Ok next → IsRange d.tokens from to
range-is s (Add k) from to d next h = range-facts s (mark_added s k) from to d next (made-ok s (AddMark from to k) d next h).1
range-is s (Remove k) from to d next h = range-facts s (mark_removed s k) from to d next (made-ok s (RemoveMark from to k) d next h).1

-- the place of a step that changes the marks of a node
pub record IsNode (ts : List Token) (pos : ℕ) : Type 0 where
  pub within : pos ≤ length ts
  pub whole : parts_pair ts pos ≡ false
  pub there : IsSome (marks_first (drop pos ts))

some-first : (ts : List Token) → starts_node ts ≡ true → IsSome (marks_first ts)
some-first [] h = absurd (cc)
some-first (Open k a m ∷ ts) h = refl
some-first (Close ∷ ts) h = absurd (cc)
some-first (Leaf k a m ∷ ts) h = refl
some-first (CodeUnit u m ∷ ts) h = absurd (cc)

node-facts : (s : Schema) (f : Marks → Marks) (pos : ℕ) (d next : Doc) → node_outcome s f pos d ≡ Ok next → IsNode d.tokens pos
node-facts s f pos d next h =
    let u₁ = unless-ok (in_order (pos ∷ []) (length d.tokens)) Range _ next h in
    let u₂ = unless-ok (parts_no_pair d.tokens (pos ∷ [])) Pair (and_unless (starts_node (drop pos d.tokens)) NoNode (checked s (node_marked f pos d))) next u₁.1 in
    let p = and_parts (not (parts_pair d.tokens pos)) true u₂.0 in
    record { within = node-order s f pos d next h; whole = not-true _ p.0; there = some-first (drop pos d.tokens) (node-stands s f pos d next h) }

pub node-is : (s : Schema) (m : Marking) (pos : ℕ) (d next : Doc) → outcome s (node_step m pos) d ≡ Ok next → IsNode d.tokens pos
node-is s (Add k) pos d next h = node-facts s (add s k) pos d next (made-ok s (AddNodeMark pos k) d next h).1
node-is s (Remove k) pos d next h = node-facts s (remove k) pos d next (made-ok s (RemoveNodeMark pos k) d next h).1
