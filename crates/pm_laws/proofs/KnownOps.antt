-- No step that an op makes is refused as one that the schema does not know.
use Rattle.std.specs.List.{AllByRecursion as Each, list_all}
use Rattle.std.specs.Option.{option_or}
use Rattle.std.specs.Prelude.{not, ◌&&◌, ◌==◌, Option, Some, None, Result, Ok, Err, is_ok, replicate}
use Rattle.std.proofs.Common.{◌≡◌, ℕ, zero, suc, ◌+◌, ◌-◌, ◌*◌, Bool, true, false, cond, List, [], ◌∷◌, ◌++◌, map, length, take, drop, refl, sym, ap, subst, ◌∙◌, arith, append_assoc, length-append}
use Rattle.std.proofs.lemmas.Bool.{and_parts, and_from}
use Rattle.std.proofs.lemmas.List.{take_at, drop_at}
use Rattle.pm_change.specs.declared.no_step.NoStep.{NoStep}
use Rattle.pm_change.specs.declared.no_step.NoStep.TheVariants.{Range, NotThere}
use Rattle.pm_value.specs.Views.{plain as plain_value}
use Rattle.pm_text.specs.Units.{utf16}
use Rattle.pm_tokens.specs.Tokens.{Attrs, Marks, Token, Open, Close, Leaf, CodeUnit, Doc, with_tokens}
use Rattle.pm_tokens.specs.Kids.{kids}
use Rattle.pm_tokens.specs.Marks.{is_set, are_allowed, have_attrs}
use Rattle.pm_tokens.specs.Scan.{Owned, head_of, owned, plain, joins, part, are_opens, depth_at}
use Rattle.pm_tokens.specs.Schemas.{Schema, compatible, node_attrs}
use Rattle.pm_tokens.specs.Slices.{Slice, is_slice, slice_tokens, slice_owned, content_end, spliced, depths_fit}
use Rattle.pm_tokens.specs.Faults.{attrs_fit, marks_fit, content_fits, high_of, under, token_fits, place_from, top_fits}
use Rattle.pm_tokens.proofs.PairLaws.{first-none}
use Rattle.pm_tokens.proofs.PartLaws.{slice_stack, slice-owned-is}
use Rattle.pm_tokens.proofs.ScanLaws.{plain-append, plain-owned}
use Rattle.pm_tokens.proofs.ValidLaws.{token-fits}
use Rattle.pm_schema.specs.declared.schema.Schema.{Schema as SchemaValue}
use Rattle.pm_schema.specs.Documents.{documents_of}
use Rattle.pm_node.specs.Trees.{node_tokens}
use Rattle.pm_resolve.specs.Places.{node_around, marks_at, inclusive_in}
use Rattle.pm_slice.specs.Sides.{no_slice}
use Rattle.pm_step.specs.Steps.{step_of}
use Rattle.pm_meaning.specs.declared.reason.Reason.{Reason}
use Rattle.pm_meaning.specs.declared.reason.Reason.TheVariants as reason
use Rattle.pm_meaning.specs.Steps.{Step, Replace, ReplaceAround, AddMark, RemoveMark, Attr, DocAttr}
use Rattle.pm_meaning.specs.Known.{knows_open, knows_step}
use Rattle.pm_meaning.specs.Outcomes.{in_order, parts_no_pair, keeps_structure, checked, and_unless, made, outcome}
use Rattle.pm_meaning.proofs.OutcomeLaws.{unless-ok, checked-ok, known-made}
use Rattle.pm_fit.specs.Candidates.{Candidate, hollow, candidates}
use Rattle.pm_fit.specs.Fits.{slice_of, step_with, step_by, fit_step}
use Rattle.pm_fit.specs.Paths.{first_some}
use Rattle.pm_ops.specs.declared.op.Op.{Op}
use Rattle.pm_ops.specs.declared.op.Op.TheVariants as op
use Rattle.pm_edit.specs.Edits.{Answer, refuse, fitted, of_node}
use Rattle.pm_edit.specs.Nodes.{node_at, behind, closed, text_slice, empty_node, split_slice}
use Rattle.pm_edit.specs.Ops.{answer_of, one, steps_of}
use Rattle.pm_laws.specs.NoneUnknown.{KnowsOp, IsNotUnknown}
use Rattle.pm_laws.proofs.KnownInverses.{made-never}

-- ---- answers that are steps

refuse-ok : (r : NoStep) (b : Bool) (a : Answer) (c : Step) → refuse r b a ≡ Ok c → a ≡ Ok c
refuse-ok r true a c h = absurd (cc)
refuse-ok r false a c h = h

fitted-ok : (o : Option Step) (c : Step) → fitted o ≡ Ok c → o ≡ Some c
fitted-ok None c h = absurd (cc)
fitted-ok (Some x) c h = cc

node-ok : (says : Doc → Answer) (o : Option Doc) (c : Step) (P : Step → Type 0) → of_node says o ≡ Ok c → ((n : Doc) → says n ≡ Ok c → P c) → P c
node-ok says None c P h f = absurd (cc)
node-ok says (Some n) c P h f = f n h

abbrev an_answer : Step → Answer
an_answer x = Ok x

ok-same : (x c : Step) (P : Step → Type 0) → P x → an_answer x ≡ an_answer c → P c
ok-same x c P p h = let same : x ≡ c = cc in subst P same p

-- ---- the opens of a split, which stand in the document that it gives

module _ (s : Schema) where
  -- an open without a fault
  open-known : (parent k : ℕ) (a : Attrs) (m : Marks) (next : List Token) → attrs_fit s (Open k a m) ≡ true → marks_fit s parent (Open k a m) ≡ true → content_fits s (Open k a m) next ≡ true → knows_open s (Open k a m) ≡ true
  open-known parent k a m next h i j =
      let x = and_parts (node_attrs s k a) (have_attrs s m) h in
      let y = and_parts (is_set s m) (are_allowed s parent m) i in
      let z = and_parts (not (k == s.text) && not (s.is_leaf k)) (s.accepts k (kids s.text 0 None next)) j in
      and_from (node_attrs s k a && (not (k == s.text) && not (s.is_leaf k))) (have_attrs s m && is_set s m)
      (and_from (node_attrs s k a) (not (k == s.text) && not (s.is_leaf k)) x.0 z.0)
      (and_from (have_attrs s m) (is_set s m) x.1 y.0)

  opens-known : (ps : List ℕ) (high : Option Marks) (hs ys : List Token) → are_opens hs ≡ true → place_from s ps high (hs ++ ys) ≡ None → list_all (knows_open s) hs ≡ true
  opens-known ps high [] ys o h = refl
  opens-known ps high (Open k a m ∷ hs) ys o h =
      let t = Open k a m in
      let f = first-none (token_fits s (head_of ps) high t (hs ++ ys)) (place_from s (under ps t) (high_of t) (hs ++ ys)) h in
      let w = token-fits s (head_of ps) high t (hs ++ ys) f.0 in
      and_from (knows_open s t) (list_all (knows_open s) hs) (open-known (head_of ps) k a m (hs ++ ys) w.attrs w.marks w.content) (opens-known (under ps t) (high_of t) hs ys o f.1)
  opens-known ps high (Close ∷ hs) ys o h = absurd (cc)
  opens-known ps high (Leaf k a m ∷ hs) ys o h = absurd (cc)
  opens-known ps high (CodeUnit u m ∷ hs) ys o h = absurd (cc)

  behind-known : (ps : List ℕ) (high : Option Marks) (xs hs ys : List Token) → are_opens hs ≡ true → place_from s ps high (xs ++ (hs ++ ys)) ≡ None → list_all (knows_open s) hs ≡ true
  behind-known ps high [] hs ys o h = opens-known ps high hs ys o h
  behind-known ps high (x ∷ xs) hs ys o h =
      behind-known (under ps x) (high_of x) xs hs ys o (first-none (token_fits s (head_of ps) high x (xs ++ (hs ++ ys))) (place_from s (under ps x) (high_of x) (xs ++ (hs ++ ys))) h).1

-- the opens of nodes without content, each in the one before
heads : Doc → ℕ → ℕ → ℕ → List Token
heads d p j zero = []
heads d p j (suc count) = Open (node_around d p (suc j)).kind (node_around d p (suc j)).attrs (node_around d p (suc j)).marks ∷ heads d p (suc j) count

heads-length : (d : Doc) (p j count : ℕ) → length (heads d p j count) ≡ count
unfolding heads
heads-length d p j zero = refl
heads-length d p j (suc count) = ap suc (heads-length d p (suc j) count)

heads-open : (d : Doc) (p j count : ℕ) → are_opens (heads d p j count) ≡ true
unfolding heads
heads-open d p j zero = refl
heads-open d p j (suc count) = heads-open d p (suc j) count

closes-on : (n : ℕ) → replicate n Close ++ (Close ∷ []) ≡ Close ∷ replicate n Close
closes-on zero = refl
closes-on (suc n) = ap (λ z. Close ∷ z) (closes-on n)

closes-length : (n : ℕ) → length (replicate n Close) ≡ n
closes-length zero = refl
closes-length (suc n) = ap suc (closes-length n)

hollow-is : (d : Doc) (p j count : ℕ) → hollow d p j count ≡ heads d p j count ++ replicate count Close
unfolding heads
hollow-is d p j zero = refl
hollow-is d p j (suc count) =
    let x = node_around d p (suc j) in
    ap (λ z. Open x.kind x.attrs x.marks ∷ (z ++ (Close ∷ []))) (hollow-is d p (suc j) count)
    ∙ ap (λ z. Open x.kind x.attrs x.marks ∷ z) (append_assoc (heads d p (suc j) count) (replicate count Close) (Close ∷ []) ∙ ap (λ z. heads d p (suc j) count ++ z) (closes-on count))

module _ (d : Doc) (p outer depth : ℕ) where
  abbrev hs : List Token
  hs = heads d p outer depth

  abbrev cs : List Token
  cs = replicate depth Close

  abbrev sl : Slice
  sl = split_slice d p outer depth

  content-is : sl.content ≡ hs ++ (cs ++ (hs ++ cs))
  content-is = ap (λ z. z ++ z) (hollow-is d p outer depth) ∙ append_assoc hs cs (hs ++ cs)

  content-length : length sl.content ≡ 4 * depth
  content-length =
      let one : length (hs ++ cs) ≡ 2 * depth = omega (arith, length-append hs cs, heads-length d p outer depth, closes-length depth) in
      let two : length (hs ++ (cs ++ (hs ++ cs))) ≡ 4 * depth =
      omega (arith, length-append hs (cs ++ (hs ++ cs)), length-append cs (hs ++ cs), one, heads-length d p outer depth, closes-length depth) in
      ap length content-is ∙ two

  front-is : take depth sl.content ≡ hs
  front-is = ap (take depth) content-is ∙ take_at hs (cs ++ (hs ++ cs)) depth (heads-length d p outer depth)

  tokens-are : slice_tokens sl ≡ cs ++ hs
  tokens-are =
      let count : (content_end sl - depth) ≡ 2 * depth = omega (arith, content-length) in
      let rest : drop depth sl.content ≡ (cs ++ hs) ++ cs = ap (drop depth) content-is ∙ (drop_at hs (cs ++ (hs ++ cs)) depth (heads-length d p outer depth) ∙ sym (append_assoc cs hs cs)) in
      let size : length (cs ++ hs) ≡ 2 * depth = omega (arith, length-append cs hs, heads-length d p outer depth, closes-length depth) in
      (λ i. take (count i) (rest i)) ∙ take_at (cs ++ hs) cs (2 * depth) size

  module _ (s : Schema) (structure : Bool) where
    abbrev c : Step
    c = Replace p p sl structure

    abbrev next : Doc
    next = with_tokens d (plain (spliced d.tokens p p sl))

    abbrev front : List Owned
    front = take p (owned [] d.tokens)

    abbrev end : List Owned
    end = drop p (owned [] d.tokens)

    next-tokens : next.tokens ≡ (plain front ++ cs) ++ (hs ++ plain end)
    next-tokens =
        plain-append front (slice_owned sl ++ end)
        ∙ (ap (λ z. plain front ++ z) (plain-append (slice_owned sl) end
        ∙ (ap (λ z. z ++ plain end) (ap plain (slice-owned-is sl) ∙ (plain-owned (slice_stack sl) (slice_tokens sl) ∙ tokens-are)) ∙ append_assoc cs hs (plain end)))
        ∙ sym (append_assoc (plain front) cs (hs ++ plain end)))

    split-known : (n : Doc) → made s c d ≡ Ok n → knows_step s c ≡ true
    split-known n h =
        let u₀ = unless-ok (is_slice sl) reason.Range _ n h in
        let u₁ = unless-ok (in_order (p ∷ p ∷ []) (length d.tokens)) reason.Range _ n u₀.1 in
        let u₂ = unless-ok (keeps_structure structure (part p p d.tokens)) reason.Structure _ n u₁.1 in
        let u₃ = unless-ok (depths_fit d.tokens p p sl) reason.Depth _ n u₂.1 in
        let u₄ = unless-ok (parts_no_pair d.tokens (p ∷ p ∷ [])) reason.Pair _ n u₃.1 in
        let u₅ = unless-ok (joins (compatible s) [] (spliced d.tokens p p sl)) reason.Join (checked s next) n u₄.1 in
        let none = (checked-ok s next n u₅.1).1 in
        let places = (first-none (top_fits s next) (place_from s (d.kind ∷ []) None next.tokens) none).1 in
        let known : list_all (knows_open s) hs ≡ true =
        behind-known s (d.kind ∷ []) None (plain front ++ cs) hs (plain end) (heads-open d p outer depth) (subst (λ z. place_from s (d.kind ∷ []) None z ≡ None) next-tokens places) in
        ap (list_all (knows_open s)) front-is ∙ known

-- ---- not refused as unknown

module _ (s : Schema) (d : Doc) where
  pub known-not : (c : Step) → knows_step s c ≡ true → IsNotUnknown s d c
  known-not c k e = made-never s c d (sym (known-made s c d k) ∙ e)

  -- known wherever it is made
  if-made : (c : Step) → ((n : Doc) → made s c d ≡ Ok n → knows_step s c ≡ true) → IsNotUnknown s d c
  if-made c f e = by (made s c d) refl
    where
      by : (r : Result Doc Reason) → made s c d ≡ r → ⊥
      by (Ok n) h = known-not c (f n h) e
      by (Err r) h = made-never s c d (h ∙ (sym (err-stays (knows_step s c) r h) ∙ e))
        where
          err-stays : (b : Bool) (r : Reason) → made s c d ≡ Err r → and_unless b reason.NotInSchema (made s c d) ≡ Err r
          err-stays b r h = ap (λ z. and_unless b reason.NotInSchema z) h

  ok-not : (b : Bool) (c : Step) → is_ok (outcome s c d) ≡ b → b ≡ true → IsNotUnknown s d c
  ok-not b c e t u = absurd (no (outcome s c d) u (e ∙ t))
    where
      no : (r : Result Doc Reason) → r ≡ Err reason.NotInSchema → is_ok r ≡ true → ⊥
      no (Ok n) h k = absurd (cc)
      no (Err x) h k = absurd (cc)

  with-not : (from to : ℕ) (o : Option Slice) (c : Step) → step_with s d from to o ≡ Some c → IsNotUnknown s d c
  with-not from to None c h = absurd (cc)
  with-not from to (Some z) c h = by (is_ok (outcome s (Replace from to z false) d)) refl h
    where
      by : (b : Bool) → is_ok (outcome s (Replace from to z false) d) ≡ b → cond b (Some (Replace from to z false)) None ≡ Some c → IsNotUnknown s d c
      by false e k = absurd (cc)
      by true e k = let same : Replace from to z false ≡ c = cc in subst (IsNotUnknown s d) same (ok-not true (Replace from to z false) e refl)

module _ (schema : SchemaValue) (d : Doc) where
  abbrev docs : Schema
  docs = documents_of schema.spec

  abbrev Not : Step → Type 0
  Not c = IsNotUnknown docs d c

  or-some : (x y : Option Step) (c : Step) → option_or x y ≡ Some c → (x ≡ Some c → Not c) → (y ≡ Some c → Not c) → Not c
  or-some None y c h f g = g h
  or-some (Some x) y c h f g = f h

  first-not : (from to : ℕ) (cs : List Candidate) (c : Step) → first_some (map (step_by schema d from to) cs) ≡ Some c → Not c
  first-not from to [] c h = absurd (cc)
  first-not from to (x ∷ cs) c h =
      or-some (step_by schema d from to x) (first_some (map (step_by schema d from to) cs)) c h (with-not docs d from to (slice_of schema d from x) c) (first-not from to cs c)

  fit-not : (from to : ℕ) (z : Slice) (c : Step) → fit_step schema d from to z ≡ Some c → Not c
  unfolding fit_step
  fit-not from to z c h = first-not from to (candidates d from to z) c h

  answer-not : (o : Op) (c : Step) → KnowsOp docs o → answer_of schema d o ≡ Ok c → Not c
  answer-not (op.InsertText from to text) c k h =
      fit-not from to (text_slice (marks_at (inclusive_in schema.spec) d from) (utf16 text)) c (fitted-ok _ c (refuse-ok NotThere _ _ c (refuse-ok Range _ _ c h)))
  answer-not (op.Delete from to) c k h = fit-not from to no_slice c (fitted-ok _ c (refuse-ok NotThere _ _ c (refuse-ok Range _ _ c h)))
  answer-not (op.Paste from to slice) c k h = fit-not from to slice c (fitted-ok _ c (refuse-ok NotThere _ _ c (refuse-ok Range _ _ c h)))
  answer-not (op.InsertNode pos node) c k h = fit-not pos pos (closed (node_tokens node)) c (fitted-ok _ c (refuse-ok Range _ _ c h))
  answer-not (op.Split pos depth) c k h =
      let outer = depth_at d.tokens pos - depth in
      ok-same (Replace pos pos (split_slice d pos outer depth) true) c Not
      (if-made docs d (Replace pos pos (split_slice d pos outer depth) true) (split-known d pos outer depth docs true)) (refuse-ok NotThere _ _ c (refuse-ok Range _ _ c h))
  answer-not (op.Join pos depth) c k h =
      ok-same (Replace (pos - depth) (pos + depth) no_slice true) c Not (known-not docs d (Replace (pos - depth) (pos + depth) no_slice true) refl) (refuse-ok NotThere _ _ c (refuse-ok Range _ _ c h))
  answer-not (op.Wrap from to kind attrs) c k h =
      ok-same (ReplaceAround from to from to (empty_node kind attrs []) 1 true) c Not (known-not docs d (ReplaceAround from to from to (empty_node kind attrs []) 1 true) refl)
      (refuse-ok NotThere _ _ c (refuse-ok Range _ _ c h))
  answer-not (op.Lift pos) c k h =
      node-ok _ (node_at d pos) c Not (refuse-ok Range _ _ c h)
      (λ node e. let end = behind pos node in
      ok-same (ReplaceAround pos end (pos + 1) (end - 1) no_slice 0 true) c Not (known-not docs d (ReplaceAround pos end (pos + 1) (end - 1) no_slice 0 true) refl) e)
  answer-not (op.SetType pos kind attrs) c k h =
      node-ok _ (node_at d pos) c Not (refuse-ok NotThere _ _ c (refuse-ok Range _ _ c h))
      (λ node e. let end = behind pos node in
      ok-same (ReplaceAround pos end (pos + 1) (end - 1) (empty_node kind attrs node.marks) 1 true) c Not
      (known-not docs d (ReplaceAround pos end (pos + 1) (end - 1) (empty_node kind attrs node.marks) 1 true) refl) e)
  answer-not (op.AddMark from to mark) c k h = ok-same (AddMark from to mark) c Not (known-not docs d (AddMark from to mark) k) (refuse-ok NotThere _ _ c (refuse-ok Range _ _ c h))
  answer-not (op.RemoveMark from to mark) c k h = ok-same (RemoveMark from to mark) c Not (known-not docs d (RemoveMark from to mark) k) (refuse-ok NotThere _ _ c (refuse-ok Range _ _ c h))
  answer-not (op.SetAttr pos attr value) c k h = ok-same (Attr pos attr (plain_value value)) c Not (known-not docs d (Attr pos attr (plain_value value)) refl) (refuse-ok NotThere _ _ c (refuse-ok Range _ _ c h))
  answer-not (op.SetDocAttr attr value) c k h = ok-same (DocAttr attr (plain_value value)) c Not (known-not docs d (DocAttr attr (plain_value value)) refl) h
  answer-not (op.Step step) c k h = ok-same (step_of step) c Not (known-not docs d (step_of step) k) h

  one-not : (a : Answer) (steps : List Step) → ((c : Step) → a ≡ Ok c → Not c) → one a ≡ Ok steps → Each Not steps
  one-not (Ok c) steps f h = let same : c ∷ [] ≡ steps = cc in subst (Each Not) same (f c refl, tt)
  one-not (Err r) steps f h = absurd (cc)

  pub ops-not : (o : Op) (steps : List Step) → KnowsOp docs o → steps_of schema d o ≡ Ok steps → Each Not steps
  unfolding steps_of
  ops-not o steps k h = one-not (answer_of schema d o) steps (λ c e. answer-not o c k e) h
