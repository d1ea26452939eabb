-- What a step does to the tokens is what its map says.
use Rattle.std.proofs.Common.{◌≡◌, ℕ, zero, suc, ◌+◌, ◌-◌, ◌≤◌, List, [], ◌∷◌, ◌++◌, length, map, take, drop, refl, sym, ap, ap₂, ◌∙◌, arith}
use Rattle.std.proofs.lemmas.List.{take-append-drop}
use Rattle.std.specs.Prelude.{Ok}
use Rattle.pm_map.specs.declared.step_map.Span.{Span}
use Rattle.pm_value.specs.Plain.{Plain}
use Rattle.pm_tokens.specs.Tokens.{Marks, Token, Open, Close, Leaf, CodeUnit, Doc}
use Rattle.pm_tokens.specs.Scan.{tail_of, unclosed, part}
use Rattle.pm_tokens.specs.Faults.{Valid}
use Rattle.pm_tokens.specs.Schemas.{Schema}
use Rattle.pm_tokens.specs.Slices.{slice_tokens, slice_size}
use Rattle.pm_tokens.proofs.ListLaws.{drop-nil}
use Rattle.pm_tokens.proofs.PartLaws.{slice-length}
use Rattle.pm_meaning.specs.Steps.{Step, Replace, ReplaceAround, AddMark, RemoveMark, AddNodeMark, RemoveNodeMark, Attr, DocAttr}
use Rattle.pm_meaning.specs.Maps.{step_map}
use Rattle.pm_meaning.specs.Marked.{add, remove, mark_added, mark_removed, with_marks, with_node_marks}
use Rattle.pm_meaning.specs.Attributes.{with_node_value}
use Rattle.pm_meaning.specs.Outcomes.{outcome}
use Rattle.pm_meaning.proofs.ReplaceLaws.{replaced, next-is}
use Rattle.pm_meaning.proofs.AroundLaws.{moved, around-next-is}
use Rattle.pm_meaning.proofs.MarkStepLaws.{outcome-effect}
use Rattle.pm_meaning.proofs.StepLaws.{within}
use Rattle.pm_meaning.proofs.AttributeLaws.{attr-made, doc-same-tokens}
use Rattle.pm_laws.specs.Splices.{replaced_from, bare, put_in, Splices, MapsTellTokens}

-- ---- lists

module _ {A B : Type 0} (f : A → B) where
  map-append : (xs ys : List A) → map f (xs ++ ys) ≡ map f xs ++ map f ys
  map-append [] ys = refl
  map-append (x ∷ xs) ys = ap (λ l. f x ∷ l) (map-append xs ys)

  map-take : (n : ℕ) (xs : List A) → map f (take n xs) ≡ take n (map f xs)
  map-take zero xs = refl
  map-take (suc n) [] = refl
  map-take (suc n) (x ∷ xs) = ap (λ l. f x ∷ l) (map-take n xs)

  map-drop : (n : ℕ) (xs : List A) → map f (drop n xs) ≡ drop n (map f xs)
  map-drop zero xs = refl
  map-drop (suc n) [] = refl
  map-drop (suc n) (x ∷ xs) = map-drop n xs

  map-replaced : (rs : List Span) (at : ℕ) (put xs : List A) → map f (replaced_from rs at put xs) ≡ replaced_from rs at (map f put) (map f xs)
  map-replaced [] at put xs = refl
  map-replaced (r ∷ rs) at put xs =
      let back = drop ((r.start - at) + r.old_size) xs in
      let rest = replaced_from rs (r.start + r.old_size) (drop r.new_size put) back in
      map-append (take (r.start - at) xs) (take r.new_size put ++ rest)
      ∙ ap₂ (λ p q. p ++ q) (map-take (r.start - at) xs)
      (map-append (take r.new_size put) rest
      ∙ ap₂ (λ p q. p ++ q) (map-take r.new_size put)
      (map-replaced rs (r.start + r.old_size) (drop r.new_size put) back
      ∙ ap₂ (λ p q. replaced_from rs (r.start + r.old_size) p q) (map-drop r.new_size put) (map-drop ((r.start - at) + r.old_size) xs)))

take-whole : {A : Type 0} (n : ℕ) (xs : List A) → length xs ≡ n → take n xs ≡ xs
take-whole n [] h = by n
  where
    by : {A : Type 0} (n : ℕ) → ◌≡◌ {A = List A} (take n []) []
    by zero = refl
    by (suc n) = refl
take-whole zero (x ∷ xs) h = absurd (omega (arith, h))
take-whole (suc n) (x ∷ xs) h = ap (λ l. x ∷ l) (take-whole n xs (omega (arith, h)))

length-drop-is : {A : Type 0} (n m : ℕ) (xs : List A) → length xs ≡ m → length (drop n xs) ≡ m - n
length-drop-is zero m xs h = omega (arith, h)
length-drop-is (suc n) m [] h = omega (arith, h)
length-drop-is (suc n) m (x ∷ xs) h = let i : length (drop n xs) ≡ (m - 1) - n = length-drop-is n (m - 1) xs (omega (arith, h)) in omega (arith, i)

drop-twice : {A : Type 0} (n k : ℕ) (xs : List A) → drop k (drop n xs) ≡ drop (n + k) xs
drop-twice zero k xs = ap (λ i. drop i xs) (let e : k ≡ zero + k = omega arith in e)
drop-twice (suc n) k [] = drop-nil k ∙ sym (drop-nil (suc n + k))
drop-twice (suc n) k (x ∷ xs) = drop-twice n k xs ∙ ap (λ i. drop i (x ∷ xs)) (let e : suc (n + k) ≡ suc n + k = omega arith in e)

-- ---- replaces

replace-is : (from to size : ℕ) (put ts : List Token) → from ≤ to → length put ≡ size
    → replaced_from (record { start = from; old_size = to - from; new_size = size } ∷ []) 0 put ts ≡ take from ts ++ (put ++ drop to ts)
replace-is from to size put ts h l =
    let e₁ : from - 0 ≡ from = omega arith in
    let e₂ : (from - 0) + (to - from) ≡ to = omega (arith, h) in
    λ i. take (e₁ i) ts ++ (take-whole size put l i ++ drop (e₂ i) ts)

around-is : (from gf gt to size insert : ℕ) (put ts : List Token) → from ≤ gf → gf ≤ gt → gt ≤ to → length put ≡ size
    → replaced_from (record { start = from; old_size = gf - from; new_size = insert } ∷ record { start = gt; old_size = to - gt; new_size = size - insert } ∷ []) 0 put ts
    ≡ take from ts ++ (take insert put ++ (part gf gt ts ++ (drop insert put ++ drop to ts)))
around-is from gf gt to size insert put ts h i j l =
    let e₁ : from - 0 ≡ from = omega arith in
    let e₂ : gt - (from + (gf - from)) ≡ gt - gf = omega (arith, h, i) in
    let e₃ : (from - 0) + (gf - from) ≡ gf = omega (arith, h) in
    let e₄ : gf + ((gt - (from + (gf - from))) + (to - gt)) ≡ to = omega (arith, h, i, j) in
    let rest : drop ((gt - (from + (gf - from))) + (to - gt)) (drop ((from - 0) + (gf - from)) ts) ≡ drop to ts =
    ap (λ n. drop ((gt - (from + (gf - from))) + (to - gt)) (drop n ts)) e₃ ∙ (drop-twice gf ((gt - (from + (gf - from))) + (to - gt)) ts ∙ ap (λ n. drop n ts) e₄) in
    let last : take (size - insert) (drop insert put) ≡ drop insert put = take-whole (size - insert) (drop insert put) (length-drop-is insert size put l) in
    λ k. take (e₁ k) ts ++ (take insert put ++ (take (e₂ k) (drop (e₃ k) ts) ++ (last k ++ rest k)))

-- ---- marks and attributes

bare-marked : (f : ℕ → Token → Marks → Marks) (ps : List ℕ) (ts : List Token) → map bare (with_marks f ps ts) ≡ map bare ts
bare-marked f ps [] = refl
bare-marked f ps (Open k a m ∷ ts) = ap (λ l. Open k [] [] ∷ l) (bare-marked f (k ∷ ps) ts)
bare-marked f ps (Close ∷ ts) = ap (λ l. Close ∷ l) (bare-marked f (tail_of ps) ts)
bare-marked f ps (Leaf k a m ∷ ts) = ap (λ l. Leaf k [] [] ∷ l) (bare-marked f ps ts)
bare-marked f ps (CodeUnit u m ∷ ts) = ap (λ l. CodeUnit u [] ∷ l) (bare-marked f ps ts)

bare-node : (f : Marks → Marks) (ts : List Token) → map bare (with_node_marks f ts) ≡ map bare ts
bare-node f [] = refl
bare-node f (Open k a m ∷ ts) = refl
bare-node f (Close ∷ ts) = refl
bare-node f (Leaf k a m ∷ ts) = refl
bare-node f (CodeUnit u m ∷ ts) = refl

bare-valued : (i : ℕ) (value : Plain) (ts : List Token) → map bare (with_node_value i value ts) ≡ map bare ts
bare-valued i value [] = refl
bare-valued i value (Open k a m ∷ ts) = refl
bare-valued i value (Close ∷ ts) = refl
bare-valued i value (Leaf k a m ∷ ts) = refl
bare-valued i value (CodeUnit u m ∷ ts) = refl

-- a front that stays, and a back that changes in attributes and marks alone
bare-back : (front new old : List Token) → map bare new ≡ map bare old → map bare (front ++ new) ≡ map bare (front ++ old)
bare-back front new old h = map-append bare front new ∙ (ap (λ l. map bare front ++ l) h ∙ sym (map-append bare front old))

bare-front : (new old back : List Token) → map bare new ≡ map bare old → map bare (new ++ back) ≡ map bare (old ++ back)
bare-front new old back h = map-append bare new back ∙ (ap (λ l. l ++ map bare back) h ∙ sym (map-append bare old back))

in-range : (f : ℕ → Token → Marks → Marks) (ps : List ℕ) (from to : ℕ) (ts : List Token) → from ≤ to
    → map bare (take from ts ++ (with_marks f ps (part from to ts) ++ drop to ts)) ≡ map bare ts
in-range f ps from to ts h =
    let e : from + (to - from) ≡ to = omega (arith, h) in
    let rest : part from to ts ++ drop to ts ≡ drop from ts =
    ap (λ l. part from to ts ++ l) (sym (drop-twice from (to - from) ts ∙ ap (λ n. drop n ts) e)) ∙ take-append-drop (to - from) (drop from ts) in
    bare-back (take from ts) (with_marks f ps (part from to ts) ++ drop to ts) (drop from ts)
    (bare-front (with_marks f ps (part from to ts)) (part from to ts) (drop to ts) (bare-marked f ps (part from to ts)) ∙ ap (map bare) rest)
    ∙ ap (map bare) (take-append-drop from ts)

at-node : (new : List Token → List Token) (p : ℕ) (ts : List Token) → map bare (new (drop p ts)) ≡ map bare (drop p ts) → map bare (take p ts ++ new (drop p ts)) ≡ map bare ts
at-node new p ts h = bare-back (take p ts) (new (drop p ts)) (drop p ts) h ∙ ap (map bare) (take-append-drop p ts)

-- ---- all kinds

tokens-of : (d e : Doc) → d ≡ e → d.tokens ≡ e.tokens
tokens-of d e h = ap (λ z. z.tokens) h

splices : (s : Schema) (c : Step) (d next : Doc) → Valid s d → outcome s c d ≡ Ok next → Splices c d.tokens next.tokens
splices s (Replace from to sl structure) d next v h =
    let r = replaced s from to sl structure d next h in
    ap (λ z. z.tokens) (next-is s from to sl d next v r) ∙ sym (replace-is from to (slice_size sl) (slice_tokens sl) d.tokens r.ordered (slice-length sl r.slice))
splices s (ReplaceAround from to gf gt sl insert structure) d next v h =
    let r = moved s from to gf gt sl insert structure d next h in
    ap (λ z. z.tokens) (around-next-is s from to gf gt sl insert structure d next v r)
    ∙ sym (around-is from gf gt to (slice_size sl) insert (slice_tokens sl) d.tokens r.ordered r.gap_ordered r.end_ordered (slice-length sl r.slice))
splices s (AddMark from to mark) d next v h =
    ap (λ z. map bare z.tokens) (outcome-effect s (AddMark from to mark) d next refl h)
    ∙ in-range (mark_added s mark) (unclosed (d.kind ∷ []) (take from d.tokens)) from to d.tokens (within s (AddMark from to mark) d next v h).0
splices s (RemoveMark from to mark) d next v h =
    ap (λ z. map bare z.tokens) (outcome-effect s (RemoveMark from to mark) d next refl h)
    ∙ in-range (mark_removed s mark) (unclosed (d.kind ∷ []) (take from d.tokens)) from to d.tokens (within s (RemoveMark from to mark) d next v h).0
splices s (AddNodeMark pos mark) d next v h =
    ap (λ z. map bare z.tokens) (outcome-effect s (AddNodeMark pos mark) d next refl h)
    ∙ at-node (with_node_marks (add s mark)) pos d.tokens (bare-node (add s mark) (drop pos d.tokens))
splices s (RemoveNodeMark pos mark) d next v h =
    ap (λ z. map bare z.tokens) (outcome-effect s (RemoveNodeMark pos mark) d next refl h)
    ∙ at-node (with_node_marks (remove mark)) pos d.tokens (bare-node (remove mark) (drop pos d.tokens))
splices s (Attr pos name value) d next v h =
    let w = (attr-made s pos name value d next v h).settled in
    ap (λ z. map bare z.tokens) w.is ∙ at-node (with_node_value w.place value) pos d.tokens (bare-valued w.place value (drop pos d.tokens))
splices s (DocAttr name value) d next v h = doc-same-tokens s name value d next v h

bares : (c : Step) (ts next : List Token) → Splices c ts next → map bare next ≡ replaced_from (step_map c) 0 (map bare (put_in c)) (map bare ts)
bares (Replace from to sl structure) ts next h = ap (map bare) h ∙ map-replaced bare (step_map (Replace from to sl structure)) 0 (slice_tokens sl) ts
bares (ReplaceAround from to gf gt sl insert structure) ts next h =
    ap (map bare) h ∙ map-replaced bare (step_map (ReplaceAround from to gf gt sl insert structure)) 0 (slice_tokens sl) ts
bares (AddMark from to mark) ts next h = h
bares (RemoveMark from to mark) ts next h = h
bares (AddNodeMark pos mark) ts next h = h
bares (RemoveNodeMark pos mark) ts next h = h
bares (Attr pos name value) ts next h = h
bares (DocAttr name value) ts next h = ap (map bare) h

pub maps-tell-tokens : (s : Schema) → MapsTellTokens s
maps-tell-tokens s = record {
  splices = λ c d next v h. splices s c d next v h;
  bares = λ c d next v h. bares c d.tokens next.tokens (splices s c d next v h);
}
