-- What the schema knows: the opens around a position of a valid document, and so what is cut out of it.
use Rattle.std.specs.Prelude.{◌≡◌, ℕ, zero, suc, ◌≤◌, true, ◌&&◌, not, ◌==◌, List, [], ◌∷◌, ◌++◌, length, take, reverse, replicate, Option, None}
use Rattle.std.specs.List.{list_all}
use Rattle.std.proofs.lemmas.Bool.{and_parts, and_from}
use Rattle.std.proofs.lemmas.List.{take_at, reverse-append, length-reverse}
use Rattle.std.proofs.lemmas.List.Folds.{list_all-append}
use Rattle.std.proofs.Common.{refl, ap, ◌∙◌, subst, arith, length-take}
use Rattle.pm_tokens.specs.Tokens.{Attrs, Marks, Token, Open, Close, Leaf, CodeUnit, Doc}
use Rattle.pm_tokens.specs.Scan.{head_of, unclosed, unmet, rest_of, around}
use Rattle.pm_tokens.specs.Kids.{kids}
use Rattle.pm_tokens.specs.Marks.{is_set, are_allowed, have_attrs}
use Rattle.pm_tokens.specs.Faults.{attrs_fit, marks_fit, content_fits, high_of, under, token_fits, place_from, Valid}
use Rattle.pm_tokens.specs.Schemas.{Schema, node_attrs}
use Rattle.pm_tokens.specs.Slices.{closed_over}
use Rattle.pm_tokens.proofs.CutLaws.{around-length}
use Rattle.pm_tokens.proofs.PairLaws.{first-none}
use Rattle.pm_tokens.proofs.ValidLaws.{token-fits, valid-tokens}
use Rattle.pm_meaning.specs.Known.{knows_open, knows_slice}

module _ (s : Schema) where
  -- an open without a fault
  open-known : (parent k : ℕ) (a : Attrs) (m : Marks) (next : List Token) → attrs_fit s (Open k a m) ≡ true → marks_fit s parent (Open k a m) ≡ true → content_fits s (Open k a m) next ≡ true → knows_open s (Open k a m) ≡ true
  open-known parent k a m next h i j =
      let x = and_parts (node_attrs s k a) (have_attrs s m) h in
      let y = and_parts (is_set s m) (are_allowed s parent m) i in
      let z = and_parts (not (k == s.text) && not (s.is_leaf k)) (s.accepts k (kids s.text 0 None next)) j in
      and_from (node_attrs s k a && (not (k == s.text) && not (s.is_leaf k))) (have_attrs s m && is_set s m)
      (and_from (node_attrs s k a) (not (k == s.text) && not (s.is_leaf k)) x.0 z.0)
      (and_from (have_attrs s m) (is_set s m) x.1 y.0)

  abbrev AllKnown : List Token → Type 0
  AllKnown ts = list_all (knows_open s) ts ≡ true

  rest-known : (o : List Token) → AllKnown o → AllKnown (rest_of o)
  rest-known [] h = refl
  rest-known (t ∷ o) h = (and_parts (knows_open s t) (list_all (knows_open s) o) h).1

  take-known : (n : ℕ) (o : List Token) → AllKnown o → AllKnown (take n o)
  take-known zero o h = refl
  take-known (suc n) [] h = refl
  take-known (suc n) (t ∷ o) h =
      let b = and_parts (knows_open s t) (list_all (knows_open s) o) h in
      and_from (knows_open s t) (list_all (knows_open s) (take n o)) b.0 (take-known n o b.1)

  reverse-known : (o : List Token) → AllKnown o → AllKnown (reverse o)
  reverse-known [] h = refl
  reverse-known (t ∷ o) h =
      let b = and_parts (knows_open s t) (list_all (knows_open s) o) h in
      ap (list_all (knows_open s)) (reverse-append (t ∷ []) o)
      ∙ (list_all-append (knows_open s) (reverse o) (t ∷ [])
      ∙ and_from (list_all (knows_open s) (reverse o)) (knows_open s t && true) (reverse-known o b.1) (and_from (knows_open s t) true b.0 refl))

  -- the opens around a place of tokens without faults, among those that were open before
  around-known : (ps : List ℕ) (high : Option Marks) (o xs ys : List Token) → place_from s ps high (xs ++ ys) ≡ None → AllKnown o → AllKnown (around o xs)
  around-known ps high o [] ys h k = k
  around-known ps high o (Open j a m ∷ xs) ys h k =
      let t = Open j a m in
      let f = first-none (token_fits s (head_of ps) high t (xs ++ ys)) (place_from s (under ps t) (high_of t) (xs ++ ys)) h in
      let w = token-fits s (head_of ps) high t (xs ++ ys) f.0 in
      around-known (under ps t) (high_of t) (t ∷ o) xs ys f.1 (and_from (knows_open s t) (list_all (knows_open s) o) (open-known (head_of ps) j a m (xs ++ ys) w.attrs w.marks w.content) k)
  around-known ps high o (Close ∷ xs) ys h k =
      let f = first-none (token_fits s (head_of ps) high Close (xs ++ ys)) (place_from s (under ps Close) (high_of Close) (xs ++ ys)) h in
      around-known (under ps Close) (high_of Close) (rest_of o) xs ys f.1 (rest-known o k)
  around-known ps high o (Leaf j a m ∷ xs) ys h k =
      let t = Leaf j a m in
      let f = first-none (token_fits s (head_of ps) high t (xs ++ ys)) (place_from s (under ps t) (high_of t) (xs ++ ys)) h in
      around-known (under ps t) (high_of t) o xs ys f.1 k
  around-known ps high o (CodeUnit u m ∷ xs) ys h k =
      let t = CodeUnit u m in
      let f = first-none (token_fits s (head_of ps) high t (xs ++ ys)) (place_from s (under ps t) (high_of t) (xs ++ ys)) h in
      around-known (under ps t) (high_of t) o xs ys f.1 k

  -- what is cut out of a valid document: its tokens after the front a
  pub cut-known : (d : Doc) (a ts rest : List Token) → Valid s d → d.tokens ≡ a ++ rest → unmet 0 ts ≤ length (unclosed [] a) → knows_slice s (closed_over a ts) ≡ true
  cut-known d a ts rest v e n =
      let opened = take (unmet 0 ts) (around [] a) in
      let known = around-known (d.kind ∷ []) None [] a rest (subst (λ z. place_from s (d.kind ∷ []) None z ≡ None) e (valid-tokens s d v)) refl in
      let l : length (reverse opened) ≡ unmet 0 ts = omega (arith, n, length-reverse opened, length-take (unmet 0 ts) (around [] a), around-length [] [] a refl) in
      ap (list_all (knows_open s)) (take_at (reverse opened) (ts ++ replicate (length (unclosed [] ts)) Close) (unmet 0 ts) l)
      ∙ reverse-known opened (take-known (unmet 0 ts) (around [] a) known)
