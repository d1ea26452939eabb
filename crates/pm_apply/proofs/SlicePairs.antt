-- A place in a slice parts a pair of its tokens where it parts one of its content.
use Rattle.std.specs.Prelude.{◌≡◌, ℕ, ◌+◌, ◌≤◌, ◌&&◌, true, false, List, [], ◌∷◌, ◌++◌, take, drop}
use Rattle.std.proofs.Common.{refl, ap, sym, ◌∙◌, arith, append_assoc, length-take}
use Rattle.std.proofs.lemmas.List.{append-nil, take-append-drop}
use Rattle.pm_tokens.specs.Tokens.{Token, Open, Close, Leaf, CodeUnit}
use Rattle.pm_tokens.specs.Scan.{parts_pair, ends_high, starts_low, are_opens, are_closes}
use Rattle.pm_tokens.specs.Slices.{Slice, is_slice, content_end, slice_tokens, slice_size}
use Rattle.pm_tokens.proofs.PairLaws.{high-last, low-first}
use Rattle.pm_tokens.proofs.PartLaws.{Split, slice-is, slice-split, slice-length, split-fronts, split-back}

-- opens end with no half of a pair, and closes begin with none
opens-high : (os : List Token) → are_opens os ≡ true → ends_high os ≡ false
opens-high [] h = refl
opens-high (Open k a m ∷ []) h = refl
opens-high (Open k a m ∷ t ∷ os) h = opens-high (t ∷ os) h
opens-high (Close ∷ os) h = absurd (cc)
opens-high (Leaf k a m ∷ os) h = absurd (cc)
opens-high (CodeUnit u m ∷ os) h = absurd (cc)

closes-low : (cs : List Token) → are_closes cs ≡ true → starts_low cs ≡ false
closes-low [] h = refl
closes-low (Open k a m ∷ cs) h = absurd (cc)
closes-low (Close ∷ cs) h = refl
closes-low (Leaf k a m ∷ cs) h = absurd (cc)
closes-low (CodeUnit u m ∷ cs) h = absurd (cc)

high-behind : (os xs : List Token) → are_opens os ≡ true → ends_high (os ++ xs) ≡ ends_high xs
high-behind os [] h = ap ends_high (append-nil os) ∙ opens-high os h
high-behind os (x ∷ xs) h = high-last os x xs

low-before : (ys cs : List Token) → are_closes cs ≡ true → starts_low (ys ++ cs) ≡ starts_low ys
low-before [] cs h = closes-low cs h
low-before (y ∷ ys) cs h = low-first y ys cs

pub parts-pair-in : (sl : Slice) (insert start : ℕ) → is_slice sl ≡ true → insert ≤ slice_size sl → start ≡ sl.open_start
    → parts_pair sl.content (start + insert) ≡ parts_pair (slice_tokens sl) insert
parts-pair-in sl insert start w h e =
    let is = slice-is sl w in
    let os = take sl.open_start sl.content in
    let m = slice_tokens sl in
    let cs = drop (content_end sl) sl.content in
    let x = take insert m in
    let y = drop insert m in
    let s = slice-split sl is in
    let inner : Split sl.content os x (y ++ cs) sl.open_start (start + insert) = record {
      is = s.is ∙ (ap (λ z. os ++ (z ++ cs)) (sym (take-append-drop insert m)) ∙ ap (λ z. os ++ z) (append_assoc x y cs));
      at_from = s.at_from;
      at_to = omega (arith, e, h, length-take insert m, slice-length sl is);
    } in
    ap (λ z. ends_high z && starts_low (drop (start + insert) sl.content)) (split-fronts inner)
    ∙ (ap (λ z. ends_high (os ++ x) && starts_low z) (split-back inner)
    ∙ (ap (λ z. z && starts_low (y ++ cs)) (high-behind os x is.opens) ∙ ap (λ z. ends_high x && z) (low-before y cs is.closes)))
