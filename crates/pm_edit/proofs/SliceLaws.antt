-- The slices that edits put in are slices.
use Rattle.std.specs.Prelude.{◌≡◌, ℕ, ◌-◌, ◌*◌, ◌≤◌, ◌<◌, true, cond, List, [], ◌∷◌, ◌++◌, length, take, drop, replicate}
use Rattle.std.proofs.Common.{zero, suc, refl, ap, sym, ◌∙◌, arith, append_assoc, length-append}
use Rattle.std.proofs.lemmas.Bool.{ne_eqb}
use Rattle.std.proofs.lemmas.List.{take_at, drop_at, drop_all, length-replicate}
use Rattle.pm_tokens.specs.Tokens.{Token, Open, Close, Doc}
use Rattle.pm_tokens.specs.Scan.{Balanced, are_opens, are_closes}
use Rattle.pm_tokens.specs.Slices.{is_slice, slice_size}
use Rattle.pm_tokens.proofs.ScanLaws.{of-whole}
use Rattle.pm_tokens.proofs.BalanceLaws.{balanced-whole}
use Rattle.pm_tokens.proofs.PartLaws.{is-slice, closes-replicate}
use Rattle.pm_slice.specs.Sides.{sides, no_slice, or_none}
use Rattle.pm_resolve.specs.Places.{node_around}
use Rattle.pm_fit.specs.Candidates.{hollow}
use Rattle.pm_fit.proofs.HollowLaws.{length-hollow}

-- ---- whole nodes

pub closed-is : (ts : List Token) → Balanced ts → is_slice (sides ts 0 0) ≡ true
closed-is ts b =
    is-slice (sides ts 0 0) (record {
      whole = of-whole ts (balanced-whole b);
      within = omega arith;
      opens = refl;
      closes = ap are_closes (drop_all (length ts - 0) ts (omega arith));
    })

pub closed-one : (ts : List Token) → or_none (sides ts 0 0) ≡ sides ts 0 0
closed-one [] = refl
closed-one (t ∷ ts) =
    let no : slice_size (sides (t ∷ ts) 0 0) ≡ 0 → ⊥ = λ e. omega (arith, e) in
    ap (λ b. cond b no_slice (sides (t ∷ ts) 0 0)) (ne_eqb (slice_size (sides (t ∷ ts) 0 0)) 0 no)

-- ---- nodes without content, each in the one before

-- their opens
abbrev heads : Doc → ℕ → ℕ → ℕ → List Token
heads d p j zero = []
heads d p j (suc count) = Open (node_around d p (suc j)).kind (node_around d p (suc j)).attrs (node_around d p (suc j)).marks ∷ heads d p (suc j) count

heads-length : (d : Doc) (p j count : ℕ) → length (heads d p j count) ≡ count
heads-length d p j zero = refl
heads-length d p j (suc count) = ap suc (heads-length d p (suc j) count)

heads-open : (d : Doc) (p j count : ℕ) → are_opens (heads d p j count) ≡ true
heads-open d p j zero = refl
heads-open d p j (suc count) = heads-open d p (suc j) count

closes-on : (n : ℕ) → replicate n Close ++ (Close ∷ []) ≡ Close ∷ replicate n Close
closes-on zero = refl
closes-on (suc n) = ap (λ z. Close ∷ z) (closes-on n)

hollow-is : (d : Doc) (p j count : ℕ) → hollow d p j count ≡ heads d p j count ++ replicate count Close
hollow-is d p j zero = refl
hollow-is d p j (suc count) =
    let x = node_around d p (suc j) in
    ap (λ z. Open x.kind x.attrs x.marks ∷ (z ++ (Close ∷ []))) (hollow-is d p (suc j) count)
    ∙ ap (λ z. Open x.kind x.attrs x.marks ∷ z) (append_assoc (heads d p (suc j) count) (replicate count Close) (Close ∷ []) ∙ ap (λ z. heads d p (suc j) count ++ z) (closes-on count))

module _ (d : Doc) (p j count : ℕ) where
  abbrev one : List Token
  one = hollow d p j count

  abbrev closes : List Token
  closes = replicate count Close

  abbrev twice : List Token
  twice = one ++ one

  length-twice : length twice ≡ 4 * count
  length-twice = omega (arith, length-append one one, length-hollow d p j count)

  from-front : twice ≡ heads d p j count ++ (closes ++ one)
  from-front = ap (λ z. z ++ one) (hollow-is d p j count) ∙ append_assoc (heads d p j count) closes one

  from-back : twice ≡ (one ++ heads d p j count) ++ closes
  from-back = ap (λ z. one ++ z) (hollow-is d p j count) ∙ sym (append_assoc one (heads d p j count) closes)

  front-opens : are_opens (take count twice) ≡ true
  front-opens = ap (λ z. are_opens (take count z)) from-front ∙ (ap are_opens (take_at (heads d p j count) (closes ++ one) count (heads-length d p j count)) ∙ heads-open d p j count)

  back-closes : are_closes (drop (length twice - count) twice) ≡ true
  back-closes =
      let n : length (one ++ heads d p j count) ≡ length twice - count = omega (arith, length-twice, length-append one (heads d p j count), heads-length d p j count, length-hollow d p j count) in
      ap (λ z. are_closes (drop (length twice - count) z)) from-back ∙ (ap are_closes (drop_at (one ++ heads d p j count) closes (length twice - count) n) ∙ closes-replicate count)

  pub split-is : Balanced twice → is_slice (sides twice count count) ≡ true
  split-is b = is-slice (sides twice count count) (record { whole = of-whole twice (balanced-whole b); within = omega (arith, length-twice); opens = front-opens; closes = back-closes })

  pub split-one : 0 < count → or_none (sides twice count count) ≡ sides twice count count
  split-one h =
      let no : slice_size (sides twice count count) ≡ 0 → ⊥ = λ e. omega (arith, e, h, length-twice) in
      ap (λ b. cond b no_slice (sides twice count count)) (ne_eqb (slice_size (sides twice count count)) 0 no)

-- two contents that were pushed one after the other, below the depth `around` - `depth`
pub twice-is : (d : Doc) (p n around depth : ℕ) (none a b : List Token) → around ≡ n → depth ≤ n → none ≡ []
    → a ≡ none ++ hollow d p (around - depth) (n - (around - depth)) → b ≡ a ++ hollow d p (around - depth) (n - (around - depth))
    → b ≡ hollow d p (n - depth) depth ++ hollow d p (n - depth) depth
twice-is d p n around depth none a b e h z q r =
    let inner : n - (n - depth) ≡ depth = omega (arith, h) in
    let one : hollow d p (around - depth) (n - (around - depth)) ≡ hollow d p (n - depth) depth =
    ap (λ i. hollow d p (i - depth) (n - (i - depth))) e ∙ ap (hollow d p (n - depth)) inner in
    let first : a ≡ hollow d p (n - depth) depth = q ∙ (ap (λ y. y ++ hollow d p (around - depth) (n - (around - depth))) z ∙ one) in
    r ∙ (ap (λ y. y ++ hollow d p (around - depth) (n - (around - depth))) first ∙ ap (λ y. hollow d p (n - depth) depth ++ y) one)

pub once-length : (d : Doc) (p n around depth : ℕ) (none a : List Token) → around ≡ n → depth ≤ n → none ≡ []
    → a ≡ none ++ hollow d p (around - depth) (n - (around - depth)) → length a ≡ 2 * depth
once-length d p n around depth none a e h z q =
    let size : length a ≡ length (none ++ hollow d p (around - depth) (n - (around - depth))) = ap length q in
    omega (arith, size, e, h, ap length z, length-append none (hollow d p (around - depth) (n - (around - depth))), length-hollow d p (around - depth) (n - (around - depth)))
