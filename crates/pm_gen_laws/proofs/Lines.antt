-- A text of one line is split off.
use Rattle.std.proofs.Common.{◌≡◌, ℕ, ◌==◌, Bool, true, false, nat_le, nat_lt, if◌then◌else◌, List, [], ◌∷◌, ◌++◌, refl, ap, ◌∙◌, arith, append_assoc, leb-true, ne_eqb}
use Rattle.std.proofs.lemmas.Bool.{and_parts}
use Rattle.pm_head.specs.Lines.{onto, lines_of}
use Rattle.pm_gen_laws.proofs.Pieces.{is_shown, all_shown}

pub one-line : (xs rest : List ℕ) → all_shown xs ≡ true → lines_of (xs ++ 10 ∷ rest) ≡ xs ∷ lines_of rest
unfolding lines_of
one-line [] rest e = refl
one-line (x ∷ xs) rest e =
    let p = and_parts (is_shown x) (all_shown xs) e in
    let q = and_parts (nat_le 32 x) (nat_lt x 127) p.0 in
    let n : (x == 10) ≡ false = ne_eqb x 10 (λ s. absurd (omega (arith, leb-true 32 x q.0, s))) in
    ap (λ (b : Bool). if b then [] ∷ lines_of (xs ++ 10 ∷ rest) else onto x (lines_of (xs ++ 10 ∷ rest))) n ∙ ap (onto x) (one-line xs rest p.1)

pub next-line : (xs rest : List ℕ) → all_shown xs ≡ true → lines_of ((xs ++ 10 ∷ []) ++ rest) ≡ xs ∷ lines_of rest
next-line xs rest e = ap lines_of (append_assoc xs (10 ∷ []) rest) ∙ one-line xs rest e

-- the first three lines
pub head-lines : (a b c rest : List ℕ) → all_shown a ≡ true → all_shown b ≡ true → all_shown c ≡ true
    → lines_of ((((a ++ 10 ∷ []) ++ (b ++ 10 ∷ [])) ++ (c ++ 10 ∷ [])) ++ rest) ≡ a ∷ b ∷ c ∷ lines_of rest
head-lines a b c rest ea eb ec =
    let regroup = append_assoc ((a ++ 10 ∷ []) ++ (b ++ 10 ∷ [])) (c ++ 10 ∷ []) rest ∙ append_assoc (a ++ 10 ∷ []) (b ++ 10 ∷ []) ((c ++ 10 ∷ []) ++ rest) in
    ap lines_of regroup ∙ (next-line a ((b ++ 10 ∷ []) ++ ((c ++ 10 ∷ []) ++ rest)) ea ∙ ap (λ z. a ∷ z) (next-line b ((c ++ 10 ∷ []) ++ rest) eb ∙ ap (λ z. b ∷ z) (next-line c rest ec)))
