-- Events undone after later steps, computed.
use Rattle.std.specs.Prelude.{◌≡◌, ℕ, ◌+◌, ◌<◌, false, List, [], ◌∷◌, Some, refl}
use Rattle.std.proofs.Common.{arith, inr, ⊎_elim}
use Rattle.pm_tokens.specs.Tokens.{Token, Open, Close, CodeUnit}
use Rattle.pm_tokens.specs.Slices.{Slice}
use Rattle.pm_meaning.specs.Steps.{Step, Replace, ReplaceAround}
use Rattle.pm_selective.specs.Apart.{LieApart}
use Rattle.pm_selective.specs.Carried.{step_maps, splices, left_tokens}

abbrev u : ℕ → Token
u n = CodeUnit n []

abbrev text : List Token → Slice
text ts = record { content = ts; open_start = 0; open_end = 0 }

abbrev paragraph : Token
paragraph = Open 1 [] []

-- a paragraph of "abcd"
abbrev before : List Token
before = paragraph ∷ u 97 ∷ u 98 ∷ u 99 ∷ u 100 ∷ Close ∷ []

-- "X" was put in after "a", and then "Y" after "c": without the event, "Y" stands one place further to the front
abbrev put_x : List Step
put_x = Replace 2 2 (text (u 88 ∷ [])) false ∷ []

abbrev put_y : List Step
put_y = Replace 5 5 (text (u 89 ∷ [])) false ∷ []

both-left : left_tokens put_x put_y before ≡ Some (paragraph ∷ u 97 ∷ u 98 ∷ u 99 ∷ u 89 ∷ u 100 ∷ Close ∷ [])
both-left = refl

they-lie-apart : LieApart (step_maps put_x) (step_maps put_y)
they-lie-apart = (((inr (omega arith), tt), tt), tt)

-- right after "X" it does not lie apart
touching : LieApart (step_maps put_x) (step_maps (Replace 3 3 (text (u 89 ∷ [])) false ∷ [])) → ⊥
touching h = ⊎_elim (λ (e : 3 + 0 < 2). omega (arith, e)) (λ (e : 3 < 3). omega (arith, e)) h.0.0.0

-- Two later steps. The first wraps the paragraph, so that its gap holds the event's range; the second takes out a part
-- of what the first put in, and a unit.
abbrev wrap : Step
wrap = ReplaceAround 0 7 0 7 (text (Open 2 [] [] ∷ Close ∷ [])) 1 false

abbrev replace_end : Step
replace_end = Replace 6 9 (text (Close ∷ Close ∷ [])) false

wrapped : splices (wrap ∷ replace_end ∷ []) (splices put_x before) ≡ Open 2 [] [] ∷ paragraph ∷ u 97 ∷ u 88 ∷ u 98 ∷ u 99 ∷ Close ∷ Close ∷ []
wrapped = refl

wrapped-left : left_tokens put_x (wrap ∷ replace_end ∷ []) before ≡ Some (Open 2 [] [] ∷ paragraph ∷ u 97 ∷ u 98 ∷ u 99 ∷ Close ∷ Close ∷ [])
wrapped-left = refl

-- "YZ" was put in after "c", and then "W" between the two: the place of "W" is found by the pair
inside-left : left_tokens put_x (Replace 5 5 (text (u 89 ∷ u 90 ∷ [])) false ∷ Replace 6 6 (text (u 87 ∷ [])) false ∷ []) before
    ≡ Some (paragraph ∷ u 97 ∷ u 98 ∷ u 99 ∷ u 89 ∷ u 87 ∷ u 90 ∷ u 100 ∷ Close ∷ [])
inside-left = refl
