-- Taking all marks of a set out of it, one after another; and putting a mark last.
use Rattle.std.specs.Prelude.{◌≡◌, Bool, true, false, ◌&&◌, ◌||◌, not, cond, [], ◌∷◌, ◌++◌}
use Rattle.std.proofs.Common.{refl, ap, sym, ◌∙◌, subst, append_assoc}
use Rattle.pm_attrs.specs.Attrs.{same_attrs}
use Rattle.pm_marks.specs.declared.mark.Mark.{Mark}
use Rattle.pm_marks.specs.Sets.{same_mark, has, all_added}
use Rattle.pm_tokens.specs.Tokens.{Attrs, Marks}
use Rattle.pm_tokens.specs.Schemas.{Schema}
use Rattle.pm_tokens.specs.Marks.{is_set}
use Rattle.pm_tokens.proofs.MarkLaws.{mark-equal, mark-itself, set-is, set-front}
use Rattle.pm_meaning.specs.Marked.{add, remove}
use Rattle.std.proofs.lemmas.Bool.{and_parts}

-- the set without each of these marks
abbrev pub remove_each : Marks → Marks → Marks
remove_each [] set = set
remove_each (m ∷ ms) set = remove_each ms (remove m set)

-- each mark of the set is among these
abbrev are_in : Marks → Marks → Bool
are_in ms [] = true
are_in ms (x ∷ xs) = has same_attrs ms x && are_in ms xs

same-both : (a b : Mark Attrs) → same_mark same_attrs a b ≡ true → same_mark same_attrs b a ≡ true
same-both a b h = let e = mark-equal a b h in rw e (subst (λ z. same_mark same_attrs z b ≡ true) e h)

-- what is left after a removal is among the others
left-in : (m : Mark Attrs) (ms xs : Marks) → are_in (m ∷ ms) xs ≡ true → are_in ms (remove m xs) ≡ true
left-in m ms [] h = refl
left-in m ms (x ∷ xs) h =
    let b = and_parts (same_mark same_attrs m x || has same_attrs ms x) (are_in (m ∷ ms) xs) h in
    at (same_mark same_attrs x m) (same_mark same_attrs m x) refl refl b.0 (left-in m ms xs b.1)
  where
    at : (p q : Bool) → same_mark same_attrs x m ≡ p → same_mark same_attrs m x ≡ q → (q || has same_attrs ms x) ≡ true → are_in ms (remove m xs) ≡ true
        → are_in ms (cond (not p) (x ∷ remove m xs) (remove m xs)) ≡ true
    at true q e f g r = r
    at false true e f g r = let z : same_mark same_attrs x m ≡ true = same-both m x f in absurd (cc)
    at false false e f g r = rw g r

emptied : (ms xs : Marks) → are_in ms xs ≡ true → remove_each ms xs ≡ []
emptied [] [] h = refl
emptied [] (x ∷ xs) h = absurd (cc)
emptied (m ∷ ms) xs h = emptied ms (remove m xs) (left-in m ms xs h)

or-true : (p : Bool) → ((p || true) && true) ≡ true
or-true true = refl
or-true false = refl

in-more : (m : Mark Attrs) (ms xs : Marks) → are_in ms xs ≡ true → are_in (m ∷ ms) xs ≡ true
in-more m ms [] h = refl
in-more m ms (x ∷ xs) h = let b = and_parts (has same_attrs ms x) (are_in ms xs) h in rw (b.0, in-more m ms xs b.1) (or-true (same_mark same_attrs m x))

in-self : (ms : Marks) → are_in ms ms ≡ true
in-self [] = refl
in-self (m ∷ ms) = rw (mark-itself m) (in-more m ms ms (in-self ms))

-- nothing is left of a set
pub removed-all : (ms : Marks) → remove_each ms ms ≡ []
removed-all ms = emptied ms ms (in-self ms)

-- these marks added in order
abbrev pub add_all : Schema → Marks → Marks → Marks
add_all s set ms = all_added same_attrs s.excludes set ms

all-append : (s : Schema) (set xs ys : Marks) → add_all s set (xs ++ ys) ≡ add_all s (add_all s set xs) ys
all-append s set [] ys = refl
all-append s set (x ∷ xs) ys = all-append s (add s x set) xs ys

-- the next mark of a set is put last
pub add-last : (s : Schema) (m : Mark Attrs) (cur ms : Marks) → is_set s (cur ++ (m ∷ ms)) ≡ true → add s m cur ≡ cur ++ (m ∷ [])
add-last s m cur ms h =
    let front : is_set s (cur ++ (m ∷ [])) ≡ true = set-front s (cur ++ (m ∷ [])) ms (subst (λ z. is_set s z ≡ true) (sym (append_assoc cur (m ∷ []) ms)) h) in
    let first : is_set s cur ≡ true = set-front s cur (m ∷ ms) h in
    ap (add s m) (sym (set-is s cur first)) ∙ (sym (all-append s [] cur (m ∷ [])) ∙ set-is s (cur ++ (m ∷ [])) front)
