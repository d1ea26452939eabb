-- Lists of marks, read one after another.
use Rattle.std.specs.Prelude.{◌≡◌, ℕ, ◌+◌, ◌≤◌, ◌<◌, Bool, true, false, cond, List, [], ◌∷◌, ◌++◌, length, take, drop, get_or, map, Some, None}
use Rattle.std.proofs.Common.{refl, ap, sym, ◌∙◌, append_assoc}
use Rattle.std.proofs.lemmas.List.{take_more, take_all, drop_all, at_drop_more}
use Rattle.pm_attrs.specs.Attrs.{same_attrs}
use Rattle.pm_marks.specs.declared.mark.Mark.{Mark}
use Rattle.pm_marks.specs.Sets.{has}
use Rattle.pm_tokens.specs.Tokens.{Attrs, Marks}
use Rattle.pm_meaning.specs.Steps.{Step, AddMark, RemoveMark, AddNodeMark, RemoveNodeMark}
use Rattle.pm_meaning.specs.Inverses.{first_lost}
use Rattle.pm_apply.specs.declared.target.Target.{Target}
use Rattle.pm_apply.specs.declared.target.Target.TheVariants.{Range, Node}
use Rattle.pm_step.specs.declared.marking.Marking.{Marking}
use Rattle.pm_step.specs.declared.marking.Marking.TheVariants.{Add, Remove}
use Rattle.pm_apply.specs.Walks.{target_step, given_back}

-- ---- the first mark that is lost

lost-at : (xs new : Marks) (i : ℕ) (x : Mark Attrs) (b : Bool) → i < length xs → x ≡ get_or xs i x → has same_attrs new x ≡ b
    → first_lost (drop i xs) new ≡ cond b (first_lost (drop (i + 1) xs) new) (Some x)
lost-at xs new i x b l r e =
    let split : drop i xs ≡ x ∷ drop (i + 1) xs = at_drop_more (λ z. z) xs i x l ∙ ap (λ z. z ∷ drop (i + 1) xs) (sym r) in
    ap (λ z. first_lost z new) split ∙ ap (λ z. cond z (first_lost (drop (i + 1) xs) new) (Some x)) e

pub lost-more : (xs new : Marks) (i : ℕ) (x : Mark Attrs) → first_lost xs new ≡ first_lost (drop i xs) new → i < length xs → x ≡ get_or xs i x → has same_attrs new x ≡ true
    → first_lost xs new ≡ first_lost (drop (i + 1) xs) new
lost-more xs new i x inv l r e = inv ∙ lost-at xs new i x true l r e

pub lost-here : (xs new : Marks) (i : ℕ) (x : Mark Attrs) → first_lost xs new ≡ first_lost (drop i xs) new → i < length xs → x ≡ get_or xs i x → has same_attrs new x ≡ false
    → Some x ≡ first_lost xs new
lost-here xs new i x inv l r e = sym (inv ∙ lost-at xs new i x false l r e)

pub lost-none : (xs new : Marks) (i : ℕ) → first_lost xs new ≡ first_lost (drop i xs) new → length xs ≤ i → None ≡ first_lost xs new
lost-none xs new i inv l = sym (inv ∙ ap (λ z. first_lost z new) (drop_all i xs l))

-- ---- steps for one mark after another

map-push : {A B : Type 0} (h : A → B) (xs : List A) (x : A) → map h (xs ++ (x ∷ [])) ≡ map h xs ++ (h x ∷ [])
map-push h [] x = refl
map-push h (y ∷ xs) x = ap (λ z. h y ∷ z) (map-push h xs x)

nil-end : {A : Type 0} (xs : List A) → xs ++ [] ≡ xs
nil-end [] = refl
nil-end (x ∷ xs) = ap (λ z. x ∷ z) (nil-end xs)

added-push : (p : Target) (ms : Marks) (m : Mark Attrs) → given_back p (ms ++ (m ∷ [])) [] ≡ given_back p ms [] ++ (target_step p (Add m) ∷ [])
added-push (Range from to) ms m = map-push (λ n. AddMark from to n) ms m
added-push (Node pos) ms m = map-push (λ n. AddNodeMark pos n) ms m

removed-push : (p : Target) (ms : Marks) (m : Mark Attrs) → given_back p [] (ms ++ (m ∷ [])) ≡ given_back p [] ms ++ (target_step p (Remove m) ∷ [])
removed-push (Range from to) ms m =
    nil-end (map (λ n. RemoveMark from to n) (ms ++ (m ∷ []))) ∙ (map-push (λ n. RemoveMark from to n) ms m ∙ ap (λ z. z ++ (RemoveMark from to m ∷ [])) (sym (nil-end (map (λ n. RemoveMark from to n) ms))))
removed-push (Node pos) ms m =
    nil-end (map (λ n. RemoveNodeMark pos n) (ms ++ (m ∷ []))) ∙ (map-push (λ n. RemoveNodeMark pos n) ms m ∙ ap (λ z. z ++ (RemoveNodeMark pos m ∷ [])) (sym (nil-end (map (λ n. RemoveNodeMark pos n) ms))))

upto : (xs : Marks) (i : ℕ) (x : Mark Attrs) → i < length xs → x ≡ get_or xs i x → take (i + 1) xs ≡ take i xs ++ (x ∷ [])
upto xs i x l r = take_more xs i x l ∙ ap (λ z. take i xs ++ (z ∷ [])) (sym r)

-- a step with a copy of the mark
pub copied : (p : Target) (does : Mark Attrs → Marking) (x y : Mark Attrs) (b c : List Step) → y ≡ x → c ≡ b ++ (target_step p (does y) ∷ []) → c ≡ b ++ (target_step p (does x) ∷ [])
copied p does x y b c same e = e ∙ ap (λ z. b ++ (target_step p (does z) ∷ [])) same

pub added-more : (p : Target) (xs : Marks) (i : ℕ) (x : Mark Attrs) (a b c : List Step) → i < length xs → x ≡ get_or xs i x
    → b ≡ a ++ given_back p (take i xs) [] → c ≡ b ++ (target_step p (Add x) ∷ []) → c ≡ a ++ given_back p (take (i + 1) xs) []
added-more p xs i x a b c l r inv e =
    e ∙ (ap (λ z. z ++ (target_step p (Add x) ∷ [])) inv ∙ (append_assoc a (given_back p (take i xs) []) (target_step p (Add x) ∷ [])
    ∙ ap (λ z. a ++ z) (sym (ap (λ z. given_back p z []) (upto xs i x l r) ∙ added-push p (take i xs) x))))

pub removed-more : (p : Target) (xs : Marks) (i : ℕ) (x : Mark Attrs) (a b c : List Step) → i < length xs → x ≡ get_or xs i x
    → b ≡ a ++ given_back p [] (take i xs) → c ≡ b ++ (target_step p (Remove x) ∷ []) → c ≡ a ++ given_back p [] (take (i + 1) xs)
removed-more p xs i x a b c l r inv e =
    e ∙ (ap (λ z. z ++ (target_step p (Remove x) ∷ [])) inv ∙ (append_assoc a (given_back p [] (take i xs)) (target_step p (Remove x) ∷ [])
    ∙ ap (λ z. a ++ z) (sym (ap (λ z. given_back p [] z) (upto xs i x l r) ∙ removed-push p (take i xs) x))))

pub given-nothing : (p : Target) (a : List Step) → a ≡ a ++ given_back p [] []
given-nothing (Range from to) a = sym (nil-end a)
given-nothing (Node pos) a = sym (nil-end a)

pub all-added : (p : Target) (xs : Marks) (i : ℕ) (a b : List Step) → b ≡ a ++ given_back p (take i xs) [] → length xs ≤ i → b ≡ a ++ given_back p xs []
all-added p xs i a b inv l = inv ∙ ap (λ z. a ++ given_back p z []) (take_all i xs l)

pub all-removed : (p : Target) (xs : Marks) (i : ℕ) (a b : List Step) → b ≡ a ++ given_back p [] (take i xs) → length xs ≤ i → b ≡ a ++ given_back p [] xs
all-removed p xs i a b inv l = inv ∙ ap (λ z. a ++ given_back p [] z) (take_all i xs l)

-- the new marks removed, and then the old ones added
pub given-both : (p : Target) (old new : Marks) (a b c : List Step) → b ≡ a ++ given_back p [] new → c ≡ b ++ given_back p old [] → c ≡ a ++ given_back p old new
given-both (Range from to) old new a b c e f =
    f ∙ (ap (λ z. z ++ given_back (Range from to) old []) e ∙ (append_assoc a (given_back (Range from to) [] new) (given_back (Range from to) old [])
    ∙ ap (λ z. a ++ (z ++ given_back (Range from to) old [])) (nil-end (map (λ n. RemoveMark from to n) new))))
given-both (Node pos) old new a b c e f =
    f ∙ (ap (λ z. z ++ given_back (Node pos) old []) e ∙ (append_assoc a (given_back (Node pos) [] new) (given_back (Node pos) old [])
    ∙ ap (λ z. a ++ (z ++ given_back (Node pos) old [])) (nil-end (map (λ n. RemoveNodeMark pos n) new))))
