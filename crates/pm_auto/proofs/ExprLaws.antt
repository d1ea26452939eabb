-- The expansion has the language of the expression.
use Rattle.std.specs.Prelude.{◌≡◌, ℕ, zero, suc, ◌+◌, ◌-◌, ◌≤◌, max, List, [], ◌∷◌, ◌++◌, Option, Some, None, ◌⊎◌}
use Rattle.std.proofs.Common.{refl, ap, sym, ◌∙◌, subst, inl, inr, append_assoc, append-nil, arith}
use Rattle.pm_auto.specs.Core as core
use Rattle.pm_auto.specs.Core.{Core, Never, Alt, Cat, Loop, Joined, Times, Lang}
use Rattle.pm_auto.specs.Lang.{Within, Many, In, In_some, In_turn}
use Rattle.pm_auto.specs.Expand.{in_turn, one_of, and_copies, optional, range, expand, expand_all}
use Rattle.pm_auto.specs.declared.expr.Expr.{Expr, Empty, One, Choice', Seq', Plus', Star', Opt', Range', Row_of-Expr, end_of-Expr, more_of-Expr}

pub joined : (P : List ℕ → Type 0) (Q : List ℕ → Type 0) (R : List ℕ → Type 0) (S : List ℕ → Type 0) → ((v : List ℕ) → P v → R v) → ((v : List ℕ) → Q v → S v) → (w : List ℕ) → Joined P Q w → Joined R S w
joined P Q R S f g w j = record { left = j.left; right = j.right; is = j.is; in_left = f j.left j.in_left; in_right = g j.right j.in_right }

pub times : (P : List ℕ → Type 0) (Q : List ℕ → Type 0) → ((v : List ℕ) → P v → Q v) → (n : ℕ) (w : List ℕ) → Times P n w → Times Q n w
times P Q f zero w h = h
times P Q f (suc n) w h = joined P (Times P n) Q (Times Q n) f (times P Q f n) w h

many : (P : List ℕ → Type 0) (Q : List ℕ → Type 0) (C : ℕ → Type 0) → ((v : List ℕ) → P v → Q v) → (w : List ℕ) → Many C P w → Many C Q w
many P Q C f w h = (h.0, h.1, times P Q f h.0 w h.2)

-- a list before lists that are in turn
abbrev Turns : List Core → List ℕ → Type 0
Turns [] w = w ≡ []
Turns (d ∷ ds) w = Joined (Lang d) (Turns ds) w

abbrev Some_of : List Core → List ℕ → Type 0
Some_of [] w = ⊥
Some_of (d ∷ ds) w = Lang d w ⊎ Some_of ds w

nothing-after : (P : List ℕ → Type 0) (w : List ℕ) → Joined P (λ v. v ≡ []) w → P w
nothing-after P w j = subst P (sym (j.is ∙ ap (λ v. j.left ++ v) j.in_right ∙ append-nil j.left)) j.in_left

after-nothing : (P : List ℕ → Type 0) (w : List ℕ) → P w → Joined P (λ v. v ≡ []) w
after-nothing P w h = record { left = w; right = []; is = sym (append-nil w); in_left = h; in_right = refl }

nothing-before : (P : List ℕ → Type 0) (w : List ℕ) → Joined (λ v. v ≡ []) P w → P w
nothing-before P w j = subst P (sym (j.is ∙ ap (λ v. v ++ j.right) j.in_left)) j.in_right

before-nothing : (P : List ℕ → Type 0) (w : List ℕ) → P w → Joined (λ v. v ≡ []) P w
before-nothing P w h = record { left = []; right = w; is = refl; in_left = refl; in_right = h }

to-left : (P Q R : List ℕ → Type 0) (w : List ℕ) → Joined P (Joined Q R) w → Joined (Joined P Q) R w
to-left P Q R w j =
    let k : Joined Q R j.right = j.in_right in
    record {
      left = j.left ++ k.left;
      right = k.right;
      is = j.is ∙ ap (λ v. j.left ++ v) k.is ∙ sym (append_assoc j.left k.left k.right);
      in_left = record { left = j.left; right = k.left; is = refl; in_left = j.in_left; in_right = k.in_left };
      in_right = k.in_right;
    }

to-right : (P Q R : List ℕ → Type 0) (w : List ℕ) → Joined (Joined P Q) R w → Joined P (Joined Q R) w
to-right P Q R w j =
    let k : Joined P Q j.left = j.in_left in
    record {
      left = k.left;
      right = k.right ++ j.right;
      is = j.is ∙ ap (λ v. v ++ j.right) k.is ∙ append_assoc k.left k.right j.right;
      in_left = k.in_left;
      in_right = record { left = k.right; right = j.right; is = refl; in_left = k.in_right; in_right = j.in_right };
    }

turns-lang : (e : Core) (ds : List Core) (w : List ℕ) → Joined (Lang e) (Turns ds) w → Lang (in_turn e ds) w
turns-lang e [] w h = nothing-after (Lang e) w h
turns-lang e (d ∷ ds) w h = turns-lang (Cat e d) ds w (to-left (Lang e) (Lang d) (Turns ds) w h)

lang-turns : (e : Core) (ds : List Core) (w : List ℕ) → Lang (in_turn e ds) w → Joined (Lang e) (Turns ds) w
lang-turns e [] w h = after-nothing (Lang e) w h
lang-turns e (d ∷ ds) w h = to-right (Lang e) (Lang d) (Turns ds) w (lang-turns (Cat e d) ds w h)

some-lang : (e : Core) (ds : List Core) (w : List ℕ) → Lang e w ⊎ Some_of ds w → Lang (one_of e ds) w
some-lang e [] w (inl h) = h
some-lang e [] w (inr h) = absurd h
some-lang e (d ∷ ds) w (inl h) = some-lang (Alt e d) ds w (inl (inl h))
some-lang e (d ∷ ds) w (inr (inl h)) = some-lang (Alt e d) ds w (inl (inr h))
some-lang e (d ∷ ds) w (inr (inr h)) = some-lang (Alt e d) ds w (inr h)

lang-some : (e : Core) (ds : List Core) (w : List ℕ) → Lang (one_of e ds) w → Lang e w ⊎ Some_of ds w
lang-some e [] w h = inl h
lang-some e (d ∷ ds) w h = at (lang-some (Alt e d) ds w h)
  where
    at : Lang (Alt e d) w ⊎ Some_of ds w → Lang e w ⊎ Some_of (d ∷ ds) w
    at (inl (inl h)) = inl h
    at (inl (inr h)) = inr (inl h)
    at (inr h) = inr (inr h)

copies-lang : (n : ℕ) (e d : Core) (w : List ℕ) → Joined (Lang e) (Times (Lang d) n) w → Lang (and_copies e n d) w
copies-lang zero e d w h = nothing-after (Lang e) w h
copies-lang (suc n) e d w h = copies-lang n (Cat e d) d w (to-left (Lang e) (Lang d) (Times (Lang d) n) w h)

lang-copies : (n : ℕ) (e d : Core) (w : List ℕ) → Lang (and_copies e n d) w → Joined (Lang e) (Times (Lang d) n) w
lang-copies zero e d w h = after-nothing (Lang e) w h
lang-copies (suc n) e d w h = to-right (Lang e) (Lang d) (Times (Lang d) n) w (lang-copies n (Cat e d) d w h)

copies-times : (e : Core) (n : ℕ) (w : List ℕ) → Lang (and_copies core.Empty n e) w → Times (Lang e) n w
copies-times e n w h = nothing-before (Times (Lang e) n) w (lang-copies n core.Empty e w h)

times-copies : (e : Core) (n : ℕ) (w : List ℕ) → Times (Lang e) n w → Lang (and_copies core.Empty n e) w
times-copies e n w h = copies-lang n core.Empty e w (before-nothing (Times (Lang e) n) w h)

-- one list more at the front
times-more : (P : List ℕ → Type 0) (n : ℕ) (xs ys : List ℕ) → P xs → Times P n ys → Times P (suc n) (xs ++ ys)
times-more P n xs ys p t = record { left = xs; right = ys; is = refl; in_left = p; in_right = t }

times-add : (P : List ℕ → Type 0) (n m : ℕ) (xs ys : List ℕ) → Times P n xs → Times P m ys → Times P (n + m) (xs ++ ys)
times-add P zero m xs ys s t = let e : xs ≡ [] = s in let d : m ≡ 0 + m = omega arith in subst (λ z. Times P z (xs ++ ys)) d (subst (λ z. Times P m (z ++ ys)) (sym e) t)
times-add P (suc n) m xs ys s t =
    let d : suc (n + m) ≡ suc n + m = omega arith in
    let e : s.left ++ (s.right ++ ys) ≡ xs ++ ys = sym (append_assoc s.left s.right ys) ∙ ap (λ z. z ++ ys) (sym s.is) in
    subst (λ z. Times P z (xs ++ ys)) d (subst (λ z. Times P (suc (n + m)) z) e (times-more P (n + m) s.left (s.right ++ ys) s.in_left (times-add P n m s.right ys s.in_right t)))

times-split : (P : List ℕ → Type 0) (n m : ℕ) (w : List ℕ) → Times P (n + m) w → Joined (Times P n) (Times P m) w
times-split P zero m w t = let d : 0 + m ≡ m = omega arith in record { left = []; right = w; is = refl; in_left = refl; in_right = subst (λ z. Times P z w) d t }
times-split P (suc n) m w t =
    let d : suc n + m ≡ suc (n + m) = omega arith in
    let s : Times P (suc (n + m)) w = subst (λ z. Times P z w) d t in
    let j : Joined (Times P n) (Times P m) s.right = times-split P n m s.right s.in_right in
    record { left = s.left ++ j.left; right = j.right; is = s.is ∙ (ap (λ z. s.left ++ z) j.is ∙ sym (append_assoc s.left j.left j.right)); in_left = times-more P n s.left j.left s.in_left j.in_left; in_right = j.in_right }

-- up to k lists
opts-times : (e : Core) (k : ℕ) (w : List ℕ) → Times (Lang (optional e)) k w → Many (λ j. j ≤ k) (Lang e) w
opts-times e zero w h = (0, omega arith, h)
opts-times e (suc k) w s = at s.in_left (opts-times e k s.right s.in_right)
  where
    at : Lang (optional e) s.left → Many (λ j. j ≤ k) (Lang e) s.right → Many (λ j. j ≤ suc k) (Lang e) w
    at (inl x) m = let l : m.0 ≤ k = m.1 in let z : s.left ≡ [] = x in (m.0, omega (arith, l), subst (λ v. Times (Lang e) m.0 v) (sym (s.is ∙ ap (λ v. v ++ s.right) z)) m.2)
    at (inr x) m = let l : m.0 ≤ k = m.1 in (suc m.0, omega (arith, l), record { left = s.left; right = s.right; is = s.is; in_left = x; in_right = m.2 })

times-opts : (e : Core) (k j : ℕ) (w : List ℕ) → j ≤ k → Times (Lang e) j w → Times (Lang (optional e)) k w
times-opts e zero zero w l t = t
times-opts e zero (suc j) w l t = absurd (omega (arith, l))
times-opts e (suc k) zero w l t = record { left = []; right = w; is = refl; in_left = inl refl; in_right = times-opts e k zero w (omega arith) t }
times-opts e (suc k) (suc j) w l t = record { left = t.left; right = t.right; is = t.is; in_left = inr t.in_left; in_right = times-opts e k j t.right (omega (arith, l)) t.in_right }

-- any number of lists
star-times : (e : Core) (w : List ℕ) → Lang (optional (Loop e)) w → Many (λ j. 0 ≤ j) (Lang e) w
star-times e w (inl h) = (0, omega arith, h)
star-times e w (inr h) = (suc h.0, omega arith, h.1)

times-star : (e : Core) (j : ℕ) (w : List ℕ) → Times (Lang e) j w → Lang (optional (Loop e)) w
times-star e zero w t = inl t
times-star e (suc j) w t = inr (j, t)

range-many : (e : Core) (n : ℕ) (m : Option ℕ) (w : List ℕ) → Lang (range e n m) w → Many (Within n m) (Lang e) w
range-many e n None w s =
    let r : Many (λ j. 0 ≤ j) (Lang e) s.right = star-times e s.right s.in_right in
    (n + r.0, omega arith, subst (λ v. Times (Lang e) (n + r.0) v) (sym s.is) (times-add (Lang e) n r.0 s.left s.right (copies-times e n s.left s.in_left) r.2))
range-many e n (Some m) w h =
    let s : Joined (Lang (and_copies core.Empty n e)) (Times (Lang (optional e)) (m - n)) w = lang-copies (m - n) (and_copies core.Empty n e) (optional e) w h in
    let r : Many (λ j. j ≤ m - n) (Lang e) s.right = opts-times e (m - n) s.right s.in_right in
    let l : r.0 ≤ m - n = r.1 in
    (n + r.0, (omega arith, omega (arith, l)), subst (λ v. Times (Lang e) (n + r.0) v) (sym s.is) (times-add (Lang e) n r.0 s.left s.right (copies-times e n s.left s.in_left) r.2))

many-range : (e : Core) (n : ℕ) (m : Option ℕ) (w : List ℕ) → Many (Within n m) (Lang e) w → Lang (range e n m) w
many-range e n None w h =
    let l : n ≤ h.0 = h.1 in let d : h.0 ≡ n + (h.0 - n) = omega (arith, l) in
    joined (Times (Lang e) n) (Times (Lang e) (h.0 - n)) (Lang (and_copies core.Empty n e)) (Lang (optional (Loop e))) (times-copies e n) (times-star e (h.0 - n)) w (times-split (Lang e) n (h.0 - n) w (subst (λ z. Times (Lang e) z w) d h.2))
many-range e n (Some m) w h =
    let l : n ≤ h.0 = h.1.0 in let r : h.0 ≤ max n m = h.1.1 in let d : h.0 ≡ n + (h.0 - n) = omega (arith, l) in let b : h.0 - n ≤ m - n = omega (arith, l, r) in
    copies-lang (m - n) (and_copies core.Empty n e) (optional e) w (joined (Times (Lang e) n) (Times (Lang e) (h.0 - n)) (Lang (and_copies core.Empty n e)) (Times (Lang (optional e)) (m - n)) (times-copies e n) (λ v t. times-opts e (m - n) (h.0 - n) v b t) w (times-split (Lang e) n (h.0 - n) w (subst (λ z. Times (Lang e) z w) d h.2)))

one-time : (e : Core) (w : List ℕ) (s : Times (Lang e) 1 w) → Lang e w
one-time e w s = nothing-after (Lang e) w s

opt-lang : (e : Core) (w : List ℕ) (n : ℕ) → n ≤ max 0 1 → Times (Lang e) n w → Lang (optional e) w
opt-lang e w zero l t = inl t
opt-lang e w (suc zero) l t = inr (one-time e w t)
opt-lang e w (suc (suc n)) l t = absurd (omega (arith, l))

plus-lang : (e : Core) (w : List ℕ) → Many (Within 1 None) (Lang e) w → Lang (Loop e) w
plus-lang e w (zero, l, t) = let c : 1 ≤ 0 = l in absurd (omega (arith, c))
plus-lang e w (suc n, l, t) = (n, t)

not-never : (ds : List Core) (w : List ℕ) → Lang Never w ⊎ Some_of ds w → Some_of ds w
not-never ds w (inl h) = absurd h
not-never ds w (inr h) = h

-- the expansion has the language of the expression
mutual
  pub in-lang : (e : Expr) (w : List ℕ) → In e w → Lang (expand e) w
  in-lang Empty w h = h
  in-lang (One t) w h = h
  in-lang (Choice' n es) w h = some-lang Never (expand_all es) w (inr (in-some es w h))
  in-lang (Seq' n es) w h = turns-lang core.Empty (expand_all es) w (before-nothing (Turns (expand_all es)) w (in-turns es w h))
  in-lang (Plus' p a) w h = plus-lang (expand a) w (many (In a) (Lang (expand a)) (Within 1 None) (in-lang a) w h)
  in-lang (Star' p a) w h = times-star (expand a) h.0 w (times (In a) (Lang (expand a)) (in-lang a) h.0 w h.2)
  in-lang (Opt' p a) w h = opt-lang (expand a) w h.0 h.1.1 (times (In a) (Lang (expand a)) (in-lang a) h.0 w h.2)
  in-lang (Range' p a n m) w h = many-range (expand a) n m w (many (In a) (Lang (expand a)) (Within n m) (in-lang a) w h)

  in-some : {m : _} (es : Row_of-Expr m) (w : List ℕ) → In_some es w → Some_of (expand_all es) w
  in-some end_of-Expr w h = h
  in-some (more_of-Expr e es) w (inl h) = inl (in-lang e w h)
  in-some (more_of-Expr e es) w (inr h) = inr (in-some es w h)

  in-turns : {m : _} (es : Row_of-Expr m) (w : List ℕ) → In_turn es w → Turns (expand_all es) w
  in-turns end_of-Expr w h = h
  in-turns (more_of-Expr e es) w h = joined (In e) (In_turn es) (Lang (expand e)) (Turns (expand_all es)) (in-lang e) (in-turns es) w h

mutual
  pub lang-in : (e : Expr) (w : List ℕ) → Lang (expand e) w → In e w
  lang-in Empty w h = h
  lang-in (One t) w h = h
  lang-in (Choice' n es) w h = some-in es w (not-never (expand_all es) w (lang-some Never (expand_all es) w h))
  lang-in (Seq' n es) w h = turns-in es w (nothing-before (Turns (expand_all es)) w (lang-turns core.Empty (expand_all es) w h))
  lang-in (Plus' p a) w h = (suc h.0, omega arith, times (Lang (expand a)) (In a) (lang-in a) (suc h.0) w h.1)
  lang-in (Star' p a) w h = many (Lang (expand a)) (In a) (Within 0 None) (lang-in a) w (star-times (expand a) w h)
  lang-in (Opt' p a) w (inl h) = (0, (omega arith, omega arith), h)
  lang-in (Opt' p a) w (inr h) = (1, (omega arith, omega arith), record { left = w; right = []; is = sym (append-nil w); in_left = lang-in a w h; in_right = refl })
  lang-in (Range' p a n m) w h = many (Lang (expand a)) (In a) (Within n m) (lang-in a) w (range-many (expand a) n m w h)

  some-in : {m : _} (es : Row_of-Expr m) (w : List ℕ) → Some_of (expand_all es) w → In_some es w
  some-in end_of-Expr w h = h
  some-in (more_of-Expr e es) w (inl h) = inl (lang-in e w h)
  some-in (more_of-Expr e es) w (inr h) = inr (some-in es w h)

  turns-in : {m : _} (es : Row_of-Expr m) (w : List ℕ) → Turns (expand_all es) w → In_turn es w
  turns-in end_of-Expr w h = h
  turns-in (more_of-Expr e es) w h = joined (Lang (expand e)) (Turns (expand_all es)) (In e) (In_turn es) (lang-in e) (turns-in es) w h
