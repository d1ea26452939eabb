-- What is known of items that were handed out by who each is for.
use Rattle.std.specs.List.{AllByRecursion as Each}
use Rattle.std.proofs.Common.{◌≡◌, ℕ, zero, suc, ◌+◌, ◌≤◌, List, [], ◌∷◌, ◌++◌, length, map, slice_get, Some, refl, sym, ap, ◌∙◌, subst, arith}
use mathlib.Core.Logic.{dite}
use native.Mathlib.Decide.{ℕ_discrete}
use Rattle.pm_rooms.specs.Handed.{handed}
use Rattle.pm_authority.specs.declared.authority.Authority.{Authority}
use Rattle.pm_authority.specs.declared.machine.Request.{Request}
use Rattle.pm_desk.specs.Desks.{SeatValue}
use Rattle.pm_session.specs.declared.member.Member.{Member}
use Rattle.pm_rooms.specs.declared.stand.Stand.{Stand}
use Rattle.pm_rooms.specs.Opened.{stands_of}
use Rattle.pm_rooms.specs.Stands.{StandsDiffer}
use Rattle.pm_rooms.proofs.Dealt.{handed-here, handed-there}

-- what is so of each item is so of the one at a place
pub each-at : {A : Type 0} (P : A → Type 0) (xs : List A) → Each P xs → (k : ℕ) (x : A) → slice_get xs k ≡ Some x → P x
each-at P [] h k x at = absurd (cc)
each-at P (a ∷ xs) h zero x at = let e : a ≡ x = cc in subst P e h.0
each-at P (a ∷ xs) h (suc k) x at = each-at P xs h.1 k x at

pub each-append : {A : Type 0} (P : A → Type 0) (xs ys : List A) → Each P xs → Each P ys → Each P (xs ++ ys)
each-append P [] ys h e = e
each-append P (x ∷ xs) ys h e = (h.0, each-append P xs ys h.1 e)

pub each-handed : {A : Type 0} (P : A → Type 0) (i : ℕ) (turns : List ℕ) (xs : List A) → Each P xs → Each P (handed i turns xs)
each-handed P i [] xs h = tt
each-handed P i (turn ∷ turns) [] h = tt
each-handed P i (turn ∷ turns) (x ∷ xs) h = dite (ℕ_discrete turn i)
    (λ e. subst (λ l. Each P l) (sym (handed-here i turn turns x xs e)) (h.0, each-handed P i turns xs h.1))
    (λ ne. subst (λ l. Each P l) (sym (handed-there i turn turns x xs ne)) (each-handed P i turns xs h.1))

module _ {A : Type 0} (who : A → ℕ) (i : ℕ) where
  -- what is handed to i is for i
  pub handed-for : (xs : List A) → Each (λ x. who x ≡ i) (handed i (map who xs) xs)
  handed-for [] = tt
  handed-for (x ∷ xs) = dite (ℕ_discrete (who x) i)
      (λ e. subst (λ l. Each (λ x. who x ≡ i) l) (sym (handed-here i (who x) (map who xs) x xs e)) (e, handed-for xs))
      (λ ne. subst (λ l. Each (λ x. who x ≡ i) l) (sym (handed-there i (who x) (map who xs) x xs ne)) (handed-for xs))

  -- what is for i is handed to i
  pub handed-all : (xs : List A) (k : ℕ) (x : A) → slice_get xs k ≡ Some x → who x ≡ i → (j : ℕ) × (slice_get (handed i (map who xs) xs) j ≡ Some x)
  handed-all [] k x at is = absurd (cc)
  handed-all (a ∷ xs) zero x at is =
      let e : a ≡ x = cc in
      (zero, ap (λ l. slice_get l zero) (handed-here i (who a) (map who xs) a xs (ap who e ∙ is)) ∙ ap Some e)
  handed-all (a ∷ xs) (suc k) x at is =
      let f = handed-all xs k x at is in
      dite (ℕ_discrete (who a) i)
      (λ e. (suc f.0, ap (λ l. slice_get l (suc f.0)) (handed-here i (who a) (map who xs) a xs e) ∙ f.1))
      (λ ne. (f.0, ap (λ l. slice_get l f.0) (handed-there i (who a) (map who xs) a xs ne) ∙ f.1))

-- no two of the items are as D says
abbrev pub AllDiffer : {A : Type 0} → (A → A → Type 0) → List A → Type 0
AllDiffer D [] = Unit {0}
AllDiffer D (x ∷ xs) = Each (D x) xs × AllDiffer D xs

module _ {A : Type 0} (D : A → A → Type 0) where
  pub differ-handed : (i : ℕ) (turns : List ℕ) (xs : List A) → AllDiffer D xs → AllDiffer D (handed i turns xs)
  differ-handed i [] xs h = tt
  differ-handed i (turn ∷ turns) [] h = tt
  differ-handed i (turn ∷ turns) (x ∷ xs) h = dite (ℕ_discrete turn i)
      (λ e. subst (λ l. AllDiffer D l) (sym (handed-here i turn turns x xs e)) (each-handed (D x) i turns xs h.0, differ-handed i turns xs h.1))
      (λ ne. subst (λ l. AllDiffer D l) (sym (handed-there i turn turns x xs ne)) (differ-handed i turns xs h.1))

  pub differ-append : (xs ys : List A) → AllDiffer D xs → AllDiffer D ys → Each (λ x. Each (D x) ys) xs → AllDiffer D (xs ++ ys)
  differ-append [] ys h e apart = e
  differ-append (x ∷ xs) ys h e apart = (each-append (D x) xs ys h.0 apart.0, differ-append xs ys h.1 e apart.1)

module _ {Rules Doc Reason C : Type 0} where
  -- stands that are not of one client
  abbrev pub Others : Stand C Rules Doc Reason → Stand C Rules Doc Reason → Type 0
  Others x y = x.room ≡ y.room → x.client ≡ y.client → ⊥

  pub differ-at : (xs : List (Stand C Rules Doc Reason)) → AllDiffer Others xs → StandsDiffer xs
  differ-at [] h i j x y p q room client = absurd (cc)
  differ-at (a ∷ xs) h zero zero x y p q room client = refl
  differ-at (a ∷ xs) h zero (suc j) x y p q room client =
      let e : a ≡ x = cc in
      absurd (each-at (Others a) xs h.0 j y q (ap (λ (s : Stand C Rules Doc Reason). s.room) e ∙ room) (ap (λ (s : Stand C Rules Doc Reason). s.client) e ∙ client))
  differ-at (a ∷ xs) h (suc i) zero x y p q room client =
      let e : a ≡ y = cc in
      absurd (each-at (Others a) xs h.0 i x p (ap (λ (s : Stand C Rules Doc Reason). s.room) e ∙ sym room) (ap (λ (s : Stand C Rules Doc Reason). s.client) e ∙ sym client))
  differ-at (a ∷ xs) h (suc i) (suc j) x y p q room client = ap suc (differ-at xs h.1 i j x y p q room client)

  -- the stands of one room
  pub of-room : (r k : ℕ) (ms : List (Member C Rules Doc Reason)) (ss : List (SeatValue (Authority C Rules Doc Reason) Rules (Request C))) → Each (λ x. x.room ≡ r × k ≤ x.client) (stands_of r k ms ss)
  of-room r k [] ss = tt
  of-room r k (x ∷ ms) [] = tt
  of-room r k (x ∷ ms) (s ∷ ss) = ((refl, omega arith), later (stands_of r (k + 1) ms ss) (of-room r (k + 1) ms ss))
    where
      later : (xs : List (Stand C Rules Doc Reason)) → Each (λ x. x.room ≡ r × k + 1 ≤ x.client) xs → Each (λ x. x.room ≡ r × k ≤ x.client) xs
      later [] h = tt
      later (y ∷ ys) h = ((h.0.0, omega (arith, h.0.1)), later ys h.1)

  pub stands-differ : (r k : ℕ) (ms : List (Member C Rules Doc Reason)) (ss : List (SeatValue (Authority C Rules Doc Reason) Rules (Request C))) → AllDiffer Others (stands_of r k ms ss)
  stands-differ r k [] ss = tt
  stands-differ r k (x ∷ ms) [] = tt
  stands-differ r k (x ∷ ms) (s ∷ ss) = (apart (stands_of r (k + 1) ms ss) (of-room r (k + 1) ms ss), stands-differ r (k + 1) ms ss)
    where
      apart : (xs : List (Stand C Rules Doc Reason)) → Each (λ x. x.room ≡ r × k + 1 ≤ x.client) xs → Each (Others (record { room = r; client = k; member = x; seat = s })) xs
      apart [] h = tt
      apart (y ∷ ys) h = ((λ room client. absurd (omega (arith, h.0.1, client))), apart ys h.1)

  -- the stand of client i of a room
  pub stand-at : (r k : ℕ) (ms : List (Member C Rules Doc Reason)) (ss : List (SeatValue (Authority C Rules Doc Reason) Rules (Request C))) (i : ℕ) (x : Member C Rules Doc Reason) (s : SeatValue (Authority C Rules Doc Reason) Rules (Request C)) → slice_get ms i ≡ Some x → slice_get ss i ≡ Some s
      → slice_get (stands_of r k ms ss) i ≡ Some (record { room = r; client = k + i; member = x; seat = s })
  stand-at r k [] ss i x s at seat = absurd (cc)
  stand-at r k (m ∷ ms) [] i x s at seat = absurd (cc)
  stand-at r k (m ∷ ms) (t ∷ ss) zero x s at seat =
      let e : m ≡ x = cc in let f : t ≡ s = cc in let n : k ≡ k + zero = omega arith in
      ap (λ y. Some (record { room = r; client = k; member = y; seat = t })) e ∙ ap (λ y. Some (record { room = r; client = k; member = x; seat = y })) f
      ∙ ap (λ j. Some (record { room = r; client = j; member = x; seat = s })) n
  stand-at r k (m ∷ ms) (t ∷ ss) (suc i) x s at seat =
      let n : (k + 1) + i ≡ k + suc i = omega arith in
      stand-at r (k + 1) ms ss i x s at seat ∙ ap (λ j. Some (record { room = r; client = j; member = x; seat = s })) n

  pub stands-count : (r k : ℕ) (ms : List (Member C Rules Doc Reason)) (ss : List (SeatValue (Authority C Rules Doc Reason) Rules (Request C))) → length ss ≡ length ms → length (stands_of r k ms ss) ≡ length ms
  stands-count r k [] ss e = refl
  stands-count r k (m ∷ ms) [] e = absurd (omega (arith, e))
  stands-count r k (m ∷ ms) (s ∷ ss) e = ap suc (stands-count r (k + 1) ms ss (omega (arith, e)))
