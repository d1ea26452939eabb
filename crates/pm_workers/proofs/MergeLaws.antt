-- The order that a history makes is an order of the lines.
use Rattle.std.specs.List.{AllByRecursion as Each}
use Rattle.std.proofs.Common.{◌≡◌, ℕ, zero, suc, ◌<◌, Bool, true, false, if◌then◌else◌, List, [], ◌∷◌, ◌++◌, length, map, flat_map, get_or, slice_get, slice_set, Some, All, refl, sym, ap, ap₂, subst, ◌∙◌, arith, append_assoc}
use Rattle.std.proofs.lemmas.List.{append-nil}
use Rattle.pm_workers.specs.Merges.{ClientLine, numbers, through_call, after_call, merged, IsOrder}
use Rattle.pm_workers.specs.Merges.IsOrder.{nothing, next}

module _ {A : Type 0} where
  pub set-there : (xs : List A) (i : ℕ) (v x : A) → slice_get xs i ≡ Some x → slice_get (slice_set xs i v) i ≡ Some v
  set-there [] i v x h = absurd (cc)
  set-there (y ∷ ys) zero v x h = refl
  set-there (y ∷ ys) (suc i) v x h = set-there ys i v x h

  pub set-twice : (xs : List A) (i : ℕ) (v w : A) → slice_set (slice_set xs i v) i w ≡ slice_set xs i w
  set-twice [] i v w = refl
  set-twice (y ∷ ys) zero v w = refl
  set-twice (y ∷ ys) (suc i) v w = ap (λ l. y ∷ l) (set-twice ys i v w)

  pub set-same : (xs : List A) (i : ℕ) (x : A) → slice_get xs i ≡ Some x → slice_set xs i x ≡ xs
  set-same [] i x h = refl
  set-same (y ∷ ys) zero x h = let one : y ≡ x = cc in ap (λ z. z ∷ ys) (sym one)
  set-same (y ∷ ys) (suc i) x h = ap (λ l. y ∷ l) (set-same ys i x h)

  pub get-behind : (front : List A) (x : A) (back : List A) → slice_get (front ++ x ∷ back) (length front) ≡ Some x
  get-behind [] x back = refl
  get-behind (y ∷ ys) x back = get-behind ys x back

  pub set-behind : (front : List A) (x v : A) (back : List A) → slice_set (front ++ x ∷ back) (length front) v ≡ front ++ v ∷ back
  set-behind [] x v back = refl
  set-behind (y ∷ ys) x v back = ap (λ l. y ∷ l) (set-behind ys x v back)

  -- what stands at a place of a list
  pub get-within : (xs : List A) (i : ℕ) (d : A) → i < length xs → slice_get xs i ≡ Some (get_or xs i d)
  get-within [] i d h = absurd (omega (arith, h))
  get-within (x ∷ xs) zero d h = refl
  get-within (x ∷ xs) (suc i) d h = get-within xs i d (omega arith)

  pub length-set : (xs : List A) (i : ℕ) (v : A) → length (slice_set xs i v) ≡ length xs
  length-set [] i v = refl
  length-set (x ∷ xs) zero v = refl
  length-set (x ∷ xs) (suc i) v = ap suc (length-set xs i v)

module _ {A B : Type 0} (f : A → B) where
  pub map-set : (xs : List A) (i : ℕ) (v : A) → map f (slice_set xs i v) ≡ slice_set (map f xs) i (f v)
  map-set [] i v = refl
  map-set (x ∷ xs) zero v = refl
  map-set (x ∷ xs) (suc i) v = ap (λ l. f x ∷ l) (map-set xs i v)

  pub map-get : (xs : List A) (i : ℕ) (x : A) → slice_get xs i ≡ Some x → slice_get (map f xs) i ≡ Some (f x)
  map-get [] i x h = absurd (cc)
  map-get (y ∷ ys) zero x h = let one : y ≡ x = cc in ap (λ z. Some (f z)) one
  map-get (y ∷ ys) (suc i) x h = map-get ys i x h

  pub length-map : (xs : List A) → length (map f xs) ≡ length xs
  length-map [] = refl
  length-map (x ∷ xs) = ap suc (length-map xs)

pub numbers-append : (xs ys : List ClientLine) → numbers (xs ++ ys) ≡ numbers xs ++ numbers ys
numbers-append [] ys = refl
numbers-append (x ∷ xs) ys = ap (λ l. x.0 ∷ l) (numbers-append xs ys)

-- a client's lines are those up to the call and those after it
pub parted : (lines : List ClientLine) → through_call lines ++ after_call lines ≡ lines
parted [] = refl
parted (line ∷ lines) = by line.1 (parted lines)
  where
    by : (b : Bool) → through_call lines ++ after_call lines ≡ lines
        → line ∷ (if b then [] else through_call lines) ++ (if b then lines else after_call lines) ≡ line ∷ lines
    by true h = refl
    by false h = ap (λ l. line ∷ l) h

-- the lines of one client at the front, and then an order of what is left
pub in-front : (left : List (List ℕ)) (i : ℕ) (front back order : List ℕ) → slice_get left i ≡ Some (front ++ back)
    → IsOrder (slice_set left i back) order → IsOrder left (front ++ order)
in-front left i [] back order at h = subst (λ l. IsOrder l order) (set-same left i back at) h
in-front left i (n ∷ front) back order at h =
    next left i n (front ++ back) (front ++ order) at
    (in-front (slice_set left i (front ++ back)) i front back order (set-there left i (front ++ back) (n ∷ front ++ back) at)
    (subst (λ l. IsOrder l order) (sym (set-twice left i (front ++ back) back)) h))

each-end : (done : List (List ℕ)) → Each (λ lines. lines ≡ []) done → Each (λ lines. lines ≡ []) (done ++ [] ∷ [])
each-end [] h = (refl, _)
each-end (x ∷ xs) h = (h.0, each-end xs h.1)

-- clients that have no lines left, and then client by client
pub in-turn : (done left : List (List ℕ)) → Each (λ lines. lines ≡ []) done → IsOrder (done ++ left) (flat_map (λ lines. lines) left)
in-turn done [] h = nothing (done ++ []) (rw (append-nil done) h)
in-turn done (lines ∷ left) h =
    in-front (done ++ lines ∷ left) (length done) lines [] (flat_map (λ x. x) left)
    (get-behind done lines left ∙ ap Some (sym (append-nil lines)))
    (subst (λ l. IsOrder l (flat_map (λ x. x) left)) (append_assoc done ([] ∷ []) left ∙ sym (set-behind done lines [] left)) (in-turn (done ++ [] ∷ []) left (each-end done h)))

pub flat-numbers : (left : List (List ClientLine)) → flat_map (λ lines. lines) (map numbers left) ≡ flat_map numbers left
flat-numbers [] = refl
flat-numbers (lines ∷ left) = ap (λ l. numbers lines ++ l) (flat-numbers left)

-- so it is with each place of a list that all places are said of
pub each-of : {A : Type 0} (f : A → ℕ) (n : ℕ) (xs : List A) → All (λ x. f x < n) xs → Each (λ i. i < n) (map f xs)
each-of f n [] h = _
each-of f n (x ∷ xs) h = (h 0 x (omega arith), each-of f n xs (λ k d lt. h (suc k) d (omega (arith, lt))))

pub map-numbers : {A : Type 0} (f : A → List ClientLine) (xs : List A) → map numbers (map f xs) ≡ map (λ x. numbers (f x)) xs
map-numbers f [] = refl
map-numbers f (x ∷ xs) = ap (λ l. numbers (f x) ∷ l) (map-numbers f xs)

-- each call is a client's
abbrev pub AreOf : ℕ → List ℕ → Type 0
AreOf clients calls = Each (λ client. client < clients) calls

pub is-order : (calls : List ℕ) (left : List (List ClientLine)) → AreOf (length left) calls → IsOrder (map numbers left) (merged calls left)
is-order [] left h = subst (λ o. IsOrder (map numbers left) o) (flat-numbers left) (in-turn [] (map numbers left) _)
is-order (client ∷ calls) left h =
    let lines = get_or left client [] in
    let at : slice_get left client ≡ Some lines = get-within left client [] h.0 in
    let whole : numbers (through_call lines) ++ numbers (after_call lines) ≡ numbers lines = sym (numbers-append (through_call lines) (after_call lines)) ∙ ap numbers (parted lines) in
    let rest = is-order calls (slice_set left client (after_call lines)) (rw (length-set left client (after_call lines)) h.1) in
    in-front (map numbers left) client (numbers (through_call lines)) (numbers (after_call lines)) (merged calls (slice_set left client (after_call lines)))
    (map-get numbers left client lines at ∙ ap Some (sym whole))
    (subst (λ l. IsOrder l (merged calls (slice_set left client (after_call lines)))) (map-set numbers left client (after_call lines)) rest)

pub get-map : {B : Type 0} (now : B → List ClientLine) (xs : List B) (i : ℕ) (x : B) → i < length xs → x ≡ get_or xs i x → get_or (map now xs) i [] ≡ now x
get-map now [] i x h e = absurd (omega (arith, h))
get-map now (y ∷ ys) zero x h e = ap now (sym e)
get-map now (y ∷ ys) (suc i) x h e = get-map now ys i x (omega (arith, h)) e

-- One more call: the lines up to it are listed, and those after it are left.
pub call-listed : {A B : Type 0} (seat : A → ℕ) (now : B → List ClientLine) (calls later : List A) (left : List B) (p : A) (x rest : B) (before after whole : List ℕ)
    → calls ≡ p ∷ later → seat p < length left → x ≡ get_or left (seat p) x → now rest ≡ after_call (now x) → after ≡ before ++ numbers (through_call (now x))
    → before ++ merged (map seat calls) (map now left) ≡ whole
    → after ++ merged (map seat later) (map now (slice_set left (seat p) rest)) ≡ whole
call-listed seat now calls later left p x rest before after whole split within at leaves lists h =
    let mine : get_or (map now left) (seat p) [] ≡ now x = get-map now left (seat p) x within at in
    let next : map now (slice_set left (seat p) rest) ≡ slice_set (map now left) (seat p) (after_call (now x)) =
    map-set now left (seat p) rest ∙ ap (λ l. slice_set (map now left) (seat p) l) leaves in
    let one : after ++ merged (map seat later) (map now (slice_set left (seat p) rest))
    ≡ (before ++ numbers (through_call (now x))) ++ merged (map seat later) (slice_set (map now left) (seat p) (after_call (now x))) =
    ap₂ (λ a b. a ++ merged (map seat later) b) lists next in
    let two : merged (map seat calls) (map now left)
    ≡ numbers (through_call (now x)) ++ merged (map seat later) (slice_set (map now left) (seat p) (after_call (now x))) =
    ap (λ l. merged (map seat l) (map now left)) split
    ∙ ap (λ l. numbers (through_call l) ++ merged (map seat later) (slice_set (map now left) (seat p) (after_call l))) mine in
    one ∙ append_assoc before (numbers (through_call (now x))) _ ∙ ap (λ l. before ++ l) (sym two) ∙ h
