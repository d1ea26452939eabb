-- The reader gives the reading, and no other is one.
use Rattle.std.proofs.Common.{◌≡◌, ℕ, List, [], ◌∷◌, ◌++◌, reverse, length, Option, Some, None, Result, Ok, Err, refl, ap, sym, ◌∙◌, subst, append_assoc, inl, inr, ◌⊎◌}
use Rattle.std.specs.Result.{IsErrAnd}
use Rattle.std.proofs.lemmas.List.{append-nil}
use Rattle.pm_auto.specs.Tree.{Tree}
use Rattle.pm_expr.specs.declared.error.ExprError.{ExprError}
use Rattle.pm_expr.specs.declared.error.ExprError.TheVariants.{Syntax, UnknownName, Range, Deep, NoMemory}
use Rattle.pm_expr.specs.Tokens.{Token, place, tokens}
use Rattle.pm_expr.specs.Names.{Named}
use Rattle.pm_expr.specs.Grammar.{Items, no_item, and_item, in_turn, Barred, no_bar, and_bar, Choice, one_of}
use Rattle.pm_expr.specs.Levels.{Levels, no_levels, counted, counted_all, levels_of, depth_flaw}
use Rattle.pm_expr.specs.Reading.{Stands, Whole, flaw, Unless, Reading, Reads, Is}
use Rattle.pm_expr.specs.Reader.{Frame, State, state, sequence_of, choice_of, Point, outside, opened, low, parted, high, after, flaw_at, checked, stepped, step, start, said_at_end, finished, ◌>>=◌, unless_fault, outcome}
use Rattle.pm_expr.specs.Views.{Steps, Counts}
use Rattle.pm_expr.proofs.ReaderLaws.{then, follow, follow-append, choice-read}
use Rattle.pm_expr.proofs.SeenLaws.{Seen, before, behind, at_brace, at_low, at_comma, at_high, none, more, Then, grows, seen-stands, flaw-seen}

module _ (types : List Named) where
  -- after tokens that can stand the reader has a state
  stands-follow : (ts : List Token) → Stands types ts → follow types ts start ≡ None → ⊥
  stands-follow ts d e =
      let c = choice-read types (ts ++ d.further) d.says d.whole [] [] in
      let p : follow types ((ts ++ d.further) ++ []) start ≡ None = ap (λ z. follow types z start) (append_assoc ts d.further []) ∙ follow-append types ts (d.further ++ []) start ∙ ap (λ z. then z (follow types (d.further ++ []))) e in
      let q = sym c.comes ∙ p in
      absurd (cc)

  whole-follow : (ts : List Token) (e : Tree) → Choice types ts e → (done : List Tree) × (items : List Tree) × (last : Tree) × (e ≡ choice_of done items last) × (follow types ts start ≡ Some (state [] done items (Some last) outside))
  whole-follow ts e d =
      let c = choice-read types ts e d [] [] in
      (c.done, c.items, c.last, c.is, ap (λ z. follow types z start) (sym (append-nil ts)) ∙ c.comes)

  no-items : (ts : List Token) (es : List Tree) → Items types ts es → es ≡ [] → ts ≡ []
  no-items _ _ no_item h = refl
  no-items _ _ (and_item ts us [] e d f) h = absurd (cc)
  no-items _ _ (and_item ts us (x ∷ es) e d f) h = absurd (cc)

  no-bars : (ts : List Token) (es : List Tree) → Barred types ts es → es ≡ [] → ts ≡ []
  no-bars _ _ no_bar h = refl
  no-bars _ _ (and_bar at ts us [] e d f) h = absurd (cc)
  no-bars _ _ (and_bar at ts us (x ∷ es) e d f) h = absurd (cc)

  -- of an expression that was seen, the reader says it at the end
  whole-finished : (size : ℕ) (ts : List Token) (e : Tree) (s : State) → Whole types ts e → follow types ts start ≡ Some s → finished size s ≡ Ok e
  whole-finished size ts e s (inl w) h =
      let p : Some start ≡ Some s = ap (λ z. follow types z start) (sym w.0) ∙ h in
      let q : start ≡ s = cc in
      ap (finished size) (sym q) ∙ ap Ok (sym w.1)
  whole-finished size ts e s (inr d) h =
      let w = whole-follow ts e d in
      let p : Some (state [] w.0 w.1 (Some w.2) outside) ≡ Some s = sym w.4 ∙ h in
      let q : state [] w.0 w.1 (Some w.2) outside ≡ s = cc in
      ap (finished size) (sym q) ∙ ap Ok (sym w.3)

  -- what the reader says at the end was seen
  finished-whole : (size : ℕ) (s : State) (ts : List Token) (e : Tree) → Seen types s ts → finished size s ≡ Ok e → Whole types ts e
  finished-whole size _ _ e (before _ [] [] _ us vs none b i) h =
      inl (ap (λ z. z ++ vs) (no-bars us [] b refl) ∙ no-items vs [] i refl, cc)
  finished-whole size _ _ e (before _ [] (x ∷ xs) _ us vs none b i) h = absurd (cc)
  finished-whole size _ _ e (before _ (x ∷ xs) items _ us vs none b i) h = absurd (cc)
  finished-whole size _ _ e (before _ done items _ us vs (more _ _ _ _ _ _ _ _ _ _) b i) h = absurd (cc)
  finished-whole size _ _ e (behind _ done items g _ us vs ws none b i j) h =
      let q : choice_of done items g ≡ e = cc in
      inr (subst (λ z. Choice types (us ++ (vs ++ ws)) z) q (one_of us (vs ++ ws) done (sequence_of items g) b (in_turn vs ws items g i j)))
  finished-whole size _ _ e (behind _ done items g _ us vs ws (more _ _ _ _ _ _ _ _ _ _) b i j) h = absurd (cc)
  finished-whole size _ _ e (at_brace a fs done items g ts s) h = absurd (cc)
  finished-whole size _ _ e (at_low a b n fs done items g ts s) h = absurd (cc)
  finished-whole size _ _ e (at_comma a b c n fs done items g ts s) h = absurd (cc)
  finished-whole size _ _ e (at_high a b c d n m fs done items g ts s) h = absurd (cc)

  fault-at-end : (size : ℕ) (f : ExprError) (p : Point) (over : List Frame) (last : Option Tree) (done items : List Tree) → said_at_end size p over last done items ≡ Err f → f ≡ Syntax size
  fault-at-end size f outside [] (Some e) done items h = absurd (cc)
  fault-at-end size f outside [] None [] [] h = absurd (cc)
  fault-at-end size f outside [] None [] (x ∷ xs) h = cc
  fault-at-end size f outside [] None (x ∷ xs) items h = cc
  fault-at-end size f outside (x ∷ xs) last done items h = cc
  fault-at-end size f (opened a) over last done items h = cc
  fault-at-end size f (low a n) over last done items h = cc
  fault-at-end size f (parted a n) over last done items h = cc
  fault-at-end size f (high a n m) over last done items h = cc

  at-end : (size : ℕ) (s : State) (ts : List Token) → Seen types s ts → follow types ts start ≡ Some s → (r : Result Tree ExprError) → finished size s ≡ r → Reading types size ts [] r
  at-end size s ts d h (Ok e) q = finished-whole size s ts e d q
  at-end size s ts d h (Err f) q = (λ e w. let p = whole-finished size ts e s w h in absurd (cc), fault-at-end size f s.point s.over s.last s.done s.items q)

  -- one token more
  follow-more : (ts : List Token) (s : State) (t : Token) → follow types ts start ≡ Some s → follow types (ts ++ t ∷ []) start ≡ after types s t
  follow-more ts s t h = follow-append types ts (t ∷ []) start ∙ ap (λ z. then z (follow types (t ∷ []))) h ∙ at (after types s t)
    where
      at : (o : Option State) → then o (λ z. Some z) ≡ o
      at None = refl
      at (Some z) = refl

  unless-is : (f : Option ExprError) (s : State) (r : Result Tree ExprError) (go : State → Result Tree ExprError) (P : Result Tree ExprError → Type 0)
      → P (go s) → Unless f (checked f s >>= go) (P (checked f s >>= go))
  unless-is None s r go P p = p
  unless-is (Some f) s r go P p = refl

  -- one token more is counted
  counted-more : (l : Levels) (ts : List Token) (t : Token) → counted_all l (ts ++ t ∷ []) ≡ counted (counted_all l ts) t
  counted-more l [] t = refl
  counted-more l (x ∷ ts) t = counted-more (counted l x) ts t

  deep-is : (f : Option ExprError) (x : Result Tree ExprError) (P : Result Tree ExprError → Type 0) → P x → Unless f (unless_fault f x) (P (unless_fault f x))
  deep-is None x P p = p
  deep-is (Some f) x P p = refl

  -- what is said of the tokens after these
  abbrev onward : (size : ℕ) (left ts : List Token) (t : Token) → State → Result Tree ExprError
  onward size left ts t z = unless_fault (depth_flaw (levels_of ts) t) (outcome types size left (counted (levels_of ts) t) z)

  -- that it is the reading of the tokens after these
  abbrev Onward : (size : ℕ) (left ts : List Token) (t : Token) → Result Tree ExprError → Type 0
  Onward size left ts t r = Unless (depth_flaw (levels_of ts) t) r (Reading types size (ts ++ t ∷ []) left r)

  -- the reader gives the reading
  pub outcome-reads : (size : ℕ) (left : List Token) (s : State) (ts : List Token) → Seen types s ts → follow types ts start ≡ Some s → Reading types size ts left (outcome types size left (levels_of ts) s)
  outcome-reads size [] s ts d h = at-end size s ts d h (finished size s) refl
  outcome-reads size (t ∷ left) s ts d h =
      at (after types s t) (follow-more ts s t h) (grows types s ts d t) (flaw-seen types s ts d t) (outcome-reads size left)
    where
      at : (o : Option State) → follow types (ts ++ t ∷ []) start ≡ o → Then o (λ z. Seen types z (ts ++ t ∷ [])) → Then o (λ z. flaw_at types s.point t ≡ flaw types (reverse ts) t)
          → ((z : State) (us : List Token) → Seen types z us → follow types us start ≡ Some z → Reading types size us left (outcome types size left (levels_of us) z))
          → ((¬ Stands types (ts ++ t ∷ [])) × (stepped (place t) (flaw_at types s.point t) o >>= onward size left ts t ≡ Err (Syntax (place t))))
          ⊎ (Stands types (ts ++ t ∷ []) × Unless (flaw types (reverse ts) t) (stepped (place t) (flaw_at types s.point t) o >>= onward size left ts t)
          (Onward size left ts t (stepped (place t) (flaw_at types s.point t) o >>= onward size left ts t)))
      at None p g f i = inl (λ k. stands-follow (ts ++ t ∷ []) k p, refl)
      at (Some z) p g f i =
          let read : Reading types size (ts ++ t ∷ []) left (outcome types size left (counted (levels_of ts) t) z) =
          subst (λ l. Reading types size (ts ++ t ∷ []) left (outcome types size left l z)) (counted-more no_levels ts t) (i z (ts ++ t ∷ []) g p) in
          inr (
            seen-stands types z (ts ++ t ∷ []) g,
            subst (λ w. Unless w (checked (flaw_at types s.point t) z >>= onward size left ts t) (Onward size left ts t (checked (flaw_at types s.point t) z >>= onward size left ts t))) f
                (unless-is (flaw_at types s.point t) z (onward size left ts t z) (onward size left ts t) (Onward size left ts t)
                (deep-is (depth_flaw (levels_of ts) t) (outcome types size left (counted (levels_of ts) t) z) (Reading types size (ts ++ t ∷ []) left) read)),
          )

  end-only : (size : ℕ) (s : State) (ts : List Token) → Seen types s ts → follow types ts start ≡ Some s → (r : Result Tree ExprError) → Reading types size ts [] r → finished size s ≡ r
  end-only size s ts d h (Ok e) q = whole-finished size ts e s q h
  end-only size s ts d h (Err f) q = at (finished size s) refl
    where
      at : (r : Result Tree ExprError) → finished size s ≡ r → r ≡ Err f
      at (Ok e) k = absurd (q.0 e (finished-whole size s ts e d k))
      at (Err g) k = ap Err (fault-at-end size g s.point s.over s.last s.done s.items k ∙ sym q.1)

  unless-only : (f : Option ExprError) (s : State) (r : Result Tree ExprError) (go : State → Result Tree ExprError) (P : Type 0) → (P → go s ≡ r) → Unless f r P → checked f s >>= go ≡ r
  unless-only None s r go P k u = k u
  unless-only (Some f) s r go P k u = sym u

  deep-only : (f : Option ExprError) (x r : Result Tree ExprError) (P : Type 0) → (P → x ≡ r) → Unless f r P → unless_fault f x ≡ r
  deep-only None x r P k u = k u
  deep-only (Some f) x r P k u = sym u

  -- and nothing else is the reading
  pub reads-outcome : (size : ℕ) (left : List Token) (s : State) (ts : List Token) → Seen types s ts → follow types ts start ≡ Some s → (r : Result Tree ExprError) → Reading types size ts left r → outcome types size left (levels_of ts) s ≡ r
  reads-outcome size [] s ts d h r q = end-only size s ts d h r q
  reads-outcome size (t ∷ left) s ts d h r q =
      at (after types s t) (follow-more ts s t h) (grows types s ts d t) (flaw-seen types s ts d t) (reads-outcome size left) q
    where
      at : (o : Option State) → follow types (ts ++ t ∷ []) start ≡ o → Then o (λ z. Seen types z (ts ++ t ∷ [])) → Then o (λ z. flaw_at types s.point t ≡ flaw types (reverse ts) t)
          → ((z : State) (us : List Token) → Seen types z us → follow types us start ≡ Some z → (r : Result Tree ExprError) → Reading types size us left r → outcome types size left (levels_of us) z ≡ r)
          → ((¬ Stands types (ts ++ t ∷ [])) × (r ≡ Err (Syntax (place t))))
          ⊎ (Stands types (ts ++ t ∷ []) × Unless (flaw types (reverse ts) t) r (Onward size left ts t r))
          → stepped (place t) (flaw_at types s.point t) o >>= onward size left ts t ≡ r
      at None p g f i (inl a) = sym a.1
      at None p g f i (inr a) = absurd (stands-follow (ts ++ t ∷ []) a.0 p)
      at (Some z) p g f i (inl a) = absurd (a.0 (seen-stands types z (ts ++ t ∷ []) g))
      at (Some z) p g f i (inr a) =
          unless-only (flaw_at types s.point t) z r (onward size left ts t) (Onward size left ts t r)
          (deep-only (depth_flaw (levels_of ts) t) (outcome types size left (counted (levels_of ts) t) z) r (Reading types size (ts ++ t ∷ []) left r)
          (λ q. ap (λ l. outcome types size left l z) (sym (counted-more no_levels ts t)) ∙ i z (ts ++ t ∷ []) g p r q))
          (subst (λ w. Unless w r (Onward size left ts t r)) (sym f) a.1)

  pub start-seen : Seen types start []
  start-seen = before [] [] [] [] [] [] none no_bar no_item

-- the outcome is the reading of the text
pub outcome-is : (types : List Named) (text : List ℕ) (size : ℕ) → size ≡ length text → Reads types text (outcome types size (tokens text) no_levels start)
outcome-is types text size h = subst (λ z. Reading types z [] (tokens text) (outcome types size (tokens text) no_levels start)) h (outcome-reads types size (tokens text) start [] (start-seen types) refl)

pub outcome-only : (types : List Named) (text : List ℕ) (r : Result Tree ExprError) → Reads types text r → outcome types (length text) (tokens text) no_levels start ≡ r
outcome-only types text r q = reads-outcome types (length text) (tokens text) start [] (start-seen types) refl r q

-- a fault of a step is the outcome's
pub steps-is : (X : Type 0) {Y : Type 0} (view : Y → Tree) (f : ExprError) (s : State) (r : Result State ExprError) (go : State → Result Tree ExprError) → Steps {X = X} (Err f) s r → Is view (Err f) (r >>= go)
steps-is X view (Syntax at) s r go h = ap (λ z. z >>= go) h
steps-is X view (UnknownName at) s r go h = ap (λ z. z >>= go) h
steps-is X view (Range at) s r go h = ap (λ z. z >>= go) h
steps-is X view (Deep at) s r go h = ap (λ z. z >>= go) h
steps-is X view NoMemory s r go h = tt

-- and so is a fault of counting
pub counts-is : (X : Type 0) {Y : Type 0} (view : Y → Tree) (f : ExprError) (new old : Levels) (t : Token) (x : Result Tree ExprError) → Counts {X = X} (Err f) new old t → Is view (Err f) (unless_fault (depth_flaw old t) x)
counts-is X view (Syntax at) new old t x h = ap (λ o. unless_fault o x) h
counts-is X view (UnknownName at) new old t x h = ap (λ o. unless_fault o x) h
counts-is X view (Range at) new old t x h = ap (λ o. unless_fault o x) h
counts-is X view (Deep at) new old t x h = ap (λ o. unless_fault o x) h
counts-is X view NoMemory new old t x h = tt

-- where a token was read, and counting it is a fault, that is the outcome
pub count-fault : (X : Type 0) {Y : Type 0} (view : Y → Tree) (types : List Named) (size : ℕ) (left : List Token) (t : Token) (l new : Levels) (s z : State) (f : ExprError) (r : Result Tree ExprError)
    → step types s t ≡ Ok z → outcome types size (t ∷ left) l s ≡ r → Counts {X = X} (Err f) new l t → Is view (Err f) r
count-fault X view types size left t l new s z f r a e h =
    let go = λ (y : State). unless_fault (depth_flaw l t) (outcome types size left (counted l t) y) in
    subst (λ q. Is view (Err f) q) (sym (ap (λ q. q >>= go) a) ∙ e) (counts-is X view f new l t (outcome types size left (counted l t) z) h)

-- an error that is handed on is the fault
pub handed-is : {Y : Type 0} (view : Y → Tree) (r : Result Y ExprError) (f : ExprError) (read : Result Tree ExprError) → IsErrAnd r (λ e. e ≡ f) → Is view (Err f) read → Is view r read
handed-is view (Ok y) f read h i = absurd h
handed-is view (Err e) f read h i = subst (λ z. Is view (Err z) read) (sym h) i
