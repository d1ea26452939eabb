-- Changed marks change the types of children only in how texts are divided.
use Rattle.std.specs.Prelude.{◌≡◌, ℕ, max, Bool, true, false, ◌&&◌, not, nat_le, cond, ◌==◌, List, [], ◌∷◌, length, Option, Some, None, Ok}
use Rattle.std.proofs.lemmas.Bool.{eq-eqb, and_parts, and_from}
use Rattle.std.proofs.Common.{zero, suc, refl, ap, sym, ◌∙◌, subst}
use Rattle.pm_tokens.specs.Tokens.{Marks, Token, Open, Close, Leaf, CodeUnit, Doc, with_tokens, marks_of}
use Rattle.pm_tokens.specs.Schemas.{Schema, max_size, max_depth, node_attrs}
use Rattle.pm_tokens.specs.Scan.{head_of, deepest}
use Rattle.pm_tokens.specs.Kids.{goes_on, kids}
use Rattle.pm_tokens.specs.Faults.{attrs_fit, content_fits, high_of, pair_fits, under, token_fits, place_from, no_marks, top_fits, fault_place, Valid}
use Rattle.pm_tokens.specs.Loose.{shortened, IsLoose}
use Rattle.pm_tokens.proofs.PairLaws.{first-none, none-first}
use Rattle.pm_tokens.proofs.ValidLaws.{token-fits, fits-token, valid-top, valid-tokens, valid-size, valid-depth}
use Rattle.pm_meaning.specs.Outcomes.{checked}
use Rattle.pm_meaning.proofs.TokenMarks.{set_marks}
use Rattle.pm_meaning.proofs.MarkSuits.{marks_suit, suit-attrs, suit-marks}
use Rattle.pm_meaning.proofs.MarkStepLaws.{Fits, under-after}

-- the same tokens but for their marks
abbrev pub Shaped : List Token → List Token → Type 0
Shaped [] [] = Unit {0}
Shaped [] (n ∷ ns) = ⊥
Shaped (t ∷ ts) [] = ⊥
Shaped (t ∷ ts) (n ∷ ns) = (ms : Marks) × (n ≡ set_marks ms t) × Shaped ts ns

-- a unit stands before only where a text does
abbrev InRun : Option Marks → Bool → Type 0
InRun None in_run = Unit {0}
InRun (Some m) in_run = in_run ≡ true

module _ (text : ℕ) where
  short-text : (in_run : Bool) (ks : List ℕ) → shortened text in_run (text ∷ ks) ≡ cond in_run (shortened text true ks) (text ∷ shortened text true ks)
  short-text in_run ks = rw (eq-eqb text text refl) refl

  -- the run of a unit, whether it goes on or begins
  short-unit : (r : Option Marks) (in_run : Bool) (m : Marks) (ks : List ℕ) → InRun r in_run
      → shortened text in_run (cond (goes_on r m) ks (text ∷ ks)) ≡ cond in_run (shortened text true ks) (text ∷ shortened text true ks)
  short-unit None in_run m ks h = short-text in_run ks
  short-unit (Some n) in_run m ks h = at (goes_on (Some n) m)
    where
      at : (b : Bool) → shortened text in_run (cond b ks (text ∷ ks)) ≡ cond in_run (shortened text true ks) (text ∷ shortened text true ks)
      at true = rw h refl
      at false = short-text in_run ks

  short-node : (in_run : Bool) (k : ℕ) (xs ys : List ℕ) → ((b : Bool) → shortened text b xs ≡ shortened text b ys) → shortened text in_run (k ∷ xs) ≡ shortened text in_run (k ∷ ys)
  short-node in_run k xs ys h = rw (h true, h false) refl

  -- the types of the children are the same but for how texts are divided
  pub shaped-kids : (d : ℕ) (q r : Option Marks) (in_run : Bool) (ts ns : List Token) → Shaped ts ns → InRun q in_run → InRun r in_run
      → shortened text in_run (kids text d q ts) ≡ shortened text in_run (kids text d r ns)
  shaped-kids d q r b [] [] h x y = refl
  shaped-kids d q r b [] (n ∷ ns) h x y = absurd h
  shaped-kids d q r b (t ∷ ts) [] h x y = absurd h
  shaped-kids zero q r b (Open k a m ∷ ts) (n ∷ ns) h x y =
      rw h.1 (short-node b k (kids text 1 None ts) (kids text 1 None ns) (λ c. shaped-kids 1 None None c ts ns h.2 tt tt))
  shaped-kids (suc d) q r b (Open k a m ∷ ts) (n ∷ ns) h x y = rw h.1 (shaped-kids (suc (suc d)) None None b ts ns h.2 tt tt)
  shaped-kids zero q r b (Close ∷ ts) (n ∷ ns) h x y = rw h.1 refl
  shaped-kids (suc d) q r b (Close ∷ ts) (n ∷ ns) h x y = rw h.1 (shaped-kids d None None b ts ns h.2 tt tt)
  shaped-kids zero q r b (Leaf k a m ∷ ts) (n ∷ ns) h x y =
      rw h.1 (short-node b k (kids text zero None ts) (kids text zero None ns) (λ c. shaped-kids zero None None c ts ns h.2 tt tt))
  shaped-kids (suc d) q r b (Leaf k a m ∷ ts) (n ∷ ns) h x y = rw h.1 (shaped-kids (suc d) None None b ts ns h.2 tt tt)
  shaped-kids zero q r b (CodeUnit u m ∷ ts) (n ∷ ns) h x y =
      rw h.1
      (short-unit q b m (kids text zero (Some m) ts) x
      ∙ (ap (λ z. cond b z (text ∷ z)) (shaped-kids zero (Some m) (Some h.0) true ts ns h.2 refl refl) ∙ sym (short-unit r b h.0 (kids text zero (Some h.0) ns) y)))
  shaped-kids (suc d) q r b (CodeUnit u m ∷ ts) (n ∷ ns) h x y = rw h.1 (shaped-kids (suc d) None None b ts ns h.2 tt tt)

-- in a loose schema a node's content is accepted whatever the marks
pub loose-accepts : (s : Schema) → IsLoose s → (k : ℕ) (ts ns : List Token) → Shaped ts ns → s.accepts k (kids s.text 0 None ts) ≡ s.accepts k (kids s.text 0 None ns)
loose-accepts s l k ts ns h = l k (kids s.text 0 None ts) (kids s.text 0 None ns) (shaped-kids s.text 0 None None false ts ns h tt tt)

-- each half of a pair has its other half beside it, with equal marks
abbrev pub Paired : Option Marks → List Token → Type 0
Paired high [] = Unit {0}
Paired high (Open k a m ∷ ts) = Paired None ts
Paired high (Close ∷ ts) = Paired None ts
Paired high (Leaf k a m ∷ ts) = Paired None ts
Paired high (CodeUnit u m ∷ ts) = (pair_fits high (CodeUnit u m) ts ≡ true) × Paired (high_of (CodeUnit u m)) ts

shaped-length : (ts ns : List Token) → Shaped ts ns → length ns ≡ length ts
shaped-length [] [] h = refl
shaped-length [] (n ∷ ns) h = absurd h
shaped-length (t ∷ ts) [] h = absurd h
shaped-length (t ∷ ts) (n ∷ ns) h = ap suc (shaped-length ts ns h.2)

shaped-deepest : (d : ℕ) (ts ns : List Token) → Shaped ts ns → deepest d ns ≡ deepest d ts
shaped-deepest d [] [] h = refl
shaped-deepest d [] (n ∷ ns) h = absurd h
shaped-deepest d (t ∷ ts) [] h = absurd h
shaped-deepest d (Open k a m ∷ ts) (n ∷ ns) h = ap (λ z. deepest d (z ∷ ns)) h.1 ∙ shaped-deepest (suc d) ts ns h.2
shaped-deepest zero (Close ∷ ts) (n ∷ ns) h = ap (λ z. deepest zero (z ∷ ns)) h.1 ∙ shaped-deepest zero ts ns h.2
shaped-deepest (suc d) (Close ∷ ts) (n ∷ ns) h = ap (λ z. deepest (suc d) (z ∷ ns)) h.1 ∙ ap (λ z. max (suc d) z) (shaped-deepest d ts ns h.2)
shaped-deepest d (Leaf k a m ∷ ts) (n ∷ ns) h = ap (λ z. deepest d (z ∷ ns)) h.1 ∙ shaped-deepest d ts ns h.2
shaped-deepest d (CodeUnit u m ∷ ts) (n ∷ ns) h = ap (λ z. deepest d (z ∷ ns)) h.1 ∙ shaped-deepest d ts ns h.2

under-set : (ps : List ℕ) (ms : Marks) (t : Token) → under ps (set_marks ms t) ≡ under ps t
under-set ps ms (Open k a m) = refl
under-set ps ms Close = refl
under-set ps ms (Leaf k a m) = refl
under-set ps ms (CodeUnit u m) = refl

pub paired-token : (high : Option Marks) (t : Token) (ts : List Token) → Paired high (t ∷ ts) → (pair_fits high t ts ≡ true) × Paired (high_of t) ts
paired-token high (Open k a m) ts p = (refl, p)
paired-token high Close ts p = (refl, p)
paired-token high (Leaf k a m) ts p = (refl, p)
paired-token high (CodeUnit u m) ts p = p

pub token-paired : (high : Option Marks) (t : Token) (ts : List Token) → pair_fits high t ts ≡ true → Paired (high_of t) ts → Paired high (t ∷ ts)
token-paired high (Open k a m) ts h p = p
token-paired high Close ts h p = p
token-paired high (Leaf k a m) ts h p = p
token-paired high (CodeUnit u m) ts h p = (h, p)

module _ (s : Schema) (l : IsLoose s) where
  content-again : (ms : Marks) (t : Token) (ts ns : List Token) → Shaped ts ns → content_fits s t ts ≡ true → content_fits s (set_marks ms t) ns ≡ true
  content-again ms (Open k a m) ts ns x h =
      let b = and_parts (not (k == s.text) && not (s.is_leaf k)) (s.accepts k (kids s.text 0 None ts)) h in
      and_from (not (k == s.text) && not (s.is_leaf k)) (s.accepts k (kids s.text 0 None ns)) b.0 (sym (loose-accepts s l k ts ns x) ∙ b.1)
  content-again ms Close ts ns x h = refl
  content-again ms (Leaf k a m) ts ns x h = h
  content-again ms (CodeUnit u m) ts ns x h = refl

  -- other marks that suit bring no fault
  pub remarked : (ps : List ℕ) (g h : Option Marks) (ts ns : List Token) → Shaped ts ns → place_from s ps g ts ≡ None → Fits s ps ns → Paired h ns → place_from s ps h ns ≡ None
  remarked ps g h [] [] x f w p = refl
  remarked ps g h [] (n ∷ ns) x f w p = absurd x
  remarked ps g h (t ∷ ts) [] x f w p = absurd x
  remarked ps g h (t ∷ ts) (n ∷ ns) x f w p =
      let parent = head_of ps in
      let e = first-none (token_fits s parent g t ts) (place_from s (under ps t) (high_of t) ts) f in
      let was = token-fits s parent g t ts e.0 in
      let now : Token = set_marks x.0 t in
      let suits : marks_suit s parent (marks_of now) ≡ true = subst (λ z. marks_suit s parent (marks_of z) ≡ true) x.1 w.0 in
      let pair = paired-token h n ns p in
      let up : under ps n ≡ under ps t = ap (under ps) x.1 ∙ under-set ps x.0 t in
      let fits : token_fits s parent h n ns ≡ true = fits-token s parent h n ns (record {
        attrs = subst (λ z. attrs_fit s z ≡ true) (sym x.1) (suit-attrs s parent x.0 t was.attrs suits);
        marks = suit-marks s parent n w.0;
        content = subst (λ z. content_fits s z ns ≡ true) (sym x.1) (content-again x.0 t ts ns x.2 was.content);
        pair = pair.0;
      }) in
      let rest : Fits s (under ps t) ns = subst (λ z. Fits s z ns) (sym (under-after ps n) ∙ up) w.1 in
      none-first (token_fits s parent h n ns) (place_from s (under ps n) (high_of n) ns) fits
      (subst (λ z. place_from s z (high_of n) ns ≡ None) (sym up) (remarked (under ps t) (high_of t) (high_of n) ts ns x.2 e.1 rest pair.1))

  -- in a loose schema a valid document stays valid under other marks that suit and keep pairs together
  pub remarked-checks : (d : Doc) (ns : List Token) → Valid s d → Shaped d.tokens ns → Fits s (d.kind ∷ []) ns → Paired None ns → checked s (with_tokens d ns) ≡ Ok (with_tokens d ns)
  remarked-checks d ns v x w p =
      let n : Doc = with_tokens d ns in
      let top = and_parts (node_attrs s d.kind d.attrs && no_marks d.marks) (s.accepts d.kind (kids s.text 0 None d.tokens)) (valid-top s d v) in
      let f : fault_place s n ≡ None =
      none-first (top_fits s n) (place_from s (d.kind ∷ []) None ns)
      (and_from (node_attrs s d.kind d.attrs && no_marks d.marks) (s.accepts d.kind (kids s.text 0 None ns)) top.0 (sym (loose-accepts s l d.kind d.tokens ns x) ∙ top.1))
      (remarked (d.kind ∷ []) None None d.tokens ns x (valid-tokens s d v) w p) in
      let size : nat_le (length ns) (max_size s) ≡ true = ap (λ z. nat_le z (max_size s)) (shaped-length d.tokens ns x) ∙ valid-size s d v in
      let depth : nat_le (deepest 0 ns) max_depth ≡ true = ap (λ z. nat_le z max_depth) (shaped-deepest 0 d.tokens ns x) ∙ valid-depth s d v in
      rw (size, depth, f) refl
