-- What the reader has seen is the beginning of an expression.
use Rattle.std.proofs.Common.{◌≡◌, ℕ, List, [], ◌∷◌, ◌++◌, reverse, Option, Some, None, refl, ap, sym, ◌∙◌, subst, append_assoc}
use Rattle.std.proofs.lemmas.List.{reverse-append, append-nil}
use Rattle.pm_auto.specs.Tree as tree
use Rattle.pm_auto.specs.Tree.{Tree}
use Rattle.pm_expr.specs.Tokens.{Token, name, bracket, end_bracket, bar, plus, star, query, brace, end_brace, number, comma, number_of}
use Rattle.pm_expr.specs.Names.{Named}
use Rattle.pm_expr.specs.Grammar.{said, Item, named, bracketed, one_or_more, any_number, at_most_one, exactly, at_least, from_to, Items, no_item, and_item, in_turn, Barred, no_bar, and_bar, Choice, one_of}
use Rattle.pm_expr.specs.Reading.{Stands, flaw}
use Rattle.pm_expr.specs.Reader.{Frame, State, state, frame, sequence_of, choice_of, outside, opened, low, parted, high, after, flaw_at}

-- the brackets that are open
pub data Opened (types : List Named) : List Frame → List Token → Type 0 where
  none : Opened types [] []
  more : (at : ℕ) (fs : List Frame) (done items : List Tree) (ts us vs : List Token) → Opened types fs ts → Barred types us done → Items types vs items
      → Opened types (frame done items ∷ fs) (ts ++ (us ++ (vs ++ bracket at ∷ [])))

-- the tokens that lead to a state
pub data Seen (types : List Named) : State → List Token → Type 0 where
  before : (fs : List Frame) (done items : List Tree) (ts us vs : List Token) → Opened types fs ts → Barred types us done → Items types vs items
      → Seen types (state fs done items None outside) (ts ++ (us ++ vs))
  behind : (fs : List Frame) (done items : List Tree) (e : Tree) (ts us vs ws : List Token) → Opened types fs ts → Barred types us done → Items types vs items → Item types ws e
      → Seen types (state fs done items (Some e) outside) (ts ++ (us ++ (vs ++ ws)))
  at_brace : (a : ℕ) (fs : List Frame) (done items : List Tree) (e : Tree) (ts : List Token) → Seen types (state fs done items (Some e) outside) ts
      → Seen types (state fs done items (Some e) (opened a)) (ts ++ brace a ∷ [])
  at_low : (a b : ℕ) (n : List ℕ) (fs : List Frame) (done items : List Tree) (e : Tree) (ts : List Token) → Seen types (state fs done items (Some e) outside) ts
      → Seen types (state fs done items (Some e) (low a (number_of n))) (ts ++ brace a ∷ number b n ∷ [])
  at_comma : (a b c : ℕ) (n : List ℕ) (fs : List Frame) (done items : List Tree) (e : Tree) (ts : List Token) → Seen types (state fs done items (Some e) outside) ts
      → Seen types (state fs done items (Some e) (parted a (number_of n))) (ts ++ brace a ∷ number b n ∷ comma c ∷ [])
  at_high : (a b c d : ℕ) (n m : List ℕ) (fs : List Frame) (done items : List Tree) (e : Tree) (ts : List Token) → Seen types (state fs done items (Some e) outside) ts
      → Seen types (state fs done items (Some e) (high a (number_of n) (number_of m))) (ts ++ brace a ∷ number b n ∷ comma c ∷ number d m ∷ [])

-- if there is a state, it holds of it
abbrev pub Then : Option State → (State → Type 0) → Type 0
Then None P = Unit {0}
Then (Some s) P = P s

-- the last item, after what stands before it
record Ended (types : List Named) (fs : List Frame) (done items : List Tree) (e : Tree) (all : List Token) : Type 0 where
  ts : List Token
  us : List Token
  vs : List Token
  ws : List Token
  is : all ≡ ts ++ (us ++ (vs ++ ws))
  in_brackets : Opened types fs ts
  in_choice : Barred types us done
  in_sequence : Items types vs items
  item : Item types ws e

ended-of : (types : List Named) (s : State) (all : List Token) (fs : List Frame) (done items : List Tree) (e : Tree) → Seen types s all → s ≡ state fs done items (Some e) outside → Ended types fs done items e all
ended-of types _ _ fs done items e (before fs' done' items' ts us vs o b i) h = let q = ap (λ (z : State). z.last) h in absurd (cc)
ended-of types _ _ fs done items e (behind fs' done' items' e' ts us vs ws o b i j) h = record {
  ts = ts;
  us = us;
  vs = vs;
  ws = ws;
  is = refl;
  in_brackets = subst (λ z. Opened types z ts) (ap (λ z. z.over) h) o;
  in_choice = subst (λ z. Barred types us z) (ap (λ z. z.done) h) b;
  in_sequence = subst (λ z. Items types vs z) (ap (λ z. z.items) h) i;
  item = let q = ap (λ (z : State). z.last) h in subst (λ z. Item types ws z) (cc) j;
}
ended-of types _ _ fs done items e (at_brace a fs' done' items' e' ts s) h = let q = ap (λ (z : State). z.point) h in absurd (cc)
ended-of types _ _ fs done items e (at_low a b n fs' done' items' e' ts s) h = let q = ap (λ (z : State). z.point) h in absurd (cc)
ended-of types _ _ fs done items e (at_comma a b c n fs' done' items' e' ts s) h = let q = ap (λ (z : State). z.point) h in absurd (cc)
ended-of types _ _ fs done items e (at_high a b c d n m fs' done' items' e' ts s) h = let q = ap (λ (z : State). z.point) h in absurd (cc)

suffixed : (types : List Named) (fs : List Frame) (done items : List Tree) (e g : Tree) (all next : List Token) → Seen types (state fs done items (Some e) outside) all
    → ((ws : List Token) → Item types ws e → Item types (ws ++ next) g)
    → Seen types (state fs done items (Some g) outside) (all ++ next)
suffixed types fs done items e g all next s f =
    let d = ended-of types (state fs done items (Some e) outside) all fs done items e s refl in
    subst (λ z. Seen types (state fs done items (Some g) outside) z)
    (sym (ap (λ z. z ++ next) d.is ∙ simp append_assoc))
    (behind fs done items g d.ts d.us d.vs (d.ws ++ next) d.in_brackets d.in_choice d.in_sequence (f d.ws d.item))

module _ (types : List Named) where
  pub grows : (s : State) (ts : List Token) → Seen types s ts → (t : Token) → Then (after types s t) (λ z. Seen types z (ts ++ t ∷ []))
  grows _ _ (before fs done items ts us vs o b i) (name at w) =
      subst (λ z. Seen types (state fs done items (Some (said types w)) outside) z) (sym (simp append_assoc))
      (behind fs done items (said types w) ts us vs (name at w ∷ []) o b i (named at w))
  grows _ _ (before fs done items ts us vs o b i) (bracket at) =
      subst (λ z. Seen types (state (frame done items ∷ fs) [] [] None outside) z) (simp (append_assoc, append-nil))
      (before (frame done items ∷ fs) [] [] (ts ++ (us ++ (vs ++ bracket at ∷ []))) [] [] (more at fs done items ts us vs o b i) no_bar no_item)
  grows _ _ (behind fs done items e ts us vs ws o b i j) (name at w) =
      subst (λ z. Seen types (state fs done (items ++ e ∷ []) (Some (said types w)) outside) z) (simp append_assoc)
      (behind fs done (items ++ e ∷ []) (said types w) ts us (vs ++ ws) (name at w ∷ []) o b (and_item vs ws items e i j) (named at w))
  grows _ _ (behind fs done items e ts us vs ws o b i j) (bracket at) =
      subst (λ z. Seen types (state (frame done (items ++ e ∷ []) ∷ fs) [] [] None outside) z) (simp (append_assoc, append-nil))
      (before (frame done (items ++ e ∷ []) ∷ fs) [] [] (ts ++ (us ++ ((vs ++ ws) ++ bracket at ∷ []))) [] []
      (more at fs done (items ++ e ∷ []) ts us (vs ++ ws) o b (and_item vs ws items e i j)) no_bar no_item)
  grows _ _ (before _ done items _ us vs none b i) (end_bracket at) = tt
  grows _ _ (before _ done items _ us vs (more _ _ _ _ _ _ _ _ _ _) b i) (end_bracket at) = tt
  grows _ _ (behind _ done items e _ us vs ws none b i j) (end_bracket at) = tt
  grows _ _ (behind _ done items e _ us vs ws (more from fs done' items' ts' us' vs' o' b' i') b i j) (end_bracket at) =
      subst (λ z. Seen types (state fs done' items' (Some (choice_of done items e)) outside) z) (simp append_assoc)
      (behind fs done' items' (choice_of done items e) ts' us' vs' (bracket from ∷ ((us ++ (vs ++ ws)) ++ end_bracket at ∷ [])) o' b' i'
      (bracketed from at (us ++ (vs ++ ws)) (choice_of done items e) (one_of us (vs ++ ws) done (sequence_of items e) b (in_turn vs ws items e i j))))
  grows _ _ (behind fs done items e ts us vs ws o b i j) (bar at) =
      subst (λ z. Seen types (state fs (done ++ sequence_of items e ∷ []) [] None outside) z) (simp (append_assoc, append-nil))
      (before fs (done ++ sequence_of items e ∷ []) [] ts (us ++ ((vs ++ ws) ++ bar at ∷ [])) [] o
      (and_bar at us (vs ++ ws) done (sequence_of items e) b (in_turn vs ws items e i j)) no_item)
  grows _ _ (behind fs done items e ts us vs ws o b i j) (plus at) =
      suffixed types fs done items e (tree.plus e) _ (plus at ∷ []) (behind fs done items e ts us vs ws o b i j) (λ z d. one_or_more at z e d)
  grows _ _ (behind fs done items e ts us vs ws o b i j) (star at) =
      suffixed types fs done items e (tree.star e) _ (star at ∷ []) (behind fs done items e ts us vs ws o b i j) (λ z d. any_number at z e d)
  grows _ _ (behind fs done items e ts us vs ws o b i j) (query at) =
      suffixed types fs done items e (tree.opt e) _ (query at ∷ []) (behind fs done items e ts us vs ws o b i j) (λ z d. at_most_one at z e d)
  grows _ _ (behind fs done items e ts us vs ws o b i j) (brace at) =
      at_brace at fs done items e (ts ++ (us ++ (vs ++ ws))) (behind fs done items e ts us vs ws o b i j)
  grows _ _ (at_brace a fs done items e ts s) (number b n) =
      subst (λ z. Seen types (state fs done items (Some e) (low a (number_of n))) z) (sym (append_assoc ts (brace a ∷ []) (number b n ∷ [])))
      (at_low a b n fs done items e ts s)
  grows _ _ (at_low a b n fs done items e ts s) (comma c) =
      subst (λ z. Seen types (state fs done items (Some e) (parted a (number_of n))) z) (sym (append_assoc ts (brace a ∷ number b n ∷ []) (comma c ∷ [])))
      (at_comma a b c n fs done items e ts s)
  grows _ _ (at_low a b n fs done items e ts s) (end_brace c) =
      subst (λ z. Seen types (state fs done items (Some (tree.range e (number_of n) (Some (number_of n)))) outside) z) (sym (append_assoc ts (brace a ∷ number b n ∷ []) (end_brace c ∷ [])))
      (suffixed types fs done items e (tree.range e (number_of n) (Some (number_of n))) ts (brace a ∷ number b n ∷ end_brace c ∷ []) s (λ z d. exactly a b c n z e d))
  grows _ _ (at_comma a b c n fs done items e ts s) (number d m) =
      subst (λ z. Seen types (state fs done items (Some e) (high a (number_of n) (number_of m))) z) (sym (append_assoc ts (brace a ∷ number b n ∷ comma c ∷ []) (number d m ∷ [])))
      (at_high a b c d n m fs done items e ts s)
  grows _ _ (at_comma a b c n fs done items e ts s) (end_brace f) =
      subst (λ z. Seen types (state fs done items (Some (tree.range e (number_of n) None)) outside) z) (sym (append_assoc ts (brace a ∷ number b n ∷ comma c ∷ []) (end_brace f ∷ [])))
      (suffixed types fs done items e (tree.range e (number_of n) None) ts (brace a ∷ number b n ∷ comma c ∷ end_brace f ∷ []) s (λ z d. at_least a b c f n z e d))
  grows _ _ (at_high a b c d n m fs done items e ts s) (end_brace f) =
      subst (λ z. Seen types (state fs done items (Some (tree.range e (number_of n) (Some (number_of m)))) outside) z) (sym (append_assoc ts (brace a ∷ number b n ∷ comma c ∷ number d m ∷ []) (end_brace f ∷ [])))
      (suffixed types fs done items e (tree.range e (number_of n) (Some (number_of m))) ts (brace a ∷ number b n ∷ comma c ∷ number d m ∷ end_brace f ∷ []) s (λ z k. from_to a b c d f n m z e k))
  grows _ _ (before fs done items ts us vs o b i) _ = tt
  grows _ _ (behind fs done items e ts us vs ws o b i j) _ = tt
  grows _ _ (at_brace a fs done items e ts s) _ = tt
  grows _ _ (at_low a b n fs done items e ts s) _ = tt
  grows _ _ (at_comma a b c n fs done items e ts s) _ = tt
  grows _ _ (at_high a b c d n m fs done items e ts s) _ = tt

  -- a choice in open brackets can be closed
  closes : (fs : List Frame) (ts : List Token) → Opened types fs ts → (us : List Token) (e : Tree) → Choice types us e → Stands types (ts ++ us)
  closes _ _ none us e d = record { further = []; says = e; whole = subst (λ z. Choice types z e) (sym (append-nil us)) d }
  closes _ _ (more at fs done items ts vs ws o b i) us e d =
      let outer = closes fs ts o (vs ++ (ws ++ bracket at ∷ (us ++ end_bracket 0 ∷ []))) (choice_of done items e)
      (one_of vs (ws ++ bracket at ∷ (us ++ end_bracket 0 ∷ [])) done (sequence_of items e) b
      (in_turn ws (bracket at ∷ (us ++ end_bracket 0 ∷ [])) items e i (bracketed at 0 us e d))) in
      record {
        further = end_bracket 0 ∷ outer.further;
        says = outer.says;
        whole = subst (λ z. Choice types z outer.says) (simp append_assoc) outer.whole;
      }

  further-stands : (ts us : List Token) → Stands types (ts ++ us) → Stands types ts
  further-stands ts us d = record { further = us ++ d.further; says = d.says; whole = subst (λ z. Choice types z d.says) (append_assoc ts us d.further) d.whole }

  stands-behind : (fs : List Frame) (done items : List Tree) (e : Tree) (ts : List Token) → Seen types (state fs done items (Some e) outside) ts → Stands types ts
  stands-behind fs done items e all s =
      let d = ended-of types (state fs done items (Some e) outside) all fs done items e s refl in
      subst (λ z. Stands types z) (sym d.is)
      (closes fs d.ts d.in_brackets (d.us ++ (d.vs ++ d.ws)) (choice_of done items e)
      (one_of d.us (d.vs ++ d.ws) done (sequence_of items e) d.in_choice (in_turn d.vs d.ws items e d.in_sequence d.item)))

  -- what was seen can go on to an expression
  pub seen-stands : (s : State) (ts : List Token) → Seen types s ts → Stands types ts
  seen-stands _ _ (before fs done items ts us vs o b i) =
      further-stands (ts ++ (us ++ vs)) (name 0 [] ∷ [])
      (subst (λ z. Stands types z) (simp append_assoc)
      (stands-behind fs done items (said types []) (ts ++ (us ++ (vs ++ name 0 [] ∷ [])))
      (behind fs done items (said types []) ts us vs (name 0 [] ∷ []) o b i (named 0 []))))
  seen-stands _ _ (behind fs done items e ts us vs ws o b i j) = stands-behind fs done items e _ (behind fs done items e ts us vs ws o b i j)
  seen-stands _ _ (at_brace a fs done items e ts s) =
      further-stands (ts ++ brace a ∷ []) (number 0 [] ∷ end_brace 0 ∷ [])
      (subst (λ z. Stands types z) (sym (append_assoc ts (brace a ∷ []) (number 0 [] ∷ end_brace 0 ∷ [])))
      (stands-behind fs done items (tree.range e (number_of []) (Some (number_of []))) _
      (suffixed types fs done items e (tree.range e (number_of []) (Some (number_of []))) ts (brace a ∷ number 0 [] ∷ end_brace 0 ∷ []) s (λ z d. exactly a 0 0 [] z e d))))
  seen-stands _ _ (at_low a b n fs done items e ts s) =
      further-stands (ts ++ brace a ∷ number b n ∷ []) (end_brace 0 ∷ [])
      (subst (λ z. Stands types z) (sym (append_assoc ts (brace a ∷ number b n ∷ []) (end_brace 0 ∷ [])))
      (stands-behind fs done items (tree.range e (number_of n) (Some (number_of n))) _
      (suffixed types fs done items e (tree.range e (number_of n) (Some (number_of n))) ts (brace a ∷ number b n ∷ end_brace 0 ∷ []) s (λ z d. exactly a b 0 n z e d))))
  seen-stands _ _ (at_comma a b c n fs done items e ts s) =
      further-stands (ts ++ brace a ∷ number b n ∷ comma c ∷ []) (end_brace 0 ∷ [])
      (subst (λ z. Stands types z) (sym (append_assoc ts (brace a ∷ number b n ∷ comma c ∷ []) (end_brace 0 ∷ [])))
      (stands-behind fs done items (tree.range e (number_of n) None) _
      (suffixed types fs done items e (tree.range e (number_of n) None) ts (brace a ∷ number b n ∷ comma c ∷ end_brace 0 ∷ []) s (λ z d. at_least a b c 0 n z e d))))
  seen-stands _ _ (at_high a b c d n m fs done items e ts s) =
      further-stands (ts ++ brace a ∷ number b n ∷ comma c ∷ number d m ∷ []) (end_brace 0 ∷ [])
      (subst (λ z. Stands types z) (sym (append_assoc ts (brace a ∷ number b n ∷ comma c ∷ number d m ∷ []) (end_brace 0 ∷ [])))
      (stands-behind fs done items (tree.range e (number_of n) (Some (number_of m))) _
      (suffixed types fs done items e (tree.range e (number_of n) (Some (number_of m))) ts (brace a ∷ number b n ∷ comma c ∷ number d m ∷ end_brace 0 ∷ []) s (λ z k. from_to a b c d 0 n m z e k))))

  -- the flaw of a token that can stand, told by the state, is that told by the tokens before it
  pub flaw-seen : (s : State) (ts : List Token) → Seen types s ts → (t : Token) → Then (after types s t) (λ z. flaw_at types s.point t ≡ flaw types (reverse ts) t)
  flaw-seen _ _ (at_low a b n fs done items e ts s) (end_brace c) = rw (reverse-append ts (brace a ∷ number b n ∷ []))
  flaw-seen _ _ (at_comma a b c n fs done items e ts s) (end_brace f) = rw (reverse-append ts (brace a ∷ number b n ∷ comma c ∷ []))
  flaw-seen _ _ (at_high a b c d n m fs done items e ts s) (end_brace f) = rw (reverse-append ts (brace a ∷ number b n ∷ comma c ∷ number d m ∷ []))
  flaw-seen _ _ (before fs done items ts us vs o b i) (name at w) = refl
  flaw-seen _ _ (before fs done items ts us vs o b i) (bracket at) = refl
  flaw-seen _ _ (before _ done items _ us vs none b i) (end_bracket at) = tt
  flaw-seen _ _ (before _ done items _ us vs (more _ _ _ _ _ _ _ _ _ _) b i) (end_bracket at) = tt
  flaw-seen _ _ (before fs done items ts us vs o b i) _ = tt
  flaw-seen _ _ (behind _ done items e _ us vs ws none b i j) (end_bracket at) = tt
  flaw-seen _ _ (behind _ done items e _ us vs ws (more _ _ _ _ _ _ _ _ _ _) b i j) (end_bracket at) = refl
  flaw-seen _ _ (behind fs done items e ts us vs ws o b i j) (name at w) = refl
  flaw-seen _ _ (behind fs done items e ts us vs ws o b i j) (bracket at) = refl
  flaw-seen _ _ (behind fs done items e ts us vs ws o b i j) (bar at) = refl
  flaw-seen _ _ (behind fs done items e ts us vs ws o b i j) (plus at) = refl
  flaw-seen _ _ (behind fs done items e ts us vs ws o b i j) (star at) = refl
  flaw-seen _ _ (behind fs done items e ts us vs ws o b i j) (query at) = refl
  flaw-seen _ _ (behind fs done items e ts us vs ws o b i j) (brace at) = refl
  flaw-seen _ _ (behind fs done items e ts us vs ws o b i j) _ = tt
  flaw-seen _ _ (at_brace a fs done items e ts s) (number b n) = refl
  flaw-seen _ _ (at_brace a fs done items e ts s) _ = tt
  flaw-seen _ _ (at_low a b n fs done items e ts s) (comma c) = refl
  flaw-seen _ _ (at_low a b n fs done items e ts s) _ = tt
  flaw-seen _ _ (at_comma a b c n fs done items e ts s) (number d m) = refl
  flaw-seen _ _ (at_comma a b c n fs done items e ts s) _ = tt
  flaw-seen _ _ (at_high a b c d n m fs done items e ts s) _ = tt
