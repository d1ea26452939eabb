-- What the grammar derives, the reader reads.
use Rattle.std.proofs.Common.{◌≡◌, List, [], ◌∷◌, ◌++◌, Option, Some, None, refl, ap, sym, ◌∙◌, append_assoc}
use Rattle.pm_auto.specs.Tree as tree
use Rattle.pm_auto.specs.Tree.{Tree}
use Rattle.pm_expr.specs.Tokens.{Token, bracket, end_bracket, bar, plus, star, query, brace, end_brace, number, comma}
use Rattle.pm_expr.specs.Names.{Named, joined}
use Rattle.pm_expr.specs.Grammar.{Item, named, bracketed, one_or_more, any_number, at_most_one, exactly, at_least, from_to, Items, no_item, and_item, Sequence, in_turn, Barred, no_bar, and_bar, Choice, one_of}
use Rattle.pm_expr.specs.Reader.{Frame, State, state, frame, settled, sequence_of, choice_of, outside, after}

abbrev pub then : Option State → (State → Option State) → Option State
then None f = None
then (Some s) f = f s

-- the state after all tokens, if each can stand
abbrev pub follow : List Named → List Token → State → Option State
follow types [] s = Some s
follow types (t ∷ ts) s = then (after types s t) (follow types ts)

then-same : (o : Option State) (f g h : State → Option State) → ((s : State) → f s ≡ then (g s) h) → then o f ≡ then (then o g) h
then-same None f g h e = refl
then-same (Some s) f g h e = e s

pub follow-append : (types : List Named) (ts us : List Token) (s : State) → follow types (ts ++ us) s ≡ then (follow types ts s) (follow types us)
follow-append types [] us s = refl
follow-append types (t ∷ ts) us s = then-same (after types s t) (follow types (ts ++ us)) (follow types ts) (follow types us) (λ z. follow-append types ts us z)

-- the reader is somewhere in a sequence: these items stand before and at the end
record In_items (types : List Named) (over : List Frame) (done : List Tree) (ts rest : List Token) (es : List Tree) : Type 0 where
  items : List Tree
  last : Option Tree
  are : settled items last ≡ es
  comes : follow types (ts ++ rest) (state over done [] None outside) ≡ follow types rest (state over done items last outside)

record In_sequence (types : List Named) (over : List Frame) (done : List Tree) (ts rest : List Token) (e : Tree) : Type 0 where
  items : List Tree
  last : Tree
  is : e ≡ sequence_of items last
  comes : follow types (ts ++ rest) (state over done [] None outside) ≡ follow types rest (state over done items (Some last) outside)

pub record In_choice (types : List Named) (over : List Frame) (ts rest : List Token) (e : Tree) : Type 0 where
  pub done : List Tree
  pub items : List Tree
  pub last : Tree
  pub is : e ≡ choice_of done items last
  pub comes : follow types (ts ++ rest) (state over [] [] None outside) ≡ follow types rest (state over done items (Some last) outside)

module _ (types : List Named) where
  mutual
    pub item-read : (ts : List Token) (e : Tree) → Item types ts e → (over : List Frame) (done items : List Tree) (last : Option Tree) (rest : List Token)
        → follow types (ts ++ rest) (state over done items last outside) ≡ follow types rest (state over done (settled items last) (Some e) outside)
    item-read _ _ (named at word) over done items last rest = refl
    item-read _ _ (bracketed at to ts e d) over done items last rest =
        let inner = choice-read ts e d (frame done (settled items last) ∷ over) (end_bracket to ∷ rest) in
        ap (λ z. follow types (bracket at ∷ z) (state over done items last outside)) (append_assoc ts (end_bracket to ∷ []) rest)
        ∙ inner.comes
        ∙ ap (λ z. follow types rest (state over done (settled items last) (Some z) outside)) (sym inner.is)
    item-read _ _ (one_or_more at ts e d) over done items last rest =
        ap (λ z. follow types z (state over done items last outside)) (append_assoc ts (plus at ∷ []) rest)
        ∙ item-read ts e d over done items last (plus at ∷ rest)
    item-read _ _ (any_number at ts e d) over done items last rest =
        ap (λ z. follow types z (state over done items last outside)) (append_assoc ts (star at ∷ []) rest)
        ∙ item-read ts e d over done items last (star at ∷ rest)
    item-read _ _ (at_most_one at ts e d) over done items last rest =
        ap (λ z. follow types z (state over done items last outside)) (append_assoc ts (query at ∷ []) rest)
        ∙ item-read ts e d over done items last (query at ∷ rest)
    item-read _ _ (exactly a b c n ts e d) over done items last rest =
        ap (λ z. follow types z (state over done items last outside)) (append_assoc ts (brace a ∷ number b n ∷ end_brace c ∷ []) rest)
        ∙ item-read ts e d over done items last (brace a ∷ number b n ∷ end_brace c ∷ rest)
    item-read _ _ (at_least a b c f n ts e d) over done items last rest =
        ap (λ z. follow types z (state over done items last outside)) (append_assoc ts (brace a ∷ number b n ∷ comma c ∷ end_brace f ∷ []) rest)
        ∙ item-read ts e d over done items last (brace a ∷ number b n ∷ comma c ∷ end_brace f ∷ rest)
    item-read _ _ (from_to a b c f g n m ts e d) over done items last rest =
        ap (λ z. follow types z (state over done items last outside)) (append_assoc ts (brace a ∷ number b n ∷ comma c ∷ number f m ∷ end_brace g ∷ []) rest)
        ∙ item-read ts e d over done items last (brace a ∷ number b n ∷ comma c ∷ number f m ∷ end_brace g ∷ rest)

    items-read : (ts : List Token) (es : List Tree) → Items types ts es → (over : List Frame) (done : List Tree) (rest : List Token) → In_items types over done ts rest es
    items-read _ _ no_item over done rest = record { items = []; last = None; are = refl; comes = refl }
    items-read _ _ (and_item ts us es e d f) over done rest =
        let before = items-read ts es d over done (us ++ rest) in
        record {
          items = es;
          last = Some e;
          are = refl;
          comes =
              ap (λ z. follow types z (state over done [] None outside)) (append_assoc ts us rest)
              ∙ before.comes
              ∙ item-read us e f over done before.items before.last rest
              ∙ ap (λ z. follow types rest (state over done z (Some e) outside)) before.are;
        }

    sequence-read : (ts : List Token) (e : Tree) → Sequence types ts e → (over : List Frame) (done : List Tree) (rest : List Token) → In_sequence types over done ts rest e
    sequence-read _ _ (in_turn ts us es e d f) over done rest =
        let before = items-read ts es d over done (us ++ rest) in
        record {
          items = es;
          last = e;
          is = refl;
          comes =
              ap (λ z. follow types z (state over done [] None outside)) (append_assoc ts us rest)
              ∙ before.comes
              ∙ item-read us e f over done before.items before.last rest
              ∙ ap (λ z. follow types rest (state over done z (Some e) outside)) before.are;
        }

    barred-read : (ts : List Token) (es : List Tree) → Barred types ts es → (over : List Frame) (rest : List Token)
        → follow types (ts ++ rest) (state over [] [] None outside) ≡ follow types rest (state over es [] None outside)
    barred-read _ _ no_bar over rest = refl
    barred-read _ _ (and_bar at ts us es e d f) over rest =
        let next = sequence-read us e f over es (bar at ∷ rest) in
        ap (λ z. follow types z (state over [] [] None outside)) (append_assoc ts (us ++ bar at ∷ []) rest ∙ ap (λ z. ts ++ z) (append_assoc us (bar at ∷ []) rest))
        ∙ barred-read ts es d over (us ++ bar at ∷ rest)
        ∙ next.comes
        ∙ ap (λ z. follow types rest (state over (es ++ z ∷ []) [] None outside)) (sym next.is)

    pub choice-read : (ts : List Token) (e : Tree) → Choice types ts e → (over : List Frame) (rest : List Token) → In_choice types over ts rest e
    choice-read _ _ (one_of ts us es e d f) over rest =
        let next = sequence-read us e f over es rest in
        record {
          done = es;
          items = next.items;
          last = next.last;
          is = ap (λ z. joined tree.choice (es ++ z ∷ [])) next.is;
          comes =
              ap (λ z. follow types z (state over [] [] None outside)) (append_assoc ts us rest)
              ∙ barred-read ts es d over (us ++ rest)
              ∙ next.comes;
        }
