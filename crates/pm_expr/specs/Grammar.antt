-- The grammar of content expressions: which tokens are an expression, and which one.
use Rattle.std.specs.Prelude.{ℕ, List, [], ◌∷◌, ◌++◌, Some, None, unwrap_or}
use Rattle.pm_auto.specs.Tree as tree
use Rattle.pm_auto.specs.Tree.{Tree}
use Rattle.pm_expr.specs.Tokens.{Token, name, bracket, end_bracket, bar, plus, star, query, brace, end_brace, number, comma, number_of}
use Rattle.pm_expr.specs.Names.{Named, joined, stands_for}

-- What a name says. Of an unknown name it does not matter, as such a text is refused.
abbrev pub said : List Named → List ℕ → Tree
said types word = unwrap_or (stands_for types word) tree.empty

mutual
  -- an item: a name or a choice in brackets, with suffixes that apply from left to right
  pub data Item (types : List Named) : List Token → Tree → Type 0 where
    named : (at : ℕ) (word : List ℕ) → Item types (name at word ∷ []) (said types word)
    bracketed : (at to : ℕ) (ts : List Token) (e : Tree) → Choice types ts e → Item types (bracket at ∷ (ts ++ end_bracket to ∷ [])) e
    one_or_more : (at : ℕ) (ts : List Token) (e : Tree) → Item types ts e → Item types (ts ++ plus at ∷ []) (tree.plus e)
    any_number : (at : ℕ) (ts : List Token) (e : Tree) → Item types ts e → Item types (ts ++ star at ∷ []) (tree.star e)
    at_most_one : (at : ℕ) (ts : List Token) (e : Tree) → Item types ts e → Item types (ts ++ query at ∷ []) (tree.opt e)
    exactly : (a b c : ℕ) (n : List ℕ) (ts : List Token) (e : Tree) → Item types ts e
        → Item types (ts ++ brace a ∷ number b n ∷ end_brace c ∷ []) (tree.range e (number_of n) (Some (number_of n)))
    at_least : (a b c d : ℕ) (n : List ℕ) (ts : List Token) (e : Tree) → Item types ts e
        → Item types (ts ++ brace a ∷ number b n ∷ comma c ∷ end_brace d ∷ []) (tree.range e (number_of n) None)
    from_to : (a b c d f : ℕ) (n m : List ℕ) (ts : List Token) (e : Tree) → Item types ts e
        → Item types (ts ++ brace a ∷ number b n ∷ comma c ∷ number d m ∷ end_brace f ∷ []) (tree.range e (number_of n) (Some (number_of m)))

  -- any number of items, one after another
  pub data Items (types : List Named) : List Token → List Tree → Type 0 where
    no_item : Items types [] []
    and_item : (ts us : List Token) (es : List Tree) (e : Tree) → Items types ts es → Item types us e → Items types (ts ++ us) (es ++ e ∷ [])

  -- a sequence: one or more items
  pub data Sequence (types : List Named) : List Token → Tree → Type 0 where
    in_turn : (ts us : List Token) (es : List Tree) (e : Tree) → Items types ts es → Item types us e → Sequence types (ts ++ us) (joined tree.seq (es ++ e ∷ []))

  -- any number of sequences, with a bar after each
  pub data Barred (types : List Named) : List Token → List Tree → Type 0 where
    no_bar : Barred types [] []
    and_bar : (at : ℕ) (ts us : List Token) (es : List Tree) (e : Tree) → Barred types ts es → Sequence types us e → Barred types (ts ++ (us ++ bar at ∷ [])) (es ++ e ∷ [])

  -- a choice: sequences that are separated by bars
  pub data Choice (types : List Named) : List Token → Tree → Type 0 where
    one_of : (ts us : List Token) (es : List Tree) (e : Tree) → Barred types ts es → Sequence types us e → Choice types (ts ++ us) (joined tree.choice (es ++ e ∷ []))
