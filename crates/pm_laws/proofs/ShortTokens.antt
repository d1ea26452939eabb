-- The JSON tokens of a text are no more than its bytes and one, and no string among them is longer than four times the text.
use Rattle.std.proofs.Common.{◌≤◌, ◌+◌, ◌*◌, ◌-◌, ℕ, zero, suc, List, [], ◌∷◌, length, length-append, take, drop, Bool, true, false, cond, ◌==◌, ◌&&◌, Option, Some, None, option_and_then, arith}
use Rattle.std.specs.Prelude.{nat_lt, nat_eq}
use Rattle.std.specs.Char.{encode_utf8}
use Rattle.std.specs.List.{starts_with}
use Rattle.std.proofs.lemmas.Str.{length-encode, len_utf8_bounds}
use Rattle.json.specs.Token.{Token, begin_object, end_object, begin_array, end_array, key, string, number, boolean, null, bad}
use Rattle.json.specs.Text.{Within, plain, after_backslash, after_u, after_high, content, code_unit, short_escape, prepend, is_high_surrogate, is_low_surrogate, surrogate_pair}
use Rattle.json.specs.Word.{head, ends_word, after_number, number_before, literal, word}
use Rattle.json.specs.Lex.{Lexeme, token, comma, colon, Class, quote, backslash, operator, space, other, class, operator_lexeme, string_token, Mode, between, in_word, in_string, in_escape, lex_byte, lex, Place, fresh, after_value, after_comma, after_key, begins_colon, may_begin, may_close, if_allowed, place_token, punctuate, tokens}
use Rattle.json.specs.Ascii as ascii

-- ---- the content of a string

-- it is no longer than that
abbrev AtMost : ℕ → Option (List ℕ) → Type 0
AtMost n None = Unit {0}
AtMost n (Some s) = length s ≤ n

weaker : (m n : ℕ) (o : Option (List ℕ)) → m ≤ n → AtMost m o → AtMost n o
weaker m n None l h = tt
weaker m n (Some s) l h = omega (arith, l, h)

either : (n : ℕ) (b : Bool) (o p : Option (List ℕ)) → AtMost n o → AtMost n p → AtMost n (cond b o p)
either n true o p h k = h
either n false o p h k = k

put-before : (bytes : List ℕ) (o : Option (List ℕ)) (m n : ℕ) → length bytes + m ≤ n → AtMost m o → AtMost n (prepend bytes o)
put-before bytes None m n l h = tt
put-before bytes (Some s) m n l h = let e = length-append bytes s in omega (arith, l, h, e)

where-some : {A : Type 0} (n : ℕ) (o : Option A) (f : A → Option (List ℕ)) → ((a : A) → AtMost n (f a)) → AtMost n (option_and_then f o)
where-some n None f h = tt
where-some n (Some a) f h = h a

few-bytes : (c : ℕ) → length (encode_utf8 c) ≤ 4
few-bytes c = let e = length-encode c in let b = (len_utf8_bounds c).1 in omega (arith, e, b)

short-content : (w : Within) (xs : List ℕ) → AtMost (4 * length xs) (content w xs)
unfolding content
short-content plain [] = tt
short-content plain (x ∷ xs) =
    either (4 * length (x ∷ xs)) (x == ascii.quote) (Some []) _ (omega arith)
    (either (4 * length (x ∷ xs)) (x == ascii.backslash) (content after_backslash xs) _ (weaker (4 * length xs) (4 * length (x ∷ xs)) (content after_backslash xs) (omega arith) (short-content after_backslash xs))
    (either (4 * length (x ∷ xs)) (nat_lt x ascii.space) None (prepend (x ∷ []) (content plain xs)) tt
    (put-before (x ∷ []) (content plain xs) (4 * length xs) (4 * length (x ∷ xs)) (omega arith) (short-content plain xs))))
short-content after_backslash [] = tt
short-content after_backslash (x ∷ xs) =
    either (4 * length (x ∷ xs)) (x == ascii.lower_u) (content after_u xs) _ (weaker (4 * length xs) (4 * length (x ∷ xs)) (content after_u xs) (omega arith) (short-content after_u xs))
    (where-some (4 * length (x ∷ xs)) (short_escape x) (λ c. prepend (c ∷ []) (content plain xs))
    (λ c. put-before (c ∷ []) (content plain xs) (4 * length xs) (4 * length (x ∷ xs)) (omega arith) (short-content plain xs)))
short-content after_u [] = tt
short-content after_u (a ∷ []) = tt
short-content after_u (a ∷ b ∷ []) = tt
short-content after_u (a ∷ b ∷ c ∷ []) = tt
short-content after_u (a ∷ b ∷ c ∷ d ∷ xs) =
    where-some (4 * length (a ∷ b ∷ c ∷ d ∷ xs)) (code_unit a b c d)
    (λ u. cond (is_high_surrogate u) (content (after_high u) xs) (cond (is_low_surrogate u) None (prepend (encode_utf8 u) (content plain xs))))
    (λ u. either (4 * length (a ∷ b ∷ c ∷ d ∷ xs)) (is_high_surrogate u) (content (after_high u) xs) (cond (is_low_surrogate u) None (prepend (encode_utf8 u) (content plain xs)))
    (weaker (4 * length xs) (4 * length (a ∷ b ∷ c ∷ d ∷ xs)) (content (after_high u) xs) (omega arith) (short-content (after_high u) xs))
    (either (4 * length (a ∷ b ∷ c ∷ d ∷ xs)) (is_low_surrogate u) None (prepend (encode_utf8 u) (content plain xs)) tt
    (put-before (encode_utf8 u) (content plain xs) (4 * length xs) (4 * length (a ∷ b ∷ c ∷ d ∷ xs)) (let f = few-bytes u in omega (arith, f)) (short-content plain xs))))
short-content (after_high h) [] = tt
short-content (after_high h) (s ∷ []) = tt
short-content (after_high h) (s ∷ u ∷ []) = tt
short-content (after_high h) (s ∷ u ∷ a ∷ []) = tt
short-content (after_high h) (s ∷ u ∷ a ∷ b ∷ []) = tt
short-content (after_high h) (s ∷ u ∷ a ∷ b ∷ c ∷ []) = tt
short-content (after_high h) (s ∷ u ∷ a ∷ b ∷ c ∷ d ∷ xs) =
    either (4 * length (s ∷ u ∷ a ∷ b ∷ c ∷ d ∷ xs)) ((s == ascii.backslash) && (u == ascii.lower_u)) _ None
    (where-some (4 * length (s ∷ u ∷ a ∷ b ∷ c ∷ d ∷ xs)) (code_unit a b c d) (λ l. cond (is_low_surrogate l) (prepend (encode_utf8 (surrogate_pair h l)) (content plain xs)) None)
    (λ l. either (4 * length (s ∷ u ∷ a ∷ b ∷ c ∷ d ∷ xs)) (is_low_surrogate l) (prepend (encode_utf8 (surrogate_pair h l)) (content plain xs)) None
    (put-before (encode_utf8 (surrogate_pair h l)) (content plain xs) (4 * length xs) (4 * length (s ∷ u ∷ a ∷ b ∷ c ∷ d ∷ xs)) (let f = few-bytes (surrogate_pair h l) in omega (arith, f)) (short-content plain xs)) tt))
    tt

-- ---- tokens

-- how long the string of a token is
abbrev pub string_size : Token → ℕ
string_size begin_object = 0
string_size end_object = 0
string_size begin_array = 0
string_size end_array = 0
string_size (key s) = 0
string_size (string s) = length s
string_size (number s) = 0
string_size (boolean b) = 0
string_size null = 0
string_size bad = 0

-- no string among the tokens is longer
abbrev pub AllShort : ℕ → List Token → Type 0
AllShort most [] = Unit {0}
AllShort most (t ∷ ts) = (string_size t ≤ most) × AllShort most ts

module _ (most : ℕ) where
  abbrev IsShort : Token → Type 0
  IsShort t = string_size t ≤ most

  test : (b : Bool) (t u : Token) → IsShort t → IsShort u → IsShort (cond b t u)
  test true t u h k = h
  test false t u h k = k

  number-short : (t : List ℕ) (o : Option (List ℕ)) → IsShort (number_before t o)
  number-short t None = omega arith
  number-short t (Some rest) = test (ends_word rest) (number (take (length t - length rest) t)) bad (omega arith) (omega arith)

  literal-short : (name : List ℕ) (t : Token) (text : List ℕ) → IsShort t → IsShort (literal name t text)
  literal-short name t text h = test (starts_with nat_eq text name && ends_word (drop (length name) text)) t bad h (omega arith)

  word-short : (t : List ℕ) → IsShort (word t)
  unfolding word
  word-short t =
      test (head t == ascii.lower_t) (literal ascii.true_text (boolean true) t) _ (literal-short ascii.true_text (boolean true) t (omega arith))
      (test (head t == ascii.lower_f) (literal ascii.false_text (boolean false) t) _ (literal-short ascii.false_text (boolean false) t (omega arith))
      (test (head t == ascii.lower_n) (literal ascii.null_text null t) (number_before t (after_number t)) (literal-short ascii.null_text null t (omega arith)) (number-short t (after_number t))))

  string-short : (n : ℕ) (o : Option (List ℕ)) → n ≤ most → AtMost n o → IsShort (string_token o)
  string-short n None l h = omega arith
  string-short n (Some s) l h = omega (arith, l, h)

  -- ---- lexemes

  abbrev LexemeShort : Lexeme → Type 0
  LexemeShort (token t) = IsShort t
  LexemeShort comma = Unit {0}
  LexemeShort colon = Unit {0}

  -- at most so many, and each is short
  abbrev Lexed : ℕ → List Lexeme → Type 0
  Lexed n [] = Unit {0}
  Lexed zero (l ∷ ls) = ⊥
  Lexed (suc n) (l ∷ ls) = LexemeShort l × Lexed n ls

  lexed-more : (n : ℕ) (ls : List Lexeme) → Lexed n ls → Lexed (suc n) ls
  lexed-more n [] h = tt
  lexed-more zero (l ∷ ls) h = absurd h
  lexed-more (suc n) (l ∷ ls) h = (h.0, lexed-more n ls h.1)

  one-of : (b : Bool) (x y : Lexeme) → LexemeShort x → LexemeShort y → LexemeShort (cond b x y)
  one-of true x y h k = h
  one-of false x y h k = k

  operator-short : (x : ℕ) → LexemeShort (operator_lexeme x)
  operator-short x =
      one-of (x == ascii.open_brace) (token begin_object) _ (omega arith) (one-of (x == ascii.close_brace) (token end_object) _ (omega arith) (one-of (x == ascii.open_bracket) (token begin_array) _ (omega arith)
      (one-of (x == ascii.close_bracket) (token end_array) _ (omega arith) (one-of (x == ascii.comma) comma colon tt tt))))

  byte-lexed : (m : Mode) (c : Class) (x : ℕ) (xs : List ℕ) (n : ℕ) (k : Mode → List Lexeme) → 4 * length xs ≤ most → ((next : Mode) → Lexed n (k next)) → Lexed (suc n) (lex_byte m c x xs k)
  byte-lexed between quote x xs n k l h = (string-short (4 * length xs) (content plain xs) l (short-content plain xs), h in_string)
  byte-lexed between backslash x xs n k l h = (omega arith, h in_word)
  byte-lexed between operator x xs n k l h = (operator-short x, h between)
  byte-lexed between space x xs n k l h = lexed-more n (k between) (h between)
  byte-lexed between other x xs n k l h = (word-short (x ∷ xs), h in_word)
  byte-lexed in_word quote x xs n k l h = lexed-more n (k in_word) (h in_word)
  byte-lexed in_word backslash x xs n k l h = lexed-more n (k in_word) (h in_word)
  byte-lexed in_word operator x xs n k l h = (operator-short x, h between)
  byte-lexed in_word space x xs n k l h = lexed-more n (k between) (h between)
  byte-lexed in_word other x xs n k l h = lexed-more n (k in_word) (h in_word)
  byte-lexed in_string quote x xs n k l h = lexed-more n (k between) (h between)
  byte-lexed in_string backslash x xs n k l h = lexed-more n (k in_escape) (h in_escape)
  byte-lexed in_string operator x xs n k l h = lexed-more n (k in_string) (h in_string)
  byte-lexed in_string space x xs n k l h = lexed-more n (k in_string) (h in_string)
  byte-lexed in_string other x xs n k l h = lexed-more n (k in_string) (h in_string)
  byte-lexed in_escape c x xs n k l h = lexed-more n (k in_string) (h in_string)

  text-lexed : (xs : List ℕ) (m : Mode) → 4 * length xs ≤ most → Lexed (length xs) (lex m xs)
  unfolding lex
  text-lexed [] m l = tt
  text-lexed (x ∷ xs) m l = byte-lexed m (class x) x xs (length xs) (λ next. lex next xs) (omega (arith, l)) (λ next. text-lexed xs next (omega (arith, l)))

  -- ---- commas and colons

  -- at most so many tokens, each short
  abbrev pub Tokens : ℕ → List Token → Type 0
  Tokens n ts = (length ts ≤ n) × AllShort most ts

  one-bad : (n : ℕ) → Tokens (suc n) (bad ∷ [])
  one-bad n = (omega arith, (omega arith, tt))

  allowed : (b : Bool) (t : Token) (n : ℕ) (k : Place → List Token) (next : Place) → IsShort t → Tokens n (k next) → Tokens (suc n) (if_allowed b t k next)
  allowed true t n k next h r = let l = r.0 in (omega (arith, l), (h, r.1))
  allowed false t n k next h r = one-bad n

  placed : (p : Place) (t : Token) (b : Bool) (n : ℕ) (k : Place → List Token) → IsShort t → ((next : Place) → Tokens n (k next)) → Tokens (suc n) (place_token p t b k)
  placed p begin_object b n k h r = allowed (may_begin p) begin_object n k fresh h (r fresh)
  placed p end_object b n k h r = allowed (may_close p) end_object n k after_value h (r after_value)
  placed p begin_array b n k h r = allowed (may_begin p) begin_array n k fresh h (r fresh)
  placed p end_array b n k h r = allowed (may_close p) end_array n k after_value h (r after_value)
  placed p (key s) b n k h r = one-bad n
  placed p (string s) true n k h r = allowed (may_begin p) (key s) n k after_key (omega arith) (r after_key)
  placed p (string s) false n k h r = allowed (may_begin p) (string s) n k after_value h (r after_value)
  placed p (number s) b n k h r = allowed (may_begin p) (number s) n k after_value h (r after_value)
  placed p (boolean v) b n k h r = allowed (may_begin p) (boolean v) n k after_value h (r after_value)
  placed p null b n k h r = allowed (may_begin p) null n k after_value h (r after_value)
  placed p bad b n k h r = one-bad n

  tokens-more : (n : ℕ) (ts : List Token) → Tokens n ts → Tokens (suc n) ts
  tokens-more n ts h = let l = h.0 in (omega (arith, l), h.1)

  no-token : (n : ℕ) → Tokens n []
  no-token n = (omega arith, tt)

  punctuated : (p : Place) (ls : List Lexeme) (n : ℕ) → Lexed n ls → Tokens (suc n) (punctuate p ls)
  unfolding punctuate
  punctuated fresh [] n h = no-token (suc n)
  punctuated after_value [] n h = no-token (suc n)
  punctuated after_comma [] n h = one-bad n
  punctuated after_key [] n h = one-bad n
  punctuated fresh (l ∷ ls) zero h = absurd h
  punctuated after_value (l ∷ ls) zero h = absurd h
  punctuated after_comma (l ∷ ls) zero h = absurd h
  punctuated after_key (l ∷ ls) zero h = absurd h
  punctuated fresh (token t ∷ ls) (suc n) h = placed fresh t (begins_colon ls) (suc n) (λ next. punctuate next ls) h.0 (λ next. punctuated next ls n h.1)
  punctuated after_value (token t ∷ ls) (suc n) h = placed after_value t (begins_colon ls) (suc n) (λ next. punctuate next ls) h.0 (λ next. punctuated next ls n h.1)
  punctuated after_comma (token t ∷ ls) (suc n) h = placed after_comma t (begins_colon ls) (suc n) (λ next. punctuate next ls) h.0 (λ next. punctuated next ls n h.1)
  punctuated after_key (token t ∷ ls) (suc n) h = placed after_key t (begins_colon ls) (suc n) (λ next. punctuate next ls) h.0 (λ next. punctuated next ls n h.1)
  punctuated fresh (comma ∷ ls) (suc n) h = one-bad (suc n)
  punctuated after_value (comma ∷ ls) (suc n) h = tokens-more (suc n) (punctuate after_comma ls) (punctuated after_comma ls n h.1)
  punctuated after_comma (comma ∷ ls) (suc n) h = one-bad (suc n)
  punctuated after_key (comma ∷ ls) (suc n) h = one-bad (suc n)
  punctuated fresh (colon ∷ ls) (suc n) h = one-bad (suc n)
  punctuated after_value (colon ∷ ls) (suc n) h = one-bad (suc n)
  punctuated after_comma (colon ∷ ls) (suc n) h = one-bad (suc n)
  punctuated after_key (colon ∷ ls) (suc n) h = tokens-more (suc n) (punctuate fresh ls) (punctuated fresh ls n h.1)

  pub text-tokens : (text : List ℕ) → 4 * length text ≤ most → Tokens (suc (length text)) (tokens text)
  text-tokens text l = punctuated fresh (lex between text) (length text) (text-lexed text between l)
