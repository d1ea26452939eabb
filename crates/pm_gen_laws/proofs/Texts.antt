-- The line of a turn is the text of a JSON value, and is read as that.
use Rattle.std.proofs.Common.{◌≡◌, ℕ, ◌^◌, ◌<◌, ◌≤◌, Bool, true, false, List, [], ◌∷◌, ◌++◌, length, Some, Ok, codes, decimal, refl, sym, ap, ◌∙◌, arith, append_assoc, lt-ltb, le-leb}
use Rattle.json.specs.Print.{escape, escape_byte}
use Rattle.json.specs.Tree.{depth, HasNumbers}
use Rattle.json.proofs.Printed.Decimals.{IsNumber-decimal}
use Rattle.json.proofs.Printed.Strings.{escape_byte_plain}
use Rattle.serde_json.specs.Data.{Data, number, unsigned, string, boolean, object, Members, no_members, member}
use Rattle.serde_json.specs.Read.{read, max_depth, of_json, number_of}
use Rattle.serde_json.specs.Written.{outline, compact_text}
use Rattle.serde_json.proofs.Numbers.{number_of-decimal}
use Rattle.pm_head.specs.Lines.{json_line}
use Rattle.pm_gen.specs.Lines as text
use Rattle.pm_gen.specs.Lines.{joined, mark_name}
use Rattle.pm_gen.proofs.TurnLines.{Kind, Text, Delete, Split, AddMark, Undo, Redo, Push, Pull, kind_line, IsSmall}
use Rattle.pm_gen_laws.proofs.Pieces.{all_shown, IsPiece, ArePieces, shown-joined, short-joined, decimal-piece, decimal-plain}
use Rattle.pm_gen_laws.proofs.Readable.{read-written, line-reads}

-- ---- the value

abbrev pub of_client : List ℕ → Members → Data
of_client n ms = object (member (codes "c") (string (codes "c" ++ n)) ms)

abbrev bare : List ℕ → Members
bare op = member (codes "op") (string op) no_members

abbrev text_members : ℕ → List ℕ → Members
text_members at s = member (codes "from") (number (unsigned at)) (member (codes "op") (string (codes "text")) (member (codes "text") (string s) (member (codes "to") (number (unsigned at)) no_members)))

abbrev delete_members : ℕ → ℕ → Members
delete_members from to = member (codes "from") (number (unsigned from)) (member (codes "op") (string (codes "delete")) (member (codes "to") (number (unsigned to)) no_members))

abbrev split_members : ℕ → Members
split_members at = member (codes "op") (string (codes "split")) (member (codes "pos") (number (unsigned at)) no_members)

abbrev mark_members : ℕ → ℕ → List ℕ → Members
mark_members from to name =
    member (codes "from") (number (unsigned from)) (member (codes "mark") (object (member (codes "type") (string name) no_members)) (member (codes "op") (string (codes "addmark")) (member (codes "to") (number (unsigned to)) no_members)))

abbrev lost_members : Members
lost_members = member (codes "lost") (boolean true) (member (codes "op") (string (codes "push")) no_members)

abbrev pub members_of : Kind → Members
members_of (Text at letter) = text_members at (letter ∷ [])
members_of (Delete from to) = delete_members from to
members_of (Split at) = split_members at
members_of (AddMark from to strong) = mark_members from to (mark_name strong)
members_of Undo = bare (codes "undo")
members_of Redo = bare (codes "redo")
members_of (Push true) = lost_members
members_of (Push false) = bare (codes "push")
members_of Pull = bare (codes "pull")

abbrev pub data_of : ℕ → Kind → Data
data_of c t = of_client (decimal c) (members_of t)

-- ---- the text without its LF, in pieces

abbrev bare_pieces : List ℕ → List (List ℕ)
bare_pieces op = text.member (codes "op") (text.word op)

abbrev text_pieces : ℕ → List ℕ → List (List ℕ)
text_pieces at s = text.member (codes "from") (text.number at) ++ text.member (codes "op") (text.word (codes "text")) ++ text.member (codes "text") (text.word s) ++ text.member (codes "to") (text.number at)

abbrev delete_pieces : ℕ → ℕ → List (List ℕ)
delete_pieces from to = text.member (codes "from") (text.number from) ++ text.member (codes "op") (text.word (codes "delete")) ++ text.member (codes "to") (text.number to)

abbrev split_pieces : ℕ → List (List ℕ)
split_pieces at = text.member (codes "op") (text.word (codes "split")) ++ text.member (codes "pos") (text.number at)

abbrev mark_pieces : ℕ → ℕ → List ℕ → List (List ℕ)
mark_pieces from to name =
    text.member (codes "from") (text.number from) ++ text.member (codes "mark") (codes "{\"type\":" ∷ (text.word name ++ codes "}" ∷ [])) ++ text.member (codes "op") (text.word (codes "addmark")) ++ text.member (codes "to") (text.number to)

abbrev lost_pieces : List (List ℕ)
lost_pieces = text.member (codes "lost") (codes "true" ∷ []) ++ text.member (codes "op") (text.word (codes "push"))

abbrev pub pieces_of : Kind → List (List ℕ)
pieces_of (Text at letter) = text_pieces at (letter ∷ [])
pieces_of (Delete from to) = delete_pieces from to
pieces_of (Split at) = split_pieces at
pieces_of (AddMark from to strong) = mark_pieces from to (mark_name strong)
pieces_of Undo = bare_pieces (codes "undo")
pieces_of Redo = bare_pieces (codes "redo")
pieces_of (Push true) = lost_pieces
pieces_of (Push false) = bare_pieces (codes "push")
pieces_of Pull = bare_pieces (codes "pull")

abbrev front : List ℕ → List (List ℕ) → List (List ℕ)
front n ps = codes "{\"c\":" ∷ codes "\"" ∷ codes "c" ∷ n ∷ codes "\"" ∷ ps

abbrev pub line_pieces : ℕ → Kind → List (List ℕ)
line_pieces c t = front (decimal c) (pieces_of t ++ codes "}" ∷ [])

abbrev pub body : ℕ → Kind → List ℕ
body c t = joined (line_pieces c t)

line-end : (ps : List (List ℕ)) → joined (ps ++ codes "}\n" ∷ []) ≡ joined (ps ++ codes "}" ∷ []) ++ 10 ∷ []
line-end [] = refl
line-end (p ∷ ps) = ap (λ z. p ++ z) (line-end ps) ∙ sym (append_assoc p (joined (ps ++ codes "}" ∷ [])) (10 ∷ []))

pub line-is : (c : ℕ) (t : Kind) → kind_line c t ≡ body c t ++ 10 ∷ []
line-is c (Text at letter) = line-end (front (decimal c) (text_pieces at (letter ∷ [])))
line-is c (Delete from to) = line-end (front (decimal c) (delete_pieces from to))
line-is c (Split at) = line-end (front (decimal c) (split_pieces at))
line-is c (AddMark from to strong) = line-end (front (decimal c) (mark_pieces from to (mark_name strong)))
line-is c Undo = line-end (front (decimal c) (bare_pieces (codes "undo")))
line-is c Redo = line-end (front (decimal c) (bare_pieces (codes "redo")))
line-is c (Push true) = line-end (front (decimal c) lost_pieces)
line-is c (Push false) = line-end (front (decimal c) (bare_pieces (codes "push")))
line-is c Pull = line-end (front (decimal c) (bare_pieces (codes "pull")))

-- ---- the pieces are short, and shown

letter-piece : (letter : ℕ) → 97 ≤ letter → letter < 123 → IsPiece (letter ∷ [])
letter-piece letter low high = (rw (le-leb 32 letter (omega arith), lt-ltb letter 127 (omega arith)) refl, refl)

pieces-hold : (c : ℕ) (t : Kind) → c < 64 → IsSmall t → ArePieces (line_pieces c t)
pieces-hold c (Text at letter) h s = ((refl, refl), ((refl, refl), ((refl, refl), (decimal-piece c h, ((refl, refl), ((refl, refl), ((refl, refl), ((refl, refl), ((refl, refl), ((refl, refl), (decimal-piece at s.0, ((refl, refl), ((refl, refl), ((refl, refl), ((refl, refl), ((refl, refl), ((refl, refl), ((refl, refl), ((refl, refl), ((refl, refl), ((refl, refl), ((refl, refl), ((refl, refl), ((refl, refl), ((refl, refl), (letter-piece letter s.1 s.2, ((refl, refl), ((refl, refl), ((refl, refl), ((refl, refl), ((refl, refl), ((refl, refl), (decimal-piece at s.0, ((refl, refl), tt))))))))))))))))))))))))))))))))))
pieces-hold c (Delete from to) h s = ((refl, refl), ((refl, refl), ((refl, refl), (decimal-piece c h, ((refl, refl), ((refl, refl), ((refl, refl), ((refl, refl), ((refl, refl), ((refl, refl), (decimal-piece from s.0, ((refl, refl), ((refl, refl), ((refl, refl), ((refl, refl), ((refl, refl), ((refl, refl), ((refl, refl), ((refl, refl), ((refl, refl), ((refl, refl), ((refl, refl), ((refl, refl), ((refl, refl), (decimal-piece to s.1, ((refl, refl), tt))))))))))))))))))))))))))
pieces-hold c (Split at) h s = ((refl, refl), ((refl, refl), ((refl, refl), (decimal-piece c h, ((refl, refl), ((refl, refl), ((refl, refl), ((refl, refl), ((refl, refl), ((refl, refl), ((refl, refl), ((refl, refl), ((refl, refl), ((refl, refl), ((refl, refl), ((refl, refl), ((refl, refl), ((refl, refl), (decimal-piece at s, ((refl, refl), tt))))))))))))))))))))
pieces-hold c (AddMark from to true) h s = ((refl, refl), ((refl, refl), ((refl, refl), (decimal-piece c h, ((refl, refl), ((refl, refl), ((refl, refl), ((refl, refl), ((refl, refl), ((refl, refl), (decimal-piece from s.0, ((refl, refl), ((refl, refl), ((refl, refl), ((refl, refl), ((refl, refl), ((refl, refl), ((refl, refl), ((refl, refl), ((refl, refl), ((refl, refl), ((refl, refl), ((refl, refl), ((refl, refl), ((refl, refl), ((refl, refl), ((refl, refl), ((refl, refl), ((refl, refl), ((refl, refl), ((refl, refl), ((refl, refl), ((refl, refl), ((refl, refl), (decimal-piece to s.1, ((refl, refl), tt))))))))))))))))))))))))))))))))))))
pieces-hold c (AddMark from to false) h s = ((refl, refl), ((refl, refl), ((refl, refl), (decimal-piece c h, ((refl, refl), ((refl, refl), ((refl, refl), ((refl, refl), ((refl, refl), ((refl, refl), (decimal-piece from s.0, ((refl, refl), ((refl, refl), ((refl, refl), ((refl, refl), ((refl, refl), ((refl, refl), ((refl, refl), ((refl, refl), ((refl, refl), ((refl, refl), ((refl, refl), ((refl, refl), ((refl, refl), ((refl, refl), ((refl, refl), ((refl, refl), ((refl, refl), ((refl, refl), ((refl, refl), ((refl, refl), ((refl, refl), ((refl, refl), ((refl, refl), (decimal-piece to s.1, ((refl, refl), tt))))))))))))))))))))))))))))))))))))
pieces-hold c Undo h s = ((refl, refl), ((refl, refl), ((refl, refl), (decimal-piece c h, ((refl, refl), ((refl, refl), ((refl, refl), ((refl, refl), ((refl, refl), ((refl, refl), ((refl, refl), ((refl, refl), ((refl, refl), ((refl, refl), tt))))))))))))))
pieces-hold c Redo h s = ((refl, refl), ((refl, refl), ((refl, refl), (decimal-piece c h, ((refl, refl), ((refl, refl), ((refl, refl), ((refl, refl), ((refl, refl), ((refl, refl), ((refl, refl), ((refl, refl), ((refl, refl), ((refl, refl), tt))))))))))))))
pieces-hold c (Push true) h s = ((refl, refl), ((refl, refl), ((refl, refl), (decimal-piece c h, ((refl, refl), ((refl, refl), ((refl, refl), ((refl, refl), ((refl, refl), ((refl, refl), ((refl, refl), ((refl, refl), ((refl, refl), ((refl, refl), ((refl, refl), ((refl, refl), ((refl, refl), ((refl, refl), ((refl, refl), ((refl, refl), tt))))))))))))))))))))
pieces-hold c (Push false) h s = ((refl, refl), ((refl, refl), ((refl, refl), (decimal-piece c h, ((refl, refl), ((refl, refl), ((refl, refl), ((refl, refl), ((refl, refl), ((refl, refl), ((refl, refl), ((refl, refl), ((refl, refl), ((refl, refl), tt))))))))))))))
pieces-hold c Pull h s = ((refl, refl), ((refl, refl), ((refl, refl), (decimal-piece c h, ((refl, refl), ((refl, refl), ((refl, refl), ((refl, refl), ((refl, refl), ((refl, refl), ((refl, refl), ((refl, refl), ((refl, refl), ((refl, refl), tt))))))))))))))

few-pieces : (c : ℕ) (t : Kind) → length (line_pieces c t) ≤ 40
few-pieces c (Text at letter) = omega arith
few-pieces c (Delete from to) = omega arith
few-pieces c (Split at) = omega arith
few-pieces c (AddMark from to strong) = omega arith
few-pieces c Undo = omega arith
few-pieces c Redo = omega arith
few-pieces c (Push true) = omega arith
few-pieces c (Push false) = omega arith
few-pieces c Pull = omega arith

pub body-shown : (c : ℕ) (t : Kind) → c < 64 → IsSmall t → all_shown (body c t) ≡ true
body-shown c t h s = shown-joined (line_pieces c t) (pieces-hold c t h s)

pub body-short : (c : ℕ) (t : Kind) → c < 64 → IsSmall t → length (body c t) ≤ 320
body-short c t h s = omega (arith, short-joined (line_pieces c t) (pieces-hold c t h s), few-pieces c t)

-- ---- the text is that of the value, which is read back

record IsSaid (d : Data) (line : List ℕ) : Type 0 where
  numbers : HasNumbers (outline d)
  shallow : depth (outline d) ≤ max_depth
  back : of_json (outline d) ≡ Some d
  says : compact_text d ≡ line

said-read : (d : Data) (line : List ℕ) → IsSaid d line → read line ≡ Some d
said-read d line i = ap read (sym i.says) ∙ read-written d i.numbers i.shallow i.back

small : (n : ℕ) → n < 64 → n < 2 ^ 64
small n h = omega arith

number-is : (n : ℕ) → n < 64 → number_of (decimal n) ≡ Some (unsigned n)
number-is n h = number_of-decimal n (small n h)

bare-said : (n op : List ℕ) → escape n ≡ n → escape op ≡ op → IsSaid (of_client n (bare op)) (joined (front n (bare_pieces op ++ codes "}" ∷ [])))
unfolding escape_byte
bare-said n op en eo = record { numbers = (tt, (tt, tt)); shallow = omega arith; back = refl; says = simp (append_assoc, en, eo) (ap (λ z. 123 ∷ 34 ∷ 99 ∷ 34 ∷ 58 ∷ 34 ∷ 99 ∷ z) (append_assoc n (34 ∷ []) _)) }

text-said : (n s : List ℕ) (at : ℕ) → at < 64 → escape n ≡ n → escape s ≡ s → IsSaid (of_client n (text_members at s)) (joined (front n (text_pieces at s ++ codes "}" ∷ [])))
unfolding escape_byte
text-said n s at h en es =
    record {
      numbers = (tt, (IsNumber-decimal at (small at h), (tt, (tt, (IsNumber-decimal at (small at h), tt)))));
      shallow = omega arith;
      back = rw (number-is at h) refl;
      says = simp (append_assoc, en, es) (ap (λ z. 123 ∷ 34 ∷ 99 ∷ 34 ∷ 58 ∷ 34 ∷ 99 ∷ z) (append_assoc n (34 ∷ []) _));
    }

delete-said : (n : List ℕ) (from to : ℕ) → from < 64 → to < 64 → escape n ≡ n → IsSaid (of_client n (delete_members from to)) (joined (front n (delete_pieces from to ++ codes "}" ∷ [])))
unfolding escape_byte
delete-said n from to f t en =
    record {
      numbers = (tt, (IsNumber-decimal from (small from f), (tt, (IsNumber-decimal to (small to t), tt))));
      shallow = omega arith;
      back = rw (number-is from f, number-is to t) refl;
      says = simp (append_assoc, en) (ap (λ z. 123 ∷ 34 ∷ 99 ∷ 34 ∷ 58 ∷ 34 ∷ 99 ∷ z) (append_assoc n (34 ∷ []) _));
    }

split-said : (n : List ℕ) (at : ℕ) → at < 64 → escape n ≡ n → IsSaid (of_client n (split_members at)) (joined (front n (split_pieces at ++ codes "}" ∷ [])))
unfolding escape_byte
split-said n at h en =
    record {
      numbers = (tt, (tt, (IsNumber-decimal at (small at h), tt)));
      shallow = omega arith;
      back = rw (number-is at h) refl;
      says = simp (append_assoc, en) (ap (λ z. 123 ∷ 34 ∷ 99 ∷ 34 ∷ 58 ∷ 34 ∷ 99 ∷ z) (append_assoc n (34 ∷ []) _));
    }

mark-said : (n name : List ℕ) (from to : ℕ) → from < 64 → to < 64 → escape n ≡ n → escape name ≡ name → IsSaid (of_client n (mark_members from to name)) (joined (front n (mark_pieces from to name ++ codes "}" ∷ [])))
unfolding escape_byte
mark-said n name from to f t en em =
    record {
      numbers = (tt, (IsNumber-decimal from (small from f), ((tt, tt), (tt, (IsNumber-decimal to (small to t), tt)))));
      shallow = omega arith;
      back = rw (number-is from f, number-is to t) refl;
      says = simp (append_assoc, en, em) (ap (λ z. 123 ∷ 34 ∷ 99 ∷ 34 ∷ 58 ∷ 34 ∷ 99 ∷ z) (append_assoc n (34 ∷ []) _));
    }

lost-said : (n : List ℕ) → escape n ≡ n → IsSaid (of_client n lost_members) (joined (front n (lost_pieces ++ codes "}" ∷ [])))
unfolding escape_byte
lost-said n en = record { numbers = (tt, (tt, (tt, tt))); shallow = omega arith; back = refl; says = simp (append_assoc, en) (ap (λ z. 123 ∷ 34 ∷ 99 ∷ 34 ∷ 58 ∷ 34 ∷ 99 ∷ z) (append_assoc n (34 ∷ []) _)) }

letter-plain : (letter : ℕ) → 97 ≤ letter → letter < 123 → escape (letter ∷ []) ≡ letter ∷ []
letter-plain letter low high =
    ap (λ z. z ++ []) (escape_byte_plain letter (λ e. absurd (omega arith)) (λ e. absurd (omega arith)) (omega arith))

word-plain : escape (codes "undo") ≡ codes "undo"
unfolding escape_byte
word-plain = refl

redo-plain : escape (codes "redo") ≡ codes "redo"
unfolding escape_byte
redo-plain = refl

push-plain : escape (codes "push") ≡ codes "push"
unfolding escape_byte
push-plain = refl

pull-plain : escape (codes "pull") ≡ codes "pull"
unfolding escape_byte
pull-plain = refl

mark-plain : (strong : Bool) → escape (mark_name strong) ≡ mark_name strong
unfolding escape_byte
mark-plain true = refl
mark-plain false = refl

body-said : (c : ℕ) (t : Kind) → c < 64 → IsSmall t → IsSaid (data_of c t) (body c t)
body-said c (Text at letter) h s = text-said (decimal c) (letter ∷ []) at s.0 (decimal-plain c h) (letter-plain letter s.1 s.2)
body-said c (Delete from to) h s = delete-said (decimal c) from to s.0 s.1 (decimal-plain c h)
body-said c (Split at) h s = split-said (decimal c) at s (decimal-plain c h)
body-said c (AddMark from to strong) h s = mark-said (decimal c) (mark_name strong) from to s.0 s.1 (decimal-plain c h) (mark-plain strong)
body-said c Undo h s = bare-said (decimal c) (codes "undo") (decimal-plain c h) word-plain
body-said c Redo h s = bare-said (decimal c) (codes "redo") (decimal-plain c h) redo-plain
body-said c (Push true) h s = lost-said (decimal c) (decimal-plain c h)
body-said c (Push false) h s = bare-said (decimal c) (codes "push") (decimal-plain c h) push-plain
body-said c Pull h s = bare-said (decimal c) (codes "pull") (decimal-plain c h) pull-plain

pub body-reads : (c : ℕ) (t : Kind) → c < 64 → IsSmall t → json_line (body c t) ≡ Ok (data_of c t)
body-reads c t h s = line-reads (body c t) (data_of c t) (body-shown c t h s) (omega (arith, body-short c t h s)) (said-read (data_of c t) (body c t) (body-said c t h s))
