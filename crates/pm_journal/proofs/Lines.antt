-- What files of lines stand for.
use Rattle.std.proofs.Common.{◌≡◌, ◌≢◌, inl, inr, ℕ, ◌+◌, List, [], ◌∷◌, ◌++◌, length, refl, sym, ◌∙◌, ap, subst, arith, append_assoc, length-append}
use Rattle.std.specs.Prelude.{Some}
use Rattle.std.specs.List.{AllByRecursion}
use Rattle.std.proofs.lemmas.List.{append-nil}
use Rattle.std.proofs.lemmas.Bool.{cases_eq}
use Rattle.std.proofs.lemmas.Bool.Decides.{nat_tests}
use Rattle.pm_journal.specs.Lines.{lines_from, recorded, records, IsLine, IsAtRest, HasClosedGate, IsBeforeOrAfter, lines_of, HoldsLines}

-- a line, of which there is a part already, up to its LF
pub line_read : (line so_far rest : List ℕ) → IsLine line → lines_from (line ++ 10 ∷ rest) (Some so_far) ≡ (so_far ++ line) ∷ recorded rest
line_read [] so_far rest is = ap (λ (l : List ℕ). l ∷ recorded rest) (sym (append-nil so_far))
line_read (b ∷ line) so_far rest is =
    let one : lines_from (b ∷ (line ++ 10 ∷ rest)) (Some so_far) ≡ lines_from (line ++ 10 ∷ rest) (Some (so_far ++ b ∷ [])) = not_end b so_far (line ++ 10 ∷ rest) is.0 in
    one ∙ line_read line (so_far ++ b ∷ []) rest is.1 ∙ ap (λ (l : List ℕ). l ∷ recorded rest) (append_assoc so_far (b ∷ []) line)
  where
    not_end : (b : ℕ) (so_far rest : List ℕ) → b ≢ 10 → lines_from (b ∷ rest) (Some so_far) ≡ lines_from rest (Some (so_far ++ b ∷ []))
    not_end b so_far rest other = grind (arith, nat_tests)

-- whole lines, and then whatever the rest stands for
pub recorded_records : (lines : List (List ℕ)) (rest : List ℕ) → AllByRecursion IsLine lines → recorded (records lines ++ rest) ≡ lines ++ recorded rest
recorded_records [] rest are = refl
recorded_records (line ∷ lines) rest are =
    ap (λ (f : List ℕ). lines_from f (Some [])) (append_assoc line (10 ∷ records lines) rest)
    ∙ line_read line [] (records lines ++ rest) are.0
    ∙ ap (λ (ls : List (List ℕ)). line ∷ ls) (recorded_records lines rest are.1)

pub closed_gate : (gate : ℕ) (rest : List ℕ) → gate ≢ 32 → recorded (gate ∷ rest) ≡ []
closed_gate gate rest shut = grind (arith, nat_tests)

pub open_gate : (gate : ℕ) (rest : List ℕ) → gate ≡ 32 → recorded (gate ∷ rest) ≡ lines_from rest (Some [])
open_gate gate rest is = grind (arith, nat_tests)

-- a closed gate ends them
pub recorded_closed : (lines : List (List ℕ)) (gate : ℕ) (rest : List ℕ) → AllByRecursion IsLine lines → gate ≢ 32 → recorded (records lines ++ gate ∷ rest) ≡ lines
recorded_closed lines gate rest are shut =
    recorded_records lines (gate ∷ rest) are ∙ ap (λ (ls : List (List ℕ)). lines ++ ls) (closed_gate gate rest shut) ∙ append-nil lines

pub at_rest_recorded : (lines : List (List ℕ)) (file : List ℕ) → IsAtRest lines file → recorded file ≡ lines
at_rest_recorded lines file is = ap recorded is.whole ∙ recorded_closed lines is.gate is.rest is.are_lines is.closed

pub records_push : (lines : List (List ℕ)) (line rest : List ℕ) → records (lines ++ line ∷ []) ++ rest ≡ records lines ++ 32 ∷ (line ++ 10 ∷ rest)
records_push [] line rest = ap (λ (l : List ℕ). 32 ∷ l) (append_assoc line (10 ∷ []) rest)
records_push (l ∷ lines) line rest =
    ap (λ (f : List ℕ). 32 ∷ f) (append_assoc l (10 ∷ records (lines ++ line ∷ [])) rest ∙ ap (λ (f : List ℕ). l ++ 10 ∷ f) (records_push lines line rest) ∙ sym (append_assoc l (10 ∷ records lines) (32 ∷ (line ++ 10 ∷ rest))))

pub all_push : (lines : List (List ℕ)) (line : List ℕ) → AllByRecursion IsLine lines → IsLine line → AllByRecursion IsLine (lines ++ line ∷ [])
all_push [] line are is = (is, tt)
all_push (l ∷ lines) line are is = (are.0, all_push lines line are.1 is)

pub records_append : (a b : List (List ℕ)) → records (a ++ b) ≡ records a ++ records b
records_append [] b = refl
records_append (line ∷ a) b =
    ap (λ (f : List ℕ). 32 ∷ f) (ap (λ (f : List ℕ). line ++ 10 ∷ f) (records_append a b) ∙ sym (append_assoc line (10 ∷ records a) (records b)))

pub all_append : (a b : List (List ℕ)) → AllByRecursion IsLine a → AllByRecursion IsLine b → AllByRecursion IsLine (a ++ b)
all_append [] b are bs = bs
all_append (line ∷ a) b are bs = (are.0, all_append a b are.1 bs)

-- a text behind an open gate, and a closed one behind it
text_whole : (text rest : List ℕ) → HoldsLines text → 32 ∷ (text ++ 10 ∷ 10 ∷ rest) ≡ records (lines_of text) ++ 10 ∷ rest
text_whole text rest holds =
    sym (ap (λ (f : List ℕ). f ++ 10 ∷ rest) holds.whole ∙ ap (λ (f : List ℕ). 32 ∷ f) (append_assoc text (10 ∷ []) (10 ∷ rest)))

text_read : (gate : ℕ) (text rest : List ℕ) → gate ≡ 32 → HoldsLines text → recorded (gate ∷ (text ++ 10 ∷ 10 ∷ rest)) ≡ lines_of text
text_read gate text rest is holds =
    ap (λ (g : ℕ). recorded (g ∷ (text ++ 10 ∷ 10 ∷ rest))) is ∙ ap recorded (text_whole text rest holds)
    ∙ recorded_closed (lines_of text) 10 rest holds.are_lines (omega arith)

-- a whole text behind any gate, and a closed gate behind it: it counts or it doesn't
pub recorded_gate : (lines : List (List ℕ)) (gate : ℕ) (text rest : List ℕ) → AllByRecursion IsLine lines → HoldsLines text
    → IsBeforeOrAfter lines (lines_of text) (records lines ++ gate ∷ (text ++ 10 ∷ 10 ∷ rest))
recorded_gate lines gate text rest are holds = elim (cases_eq gate 32) [
  | inl opened ↦ inr (recorded_records lines (gate ∷ (text ++ 10 ∷ 10 ∷ rest)) are ∙ ap (λ (ls : List (List ℕ)). lines ++ ls) (text_read gate text rest opened holds))
  | inr shut ↦ inl (recorded_closed lines gate (text ++ 10 ∷ 10 ∷ rest) are shut)
]

pub records_more : (lines : List (List ℕ)) (text rest : List ℕ) → HoldsLines text
    → records (lines ++ lines_of text) ++ 10 ∷ rest ≡ records lines ++ 32 ∷ (text ++ 10 ∷ 10 ∷ rest)
records_more lines text rest holds =
    ap (λ (f : List ℕ). f ++ 10 ∷ rest) (records_append lines (lines_of text)) ∙ append_assoc (records lines) (records (lines_of text)) (10 ∷ rest)
    ∙ ap (λ (f : List ℕ). records lines ++ f) (sym (text_whole text rest holds))

pub length-records_more : (lines : List (List ℕ)) (text : List ℕ) → HoldsLines text
    → length (records (lines ++ lines_of text)) ≡ length (records lines) + 1 + length text + 1
length-records_more lines text holds =
    let a = length-append (records lines) (records (lines_of text)) in
    let b = ap length holds.whole in
    let d = ap length (records_append lines (lines_of text)) in
    omega (arith, a, b, d, length-append text (10 ∷ []))

-- a line is a text of itself
pub lines_of_line : (line : List ℕ) → IsLine line → lines_of line ≡ line ∷ []
lines_of_line line is = line_read line [] [] is

pub holds_line : (line : List ℕ) → IsLine line → HoldsLines line
holds_line line is = record {
  are_lines = subst (AllByRecursion IsLine) (sym (lines_of_line line is)) (is, tt);
  whole = ap records (lines_of_line line is);
}

-- a file of lines alone
recorded_whole : (lines : List (List ℕ)) → AllByRecursion IsLine lines → recorded (records lines) ≡ lines
recorded_whole lines are = ap recorded (sym (append-nil (records lines))) ∙ recorded_records lines [] are ∙ append-nil lines

-- a text, and one line more
text_more : (text line : List ℕ) → HoldsLines text → 32 ∷ (((text ++ 10 ∷ 32 ∷ []) ++ line) ++ 10 ∷ []) ≡ records (lines_of text ++ line ∷ [])
text_more text line holds =
    let a : ((text ++ 10 ∷ 32 ∷ []) ++ line) ++ 10 ∷ [] ≡ text ++ 10 ∷ 32 ∷ (line ++ 10 ∷ []) =
    append_assoc (text ++ 10 ∷ 32 ∷ []) line (10 ∷ []) ∙ append_assoc text (10 ∷ 32 ∷ []) (line ++ 10 ∷ []) in
    let b : records (lines_of text ++ line ∷ []) ≡ 32 ∷ (text ++ 10 ∷ 32 ∷ (line ++ 10 ∷ [])) =
    records_append (lines_of text) (line ∷ []) ∙ ap (λ (f : List ℕ). f ++ 32 ∷ (line ++ 10 ∷ [])) holds.whole
    ∙ ap (λ (f : List ℕ). 32 ∷ f) (append_assoc text (10 ∷ []) (32 ∷ (line ++ 10 ∷ []))) in
    ap (λ (f : List ℕ). 32 ∷ f) a ∙ sym b

pub lines_of_more : (text line : List ℕ) → HoldsLines text → IsLine line → lines_of ((text ++ 10 ∷ 32 ∷ []) ++ line) ≡ lines_of text ++ line ∷ []
lines_of_more text line holds is = ap recorded (text_more text line holds) ∙ recorded_whole (lines_of text ++ line ∷ []) (all_push (lines_of text) line holds.are_lines is)

pub holds_more : (text line : List ℕ) → HoldsLines text → IsLine line → HoldsLines ((text ++ 10 ∷ 32 ∷ []) ++ line)
holds_more text line holds is = record {
  are_lines = subst (AllByRecursion IsLine) (sym (lines_of_more text line holds is)) (all_push (lines_of text) line holds.are_lines is);
  whole = ap records (lines_of_more text line holds is) ∙ sym (text_more text line holds);
}

-- a text has a line
pub some_lines : (old : List (List ℕ)) (text : List ℕ) → HoldsLines text → old ++ lines_of text ≢ []
some_lines [] text holds none = let e : [] ≡ 32 ∷ (text ++ 10 ∷ []) = ap records (sym none) ∙ holds.whole in omega (arith, ap length e)
some_lines (line ∷ old) text holds none = omega (arith, ap length none)

-- a line with no end is none
pub no_end : (bytes so_far : List ℕ) → IsLine bytes → lines_from bytes (Some so_far) ≡ []
no_end [] so_far is = refl
no_end (b ∷ bytes) so_far is = goes_on b so_far bytes is.0 ∙ no_end bytes (so_far ++ b ∷ []) is.1
  where
    goes_on : (b : ℕ) (so_far rest : List ℕ) → b ≢ 10 → lines_from (b ∷ rest) (Some so_far) ≡ lines_from rest (Some (so_far ++ b ∷ []))
    goes_on b so_far rest other = grind (arith, nat_tests)

same_rest : (front a b : List ℕ) → front ++ a ≡ front ++ b → a ≡ b
same_rest [] a b e = e
same_rest (x ∷ front) a b e = same_rest front a b (let t : front ++ a ≡ front ++ b = cc in t)

-- a file with neither one more line nor a closed gate behind its lines
pub not_at_rest : (lines : List (List ℕ)) (rest : List ℕ) → AllByRecursion IsLine lines → recorded rest ≡ [] → ¬ HasClosedGate rest → (others : List (List ℕ)) → ¬ IsAtRest others (records lines ++ rest)
not_at_rest lines rest are none shut others is =
    let same : others ≡ lines =
    sym (at_rest_recorded others (records lines ++ rest) is) ∙ recorded_records lines rest are ∙ ap (λ (ls : List (List ℕ)). lines ++ ls) none ∙ append-nil lines in
    let gate : rest ≡ is.gate ∷ is.rest = same_rest (records lines) rest (is.gate ∷ is.rest) (is.whole ∙ ap (λ (ls : List (List ℕ)). records ls ++ is.gate ∷ is.rest) same) in
    shut (subst HasClosedGate (sym gate) is.closed)

-- a file with no line has none
pub none_at_rest : (rest : List ℕ) → recorded rest ≡ [] → (others : List (List ℕ)) → others ≢ [] → ¬ IsAtRest others rest
none_at_rest rest none others some is = some (sym (at_rest_recorded others rest is) ∙ none)

-- bytes with an LF are no line
pub no_line : (bytes front rest : List ℕ) → bytes ≡ front ++ 10 ∷ rest → ¬ IsLine bytes
no_line bytes front rest whole is = has_end front (subst IsLine whole is)
  where
    has_end : (front : List ℕ) → ¬ IsLine (front ++ 10 ∷ rest)
    has_end [] is = is.0 refl
    has_end (b ∷ front) is = has_end front is.1
