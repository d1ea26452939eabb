-- What a write leaves, and what a crash leaves in each step of `append`.
use Rattle.std.proofs.Common.{◌≡◌, inl, inr, ℕ, Bool, IsTrue, ◌+◌, ◌<◌, ◌≤◌, List, [], ◌∷◌, ◌++◌, length, get_or, take, drop, refl, sym, ◌∙◌, ap, subst, arith, append_assoc, length-append, length-take, length-drop, take-append-drop, ext_get_or, get_or-take, get_or-drop}
use Rattle.std.proofs.lemmas.List.{take_at, drop_at, drop_more}
use Rattle.std.proofs.lemmas.Bool.{cases_eq}
use Rattle.sqlite_disk.specs.Disk.{Holds, Torn, Follows, Only}
use Rattle.pm_journal.specs.Lines.{recorded, records, IsAtRest, IsBeforeOrAfter, lines_of, HoldsLines}
use Rattle.pm_journal.specs.Journal.{IsBlank}
use Rattle.pm_journal.specs.declared.journal.Journal.{Journal}
use Rattle.pm_journal.proofs.Lines.{at_rest_recorded, recorded_closed, recorded_gate, records_more, all_append, closed_gate, open_gate}

-- what stands below a write stays
pub torn_front : (m at n : ℕ) (old new : List ℕ) → Torn at n old new → m ≤ at → m ≤ length old → take m new ≡ take m old
torn_front m at n old new t low within =
    let a : length (take m new) ≡ m = omega (arith, length-take m new, t.no_shorter) in
    let b : length (take m old) ≡ m = omega (arith, length-take m old) in
    ext_get_or 0 _ _ (a ∙ sym b) λ i h.
    let below : i < m = omega arith in
    get_or-take m new i 0 below ∙ t.below i (omega arith) (omega arith) ∙ sym (get_or-take m old i 0 below)

-- and so does what stands above it
pub torn_back : (at n : ℕ) (old new : List ℕ) → Torn at n old new → at + n ≤ length old → drop (at + n) new ≡ drop (at + n) old
torn_back at n old new t within =
    let same : length new ≡ length old = omega (arith, t.no_shorter, t.no_longer) in
    let a = length-drop (at + n) new in
    let b = length-drop (at + n) old in
    ext_get_or 0 _ _ (omega arith) λ i h.
    get_or-drop (at + n) new i 0 ∙ t.above (at + n + i) (omega arith) (omega arith) ∙ sym (get_or-drop (at + n) old i 0)

held : (at : ℕ) (bytes new : List ℕ) → (0 < length bytes → Holds new at bytes) → take (length bytes) (drop at new) ≡ bytes
held at [] new holds = refl
held at (b ∷ bytes) new holds =
    let h = holds (omega arith) in
    let a : length (take (length (b ∷ bytes)) (drop at new)) ≡ length (b ∷ bytes) = omega (arith, length-take (length (b ∷ bytes)) (drop at new), length-drop at new, h.within) in
    ext_get_or 0 _ _ a λ i low.
    let below : i < length (b ∷ bytes) = omega arith in
    get_or-take (length (b ∷ bytes)) (drop at new) i 0 below ∙ get_or-drop at new i 0 ∙ h.each i below

-- a write that was done
pub wrote : (at : ℕ) (bytes old new : List ℕ) → Torn at (length bytes) old new → (0 < length bytes → Holds new at bytes) → at ≤ length old
    → new ≡ take at old ++ (bytes ++ drop (length bytes) (drop at new))
wrote at bytes old new t holds within =
    sym (take-append-drop at new)
    ∙ ap (λ (l : List ℕ). l ++ drop at new) (torn_front at at (length bytes) old new t (omega arith) within)
    ∙ ap (λ (l : List ℕ). take at old ++ l) (sym (take-append-drop (length bytes) (drop at new)) ∙ ap (λ (l : List ℕ). l ++ drop (length bytes) (drop at new)) (held at bytes new holds))

module _ (lines : List (List ℕ)) (text : List ℕ) (first : List ℕ) (end : ℕ) (at_rest : IsAtRest lines first) (holds : HoldsLines text) (at_end : end ≡ length (records lines)) where
  -- up to the closed gate
  abbrev front : List ℕ
  front = records lines ++ at_rest.gate ∷ []

  front_is : front ++ at_rest.rest ≡ first
  front_is = append_assoc (records lines) (at_rest.gate ∷ []) at_rest.rest ∙ sym at_rest.whole

  length-front : length front ≡ end + 1
  length-front = omega (arith, length-append (records lines) (at_rest.gate ∷ []), at_end)

  -- the closed gate stands in the file
  abbrev pub IsBehind : List ℕ → Type 0
  IsBehind c = take (end + 1) c ≡ front

  pub first_behind : IsBehind first
  first_behind = ap (λ (f : List ℕ). take (end + 1) f) (sym front_is) ∙ take_at front at_rest.rest (end + 1) length-front

  long : (c : List ℕ) → IsBehind c → end + 1 ≤ length c
  long c is = omega (arith, length-take (end + 1) c, ap length is, length-front)

  pub behind_recorded : (c : List ℕ) → IsBehind c → recorded c ≡ lines
  behind_recorded c is =
      let whole : c ≡ records lines ++ at_rest.gate ∷ drop (end + 1) c =
      sym (take-append-drop (end + 1) c) ∙ ap (λ (l : List ℕ). l ++ drop (end + 1) c) is ∙ append_assoc (records lines) (at_rest.gate ∷ []) (drop (end + 1) c) in
      ap recorded whole ∙ recorded_closed lines at_rest.gate (drop (end + 1) c) at_rest.are_lines at_rest.closed

  -- a write behind the gate
  pub behind_write : (at n : ℕ) (old new : List ℕ → Type 0) → end + 1 ≤ at → ((c : List ℕ) → old c → IsBehind c) → Follows (Torn at n) old new → (c : List ℕ) → new c → IsBehind c
  behind_write at n old new above all follows c left =
      let from = follows c left in
      torn_front (end + 1) at n from.0 c from.2 above (long from.0 (all from.0 from.1)) ∙ all from.0 from.1

  pub only_behind : (outcomes : List ℕ → Type 0) → Only first outcomes → (c : List ℕ) → outcomes c → IsBehind c
  only_behind outcomes only c left = ap (λ (f : List ℕ). take (end + 1) f) (only c left) ∙ first_behind

  -- the text behind the closed gate, and one more closed gate behind it
  abbrev pub IsStaged : List ℕ → Type 0
  IsStaged c = (rest : List ℕ) × (c ≡ records lines ++ at_rest.gate ∷ (text ++ 10 ∷ 10 ∷ rest))

  pub staged : (behind at : ℕ) (once twice : List ℕ) → behind ≡ end + 1 → at ≡ end + 1 + length text
      → Torn behind (length text) first once → (0 < length text → Holds once behind text)
      → Torn at 2 once twice → (0 < 2 → Holds twice at (10 ∷ 10 ∷ [])) → IsStaged twice
  staged behind at once twice here at_is t_here h_here u k =
      let ends : List ℕ = 10 ∷ 10 ∷ [] in
      let t : Torn (end + 1) (length text) first once = subst (λ (a : ℕ). Torn a (length text) first once) here t_here in
      let h : 0 < length text → Holds once (end + 1) text = λ some. subst (λ (a : ℕ). Holds once a text) here (h_here some) in
      let one = wrote (end + 1) text first once t h (long first first_behind) ∙ ap (λ (l : List ℕ). l ++ (text ++ drop (length text) (drop (end + 1) once))) first_behind in
      let split : once ≡ (front ++ text) ++ drop (length text) (drop (end + 1) once) = one ∙ sym (append_assoc front text (drop (length text) (drop (end + 1) once))) in
      let size : length (front ++ text) ≡ at = omega (arith, length-append front text, length-front) in
      let within : at ≤ length once = omega (arith, ap length split, length-append (front ++ text) (drop (length text) (drop (end + 1) once))) in
      let kept : take at once ≡ front ++ text = ap (λ (l : List ℕ). take at l) split ∙ take_at (front ++ text) (drop (length text) (drop (end + 1) once)) at size in
      let rest = drop 2 (drop at twice) in
      let two : twice ≡ (front ++ text) ++ (ends ++ rest) = wrote at ends once twice u k within ∙ ap (λ (l : List ℕ). l ++ (ends ++ rest)) kept in
      (rest, two ∙ append_assoc front text (ends ++ rest) ∙ append_assoc (records lines) (at_rest.gate ∷ []) (text ++ (ends ++ rest)))

  -- the gate, torn or whole
  gate_torn : (c d : List ℕ) (is : IsStaged d) → Torn end 1 d c → c ≡ records lines ++ get_or c end 0 ∷ (text ++ 10 ∷ 10 ∷ is.0)
  gate_torn c d is t =
      let tail = text ++ 10 ∷ 10 ∷ is.0 in
      let size : length d ≡ end + 1 + length tail = omega (arith, ap length is.1, length-append (records lines) (at_rest.gate ∷ tail), at_end) in
      let below : take end c ≡ records lines =
      torn_front end end 1 d c t (omega arith) (omega arith) ∙ ap (λ (l : List ℕ). take end l) is.1 ∙ take_at (records lines) (at_rest.gate ∷ tail) end (sym at_end) in
      let above : drop (end + 1) c ≡ tail =
      torn_back end 1 d c t (omega arith) ∙ ap (λ (l : List ℕ). drop (end + 1) l) (is.1 ∙ sym (append_assoc (records lines) (at_rest.gate ∷ []) tail)) ∙ drop_at front tail (end + 1) length-front in
      sym (take-append-drop end c) ∙ ap (λ (l : List ℕ). l ++ drop end c) below
      ∙ ap (λ (l : List ℕ). records lines ++ l) (drop_more c end 0 (omega (arith, t.no_shorter)) ∙ ap (λ (l : List ℕ). get_or c end 0 ∷ l) above)

  pub gate_crash : (d : List ℕ) (old new : List ℕ → Type 0) → IsStaged d → Only d old → Follows (Torn end 1) old new → (c : List ℕ) → new c → IsBeforeOrAfter lines (lines_of text) c
  gate_crash d old new is only follows c left =
      let from = follows c left in
      let torn = subst (λ f. Torn end 1 f c) (only from.0 from.1) from.2 in
      subst (IsBeforeOrAfter lines (lines_of text)) (sym (gate_torn c d is torn)) (recorded_gate lines (get_or c end 0) text is.0 at_rest.are_lines holds)

  pub opened : (c d : List ℕ) → IsStaged d → Torn end 1 d c → (0 < 1 → Holds c end (32 ∷ [])) → IsAtRest (lines ++ lines_of text) c
  opened c d is t wrote_gate =
      let h = wrote_gate (omega arith) in
      let here : end + 0 ≡ end = omega arith in
      let gate : get_or c end 0 ≡ 32 = ap (λ (i : ℕ). get_or c i 0) (sym here) ∙ h.each 0 (omega arith) in
      record {
        gate = 10;
        rest = is.0;
        are_lines = all_append lines (lines_of text) at_rest.are_lines holds.are_lines;
        whole = gate_torn c d is t ∙ ap (λ (g : ℕ). records lines ++ g ∷ (text ++ 10 ∷ 10 ∷ is.0)) gate ∙ sym (records_more lines text is.0 holds);
        closed = omega arith;
      }

pub none_of : (file : List ℕ) → length file ≡ 0 → file ≡ []
none_of [] is = refl
none_of (b ∷ file) is = absurd (omega arith)

-- one byte is no line, whichever it is
pub new_file : (c : List ℕ) → Torn 0 1 [] c → recorded c ≡ []
new_file [] t = refl
new_file (b ∷ []) t = elim (cases_eq b 32) [
  | inl opened ↦ open_gate b [] opened
  | inr shut ↦ closed_gate b [] shut
]
new_file (a ∷ b ∷ c) t = absurd (omega (arith, t.no_longer))

-- a closed gate, written into an empty file
pub new_at_rest : (c : List ℕ) → Torn 0 1 [] c → (0 < 1 → Holds c 0 (10 ∷ [])) → IsAtRest [] c
new_at_rest c torn holds = record {
  gate = 10;
  rest = drop 1 (drop 0 c);
  are_lines = tt;
  whole = wrote 0 (10 ∷ []) [] c torn holds (omega arith);
  closed = omega arith;
}

-- after that there is no line
pub none_behind : {D : Type 0} (seen : D → List ℕ) (may_leave : D → List ℕ → Type 0) (is_clean is_usable : D → Bool) (journal : Journal D) (c now : List ℕ)
    → IsBlank seen may_leave is_clean is_usable journal → IsTrue (is_clean journal.disk) → Torn 0 1 (seen journal.disk) c → (0 < 1 → Holds c 0 (10 ∷ [])) → now ≡ c → recorded now ≡ []
none_behind seen may_leave is_clean is_usable journal c now blank clean torn holds same =
    ap recorded same ∙ at_rest_recorded [] c (new_at_rest c (subst (λ (f : List ℕ). Torn 0 1 f c) (blank.empty clean) torn) holds)

-- a read of the whole file
pub all_read : (file bytes : List ℕ) → length bytes ≡ length file → (0 < length bytes → Holds file 0 bytes) → bytes ≡ file
all_read file [] size holds = sym (none_of file (sym size))
all_read file (b ∷ bytes) size holds =
    let h = holds (omega arith) in
    ext_get_or 0 (b ∷ bytes) file size λ i low. let here : 0 + i ≡ i = omega arith in sym (ap (λ (k : ℕ). get_or file k 0) (sym here) ∙ h.each i low)
