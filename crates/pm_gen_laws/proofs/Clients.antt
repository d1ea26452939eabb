-- The clients line of a generated session is read, and a client is found by its name.
use Rattle.std.proofs.Common.{◌≡◌, ℕ, zero, suc, ◌+◌, ◌^◌, ◌<◌, ◌≤◌, Bool, true, false, not, cond, nat_eq, nat_lt, nat_le, ◌&&◌, List, [], ◌∷◌, ◌++◌, length, drop, codes, decimal, position, inl, inr, None, Some, Ok, refl, sym, ap, ◌∙◌, subst, arith, lt-ltb, leb-true}
use Rattle.std.specs.Fmt.{digits}
use Rattle.std.specs.List.{prefix_len}
use Rattle.std.specs.Cmp.Lexicographic.{pointwise}
use Rattle.std.proofs.lemmas.Bool.{and_parts, cases_lt}
use Rattle.std.proofs.lemmas.Slice.Eq.{bytes_eq-Decides}
use Rattle.serde_json.specs.Data.{Data, unsigned, string, array, Items, no_items, item}
use Rattle.serde_json.specs.Read.{read, number_of}
use Rattle.serde_json.proofs.Numbers.{number_of-decimal}
use Rattle.serde_json.proofs.OnLiterals.{serde_json_on_literals}
use Rattle.pm_list.specs.Readings.{◌>>=◌}
use Rattle.pm_head.specs.declared.form.Form.TheVariants.{Plain}
use Rattle.pm_head.specs.declared.clients.ClientEntry.{ClientEntry}
use Rattle.pm_head.specs.Lines.{json_line}
use Rattle.pm_head.specs.Clients.{editor, entries_of, clients_of, clients_line}
use Rattle.pm_script.specs.Lines.{is_raw, is_late}
use Rattle.pm_script.specs.Entrants.{all_enter}
use Rattle.pm_gen.specs.Session.{names}
use Rattle.pm_gen_laws.proofs.Pieces.{all_shown, below, at-below}
use Rattle.pm_gen_laws.proofs.Readable.{line-reads}

abbrev pub name_of : ℕ → List ℕ
name_of client = codes "c" ++ decimal client

-- n editors, of which the first is client i
abbrev pub editors : ℕ → ℕ → List ClientEntry
editors i zero = []
editors i (suc n) = editor (name_of i) ∷ editors (i + 1) n

abbrev name_items : ℕ → ℕ → Items
name_items i zero = no_items
name_items i (suc n) = item (string (name_of i)) (name_items (i + 1) n)

-- ---- the line

abbrev Upto : (ℕ → Type 0) → ℕ → Type 0
Upto P zero = Unit {0}
Upto P (suc n) = Upto P n × P n

at-upto : (P : ℕ → Type 0) (n : ℕ) → Upto P n → (k : ℕ) → k < n → P k
at-upto P zero u k h = absurd (omega arith)
at-upto P (suc n) u k h = elim (cases_lt k n) [
  | inl less ↦ at-upto P n u.0 k less
  | inr more ↦ (let same : n ≡ k = omega arith in subst P same u.1)
]

abbrev IsRead : ℕ → Type 0
IsRead k = read (names (suc k)) ≡ Some (array (name_items 1 (suc k)))

reads : Upto IsRead 32
unfolding digits serde_json_on_literals
reads = ((((((((((((((((((((((((((((((((tt, refl), refl), refl), refl), refl), refl), refl), refl), refl), refl), refl), refl), refl), refl), refl), refl), refl), refl), refl), refl), refl), refl), refl), refl), refl), refl), refl), refl), refl), refl), refl), refl)

abbrev AreEditors : ℕ → Type 0
AreEditors k = clients_of Plain (array (name_items 1 (suc k))) ≡ Ok (editors 1 (suc k))

entries : Upto AreEditors 32
unfolding digits clients_of entries_of
entries = ((((((((((((((((((((((((((((((((tt, refl), refl), refl), refl), refl), refl), refl), refl), refl), refl), refl), refl), refl), refl), refl), refl), refl), refl), refl), refl), refl), refl), refl), refl), refl), refl), refl), refl), refl), refl), refl), refl)

abbrev is_short : ℕ → Bool
is_short k = all_shown (names (suc k)) && nat_le (length (names (suc k))) 300

shorts : below is_short 32 ≡ true
unfolding digits
shorts = refl

pub names-shown : (n : ℕ) → n < 32 → all_shown (names (suc n)) ≡ true
names-shown n h = (and_parts (all_shown (names (suc n))) (nat_le (length (names (suc n))) 300) (at-below is_short 32 shorts n h)).0

pub names-short : (n : ℕ) → n < 32 → length (names (suc n)) ≤ 300
names-short n h = leb-true (length (names (suc n))) 300 (and_parts (all_shown (names (suc n))) (nat_le (length (names (suc n))) 300) (at-below is_short 32 shorts n h)).1

pub clients-read : (n : ℕ) → n < 32 → clients_line Plain (names (suc n)) ≡ Ok (editors 1 (suc n))
unfolding clients_line
clients-read n h =
    let d : Data = array (name_items 1 (suc n)) in
    let json : json_line (names (suc n)) ≡ Ok d = line-reads (names (suc n)) d (names-shown n h) (omega (arith, names-short n h)) (at-upto IsRead 32 reads n h) in
    ap (λ r. r >>= clients_of Plain) json ∙ at-upto AreEditors 32 entries n h

-- ---- a client by its name

apart : (a b : ℕ) → a < 2 ^ 64 → b < 2 ^ 64 → (a ≡ b → ⊥) → pointwise nat_eq (name_of a) (name_of b) ≡ false
apart a b la lb n = at (pointwise nat_eq (name_of a) (name_of b)) refl
  where
    at : (r : Bool) → pointwise nat_eq (name_of a) (name_of b) ≡ r → r ≡ false
    at true e = absurd (
        let same : name_of a ≡ name_of b = (bytes_eq-Decides (name_of a) (name_of b)).0 e in
        let digits_same : decimal a ≡ decimal b = ap (drop 1) same in
        let number : Some (unsigned a) ≡ Some (unsigned b) = sym (number_of-decimal a la) ∙ ap number_of digits_same ∙ number_of-decimal b lb in
        n (cc)
        )
    at false e = refl

itself : (a : ℕ) → pointwise nat_eq (name_of a) (name_of a) ≡ true
itself a = (bytes_eq-Decides (name_of a) (name_of a)).1 refl

abbrev has_name : ℕ → ClientEntry → Bool
has_name client c = pointwise nat_eq (name_of client) c.name

found-from : (n i from : ℕ) → i < n → from + n < 64 → prefix_len (λ c. not (has_name (from + i) c)) (editors from n) ≡ i
found-from zero i from h l = absurd (omega arith)
found-from (suc n) zero from h l =
    let same : from + 0 ≡ from = omega arith in
    ap (λ b. cond (not b) (1 + prefix_len (λ c. not (has_name (from + 0) c)) (editors (from + 1) n)) 0) (ap (λ k. has_name k (editor (name_of from))) same ∙ itself from)
found-from (suc n) (suc i) from h l =
    let k : from + suc i ≡ (from + 1) + i = omega arith in
    let other : has_name (from + suc i) (editor (name_of from)) ≡ false = apart (from + suc i) from (omega arith) (omega arith) (λ e. omega (arith, e)) in
    let rest : prefix_len (λ c. not (has_name (from + suc i) c)) (editors (from + 1) n) ≡ i = ap (λ j. prefix_len (λ c. not (has_name j c)) (editors (from + 1) n)) k ∙ found-from n i (from + 1) (omega arith) (omega arith) in
    ap (λ b. cond (not b) (1 + prefix_len (λ c. not (has_name (from + suc i) c)) (editors (from + 1) n)) 0) other ∙ (let e : 1 + prefix_len (λ c. not (has_name (from + suc i) c)) (editors (from + 1) n) ≡ suc i = omega (arith, rest) in e)

editors-long : (n i : ℕ) → length (editors i n) ≡ n
editors-long zero i = refl
editors-long (suc n) i = ap suc (editors-long n (i + 1))

pub found : (n i : ℕ) → i < n → n < 33 → position (λ c. pointwise nat_eq (name_of (i + 1)) c.name) (editors 1 n) ≡ Some i
found n i h l =
    let p = prefix_len (λ c. not (has_name (i + 1) c)) (editors 1 n) in
    let same : 1 + i ≡ i + 1 = omega arith in
    let at : p ≡ i = ap (λ j. prefix_len (λ c. not (has_name j c)) (editors 1 n)) (sym same) ∙ found-from n i 1 h (omega arith) in
    let inside : nat_lt p (length (editors 1 n)) ≡ true = lt-ltb p (length (editors 1 n)) (omega (arith, at, editors-long n 1)) in
    ap (λ b. cond b (Some p) None) inside ∙ ap Some at

pub not-raw : (n i from : ℕ) → i < n → is_raw (editors from n) i ≡ false
not-raw zero i from h = absurd (omega arith)
not-raw (suc n) zero from h = refl
not-raw (suc n) (suc i) from h = not-raw n i (from + 1) (omega arith)

pub not-late : (n i from : ℕ) → i < n → is_late (editors from n) i ≡ false
not-late zero i from h = absurd (omega arith)
not-late (suc n) zero from h = refl
not-late (suc n) (suc i) from h = not-late n i (from + 1) (omega arith)

-- so none of them has to enter
pub none-enters : (n from : ℕ) (lines : List (List ℕ)) → all_enter (editors from n) lines ≡ true
none-enters zero from lines = refl
none-enters (suc n) from lines = none-enters n (from + 1) lines
