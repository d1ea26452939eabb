-- Which clients have entered, as the lines of a file are looked through.
use Rattle.std.proofs.Common.{◌≡◌, ℕ, suc, Bool, true, false, List, [], ◌∷◌, length, map, refl, ap, ◌∙◌, sym, arith}
use Rattle.std.specs.Prelude.{not, nat_eq, ◌||◌, ◌&&◌, Some, None, option_map, unwrap_or}
use Rattle.std.specs.Cmp.Lexicographic.{pointwise}
use Rattle.std.specs.List.{list_all, list_any, zip}
use Rattle.pm_head.specs.declared.clients.ClientEntry.{ClientEntry}
use Rattle.pm_script.specs.Entrants.{entrant_on, enters_on, all_enter}
use Rattle.pm_script.specs.Entered.{after_line}

-- each client has entered, or enters on one of these lines
abbrev pub all_by : List ClientEntry → List Bool → List (List ℕ) → Bool
all_by clients entered lines = list_all (λ p. p.1 || list_any (enters_on p.0.name) lines) (zip clients entered)

or-assoc : (a b c : Bool) → ((a || b) || c) ≡ (a || (b || c))
or-assoc true b c = refl
or-assoc false b c = refl

or-false : (a : Bool) → (a || false) ≡ a
or-false true = refl
or-false false = refl

and-false : (a : Bool) → (a && false) ≡ false
and-false true = refl
and-false false = refl

-- at first those have that are there from the first line on
pub at-first : (clients : List ClientEntry) (lines : List (List ℕ)) → all_by clients (map (λ c. not c.late) clients) lines ≡ all_enter clients lines
at-first [] lines = refl
at-first (c ∷ clients) lines = ap (λ b. (not c.late || list_any (enters_on c.name) lines) && b) (at-first clients lines)

pub first-long : (clients : List ClientEntry) → length (map (λ c. not c.late) clients) ≡ length clients
first-long [] = refl
first-long (c ∷ clients) = ap suc (first-long clients)

-- where all have, no line is needed
pub all-have : (clients : List ClientEntry) (entered : List Bool) (lines : List (List ℕ)) → list_all (λ f. f) entered ≡ true → all_by clients entered lines ≡ true
all-have [] entered lines h = refl
all-have (c ∷ clients) [] lines h = refl
all-have (c ∷ clients) (true ∷ entered) lines h = all-have clients entered lines h
all-have (c ∷ clients) (false ∷ entered) lines h = absurd (cc)

-- where no line is left, one of them has not
pub one-has-not : (clients : List ClientEntry) (entered : List Bool) → length entered ≡ length clients → list_all (λ f. f) entered ≡ false → all_by clients entered [] ≡ false
one-has-not clients [] l h = absurd (cc)
one-has-not [] (e ∷ entered) l h = absurd (omega (arith, l))
one-has-not (c ∷ clients) (true ∷ entered) l h = one-has-not clients entered (omega (arith, l)) h
one-has-not (c ∷ clients) (false ∷ entered) l h = refl

-- one line more
pub one-line : (line : List ℕ) (clients : List ClientEntry) (entered : List Bool) (lines : List (List ℕ)) → all_by clients (after_line line clients entered) lines ≡ all_by clients entered (line ∷ lines)
one-line line [] entered lines = refl
one-line line (c ∷ clients) [] lines = refl
one-line line (c ∷ clients) (e ∷ entered) lines =
    let first = or-assoc e (enters_on c.name line) (list_any (enters_on c.name) lines) in
    ap (λ b. ((e || enters_on c.name line) || list_any (enters_on c.name) lines) && b) (one-line line clients entered lines)
    ∙ ap (λ b. b && all_by clients entered (line ∷ lines)) first

pub length-after : (line : List ℕ) (clients : List ClientEntry) (entered : List Bool) → length entered ≡ length clients → length (after_line line clients entered) ≡ length clients
length-after line [] entered l = refl
length-after line (c ∷ clients) [] l = absurd (omega (arith, l))
length-after line (c ∷ clients) (e ∷ entered) l = ap suc (length-after line clients entered (omega (arith, l)))

-- a line on which nobody enters
nobody : (line : List ℕ) (clients : List ClientEntry) (entered : List Bool) → length entered ≡ length clients → ((name : List ℕ) → enters_on name line ≡ false) → entered ≡ after_line line clients entered
nobody line [] [] l none = refl
nobody line [] (e ∷ entered) l none = absurd (omega (arith, l))
nobody line (c ∷ clients) [] l none = absurd (omega (arith, l))
nobody line (c ∷ clients) (e ∷ entered) l none =
    let first : e ≡ (e || enters_on c.name line) = sym (ap (λ b. e || b) (none c.name) ∙ or-false e) in
    ap (λ b. b ∷ entered) first ∙ ap (λ es. (e || enters_on c.name line) ∷ es) (nobody line clients entered (omega (arith, l)) none)

pub by-nobody : (line : List ℕ) (clients : List ClientEntry) (entered : List Bool) → length entered ≡ length clients → entrant_on line ≡ None → entered ≡ after_line line clients entered
by-nobody line clients entered l h = nobody line clients entered l (λ name. ap (λ o. unwrap_or (option_map (λ entrant. pointwise nat_eq entrant name) o) false) h)
