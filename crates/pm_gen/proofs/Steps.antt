-- Names and op lines one by one.
use Rattle.std.proofs.Common.{◌≡◌, ℕ, suc, ◌+◌, ◌%◌, List, [], ◌++◌, refl, ap, sym, ◌∙◌, append_assoc}
use Rattle.pm_gen.specs.Turns.{turn_at, after_turn}
use Rattle.pm_gen.specs.Lines.{turn_line}
use Rattle.pm_gen.specs.Session.{further_name, further_names, turn_lines}

-- one name more
pub names-next : (client n m : ℕ) → n ≡ suc m → further_names client n ≡ further_name client ++ further_names (client + 1) m
names-next client n m is = rw is refl

-- one turn more
pub turns-next : (clients i n m x : ℕ) → n ≡ suc m → turn_lines clients i n x ≡ turn_line (i % clients + 1) (turn_at x) ++ turn_lines clients (i + 1) m (after_turn x)
unfolding turn_lines
turns-next clients i n m x is = rw is refl

pub turns-none : (clients i n x : ℕ) → n ≡ 0 → turn_lines clients i n x ≡ []
unfolding turn_lines
turns-none clients i n x is = rw is refl

-- a text that is put after another one, and what is still to come
pub onto : (old piece new rest more all : List ℕ) → new ≡ old ++ piece → more ≡ piece ++ rest → old ++ more ≡ all → new ++ rest ≡ all
onto old piece new rest more all put next is = ap (λ t. t ++ rest) put ∙ (append_assoc old piece rest ∙ (ap (λ t. old ++ t) (sym next) ∙ is))
