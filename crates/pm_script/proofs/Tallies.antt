-- Counts of what each client did, as one line more comes, and whether it did anything.
use Rattle.std.proofs.Common.{◌≡◌, ◌<◌, ◌+◌, ℕ, Bool, true, false, cond, List, [], ◌∷◌, ◌++◌, length, refl, ap, sym, ◌∙◌, arith, nat_eq}
use Rattle.std.proofs.lemmas.Grind.{common_steps}
use Rattle.std.proofs.lemmas.Bool.Decides.{nat_tests}
use Rattle.std.proofs.lemmas.List.Sums.{sum_by-cons}
use Rattle.std.specs.Prelude.{◌==◌, ◌&&◌, ◌||◌, nat_lt, slice_index, slice_set, if◌then◌else◌}
use Rattle.pm_session.specs.declared.line.Act.{Act}
use Rattle.pm_session.specs.declared.line.Line.{Line}
use Rattle.pm_session.specs.Suits.{done_by}
use Rattle.pm_versions.specs.Suiting.{has_line}
use Rattle.pm_meaning.specs.Steps.{Step}
use Rattle.pm_ops.specs.declared.op.Op.{Op}
use Rattle.pm_script.specs.Lines.{lines_by}

done_by-more : (does : Act Op Step → Bool) (k : ℕ) (lines : List (Line Op Step)) (line : Line Op Step)
    → done_by does k (lines ++ line ∷ []) ≡ done_by does k lines + cond ((line.client == k) && does line.act) 1 0
done_by-more does k lines line = grind (arith, common_steps)

set_more : (t : Bool) (counts : List ℕ) (client k before after : ℕ) → nat_eq client k ≡ t → client < length counts → k < length counts
    → slice_index counts k ≡ before → after ≡ before + cond (t && true) 1 0 → slice_index (slice_set counts client (slice_index counts client + 1)) k ≡ after
set_more true counts client k before after e h l at more = grind (arith, common_steps, nat_tests)
set_more false counts client k before after e h l at more = grind (arith, common_steps, nat_tests)

kept : (t : Bool) (n before after : ℕ) → n ≡ before → after ≡ before + cond (t && false) 1 0 → n ≡ after
kept true n before after at more = omega (arith, at, more)
kept false n before after at more = omega (arith, at, more)

by_test : (more : Bool) (counts new : List ℕ) (client k before after : ℕ) → client < length counts → k < length counts
    → new ≡ (if more then slice_set counts client (slice_index counts client + 1) else counts)
    → slice_index counts k ≡ before → after ≡ before + cond ((client == k) && more) 1 0 → slice_index new k ≡ after
by_test true counts new client k before after h l is at more = rw is (set_more (nat_eq client k) counts client k before after refl h l at more)
by_test false counts new client k before after h l is at more = rw is (kept (nat_eq client k) (slice_index counts k) before after at more)

pub counted-more : (does : Act Op Step → Bool) (counts new : List ℕ) (lines : List (Line Op Step)) (line : Line Op Step) (more : Bool)
    → more ≡ does line.act → line.client < length counts → length new ≡ length counts
    → new ≡ (if more then slice_set counts line.client (slice_index counts line.client + 1) else counts)
    → ((k : ℕ) → k < length counts → slice_index counts k ≡ done_by does k lines)
    → (k : ℕ) → k < length new → slice_index new k ≡ done_by does k (lines ++ line ∷ [])
counted-more does counts new lines line more e h same is counted k l =
    let l' : k < length counts = omega arith in
    by_test more counts new line.client k (done_by does k lines) (done_by does k (lines ++ line ∷ [])) h l' is (counted k l')
    (rw e (done_by-more does k lines line))

-- ---- whether a client has a line

one-more : (t any : Bool) (n : ℕ) → any ≡ nat_lt 0 n → (t || any) ≡ nat_lt 0 (cond (t && true) 1 0 + n)
one-more true any n h = grind (arith, nat_tests)
one-more false any n h = let e : 0 + n ≡ n = omega arith in h ∙ ap (nat_lt 0) (sym e)

pub has_line-counted : (k : ℕ) (lines : List (Line Op Step)) → has_line k lines ≡ nat_lt 0 (lines_by k lines)
has_line-counted k [] = refl
has_line-counted k (line ∷ lines) =
    let counts : Line Op Step → ℕ = λ l. cond ((l.client == k) && true) 1 0 in
    one-more (line.client == k) (has_line k lines) (lines_by k lines) (has_line-counted k lines) ∙ sym (ap (nat_lt 0) (sum_by-cons counts line lines))

pub ruleset own_lines = (has_line-counted)
