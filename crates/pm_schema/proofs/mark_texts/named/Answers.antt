use Rattle.std.proofs.Common.{◌≡◌, ◌≤◌, ◌∙◌, ◌||◌, ap, sym, map, take, length, get_or, false, List, ℕ, Bool, Bor, arith}
use Rattle.std.specs.List.{list_any}
use Rattle.pm_schema.specs.Types.{no_mark}
use Rattle.pm_schema.specs.MarkTexts.{is_all, means, words, names}
use Rattle.pm_schema.proofs.Rows.{row-is, all-named, take-all}
use Rattle.pm_schema.proofs.mark_texts.named.Goals as goal

pub returns-then-is_all : goal.returns-then-is_all
returns-then-is_all c = c.from_vec.ensures ∙ c.in_ok-row.ensures ∙ all-named c.args.marks.now c.args.marks.now c.args.text.now (sym c.is_all.ensures ∙ c.if-is_all.true)

pub returns : goal.returns
returns c =
    let l : length c.deref-word-items.result.now ≤ c.loop-word.word-index = omega (arith, c.loop-word-test.false) in
    let all : map (λ (x : Bor (List ℕ)). x.now) (take c.loop-word.word-index c.deref-word-items.result.now) ≡ words c.args.text.now =
    ap (map (λ (x : Bor (List ℕ)). x.now)) (take-all c.deref-word-items.result.now c.loop-word.word-index l ∙ c.deref-word-items.ensures.value) ∙ c.in_ok-words.ensures ∙ ap words c.as_bytes.ensures.value in
    let none : is_all c.args.text.now ≡ false = sym c.is_all.ensures ∙ c.if-is_all.false in
    c.from_vec-2.ensures
    ∙ row-is (names c.args.marks.now c.args.text.now) c.args.marks.now c.loop-word.row.items c.loop-word.invariant.0
    (λ i k. c.loop-word.invariant.1 i k
    ∙ ap (λ (ws : List (List ℕ)). list_any (λ w. means c.args.marks.now w (get_or c.args.marks.now i no_mark)) ws) all
    ∙ sym (ap (λ (b : Bool). b || list_any (λ w. means c.args.marks.now w (get_or c.args.marks.now i no_mark)) (words c.args.text.now)) none))
