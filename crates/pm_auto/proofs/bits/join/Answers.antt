use Rattle.std.proofs.Common.{◌≡◌, ◌∙◌, ◌/◌, ◌%◌, ◌<◌, ◌||◌, eqb, ℕ, inl, inr, sym, ap, arith, length, get_or, bit_or, below_more, length-set, get_or-set_same, get_or-set_other}
use Rattle.std.proofs.lemmas.Bool.{cases_lt}
use Rattle.std.proofs.lemmas.List.{get_or_read}
use Rattle.std.specs.Int.{bit_at}
use Rattle.pm_auto.specs.Members.{is_in}
use Rattle.pm_auto.proofs.BitLaws.{in-union}
use Rattle.pm_auto.proofs.MemberLaws.{in-past}
use Rattle.pm_auto.proofs.SetLaws.{or-false}
use Rattle.pm_auto.proofs.bits.join.Goals as goal

pub loop-i-preserved : goal.loop-i-preserved
loop-i-preserved c =
    let inv = c.loop-i.invariant in
    let i : ℕ = c.loop-i.i in
    let v : ℕ = bit_or c.index-old.result.now (get_or c.args.more.now i 0) in
    let inside : i < length c.loop-i.words.items = omega (arith, inv.long, c.requires, c.loop-i-test.true) in
    let read : c.index-old.result.now ≡ get_or c.loop-i.words.items i 0 = get_or_read c.loop-i.words.items i _ inside c.index-old.ensures 0 in
    record {
      long = length-set c.loop-i.words.items i v ∙ inv.long;
      done = below_more _ _ (λ k h. get_or-set_other c.loop-i.words.items i k v 0 (omega arith) ∙ inv.done k h)
          (get_or-set_same c.loop-i.words.items i v 0 inside ∙ ap (λ w. bit_or w (get_or c.args.more.now i 0)) (read ∙ inv.left i (omega arith)));
      left = λ k h. get_or-set_other c.loop-i.words.items i k v 0 (omega arith) ∙ inv.left k (omega arith);
    }

pub returns-clause-joined : goal.returns-clause-joined
returns-clause-joined c = λ j room.
    let inv = c.loop-i.invariant in
    elim (cases_lt (j / 64) c.loop-i.i) [
      | inl h ↦ in-union c.args.words.now.items c.args.more.now c.loop-i.words.items j (inv.done (j / 64) h)
      | inr h ↦
          ap (λ w. eqb (bit_at w (j % 64)) 1) (inv.left (j / 64) h)
          ∙ sym (ap (λ b. is_in c.args.words.now.items j || b) (in-past c.args.more.now j (omega arith)) ∙ or-false (is_in c.args.words.now.items j))
    ]
