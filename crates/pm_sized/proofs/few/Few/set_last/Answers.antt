use Rattle.std.proofs.Common.{◌≡◌, ◌-◌, ◌+◌, ◌++◌, ◌∷◌, [], refl, ap, sym, ◌∙◌, length, get_or, arith}
use Rattle.pm_sized.specs.Parts.{all_but_last}
use Rattle.pm_sized.proofs.LastLaws.{set-last}
use Rattle.pm_sized.proofs.FewLaws.{total-all, few-last}
use Rattle.pm_sized.proofs.few.Few.set_last.Goals as goal

pub overflow_sub-self : goal.overflow_sub-self
overflow_sub-self g c =
    let xs = c.args.self.now.items.items in
    let q = c.replace-last.result in
    let n : c.len-at.result - 1 ≡ length xs - 1 = omega (arith, c.len-at.ensures, c.args.self.now.items.ok.0) in
    let v = c.replace-last.ensures.value in
    let is : q ≡ get_or xs (length xs - 1) q = v ∙ (c.index_mut.ensures.value ∙ (ap (λ z. get_or xs (c.len-at.result - 1) z) (sym v) ∙ ap (λ z. get_or xs z q) n)) in
    omega (arith, total-all xs q c.requires.some is, c.requires.few.total)

pub returns-clause-few : goal.returns-clause-few
returns-clause-few g c =
    let xs = c.args.self.now.items.items in
    let q = c.replace-last.result in
    let at = c.len-at.result - 1 in
    let n : at ≡ length xs - 1 = omega (arith, c.len-at.ensures, c.args.self.now.items.ok.0) in
    let v = c.replace-last.ensures.value in
    let is : q ≡ get_or xs (length xs - 1) q = v ∙ (c.index_mut.ensures.value ∙ (ap (λ z. get_or xs (c.len-at.result - 1) z) (sym v) ∙ ap (λ z. get_or xs z q) n)) in
    let lt : at + 1 ≡ length xs = omega (arith, n, c.requires.some) in
    few-last c.args.self.now _ q c.args.item c.args.measure c.requires.some is (set-last xs at c.replace-last.new.dest lt ∙ ap (λ z. all_but_last xs ++ z ∷ []) c.replace-last.ensures.after) refl c.requires.few c.requires.counts c.requires.room
