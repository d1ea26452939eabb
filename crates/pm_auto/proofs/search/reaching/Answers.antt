use Rattle.std.proofs.Common.{◌≡◌, ◌∙◌, ◌⊎◌, ◌<◌, ◌≤◌, sym, ap, subst, length, List, Bool, false, true, [], get_or, arith, inl, inr}
use Rattle.pm_auto.specs.Near.{wider, Keeps, All_reach}
use Rattle.pm_auto.proofs.SearchLaws.{fewer, falses, length-wider}
use Rattle.pm_auto.proofs.ReachLaws.{closed-reaches, keeps-fewer, wider-keeps, wider-reaches}
use Rattle.pm_auto.proofs.search.reaching.Goals as goal

smaller : (a b : List Bool) → (a ≡ b → ⊥) → (a ≡ b) ⊎ (falses a < falses b) → falses a < falses b
smaller a b n (inl e) = absurd (n e)
smaller a b n (inr l) = l

pub rounds-init : goal.rounds-init
rounds-init c =
    let e : c.into_vec-last.result.items ≡ c.args.goals.now = c.into_vec-last.ensures ∙ c.in_ok-copied.ensures in
    record {
      full = ap length e ∙ c.requires.goals;
      keeps = λ s h. ap (λ (m : List Bool). get_or m s false) e ∙ h;
      reach = λ s l h. ([], sym (ap (λ (m : List Bool). get_or m s false) e) ∙ h);
    }

pub rounds-preserved : goal.rounds-preserved
rounds-preserved c =
    let links = c.args.links.now in
    let known = c.rounds.invariant in
    let m = c.back_and_forth.new.marks.items in
    let full : length m ≡ length links = c.back_and_forth.ensures.size ∙ known.full in
    let e : c.into_vec-last-in-rounds.result.items ≡ wider m links m = c.into_vec-last-in-rounds.ensures ∙ c.in_ok-next.ensures ∙ ap (λ (x : List Bool). wider x links x) c.as_slice.ensures.value in
    record {
      full = ap length e ∙ length-wider m links m;
      keeps = λ s h. ap (λ (x : List Bool). get_or x s false) e ∙ wider-keeps m links full s (c.back_and_forth.ensures.keeps s (known.keeps s h));
      reach = subst (All_reach links c.args.goals.now) (sym e)
          (wider-reaches links c.args.goals.now c.requires.graph m (c.back_and_forth.ensures.reach c.args.goals.now c.requires.graph known.reach));
    }

pub rounds-smaller : goal.rounds-smaller
rounds-smaller c =
    let links = c.args.links.now in
    let known = c.rounds.invariant in
    let m = c.back_and_forth.new.marks.items in
    let full : length m ≡ length links = c.back_and_forth.ensures.size ∙ known.full in
    let next : c.in_ok-next.next ≡ wider m links m = c.in_ok-next.ensures ∙ ap (λ (x : List Bool). wider x links x) c.as_slice.ensures.value in
    let other : c.in_ok-next.next ≡ m → ⊥ = λ q. c.same_marks.ensures.different c.if-same_marks.false (c.as_slice-in-rounds.ensures ∙ q ∙ sym c.as_slice-in-rounds-2.ensures.value) in
    let less : falses c.in_ok-next.next < falses m = smaller c.in_ok-next.next m other (subst (λ (x : List Bool). (x ≡ m) ⊎ (falses x < falses m)) (sym next) (fewer m links m full)) in
    let few : falses m ≤ falses c.rounds.last.items = keeps-fewer c.rounds.last.items m c.back_and_forth.ensures.size c.back_and_forth.ensures.keeps in
    subst (λ (x : List Bool). falses x < falses c.rounds.last.items) (sym c.into_vec-last-in-rounds.ensures) (omega (arith, less, few))

pub returns-then-same_marks-clause-full : goal.returns-then-same_marks-clause-full
returns-then-same_marks-clause-full c =
    let m = c.as_slice.result.now in
    ap length c.in_ok-next.ensures ∙ length-wider m c.args.links.now m

pub returns-then-same_marks-clause-reach : goal.returns-then-same_marks-clause-reach
returns-then-same_marks-clause-reach c =
    let links = c.args.links.now in
    let known = c.rounds.invariant in
    let m = c.back_and_forth.new.marks.items in
    let next : c.in_ok-next.next ≡ wider m links m = c.in_ok-next.ensures ∙ ap (λ (x : List Bool). wider x links x) c.as_slice.ensures.value in
    let same : c.in_ok-next.next ≡ m = sym c.as_slice-in-rounds.ensures ∙ c.same_marks.ensures.equal c.if-same_marks.true ∙ c.as_slice-in-rounds-2.ensures.value in
    closed-reaches links c.args.goals.now c.requires.graph m c.in_ok-next.next next same
    (λ s h. c.back_and_forth.ensures.keeps s (known.keeps s h)) (c.back_and_forth.ensures.reach c.args.goals.now c.requires.graph known.reach)
